use Rattle.std.proofs.Common.{ℕ, List, arith, sym, ◌∙◌, ap, inl, inr}
use Rattle.std.proofs.lemmas.List.{take_rest}
use Rattle.byteorder.specs.Endian.{big_number}
use Rattle.ra_learn.proofs.Counting.{other_kind, other_units, off_link, too_short, too_long, not_usable, counted}
use Rattle.ra_learn.proofs.options.prefix_if_counts.Goals as goal
use Rattle.ra_learn.proofs.options.prefix_if_counts.Goals.{then-option-ne-PREFIX_OPTION-via-then-option-ne-PREFIX_OPTION, then-option-ne-PREFIX_OPTION-via-else-option-ne-PREFIX_OPTION+then-option-ne-PREFIX_UNITS}

pub returns-then-option-ne-PREFIX_OPTION-clause-value : goal.returns-then-option-ne-PREFIX_OPTION-clause-value
returns-then-option-ne-PREFIX_OPTION-clause-value c =
    elim c.then-option-ne-PREFIX_OPTION.branch [
      | then-option-ne-PREFIX_OPTION-via-then-option-ne-PREFIX_OPTION w ↦ other_kind c.args.option.now w.if-option-ne-PREFIX_OPTION.true
      | then-option-ne-PREFIX_OPTION-via-else-option-ne-PREFIX_OPTION+then-option-ne-PREFIX_UNITS w ↦ other_units c.args.option.now w.if-option-ne-PREFIX_OPTION.false w.if-option-ne-PREFIX_UNITS.true
    ]

pub returns-then-option-eq0-clause-value : goal.returns-then-option-eq0-clause-value
returns-then-option-eq0-clause-value c =
    elim c.then-option-eq0.either [
      | inl off ↦ off_link c.args.option.now off
      | inr other ↦ elim other [
        | inl short ↦ too_short c.args.option.now short.1
        | inr long ↦ too_long c.args.option.now long.2
      ]
    ]

pub returns-then-not-is_apart-clause-value : goal.returns-then-not-is_apart-clause-value
returns-then-not-is_apart-clause-value c =
    let octets : List ℕ = c.args.option.now in
    not_usable octets c.cleared.result c.read_u128-address.result (c.read_u128-address.ensures ∙ ap (big_number 16) (take_rest octets 16)) c.cleared.ensures (sym c.is_apart.ensures ∙ c.if-not-is_apart.true)

pub returns-clause-value : goal.returns-clause-value
returns-clause-value c =
    let octets : List ℕ = c.args.option.now in
    counted octets c.cleared.result c.read_u128-address.result (c.read_u128-address.ensures ∙ ap (big_number 16) (take_rest octets 16)) c.cleared.ensures c.read_u32-valid.result c.if-option-ne-PREFIX_OPTION.false c.if-option-ne-PREFIX_UNITS.false c.if-option-eq0.false (sym c.is_apart.ensures ∙ c.if-not-is_apart.false) (c.read_u32-valid.ensures ∙ ap (big_number 4) (take_rest octets 4))

pub returns-then-option-ne-PREFIX_OPTION-clause-long : goal.returns-then-option-ne-PREFIX_OPTION-clause-long
returns-then-option-ne-PREFIX_OPTION-clause-long c = tt

pub returns-then-option-eq0-clause-long : goal.returns-then-option-eq0-clause-long
returns-then-option-eq0-clause-long c = tt

pub returns-then-not-is_apart-clause-long : goal.returns-then-not-is_apart-clause-long
returns-then-not-is_apart-clause-long c = tt

pub bounds-option-2 : goal.bounds-option-2
bounds-option-2 c = omega (arith, c.requires.whole, c.if-option-ne-PREFIX_UNITS.false)

pub bounds-option-3 : goal.bounds-option-3
bounds-option-3 c = omega (arith, c.requires.whole, c.if-option-ne-PREFIX_UNITS.false)

pub slice_bounds-read_u128-end : goal.slice_bounds-read_u128-end
slice_bounds-read_u128-end c = omega (arith, c.requires.whole, c.if-option-ne-PREFIX_UNITS.false)

pub slice_bounds-read_u32-end : goal.slice_bounds-read_u32-end
slice_bounds-read_u32-end c = omega (arith, c.requires.whole, c.if-option-ne-PREFIX_UNITS.false)

pub returns-clause-long : goal.returns-clause-long
returns-clause-long c = omega (arith, c.requires.whole, c.if-option-ne-PREFIX_UNITS.false)

pub bounds-option-0 : goal.bounds-option-0
bounds-option-0 c = omega (arith, c.requires.least)

pub bounds-option-1 : goal.bounds-option-1
bounds-option-1 c = omega (arith, c.requires.least)

pub cleared-requires-clause-least : goal.cleared-requires-clause-least
cleared-requires-clause-least c = c.if-bits-lt1.false

pub cleared-requires-clause-most : goal.cleared-requires-clause-most
cleared-requires-clause-most c = c.if-bits-gt-ADDR_BITS.false

pub is_apart-requires-clause-least : goal.is_apart-requires-clause-least
is_apart-requires-clause-least c = c.if-bits-lt1.false

pub is_apart-requires-clause-most : goal.is_apart-requires-clause-most
is_apart-requires-clause-most c = c.if-bits-gt-ADDR_BITS.false
