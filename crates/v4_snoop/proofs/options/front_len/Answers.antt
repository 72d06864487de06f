use Rattle.std.proofs.Common.{◌≢◌, ◌+◌, ◌≤◌, List, ℕ, length, get_or, sym, ◌∙◌, ap, subst}
use Rattle.std.proofs.lemmas.List.{take_rest}
use Rattle.std.proofs.lemmas.Bool.{eqb-true, eqb-false}
use Rattle.v4_snoop.specs.DhcpOptions.{content_len}
use Rattle.v4_snoop.proofs.OptionRows.{pad_front, cut_front, option_front}
use Rattle.v4_snoop.proofs.options.front_len.Goals as goal

pub returns-then-has_code : goal.returns-then-has_code
returns-then-has_code c = pad_front c.args.rest.now c.requires.some (eqb-true (get_or c.args.rest.now 0 0) 0 (sym c.has_code.ensures ∙ c.if-has_code.true))

pub returns-in-Some : goal.returns-in-Some
returns-in-Some c =
    let no_pad : get_or c.args.rest.now 0 0 ≢ 0 = eqb-false (get_or c.args.rest.now 0 0) 0 (sym c.has_code.ensures ∙ c.if-has_code.false) in
    let P : List ℕ → Type 0 = λ behind. 1 + c.in-Some.len ≤ length behind in
    option_front c.args.rest.now c.in-Some.len c.requires.some c.requires.code no_pad
    (ap content_len (sym (take_rest c.args.rest.now 1)) ∙ sym c.in-Some.ensures.value) (subst P (take_rest c.args.rest.now 1) c.in-Some.ensures.within)

pub returns-in-None : goal.returns-in-None
returns-in-None c =
    let no_pad : get_or c.args.rest.now 0 0 ≢ 0 = eqb-false (get_or c.args.rest.now 0 0) 0 (sym c.has_code.ensures ∙ c.if-has_code.false) in
    cut_front c.args.rest.now c.requires.some c.requires.code no_pad (ap content_len (sym (take_rest c.args.rest.now 1)) ∙ sym c.in-None.ensures.value)
