use Rattle.std.proofs.Common.{◌*◌, length, refl, sym, ◌∙◌, inl, inr, arith, drop, get_or}
use Rattle.std.proofs.lemmas.List.{take_rest}
use Rattle.std.proofs.lemmas.Bool.{false≢true, eqb-true, eqb-false, eq-eqb}
use Rattle.nd_read.proofs.OptionLists.{Continues, continues_more, continues_all, stops_short, stops_at}
use Rattle.nd_read.proofs.options.names_source.Goals as goal
use Rattle.nd_read.proofs.options.names_source.Goals.{then-len-eq0-via-then-len-eq0, then-len-eq0-via-else-len-eq0+then-rest-len, then-found, else-found}

pub returns-then-len-eq0 : goal.returns-then-len-eq0
returns-then-len-eq0 c = (
  refl,
  λ options are.
      elim c.then-len-eq0.branch [
        | then-len-eq0-via-then-len-eq0 w ↦ stops_at c.args.octets.now c.option.rest.now c.option.found c.option.invariant (omega arith) (inl (omega (arith, c.from-len.ensures))) options are
        | then-len-eq0-via-else-len-eq0+then-rest-len w ↦ stops_at c.args.octets.now c.option.rest.now c.option.found c.option.invariant (omega arith) (inr (omega (arith, c.from-len.ensures))) options are
      ],
)

pub option-preserved : goal.option-preserved
option-preserved c =
    let rest = c.option.rest.now in
    let units = c.from-len.ensures in
    let more = continues_more c.args.octets.now rest c.option.found c.if-found.found c.option.invariant (omega arith) (omega arith) (omega arith) in
    let known : Continues c.args.octets.now (drop (8 * get_or rest 1 0) rest) c.if-found.found =
    elim c.if-found.branch [
      | then-found w ↦ more (λ e. inl w.if-found.true) (λ h. w.found-is ∙ w.if-found.true)
      | else-found w ↦ more
          (λ e. inr (eqb-true (get_or rest 0 0) 1 (sym w.found-is ∙ e)))
          (λ h. elim h [ inl e ↦ absurd (false≢true (sym w.if-found.false ∙ e)) | inr e ↦ w.found-is ∙ eq-eqb (get_or rest 0 0) 1 e ])
    ] in
    rw (take_rest rest (8 * c.from-len.result), units) known

pub returns-then-is_empty : goal.returns-then-is_empty
returns-then-is_empty c =
    let all = continues_all c.args.octets.now c.option.rest.now c.option.found c.option.invariant (eqb-true (length c.option.rest.now) 0 (sym c.is_empty.ensures ∙ c.if-is_empty.true)) in
    (all.0, all.1, (all.3, all.2))

pub returns-else-is_empty : goal.returns-else-is_empty
returns-else-is_empty c = (
  refl,
  λ options are.
      let some = eqb-false (length c.option.rest.now) 0 (sym c.is_empty.ensures ∙ c.if-is_empty.false) in
      stops_short c.args.octets.now c.option.rest.now c.option.found c.option.invariant (omega arith) options are,
)
