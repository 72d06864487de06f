use Rattle.std.proofs.Common.{[], ◌∷◌, decimal, Some, sym, ap, ◌∙◌}
use Rattle.std.proofs.lemmas.Option.{none-some}
use Rattle.savi_kinds.specs.declared.entry.Act.TheVariants as acts
use Rattle.hist_store.proofs.EntryRead.{tick_said, entry_same, pair_parts}
use Rattle.hist_store.proofs.reading.read_tick.Goals as goal

pub returns-in_err-stamp-clause-whole : goal.returns-in_err-stamp-clause-whole
returns-in_err-stamp-clause-whole c = rw c.from_residual.ensures (λ row says.
    let s = tick_said c.args.text.now c.args.by c.args.moment row says in
    let n = says.numbers in
    absurd (c.in_err-stamp.ensures.whole s.stamp (decimal row.entry.probes ∷ decimal row.entry.lost ∷ []) s.small s.text_is))

pub returns-in_err-probes-clause-whole : goal.returns-in_err-probes-clause-whole
returns-in_err-probes-clause-whole c = rw c.from_residual-in_err-probes.ensures (λ row says.
    let s = tick_said c.args.text.now c.args.by c.args.moment row says in
    let n = says.numbers in
    let stamp = c.in_ok-stamp.ensures.whole s.stamp (decimal row.entry.probes ∷ decimal row.entry.lost ∷ []) s.small s.text_is in
    absurd (none-some (row.entry.probes, row.entry.lost) (c.in_err-probes.ensures.whole row.entry.probes row.entry.lost n.probes n.lost stamp.1)))

pub returns-clause-whole : goal.returns-clause-whole
returns-clause-whole c = λ row says.
    let s = tick_said c.args.text.now c.args.by c.args.moment row says in
    let n = says.numbers in
    let stamp = c.in_ok-stamp.ensures.whole s.stamp (decimal row.entry.probes ∷ decimal row.entry.lost ∷ []) s.small s.text_is in
    let probes = c.in_ok-probes.ensures.whole row.entry.probes row.entry.lost n.probes n.lost stamp.1 in
    let pair = pair_parts _ _ _ _ probes in
    (ap Some (c.entry_of.ensures ∙ entry_same _ row.entry (sym says.by_is) (sym says.moment_is) (ap acts.Tick stamp.0 ∙ sym s.act_is) (sym s.verdict_is) (sym s.outs_is) (sym s.cuts_is) pair.0 pair.1), sym s.none)
