use Rattle.std.proofs.Common.{◌≡◌, [], ◌∷◌, decimal, Some, sym, ap, ◌∙◌}
use Rattle.std.proofs.lemmas.Option.{none-some}
use Rattle.savi_kinds.specs.declared.entry.Act.TheVariants as acts
use Rattle.hist_store.specs.VerdictTexts.{verdict_text}
use Rattle.hist_store.proofs.EntryRead.{long_said, entry_same, pair_parts}
use Rattle.hist_store.proofs.reading.read_long.Goals as goal

pub returns-in_err-port-clause-whole : goal.returns-in_err-port-clause-whole
returns-in_err-port-clause-whole c = rw c.from_residual.ensures (λ row says.
    let s = long_said c.args.text.now c.args.by c.args.moment row says in
    let n = says.numbers in
    absurd (c.in_err-port.ensures.whole s.port s.stamp (decimal s.len ∷ verdict_text s.verdict ∷ decimal row.entry.probes ∷ decimal row.entry.lost ∷ []) s.small s.text_is))

pub returns-in_err-len-clause-whole : goal.returns-in_err-len-clause-whole
returns-in_err-len-clause-whole c = rw c.from_residual-in_err-len.ensures (λ row says.
    let s = long_said c.args.text.now c.args.by c.args.moment row says in
    let n = says.numbers in
    let input = c.in_ok-port.ensures.whole s.port s.stamp (decimal s.len ∷ verdict_text s.verdict ∷ decimal row.entry.probes ∷ decimal row.entry.lost ∷ []) s.small s.text_is in
    absurd (c.in_err-len.ensures.whole s.len (verdict_text s.verdict ∷ decimal row.entry.probes ∷ decimal row.entry.lost ∷ []) s.few input.2))

pub returns-in_err-verdict-clause-whole : goal.returns-in_err-verdict-clause-whole
returns-in_err-verdict-clause-whole c = rw c.from_residual-in_err-verdict.ensures (λ row says.
    let s = long_said c.args.text.now c.args.by c.args.moment row says in
    let n = says.numbers in
    let input = c.in_ok-port.ensures.whole s.port s.stamp (decimal s.len ∷ verdict_text s.verdict ∷ decimal row.entry.probes ∷ decimal row.entry.lost ∷ []) s.small s.text_is in
    let len = c.in_ok-len.ensures.whole s.len (verdict_text s.verdict ∷ decimal row.entry.probes ∷ decimal row.entry.lost ∷ []) s.few input.2 in
    absurd (c.in_err-verdict.ensures.whole s.verdict (decimal row.entry.probes ∷ decimal row.entry.lost ∷ []) len.1))

pub returns-in_err-probes-clause-whole : goal.returns-in_err-probes-clause-whole
returns-in_err-probes-clause-whole c = rw c.from_residual-in_err-probes.ensures (λ row says.
    let s = long_said c.args.text.now c.args.by c.args.moment row says in
    let n = says.numbers in
    let input = c.in_ok-port.ensures.whole s.port s.stamp (decimal s.len ∷ verdict_text s.verdict ∷ decimal row.entry.probes ∷ decimal row.entry.lost ∷ []) s.small s.text_is in
    let len = c.in_ok-len.ensures.whole s.len (verdict_text s.verdict ∷ decimal row.entry.probes ∷ decimal row.entry.lost ∷ []) s.few input.2 in
    let verdict = c.in_ok-verdict.ensures.whole s.verdict (decimal row.entry.probes ∷ decimal row.entry.lost ∷ []) len.1 in
    absurd (none-some (row.entry.probes, row.entry.lost) (c.in_err-probes.ensures.whole row.entry.probes row.entry.lost n.probes n.lost verdict.1)))

pub returns-clause-whole : goal.returns-clause-whole
returns-clause-whole c = λ row says.
    let s = long_said c.args.text.now c.args.by c.args.moment row says in
    let n = says.numbers in
    let input = c.in_ok-port.ensures.whole s.port s.stamp (decimal s.len ∷ verdict_text s.verdict ∷ decimal row.entry.probes ∷ decimal row.entry.lost ∷ []) s.small s.text_is in
    let len = c.in_ok-len.ensures.whole s.len (verdict_text s.verdict ∷ decimal row.entry.probes ∷ decimal row.entry.lost ∷ []) s.few input.2 in
    let verdict = c.in_ok-verdict.ensures.whole s.verdict (decimal row.entry.probes ∷ decimal row.entry.lost ∷ []) len.1 in
    let probes = c.in_ok-probes.ensures.whole row.entry.probes row.entry.lost n.probes n.lost verdict.1 in
    let pair = pair_parts _ _ _ _ probes in
    let act : acts.Long c.in_ok-port.port c.in_ok-port.stamp c.in_ok-len.len ≡ acts.Long s.port s.stamp s.len = cc (input.0, input.1, len.0) in
    (ap Some (c.entry_of.ensures ∙ entry_same _ row.entry (sym says.by_is) (sym says.moment_is) (act ∙ sym s.act_is) (ap Some verdict.0 ∙ sym s.verdict_is) (sym s.outs_is) (sym s.cuts_is) pair.0 pair.1), sym s.none)
