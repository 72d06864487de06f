use Rattle.std.proofs.Common.{◌≡◌, [], ◌∷◌, length, decimal, Some, sym, ap, ◌∙◌, arith}
use Rattle.std.proofs.lemmas.Option.{none-some}
use Rattle.savi_kinds.specs.declared.entry.Act.TheVariants as acts
use Rattle.hist_store.specs.LineTexts.{hex_text}
use Rattle.hist_store.proofs.EntryRead.{command_said, entry_same, pair_parts}
use Rattle.hist_store.proofs.reading.read_command.Goals as goal

pub returns-in_err-stamp-clause-whole : goal.returns-in_err-stamp-clause-whole
returns-in_err-stamp-clause-whole c = rw c.from_residual.ensures (λ row says.
    let s = command_said c.args.text.now c.args.by c.args.moment row says in
    let n = says.numbers in
    absurd (c.in_err-stamp.ensures.whole s.stamp (hex_text row.octets ∷ decimal row.entry.probes ∷ decimal row.entry.lost ∷ []) s.small s.text_is))

pub returns-in_err-rest-clause-whole : goal.returns-in_err-rest-clause-whole
returns-in_err-rest-clause-whole c = rw c.from_residual-in_err-rest.ensures (λ row says.
    let s = command_said c.args.text.now c.args.by c.args.moment row says in
    let n = says.numbers in
    let stamp = c.in_ok-stamp.ensures.whole s.stamp (hex_text row.octets ∷ decimal row.entry.probes ∷ decimal row.entry.lost ∷ []) s.small s.text_is in
    absurd ((c.in_err-rest.ensures.whole row.octets (decimal row.entry.probes ∷ decimal row.entry.lost ∷ []) says.octets (omega (arith, s.size, s.short)) stamp.1).0))

pub returns-in_err-probes-clause-whole : goal.returns-in_err-probes-clause-whole
returns-in_err-probes-clause-whole c = rw c.from_residual-in_err-probes.ensures (λ row says.
    let s = command_said c.args.text.now c.args.by c.args.moment row says in
    let n = says.numbers in
    let stamp = c.in_ok-stamp.ensures.whole s.stamp (hex_text row.octets ∷ decimal row.entry.probes ∷ decimal row.entry.lost ∷ []) s.small s.text_is in
    let hex = c.in_ok-rest.ensures.whole row.octets (decimal row.entry.probes ∷ decimal row.entry.lost ∷ []) says.octets (omega (arith, s.size, s.short)) stamp.1 in
    absurd (none-some (row.entry.probes, row.entry.lost) (c.in_err-probes.ensures.whole row.entry.probes row.entry.lost n.probes n.lost hex.0)))

pub returns-clause-whole : goal.returns-clause-whole
returns-clause-whole c = λ row says.
    let s = command_said c.args.text.now c.args.by c.args.moment row says in
    let n = says.numbers in
    let stamp = c.in_ok-stamp.ensures.whole s.stamp (hex_text row.octets ∷ decimal row.entry.probes ∷ decimal row.entry.lost ∷ []) s.small s.text_is in
    let hex = c.in_ok-rest.ensures.whole row.octets (decimal row.entry.probes ∷ decimal row.entry.lost ∷ []) says.octets (omega (arith, s.size, s.short)) stamp.1 in
    let probes = c.in_ok-probes.ensures.whole row.entry.probes row.entry.lost n.probes n.lost hex.0 in
    let pair = pair_parts _ _ _ _ probes in
    let len : c.len-len.result ≡ s.len = c.len-len.ensures.value ∙ ap length hex.1 ∙ s.size in
    let act : acts.Command c.in_ok-stamp.stamp 0 c.len-len.result ≡ acts.Command s.stamp 0 s.len = cc (stamp.0, len) in
    (ap Some (c.entry_of.ensures ∙ entry_same _ row.entry (sym says.by_is) (sym says.moment_is) (act ∙ sym s.act_is) (sym s.verdict_is) (sym s.outs_is) (sym s.cuts_is) pair.0 pair.1), hex.1)
