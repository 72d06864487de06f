use Rattle.std.proofs.Common.{◌≡◌, [], ◌∷◌, length, decimal, Some, sym, ap, ◌∙◌, arith}
use Rattle.std.proofs.lemmas.Option.{none-some}
use Rattle.savi_kinds.specs.declared.entry.Act.TheVariants as acts
use Rattle.hist_store.specs.PortTexts.{members_text}
use Rattle.hist_store.specs.VerdictTexts.{verdict_text}
use Rattle.hist_store.specs.LineTexts.{hex_text}
use Rattle.hist_store.proofs.EntryRead.{frame_said, entry_same, pair_parts}
use Rattle.hist_store.proofs.reading.read_frame.Goals as goal

pub returns-in_err-port-clause-whole : goal.returns-in_err-port-clause-whole
returns-in_err-port-clause-whole c = rw c.from_residual.ensures (λ row says.
    let s = frame_said c.args.text.now c.args.by c.args.moment row says in
    let n = says.numbers in
    absurd (c.in_err-port.ensures.whole s.port s.stamp (hex_text row.octets ∷ verdict_text s.verdict ∷ members_text row.entry.outs ∷ members_text row.entry.cuts ∷ decimal row.entry.probes ∷ decimal row.entry.lost ∷ []) s.small s.text_is))

pub returns-in_err-rest-clause-whole : goal.returns-in_err-rest-clause-whole
returns-in_err-rest-clause-whole c = rw c.from_residual-in_err-rest.ensures (λ row says.
    let s = frame_said c.args.text.now c.args.by c.args.moment row says in
    let n = says.numbers in
    let input = c.in_ok-port.ensures.whole s.port s.stamp (hex_text row.octets ∷ verdict_text s.verdict ∷ members_text row.entry.outs ∷ members_text row.entry.cuts ∷ decimal row.entry.probes ∷ decimal row.entry.lost ∷ []) s.small s.text_is in
    absurd ((c.in_err-rest.ensures.whole row.octets (verdict_text s.verdict ∷ members_text row.entry.outs ∷ members_text row.entry.cuts ∷ decimal row.entry.probes ∷ decimal row.entry.lost ∷ []) says.octets (omega (arith, s.size, s.short)) input.2).0))

pub returns-in_err-verdict-clause-whole : goal.returns-in_err-verdict-clause-whole
returns-in_err-verdict-clause-whole c = rw c.from_residual-in_err-verdict.ensures (λ row says.
    let s = frame_said c.args.text.now c.args.by c.args.moment row says in
    let n = says.numbers in
    let input = c.in_ok-port.ensures.whole s.port s.stamp (hex_text row.octets ∷ verdict_text s.verdict ∷ members_text row.entry.outs ∷ members_text row.entry.cuts ∷ decimal row.entry.probes ∷ decimal row.entry.lost ∷ []) s.small s.text_is in
    let hex = c.in_ok-rest.ensures.whole row.octets (verdict_text s.verdict ∷ members_text row.entry.outs ∷ members_text row.entry.cuts ∷ decimal row.entry.probes ∷ decimal row.entry.lost ∷ []) says.octets (omega (arith, s.size, s.short)) input.2 in
    absurd (c.in_err-verdict.ensures.whole s.verdict (members_text row.entry.outs ∷ members_text row.entry.cuts ∷ decimal row.entry.probes ∷ decimal row.entry.lost ∷ []) hex.0))

pub returns-in_err-outs-clause-whole : goal.returns-in_err-outs-clause-whole
returns-in_err-outs-clause-whole c = rw c.from_residual-in_err-outs.ensures (λ row says.
    let s = frame_said c.args.text.now c.args.by c.args.moment row says in
    let n = says.numbers in
    let input = c.in_ok-port.ensures.whole s.port s.stamp (hex_text row.octets ∷ verdict_text s.verdict ∷ members_text row.entry.outs ∷ members_text row.entry.cuts ∷ decimal row.entry.probes ∷ decimal row.entry.lost ∷ []) s.small s.text_is in
    let hex = c.in_ok-rest.ensures.whole row.octets (verdict_text s.verdict ∷ members_text row.entry.outs ∷ members_text row.entry.cuts ∷ decimal row.entry.probes ∷ decimal row.entry.lost ∷ []) says.octets (omega (arith, s.size, s.short)) input.2 in
    let verdict = c.in_ok-verdict.ensures.whole s.verdict (members_text row.entry.outs ∷ members_text row.entry.cuts ∷ decimal row.entry.probes ∷ decimal row.entry.lost ∷ []) hex.0 in
    absurd (c.in_err-outs.ensures.whole row.entry.outs row.entry.cuts (decimal row.entry.probes ∷ decimal row.entry.lost ∷ []) n.outs n.cuts verdict.1))

pub returns-in_err-probes-clause-whole : goal.returns-in_err-probes-clause-whole
returns-in_err-probes-clause-whole c = rw c.from_residual-in_err-probes.ensures (λ row says.
    let s = frame_said c.args.text.now c.args.by c.args.moment row says in
    let n = says.numbers in
    let input = c.in_ok-port.ensures.whole s.port s.stamp (hex_text row.octets ∷ verdict_text s.verdict ∷ members_text row.entry.outs ∷ members_text row.entry.cuts ∷ decimal row.entry.probes ∷ decimal row.entry.lost ∷ []) s.small s.text_is in
    let hex = c.in_ok-rest.ensures.whole row.octets (verdict_text s.verdict ∷ members_text row.entry.outs ∷ members_text row.entry.cuts ∷ decimal row.entry.probes ∷ decimal row.entry.lost ∷ []) says.octets (omega (arith, s.size, s.short)) input.2 in
    let verdict = c.in_ok-verdict.ensures.whole s.verdict (members_text row.entry.outs ∷ members_text row.entry.cuts ∷ decimal row.entry.probes ∷ decimal row.entry.lost ∷ []) hex.0 in
    let outs = c.in_ok-outs.ensures.whole row.entry.outs row.entry.cuts (decimal row.entry.probes ∷ decimal row.entry.lost ∷ []) n.outs n.cuts verdict.1 in
    absurd (none-some (row.entry.probes, row.entry.lost) (c.in_err-probes.ensures.whole row.entry.probes row.entry.lost n.probes n.lost outs.2)))

pub returns-clause-whole : goal.returns-clause-whole
returns-clause-whole c = λ row says.
    let s = frame_said c.args.text.now c.args.by c.args.moment row says in
    let n = says.numbers in
    let input = c.in_ok-port.ensures.whole s.port s.stamp (hex_text row.octets ∷ verdict_text s.verdict ∷ members_text row.entry.outs ∷ members_text row.entry.cuts ∷ decimal row.entry.probes ∷ decimal row.entry.lost ∷ []) s.small s.text_is in
    let hex = c.in_ok-rest.ensures.whole row.octets (verdict_text s.verdict ∷ members_text row.entry.outs ∷ members_text row.entry.cuts ∷ decimal row.entry.probes ∷ decimal row.entry.lost ∷ []) says.octets (omega (arith, s.size, s.short)) input.2 in
    let verdict = c.in_ok-verdict.ensures.whole s.verdict (members_text row.entry.outs ∷ members_text row.entry.cuts ∷ decimal row.entry.probes ∷ decimal row.entry.lost ∷ []) hex.0 in
    let outs = c.in_ok-outs.ensures.whole row.entry.outs row.entry.cuts (decimal row.entry.probes ∷ decimal row.entry.lost ∷ []) n.outs n.cuts verdict.1 in
    let probes = c.in_ok-probes.ensures.whole row.entry.probes row.entry.lost n.probes n.lost outs.2 in
    let pair = pair_parts _ _ _ _ probes in
    let len : c.len-len.result ≡ s.len = c.len-len.ensures.value ∙ ap length hex.1 ∙ s.size in
    let act : acts.Frame c.in_ok-port.port c.in_ok-port.stamp 0 c.len-len.result ≡ acts.Frame s.port s.stamp 0 s.len = cc (input.0, input.1, len) in
    (ap Some (entry_same _ row.entry (sym says.by_is) (sym says.moment_is) (act ∙ sym s.act_is) (ap Some verdict.0 ∙ sym s.verdict_is) outs.0 outs.1 pair.0 pair.1), hex.1)
