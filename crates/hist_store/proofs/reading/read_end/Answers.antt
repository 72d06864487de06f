use Rattle.std.proofs.Common.{◌≡◌, Some, sym, ap, ◌∙◌, true≢false, subst}
use Rattle.std.proofs.lemmas.Option.{none-some}
use Rattle.savi_kinds.specs.declared.entry.Act.TheVariants as acts
use Rattle.savi_kinds.specs.declared.entry.Who.{Who}
use Rattle.savi_kinds.specs.declared.entry.How.{How}
use Rattle.hist_store.specs.EndTexts.{how_fields, IsReasonOf}
use Rattle.hist_store.proofs.EntryRead.{end_said, entry_same}
use Rattle.hist_store.proofs.reading.read_end.Goals as goal

pub returns-in_err-who-clause-whole : goal.returns-in_err-who-clause-whole
returns-in_err-who-clause-whole c = rw c.from_residual.ensures (λ row says.
    let s = end_said c.args.text.now c.args.by c.args.moment row says in
    let n = says.numbers in
    absurd (c.in_err-who.ensures.whole s.who (how_fields s.how) s.text_is))

pub returns-in_err-how-clause-whole : goal.returns-in_err-how-clause-whole
returns-in_err-how-clause-whole c = rw c.from_residual-in_err-how.ensures (λ row says.
    let s = end_said c.args.text.now c.args.by c.args.moment row says in
    let n = says.numbers in
    let who = c.in_ok-who.ensures.whole s.who (how_fields s.how) s.text_is in
    absurd (none-some s.how (c.in_err-how.ensures.whole s.how s.range who.1)))

pub returns-then-is_reason_of-clause-whole : goal.returns-then-is_reason_of-clause-whole
returns-then-is_reason_of-clause-whole c = λ row says.
    let s = end_said c.args.text.now c.args.by c.args.moment row says in
    let n = says.numbers in
    let who = c.in_ok-who.ensures.whole s.who (how_fields s.how) s.text_is in
    let how = c.in_ok-how.ensures.whole s.how s.range who.1 in
    let reason : c.in_ok-how.how ≡ s.how = cc how in
    let act : acts.End c.in_ok-who.who c.in_ok-how.how ≡ acts.End s.who s.how = cc (who.0, reason) in
    (ap Some (c.entry_of.ensures ∙ entry_same _ row.entry (sym says.by_is) (sym says.moment_is) (act ∙ sym s.act_is) (sym s.verdict_is) (sym s.outs_is) (sym s.cuts_is) (sym s.probes_is) (sym s.lost_is)), sym s.none)

pub returns-else-is_reason_of-clause-whole : goal.returns-else-is_reason_of-clause-whole
returns-else-is_reason_of-clause-whole c = λ row says.
    let s = end_said c.args.text.now c.args.by c.args.moment row says in
    let n = says.numbers in
    let who = c.in_ok-who.ensures.whole s.who (how_fields s.how) s.text_is in
    let how = c.in_ok-how.ensures.whole s.how s.range who.1 in
    let reason : s.how ≡ c.in_ok-how.how = cc how in
    let may = subst (λ (h : How). IsReasonOf c.in_ok-who.who h) reason (subst (λ (w : Who). IsReasonOf w s.how) (sym who.0) s.reason) in
    absurd (true≢false (sym (c.if-is_reason_of.ensures.1 may)))
