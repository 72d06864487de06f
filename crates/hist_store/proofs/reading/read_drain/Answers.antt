use Rattle.std.proofs.Common.{◌≡◌, [], ◌∷◌, decimal, Some, sym, ap, ◌∙◌}
use Rattle.savi_kinds.specs.declared.entry.Act.TheVariants as acts
use Rattle.hist_store.proofs.EndRead.{none_left}
use Rattle.hist_store.proofs.EntryRead.{drain_said, entry_same}
use Rattle.hist_store.proofs.reading.read_drain.Goals as goal

pub returns-in_err-port-clause-whole : goal.returns-in_err-port-clause-whole
returns-in_err-port-clause-whole c = rw c.from_residual.ensures (λ row says.
    let s = drain_said c.args.text.now c.args.by c.args.moment row says in
    let n = says.numbers in
    absurd (c.in_err-port.ensures.whole s.port (decimal s.count ∷ []) s.text_is))

pub returns-in_err-count-clause-whole : goal.returns-in_err-count-clause-whole
returns-in_err-count-clause-whole c = rw c.from_residual-in_err-count.ensures (λ row says.
    let s = drain_said c.args.text.now c.args.by c.args.moment row says in
    let n = says.numbers in
    let port = c.in_ok-port.ensures.whole s.port (decimal s.count ∷ []) s.text_is in
    absurd (c.in_err-count.ensures.whole s.count [] s.few port.1))

pub returns-then-is_empty-clause-whole : goal.returns-then-is_empty-clause-whole
returns-then-is_empty-clause-whole c = λ row says.
    let s = drain_said c.args.text.now c.args.by c.args.moment row says in
    let n = says.numbers in
    let port = c.in_ok-port.ensures.whole s.port (decimal s.count ∷ []) s.text_is in
    let count = c.in_ok-count.ensures.whole s.count [] s.few port.1 in
    let act : acts.Drain c.in_ok-port.port c.in_ok-count.count ≡ acts.Drain s.port s.count = cc (port.0, count.0) in
    (ap Some (c.entry_of.ensures ∙ entry_same _ row.entry (sym says.by_is) (sym says.moment_is) (act ∙ sym s.act_is) (sym s.verdict_is) (sym s.outs_is) (sym s.cuts_is) (sym s.probes_is) (sym s.lost_is)), sym s.none)

pub returns-else-is_empty-clause-whole : goal.returns-else-is_empty-clause-whole
returns-else-is_empty-clause-whole c = λ row says.
    let s = drain_said c.args.text.now c.args.by c.args.moment row says in
    let n = says.numbers in
    let port = c.in_ok-port.ensures.whole s.port (decimal s.count ∷ []) s.text_is in
    let count = c.in_ok-count.ensures.whole s.count [] s.few port.1 in
    absurd (none_left _ c.is_empty.result count.1 c.is_empty.ensures c.if-is_empty.false)
