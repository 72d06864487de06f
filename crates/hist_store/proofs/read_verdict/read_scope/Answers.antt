use Rattle.std.proofs.Common.{refl, sym, ◌∙◌, true≢false}
use Rattle.std.proofs.lemmas.Option.{none-some}
use Rattle.hist_store.specs.PortTexts.{port_text}
use Rattle.hist_store.proofs.VerdictRead.{scope_all, scope_trusted, scope_rest}
use Rattle.hist_store.proofs.read_verdict.read_scope.Goals as goal

pub returns-then-is_word-clause-whole : goal.returns-then-is_word-clause-whole
returns-then-is_word-clause-whole c = λ scope is. scope_all scope (sym (c.if-is_word.ensures.0 refl) ∙ is)

pub returns-then-is_word-2-clause-whole : goal.returns-then-is_word-2-clause-whole
returns-then-is_word-2-clause-whole c = λ scope is. scope_trusted scope (sym (c.if-is_word-2.ensures.0 refl) ∙ is)

pub returns-in_err-port-clause-whole : goal.returns-in_err-port-clause-whole
returns-in_err-port-clause-whole c = rw c.from_residual.ensures (λ scope is.
    let parts = scope_rest scope c.args.text.now (λ e. true≢false (sym (c.if-is_word.ensures.1 e))) (λ e. true≢false (sym (c.if-is_word-2.ensures.1 e))) is in
    absurd (c.in_err-port.ensures.whole (port_text parts.0) parts.2))

pub returns-in_err-read_port-clause-whole : goal.returns-in_err-read_port-clause-whole
returns-in_err-read_port-clause-whole c = rw c.from_residual-in_err-read_port.ensures (λ scope is.
    let parts = scope_rest scope c.args.text.now (λ e. true≢false (sym (c.if-is_word.ensures.1 e))) (λ e. true≢false (sym (c.if-is_word-2.ensures.1 e))) is in
    absurd (none-some parts.0 (c.in_err-read_port.ensures.whole parts.0 (c.in_ok-port.ensures.whole (port_text parts.0) parts.2))))

pub returns-clause-whole : goal.returns-clause-whole
returns-clause-whole c = λ scope is.
    let parts = scope_rest scope c.args.text.now (λ e. true≢false (sym (c.if-is_word.ensures.1 e))) (λ e. true≢false (sym (c.if-is_word-2.ensures.1 e))) is in
    let same = c.in_ok-read_port.ensures.whole parts.0 (c.in_ok-port.ensures.whole (port_text parts.0) parts.2) in
    cc (same, parts.1)
