use Rattle.std.proofs.Common.{true≢false, sym, ◌∙◌}
use Rattle.savi_kinds.proofs.AddrFound.{read_is, none_is}
use Rattle.savi_kinds.proofs.AddrGrammar.{no_dot, dots-any, any-dots, refused, taken}
use Rattle.savi_kinds.proofs.addr_text.read_addr.Goals as goal

pub returns-then-contains-clause-only : goal.returns-then-contains-clause-only
returns-then-contains-clause-only c = λ a h. true≢false (sym c.if-contains.true ∙ c.contains.ensures.value ∙ any-dots _ (no_dot _ a h))

pub returns-in_err-address-clause-only : goal.returns-in_err-address-clause-only
returns-in_err-address-clause-only c = rw c.from_residual.ensures (λ a h. refused _ c.parse_ascii.result c.ok.result c.ok.ensures.value c.in_err-address.was c.parse_ascii.ensures a h)

pub returns-clause-read : goal.returns-clause-read
returns-clause-read c = taken _ c.parse_ascii.result c.ok.result _ c.ok.ensures.value c.in_ok-address.was c.parse_ascii.ensures (dots-any _ (sym c.contains.ensures.value ∙ c.if-contains.false)) _ c.to_bits.ensures

pub returns-then-contains-clause-value : goal.returns-then-contains-clause-value
returns-then-contains-clause-value c = none_is _ (λ a h. true≢false (sym c.if-contains.true ∙ c.contains.ensures.value ∙ any-dots _ (no_dot _ a h)))

pub returns-in_err-address-clause-value : goal.returns-in_err-address-clause-value
returns-in_err-address-clause-value c = rw c.from_residual.ensures (none_is _ (λ a h. refused _ c.parse_ascii.result c.ok.result c.ok.ensures.value c.in_err-address.was c.parse_ascii.ensures a h))

pub returns-clause-value : goal.returns-clause-value
returns-clause-value c = read_is _ _ (taken _ c.parse_ascii.result c.ok.result _ c.ok.ensures.value c.in_ok-address.was c.parse_ascii.ensures (dots-any _ (sym c.contains.ensures.value ∙ c.if-contains.false)) _ c.to_bits.ensures)
