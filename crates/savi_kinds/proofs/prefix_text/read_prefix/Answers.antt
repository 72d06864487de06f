use Rattle.std.proofs.Common.{sym, ◌∙◌}
use Rattle.savi_kinds.proofs.PrefixGrammar.{no_slash, parts, from_parts, bits_past}
use Rattle.savi_kinds.proofs.prefix_text.read_prefix.Goals as goal

pub returns-in_err-slash-clause-only : goal.returns-in_err-slash-clause-only
returns-in_err-slash-clause-only c = rw c.from_residual.ensures (λ p h. no_slash _ p (sym c.slash_of.ensures ∙ c.in_err-slash.was) h)

pub returns-in_err-net-clause-only : goal.returns-in_err-net-clause-only
returns-in_err-net-clause-only c =
    rw c.from_residual-in_err-net.ensures (λ p h. c.in_err-net.ensures.only p.net (parts _ p c.in_ok-slash.slash (sym c.slash_of.ensures ∙ c.in_ok-slash.was) h).0)

pub returns-in_err-len-clause-only : goal.returns-in_err-len-clause-only
returns-in_err-len-clause-only c =
    rw c.from_residual-in_err-len.ensures (λ p h. c.in_err-len.ensures.only p.len (parts _ p c.in_ok-slash.slash (sym c.slash_of.ensures ∙ c.in_ok-slash.was) h).1)

pub returns-then-net-len-ne0-clause-only : goal.returns-then-net-len-ne0-clause-only
returns-then-net-len-ne0-clause-only c = λ p h. bits_past _ p c.in_ok-slash.slash c.in_ok-net.net c.in_ok-len.len (sym c.slash_of.ensures ∙ c.in_ok-slash.was) c.in_ok-net.ensures.read c.in_ok-len.ensures.read c.if-net-len-ne0.true h

pub returns-clause-read : goal.returns-clause-read
returns-clause-read c = from_parts _ c.in_ok-slash.slash c.in_ok-net.net c.in_ok-len.len (sym c.slash_of.ensures ∙ c.in_ok-slash.was) c.in_ok-net.ensures.read c.in_ok-len.ensures.read c.if-net-len-ne0.false
