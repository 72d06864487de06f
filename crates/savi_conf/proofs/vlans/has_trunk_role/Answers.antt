use Rattle.std.proofs.Common.{sym, ◌∙◌}
use Rattle.std.proofs.lemmas.Bool.{true≢false}
use Rattle.savi_conf.proofs.vlans.has_trunk_role.Goals as goal

pub returns-then-not-is_trunk : goal.returns-then-not-is_trunk
returns-then-not-is_trunk c = (λ _. record { trusted = λ trunk. absurd (true≢false (sym (c.is_trunk.ensures.1 trunk) ∙ c.if-not-is_trunk.true)) }, λ _. cc)

pub returns-else-not-is_trunk : goal.returns-else-not-is_trunk
returns-else-not-is_trunk c = (
  λ yes. record { trusted = λ trunk. c.is_trusted.ensures.0 yes },
  λ role. c.is_trusted.ensures.1 (role.trusted (c.is_trunk.ensures.0 c.if-not-is_trunk.false)),
)
