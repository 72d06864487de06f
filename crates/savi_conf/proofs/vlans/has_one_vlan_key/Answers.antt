use Rattle.std.proofs.Common.{ℤ, ◌≡◌, Bool, true, false, IsTrue, Option, Some, None, not, is_some, refl, sym, ap, ◌∙◌}
use Rattle.std.proofs.lemmas.Bool.{false≢true, true≢false}
use Rattle.std.proofs.lemmas.Option.{none-some}
use Rattle.savi_conf.proofs.vlans.has_one_vlan_key.Goals as goal

-- whether an option holds nothing
no_number : (told at : Option ℤ) (none : Bool) → told ≡ at → is_some told ≡ not none → IsTrue none → at ≡ None
no_number None at none same is holds = sym same
no_number (Some z) at none same is holds = absurd (true≢false (is ∙ ap not holds))

is_no_number : (told at : Option ℤ) (none : Bool) → told ≡ at → is_some told ≡ not none → at ≡ None → IsTrue none
is_no_number None at true same is nothing = refl
is_no_number None at false same is nothing = absurd (false≢true is)
is_no_number (Some z) at none same is nothing = absurd (none-some z (sym (same ∙ nothing)))

pub returns-then-not-is_trunk : goal.returns-then-not-is_trunk
returns-then-not-is_trunk c = (λ _. record { alone = λ trunk. absurd (true≢false (sym (c.is_trunk.ensures.1 trunk) ∙ c.if-not-is_trunk.true)) }, λ _. cc)

pub returns-else-not-is_trunk : goal.returns-else-not-is_trunk
returns-else-not-is_trunk c = (
  λ yes. record { alone = λ trunk. no_number c.integer_at.result _ c.is_none.result c.integer_at.ensures c.is_none.ensures yes },
  λ one. is_no_number c.integer_at.result _ c.is_none.result c.integer_at.ensures c.is_none.ensures (one.alone (c.is_trunk.ensures.0 c.if-not-is_trunk.false)),
)
