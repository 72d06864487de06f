use Rattle.std.proofs.Common.{◌≡◌, ℕ, Bool, true, false, T, eqb, ap, refl, sym, ◌∙◌, subst}
use lib.Dec.{eqb→eq}
use lib.Ieee.Fits.{eq→eqb}
use Rattle.savi_kinds.specs.declared.port.Port.{Port}
use Rattle.savi_kinds.specs.declared.verdict.Scope.{Scope}
use Rattle.savi_kinds.specs.declared.verdict.Scope.TheVariants.{All, TrustedOnly, TrustedAnd}
use Rattle.savi_kinds.proofs.PortNumbers.{port_same}
use Rattle.journal_check.proofs.turns.is_same_scope.Goals as goal

is_true : (t : Bool) → T t → t ≡ true
is_true true holds = refl
is_true false holds = absurd holds

-- the number of the port of a scope, if it has one
abbrev number : Scope → ℕ
number All = 0
number TrustedOnly = 0
number (TrustedAnd port) = port.number

number_equal : (p q : Port) → TrustedAnd p ≡ TrustedAnd q → eqb p.number q.number ≡ true
number_equal p q same = is_true (eqb p.number q.number) (eq→eqb (ap number same))

pub returns-in-TrustedAnd-TrustedAnd : goal.returns-in-TrustedAnd-TrustedAnd
returns-in-TrustedAnd-TrustedAnd c =
    let in_both = c.in-TrustedAnd-TrustedAnd in
    let test = c.eq.ensures in (
      λ is. in_both.is-0 ∙ ap TrustedAnd (port_same in_both.want in_both.have (eqb→eq in_both.want.number in_both.have.number (subst T (sym (sym test ∙ is)) tt))) ∙ sym in_both.is-1,
      λ same. test ∙ number_equal in_both.want in_both.have (sym in_both.is-0 ∙ same ∙ in_both.is-1),
    )
