-- The rules in their order, and the first of those that have a property.
use Rattle.std.proofs.Common.{◌≡◌, ℕ, ◌+◌, ◌==◌, if◌then◌else◌, Option, Some, None, refl, sym, ap, ◌∙◌, subst, inl, inr, arith}
use Rattle.std.proofs.lemmas.Bool.{cases_lt}
use Rattle.savi_kinds.specs.declared.verdict.Rule.{Rule}
use Rattle.savi_kinds.specs.declared.verdict.Rule.TheVariants.{PortDown, Malformed, ReservedGroup, SourceMac, Tagged, BadIpv6, HiddenUpper, UnknownNextHeader, RouterAdvert, FragmentedNd, BadNd, Redirect, DhcpServer, UnspecifiedSource, OffLink, NotAssigned, PortFull, WrongPort, Unverified, Contested, NaTarget, PendingFull, DhcpContested}
use Rattle.savi_kinds.specs.Rules.{rule_number}
use Rattle.ra_guard.specs.Guard.{NoneBefore, IsFirst}

-- the rule with a number
abbrev rule_at : ℕ → Rule
rule_at n =
    if n == 1 then PortDown else (if n == 2 then Malformed else (if n == 3 then ReservedGroup else (if n == 4 then SourceMac else (if n == 5 then Tagged else (if n == 6 then BadIpv6 else (if n == 7 then HiddenUpper else (if n == 8 then UnknownNextHeader else (if n == 9 then RouterAdvert else (if n == 10 then FragmentedNd else (if n == 11 then BadNd else (if n == 12 then Redirect else (if n == 13 then DhcpServer else (if n == 14 then UnspecifiedSource else (if n == 15 then OffLink else (if n == 16 then NotAssigned else (if n == 17 then PortFull else (if n == 18 then WrongPort else (if n == 19 then Unverified else (if n == 20 then Contested else (if n == 21 then NaTarget else (if n == 22 then PendingFull else DhcpContested)))))))))))))))))))))

rule_at-number : (rule : Rule) → rule_at (rule_number rule) ≡ rule
rule_at-number PortDown = refl
rule_at-number Malformed = refl
rule_at-number ReservedGroup = refl
rule_at-number SourceMac = refl
rule_at-number Tagged = refl
rule_at-number BadIpv6 = refl
rule_at-number HiddenUpper = refl
rule_at-number UnknownNextHeader = refl
rule_at-number RouterAdvert = refl
rule_at-number FragmentedNd = refl
rule_at-number BadNd = refl
rule_at-number Redirect = refl
rule_at-number DhcpServer = refl
rule_at-number UnspecifiedSource = refl
rule_at-number OffLink = refl
rule_at-number NotAssigned = refl
rule_at-number PortFull = refl
rule_at-number WrongPort = refl
rule_at-number Unverified = refl
rule_at-number Contested = refl
rule_at-number NaTarget = refl
rule_at-number PendingFull = refl
rule_at-number DhcpContested = refl

-- a rule is known by its number
pub same_rule : (r s : Rule) → rule_number r ≡ rule_number s → r ≡ s
same_rule r s e = sym (rule_at-number r) ∙ ap rule_at e ∙ rule_at-number s

-- one rule is the first
pub one_first : (Has : Rule → Type 0) (a b : Option Rule) → IsFirst Has a → IsFirst Has b → a ≡ b
one_first Has None None p q = refl
one_first Has None (Some s) p q = absurd (p s q.0)
one_first Has (Some r) None p q = absurd (q r p.0)
one_first Has (Some r) (Some s) p q =
    elim (cases_lt (rule_number r) (rule_number s)) [
      | inl less ↦ absurd (q.1 r less p.0)
      | inr more ↦ elim (cases_lt (rule_number s) (rule_number r)) [
        | inl less ↦ absurd (p.1 s less q.0)
        | inr most ↦ let same : r ≡ s = same_rule r s (omega arith) in cc
      ]
    ]

-- one rule more that hasn't the property
pub none_more : (Has : Rule → Type 0) (rule : Rule) → NoneBefore Has (rule_number rule) → (Has rule → ⊥) → NoneBefore Has (rule_number rule + 1)
none_more Has rule before not = λ other less.
    elim (cases_lt (rule_number other) (rule_number rule)) [
      | inl lesser ↦ before other lesser
      | inr more ↦
          let same : rule ≡ other = same_rule rule other (omega (arith, less, more)) in
          let P : Rule → Type 0 = λ r. Has r → ⊥ in
          subst P same not
    ]
