-- What has the text of a rule, a scope or a verdict.
use Rattle.std.proofs.Common.{ℕ, ◌≡◌, ◌-◌, ◌<◌, ◌==◌, ◌&&◌, Bool, true, false, List, [], ◌∷◌, ◌++◌, get_or, codes, Option, Some, find, refl, sym, ap, ◌∙◌, arith}
use Rattle.savi_kinds.specs.declared.port.Port.{Port}
use Rattle.savi_kinds.specs.declared.verdict.Rule.{Rule}
use Rattle.savi_kinds.specs.declared.verdict.Rule.TheVariants as rules
use Rattle.savi_kinds.specs.declared.verdict.Scope.{Scope}
use Rattle.savi_kinds.specs.declared.verdict.Scope.TheVariants as scopes
use Rattle.savi_kinds.specs.declared.verdict.Verdict.{Verdict}
use Rattle.savi_kinds.specs.declared.verdict.Verdict.TheVariants.{Pass, Drop}
use Rattle.savi_kinds.specs.Rules.{rule_number}
use Rattle.hist_store.specs.PortTexts.{port_text}
use Rattle.hist_store.specs.VerdictTexts.{rule_name, scope_text, verdict_text}
use Rattle.hist_store.proofs.OnePort.{first_apart}

-- the rules in the order of their numbers
abbrev pub all_rules : List Rule
all_rules = rules.PortDown ∷ rules.Malformed ∷ rules.ReservedGroup ∷ rules.SourceMac ∷ rules.Tagged ∷ rules.BadIpv6 ∷ rules.HiddenUpper ∷ rules.UnknownNextHeader ∷ rules.RouterAdvert ∷ rules.FragmentedNd ∷ rules.BadNd ∷ rules.Redirect ∷ rules.DhcpServer ∷ rules.UnspecifiedSource ∷ rules.OffLink ∷ rules.NotAssigned ∷ rules.PortFull ∷ rules.WrongPort ∷ rules.Unverified ∷ rules.Contested ∷ rules.NaTarget ∷ rules.PendingFull ∷ rules.DhcpContested ∷ []

pub rule_place : (rule : Rule) → get_or all_rules (rule_number rule - 1) rules.PortDown ≡ rule
rule_place rules.PortDown = refl
rule_place rules.Malformed = refl
rule_place rules.ReservedGroup = refl
rule_place rules.SourceMac = refl
rule_place rules.Tagged = refl
rule_place rules.BadIpv6 = refl
rule_place rules.HiddenUpper = refl
rule_place rules.UnknownNextHeader = refl
rule_place rules.RouterAdvert = refl
rule_place rules.FragmentedNd = refl
rule_place rules.BadNd = refl
rule_place rules.Redirect = refl
rule_place rules.DhcpServer = refl
rule_place rules.UnspecifiedSource = refl
rule_place rules.OffLink = refl
rule_place rules.NotAssigned = refl
rule_place rules.PortFull = refl
rule_place rules.WrongPort = refl
rule_place rules.Unverified = refl
rule_place rules.Contested = refl
rule_place rules.NaTarget = refl
rule_place rules.PendingFull = refl
rule_place rules.DhcpContested = refl

pub rule_low : (rule : Rule) → rule_number rule - 1 < 23
rule_low rules.PortDown = omega arith
rule_low rules.Malformed = omega arith
rule_low rules.ReservedGroup = omega arith
rule_low rules.SourceMac = omega arith
rule_low rules.Tagged = omega arith
rule_low rules.BadIpv6 = omega arith
rule_low rules.HiddenUpper = omega arith
rule_low rules.UnknownNextHeader = omega arith
rule_low rules.RouterAdvert = omega arith
rule_low rules.FragmentedNd = omega arith
rule_low rules.BadNd = omega arith
rule_low rules.Redirect = omega arith
rule_low rules.DhcpServer = omega arith
rule_low rules.UnspecifiedSource = omega arith
rule_low rules.OffLink = omega arith
rule_low rules.NotAssigned = omega arith
rule_low rules.PortFull = omega arith
rule_low rules.WrongPort = omega arith
rule_low rules.Unverified = omega arith
rule_low rules.Contested = omega arith
rule_low rules.NaTarget = omega arith
rule_low rules.PendingFull = omega arith
rule_low rules.DhcpContested = omega arith

abbrev same_text : List ℕ → List ℕ → Bool
same_text [] [] = true
same_text [] (y ∷ ys) = false
same_text (x ∷ xs) [] = false
same_text (x ∷ xs) (y ∷ ys) = x == y && same_text xs ys

-- the rule of a name
abbrev rule_of : List ℕ → Option Rule
rule_of name = find (λ rule. same_text (rule_name rule) name) all_rules

rule_of-name : (rule : Rule) → rule_of (rule_name rule) ≡ Some rule
rule_of-name rules.PortDown = refl
rule_of-name rules.Malformed = refl
rule_of-name rules.ReservedGroup = refl
rule_of-name rules.SourceMac = refl
rule_of-name rules.Tagged = refl
rule_of-name rules.BadIpv6 = refl
rule_of-name rules.HiddenUpper = refl
rule_of-name rules.UnknownNextHeader = refl
rule_of-name rules.RouterAdvert = refl
rule_of-name rules.FragmentedNd = refl
rule_of-name rules.BadNd = refl
rule_of-name rules.Redirect = refl
rule_of-name rules.DhcpServer = refl
rule_of-name rules.UnspecifiedSource = refl
rule_of-name rules.OffLink = refl
rule_of-name rules.NotAssigned = refl
rule_of-name rules.PortFull = refl
rule_of-name rules.WrongPort = refl
rule_of-name rules.Unverified = refl
rule_of-name rules.Contested = refl
rule_of-name rules.NaTarget = refl
rule_of-name rules.PendingFull = refl
rule_of-name rules.DhcpContested = refl

pub rule_by_name : (a b : Rule) → rule_name a ≡ rule_name b → a ≡ b
rule_by_name a b same = let some : Some a ≡ Some b = sym (rule_of-name a) ∙ ap rule_of same ∙ rule_of-name b in cc some

pub scope_all : (scope : Scope) → codes "all" ≡ scope_text scope → Some scopes.All ≡ Some scope
scope_all scopes.All e = refl
scope_all scopes.TrustedOnly e = absurd (first_apart e refl)
scope_all (scopes.TrustedAnd port) e = absurd (first_apart e refl)

pub scope_trusted : (scope : Scope) → codes "trusted" ≡ scope_text scope → Some scopes.TrustedOnly ≡ Some scope
scope_trusted scopes.All e = absurd (first_apart e refl)
scope_trusted scopes.TrustedOnly e = refl
scope_trusted (scopes.TrustedAnd port) e = cc

pub scope_rest : (scope : Scope) (text : List ℕ) → (text ≡ codes "all" → ⊥) → (text ≡ codes "trusted" → ⊥) → text ≡ scope_text scope → (port : Port) × (scope ≡ scopes.TrustedAnd port) × (text ≡ codes "trusted+" ++ port_text port)
scope_rest scopes.All text all trusted is = absurd (all is)
scope_rest scopes.TrustedOnly text all trusted is = absurd (trusted is)
scope_rest (scopes.TrustedAnd port) text all trusted is = (port, refl, is)

-- behind a front
pub behind_same : (front a b : List ℕ) → front ++ a ≡ front ++ b → a ≡ b
behind_same [] a b e = e
behind_same (x ∷ front) a b e = let tails : front ++ a ≡ front ++ b = cc in behind_same front a b tails

pub passes : (verdict : Verdict) (rest : List ℕ) → codes "pass-" ++ rest ≡ verdict_text verdict → (scope : Scope) × (verdict ≡ Pass scope) × (rest ≡ scope_text scope)
passes (Pass scope) rest e = (scope, refl, behind_same (codes "pass-") rest (scope_text scope) e)
passes (Drop rule) rest e = absurd (first_apart e refl)

pub drops : (verdict : Verdict) (text : List ℕ) → ((scope : Scope) → text ≡ codes "pass-" ++ scope_text scope → ⊥) → text ≡ verdict_text verdict → (rule : Rule) × (verdict ≡ Drop rule) × (text ≡ codes "drop-" ++ rule_name rule)
drops (Pass scope) text none e = absurd (none scope e)
drops (Drop rule) text none e = (rule, refl, e)
