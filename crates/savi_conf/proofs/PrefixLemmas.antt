-- A table tells one prefix at most, and a text is that of one at most.
use Rattle.std.proofs.Common.{◌≡◌, ◌↔◌, ℕ, List, Option, Some, None, IfSome, IfNone, IsSome, IsSomeAnd, IsTrue, codes, is_some, refl, subst}
use Rattle.std.proofs.lemmas.Bool.{false≢true}
use Rattle.savi_kinds.specs.declared.address.Prefix.{Prefix}
use Rattle.savi_kinds.specs.Prefixes.{AreApart}
use Rattle.savi_kinds.specs.PrefixText.{IsPrefixText}
use Rattle.savi_kinds.specs.ValidPlan.{IsPlanPrefix}
use Rattle.savi_kinds.proofs.PrefixGrammar.{one_prefix}
use Rattle.toml.specs.Data.{Members}
use Rattle.savi_conf.specs.Documents.{text_at}
use Rattle.savi_conf.specs.Requirements.{HasPrefix, TellsPlanPrefix, IsSomePrefix}

one_told : (text : Option (List ℕ)) (p q : Prefix) → IsSomeAnd text (λ t. IsPrefixText t p) → IsSomeAnd text (λ t. IsPrefixText t q) → p ≡ q
one_told None p q one other = absurd one
one_told (Some text) p q one other = one_prefix text p q one other

pub HasPrefix-one : (t : Members) (p q : Prefix) → HasPrefix t p → HasPrefix t q → p ≡ q
HasPrefix-one t p q one other = one_told (text_at (codes "prefix") t) p q one other

pub tells_one : (t : Members) (p : Prefix) → HasPrefix t p → IsPlanPrefix p → TellsPlanPrefix t
tells_one t p has host = record { each = λ q other. subst IsPlanPrefix (HasPrefix-one t p q has other) host }

pub apart_tables : (t u : Members) (p q : Prefix) → HasPrefix t p → HasPrefix u q → AreApart p q → (p' q' : Prefix) → HasPrefix t p' → HasPrefix u q' → AreApart p' q'
apart_tables t u p q has has' apart p' q' one other =
    let P : Prefix → Type 0 = λ x. AreApart x q' in
    let Q : Prefix → Type 0 = λ y. AreApart p y in
    subst P (HasPrefix-one t p p' has one) (subst Q (HasPrefix-one u q q' has' other) apart)

pub some_prefix : (text : List ℕ) (r : Option Prefix) → IfSome r (IsPrefixText text) → IfNone r ((p : Prefix) → ¬ IsPrefixText text p) → IsTrue (is_some r) ↔ IsSomePrefix text
some_prefix text None read only = (λ no. absurd (false≢true no), λ some. absurd (only some.prefix some.spelled))
some_prefix text (Some p) read only = (λ _. record { prefix = p; spelled = read }, λ _. refl)

some_told : (text : Option (List ℕ)) → IsSome text → IfSome text IsSomePrefix → (p : Prefix) × IsSomeAnd text (λ t. IsPrefixText t p)
some_told None some spelled = absurd (false≢true some)
some_told (Some text) some spelled = (spelled.prefix, spelled.spelled)

-- a table with a text that is some prefix's tells that prefix
pub told_prefix : (t : Members) → IsSome (text_at (codes "prefix") t) → IfSome (text_at (codes "prefix") t) IsSomePrefix → (p : Prefix) × HasPrefix t p
told_prefix t some spelled = some_told (text_at (codes "prefix") t) some spelled
