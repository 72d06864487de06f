-- The answer on a whole text, and what follows from it.
use Rattle.std.proofs.Common.{◌≡◌, ◌^◌, ℕ, List, Option, Some, None, IfSome, sym, subst, inl, inr}
use Rattle.journal_check.specs.declared.answer.Checked.{Checked}
use Rattle.journal_check.specs.declared.answer.Checked.TheVariants.{Good, Wrong, BadLine, Failed, NoMemory}
use Rattle.journal_check.specs.Seen.{seen}
use Rattle.journal_check.specs.Pieces.{seen_if_told}
use Rattle.journal_check.specs.Answers.{IfRead, IsBadHeader, IsAnswerBehind, IsAnswer}
use Rattle.journal_check.specs.Laws.{HasOneAnswer, IsFinishedJournal}
use Rattle.journal_check.proofs.GoodJournals.{good_is_journal, journal_is_good}

some_weaker : (P Q : List ℕ → Type 0) (o : Option (List ℕ)) → ((octets : List ℕ) → P octets → Q octets) → IfSome o P → IfSome o Q
some_weaker P Q None weaker is = tt
some_weaker P Q (Some octets) weaker is = weaker octets is

if_weaker : (P Q : List ℕ → Type 0) (a : Checked) (o : Option (List ℕ)) → ((octets : List ℕ) → P octets → Q octets) → IfRead a (IfSome o P) → IfRead a (IfSome o Q)
if_weaker P Q (Good entries) o weaker is = some_weaker P Q o weaker is
if_weaker P Q (Wrong entry want have) o weaker is = some_weaker P Q o weaker is
if_weaker P Q (BadLine n) o weaker is = some_weaker P Q o weaker is
if_weaker P Q Failed o weaker is = tt
if_weaker P Q NoMemory o weaker is = tt

-- what holds of all that is seen holds of it in the whole
of_seen : (P : List ℕ → Type 0) (left : Option (List ℕ)) → IfSome (seen_if_told (2 ^ 62) left) P → IfSome left (λ octets. P (seen octets))
of_seen P None is = tt
of_seen P (Some octets) is = is

of_all_seen : (P : List ℕ → Type 0) (a : Checked) (left : Option (List ℕ)) → IfRead a (IfSome (seen_if_told (2 ^ 62) left) P) → IfRead a (IfSome left (λ octets. P (seen octets)))
of_all_seen P (Good entries) left is = of_seen P left is
of_all_seen P (Wrong entry want have) left is = of_seen P left is
of_all_seen P (BadLine n) left is = of_seen P left is
of_all_seen P Failed left is = tt
of_all_seen P NoMemory left is = tt

pub answer_behind : (a : Checked) (left whole : Option (List ℕ)) → seen_if_told (2 ^ 62) left ≡ whole → IfRead a (IfSome whole (λ octets. IsAnswerBehind octets a)) → IfRead a (IfSome left (λ octets. IsAnswer octets a))
answer_behind a left whole same is =
    if_weaker (λ octets. IsAnswerBehind (seen octets) a) (λ octets. IsAnswer octets a) a left (λ octets x. inr x)
    (of_all_seen (λ octets. IsAnswerBehind octets a) a left (subst (λ (o : Option (List ℕ)). IfRead a (IfSome o (λ octets. IsAnswerBehind octets a))) (sym same) is))

pub answer_bad : (a : Checked) (left whole : Option (List ℕ)) → seen_if_told (2 ^ 62) left ≡ whole → IfRead a (IfSome whole (λ octets. IsBadHeader octets a)) → IfRead a (IfSome left (λ octets. IsAnswer octets a))
answer_bad a left whole same is =
    if_weaker (λ octets. IsBadHeader (seen octets) a) (λ octets. IsAnswer octets a) a left (λ octets x. inl x)
    (of_all_seen (λ octets. IsBadHeader octets a) a left (subst (λ (o : Option (List ℕ)). IfRead a (IfSome o (λ octets. IsBadHeader octets a))) (sym same) is))

pub answer_only : HasOneAnswer → (a : Checked) (left : Option (List ℕ)) → IfRead a (IfSome left (λ octets. IsAnswer octets a)) → IfRead a (IfSome left (λ octets. (answer : Checked) → IsAnswer octets answer → a ≡ answer))
answer_only once a left is =
    if_weaker (λ octets. IsAnswer octets a) (λ octets. (answer : Checked) → IsAnswer octets answer → a ≡ answer) a left (λ octets x answer y. once octets a answer x y) is

pub answer_good : (a : Checked) (left : Option (List ℕ)) (entries : ℕ) → IfRead a (IfSome left (λ octets. IsAnswer octets a)) → a ≡ Good entries → IfSome left (λ octets. IsFinishedJournal octets entries)
answer_good a left entries is good =
    some_weaker (λ octets. IsAnswer octets (Good entries)) (λ octets. IsFinishedJournal octets entries) left (λ octets x. good_is_journal octets entries x)
    (subst (λ (b : Checked). IfRead b (IfSome left (λ octets. IsAnswer octets b))) good is)

pub answer_journal : HasOneAnswer → (a : Checked) (left : Option (List ℕ)) (entries : ℕ) → IfRead a (IfSome left (λ octets. IsAnswer octets a)) → IfRead a (IfSome left (λ octets. IsFinishedJournal octets entries → a ≡ Good entries))
answer_journal once a left entries is =
    if_weaker (λ octets. IsAnswer octets a) (λ octets. IsFinishedJournal octets entries → a ≡ Good entries) a left
    (λ octets x journal. once octets a (Good entries) x (journal_is_good octets entries journal)) is
