-- Whichever way a text is read, a watcher was given the entries in front of the rest.
use Rattle.std.proofs.Common.{◌≡◌, ◌^◌, ℕ, List, ◌∷◌, ◌++◌, Option, Some, None, IfSome, refl, ap, ◌∙◌, inl, inr, subst}
use Rattle.savi_kinds.specs.declared.plan.Plan.{Plan}
use Rattle.hist_store.specs.Rows.{Row}
use Rattle.hist_store.specs.declared.version.Version.{Version}
use Rattle.savi_ends.specs.Octets.{in_front}
use Rattle.journal_check.specs.declared.answer.Checked.{Checked}
use Rattle.journal_check.specs.declared.answer.Checked.TheVariants.{Good, Wrong, BadLine, Failed, NoMemory}
use Rattle.journal_check.specs.Seen.{seen}
use Rattle.journal_check.specs.Pieces.{seen_if_told}
use Rattle.journal_check.specs.Answers.{past_text, IsAnswerTo, IsBadHeader, IsAnswerBehind, IfRead}
use Rattle.journal_check.specs.Laws.{HasOneHistory}
use Rattle.journal_check.specs.Watched.{WatchedEntry, LeadsThrough, HasWatched, IsWatched, IsGiven}
use Rattle.journal_check.proofs.OpeningLines.{some_same}

pub none_some : (octets : List ℕ) → Some octets ≡ None → ⊥
none_some octets e = cc

read_any : (a : Checked) (P : Type 0) → P → IfRead a P
read_any (Good entries) P is = is
read_any (Wrong entry want have) P is = is
read_any (BadLine n) P is = is
read_any Failed P is = tt
read_any NoMemory P is = tt

module _ {W : Type 0} (begins : W → Plan → W → Type 0) (sees : W → Plan → WatchedEntry → W → Type 0) (before after : W) where
  led_as : (plan plan' : Plan) (closed closed' : List (List Row)) (past past' : List Row) → plan ≡ plan' → closed ≡ closed' → past ≡ past' → LeadsThrough begins sees plan (past ∷ closed) before after
      → LeadsThrough begins sees plan' (past' ∷ closed') before after
  led_as plan plan' closed closed' past past' plans closed_are past_are led =
      subst (λ (p : Plan). LeadsThrough begins sees p (past' ∷ closed') before after) plans
      (subst (λ (before_it : List (List Row)). LeadsThrough begins sees plan (past' ∷ before_it) before after) closed_are
      (subst (λ (rows : List Row). LeadsThrough begins sees plan (rows ∷ closed) before after) past_are led))

  given_behind : HasOneHistory → (version : Version) (plan : Plan) (begun : W) (octets : List ℕ) (a : Checked) → begins before plan begun → (x : HasWatched sees version plan (Some octets) a begun after)
      → (rest : Option (List ℕ)) → x.rest ≡ rest → IfSome x.rest (λ behind. IsAnswerTo version plan x.closed x.past behind a) → IsGiven begins sees octets a before after
  given_behind once version plan begun octets a began x None is judges = absurd (none_some octets (x.told ∙ ap (in_front (past_text version plan x.closed x.past)) is))
  given_behind once version plan begun octets a began x (Some rest) is judges =
      let text : octets ≡ past_text version plan x.closed x.past ++ rest = some_same octets (past_text version plan x.closed x.past ++ rest) (x.told ∙ ap (in_front (past_text version plan x.closed x.past)) is) in
      let answered : IsAnswerTo version plan x.closed x.past rest a = subst (λ (o : Option (List ℕ)). IfSome o (λ behind. IsAnswerTo version plan x.closed x.past behind a)) is judges in
      let behind : IsAnswerBehind octets a = record {
        version = version;
        plan = plan;
        closed = x.closed;
        past = x.past;
        rest = rest;
        begins = record { plan_is = x.plan_is; legal = x.legal; turned = x.turned; one = x.one; text = text };
        judges = answered;
      } in
      let only = once octets a a behind in (
        (λ bad. absurd (only.0 bad)),
        (λ other. let same = only.1 other in led_as plan other.plan x.closed other.closed x.past other.past same.1 same.2 same.3 (begun, began, x.led)),
      )

  given_header : HasOneHistory → (octets : List ℕ) (a : Checked) → after ≡ before → IsBadHeader octets a → IsGiven begins sees octets a before after
  given_header once octets a same bad = ((λ other. same), (λ is. let only = once octets a a is in absurd (only.0 bad)))

  given_told : HasOneHistory → (octets : List ℕ) (a : Checked) → IsWatched begins sees (Some octets) a before after → IfRead a (IsGiven begins sees octets a before after)
  given_told once octets (Good entries) (inl header) = absurd header.1
  given_told once octets (Good entries) (inr x) = given_behind once x.1 x.2 x.3 octets (Good entries) x.4 x.5 x.5.rest refl x.5.judges
  given_told once octets (Wrong entry want have) (inl header) = absurd header.1
  given_told once octets (Wrong entry want have) (inr x) = given_behind once x.1 x.2 x.3 octets (Wrong entry want have) x.4 x.5 x.5.rest refl x.5.judges
  given_told once octets (BadLine n) (inl header) = given_header once octets (BadLine n) header.0 header.2
  given_told once octets (BadLine n) (inr x) = given_behind once x.1 x.2 x.3 octets (BadLine n) x.4 x.5 x.5.rest refl x.5.judges
  given_told once octets Failed x = tt
  given_told once octets NoMemory x = tt

  pub given_if : HasOneHistory → (a : Checked) (left : Option (List ℕ)) → IsWatched begins sees (seen_if_told (2 ^ 62) left) a before after → IfRead a (IfSome left (λ octets. IsGiven begins sees (seen octets) a before after))
  given_if once a None x = read_any a (IfSome None (λ (octets : List ℕ). IsGiven begins sees (seen octets) a before after)) tt
  given_if once a (Some octets) x = given_told once (seen octets) a x
