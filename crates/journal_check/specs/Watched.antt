-- What a watcher of a check is given: `begin` with the plan, and then the entries that stand, each once, in order. Its state is
-- where these calls, one after the other, lead. By `begins` and `sees` is said what one call of a watcher may make of it.
use Rattle.std.specs.Prelude.{◌≡◌, ◌≢◌, ◌⊎◌, ℕ, List, [], ◌∷◌, ◌++◌, length, Option, IfSome}
use Rattle.savi_kinds.specs.declared.plan.Plan.{Plan}
use Rattle.hist_store.specs.Rows.{Row}
use Rattle.hist_store.specs.declared.version.Version.{Version}
use Rattle.hist_store.specs.declared.version.Version.TheVariants.{One}
use Rattle.savi_ends.specs.Octets.{in_front}
use Rattle.savi_segments.specs.Segments.{AreLegal, HaveTurned}
use Rattle.journal_check.specs.declared.answer.Checked.{Checked}
use Rattle.journal_check.specs.declared.answer.Checked.TheVariants.{NoMemory}
use Rattle.journal_check.specs.Headers.{IsPlan}
use Rattle.journal_check.specs.Answers.{IfRead, IsAnswerBehind, IsAnswerTo, IsBadHeader, IsBeforeEntries, past_text}

-- an entry as a watcher is given it: the number of its segment, its own number there, both counted from 0, and its row
pub record WatchedEntry : Type 0 where
  pub segment : ℕ
  pub number : ℕ
  pub row : Row

-- the entries of the segment with this number, the newest first
abbrev pub watched_in : ℕ → List Row → List WatchedEntry
watched_in segment [] = []
watched_in segment (row ∷ past) = record { segment = segment; number = length past; row = row } ∷ watched_in segment past

-- the entries of segments, the newest first
abbrev pub all_watched : List (List Row) → List WatchedEntry
all_watched [] = []
all_watched (segment ∷ before) = watched_in (length before) segment ++ all_watched before

-- one call for each of these entries, the oldest first, leads from the first state to the last
abbrev pub Leads : {W : Type 0} → (W → Plan → WatchedEntry → W → Type 0) → Plan → W → List WatchedEntry → W → Type 0
Leads sees plan first [] last = last ≡ first
Leads {W} sees plan first (entry ∷ before) last = (mid : W) × Leads sees plan first before mid × sees mid plan entry last

-- `begin` with the plan, and then one call for each entry of these segments, lead from the one state to the other
abbrev pub LeadsThrough : {W : Type 0} → (W → Plan → W → Type 0) → (W → Plan → WatchedEntry → W → Type 0) → Plan → List (List Row) → W → W → Type 0
LeadsThrough {W} begins sees plan segments before after = (begun : W) × begins before plan begun × Leads sees plan begun (all_watched segments) after

-- The entry may be given next: a switch of the plan may have it behind these segments, and the watcher was given theirs.
pub record ComesToWatch {W : Type 0} (begins : W → Plan → W → Type 0) (sees : W → Plan → WatchedEntry → W → Type 0) (watcher : W) (plan : Plan) (entry : WatchedEntry) : Type 0 where
  pub closed : List (List Row)
  pub past : List Row
  pub plan_is : IsPlan plan
  pub legal : AreLegal plan ((entry.row ∷ past) ∷ closed)
  pub turned : HaveTurned plan ((entry.row ∷ past) ∷ closed)
  pub segment_is : entry.segment ≡ length closed
  pub number_is : entry.number ≡ length past
  pub before : W
  pub led : LeadsThrough begins sees plan (past ∷ closed) before watcher

-- What a text is behind the header of a plan, as far as it is told, and what was made of a watcher that has begun. The text
-- begins with the header, segments that are closed and lines of the next one, as in `Answers`; these entries were given. The
-- rest comes behind, of which the answer is told; where a read failed, it isn't judged.
pub record HasWatched {W : Type 0} (sees : W → Plan → WatchedEntry → W → Type 0) (version : Version) (plan : Plan) (text : Option (List ℕ)) (answer : Checked) (begun after : W) : Type 0 where
  pub closed : List (List Row)
  pub past : List Row
  pub rest : Option (List ℕ)
  pub plan_is : IsPlan plan
  pub legal : AreLegal plan (past ∷ closed)
  pub turned : HaveTurned plan (past ∷ closed)
  pub one : version ≡ One → closed ≡ []
  pub told : text ≡ in_front (past_text version plan closed past) rest
  pub judges : IfRead answer (IfSome rest (λ octets. IsAnswerTo version plan closed past octets answer))
  pub led : Leads sees plan begun (all_watched (past ∷ closed)) after

-- The same of a whole text. Where a line of its header is bad, its reading failed or memory was wanting, the watcher is as it
-- was.
abbrev pub IsWatched : {W : Type 0} → (W → Plan → W → Type 0) → (W → Plan → WatchedEntry → W → Type 0) → Option (List ℕ) → Checked → W → W → Type 0
IsWatched {W} begins sees text answer before after =
    ((after ≡ before) × IsBeforeEntries answer × IfRead answer (IfSome text (λ octets. IsBadHeader octets answer)))
    ⊎ ((answer ≢ NoMemory) × (version : Version) × (plan : Plan) × (begun : W) × begins before plan begun × HasWatched sees version plan text answer begun after)

-- The same of octets that were read and are told: whichever way they are read, and there is one (Laws), the entries in front
-- of the rest were given.
abbrev pub IsGiven : {W : Type 0} → (W → Plan → W → Type 0) → (W → Plan → WatchedEntry → W → Type 0) → List ℕ → Checked → W → W → Type 0
IsGiven begins sees octets answer before after =
    (IsBadHeader octets answer → after ≡ before)
    × ((is : IsAnswerBehind octets answer) → LeadsThrough begins sees is.plan (is.past ∷ is.closed) before after)
