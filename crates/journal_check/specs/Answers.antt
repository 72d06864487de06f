-- What a text is, as a journal. As far as its lines are read, its octets are the text of a history that a switch may have:
-- of a header, of segments that are closed, and of the rows of the next segment, the newest first; and a rest. The answer
-- is a condition on these. That nothing before the fault is at fault need not be said: that history stands.
use Rattle.std.specs.Prelude.{◌≡◌, ◌≢◌, ◌≤◌, ◌+◌, ◌⊎◌, ℕ, true, false, List, [], ◌∷◌, ◌++◌, length, Option, IfSome}
use Rattle.savi_kinds.specs.declared.plan.Plan.{Plan}
use Rattle.savi_kinds.specs.Characters.{line_feed}
use Rattle.hist_store.specs.Rows.{Row}
use Rattle.hist_store.specs.TextOfLines.{lines_text}
use Rattle.hist_store.specs.LineTexts.{line_text}
use Rattle.hist_store.specs.EntryLines.{SaysEntry}
use Rattle.hist_store.specs.declared.version.Version.{Version}
use Rattle.hist_store.specs.declared.version.Version.TheVariants.{One, Two}
use Rattle.hist_store.specs.JournalTexts.{journal_end_text}
use Rattle.savi_ends.specs.Octets.{NothingLeft, Takes}
use Rattle.checkpoint.specs.Bases.{Base}
use Rattle.savi_history.specs.Endings.{has_pause}
use Rattle.savi_history.specs.Legal.{IsFinished}
use Rattle.savi_segments.specs.Segments.{AreLegal, HasClosed, HasTurned, HaveTurned, base_after, joined}
use Rattle.journal_check.specs.declared.answer.Checked.{Checked}
use Rattle.journal_check.specs.declared.answer.Checked.TheVariants.{Good, Wrong, BadLine, Failed, NoMemory}
use Rattle.journal_check.specs.Seen.{seen}
use Rattle.journal_check.specs.Headers.{IsPlan, HasBadHeader, head_text}
use Rattle.journal_check.specs.Fronts.{DepartsAfter, front_lines, opening_lines}
use Rattle.journal_check.specs.Differing.{Differs}

-- the lines in front of the entries of the segment behind those that are closed, and the lines of its entries, the newest
-- row first
abbrev pub past_text : Version → Plan → List (List Row) → List Row → List ℕ
past_text version plan closed [] = lines_text (front_lines version plan closed)
past_text version plan closed (row ∷ past) = past_text version plan closed past ++ line_text (length past) row ++ line_feed ∷ []

-- The text begins with the header of a plan, segments that are closed and lines of the next one, which a switch may have;
-- the rest comes behind. In version 1 there is one segment.
pub record BeginsJournal (version : Version) (plan : Plan) (closed : List (List Row)) (past : List Row) (octets rest : List ℕ) : Type 0 where
  pub plan_is : IsPlan plan
  pub legal : AreLegal plan (past ∷ closed)
  pub turned : HaveTurned plan (past ∷ closed)
  pub one : version ≡ One → closed ≡ []
  pub text : octets ≡ past_text version plan closed past ++ rest

-- the number of the line behind those, which is the same in each version
abbrev pub next_line : Plan → List (List Row) → List Row → ℕ
next_line plan closed past = length (front_lines Two plan closed) + length past + 1

-- how many entries there are, over all segments
abbrev pub entry_count : List (List Row) → List Row → ℕ
entry_count closed past = length (joined (past ∷ closed))

-- no line of the next entry begins the rest, nor does the last line of the segment where it may stand
pub record HasNoLine (plan : Plan) (base : Base) (past : List Row) (rest : List ℕ) : Type 0 where
  pub entry : (line : List ℕ) (row : Row) (more : List ℕ) → SaysEntry line (length past) row → rest ≢ line ++ line_feed ∷ more
  pub last : (more : List ℕ) → IsFinished plan base past → rest ≢ journal_end_text (length past) ++ more

-- The last line of the segment begins the rest and may stand there, but not what is behind it: something, where nothing
-- goes on; or whatever it is, where an input is paused and the version has no next segment.
pub record HasBadEnd (version : Version) (plan : Plan) (base : Base) (past : List Row) (rest : List ℕ) : Type 0 where
  pub finished : IsFinished plan base past
  pub more : List ℕ
  pub text : rest ≡ journal_end_text (length past) ++ more
  pub bad : ((has_pause past ≡ false) × (more ≢ [])) ⊎ ((has_pause past ≡ true) × (version ≡ One))

-- The segment is left for a next one, and its last line begins the rest. So many of the lines in front of the next one's
-- entries come behind it, and then another line or none.
pub record HasBadOpening (version : Version) (plan : Plan) (closed : List (List Row)) (past : List Row) (rest : List ℕ) (count : ℕ) : Type 0 where
  pub two : version ≡ Two
  pub turned : HasTurned plan (past ∷ closed)
  pub more : List ℕ
  pub text : rest ≡ journal_end_text (length past) ++ more
  pub breaks : DepartsAfter (opening_lines plan (base_after plan (past ∷ closed))) more count

-- a line of the next entry begins the rest, and that entry differs from those that may stand there
pub record HasWrong (plan : Plan) (base : Base) (past : List Row) (rest : List ℕ) (want have : List ℕ) : Type 0 where
  pub line : List ℕ
  pub row : Row
  pub more : List ℕ
  pub says : SaysEntry line (length past) row
  pub text : rest ≡ line ++ line_feed ∷ more
  pub differs : Differs plan base past row want have

-- what is to be answered of the rest
abbrev pub IsAnswerTo : Version → Plan → List (List Row) → List Row → List ℕ → Checked → Type 0
IsAnswerTo version plan closed past rest (Good entries) = (entries ≡ entry_count closed past) × HasClosed plan (past ∷ closed) × (rest ≡ journal_end_text (length past))
IsAnswerTo version plan closed past rest (Wrong entry want have) = (entry ≡ entry_count closed past) × HasWrong plan (base_after plan closed) past rest want have
IsAnswerTo version plan closed past rest (BadLine n) =
    ((n ≡ next_line plan closed past) × HasNoLine plan (base_after plan closed) past rest)
    ⊎ (((n ≡ next_line plan closed past + 1) × HasBadEnd version plan (base_after plan closed) past rest)
    ⊎ ((count : ℕ) × (n ≡ next_line plan closed past + 1 + count) × HasBadOpening version plan closed past rest count))
IsAnswerTo version plan closed past rest Failed = ⊥
IsAnswerTo version plan closed past rest NoMemory = ⊥

-- the same of all octets that are seen
pub record IsAnswerBehind (octets : List ℕ) (answer : Checked) : Type 0 where
  pub version : Version
  pub plan : Plan
  pub closed : List (List Row)
  pub past : List Row
  pub rest : List ℕ
  pub begins : BeginsJournal version plan closed past octets rest
  pub judges : IsAnswerTo version plan closed past rest answer

abbrev pub IsBadHeader : List ℕ → Checked → Type 0
IsBadHeader octets answer = (n : ℕ) × HasBadHeader octets n × (answer ≡ BadLine n)

-- an answer in front of the first entry: a line is bad, a read failed or memory is wanting
abbrev pub IsBeforeEntries : Checked → Type 0
IsBeforeEntries (Good entries) = ⊥
IsBeforeEntries (Wrong entry want have) = ⊥
IsBeforeEntries (BadLine n) = Unit {0}
IsBeforeEntries Failed = Unit {0}
IsBeforeEntries NoMemory = Unit {0}

abbrev pub IsAnswer : List ℕ → Checked → Type 0
IsAnswer octets answer = IsBadHeader (seen octets) answer ⊎ IsAnswerBehind (seen octets) answer

-- the condition, where the octets were read and there was memory
abbrev pub IfRead : Checked → Type 0 → Type 0
IfRead (Good entries) P = P
IfRead (Wrong entry want have) P = P
IfRead (BadLine n) P = P
IfRead Failed P = Unit {0}
IfRead NoMemory P = Unit {0}

-- What is to be answered behind the last line of a segment that none follows, with so many entries before it and this
-- number, by what comes there.
abbrev pub Ends : List Row → ℕ → ℕ → Option (List ℕ) → Checked → Type 0
Ends past count number behind (Good entries) = (entries ≡ count) × (has_pause past ≡ false) × NothingLeft behind
Ends past count number behind (Wrong entry want have) = ⊥
Ends past count number behind (BadLine n) = (n ≡ number + 1) × ((has_pause past ≡ true) ⊎ ((has_pause past ≡ false) × IfSome behind (λ octets. octets ≢ [])))
Ends past count number behind Failed = Unit {0}
Ends past count number behind NoMemory = ⊥

-- the header of a plan was read, and no more than one piece behind it
abbrev pub HasReadHeader : Option (List ℕ) → Option (List ℕ) → Type 0
HasReadHeader before after =
    (version : Version) × (plan : Plan) × (held : List ℕ) × IsPlan plan × (length held ≤ 16384) × Takes before after (head_text version plan ++ held)
