-- In what an entry of a journal differs from those that may stand there.
use Rattle.std.specs.Prelude.{◌≡◌, ◌<◌, ◌≤◌, ◌⊎◌, ℕ, List, [], ◌∷◌, length, All, codes, decimal, Option, Some, None, if◌then◌else◌}
use Rattle.std.specs.Str.{bytes_eq}
use Rattle.savi_kinds.specs.declared.plan.Plan.{Plan}
use Rattle.savi_kinds.specs.declared.entry.Entry.{Entry}
use Rattle.savi_kinds.specs.declared.entry.Act.{Act}
use Rattle.savi_kinds.specs.declared.entry.Act.TheVariants as acts
use Rattle.savi_kinds.specs.Ports.{number_of}
use Rattle.hist_store.specs.Rows.{Row}
use Rattle.hist_store.specs.TextOfLines.{HasNoSpace}
use Rattle.hist_store.specs.LineTexts.{line_fields}
use Rattle.checkpoint.specs.Bases.{Base}
use Rattle.savi_history.specs.Queues.{queue}
use Rattle.savi_history.specs.Events.{Event, Frame, Long, Command, Tick, Drain, End, row_of}
use Rattle.savi_history.specs.Legal.{MayCome}

-- the event of an entry with this act and these octets
abbrev pub event_by : Act → List ℕ → Event
event_by (acts.Frame port stamp at len) octets = Frame port stamp octets
event_by (acts.Long port stamp len) octets = Long port stamp len
event_by (acts.Tick stamp) octets = Tick stamp
event_by (acts.Command stamp at len) octets = Command stamp octets
event_by (acts.Drain port count) octets = Drain port count
event_by (acts.End who how) octets = End who how

-- the event of a row: where its octets are kept is no part of it
abbrev pub row_event : Row → Event
row_event row = event_by row.entry.act row.octets

-- the letter of an act
abbrev pub letter_of : Act → List ℕ
letter_of (acts.Frame port stamp at len) = codes "F"
letter_of (acts.Long port stamp len) = codes "L"
letter_of (acts.Tick stamp) = codes "T"
letter_of (acts.Command stamp at len) = codes "C"
letter_of (acts.Drain port count) = codes "D"
letter_of (acts.End who how) = codes "E"

-- The event may come with another number: the number that it wants, and the one that it has. A drain of more than waits
-- wants as many as wait.
abbrev pub WantsNumber : Plan → Base → List Row → Event → ℕ → ℕ → Type 0
WantsNumber plan base past (Drain port count) want have =
    MayCome plan base past (Drain port want) × (want ≡ length (queue plan base (number_of port) past)) × (want < count) × (have ≡ count)
WantsNumber plan base past (End who how) want have = ⊥
WantsNumber plan base past (Frame port stamp octets) want have = ⊥
WantsNumber plan base past (Long port stamp len) want have = ⊥
WantsNumber plan base past (Command stamp line) want have = ⊥
WantsNumber plan base past (Tick stamp) want have = ⊥

-- the first fields at which two lines of as many fields differ
abbrev pub first_apart : List (List ℕ) → List (List ℕ) → Option (List ℕ × List ℕ)
first_apart (want ∷ wants) (have ∷ haves) = if bytes_eq want have then first_apart wants haves else Some (want, have)
first_apart [] haves = None
first_apart wants [] = None

-- as much was queued and left out in two entries
pub record IsSameQueued (a b : Entry) : Type 0 where
  pub outs : a.outs ≡ b.outs
  pub cuts : a.cuts ≡ b.cuts
  pub probes : a.probes ≡ b.probes
  pub lost : a.lost ≡ b.lost

-- what is computed of an event is the same in two entries of it
pub record IsSameComputed (a b : Entry) : Type 0 where
  pub by : a.by ≡ b.by
  pub moment : a.moment ≡ b.moment
  pub verdict : a.verdict ≡ b.verdict
  pub queued : IsSameQueued a b

-- fields none of which has a space
abbrev pub AreSpaceless : List (List ℕ) → Type 0
AreSpaceless [] = Unit {0}
AreSpaceless (field ∷ fields) = HasNoSpace field × AreSpaceless fields

-- a field that can be told: at most 64 characters, each of one octet
pub record IsField (field : List ℕ) : Type 0 where
  pub short : length field ≤ 64
  pub plain : All (λ octet. octet < 128) field

-- the event can't come, and no other number would mend it
pub record CanNotCome (plan : Plan) (base : Base) (past : List Row) (row : Row) (want have : List ℕ) : Type 0 where
  pub never : ¬ MayCome plan base past (row_event row)
  pub no_number : (m n : ℕ) → ¬ WantsNumber plan base past (row_event row) m n
  pub want_none : want ≡ codes "none"
  pub have_letter : have ≡ letter_of row.entry.act

-- the event would come with another number
pub record WantsOther (plan : Plan) (base : Base) (past : List Row) (row : Row) (want have : List ℕ) : Type 0 where
  pub wanted : ℕ
  pub given : ℕ
  pub wants : WantsNumber plan base past (row_event row) wanted given
  pub want_number : want ≡ decimal wanted
  pub have_number : have ≡ decimal given

-- the event may come, and a field that is computed of it is another
pub record IsComputedOther (plan : Plan) (base : Base) (past : List Row) (row : Row) (want have : List ℕ) : Type 0 where
  pub may : MayCome plan base past (row_event row)
  pub apart : first_apart (line_fields (length past) (row_of plan base past (row_event row))) (line_fields (length past) row) ≡ Some (want, have)

abbrev pub Differs : Plan → Base → List Row → Row → List ℕ → List ℕ → Type 0
Differs plan base past row want have =
    CanNotCome plan base past row want have ⊎ WantsOther plan base past row want have ⊎ IsComputedOther plan base past row want have
