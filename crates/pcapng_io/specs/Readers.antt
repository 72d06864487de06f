-- What a reader of a capture is ready for, and what each of its answers says.
use Rattle.std.specs.Prelude.{◌≡◌, ◌≢◌, ℕ, ◌+◌, ◌^◌, ◌<◌, ◌≤◌, List, [], ◌∷◌, ◌++◌, length, take, Option, Some, None, IfSome, IsSome, All}
use Rattle.savi_kinds.specs.declared.entry.How.{How}
use Rattle.savi_kinds.specs.declared.entry.How.TheVariants as how
use Rattle.pcapng_io.specs.declared.next.NgNext.{NgNext}
use Rattle.pcapng_io.specs.declared.next.NgNext.TheVariants as next
use Rattle.pcap_io.specs.declared.kind.ByteOrder.{ByteOrder}
use Rattle.pcap_io.specs.Numbers.{number_at}
use Rattle.pcapng_io.specs.Blocks.{Standing, IsTotal, section_type}
use Rattle.pcapng_io.specs.Runs.{Event, Begins, Frame, Long, Input, BeginsNone, Tell, ended}

pub data State : Type 0 where
  -- the next block begins so
  Reading : (standing : Standing) → State
  -- the capture has ended so, or a read has failed
  Ended : (ending : How) → State

-- A reader in this state, with these octets left in its source, will tell this.
abbrev pub Comes : State → List ℕ → Input → Type 0
Comes (Reading s) octets input = Tell s octets input
Comes (Ended ending) octets input = input ≡ ended ending

-- where the next block begins: how many octets were read so far
abbrev pub block_place : State → ℕ
block_place (Reading s) = s.place
block_place (Ended ending) = 0

-- the octets of the longest block
abbrev pub longest_block : ℕ
longest_block = 1048576

-- There is no place past 2^62, no section of more than 256 interfaces, no file of more than 65,536; and each interface
-- has some units of a second.
pub record IsSound (s : Standing) : Type 0 where
  pub placed : s.place ≤ 2 ^ 62
  pub few : length s.units ≤ 256
  pub few_in_file : s.earlier + length s.units ≤ 65536
  pub some : All (λ units. 0 < units) s.units

-- From the first state to the second one these octets were taken and told this: whatever comes behind them, they come
-- before it.
abbrev pub HasRead : State → State → List ℕ → List Event → Type 0
HasRead first now gave events =
    (rest : List ℕ) (later : List Event) (ending : How)
    → Comes now rest (record { events = later; ending = ending })
    → Comes first (gave ++ rest) (record { events = events ++ later; ending = ending })

-- One event was read, with the blocks in front of it that tell nothing, and the reader stands behind it.
pub record HasReadOne (old new : State) (gave : List ℕ) (event : Event) : Type 0 where
  pub read : HasRead old new gave (event ∷ [])
  pub reading : (s : Standing) × (new ≡ Reading s) × (s.place ≡ block_place old + length gave)
  pub some : 12 ≤ length gave

-- Nothing comes any more, and the capture ends so: what was taken, alone and with what is left behind it, where that is
-- told, tells nothing and has this ending. From a block at fault on no more was read than the longest block has.
pub record HasEnded (old new : State) (gave : List ℕ) (left : Option (List ℕ)) (ending : How) : Type 0 where
  pub state : new ≡ Ended ending
  pub taken : Comes old gave (ended ending)
  pub whole : IfSome left (λ rest. Comes old (gave ++ rest) (ended ending))
  pub near : (at : ℕ) → ending ≡ how.Malformed at → block_place old + length gave ≤ at + longest_block

-- Where a block begins so, these octets were taken and it wasn't read: none begins them, and one of this section, once they
-- have its type and total length, isn't at fault by its total length.
pub record IsUnread (s : Standing) (octets : List ℕ) : Type 0 where
  pub none : BeginsNone s octets
  pub fits : (order : ByteOrder) → s.order ≡ Some order → take 4 octets ≢ section_type → 8 ≤ length octets → IsTotal s.place 12 (number_at order 4 octets)

-- These octets end in a block that wasn't read, behind others that tell nothing.
abbrev pub FailsIn : State → List ℕ → Type 0
FailsIn (Reading s0) octets = (s : Standing) × (front : List ℕ) × (part : List ℕ) × (octets ≡ front ++ part) × HasRead (Reading s0) (Reading s) front [] × IsUnread s part
FailsIn (Ended ending) octets = octets ≡ []

-- A read failed: what was taken for this answer tells nothing, and the block in which it failed wasn't known to be at fault by
-- its total length.
pub record HasFailed (old new : State) (gave : List ℕ) : Type 0 where
  pub state : new ≡ Ended how.Failed
  pub taken : (ending : How) × Comes old gave (ended ending)
  pub unread : FailsIn old gave

-- What an answer says of the octets that were taken for it, of the buffer, and of what is left.
abbrev pub Answers : State → State → List ℕ → List ℕ → Option (List ℕ) → NgNext → Type 0
Answers old new gave buf left (next.Interface link) = HasReadOne old new gave (Begins link)
Answers old new gave buf left (next.Frame interface stamp len) = (len ≤ 1518) × HasReadOne old new gave (Frame interface stamp (take len buf))
Answers old new gave buf left (next.Long interface) = HasReadOne old new gave (Long interface)
Answers old new gave buf left next.End = HasEnded old new gave left how.End
Answers old new gave buf left (next.Malformed at) = HasEnded old new gave left (how.Malformed at)
Answers old new gave buf left next.Failed = HasFailed old new gave

-- A caller's buffer stays as it was but where a frame is told.
abbrev pub KeepsUnlessFrame : NgNext → List ℕ → List ℕ → Type 0
KeepsUnlessFrame (next.Interface link) old new = new ≡ old
KeepsUnlessFrame (next.Frame interface stamp len) old new = Unit {0}
KeepsUnlessFrame (next.Long interface) old new = new ≡ old
KeepsUnlessFrame next.End old new = new ≡ old
KeepsUnlessFrame (next.Malformed at) old new = new ≡ old
KeepsUnlessFrame next.Failed old new = new ≡ old

-- the answer of a capture that has ended so
abbrev pub answer_of : How → Option NgNext
answer_of how.End = Some next.End
answer_of (how.Malformed at) = Some (next.Malformed at)
answer_of how.Failed = Some next.Failed
answer_of how.Quit = None
answer_of (how.Overlong at) = None
answer_of how.Unwritten = None
answer_of how.Paused = None

-- what a reader keeps: sound places, and an ending that has an answer
abbrev pub IsPlaced : State → Type 0
IsPlaced (Reading s) = IsSound s
IsPlaced (Ended ending) = IsSome (answer_of ending)

-- what a reader that has ended answers again and again
abbrev pub last_answer : State → Option NgNext
last_answer (Reading s) = None
last_answer (Ended ending) = answer_of ending
