-- What the octets of a whole capture are: blocks one behind the other, the first of them a section header, and how they end.
use Rattle.std.specs.Prelude.{◌≡◌, ℕ, nat_le, List, [], ◌∷◌, ◌++◌, length, None, IsSome, if◌then◌else◌}
use Rattle.savi_kinds.specs.declared.entry.How.{How}
use Rattle.savi_kinds.specs.declared.entry.How.TheVariants as how
use Rattle.pcapng_io.specs.Blocks.{Block, Section, Interface, Packet, Other, Standing, IsBlock, behind}

-- what a capture tells of its interfaces and packets; interfaces are counted through the file, from 0
pub data Event : Type 0 where
  -- one more interface, of this link type
  Begins : (link : ℕ) → Event
  -- a packet of at most 1,518 captured octets, with its stamp (ms)
  Frame : (interface stamp : ℕ) (octets : List ℕ) → Event
  -- a longer packet, whose octets aren't kept
  Long : (interface : ℕ) → Event

-- all that a capture tells, and how it ends
pub record Input : Type 0 where
  pub events : List Event
  pub ending : How

-- what a block tells
abbrev pub events_of : Block → List Event
events_of (Section order) = []
events_of (Interface link units) = Begins link ∷ []
events_of (Packet interface stamp captured) = (if nat_le (length captured) 1518 then Frame interface stamp captured else Long interface) ∷ []
events_of Other = []

-- what blocks tell, in their order
abbrev pub all_events : List Block → List Event
all_events [] = []
all_events (b ∷ blocks) = events_of b ++ all_events blocks

-- no block begins these octets
abbrev pub BeginsNone : Standing → List ℕ → Type 0
BeginsNone s octets = (b : Block) (first rest : List ℕ) → octets ≡ first ++ rest → IsBlock s b first → ⊥

-- Nothing is left, in a section.
abbrev pub IsDone : Standing → List ℕ → Type 0
IsDone s octets = (octets ≡ []) × IsSome s.order

-- What is left here ends the capture: there is nothing, or a rest that begins with no block.
abbrev pub EndsAs : Standing → How → List ℕ → Type 0
EndsAs s how.End octets = IsDone s octets
EndsAs s (how.Malformed at) octets = (at ≡ s.place) × ¬ IsDone s octets × BeginsNone s octets
EndsAs s how.Quit octets = ⊥
EndsAs s (how.Overlong at) octets = ⊥
EndsAs s how.Failed octets = ⊥
EndsAs s how.Unwritten octets = ⊥
EndsAs s how.Paused octets = ⊥

-- What is left here is these blocks, one behind the other, and then ends so.
abbrev pub AreBlocks : Standing → List Block → How → List ℕ → Type 0
AreBlocks s [] ending octets = EndsAs s ending octets
AreBlocks s (b ∷ blocks) ending octets =
    (first : List ℕ) × (rest : List ℕ) × (octets ≡ first ++ rest) × IsBlock s b first × AreBlocks (behind s b (length first)) blocks ending rest

-- What is left here tells this.
abbrev pub Tell : Standing → List ℕ → Input → Type 0
Tell s octets input = (blocks : List Block) × AreBlocks s blocks input.ending octets × (input.events ≡ all_events blocks)

-- where the first block of a file begins
abbrev pub at_start : Standing
at_start = record { place = 0; order = None; earlier = 0; units = [] }

-- What the octets of a file are.
abbrev pub Arrive : List ℕ → Input → Type 0
Arrive octets input = Tell at_start octets input

-- a capture that tells nothing more
abbrev pub ended : How → Input
ended ending = record { events = []; ending = ending }
