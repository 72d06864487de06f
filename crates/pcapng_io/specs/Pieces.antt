-- What the parts of a block say of the octets that were taken for them.
use Rattle.std.specs.Prelude.{◌≡◌, ℕ, ◌+◌, ◌-◌, ◌<◌, ◌≤◌, Bool, false, IsTrue, List, [], ◌∷◌, ◌++◌, length, take, slice_index, Option, Some, None, IfSome, IsSome}
use Rattle.savi_ends.specs.Octets.{NothingLeft}
use Rattle.pcap_io.specs.declared.kind.ByteOrder.{ByteOrder}
use Rattle.pcap_io.specs.Numbers.{number_at}
use Rattle.pcapng_io.specs.declared.stop.Stop.{Stop}
use Rattle.pcapng_io.specs.declared.stop.Stop.TheVariants as stop
use Rattle.pcapng_io.specs.declared.options.OptionRead.{OptionRead}
use Rattle.pcapng_io.specs.declared.options.OptionRead.TheVariants as option
use Rattle.pcapng_io.specs.declared.block.BlockRead.{BlockRead}
use Rattle.pcapng_io.specs.declared.block.BlockRead.TheVariants as read
use Rattle.pcapng_io.specs.declared.block.Whole.{Whole}
use Rattle.savi_kinds.specs.declared.entry.How.TheVariants as how
use Rattle.pcapng_io.specs.declared.next.NgNext.{NgNext}
use Rattle.pcapng_io.specs.declared.next.NgNext.TheVariants as next
use Rattle.pcapng_io.specs.Numbers.{half_at}
use Rattle.pcapng_io.specs.Options.{padded, BlockOption, IsOption, IsResolution, units_of, IsSettled, HaveOptions, resolved}
use Rattle.pcapng_io.specs.Blocks.{Block, Section, Interface, Packet, Other, Standing, IsBlock}
use Rattle.pcapng_io.specs.Runs.{EndsAs}
use Rattle.pcapng_io.specs.Readers.{State, Reading, Ended, longest_block, IsUnread}

-- no front of these octets is so
abbrev pub NoneIn : (List ℕ → Type 0) → List ℕ → Type 0
NoneIn P octets = (first rest : List ℕ) → octets ≡ first ++ rest → P first → ⊥

-- Where a read stops no front of what was taken is so, nor, unless a read failed, of it with what is left behind it.
abbrev pub Stops : (List ℕ → Type 0) → Stop → List ℕ → Option (List ℕ) → Type 0
Stops P stop.Malformed gave left = NoneIn P gave × IfSome left (λ rest. NoneIn P (gave ++ rest))
Stops P stop.Failed gave left = NoneIn P gave

-- the same, and no more than so many octets were taken
abbrev pub StopsWithin : ℕ → (List ℕ → Type 0) → Stop → List ℕ → Option (List ℕ) → Type 0
StopsWithin most P why gave left = Stops P why gave left × (length gave ≤ most)

-- fewer octets than so many were taken, all that were left or up to a read that failed
abbrev pub FallsShort : ℕ → Stop → List ℕ → Option (List ℕ) → Type 0
FallsShort len stop.Malformed gave left = (length gave < len) × NothingLeft left
FallsShort len stop.Failed gave left = length gave < len

-- so many octets that begin with options
abbrev pub AreFront : ByteOrder → Bool → ℕ → List ℕ → Type 0
AreFront order is_interface len octets = (length octets ≡ len) × ((units : ℕ) × HaveOptions order is_interface units octets)

-- an option, or the end of the options, at the front of so many octets; the units of a second before it and behind it
abbrev pub IsOptionRead : ByteOrder → Bool → ℕ → ℕ → OptionRead → List ℕ → Type 0
IsOptionRead order is_interface len units option.End gave = (length gave ≡ len) × (4 ≤ len) × (half_at order 0 gave ≡ 0)
IsOptionRead order is_interface len units (option.Next size behind) gave =
    (length gave ≡ size) × (size ≤ len)
    × (0 < units → 0 < behind)
    × ((o : BlockOption) × IsOption order gave o × (IsTrue is_interface → IsSettled o × (behind ≡ resolved units (o ∷ []))))

-- the value of a resolution, of so many octets, and its padding
abbrev pub IsResolutionRead : ℕ → ℕ → List ℕ → Type 0
IsResolutionRead len units gave = (length gave ≡ padded len) × IsResolution (take len gave) × (units ≡ units_of (slice_index gave 0)) × (0 < units)

-- the total length at the end of a block
abbrev pub IsTail : ByteOrder → ℕ → List ℕ → Type 0
IsTail order total octets = (length octets ≡ 4) × (number_at order 0 octets ≡ total)

-- options, and then the total length of the block
pub record IsRest (order : ByteOrder) (is_interface : Bool) (len total units : ℕ) (octets : List ℕ) : Type 0 where
  pub size : length octets ≡ len + 4
  pub options : HaveOptions order is_interface units (take len octets)
  pub again : number_at order len octets ≡ total

-- so many captured octets of a packet with their padding, and what stands behind them in a block of this total length
abbrev pub IsCaptured : ByteOrder → ℕ → ℕ → List ℕ → Type 0
IsCaptured order len total octets =
    (body : List ℕ) × (rest : List ℕ) × (units : ℕ) × (octets ≡ body ++ rest) × (length body ≡ padded len) × IsRest order false (total - 28 - 4 - padded len) total units rest

-- a block was read: its size, and of a packet's captured octets those that the buffer holds
abbrev pub IsRead : Standing → BlockRead → List ℕ → List ℕ → Type 0
IsRead s (read.Section order) buf octets = IsBlock s (Section order) octets
IsRead s (read.Interface link units) buf octets = IsBlock s (Interface link units) octets × (0 < units)
IsRead s (read.Frame interface stamp len) buf octets = (len ≤ 1518) × IsBlock s (Packet interface stamp (take len buf)) octets
IsRead s (read.Long interface) buf octets = (stamp : ℕ) × (captured : List ℕ) × (1518 < length captured) × IsBlock s (Packet interface stamp captured) octets
IsRead s read.Other buf octets = IsBlock s Other octets

abbrev pub IsWhole : Standing → Whole → List ℕ → List ℕ → Type 0
IsWhole s whole buf octets = IsRead s whole.block buf octets × (length octets ≡ whole.size)

-- some block begins with this front and has the octets behind it
abbrev pub IsSomeBlock : Standing → List ℕ → List ℕ → Type 0
IsSomeBlock s front octets = (b : Block) × IsBlock s b (front ++ octets)

-- where a reader stands after an answer
abbrev pub state_after : NgNext → Standing → State
state_after (next.Interface link) s = Reading s
state_after (next.Frame interface stamp len) s = Reading s
state_after (next.Long interface) s = Reading s
state_after next.End s = Ended how.End
state_after (next.Malformed at) s = Ended (how.Malformed at)
state_after next.Failed s = Ended how.Failed

-- a whole block was read; or none is left, in a section
abbrev pub IsBlockRead : Standing → Option Whole → List ℕ → List ℕ → Option (List ℕ) → Type 0
IsBlockRead s None buf octets left = (octets ≡ []) × IsSome s.order × NothingLeft left
IsBlockRead s (Some whole) buf octets left = IsWhole s whole buf octets

-- No whole block was read: what was taken is none, nor, unless a read failed, is it with what is left behind it; and it
-- isn't the end, nor longer than a block.
abbrev pub StopsHere : Standing → Stop → List ℕ → Option (List ℕ) → Type 0
StopsHere s stop.Malformed gave left =
    EndsAs s (how.Malformed s.place) gave × IfSome left (λ rest. EndsAs s (how.Malformed s.place) (gave ++ rest)) × (length gave ≤ longest_block)
StopsHere s stop.Failed gave left = IsUnread s gave
