-- What becomes of all that the entries of a history offer to a queue.
use Rattle.std.specs.Prelude.{◌≡◌, ℕ, ◌-◌, ◌<◌, ◌↔◌, ◌==◌, Bool, true, false, if◌then◌else◌, List, [], ◌∷◌, ◌++◌, length, take, drop}
use Rattle.savi_kinds.specs.declared.plan.Plan.{Plan}
use Rattle.savi_kinds.specs.declared.port.Port.{Port}
use Rattle.savi_kinds.specs.declared.entry.Act.{Act}
use Rattle.savi_kinds.specs.declared.entry.Act.TheVariants.{Frame, Long, Tick, Command, Drain, End}
use Rattle.savi_kinds.specs.declared.entry.Who.TheVariants.{Egress}
use Rattle.savi_kinds.specs.declared.entry.How.TheVariants as hows
use Rattle.savi_kinds.specs.Ports.{number_of}
use Rattle.savi_kinds.specs.PortSets.{is_member, no_ports}
use Rattle.savi_kinds.specs.ValidPlan.{numbers_of}
use Rattle.hist_store.specs.Rows.{Row}
use Rattle.checkpoint.specs.Bases.{Base}
use Rattle.savi_history.specs.Passes.{has_port}
use Rattle.savi_history.specs.Queues.{Item, item_of, offered_at, room_at, queue, over_ports}

-- the frame of an entry, which came in at this port, where it goes to q
abbrev pub frame_to : Plan → ℕ → Port → Row → List Item
frame_to plan q port r = if is_member r.entry.outs q then item_of plan q port r ∷ [] else []

-- all that an entry offers to q: its probes and then its frame; without a stamp it offers nothing
abbrev pub all_offered : Plan → Base → List Row → Row → Act → ℕ → List Item
all_offered plan base past r (Frame port stamp at len) q =
    offered_at plan base past (Frame port stamp at len) r.octets q ++ frame_to plan q port r
all_offered plan base past r (Long port stamp len) q = offered_at plan base past (Long port stamp len) r.octets q
all_offered plan base past r (Tick stamp) q = offered_at plan base past (Tick stamp) r.octets q
all_offered plan base past r (Command stamp at len) q = offered_at plan base past (Command stamp at len) r.octets q
all_offered plan base past r (Drain port count) q = []
all_offered plan base past r (End who how) q = []

-- how many more items q takes
abbrev pub room_left : Plan → Base → List Row → ℕ → ℕ
room_left plan base past q = room_at plan base past q - length (queue plan base q past)

-- what joins at q behind what waits there: as many of them, from the front, as it takes
abbrev pub added : Plan → Base → List Row → Row → ℕ → List Item
added plan base past r q = take (room_left plan base past q) (all_offered plan base past r r.entry.act q)

-- all that ever joined at q, in order
abbrev pub came : Plan → Base → ℕ → List Row → List Item
came plan base q [] = []
came plan base q (r ∷ past) = came plan base q past ++ added plan base past r q

-- whether the entry is the end of q's egress for a failed write, which empties the queue
abbrev pub is_failure_at : ℕ → Act → Bool
is_failure_at q (Frame port stamp at len) = false
is_failure_at q (Long port stamp len) = false
is_failure_at q (Tick stamp) = false
is_failure_at q (Command stamp at len) = false
is_failure_at q (Drain port count) = false
is_failure_at q (End (Egress port) hows.Failed) = number_of port == q
is_failure_at q (End who how) = false

abbrev pub NeverFailed : ℕ → List Row → Type 0
NeverFailed q [] = Unit {0}
NeverFailed q (r ∷ past) = (is_failure_at q r.entry.act ≡ false) × NeverFailed q past

-- the probes of an entry that q takes, and those that it doesn't
abbrev pub probes_taken : Plan → Base → List Row → Act → List ℕ → ℕ → List Item
probes_taken plan base past act octets q = take (room_left plan base past q) (offered_at plan base past act octets q)

abbrev pub probes_left : Plan → Base → List Row → Act → List ℕ → ℕ → List Item
probes_left plan base past act octets q = drop (room_left plan base past q) (offered_at plan base past act octets q)

-- The entry counts the probes that ports take, and those that they don't; without a stamp it has none.
abbrev pub IsCounted : Plan → Base → List Row → Row → Act → Type 0
IsCounted plan base past r (Drain port count) = (r.entry.probes ≡ 0) × (r.entry.lost ≡ 0)
IsCounted plan base past r (End who how) = (r.entry.probes ≡ 0) × (r.entry.lost ≡ 0)
IsCounted plan base past r act =
    (r.entry.probes ≡ over_ports (numbers_of plan.ports) (λ q. length (probes_taken plan base past act r.octets q)))
    × (r.entry.lost ≡ over_ports (numbers_of plan.ports) (λ q. length (probes_left plan base past act r.octets q)))

abbrev pub AreCounted : Plan → Base → List Row → Type 0
AreCounted plan base [] = Unit {0}
AreCounted plan base (r ∷ past) = IsCounted plan base past r r.entry.act × AreCounted plan base past

-- A frame is cut exactly at the ports to which it goes and which don't take all that its entry offers there: the frame comes
-- behind its entry's probes.
abbrev pub IsLeftOut : Plan → Base → List Row → Row → Act → Type 0
IsLeftOut plan base past r (Frame port stamp at len) =
    (q : ℕ) → has_port plan q ≡ true
    → ((is_member r.entry.cuts q ≡ true)
    ↔ (is_member r.entry.outs q ≡ true)
    × (length (added plan base past r q) < length (all_offered plan base past r (Frame port stamp at len) q)))
IsLeftOut plan base past r act = r.entry.cuts ≡ no_ports

abbrev pub AreCut : Plan → Base → List Row → Type 0
AreCut plan base [] = Unit {0}
AreCut plan base (r ∷ past) = IsLeftOut plan base past r r.entry.act × AreCut plan base past
