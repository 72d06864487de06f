-- What comes of putting each kind of event to a switch.
use Rattle.std.proofs.Common.{◌≡◌, ◌≢◌, ◌^◌, ◌<◌, ◌≤◌, ℕ, true≢false, List, length, refl, ap, sym, ◌∙◌, arith}
use Rattle.savi_kinds.specs.declared.port.Port.{Port}
use Rattle.savi_kinds.specs.declared.entry.Who.{Who}
use Rattle.savi_kinds.specs.declared.entry.Who.TheVariants as passes
use Rattle.savi_kinds.specs.declared.entry.How.{How}
use Rattle.savi_kinds.specs.Ports.{number_of}
use Rattle.savi_history.specs.Queues.{Item, queue}
use Rattle.savi_history.specs.Events.{Frame, Long, Command, Tick, Drain, End}
use Rattle.savi_history.specs.Legal.{IsOpen, MayEnd}
use Rattle.savi_core.specs.declared.event.Stepped.{Stepped}
use Rattle.savi_core.specs.declared.event.Stepped.TheVariants.{Done, Full, Nothing}
use Rattle.savi_core.specs.Machines.{Machine, base_of, with_event}
use Rattle.savi_core.specs.Steps.{Did, Drained, taken_count, entry_of}
use Rattle.journal_check.specs.declared.putting.Put.TheVariants.{Never, Other}
use Rattle.journal_check.specs.Puts.{Puts, put_of}

-- frames

pub frame_closed : (m : Machine) (port : Port) (stamp : ℕ) (octets : List ℕ) → ¬ IsOpen m.plan (base_of m) m.past (passes.Ingress port) → Puts m (Frame port stamp octets) m Never
frame_closed m port stamp octets closed = (λ may. closed may.0.open_pass, λ want have wants. wants, refl)

pub frame_stepped : (m new : Machine) (port : Port) (stamp : ℕ) (octets : List ℕ) (stepped : Stepped) → stamp < 2 ^ 64 → length octets ≤ 1518
    → IsOpen m.plan (base_of m) m.past (passes.Ingress port) → Did m (Frame port stamp octets) new stepped → Puts m (Frame port stamp octets) new (put_of stepped)
frame_stepped m new port stamp octets (Done entry) fits few open_pass did = ((record { open_pass = open_pass; room = did.0; fits = fits }, few), did.2, did.3)
frame_stepped m new port stamp octets (Full len) fits few open_pass did = (λ may. true≢false (sym may.0.room ∙ did.0), λ want have wants. wants, did.1)
frame_stepped m new port stamp octets Nothing fits few open_pass did = absurd did.1

-- frames that are too long

pub long_short : (m : Machine) (port : Port) (stamp len : ℕ) → len ≤ 1518 → Puts m (Long port stamp len) m Never
long_short m port stamp len short = (λ may. let over = may.1 in omega (arith, over, short), λ want have wants. wants, refl)

pub long_closed : (m : Machine) (port : Port) (stamp len : ℕ) → ¬ IsOpen m.plan (base_of m) m.past (passes.Ingress port) → Puts m (Long port stamp len) m Never
long_closed m port stamp len closed = (λ may. closed may.0.open_pass, λ want have wants. wants, refl)

pub long_stepped : (m new : Machine) (port : Port) (stamp len : ℕ) (stepped : Stepped) → stamp < 2 ^ 64 → 1518 < len → len < 2 ^ 32
    → IsOpen m.plan (base_of m) m.past (passes.Ingress port) → Did m (Long port stamp len) new stepped → Puts m (Long port stamp len) new (put_of stepped)
long_stepped m new port stamp len (Done entry) fits over small open_pass did = ((record { open_pass = open_pass; room = did.0; fits = fits }, over, small), did.2, did.3)
long_stepped m new port stamp len (Full size) fits over small open_pass did = (λ may. true≢false (sym may.0.room ∙ did.0), λ want have wants. wants, did.1)
long_stepped m new port stamp len Nothing fits over small open_pass did = absurd did.1

-- ticks

pub tick_closed : (m : Machine) (stamp : ℕ) → ¬ IsOpen m.plan (base_of m) m.past passes.Ticker → Puts m (Tick stamp) m Never
tick_closed m stamp closed = (λ may. closed may.open_pass, λ want have wants. wants, refl)

pub tick_stepped : (m new : Machine) (stamp : ℕ) (stepped : Stepped) → stamp < 2 ^ 64 → IsOpen m.plan (base_of m) m.past passes.Ticker → Did m (Tick stamp) new stepped → Puts m (Tick stamp) new (put_of stepped)
tick_stepped m new stamp (Done entry) fits open_pass did = (record { open_pass = open_pass; room = did.0; fits = fits; changed = did.1 }, did.2, did.3)
tick_stepped m new stamp (Full len) fits open_pass did = (λ may. true≢false (sym may.room ∙ did.0), λ want have wants. wants, did.1)
tick_stepped m new stamp Nothing fits open_pass did = (λ may. did.1.0 may.changed, λ want have wants. wants, did.2)

-- lines of control

pub command_closed : (m : Machine) (stamp : ℕ) (line : List ℕ) → ¬ IsOpen m.plan (base_of m) m.past passes.Control → Puts m (Command stamp line) m Never
command_closed m stamp line closed = (λ may. closed may.0.open_pass, λ want have wants. wants, refl)

pub command_stepped : (m new : Machine) (stamp : ℕ) (line : List ℕ) (stepped : Stepped) → stamp < 2 ^ 64 → length line ≤ 120
    → IsOpen m.plan (base_of m) m.past passes.Control → Did m (Command stamp line) new stepped → Puts m (Command stamp line) new (put_of stepped)
command_stepped m new stamp line (Done entry) fits few open_pass did = ((record { open_pass = open_pass; room = did.0; fits = fits }, few), did.2, did.3)
command_stepped m new stamp line (Full len) fits few open_pass did = (λ may. true≢false (sym may.0.room ∙ did.0), λ want have wants. wants, did.1)
command_stepped m new stamp line Nothing fits few open_pass did = absurd did.1

-- drains

abbrev waiting : Machine → Port → ℕ
waiting m port = length (queue m.plan (base_of m) (number_of port) m.past)

pub drain_none : (m : Machine) (port : Port) (count : ℕ) → count ≡ 0 → Puts m (Drain port count) m Never
drain_none m port count none =
    (λ may. let some = may.1 in omega (arith, some, none), λ want have wants. let less = wants.2 in omega (arith, less, none), refl)

pub drain_closed : (m : Machine) (port : Port) (count : ℕ) → ¬ IsOpen m.plan (base_of m) m.past (passes.Egress port) → Puts m (Drain port count) m Never
drain_closed m port count closed = (λ may. closed may.0, λ want have wants. closed wants.0.0, refl)

pub drain_empty : (m : Machine) (port : Port) (count : ℕ) → waiting m port ≡ 0 → Puts m (Drain port count) m Never
drain_empty m port count none =
    (λ may. let some = may.1 in let few = may.2 in omega (arith, some, few, none), λ want have wants. let some = wants.0.1 in let few = wants.0.2 in omega (arith, some, few, none), refl)

pub drain_over : (m : Machine) (port : Port) (count queued : ℕ) → IsOpen m.plan (base_of m) m.past (passes.Egress port) → queued ≡ waiting m port → queued ≢ 0 → queued < count → Puts m (Drain port count) m (Other queued count)
drain_over m port count queued open_pass all some less =
    (((open_pass, omega (arith, some), omega (arith, all)), all, less, refl), refl)

pub drain_drained : (m new : Machine) (port : Port) (count : ℕ) (batch : List Item) (stepped : Stepped) → 1 ≤ count → count ≤ waiting m port
    → IsOpen m.plan (base_of m) m.past (passes.Egress port) → Drained m port count new batch stepped → Puts m (Drain port count) new (put_of stepped)
drain_drained m new port count batch (Done entry) some few open_pass did =
    let all : taken_count m port count ≡ count = omega (arith, few) in
    ((open_pass, some, few), did.2 ∙ ap (λ (n : ℕ). with_event m (Drain port n)) all, did.3 ∙ ap (λ (n : ℕ). entry_of m (Drain port n)) all)
drain_drained m new port count batch (Full len) some few open_pass did = absurd did
drain_drained m new port count batch Nothing some few open_pass did =
    let none : waiting m port ≡ 0 = ap length did.0 in
    absurd (omega (arith, some, few, none))

-- ends

pub end_closed : (m : Machine) (who : Who) (how : How) → ¬ IsOpen m.plan (base_of m) m.past who → Puts m (End who how) m Never
end_closed m who how closed = (λ may. closed may.0, λ want have wants. wants, refl)

pub end_never : (m : Machine) (who : Who) (how : How) → ¬ MayEnd m.plan (base_of m) m.past who how → Puts m (End who how) m Never
end_never m who how never = (λ may. never may.1, λ want have wants. wants, refl)

pub end_stepped : (m new : Machine) (who : Who) (how : How) (stepped : Stepped) → IsOpen m.plan (base_of m) m.past who → MayEnd m.plan (base_of m) m.past who how → Did m (End who how) new stepped → Puts m (End who how) new (put_of stepped)
end_stepped m new who how (Done entry) open_pass may did = ((open_pass, may), did.2, did.3)
end_stepped m new who how (Full len) open_pass may did = absurd did.0
end_stepped m new who how Nothing open_pass may did = absurd did.1
