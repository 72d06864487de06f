-- One read behind another.
use Rattle.std.proofs.Common.{◌≡◌, ℕ, Bool, List, [], ◌++◌, refl, ap, ◌∙◌, subst, append-nil, Option, Some, None}
use Rattle.savi_kinds.specs.declared.entry.How.{How}
use Rattle.savi_kinds.specs.Arrivals.{Arrival}
use Rattle.savi_ends.specs.Octets.{in_front, Takes}
use Rattle.savi_ends.proofs.Octets.{in_front_again}
use Rattle.pcap_io.specs.declared.kind.HeaderKind.{HeaderKind}
use Rattle.pcap_io.specs.Readers.{State, Running, Comes, HasRead}
use Rattle.pcap_io.specs.Runs.{ended}

-- the reader stands at a record
abbrev pub IsRunning : State → Type 0
IsRunning state = (kind : HeaderKind) × (place : ℕ) × (state ≡ Running kind place)

pub front_none : (o : Option (List ℕ)) → in_front [] o ≡ o
front_none None = refl
front_none (Some octets) = refl

pub takes_twice : (a b c : Option (List ℕ)) (one two : List ℕ) → Takes a b one → Takes b c two → Takes a c (one ++ two)
takes_twice a b c one two first next = first ∙ ap (in_front one) next ∙ in_front_again one two c

-- no whole arrival behind those that were read
pub read_behind : (first mid : State) (seen : Bool) (one two : List ℕ) (front : List Arrival) (ending : How) → HasRead first mid one front → Comes mid seen two (ended ending) → Comes first seen (one ++ two) (record { arrivals = front; ending = ending })
read_behind first mid seen one two front ending read_one comes =
    subst (λ (list : List Arrival). Comes first seen (one ++ two) (record { arrivals = list; ending = ending })) (append-nil front) (read_one seen two [] ending comes)
