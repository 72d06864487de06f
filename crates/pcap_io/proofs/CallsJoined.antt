-- What was read in call after call, joined.
use Rattle.std.proofs.Common.{◌≡◌, ℕ, true, false, List, [], ◌++◌, Option, Some, None, append_assoc, append-nil, IfSome, refl, subst}
use Rattle.savi_ends.proofs.Octets.{if_told}
use Rattle.savi_kinds.specs.declared.entry.How.{How}
use Rattle.savi_kinds.specs.declared.entry.How.TheVariants as how
use Rattle.pcap_io.specs.Runs.{ended}
use Rattle.savi_ends.specs.Octets.{Takes}
use Rattle.savi_kinds.specs.Arrivals.{Arrival}
use Rattle.pcap_io.specs.Readers.{State, Comes, HasRead, HasEnded, HasFailed}

-- a call that filled a whole buffer took what the buffer holds
pub takes_whole : (before after : Option (List ℕ)) (gave buf : List ℕ) → Takes before after gave → gave ≡ buf → Takes before after buf
takes_whole before after gave buf takes same = subst (λ (octets : List ℕ). Takes before after octets) same takes

-- before the first call nothing was read
pub has_read_none : (now : State) → HasRead now now [] []
has_read_none now seen rest later ending comes = comes

-- what one call read and then what the next one read
pub has_read_more : (first mid now : State) (a b : List ℕ) (arrivals more : List Arrival) → HasRead first mid a arrivals → HasRead mid now b more → HasRead first now (a ++ b) (arrivals ++ more)
has_read_more first mid now a b arrivals more one next seen rest later ending comes =
    rw (append_assoc a b rest, append_assoc arrivals more later) (one seen (b ++ rest) (more ++ later) ending (next seen rest later ending comes))

-- a call that read nothing took nothing
pub takes_none : (left : Option (List ℕ)) → Takes left left []
takes_none None = refl
takes_none (Some rest) = refl

-- A run of calls that read these arrivals and then ended: what they took together are these arrivals and
-- this ending, and so is the whole that was left at first, where that is told.
pub taken_input : (first mid now : State) (a b : List ℕ) (arrivals : List Arrival) (left : Option (List ℕ)) (ending : How) → HasRead first mid a arrivals → HasEnded mid now b left ending → Comes first true (a ++ b) (record { arrivals = arrivals; ending = ending })
taken_input first mid now a b arrivals left ending read one = rw append-nil at (read true b [] ending one.taken)

pub whole_input : (first mid now : State) (a b : List ℕ) (arrivals : List Arrival) (before left : Option (List ℕ)) (ending : How) → HasRead first mid a arrivals → HasEnded mid now b left ending → Takes before left (a ++ b) → IfSome before (λ octets. Comes first true octets (record { arrivals = arrivals; ending = ending }))
whole_input first mid now a b arrivals before left ending read one takes =
    if_told (λ octets. Comes first true octets (record { arrivals = arrivals; ending = ending })) (a ++ b) before left takes
    (λ rest told. rw (append_assoc a b rest) (rw append-nil at (read true (b ++ rest) [] ending (whole_of left rest one.whole told))))
  where
    whole_of : (left : Option (List ℕ)) (rest : List ℕ) → IfSome left (λ behind. Comes mid true (b ++ behind) (ended ending)) → left ≡ Some rest → Comes mid true (b ++ rest) (ended ending)
    whole_of left rest whole told = rw told at whole

-- A run of calls that read these arrivals and then failed: what they took together are these arrivals, and then a failed
-- read.
pub failed_input : (first mid now : State) (a b : List ℕ) (arrivals : List Arrival) → HasRead first mid a arrivals → HasFailed mid now b → Comes first false (a ++ b) (record { arrivals = arrivals; ending = how.Failed })
failed_input first mid now a b arrivals read one = rw append-nil at (read false b [] how.Failed one.taken)
