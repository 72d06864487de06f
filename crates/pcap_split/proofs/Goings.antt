-- One step after another.
use Rattle.std.proofs.Common.{◌≡◌, ◌⊎◌, inl, inr, ℕ, suc, ◌+◌, ◌^◌, ◌<◌, ◌≤◌, ◌==◌, Bool, true, false, List, [], ◌∷◌, ◌++◌, length, take, get_or, Option, Some, None, IfSome, refl, sym, ap, subst, ◌∙◌, arith, append-nil, append_assoc, length-append, if◌then◌else◌}
use Rattle.savi_kinds.specs.declared.entry.How.{How}
use Rattle.savi_kinds.specs.declared.entry.How.TheVariants as how
use Rattle.savi_ends.specs.Octets.{behind}
use Rattle.savi_ends.proofs.FaultCounts.{rose_since}
use Rattle.savi_ends.proofs.Octets.{behind_again}
use Rattle.pcap_io.specs.Captures.{Sent, record_text, records_text}
use Rattle.pcapng_io.specs.declared.next.NgNext.{NgNext}
use Rattle.pcapng_io.specs.declared.next.NgNext.TheVariants as next
use Rattle.pcapng_io.specs.Blocks.{Standing}
use Rattle.pcapng_io.specs.Runs.{Event, Begins, Frame, Long, ended}
use Rattle.pcapng_io.specs.Readers.{State, Reading, Ended, Comes, HasRead, HasReadOne, HasEnded, HasFailed, FailsIn, Answers, IsPlaced, block_place, last_answer}
use Rattle.pcapng_io.proofs.Readings.{has_read_more}
use Rattle.pcap_split.specs.declared.counts.Counts.{Counts}
use Rattle.pcap_split.specs.declared.output.Output.{Output}
use Rattle.pcap_split.specs.Splits.{Tally, frames_of, tallied, tally}
use Rattle.pcap_split.specs.Counts.{interfaces_of, tally_of, counted}
use Rattle.pcap_split.specs.declared.split.SplitGot.{SplitGot}
use Rattle.pcap_split.specs.declared.split.SplitGot.TheVariants as got
use Rattle.pcap_split.specs.Steps.{MayTake, Does, DoesEvent, Rests}
use Rattle.pcap_split.specs.Going.{Tells, Writes, split_behind, last_got, BreaksOff, IsAtBlock, HasTold, HasBroken, HasTaken, HasTakenBut, EachOutput, Differ, HasRisen, WriteRose, HasBegun}
use Rattle.pcap_split.specs.States.{Splitting, IsWithin}

pub tally_more : (a b : List Event) (t : Tally) → tally t (a ++ b) ≡ tally (tally t a) b
tally_more [] b t = refl
tally_more (e ∷ a) b t = tally_more a b (tallied t e)

pub sent_more : (a b : List Sent) → records_text (a ++ b) ≡ records_text a ++ records_text b
sent_more [] b = refl
sent_more (s ∷ a) b = ap (λ (l : List ℕ). record_text s.moment s.frame ++ l) (sent_more a b) ∙ sym (append_assoc (record_text s.moment s.frame) (records_text a) (records_text b))

frames_by : (here : Bool) (one : Sent) (ab a b : List Sent) → ab ≡ a ++ b → (if here then one ∷ ab else ab) ≡ (if here then one ∷ a else a) ++ b
frames_by true one ab a b same = ap (λ (l : List Sent). one ∷ l) same
frames_by false one ab a b same = same

pub frames_more : (k : ℕ) (a b : List Event) → frames_of k (a ++ b) ≡ frames_of k a ++ frames_of k b
frames_more k [] b = refl
frames_more k (Begins link ∷ a) b = frames_more k a b
frames_more k (Long interface ∷ a) b = frames_more k a b
frames_more k (Frame interface stamp octets ∷ a) b = frames_by (interface == k) (record { moment = stamp; frame = octets }) (frames_of k (a ++ b)) (frames_of k a) (frames_of k b) (frames_more k a b)

text_more : (k : ℕ) (a b : List Event) → records_text (frames_of k a) ++ records_text (frames_of k b) ≡ records_text (frames_of k (a ++ b))
text_more k a b = sym (sent_more (frames_of k a) (frames_of k b)) ∙ ap (λ (l : List Sent). records_text l) (sym (frames_more k a b))

taken_more : {K : Type 0} (written : K → Option (List ℕ)) (faults : K → ℕ) (a b : List Event) (o m n : Output K) → HasTaken written faults a o m → HasTaken written faults b m n → HasTaken written faults (a ++ b) o n
taken_more written faults a b o m n first second = record {
  same = second.same ∙ first.same;
  still = second.still ∙ first.still;
  text = second.text
      ∙ ap (λ (w : Option (List ℕ)). behind w (records_text (frames_of m.interface b))) first.text
      ∙ ap (λ (k : ℕ). behind (behind (written o.sink) (records_text (frames_of o.interface a))) (records_text (frames_of k b))) first.same
      ∙ behind_again (written o.sink) (records_text (frames_of o.interface a)) (records_text (frames_of o.interface b))
      ∙ ap (behind (written o.sink)) (text_more o.interface a b);
}

but_more : {K : Type 0} (written : K → Option (List ℕ)) (faults : K → ℕ) (failed : ℕ) (a : List Event) (stamp : ℕ) (octets : List ℕ) (o m n : Output K) → HasTaken written faults a o m → HasTakenBut written faults failed [] stamp octets m n → HasTakenBut written faults failed a stamp octets o n
but_more written faults failed a stamp octets o m n first second = (
  λ other. taken_more written faults a (Frame failed stamp octets ∷ []) o m n first (second.0 (λ e. other (sym first.same ∙ e))),
  λ is.
      let one = second.1 (first.same ∙ is) in
      record {
        same = one.same ∙ first.same;
        rose = rose_since (faults o.sink) (faults m.sink) (faults n.sink) first.still one.rose;
        text = (
          one.text.0,
          one.text.1,
          one.text.2 ∙ ap (λ (w : Option (List ℕ)). behind w one.text.0) first.text ∙ behind_again (written o.sink) (records_text (frames_of o.interface a)) one.text.0,
        );
      },
)

pub each_taken : {K : Type 0} (written : K → Option (List ℕ)) (faults : K → ℕ) (a b : List Event) (old mid new : List (Output K)) → EachOutput (HasTaken written faults a) old mid → EachOutput (HasTaken written faults b) mid new → EachOutput (HasTaken written faults (a ++ b)) old new
each_taken written faults a b old mid new first second = (
  second.0 ∙ first.0,
  λ k d within. taken_more written faults a b (get_or old k d) (get_or mid k d) (get_or new k d) (first.1 k d within) (second.1 k d (omega (arith, within, first.0))),
)

pub each_but : {K : Type 0} (written : K → Option (List ℕ)) (faults : K → ℕ) (failed : ℕ) (a : List Event) (stamp : ℕ) (octets : List ℕ) (old mid new : List (Output K)) → EachOutput (HasTaken written faults a) old mid → EachOutput (HasTakenBut written faults failed [] stamp octets) mid new → EachOutput (HasTakenBut written faults failed a stamp octets) old new
each_but written faults failed a stamp octets old mid new first second = (
  second.0 ∙ first.0,
  λ k d within. but_more written faults failed a stamp octets (get_or old k d) (get_or mid k d) (get_or new k d) (first.1 k d within) (second.1 k d (omega (arith, within, first.0))),
)

-- before the first event
pub none_yet : {K : Type 0} (written : K → Option (List ℕ)) (faults : K → ℕ) (outputs : List (Output K)) → EachOutput (HasTaken written faults []) outputs outputs
none_yet written faults outputs = (refl, λ k d within. record { same = refl; still = refl; text = nothing (written (get_or outputs k d).sink) })
  where
    nothing : (o : Option (List ℕ)) → o ≡ behind o []
    nothing None = refl
    nothing (Some w) = ap (λ (l : List ℕ). Some l) (sym (append-nil w))

-- the outputs are still of the same interfaces
pub same_interfaces : {K : Type 0} (old new : List (Output K)) → length new ≡ length old → ((k : ℕ) (d : Output K) → k < length old → (get_or new k d).interface ≡ (get_or old k d).interface) → interfaces_of new ≡ interfaces_of old
same_interfaces [] [] size same = refl
same_interfaces [] (n ∷ new) size same = absurd (omega (arith, size))
same_interfaces (o ∷ old) [] size same = absurd (omega (arith, size))
same_interfaces {K} (o ∷ old) (n ∷ new) size same =
    ap (λ (k : ℕ). k ∷ interfaces_of new) (same 0 o (omega arith))
    ∙ ap (λ (l : List ℕ). o.interface ∷ l) (same_interfaces old new (omega (arith, size)) (λ k (d : Output K) within. same (suc k) d (omega (arith, within))))

pub interfaces_stay : {K : Type 0} (written : K → Option (List ℕ)) (faults : K → ℕ) (events : List Event) (old new : List (Output K)) → EachOutput (HasTaken written faults events) old new → interfaces_of new ≡ interfaces_of old
interfaces_stay written faults events old new each = same_interfaces old new each.0 (λ k d within. (each.1 k d within).same)

pub differ_still : {K : Type 0} (written : K → Option (List ℕ)) (faults : K → ℕ) (events : List Event) (old new : List (Output K)) → EachOutput (HasTaken written faults events) old new → Differ old → Differ new
differ_still written faults events old new each differ j k d inside within same =
    let j_old : j < length old = omega (arith, inside, each.0) in
    let k_old : k < length old = omega (arith, within, each.0) in
    differ j k d j_old k_old (sym (each.1 j d j_old).same ∙ same ∙ (each.1 k d k_old).same)

-- the capture has ended behind events
pub told_behind : (first mid new : State) (gave g : List ℕ) (left : Option (List ℕ)) (events : List Event) (ending : How) → HasRead first mid gave events → block_place mid ≡ block_place first + length gave → HasEnded mid new g left ending → HasTold first new (gave ++ g) left events ending
told_behind first mid new gave g left events ending was place one = record {
  state = one.state;
  taken = rw append-nil at (was g [] ending one.taken);
  whole = by left one.whole;
  near = λ at is. omega (arith, place, one.near at is, length-append gave g);
}
  where
    by : (left : Option (List ℕ)) → IfSome left (λ rest. Comes mid (g ++ rest) (ended ending)) → IfSome left (λ rest. Comes first ((gave ++ g) ++ rest) (record { events = events; ending = ending }))
    by None whole = tt
    by (Some rest) whole = rw (append_assoc gave g rest) (rw append-nil at (was (g ++ rest) [] ending whole))

-- octets that break off, behind others
pub breaks_behind : (first s : Standing) (gave more : List ℕ) (events later : List Event) → HasRead (Reading first) (Reading s) gave events → BreaksOff (Reading s) more later → BreaksOff (Reading first) (gave ++ more) (events ++ later)
breaks_behind first s gave more events later was one = (
  one.0,
  gave ++ one.1,
  one.2,
  ap (λ (l : List ℕ). gave ++ l) one.3 ∙ sym (append_assoc gave one.1 one.2),
  has_read_more (Reading first) (Reading s) (Reading one.0) gave one.1 events later was one.4,
  one.5,
)

-- the same of a state that stands at a block
pub breaks_behind_state : (first : Standing) (mid : State) (gave more : List ℕ) (events later : List Event) → IsAtBlock mid → HasRead (Reading first) mid gave events → BreaksOff mid more later → BreaksOff (Reading first) (gave ++ more) (events ++ later)
breaks_behind_state first mid gave more events later at was one =
    breaks_behind first at.0 gave more events later (subst (λ (m : State). HasRead (Reading first) m gave events) at.1 was) (subst (λ (m : State). BreaksOff m more later) at.1 one)

-- a reader is where it was, or it stands at a block
abbrev pub IsOn : State → State → Type 0
IsOn first mid = (mid ≡ first) ⊎ IsAtBlock mid

breaks_now : (first mid : State) (gave g : List ℕ) (events : List Event) → IsOn first mid → HasRead first mid gave events → FailsIn mid g → BreaksOff first (gave ++ g) events
breaks_now (Reading first) mid gave g events (inl same) was fails = rw append-nil at (breaks_behind_state first mid gave g events [] (first, same) was (subst (λ (m : State). BreaksOff m g []) (sym same) (subst (λ (m : State). FailsIn m g) same fails)))
breaks_now (Reading first) mid gave g events (inr at) was fails = rw append-nil at (breaks_behind_state first mid gave g events [] at was (subst (λ (m : State). BreaksOff m g []) (sym at.1) (subst (λ (m : State). FailsIn m g) at.1 fails)))
breaks_now (Ended ending) mid gave g events on was fails = tt

pub broken_behind : (first mid new : State) (gave g : List ℕ) (events : List Event) → IsOn first mid → HasRead first mid gave events → HasFailed mid new g → HasBroken first new (gave ++ g) events
broken_behind first mid new gave g events on was one = record {
  state = one.state;
  taken = (one.taken.0, rw append-nil at (was g [] one.taken.0 one.taken.1));
  unread = breaks_now first mid gave g events on was one.unread;
}

-- an answer that tells something
abbrev pub TellsEvent : NgNext → Type 0
TellsEvent (next.Interface link) = Unit {0}
TellsEvent (next.Frame interface stamp len) = Unit {0}
TellsEvent (next.Long interface) = Unit {0}
TellsEvent next.End = ⊥
TellsEvent (next.Malformed at) = ⊥
TellsEvent next.Failed = ⊥

-- a reader that has ended tells nothing
pub counted_within : (mid : State) (counts : Counts) (answer : NgNext) (X : NgNext → Type 0) → ((a : NgNext) → X a → answer ≡ a) → IsWithin mid counts → IfSome (last_answer mid) X → TellsEvent answer → counted counts ≤ block_place mid
counted_within (Reading s) counts answer X same within again event = within.1
counted_within (Ended how.End) counts answer X same within again event = absurd (subst TellsEvent (same next.End again) event)
counted_within (Ended (how.Malformed at)) counts answer X same within again event = absurd (subst TellsEvent (same (next.Malformed at) again) event)
counted_within (Ended how.Failed) counts answer X same within again event = absurd (subst TellsEvent (same next.Failed again) event)
counted_within (Ended how.Quit) counts answer X same within again event = absurd (cc (within))
counted_within (Ended (how.Overlong at)) counts answer X same within again event = absurd (cc (within))
counted_within (Ended how.Unwritten) counts answer X same within again event = absurd (cc (within))
counted_within (Ended how.Paused) counts answer X same within again event = absurd (cc (within))

pub place_within : (now : State) (place : ℕ) → IsPlaced now → (s : Standing) × (now ≡ Reading s) × (s.place ≡ place) → place ≤ 2 ^ 62
place_within now place placed reading = omega (arith, (subst IsPlaced reading.1 placed).placed, reading.2)

room_for : (old new : State) (gave : List ℕ) (event : Event) (n : ℕ) → HasReadOne old new gave event → IsPlaced new → n ≤ block_place old → n < 2 ^ 62
room_for old new gave event n one placed within = omega (arith, within, one.some, place_within new (block_place old + length gave) placed one.reading)

pub may_take : (mid new : State) (gave buf : List ℕ) (left : Option (List ℕ)) (counts : Counts) (answer : NgNext) → Answers mid new gave buf left answer → IsPlaced new → (TellsEvent answer → counted counts ≤ block_place mid) → MayTake answer counts
may_take mid new gave buf left counts (next.Interface link) answers placed within = room_for mid new gave (Begins link) (counted counts) answers placed (within tt)
may_take mid new gave buf left counts (next.Frame interface stamp len) answers placed within = (answers.0, room_for mid new gave _ (counted counts) answers.1 placed (within tt))
may_take mid new gave buf left counts (next.Long interface) answers placed within = room_for mid new gave (Long interface) (counted counts) answers placed (within tt)
may_take mid new gave buf left counts next.End answers placed within = tt
may_take mid new gave buf left counts (next.Malformed at) answers placed within = tt
may_take mid new gave buf left counts next.Failed answers placed within = tt

-- what was read, counted and written so far
pub record SoFar {K : Type 0} (written : K → Option (List ℕ)) (faults : K → ℕ) (first now : State) (counts0 counts : Counts) (old new : List (Output K)) (gave : List ℕ) (events : List Event) : Type 0 where
  pub on : IsOn first now
  pub read : HasRead first now gave events
  pub place : block_place now ≡ block_place first + length gave
  pub each : EachOutput (HasTaken written faults events) old new
  pub tallied_is : tally_of counts (interfaces_of old) ≡ tally (tally_of counts0 (interfaces_of old)) events

tally_step : (counts0 counts counts' : Counts) (split split' : List ℕ) (events : List Event) (event : Event) → tally_of counts split ≡ tally (tally_of counts0 split) events → tally_of counts' split' ≡ tallied (tally_of counts split) event → tally_of counts' split' ≡ tally (tally_of counts0 split) (events ++ event ∷ [])
tally_step counts0 counts counts' split split' events event was one = one ∙ ap (λ (t : Tally). tallied t event) was ∙ sym (tally_more events (event ∷ []) (tally_of counts0 split))

-- where a reader stands behind one event more
place_more : (first mid new : State) (gave g : List ℕ) (event : Event) → block_place mid ≡ block_place first + length gave → HasReadOne mid new g event → block_place new ≡ block_place first + length (gave ++ g)
place_more first mid new gave g event was one = omega (arith, ap block_place one.reading.1, one.reading.2, was, length-append gave g)

-- one event more
pub event_more : {K : Type 0} (written : K → Option (List ℕ)) (faults : K → ℕ) (first mid new : State) (counts0 counts counts' : Counts) (old outputs outputs' : List (Output K)) (gave g : List ℕ) (events : List Event) (event : Event) → SoFar written faults first mid counts0 counts old outputs gave events → HasReadOne mid new g event
    → EachOutput (HasTaken written faults (event ∷ [])) outputs outputs' → tally_of counts' (interfaces_of outputs ++ []) ≡ tallied (tally_of counts (interfaces_of outputs)) event → SoFar written faults first new counts0 counts' old outputs' (gave ++ g) (events ++ event ∷ [])
event_more written faults first mid new counts0 counts counts' old outputs outputs' gave g events event was one each one_tallied =
    let stay = interfaces_stay written faults events old outputs was.each in
    record {
      on = inr (one.reading.0, one.reading.1);
      read = has_read_more first mid new gave g events (event ∷ []) was.read one.read;
      place = place_more first mid new gave g event was.place one;
      each = each_taken written faults events (event ∷ []) old outputs outputs' was.each each;
      tallied_is = tally_step counts0 counts counts' (interfaces_of old) (interfaces_of old) events event was.tallied_is
          (subst (λ (l : List ℕ). tally_of counts' l ≡ tallied (tally_of counts l) event) stay (subst (λ (l : List ℕ). tally_of counts' l ≡ tallied (tally_of counts (interfaces_of outputs)) event) (append-nil (interfaces_of outputs)) one_tallied));
    }

within_more : (mid new : State) (g : List ℕ) (event : Event) (counts counts' : Counts) → HasReadOne mid new g event → IsPlaced new → counted counts ≤ block_place mid → counted counts' ≡ counted counts + 1 → IsWithin new counts'
within_more mid new g event counts counts' one placed within more =
    let r = one.reading in
    subst (λ (state : State). IsWithin state counts') (sym r.1) (subst IsPlaced r.1 placed, omega (arith, r.2, within, more, one.some))

-- A step that goes on.
pub record GoesOn {K : Type 0} (written : K → Option (List ℕ)) (faults : K → ℕ) (first mid new : State) (counts0 counts' : Counts) (old outputs' : List (Output K)) (gave g : List ℕ) : Type 0 where
  pub events : List Event
  pub sofar : SoFar written faults first new counts0 counts' old outputs' (gave ++ g) events
  pub within : IsWithin new counts'
  pub reading : (s : Standing) × (new ≡ Reading s) × (s.place ≡ block_place mid + length g)
  pub some : 12 ≤ length g

go_event : {K : Type 0} (written : K → Option (List ℕ)) (faults : K → ℕ) (first mid new : State) (counts0 counts counts' : Counts) (old outputs outputs' : List (Output K)) (gave g : List ℕ) (events : List Event) (event : Event) → SoFar written faults first mid counts0 counts old outputs gave events → HasReadOne mid new g event
    → IsPlaced new → counted counts ≤ block_place mid → DoesEvent written faults event counts counts' outputs outputs' None → GoesOn written faults first mid new counts0 counts' old outputs' gave g
go_event written faults first mid new counts0 counts counts' old outputs outputs' gave g events event was one placed within does = record {
  events = events ++ event ∷ [];
  sofar = event_more written faults first mid new counts0 counts counts' old outputs outputs' gave g events event was one does.0 does.1.1;
  within = within_more mid new g event counts counts' one placed within does.1.0;
  reading = one.reading;
  some = one.some;
}

pub goes_on : {K : Type 0} (written : K → Option (List ℕ)) (faults : K → ℕ) (first mid new : State) (counts0 counts counts' : Counts) (old outputs outputs' : List (Output K)) (gave g buf : List ℕ) (left : Option (List ℕ)) (events : List Event) (answer : NgNext) → SoFar written faults first mid counts0 counts old outputs gave events
    → Answers mid new g buf left answer → IsPlaced new → (TellsEvent answer → counted counts ≤ block_place mid) → Does written faults answer buf counts counts' outputs outputs' None → GoesOn written faults first mid new counts0 counts' old outputs' gave g
goes_on written faults first mid new counts0 counts counts' old outputs outputs' gave g buf left events (next.Interface link) was answers placed within does = go_event written faults first mid new counts0 counts counts' old outputs outputs' gave g events (Begins link) was answers placed (within tt) does
goes_on written faults first mid new counts0 counts counts' old outputs outputs' gave g buf left events (next.Frame interface stamp len) was answers placed within does = go_event written faults first mid new counts0 counts counts' old outputs outputs' gave g events _ was answers.1 placed (within tt) does
goes_on written faults first mid new counts0 counts counts' old outputs outputs' gave g buf left events (next.Long interface) was answers placed within does = go_event written faults first mid new counts0 counts counts' old outputs outputs' gave g events (Long interface) was answers placed (within tt) does
goes_on written faults first mid new counts0 counts counts' old outputs outputs' gave g buf left events next.End was answers placed within does = absurd (cc (does.0))
goes_on written faults first mid new counts0 counts counts' old outputs outputs' gave g buf left events (next.Malformed at) was answers placed within does = absurd (cc (does.0))
goes_on written faults first mid new counts0 counts counts' old outputs outputs' gave g buf left events next.Failed was answers placed within does = absurd (cc (does.0))

-- A step that stops.
pub record StopsAt {K : Type 0} (written : K → Option (List ℕ)) (faults : K → ℕ) (first new : State) (counts0 counts' : Counts) (old outputs' : List (Output K)) (gave : List ℕ) (left : Option (List ℕ)) (stop : SplitGot) : Type 0 where
  pub events : List Event
  pub tells : Tells stop first new gave left events
  pub begun : HasBegun stop (tally_of counts0 (interfaces_of old)) events
  pub writes : Writes written faults stop events old outputs'
  pub tallied_is : tally_of counts' (split_behind stop (interfaces_of old)) ≡ tally (tally_of counts0 (interfaces_of old)) events

stop_event : {K : Type 0} (written : K → Option (List ℕ)) (faults : K → ℕ) (first mid new : State) (counts0 counts counts' : Counts) (old outputs outputs' : List (Output K)) (gave g : List ℕ) (left : Option (List ℕ)) (events : List Event) (event : Event) (stop : SplitGot) → SoFar written faults first mid counts0 counts old outputs gave events → HasReadOne mid new g event
    → DoesEvent written faults event counts counts' outputs outputs' (Some stop) → StopsAt written faults first new counts0 counts' old outputs' (gave ++ g) left stop
stop_event written faults first mid new counts0 counts counts' old outputs outputs' gave g left events event (got.Opens interface) was one does =
    let stay = interfaces_stay written faults events old outputs was.each in
    record {
      events = events ++ event ∷ [];
      tells = record { read = has_read_more first mid new gave g events (event ∷ []) was.read one.read; reading = (one.reading.0, one.reading.1); place = place_more first mid new gave g event was.place one };
      begun = (
        events,
        ap (λ (e : Event). events ++ e ∷ []) does.2,
        does.3 ∙ ap (λ (t : Tally). t.interfaces) was.tallied_is,
      );
      writes = each_taken written faults events (event ∷ []) old outputs outputs' was.each does.0;
      tallied_is = tally_step counts0 counts counts' (interfaces_of old) (interfaces_of old ++ interface ∷ []) events event was.tallied_is
          (subst (λ (l : List ℕ). tally_of counts' (l ++ interface ∷ []) ≡ tallied (tally_of counts l) event) stay does.1.1);
    }
stop_event written faults first mid new counts0 counts counts' old outputs outputs' gave g left events event (got.Unwritten interface) was one does =
    let stay = interfaces_stay written faults events old outputs was.each in
    record {
      events = events ++ event ∷ [];
      tells = record { read = has_read_more first mid new gave g events (event ∷ []) was.read one.read; reading = (one.reading.0, one.reading.1); place = place_more first mid new gave g event was.place one };
      begun = tt;
      writes = (events, does.0, does.1, ap (λ (e : Event). events ++ e ∷ []) does.2, each_but written faults interface events does.0 does.1 old outputs outputs' was.each does.3);
      tallied_is = tally_step counts0 counts counts' (interfaces_of old) (interfaces_of old) events event was.tallied_is
          (subst (λ (l : List ℕ). tally_of counts' l ≡ tallied (tally_of counts l) event) stay (subst (λ (l : List ℕ). tally_of counts' l ≡ tallied (tally_of counts (interfaces_of outputs)) event) (append-nil (interfaces_of outputs)) does.4.1));
    }
stop_event written faults first mid new counts0 counts counts' old outputs outputs' gave g left events event got.End was one does = absurd does
stop_event written faults first mid new counts0 counts counts' old outputs outputs' gave g left events event (got.Malformed at) was one does = absurd does
stop_event written faults first mid new counts0 counts counts' old outputs outputs' gave g left events event got.Failed was one does = absurd does

some_same : (a b : SplitGot) → Some b ≡ Some a → a ≡ b
some_same a b same = cc

rests : {K : Type 0} (written : K → Option (List ℕ)) (faults : K → ℕ) (first new : State) (counts0 counts counts' : Counts) (old outputs outputs' : List (Output K)) (gave : List ℕ) (left : Option (List ℕ)) (events : List Event) (is stop : SplitGot) → EachOutput (HasTaken written faults events) old outputs → tally_of counts (interfaces_of old) ≡ tally (tally_of counts0 (interfaces_of old)) events
    → (EachOutput (HasTaken written faults events) old outputs → Writes written faults is events old outputs) → split_behind is (interfaces_of old) ≡ interfaces_of old → Tells is first new gave left events → HasBegun is (tally_of counts0 (interfaces_of old)) events → Rests is counts counts' outputs outputs' (Some stop) → StopsAt written faults first new counts0 counts' old outputs' gave left stop
rests written faults first new counts0 counts counts' old outputs outputs' gave left events is stop each tallied_is writes stay tells begun does =
    subst (λ (g : SplitGot). StopsAt written faults first new counts0 counts' old outputs' gave left g) (some_same is stop does.0)
    (subst (λ (o : List (Output _)). StopsAt written faults first new counts0 counts' old o gave left is) (sym does.2)
    (subst (λ (c : Counts). StopsAt written faults first new counts0 c old outputs gave left is) (sym does.1)
    (record { events = events; tells = tells; begun = begun; writes = writes each; tallied_is = ap (tally_of counts) stay ∙ tallied_is })))

pub stops_at : {K : Type 0} (written : K → Option (List ℕ)) (faults : K → ℕ) (first mid new : State) (counts0 counts counts' : Counts) (old outputs outputs' : List (Output K)) (gave g buf : List ℕ) (left : Option (List ℕ)) (events : List Event) (answer : NgNext) (stop : SplitGot) → SoFar written faults first mid counts0 counts old outputs gave events
    → Answers mid new g buf left answer → Does written faults answer buf counts counts' outputs outputs' (Some stop) → StopsAt written faults first new counts0 counts' old outputs' (gave ++ g) left stop
stops_at written faults first mid new counts0 counts counts' old outputs outputs' gave g buf left events (next.Interface link) stop was answers does = stop_event written faults first mid new counts0 counts counts' old outputs outputs' gave g left events (Begins link) stop was answers does
stops_at written faults first mid new counts0 counts counts' old outputs outputs' gave g buf left events (next.Frame interface stamp len) stop was answers does = stop_event written faults first mid new counts0 counts counts' old outputs outputs' gave g left events _ stop was answers.1 does
stops_at written faults first mid new counts0 counts counts' old outputs outputs' gave g buf left events (next.Long interface) stop was answers does = stop_event written faults first mid new counts0 counts counts' old outputs outputs' gave g left events (Long interface) stop was answers does
stops_at written faults first mid new counts0 counts counts' old outputs outputs' gave g buf left events next.End stop was answers does =
    rests written faults first new counts0 counts counts' old outputs outputs' (gave ++ g) left events got.End stop was.each was.tallied_is (λ e. e) refl (told_behind first mid new gave g left events how.End was.read was.place answers) tt does
stops_at written faults first mid new counts0 counts counts' old outputs outputs' gave g buf left events (next.Malformed at) stop was answers does =
    rests written faults first new counts0 counts counts' old outputs outputs' (gave ++ g) left events (got.Malformed at) stop was.each was.tallied_is (λ e. e) refl (told_behind first mid new gave g left events (how.Malformed at) was.read was.place answers) tt does
stops_at written faults first mid new counts0 counts counts' old outputs outputs' gave g buf left events next.Failed stop was answers does =
    rests written faults first new counts0 counts counts' old outputs outputs' (gave ++ g) left events got.Failed stop was.each was.tallied_is (λ e. e) refl (broken_behind first mid new gave g events was.on was.read answers) tt does

risen_since : {K : Type 0} (written : K → Option (List ℕ)) (faults : K → ℕ) (events : List Event) (interface : ℕ) (old mid new : List (Output K)) → EachOutput (HasTaken written faults events) old mid → HasRisen faults interface mid new → HasRisen faults interface old new
risen_since {K} written faults events interface old mid new each risen =
    let place = risen.0 in
    let inside : place < length old = omega (arith, risen.1.0, each.0) in (
      place,
      (inside, λ (d : Output K). sym (each.1 place d inside).same ∙ risen.1.1 d),
      λ (d : Output K). rose_since (faults (get_or old place d).sink) (faults (get_or mid place d).sink) (faults (get_or new place d).sink) (each.1 place d inside).still (risen.2 d),
    )

event_rose : {K : Type 0} (written : K → Option (List ℕ)) (faults : K → ℕ) (event : Event) (counts counts' : Counts) (outputs outputs' : List (Output K)) (stop : SplitGot) → DoesEvent written faults event counts counts' outputs outputs' (Some stop) → WriteRose faults stop outputs outputs'
event_rose written faults event counts counts' outputs outputs' (got.Opens interface) does = tt
event_rose written faults event counts counts' outputs outputs' (got.Unwritten interface) does = does.5
event_rose written faults event counts counts' outputs outputs' got.End does = tt
event_rose written faults event counts counts' outputs outputs' (got.Malformed at) does = tt
event_rose written faults event counts counts' outputs outputs' got.Failed does = tt

answer_rose : {K : Type 0} (written : K → Option (List ℕ)) (faults : K → ℕ) (answer : NgNext) (buf : List ℕ) (counts counts' : Counts) (outputs outputs' : List (Output K)) (stop : SplitGot) → Does written faults answer buf counts counts' outputs outputs' (Some stop) → WriteRose faults stop outputs outputs'
answer_rose written faults (next.Interface link) buf counts counts' outputs outputs' stop does = event_rose written faults (Begins link) counts counts' outputs outputs' stop does
answer_rose written faults (next.Frame interface stamp len) buf counts counts' outputs outputs' stop does = event_rose written faults _ counts counts' outputs outputs' stop does
answer_rose written faults (next.Long interface) buf counts counts' outputs outputs' stop does = event_rose written faults (Long interface) counts counts' outputs outputs' stop does
answer_rose written faults next.End buf counts counts' outputs outputs' stop does = subst (λ (s : SplitGot). WriteRose faults s outputs outputs') (some_same got.End stop does.0) tt
answer_rose written faults (next.Malformed at) buf counts counts' outputs outputs' stop does = subst (λ (s : SplitGot). WriteRose faults s outputs outputs') (some_same (got.Malformed at) stop does.0) tt
answer_rose written faults next.Failed buf counts counts' outputs outputs' stop does = subst (λ (s : SplitGot). WriteRose faults s outputs outputs') (some_same got.Failed stop does.0) tt

since_start : {K : Type 0} (written : K → Option (List ℕ)) (faults : K → ℕ) (events : List Event) (stop : SplitGot) (old mid new : List (Output K)) → EachOutput (HasTaken written faults events) old mid → WriteRose faults stop mid new → WriteRose faults stop old new
since_start written faults events (got.Opens interface) old mid new each rose = tt
since_start written faults events (got.Unwritten interface) old mid new each rose = risen_since written faults events interface old mid new each rose
since_start written faults events got.End old mid new each rose = tt
since_start written faults events (got.Malformed at) old mid new each rose = tt
since_start written faults events got.Failed old mid new each rose = tt

pub rose_at : {K : Type 0} (written : K → Option (List ℕ)) (faults : K → ℕ) (events : List Event) (answer : NgNext) (buf : List ℕ) (counts counts' : Counts) (old outputs outputs' : List (Output K)) (stop : SplitGot) → EachOutput (HasTaken written faults events) old outputs → Does written faults answer buf counts counts' outputs outputs' (Some stop) → WriteRose faults stop old outputs'
rose_at written faults events answer buf counts counts' old outputs outputs' stop each does = since_start written faults events stop old outputs outputs' each (answer_rose written faults answer buf counts counts' outputs outputs' stop does)

-- a splitter answers that a read failed only where the reader did
pub failed_by : {K : Type 0} (written : K → Option (List ℕ)) (faults : K → ℕ) (answer : NgNext) (buf : List ℕ) (counts counts' : Counts) (outputs outputs' : List (Output K)) (stop : SplitGot) → Does written faults answer buf counts counts' outputs outputs' (Some stop) → stop ≡ got.Failed → answer ≡ next.Failed
failed_by written faults (next.Interface link) buf counts counts' outputs outputs' stop does is = absurd (subst (λ (s : SplitGot). DoesEvent written faults (Begins link) counts counts' outputs outputs' (Some s)) is does)
failed_by written faults (next.Frame interface stamp len) buf counts counts' outputs outputs' stop does is = absurd (subst (λ (s : SplitGot). DoesEvent written faults (Frame interface stamp (take len buf)) counts counts' outputs outputs' (Some s)) is does)
failed_by written faults (next.Long interface) buf counts counts' outputs outputs' stop does is = absurd (subst (λ (s : SplitGot). DoesEvent written faults (Long interface) counts counts' outputs outputs' (Some s)) is does)
failed_by written faults next.End buf counts counts' outputs outputs' stop does is = absurd (cc (does.0, is))
failed_by written faults (next.Malformed at) buf counts counts' outputs outputs' stop does is = absurd (cc (does.0, is))
failed_by written faults next.Failed buf counts counts' outputs outputs' stop does is = refl

-- a reader's read failed only where a splitter answers so
pub failed_back : {K : Type 0} (written : K → Option (List ℕ)) (faults : K → ℕ) (answer : NgNext) (buf : List ℕ) (counts counts' : Counts) (outputs outputs' : List (Output K)) (stop : SplitGot) → Does written faults answer buf counts counts' outputs outputs' (Some stop) → answer ≡ next.Failed → stop ≡ got.Failed
failed_back written faults answer buf counts counts' outputs outputs' stop does is =
    some_same stop got.Failed (sym (subst (λ (a : NgNext). Does written faults a buf counts counts' outputs outputs' (Some stop)) is does).0)

abbrev pub splitting : State → Counts → Splitting
splitting state counts = record { reading = state; counts = counts }

-- a splitter whose reader had ended asks it once more
module _ {K Q : Type 0} (written : K → Option (List ℕ)) (faults : K → ℕ) (mid new : State) (counts0 counts counts' : Counts) (old outputs outputs' : List (Output K)) (source0 source source' : Q) (held buf : List ℕ) (answer : NgNext) (result : Option SplitGot) where
  abbrev IsSaid : NgNext → Type 0
  IsSaid a = (answer ≡ a) × (new ≡ mid) × (source' ≡ source) × (buf ≡ held)

  -- nothing was done so far
  abbrev IsIdle : State → Type 0
  IsIdle first = (mid ≡ first) × (counts ≡ counts0) × (source ≡ source0) × (outputs ≡ old)

  -- nothing is done now
  abbrev StaysIdle : State → SplitGot → Type 0
  StaysIdle first got = (result ≡ Some got) × (splitting new counts' ≡ splitting first counts0) × (source' ≡ source0) × (outputs' ≡ old)

  module _ (again : IfSome (last_answer mid) IsSaid) (does : Does written faults answer buf counts counts' outputs outputs' result) where
    stays_idle : (ending : How) (a : NgNext) (stop : SplitGot) → (IfSome (last_answer (Ended ending)) IsSaid → IsSaid a) → (Does written faults a buf counts counts' outputs outputs' result → Rests stop counts counts' outputs outputs' result) → IsIdle (Ended ending) → StaysIdle (Ended ending) stop
    stays_idle ending a stop says rests_so idle =
        let said = says (subst (λ (m : State). IfSome (last_answer m) IsSaid) idle.0 again) in
        let rested = rests_so (subst (λ (x : NgNext). Does written faults x buf counts counts' outputs outputs' result) said.0 does) in (
          rested.0,
          ap (λ (s : State). splitting s counts') (said.1 ∙ idle.0) ∙ ap (splitting (Ended ending)) (rested.1 ∙ idle.1),
          said.2 ∙ idle.2,
          rested.2 ∙ idle.3,
        )

    pub idle_again : (first : State) → IfSome (last_got first) (λ got. IsIdle first) → IfSome (last_got first) (StaysIdle first)
    idle_again (Reading s) idle = tt
    idle_again (Ended how.End) idle = stays_idle how.End next.End got.End (λ l. l) (λ d. d) idle
    idle_again (Ended (how.Malformed at)) idle = stays_idle (how.Malformed at) (next.Malformed at) (got.Malformed at) (λ l. l) (λ d. d) idle
    idle_again (Ended how.Failed) idle = stays_idle how.Failed next.Failed got.Failed (λ l. l) (λ d. d) idle
    idle_again (Ended how.Quit) idle = tt
    idle_again (Ended (how.Overlong at)) idle = tt
    idle_again (Ended how.Unwritten) idle = tt
    idle_again (Ended how.Paused) idle = tt

pub if_any : {X : Type 0} (o : Option X) (P : X → Type 0) → ((x : X) → P x) → IfSome o P
if_any None P all = tt
if_any (Some x) P all = all x

pub if_more : {X : Type 0} {P R : X → Type 0} (o : Option X) → IfSome o P → ((x : X) → P x → R x) → IfSome o R
if_more None is more = tt
if_more (Some x) is more = more x is
