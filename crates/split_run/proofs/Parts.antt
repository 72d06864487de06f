-- What was split where the work stopped before the end of a capture.
use Rattle.std.proofs.Common.{◌≡◌, ◌≢◌, ℕ, ◌<◌, List, [], ◌∷◌, ◌++◌, get_or, Option, inl, inr, refl, sym, ap, subst, ◌∙◌, arith, append-nil, append_assoc, length-append}
use Rattle.std.specs.Prelude.{All}
use Rattle.std.proofs.lemmas.Bool.{cases_eq}
use Rattle.savi_ends.specs.Octets.{behind}
use Rattle.savi_ends.specs.Faults.{Rose}
use Rattle.savi_ends.proofs.FaultCounts.{rose_since}
use Rattle.savi_ends.proofs.Octets.{behind_again}
use Rattle.pcap_io.specs.Captures.{header_text, records_text}
use Rattle.pcapng_io.specs.Runs.{Event, Begins, Frame, Input, at_start}
use Rattle.pcapng_io.specs.Readers.{State, Reading, HasRead}
use Rattle.pcapng_io.proofs.Existence.{some_later}
use Rattle.pcapng_io.proofs.Once.{one_input, front_input}
use Rattle.pcapng_io.proofs.Readings.{has_read_more}
use Rattle.pcap_split.specs.declared.counts.Counts.{Counts}
use Rattle.pcap_split.specs.declared.output.Output.{Output}
use Rattle.pcap_split.specs.declared.split.SplitGot.TheVariants as got
use Rattle.pcap_split.specs.Splits.{Tally, frames_of, split_text, no_tally, tally}
use Rattle.pcap_split.specs.Counts.{interfaces_of, tally_of}
use Rattle.pcap_split.specs.Going.{HasGone, HasTaken, HasTakenBut, HasBegun, HasRisen, Writes, EachOutput}
use Rattle.pcap_split.specs.Wholes.{HasCapture, IsSplit, IsSplitFront}
use Rattle.pcap_split.proofs.Goings.{same_interfaces}
use Rattle.pcap_split.proofs.Wholes.{split_more, count_more, capture_more, interfaces_more, each_more}
use Rattle.split_run.specs.Runs.{TellsFirst, AddedAll, AddedFront, AddedAllBut, IsBeginning, IsToWrite}
use Rattle.split_run.specs.Steps.{HasAdded, IsStopped, HasSinkFault, SinksStay}

-- what was read comes first, whatever follows
pub first_read : (state : State) (gave : List ℕ) (events : List Event) → HasRead (Reading at_start) state gave events → (rest : List ℕ) → TellsFirst events (gave ++ rest)
first_read state gave events read rest input arrives =
    let some = some_later state rest in
    let whole = read rest some.0.events some.0.ending some.1 in
    (some.0.events, ap (λ (i : Input). i.events) (one_input (gave ++ rest) input (record { events = events ++ some.0.events; ending = some.0.ending }) arrives whole))

pub first_broken : {K : Type 0} (written : K → Option (List ℕ)) (counts : Counts) (handed held : List (Output K)) (gave : List ℕ) (events : List Event) → IsSplitFront written counts handed held gave events → (rest : List ℕ) → TellsFirst events (gave ++ rest)
first_broken written counts handed held gave events is rest input arrives = front_input gave rest (record { events = events; ending = is.taken.0 }) input is.taken.1 arrives

-- an output took its capture behind one call more, and no write of it failed
added_more : {K : Type 0} (written : K → Option (List ℕ)) (faults : K → ℕ) (a b : List Event) (o m n : Output K) → HasCapture written a o m → faults m.sink ≡ faults o.sink → HasTaken written faults b m n → HasAdded (λ k. AddedAll written faults) (a ++ b) o n
added_more written faults a b o m n first stood second = let one = capture_more written faults a b o m n first second in (one.same, (one.text, second.still ∙ stood))

each_added : {K : Type 0} (written : K → Option (List ℕ)) (faults : K → ℕ) (a b : List Event) (old mid new : List (Output K)) → EachOutput (HasCapture written a) old mid → SinksStay faults old mid → EachOutput (HasTaken written faults b) mid new → EachOutput (HasAdded (λ k. AddedAll written faults) (a ++ b)) old new
each_added written faults a b old mid new first stood second = (
  second.0 ∙ first.0,
  λ k d within. added_more written faults a b (get_or old k d) (get_or mid k d) (get_or new k d) (first.1 k d within) (stood.1 k d within) (second.1 k d (omega (arith, within, first.0))),
)

but_same : {K : Type 0} (written : K → Option (List ℕ)) (faults : K → ℕ) (failed : ℕ) (earlier : List Event) (stamp : ℕ) (octets : List ℕ) (o n : Output K) → HasTakenBut written faults failed earlier stamp octets o n → n.interface ≡ o.interface
but_same written faults failed earlier stamp octets o n is = elim (cases_eq o.interface failed) [
  | inl same ↦ (is.1 same).same
  | inr other ↦ (is.0 other).same
]

-- the same where the write of a frame failed, of all but the output of its interface
but_more : {K : Type 0} (written : K → Option (List ℕ)) (faults : K → ℕ) (failed : ℕ) (a earlier : List Event) (stamp : ℕ) (octets : List ℕ) (o m n : Output K) → HasCapture written a o m → faults m.sink ≡ faults o.sink → HasTakenBut written faults failed earlier stamp octets m n
    → HasAdded (AddedAllBut written faults failed (a ++ earlier) (Frame failed stamp octets)) (a ++ (earlier ++ Frame failed stamp octets ∷ [])) o n
but_more written faults failed a earlier stamp octets o m n first stood second = (
  but_same written faults failed earlier stamp octets m n second ∙ first.same,
  (
    λ other. (added_more written faults a (earlier ++ Frame failed stamp octets ∷ []) o m n first stood (second.0 (λ e. other (sym first.same ∙ e)))).1,
    λ is.
        let one = second.1 (first.same ∙ is) in
        let k = o.interface in
        let front = one.text.0 in
        let records = records_text (frames_of k earlier) in (
          front,
          one.text.1,
          one.text.2
              ∙ ap (λ (w : Option (List ℕ)). behind w (records_text (frames_of m.interface earlier) ++ front)) first.text
              ∙ ap (λ (i : ℕ). behind (behind (written o.sink) (split_text k a)) (records_text (frames_of i earlier) ++ front)) first.same
              ∙ behind_again (written o.sink) (split_text k a) (records ++ front)
              ∙ ap (behind (written o.sink)) (sym (append_assoc (split_text k a) records front) ∙ ap (λ (l : List ℕ). l ++ front) (split_more k a earlier)),
          rose_since (faults o.sink) (faults m.sink) (faults n.sink) stood one.rose,
        ),
  ),
)

each_but : {K : Type 0} (written : K → Option (List ℕ)) (faults : K → ℕ) (failed : ℕ) (a earlier : List Event) (stamp : ℕ) (octets : List ℕ) (old mid new : List (Output K)) → EachOutput (HasCapture written a) old mid → SinksStay faults old mid → EachOutput (HasTakenBut written faults failed earlier stamp octets) mid new
    → EachOutput (HasAdded (AddedAllBut written faults failed (a ++ earlier) (Frame failed stamp octets)) (a ++ (earlier ++ Frame failed stamp octets ∷ []))) old new
each_but written faults failed a earlier stamp octets old mid new first stood second = (
  second.0 ∙ first.0,
  λ k d within. but_more written faults failed a earlier stamp octets (get_or old k d) (get_or mid k d) (get_or new k d) (first.1 k d within) (stood.1 k d within) (second.1 k d (omega (arith, within, first.0))),
)

-- no write failed in a call that went through
pub sinks_stay_more : {K : Type 0} (written : K → Option (List ℕ)) (faults : K → ℕ) (b : List Event) (old mid new : List (Output K)) → SinksStay faults old mid → EachOutput (HasTaken written faults b) mid new → SinksStay faults old new
sinks_stay_more written faults b old mid new stood each = (each.0 ∙ stood.0, λ k d within. (each.1 k d (omega (arith, within, stood.0))).still ∙ stood.1 k d within)

-- the outputs are those of the interfaces that were handed out
pub same_handed : {K : Type 0} (written : K → Option (List ℕ)) (state : State) (counts : Counts) (handed now : List (Output K)) (gave : List ℕ) (events : List Event) → IsSplit written state counts handed now gave events → interfaces_of now ≡ interfaces_of handed
same_handed written state counts handed now gave events was = same_interfaces handed now was.captures.0 (λ k d within. (was.captures.1 k d within).same)

-- which interfaces have a capture behind one call more
pub split_then : {K : Type 0} (written : K → Option (List ℕ)) (state : State) (counts counts' : Counts) (handed now : List (Output K)) (gave : List ℕ) (events later : List Event) (more : List ℕ) → IsSplit written state counts handed now gave events
    → tally_of counts' more ≡ tally (tally_of counts (interfaces_of now)) later → (tally no_tally (events ++ later)).split ≡ more
split_then written state counts counts' handed now gave events later more was counted =
    sym (ap (λ (t : Tally). t.split) (counted ∙ count_more written state counts handed now gave events later was))

module _ {K : Type 0} (written : K → Option (List ℕ)) (faults : K → ℕ) (old new : State) (counts counts' : Counts) (handed now now' : List (Output K)) (gave more : List ℕ) (events later : List Event) (was : IsSplit written old counts handed now gave events) (stood : SinksStay faults handed now) (read : HasGone old new more later) where
  same : interfaces_of now ≡ interfaces_of handed
  same = same_handed written old counts handed now gave events was

  gone : HasGone (Reading at_start) new (gave ++ more) (events ++ later)
  gone = record {
    read = has_read_more (Reading at_start) old new gave more events later was.read read.read;
    reading = read.reading;
    place = omega (arith, read.place, was.place, length-append gave more);
  }

  -- a write of a frame failed
  pub stopped_unwritten : (interface : ℕ) → Writes written faults (got.Unwritten interface) later now now' → tally_of counts' (interfaces_of now) ≡ tally (tally_of counts (interfaces_of now)) later → IsStopped (IsToWrite interface) (AddedAllBut written faults interface) [] handed now' (gave ++ more)
  stopped_unwritten interface writes counted =
      let last = Frame interface writes.1 writes.2 in
      record {
        earlier = events ++ writes.0;
        last = last;
        events = events ++ later;
        all = ap (λ (l : List Event). events ++ l) writes.3 ∙ sym (append_assoc events writes.0 (last ∷ []));
        is = refl;
        next = new;
        gone = gone;
        among = split_then written old counts counts' handed now gave events later (interfaces_of now) was counted ∙ same ∙ sym (append-nil (interfaces_of handed));
        each = subst (λ (l : List Event). EachOutput (HasAdded (AddedAllBut written faults interface (events ++ writes.0) last) (events ++ l)) handed now') (sym writes.3)
            (each_but written faults interface events writes.0 writes.1 writes.2 handed now now' was.captures stood writes.4);
      }

  module _ (interface : ℕ) (begun : HasBegun (got.Opens interface) (tally_of counts (interfaces_of now)) later) (each : EachOutput (HasTaken written faults later) now now') (counted : tally_of counts' (interfaces_of now ++ interface ∷ []) ≡ tally (tally_of counts (interfaces_of now)) later) where
    split_is : (tally no_tally (events ++ later)).split ≡ interfaces_of handed ++ interface ∷ []
    split_is = split_then written old counts counts' handed now gave events later (interfaces_of now ++ interface ∷ []) was counted ∙ ap (λ (l : List ℕ). l ++ interface ∷ []) same

    added : EachOutput (HasAdded (λ k. AddedAll written faults) (events ++ later)) handed now'
    added = each_added written faults events later handed now now' was.captures stood each

    abbrev before : List Event
    before = events ++ begun.0

    all_before : events ++ later ≡ before ++ Begins 1 ∷ []
    all_before = ap (λ (l : List Event). events ++ l) begun.1 ∙ sym (append_assoc events begun.0 (Begins 1 ∷ []))

    number : interface ≡ (tally no_tally before).interfaces
    number = begun.2 ∙ ap (λ (t : Tally). t.interfaces) (count_more written old counts handed now gave events begun.0 was)

    -- the output of an interface couldn't be opened
    pub stopped_unopened : IsStopped (IsBeginning interface) (λ earlier last k. AddedAll written faults) (interface ∷ []) handed now' (gave ++ more)
    stopped_unopened = record { earlier = before; last = Begins 1; events = events ++ later; all = all_before; is = (refl, number); next = new; gone = gone; among = split_is; each = added }

    -- the capture of an interface couldn't be begun
    pub stopped_unbegun : All (λ o. o.interface ≢ interface) handed → (sink begun_sink : K) → AddedFront written faults [] header_text sink begun_sink
        → IsStopped (IsToWrite interface) (AddedAllBut written faults interface) [] (handed ++ record { interface = interface; sink = sink } ∷ []) (now' ++ record { interface = interface; sink = begun_sink } ∷ []) (gave ++ more)
    stopped_unbegun apart sink begun_sink took =
        let o : Output K = record { interface = interface; sink = sink } in
        let n : Output K = record { interface = interface; sink = begun_sink } in
        let Took : Output K → Output K → Type 0 = HasAdded (AddedAllBut written faults interface before (Begins 1)) (events ++ later) in
        record {
          earlier = before;
          last = Begins 1;
          events = events ++ later;
          all = all_before;
          is = (refl, number);
          next = new;
          gone = gone;
          among = split_is ∙ sym (interfaces_more handed o) ∙ sym (append-nil (interfaces_of (handed ++ o ∷ [])));
          each = each_more Took handed now' o n (added.0, λ k d within. ((added.1 k d within).0, (λ other. (added.1 k d within).1, λ is. absurd (apart k d within is))))
              (refl, (λ other. absurd (other refl), λ is. took));
        }

pub fault_of : (before now : ℕ) → Rose before now → 0 < now
fault_of before now rose = omega (arith, rose)

-- the fault of a write that failed
pub sink_fault : {K : Type 0} (written : K → Option (List ℕ)) (faults : K → ℕ) (interface : ℕ) (earlier : List Event) (stamp : ℕ) (octets : List ℕ) (now now' : List (Output K)) → EachOutput (HasTakenBut written faults interface earlier stamp octets) now now' → HasRisen faults interface now now' → HasSinkFault faults interface now'
sink_fault {K} written faults interface earlier stamp octets now now' each risen =
    let place = risen.0 in (
      place,
      (
        omega (arith, risen.1.0, each.0),
        λ (d : Output K). but_same written faults interface earlier stamp octets (get_or now place d) (get_or now' place d) (each.1 place d risen.1.0) ∙ risen.1.1 d,
      ),
      λ (d : Output K). fault_of (faults (get_or now place d).sink) (faults (get_or now' place d).sink) (risen.2 d),
    )

-- the outputs are still of the same interfaces
pub but_stay : {K : Type 0} (written : K → Option (List ℕ)) (faults : K → ℕ) (interface : ℕ) (earlier : List Event) (stamp : ℕ) (octets : List ℕ) (old new : List (Output K)) → EachOutput (HasTakenBut written faults interface earlier stamp octets) old new → interfaces_of new ≡ interfaces_of old
but_stay written faults interface earlier stamp octets old new each = same_interfaces old new each.0 (λ k d within. but_same written faults interface earlier stamp octets (get_or old k d) (get_or new k d) (each.1 k d within))
