-- A whole file that is split.
use Rattle.std.proofs.Common.{◌≡◌, ◌≢◌, ℕ, ◌+◌, ◌<◌, ◌≤◌, nat_le, Bool, true, false, List, [], ◌∷◌, ◌++◌, length, get_or, Option, Some, None, IfSome, inl, inr, ◌⊎◌, refl, sym, ap, subst, ◌∙◌, arith, append-nil, append_assoc, length-append, if◌then◌else◌}
use Rattle.std.proofs.lemmas.Bool.{cases_lt}
use Rattle.std.proofs.lemmas.List.{get_or_append_left}
use Rattle.std.proofs.Math.Seq.{get_or-append_seam}
use Rattle.std.proofs.lemmas.Bool.Decides.{nat_tests}
use Rattle.savi_kinds.specs.declared.entry.How.{How}
use Rattle.savi_ends.specs.Octets.{behind}
use Rattle.savi_ends.proofs.Octets.{behind_again}
use Rattle.pcap_io.specs.Captures.{Sent, header_text, records_text}
use Rattle.pcapng_io.specs.Blocks.{Block, Section, Interface, Packet, Other, Standing}
use Rattle.pcapng_io.specs.Blocks as blocks
use Rattle.pcapng_io.specs.Runs.{Event, Begins, Frame, Long, all_events, AreBlocks, at_start}
use Rattle.pcapng_io.specs.Readers.{State, Reading, Comes, HasRead}
use Rattle.pcapng_io.proofs.Existence.{some_later}
use Rattle.pcapng_io.proofs.Readings.{has_read_none, has_read_more}
use Rattle.pcap_split.specs.declared.counts.Counts.{Counts}
use Rattle.pcap_split.specs.declared.output.Output.{Output}
use Rattle.pcap_split.specs.declared.split.SplitGot.TheVariants as got
use Rattle.pcap_split.specs.Splits.{Tally, frames_of, split_text, no_tally, has_capture, tallied, tally}
use Rattle.pcap_split.specs.Counts.{interfaces_of, tally_of, no_counts}
use Rattle.pcap_split.specs.Going.{HasTold, HasBroken, HasTaken, EachOutput}
use Rattle.pcap_split.specs.Wholes.{HasCapture, IsSplit, IsCall, IsSplitWhole, IsSplitFront}
use Rattle.pcap_split.proofs.Goings.{breaks_behind_state, tally_more, frames_more, sent_more, same_interfaces}

-- each packet is of an interface that began before it; so many began before the first of these events
abbrev Declared : ℕ → List Event → Type 0
Declared n [] = Unit {0}
Declared n (Begins link ∷ events) = Declared (n + 1) events
Declared n (Frame interface stamp octets ∷ events) = (interface < n) × Declared n events
Declared n (Long interface ∷ events) = (interface < n) × Declared n events

declared_packet : (here : Bool) (n interface stamp : ℕ) (captured : List ℕ) (events : List Event) → interface < n → Declared n events → Declared n ((if here then Frame interface stamp captured else Long interface) ∷ events)
declared_packet true n interface stamp captured events below later = (below, later)
declared_packet false n interface stamp captured events below later = (below, later)

declared : (all : List Block) (s : Standing) (n : ℕ) (ending : How) (octets : List ℕ) → n ≡ s.earlier + length s.units → AreBlocks s all ending octets → Declared n (all_events all)
declared [] s n ending octets is are = tt
declared (Section order ∷ all) s n ending octets is are = declared all (blocks.behind s (Section order) (length are.0)) n ending are.1 (omega (arith, is)) are.4
declared (Interface link units ∷ all) s n ending octets is are = declared all (blocks.behind s (Interface link units) (length are.0)) (n + 1) ending are.1 (omega (arith, is, length-append s.units (units ∷ []))) are.4
declared (Packet interface stamp captured ∷ all) s n ending octets is are =
    declared_packet (nat_le (length captured) 1518) n interface stamp captured (all_events all) (omega (arith, is, are.3.3.interface_is, are.3.3.declared))
    (declared all (blocks.behind s (Packet interface stamp captured) (length are.0)) n ending are.1 is are.4)
declared (Other ∷ all) s n ending octets is are = declared all (blocks.behind s Other (length are.0)) n ending are.1 is are.4

declared_front : (a b : List Event) (n : ℕ) → Declared n (a ++ b) → Declared n a
declared_front [] b n d = tt
declared_front (Begins link ∷ a) b n d = declared_front a b (n + 1) d
declared_front (Frame interface stamp octets ∷ a) b n d = (d.0, declared_front a b n d.1)
declared_front (Long interface ∷ a) b n d = (d.0, declared_front a b n d.1)

-- what was read from the start on speaks of interfaces that began
declared_read : (state : State) (gave : List ℕ) (events : List Event) → HasRead (Reading at_start) state gave events → Declared 0 events
declared_read state gave events read =
    let some = some_later state [] in
    let comes = read [] some.0.events some.0.ending some.1 in
    declared_front events some.0.events 0 (subst (Declared 0) (sym comes.2) (declared comes.0 at_start 0 some.0.ending (gave ++ []) refl comes.1))

same_count : (here : Bool) (t u v : Tally) → u.interfaces ≡ t.interfaces → v.interfaces ≡ t.interfaces → (if here then u else v).interfaces ≡ t.interfaces
same_count true t u v one other = one
same_count false t u v one other = other

frame_count : (t : Tally) (interface stamp : ℕ) (octets : List ℕ) → (tallied t (Frame interface stamp octets)).interfaces ≡ t.interfaces
frame_count t interface stamp octets = same_count (has_capture t interface) t (record t { frames = t.frames + 1 }) (record t { skipped = t.skipped + 1 }) refl refl

long_count : (t : Tally) (interface : ℕ) → (tallied t (Long interface)).interfaces ≡ t.interfaces
long_count t interface = same_count (has_capture t interface) t (record t { long = t.long + 1 }) (record t { skipped = t.skipped + 1 }) refl refl

count_later : (events : List Event) (t : Tally) → t.interfaces ≤ (tally t events).interfaces
count_later [] t = omega arith
count_later (Begins link ∷ events) t = omega (arith, count_later events (tallied t (Begins link)))
count_later (Frame interface stamp octets ∷ events) t = omega (arith, count_later events (tallied t (Frame interface stamp octets)), frame_count t interface stamp octets)
count_later (Long interface ∷ events) t = omega (arith, count_later events (tallied t (Long interface)), long_count t interface)

frames_skip : (i interface stamp : ℕ) (octets : List ℕ) (events : List Event) → interface ≢ i → frames_of i (Frame interface stamp octets ∷ events) ≡ frames_of i events
frames_skip i interface stamp octets events other = grind (arith, nat_tests)

-- an interface that hasn't begun has no frame
no_frames : (events : List Event) (t : Tally) (i : ℕ) → Declared t.interfaces events → (tally t events).interfaces ≤ i → frames_of i events ≡ []
no_frames [] t i d within = refl
no_frames (Begins link ∷ events) t i d within = no_frames events (tallied t (Begins link)) i d within
no_frames (Frame interface stamp octets ∷ events) t i d within =
    let next = tallied t (Frame interface stamp octets) in
    let same = frame_count t interface stamp octets in
    let other : interface ≢ i = omega (arith, d.0, same, count_later events next, within) in
    frames_skip i interface stamp octets events other ∙ no_frames events next i (subst (λ (n : ℕ). Declared n events) (sym same) d.1) within
no_frames (Long interface ∷ events) t i d within =
    no_frames events (tallied t (Long interface)) i (subst (λ (n : ℕ). Declared n events) (sym (long_count t interface)) d.1) within

pub each_more : {K : Type 0} (R : Output K → Output K → Type 0) (old new : List (Output K)) (o n : Output K) → EachOutput R old new → R o n → EachOutput R (old ++ o ∷ []) (new ++ n ∷ [])
each_more {K} R old new o n each one = (
  omega (arith, each.0, length-append old (o ∷ []), length-append new (n ∷ [])),
  λ k d within. by k d within (cases_lt k (length old)),
)
  where
    by : (k : ℕ) (d : Output K) → k < length (old ++ o ∷ []) → (k < length old) ⊎ (length old ≤ k) → R (get_or (old ++ o ∷ []) k d) (get_or (new ++ n ∷ []) k d)
    by k d within (inl front) =
        let behind_it : k < length new = omega (arith, front, each.0) in
        rw (get_or_append_left old (o ∷ []) d k front, get_or_append_left new (n ∷ []) d k behind_it) (each.1 k d front)
    by k d within (inr last) =
        let at : k ≡ length old = omega (arith, last, within, length-append old (o ∷ [])) in
        let at_new : k ≡ length new = omega (arith, at, each.0) in
        subst (λ (x : Output K). R x (get_or (new ++ n ∷ []) k d)) (sym (ap (λ (j : ℕ). get_or (old ++ o ∷ []) j d) at ∙ get_or-append_seam old o [] d))
        (subst (λ (x : Output K). R o x) (sym (ap (λ (j : ℕ). get_or (new ++ n ∷ []) j d) at_new ∙ get_or-append_seam new n [] d)) one)

pub interfaces_more : {K : Type 0} (outputs : List (Output K)) (o : Output K) → interfaces_of (outputs ++ o ∷ []) ≡ interfaces_of outputs ++ o.interface ∷ []
interfaces_more [] o = refl
interfaces_more (x ∷ outputs) o = ap (λ (l : List ℕ). x.interface ∷ l) (interfaces_more outputs o)

pub split_more : (k : ℕ) (a b : List Event) → split_text k a ++ records_text (frames_of k b) ≡ split_text k (a ++ b)
split_more k a b =
    append_assoc header_text (records_text (frames_of k a)) (records_text (frames_of k b))
    ∙ ap (λ (l : List ℕ). header_text ++ l) (sym (sent_more (frames_of k a) (frames_of k b)) ∙ ap (λ (l : List Sent). records_text l) (sym (frames_more k a b)))

pub capture_more : {K : Type 0} (written : K → Option (List ℕ)) (faults : K → ℕ) (a b : List Event) (o m n : Output K) → HasCapture written a o m → HasTaken written faults b m n → HasCapture written (a ++ b) o n
capture_more written faults a b o m n first second = record {
  same = second.same ∙ first.same;
  text = second.text
      ∙ ap (λ (w : Option (List ℕ)). behind w (records_text (frames_of m.interface b))) first.text
      ∙ ap (λ (k : ℕ). behind (behind (written o.sink) (split_text o.interface a)) (records_text (frames_of k b))) first.same
      ∙ behind_again (written o.sink) (split_text o.interface a) (records_text (frames_of o.interface b))
      ∙ ap (behind (written o.sink)) (split_more o.interface a b);
}

pub each_capture : {K : Type 0} (written : K → Option (List ℕ)) (faults : K → ℕ) (a b : List Event) (old mid new : List (Output K)) → EachOutput (HasCapture written a) old mid → EachOutput (HasTaken written faults b) mid new → EachOutput (HasCapture written (a ++ b)) old new
each_capture written faults a b old mid new first second = (
  second.0 ∙ first.0,
  λ k d within. capture_more written faults a b (get_or old k d) (get_or mid k d) (get_or new k d) (first.1 k d within) (second.1 k d (omega (arith, within, first.0))),
)

pub split_start : {K : Type 0} (written : K → Option (List ℕ)) → IsSplit written (Reading at_start) no_counts [] [] [] []
split_start written = record { read = has_read_none (Reading at_start); reading = (at_start, refl); place = refl; counted_is = refl; captures = (refl, λ k d within. absurd (omega (arith, within))) }

-- what the counts are behind one call more
pub count_more : {K : Type 0} (written : K → Option (List ℕ)) (state : State) (counts : Counts) (handed now : List (Output K)) (gave : List ℕ) (events later : List Event) → IsSplit written state counts handed now gave events → tally (tally_of counts (interfaces_of now)) later ≡ tally no_tally (events ++ later)
count_more written state counts handed now gave events later was =
    let stay = same_interfaces handed now was.captures.0 (λ k d within. (was.captures.1 k d within).same) in
    ap (λ (l : List ℕ). tally (tally_of counts l) later) stay ∙ ap (λ (t : Tally). tally t later) was.counted_is ∙ sym (tally_more events later no_tally)

pub split_opened : {K : Type 0} (written : K → Option (List ℕ)) (faults : K → ℕ) (interface : ℕ) (old new : State) (counts counts' : Counts) (handed now now' : List (Output K)) (gave more : List ℕ) (left : Option (List ℕ)) (events later : List Event) (sink begun : K) → IsSplit written old counts handed now gave events
    → IsCall written faults (got.Opens interface) old new counts counts' now now' more left later → written begun ≡ behind (written sink) header_text
    → IsSplit written new counts' (handed ++ record { interface = interface; sink = sink } ∷ []) (now' ++ record { interface = interface; sink = begun } ∷ []) (gave ++ more) (events ++ later)
split_opened {K} written faults interface old new counts counts' handed now now' gave more left events later sink begun was call text =
    let read = has_read_more (Reading at_start) old new gave more events later was.read call.tells.read in
    let stay = same_interfaces handed now was.captures.0 (λ k d within. (was.captures.1 k d within).same) in
    let o : Output K = record { interface = interface; sink = sink } in
    let n : Output K = record { interface = interface; sink = begun } in
    let earlier = call.begun.0 in
    let before = events ++ earlier in
    let whole : events ++ later ≡ before ++ Begins 1 ∷ [] = ap (λ (l : List Event). events ++ l) call.begun.1 ∙ sym (append_assoc events earlier (Begins 1 ∷ [])) in
    let told : Declared 0 before = declared_front before (Begins 1 ∷ []) 0 (subst (Declared 0) whole (declared_read new (gave ++ more) (events ++ later) read)) in
    let number : interface ≡ (tally no_tally before).interfaces = call.begun.2 ∙ ap (λ (t : Tally). t.interfaces) (count_more written old counts handed now gave events earlier was) in
    let none : frames_of interface (events ++ later) ≡ [] =
    ap (frames_of interface) whole ∙ frames_more interface before (Begins 1 ∷ []) ∙ append-nil (frames_of interface before) ∙ no_frames before no_tally interface told (omega (arith, number)) in
    let capture : HasCapture written (events ++ later) o n = record {
      same = refl;
      text = text ∙ ap (behind (written sink)) (sym (append-nil header_text) ∙ ap (λ (l : List Sent). header_text ++ records_text l) (sym none));
    } in
    record {
      read = read;
      reading = call.tells.reading;
      place = omega (arith, call.tells.place, was.place, length-append gave more);
      counted_is = ap (tally_of counts') (interfaces_more handed o ∙ ap (λ (l : List ℕ). l ++ interface ∷ []) (sym stay)) ∙ call.counted_is ∙ count_more written old counts handed now gave events later was;
      captures = each_more (HasCapture written (events ++ later)) handed now' o n (each_capture written faults events later handed now now' was.captures call.writes) capture;
    }

counts_are : {K : Type 0} (written : K → Option (List ℕ)) (state : State) (counts counts' : Counts) (handed now : List (Output K)) (gave : List ℕ) (events later : List Event) → IsSplit written state counts handed now gave events → tally_of counts' (interfaces_of now) ≡ tally (tally_of counts (interfaces_of now)) later → tally_of counts' (interfaces_of handed) ≡ tally no_tally (events ++ later)
counts_are written state counts counts' handed now gave events later was one =
    let stay = same_interfaces handed now was.captures.0 (λ k d within. (was.captures.1 k d within).same) in
    ap (tally_of counts') (sym stay) ∙ one ∙ count_more written state counts handed now gave events later was

pub split_ended : {K : Type 0} (written : K → Option (List ℕ)) (faults : K → ℕ) (ending : How) (old new : State) (counts counts' : Counts) (handed now now' : List (Output K)) (gave more : List ℕ) (left : Option (List ℕ)) (events later : List Event) → IsSplit written old counts handed now gave events → HasTold old new more left later ending
    → EachOutput (HasTaken written faults later) now now' → tally_of counts' (interfaces_of now) ≡ tally (tally_of counts (interfaces_of now)) later → IsSplitWhole written counts' handed now' (gave ++ more) left (events ++ later) ending
split_ended written faults ending old new counts counts' handed now now' gave more left events later was told each one = record {
  taken = was.read more later ending told.taken;
  whole = by left told.whole;
  near = λ at is. omega (arith, told.near at is, was.place, length-append gave more);
  counted_is = counts_are written old counts counts' handed now gave events later was one;
  captures = each_capture written faults events later handed now now' was.captures each;
}
  where
    by : (left : Option (List ℕ)) → IfSome left (λ rest. Comes old (more ++ rest) (record { events = later; ending = ending })) → IfSome left (λ rest. Comes (Reading at_start) ((gave ++ more) ++ rest) (record { events = events ++ later; ending = ending }))
    by None whole = tt
    by (Some rest) whole = rw (append_assoc gave more rest) (was.read (more ++ rest) later ending whole)

pub split_broken : {K : Type 0} (written : K → Option (List ℕ)) (faults : K → ℕ) (old new : State) (counts counts' : Counts) (handed now now' : List (Output K)) (gave more : List ℕ) (events later : List Event) → IsSplit written old counts handed now gave events → HasBroken old new more later → EachOutput (HasTaken written faults later) now now'
    → tally_of counts' (interfaces_of now) ≡ tally (tally_of counts (interfaces_of now)) later → IsSplitFront written counts' handed now' (gave ++ more) (events ++ later)
split_broken written faults old new counts counts' handed now now' gave more events later was broken each one = record {
  taken = (broken.taken.0, was.read more later broken.taken.0 broken.taken.1);
  unread = breaks_behind_state at_start old gave more events later was.reading was.read broken.unread;
  counted_is = counts_are written old counts counts' handed now gave events later was one;
  captures = each_capture written faults events later handed now now' was.captures each;
}
