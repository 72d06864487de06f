-- One read of an input, and what is put for it.
use Rattle.std.proofs.Common.{◌≡◌, ◌≢◌, ℕ, ◌+◌, ◌≤◌, Bool, false, List, [], ◌∷◌, ◌++◌, length, length-append, refl, sym, subst, ap, ◌∙◌, Option, arith}
use Rattle.savi_kinds.specs.declared.plan.Format.{Format}
use Rattle.savi_kinds.specs.declared.entry.How.{How}
use Rattle.savi_kinds.specs.declared.entry.How.TheVariants as hows
use Rattle.savi_kinds.specs.declared.arrival.Next.TheVariants as next
use Rattle.savi_kinds.specs.Arrivals.{Arrival, Frame, Long}
use Rattle.savi_ends.specs.Faults.{Rose}
use Rattle.savi_ends.proofs.FaultCounts.{rose_since}
use Rattle.savi_ends.specs.Octets.{Takes}
use Rattle.savi_ends.specs.Readings.{AddsReading}
use Rattle.savi_ends.proofs.Octets.{takes_more}
use Rattle.stream_io.specs.Calls.{AddsReadings, stamp_of, stamps_in}
use Rattle.stream_io.proofs.AheadHeld.{takes_none}
use Rattle.stream_io.proofs.ClockReadings.{adds_none, adds_more}
use Rattle.input_read.specs.Inputs.{Reads, frame_in}
use Rattle.input_read.specs.Readers.{IsNew, Stamps}
use Rattle.input_read.specs.declared.input.PortInput.{PortInput}
use Rattle.input_read.specs.declared.reader.InputReader.{InputReader}
use Rattle.input_read.specs.declared.reader.InputReader.TheVariants as readers
use Rattle.parcel_ring.specs.Handed.{Handed, Arrived, Ended}
use Rattle.port_reader.specs.Inputs.{AreReadStamped, FitsRead, IsNearInputFault}
use Rattle.port_reader.specs.Rows.{WasPut, all_handed}
use Rattle.port_reader.specs.Progress.{GoesOn, StampsSoFar, GoesOnOrEnds, octets_taken, input_form}
use Rattle.port_reader.proofs.Telling.{IsOne, fault_near, new_taken, one_taken, fits_end, fits_failed, fits_malformed, new_form, new_unbroken, one_form, one_frame, one_long, one_unbroken, read_more, read_none}

-- stamps

stamps_behind : (arrivals : List Arrival) (x : Arrival) → stamps_in (arrivals ++ x ∷ []) ≡ stamps_in arrivals ++ stamp_of x ∷ []
stamps_behind [] x = refl
stamps_behind (a ∷ arrivals) x = ap (λ (l : List ℕ). stamp_of a ∷ l) (stamps_behind arrivals x)

-- the clock read the stamp of one arrival more, if that has none of its own
abbrev StampsOne : InputReader → Option (List ℕ) → Option (List ℕ) → ℕ → Type 0
StampsOne (readers.Pcap state) mid now stamp = now ≡ mid
StampsOne (readers.Stream state) mid now stamp = AddsReading mid now stamp

stamped_more : (old new : InputReader) (gave : List ℕ) (x : Arrival) (read mid now : Option (List ℕ)) (arrivals : List Arrival) → IsOne old new gave x → StampsSoFar old read mid arrivals → StampsOne old mid now (stamp_of x) → StampsSoFar new read now (arrivals ++ x ∷ [])
stamped_more (readers.Pcap old) (readers.Pcap new) gave x read mid now arrivals one stamped same = same ∙ stamped
stamped_more (readers.Stream old) (readers.Stream new) gave x read mid now arrivals one stamped adds =
    subst (λ (stamps : List ℕ). AddsReadings read now stamps) (sym (stamps_behind arrivals x)) (adds_more read mid now (stamps_in arrivals) (stamp_of x) stamped adds)
stamped_more (readers.Pcap old) (readers.Stream new) gave x read mid now arrivals one stamped same = absurd one
stamped_more (readers.Stream old) (readers.Pcap new) gave x read mid now arrivals one stamped same = absurd one

-- behind the last arrival the clock isn't read
stamped_last : (reader : InputReader) (read mid now : Option (List ℕ)) (arrivals : List Arrival) → now ≡ mid → StampsSoFar reader read mid arrivals → AreReadStamped (input_form reader) read now arrivals
stamped_last (readers.Pcap state) read mid now arrivals same stamped = same ∙ stamped
stamped_last (readers.Stream state) read mid now arrivals same stamped = subst (λ (o : Option (List ℕ)). AddsReadings read o (stamps_in arrivals)) (sym same) stamped

stamped_first : (reader : InputReader) (read : Option (List ℕ)) → StampsSoFar reader read read []
stamped_first (readers.Pcap state) read = refl
stamped_first (readers.Stream state) read = adds_none read

module _ {C : Type 0} (readings : C → Option (List ℕ)) (old new : C) where
  frame_stamped : (reader : InputReader) (stamp len : ℕ) → Stamps readings reader old new (next.Frame stamp len) → StampsOne reader (readings old) (readings new) stamp
  frame_stamped (readers.Pcap state) stamp len same = ap readings same
  frame_stamped (readers.Stream state) stamp len adds = adds

  long_stamped : (reader : InputReader) (stamp len : ℕ) → Stamps readings reader old new (next.Long stamp len) → StampsOne reader (readings old) (readings new) stamp
  long_stamped (readers.Pcap state) stamp len same = ap readings same
  long_stamped (readers.Stream state) stamp len adds = adds

  unread_end : (reader : InputReader) → Stamps readings reader old new next.End → readings new ≡ readings old
  unread_end (readers.Pcap state) same = ap readings same
  unread_end (readers.Stream state) same = ap readings same

  unread_malformed : (at : ℕ) (reader : InputReader) → Stamps readings reader old new (next.Malformed at) → readings new ≡ readings old
  unread_malformed at (readers.Pcap state) same = ap readings same
  unread_malformed at (readers.Stream state) same = ap readings same

  unread_failed : (reader : InputReader) → Stamps readings reader old new next.Failed → readings new ≡ readings old
  unread_failed (readers.Pcap state) same = ap readings same
  unread_failed (readers.Stream state) same = ap readings same

-- one arrival more was put
handed_behind : (arrivals : List Arrival) (x : Arrival) → all_handed (arrivals ++ x ∷ []) ≡ all_handed arrivals ++ Arrived x ∷ []
handed_behind [] x = refl
handed_behind (a ∷ arrivals) x = ap (λ (l : List Handed). Arrived a ∷ l) (handed_behind arrivals x)

module _ {S C : Type 0} (left : S → Option (List ℕ)) (faults : S → ℕ) (readings : C → Option (List ℕ)) (format : Format) (source : S) (clock : C) where
  -- at the beginning
  pub goes_first : (input : PortInput S C) (put : List Handed) → input.source ≡ source → input.clock ≡ clock → IsNew format input.reader → put ≡ [] → GoesOn left faults readings format source clock input put
  goes_first input put same_source same_clock new none = record {
    arrivals = [];
    given = none;
    form = new_form format input.reader new;
    gave = [];
    takes = subst (λ (s : S). Takes (left source) (left s) []) (sym same_source) (takes_none (left source));
    read = read_none format input.reader new;
    taken = new_taken format input.reader new;
    stamped = subst (λ (c : C). StampsSoFar input.reader (readings clock) (readings c) []) (sym same_clock) (stamped_first input.reader (readings clock));
    still = ap faults same_source;
    unbroken = new_unbroken format input.reader new;
  }

  -- what is left of the ends, as they are handed back
  pub left_row : (input : PortInput S C) (put : List Handed) (new_source : S) (new_clock : C) (goes_on : Bool) → goes_on ≡ false → GoesOnOrEnds left faults readings format source clock input put goes_on
      → new_source ≡ input.source → new_clock ≡ input.clock → WasPut left faults readings format put source new_source clock new_clock
  left_row input put new_source new_clock goes_on ended is_left same_source same_clock =
      let row = subst (λ (b : Bool). GoesOnOrEnds left faults readings format source clock input put b) ended is_left in
      subst (λ (t : S × C). WasPut left faults readings format put source t.0 clock t.1) (λ i. (sym same_source i, sym same_clock i)) row

  module _ (old new : PortInput S C) (before after : List Handed) (goes : GoesOn left faults readings format source clock old before) where
    more_at : (x : Arrival) (gave : List ℕ) → Takes (left old.source) (left new.source) gave → IsOne old.reader new.reader gave x → StampsOne old.reader (readings old.clock) (readings new.clock) (stamp_of x) → faults new.source ≡ faults old.source
        → after ≡ before ++ Arrived x ∷ [] → GoesOn left faults readings format source clock new after
    more_at x gave takes one stamp still put = record {
      arrivals = goes.arrivals ++ x ∷ [];
      given = put ∙ ap (λ (l : List Handed). l ++ Arrived x ∷ []) goes.given ∙ sym (handed_behind goes.arrivals x);
      form = one_form old.reader new.reader gave x one ∙ goes.form;
      gave = goes.gave ++ gave;
      takes = takes_more goes.gave gave (left source) (left old.source) (left new.source) goes.takes takes;
      read = read_more old.reader new.reader goes.gave gave goes.arrivals x goes.read one;
      stamped = stamped_more old.reader new.reader gave x (readings clock) (readings old.clock) (readings new.clock) goes.arrivals one goes.stamped stamp;
      taken =
          let one_more = one_taken old.reader new.reader gave x one in
          let before_it = goes.taken in
          omega (arith, one_more, before_it, length-append goes.gave gave);
      still = still ∙ goes.still;
      unbroken = one_unbroken old.reader new.reader gave x one;
    }

    -- the row of an input that has ended so
    ended_at : (how : How) (gave : List ℕ) → Takes (left old.source) (left new.source) gave → faults old.source ≤ faults new.source
        → after ≡ before ++ Ended how ∷ [] → FitsRead (input_form old.reader) (left source) (left new.source) goes.arrivals how
        → readings new.clock ≡ readings old.clock
        → (how ≡ hows.Failed → Rose (faults old.source) (faults new.source))
        → (how ≢ hows.Failed → faults new.source ≡ faults old.source)
        → ((at : ℕ) → how ≡ hows.Malformed at → IsNearInputFault (input_form old.reader) at (octets_taken old.reader + length gave) (left new.source))
        → WasPut left faults readings format after source new.source clock new.clock
    ended_at how gave takes later put fits unread cause stays near = (
      goes.arrivals,
      how,
      put ∙ ap (λ (l : List Handed). l ++ Ended how ∷ []) goes.given,
      record {
        gave = (goes.gave ++ gave, takes_more goes.gave gave (left source) (left old.source) (left new.source) goes.takes takes);
        fits = subst (λ (f : Format). FitsRead f (left source) (left new.source) goes.arrivals how) goes.form fits;
        stamped = subst (λ (f : Format). AreReadStamped f (readings clock) (readings new.clock) goes.arrivals) goes.form
            (stamped_last old.reader (readings clock) (readings old.clock) (readings new.clock) goes.arrivals unread goes.stamped);
        near = λ at is.
            let before_it = goes.taken in
            let all : octets_taken old.reader + length gave ≡ length (goes.gave ++ gave) = omega (arith, before_it, length-append goes.gave gave) in
            subst (λ (f : Format). IsNearInputFault f at (length (goes.gave ++ gave)) (left new.source)) goes.form
            (subst (λ (n : ℕ). IsNearInputFault (input_form old.reader) at n (left new.source)) all (near at is));
        later = let first = goes.still in omega arith;
        broken = λ failed. rose_since (faults source) (faults old.source) (faults new.source) goes.still (cause failed);
        still = λ other. stays other ∙ goes.still;
      },
    )

    pub left_frame : (stamp len : ℕ) → Reads left faults readings old new (next.Frame stamp len) → after ≡ before ++ Arrived (Frame stamp (frame_in new len)) ∷ [] → GoesOn left faults readings format source clock new after
    left_frame stamp len reads put =
        more_at (Frame stamp (frame_in new len)) reads.octets.0 reads.octets.1 (one_frame old.reader new.reader reads.octets.0 new.buf (left new.source) stamp len reads.octets.2)
        (frame_stamped readings old.clock new.clock old.reader stamp len reads.stamps) (reads.still (λ e. cc)) put

    pub left_long : (stamp len : ℕ) → Reads left faults readings old new (next.Long stamp len) → after ≡ before ++ Arrived (Long stamp len) ∷ [] → GoesOn left faults readings format source clock new after
    left_long stamp len reads put =
        more_at (Long stamp len) reads.octets.0 reads.octets.1 (one_long old.reader new.reader reads.octets.0 new.buf (left new.source) stamp len reads.octets.2)
        (long_stamped readings old.clock new.clock old.reader stamp len reads.stamps) (reads.still (λ e. cc)) put

    pub left_end : Reads left faults readings old new next.End → after ≡ before ++ Ended hows.End ∷ [] → WasPut left faults readings format after source new.source clock new.clock
    left_end reads put =
        ended_at hows.End reads.octets.0 reads.octets.1 reads.later put
        (fits_end (left source) (left old.source) (left new.source) goes.gave reads.octets.0 new.buf goes.arrivals goes.takes reads.octets.1 old.reader new.reader goes.read reads.octets.2)
        (unread_end readings old.clock new.clock old.reader reads.stamps)
        (λ e. cc)
        (λ other. reads.still (λ e. cc))
        (λ at same. cc)

    pub left_malformed : (at : ℕ) → Reads left faults readings old new (next.Malformed at) → after ≡ before ++ Ended (hows.Malformed at) ∷ [] → WasPut left faults readings format after source new.source clock new.clock
    left_malformed at reads put =
        ended_at (hows.Malformed at) reads.octets.0 reads.octets.1 reads.later put
        (fits_malformed (left source) (left old.source) (left new.source) goes.gave reads.octets.0 new.buf goes.arrivals goes.takes reads.octets.1 at old.reader new.reader goes.read reads.octets.2)
        (unread_malformed readings old.clock new.clock at old.reader reads.stamps)
        (λ e. cc)
        (λ other. reads.still (λ e. cc))
        (λ place same. fault_near at place old.reader new.reader reads.octets.0 new.buf (left new.source) reads.octets.2 same)

    pub left_failed : Reads left faults readings old new next.Failed → after ≡ before ++ Ended hows.Failed ∷ [] → WasPut left faults readings format after source new.source clock new.clock
    left_failed reads put =
        ended_at hows.Failed reads.octets.0 reads.octets.1 reads.later put
        (fits_failed (left source) (left old.source) (left new.source) goes.gave reads.octets.0 new.buf goes.arrivals goes.takes reads.octets.1 old.reader new.reader goes.read reads.octets.2)
        (unread_failed readings old.clock new.clock old.reader reads.stamps)
        (λ e. reads.cause refl goes.unbroken)
        (λ other. absurd (other refl))
        (λ at same. cc)
