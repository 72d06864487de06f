-- What the sources gave up fits the history between two turns.
use Rattle.std.proofs.Common.{◌≡◌, ◌≢◌, ℕ, ◌+◌, ◌<◌, ◌≤◌, Bool, true, false, List, [], ◌∷◌, ◌++◌, length, length-append, take, get_or, refl, sym, ap, ◌∙◌, subst, arith, ◌⊎◌, inl, inr, Option, Some, None, IfSome}
use Rattle.std.proofs.lemmas.Bool.{cases_eq}
use Rattle.std.specs.List.{All}
use Rattle.savi_kinds.specs.declared.port.Port.{Port}
use Rattle.savi_kinds.specs.declared.entry.Who.TheVariants.{Ingress}
use Rattle.savi_kinds.specs.declared.entry.How.{How}
use Rattle.savi_kinds.specs.declared.entry.How.TheVariants as hows
use Rattle.savi_kinds.specs.Ports.{number_of}
use Rattle.savi_kinds.specs.Arrivals.{Arrival}
use Rattle.savi_kinds.specs.Arrivals as arrivals
use Rattle.savi_ends.specs.Faults.{Rose}
use Rattle.savi_ends.specs.Octets.{Takes}
use Rattle.savi_ends.proofs.FaultCounts.{rose_since}
use Rattle.pcap_io.specs.Readers.{State, Comes, HasRead, IsNearFault, record_place}
use Rattle.pcap_io.specs.Runs.{ended}
use Rattle.pcap_io.proofs.CallsJoined.{has_read_more}
use Rattle.hist_store.specs.Rows.{Row}
use Rattle.savi_history.specs.Turns.{Turn, Arrives, Ends}
use Rattle.savi_history.specs.PortInputs.{arrived, input_end}
use Rattle.savi_history.specs.Fits.{Fits, IsWhole, IsBroken}
use Rattle.savi_history.proofs.PortInputs.{HoldsEnd, HoldsMore, HoldsSame, IsTurnOf}
use Rattle.port_worker.specs.declared.port_ends.Ahead.{Ahead}
use Rattle.port_worker.specs.declared.port_ends.Ahead.TheVariants as ahead
use Rattle.port_worker.specs.declared.port_ends.PortEnds.{PortEnds}
use Rattle.port_worker.specs.Inputs.{IsReadAhead, IsLooked, IsReadAs, turn_ahead, turn_of}
use Rattle.port_worker.specs.SentFrames.{OnlySink}
use Rattle.port_worker.specs.Steps.{IsStepped, ends_input, ahead_after}
use Rattle.port_worker.specs.Replays.{IsUnread}
use Rattle.port_worker.specs.Served.{AreInput}
use Rattle.port_worker.specs.Used.{GaveNear}
use Rattle.port_worker.specs.Pairs.{EachPair}
use Rattle.port_worker.proofs.Joining.{IsRunning, front_none, takes_twice, read_behind}
use Rattle.port_worker.proofs.RowsHeld.{IsHeld}

-- what was taken from the source so far is what was entered and what is known, and so much of the input has ended
abbrev pub FitsAhead : State → State → List ℕ → List ℕ → Option (List ℕ) → Option (List ℕ) → List Arrival → Option How → Ahead → Type 0
FitsAhead first now gave buf before after entered_so ending ahead.Unread = (ending ≡ None) × HasRead first now gave entered_so
FitsAhead first now gave buf before after entered_so ending (ahead.Frame stamp len) = (ending ≡ None) × HasRead first now gave (entered_so ++ arrivals.Frame stamp (take len buf) ∷ []) × IsRunning now
FitsAhead first now gave buf before after entered_so ending (ahead.Long stamp len) = (ending ≡ None) × HasRead first now gave (entered_so ++ arrivals.Long stamp len ∷ []) × IsRunning now
FitsAhead first now gave buf before after entered_so ending ahead.End = (ending ≡ None) × IsWhole (AreInput (Comes first) true) before entered_so hows.End
FitsAhead first now gave buf before after entered_so ending (ahead.Malformed at) = (ending ≡ None) × IsWhole (AreInput (Comes first) true) before entered_so (hows.Malformed at)
FitsAhead first now gave buf before after entered_so ending ahead.Failed = (ending ≡ None) × IsBroken (AreInput (Comes first) false) before after entered_so
FitsAhead first now gave buf before after entered_so ending ahead.Done = Fits (AreInput (Comes first)) before after entered_so ending

-- How many octets were taken while the input goes on; from a place at fault on no more than of one record.
abbrev pub IsNear : State → State → List ℕ → Option (List ℕ) → Option How → Ahead → Type 0
IsNear first now gave after ending ahead.Unread = record_place now ≡ record_place first + length gave
IsNear first now gave after ending (ahead.Frame stamp len) = record_place now ≡ record_place first + length gave
IsNear first now gave after ending (ahead.Long stamp len) = record_place now ≡ record_place first + length gave
IsNear first now gave after ending ahead.End = Unit {0}
IsNear first now gave after ending (ahead.Malformed at) = IsNearFault at (length gave) after
IsNear first now gave after ending ahead.Failed = Unit {0}
IsNear first now gave after ending ahead.Done = (at : ℕ) → ending ≡ Some (hows.Malformed at) → IsNearFault at (length gave) after

pub record FitsSoFar {S K C : Type 0} (left : S → Option (List ℕ)) (source_faults : S → ℕ) (past : List Row) (old new : PortEnds S K C) : Type 0 where
  pub gave : List ℕ
  pub takes : Takes (left old.ends.source) (left new.ends.source) gave
  pub fits : FitsAhead old.reader new.reader gave new.buf (left old.ends.source) (left new.ends.source) (arrived (number_of old.port) past) (input_end (number_of old.port) past) new.ahead
  pub near : IsNear old.reader new.reader gave (left new.ends.source) (input_end (number_of old.port) past) new.ahead
  -- a read that failed, entered or not, was a fault of the source
  pub later : source_faults old.ends.source ≤ source_faults new.ends.source
  pub failed : new.ahead ≡ ahead.Failed → Rose (source_faults old.ends.source) (source_faults new.ends.source)
  pub broken : input_end (number_of old.port) past ≡ Some hows.Failed → Rose (source_faults old.ends.source) (source_faults new.ends.source)
  -- and there was no other one
  pub still : new.ahead ≢ ahead.Failed → input_end (number_of old.port) past ≢ Some hows.Failed → source_faults new.ends.source ≡ source_faults old.ends.source

-- the input ends behind what was read
pub whole_at : (first mid : State) (one two : List ℕ) (front : List Arrival) (how : How) (a b c : Option (List ℕ)) → Takes a b one → Takes b c two → HasRead first mid one front
    → IfSome c (λ rest. Comes mid true (two ++ rest) (ended how)) → IsWhole (AreInput (Comes first) true) a front how
whole_at first mid one two front how a b None take_one take_two read_one is =
    rw (take_one, take_two) tt
whole_at first mid one two front how a b (Some rest) take_one take_two read_one is =
    rw (take_one, take_two) (read_behind first mid true one (two ++ rest) front how read_one is)

-- a read of what comes next

read_more : {S K C : Type 0} (left : S → Option (List ℕ)) (past : List Row) (first old new : PortEnds S K C) (one two : List ℕ) (a : Ahead) → new.ahead ≡ a
    → Takes (left first.ends.source) (left old.ends.source) one → Takes (left old.ends.source) (left new.ends.source) two
    → input_end (number_of first.port) past ≡ None → HasRead first.reader old.reader one (arrived (number_of first.port) past)
    → IsReadAs old.reader new.reader two new.buf (left new.ends.source) a
    → FitsAhead first.reader new.reader (one ++ two) new.buf (left first.ends.source) (left new.ends.source) (arrived (number_of first.port) past) (input_end (number_of first.port) past) a
read_more left past first old new one two ahead.Unread a_is take_one take_two none read is = absurd is
read_more left past first old new one two (ahead.Frame stamp len) a_is take_one take_two none read is =
    (none, has_read_more first.reader old.reader new.reader one two (arrived (number_of first.port) past) (arrivals.Frame stamp (take len new.buf) ∷ []) read is.read, (is.running.0, record_place old.reader + length two, is.running.1))
read_more left past first old new one two (ahead.Long stamp len) a_is take_one take_two none read is =
    (none, has_read_more first.reader old.reader new.reader one two (arrived (number_of first.port) past) (arrivals.Long stamp len ∷ []) read is.read, (is.running.0, record_place old.reader + length two, is.running.1))
read_more left past first old new one two ahead.End a_is take_one take_two none read is =
    (none, whole_at first.reader old.reader one two (arrived (number_of first.port) past) hows.End (left first.ends.source) (left old.ends.source) (left new.ends.source) take_one take_two read is.whole)
read_more left past first old new one two (ahead.Malformed at) a_is take_one take_two none read is =
    (none, whole_at first.reader old.reader one two (arrived (number_of first.port) past) (hows.Malformed at) (left first.ends.source) (left old.ends.source) (left new.ends.source) take_one take_two read is.whole)
read_more left past first old new one two ahead.Failed a_is take_one take_two none read is = (
  none,
  record {
    gave = one ++ two;
    takes = takes_twice (left first.ends.source) (left old.ends.source) (left new.ends.source) one two take_one take_two;
    read = read_behind first.reader old.reader false one two (arrived (number_of first.port) past) hows.Failed read is.taken;
  },
)
read_more left past first old new one two ahead.Done a_is take_one take_two none read is = absurd is

known_same : {S K C : Type 0} (left : S → Option (List ℕ)) (source_faults : S → ℕ) (past : List Row) (first old new : PortEnds S K C) (a : Ahead) → old.ahead ≡ a → IsReadAhead a → (IsReadAhead old.ahead → new ≡ old) → FitsSoFar left source_faults past first old → FitsSoFar left source_faults past first new
known_same {S} {K} {C} left source_faults past first old new a is known same so_far = subst (λ (p : PortEnds S K C). FitsSoFar left source_faults past first p) (sym (same (subst IsReadAhead (sym is) known))) so_far

pub near_more : (first old new : State) (one two buf : List ℕ) (left : Option (List ℕ)) (ending : Option How) (a : Ahead) → record_place old ≡ record_place first + length one → IsReadAs old new two buf left a → IsNear first new (one ++ two) left ending a
near_more first old new one two buf left ending ahead.Unread taken is = absurd is
near_more first old new one two buf left ending (ahead.Frame stamp len) taken is =
    let now : record_place new ≡ record_place old + length two = ap record_place is.running.1 in omega (arith, now, taken, length-append one two)
near_more first old new one two buf left ending (ahead.Long stamp len) taken is =
    let now : record_place new ≡ record_place old + length two = ap record_place is.running.1 in omega (arith, now, taken, length-append one two)
near_more first old new one two buf left ending ahead.End taken is = tt
near_more first old new one two buf left ending (ahead.Malformed at) taken is =
    let few = is.near at refl in (
      omega (arith, few.0, taken, length-append one two),
      λ some. let front = few.1 some in omega (arith, front, taken, length-append one two),
    )
near_more first old new one two buf left ending ahead.Failed taken is = tt
near_more first old new one two buf left ending ahead.Done taken is = absurd is

unread_still : (a : Ahead) → a ≡ ahead.Unread → a ≡ ahead.Failed → ⊥
unread_still a unread failed = cc

none_ended : {X : Type 0} {x : X} → None ≡ Some x → ⊥
none_ended is = cc

look_one : {S K C : Type 0} (left : S → Option (List ℕ)) (source_faults : S → ℕ) (past : List Row) (first old new : PortEnds S K C) (a : Ahead) → old.ahead ≡ a → IsLooked left source_faults old new → FitsSoFar left source_faults past first old → FitsSoFar left source_faults past first new
look_one left source_faults past first old new ahead.Unread is looked so_far =
    let more = looked.read is in
    let fits : FitsAhead first.reader old.reader so_far.gave old.buf (left first.ends.source) (left old.ends.source) (arrived (number_of first.port) past) (input_end (number_of first.port) past) ahead.Unread =
    subst (λ (b : Ahead). FitsAhead first.reader old.reader so_far.gave old.buf (left first.ends.source) (left old.ends.source) (arrived (number_of first.port) past) (input_end (number_of first.port) past) b) is so_far.fits in
    let goes_on : input_end (number_of first.port) past ≢ Some hows.Failed = λ ended_so. none_ended (sym fits.0 ∙ ended_so) in
    record {
      gave = so_far.gave ++ more.0;
      takes = takes_twice (left first.ends.source) (left old.ends.source) (left new.ends.source) so_far.gave more.0 so_far.takes more.1;
      fits = read_more left past first old new so_far.gave more.0 new.ahead refl so_far.takes more.1 fits.0 fits.1 more.2;
      near = near_more first.reader old.reader new.reader so_far.gave more.0 new.buf (left new.ends.source) (input_end (number_of first.port) past) new.ahead
          (subst (λ (b : Ahead). IsNear first.reader old.reader so_far.gave (left old.ends.source) (input_end (number_of first.port) past) b) is so_far.near) more.2;
      later = omega (arith, so_far.later, looked.later);
      failed = λ failed.
          rose_since (source_faults first.ends.source) (source_faults old.ends.source) (source_faults new.ends.source)
          (so_far.still (unread_still old.ahead is) goes_on) (looked.failed is failed);
      broken = λ ended_so. absurd (goes_on ended_so);
      still = λ other others. looked.still other ∙ so_far.still (λ failed. unread_still old.ahead is failed) others;
    }
look_one left source_faults past first old new (ahead.Frame stamp len) is looked so_far = known_same left source_faults past first old new (ahead.Frame stamp len) is tt looked.same so_far
look_one left source_faults past first old new (ahead.Long stamp len) is looked so_far = known_same left source_faults past first old new (ahead.Long stamp len) is tt looked.same so_far
look_one left source_faults past first old new ahead.End is looked so_far = known_same left source_faults past first old new ahead.End is tt looked.same so_far
look_one left source_faults past first old new (ahead.Malformed at) is looked so_far = known_same left source_faults past first old new (ahead.Malformed at) is tt looked.same so_far
look_one left source_faults past first old new ahead.Failed is looked so_far = known_same left source_faults past first old new ahead.Failed is tt looked.same so_far
look_one left source_faults past first old new ahead.Done is looked so_far = known_same left source_faults past first old new ahead.Done is tt looked.same so_far

pub fits_looked : {S K C : Type 0} (left : S → Option (List ℕ)) (source_faults : S → ℕ) (past : List Row) (first old new : List (PortEnds S K C)) → EachPair (FitsSoFar left source_faults past) first old → EachPair (IsLooked left source_faults) old new → EachPair (FitsSoFar left source_faults past) first new
fits_looked left source_faults past first old new so_far looked = record {
  size = looked.size ∙ so_far.size;
  each = λ k d within.
      look_one left source_faults past (get_or first k d) (get_or old k d) (get_or new k d) (get_or old k d).ahead refl (looked.each k d (omega (arith, so_far.size))) (so_far.each k d within);
}

-- the start

start_one : {S K C : Type 0} (left : S → Option (List ℕ)) (written : K → Option (List ℕ)) (source_faults : S → ℕ) (faults : K → ℕ) (past : List Row) (old new : PortEnds S K C) → HoldsSame (number_of old.port) [] past → IsUnread old → OnlySink written faults old new → FitsSoFar left source_faults past old new
start_one {S} {K} {C} left written source_faults faults past old new holds unread only =
    let start : FitsSoFar left source_faults past old (record old { ends = record old.ends { sink = new.ends.sink } }) =
    record {
      gave = [];
      takes = sym (front_none (left old.ends.source));
      fits = rw (unread.0, holds.arrivals_same, holds.end_same) (refl, λ seen rest later ending comes. comes);
      near = subst (λ (a : Ahead). IsNear old.reader old.reader [] (left old.ends.source) (input_end (number_of old.port) past) a) (sym unread.0) (omega arith);
      later = omega arith;
      failed = λ failed. absurd (unread_still old.ahead unread.0 failed);
      still = λ other others. refl;
      broken = λ ended_so. absurd (none_ended (sym holds.end_same ∙ ended_so));
    } in
    subst (λ (p : PortEnds S K C). FitsSoFar left source_faults past old p) (sym only.same) start

pub fits_started : {S K C : Type 0} (left : S → Option (List ℕ)) (written : K → Option (List ℕ)) (source_faults : S → ℕ) (faults : K → ℕ) (past : List Row) (first new : List (PortEnds S K C)) → ((n : ℕ) → HoldsSame n [] past) → All IsUnread first → EachPair (OnlySink written faults) first new → EachPair (FitsSoFar left source_faults past) first new
fits_started left written source_faults faults past first new holds unread only = record {
  size = only.size;
  each = λ k d within. start_one left written source_faults faults past (get_or first k d) (get_or new k d) (holds (number_of (get_or first k d).port)) (unread k d within) (only.each k d within);
}

-- a turn

-- rows that are the same
pub fits_rows : {S K C : Type 0} (left : S → Option (List ℕ)) (source_faults : S → ℕ) (past now : List Row) (first old : List (PortEnds S K C)) → now ≡ past → EachPair (FitsSoFar left source_faults past) first old → EachPair (FitsSoFar left source_faults now) first old
fits_rows {S} {K} {C} left source_faults past now first old same so_far = subst (λ (l : List Row). EachPair (FitsSoFar left source_faults l) first old) (sym same) so_far

-- nothing that this port is changed but the sink, and the history holds the same of its input
same_one : {S K C : Type 0} (left : S → Option (List ℕ)) (written : K → Option (List ℕ)) (source_faults : S → ℕ) (faults : K → ℕ) (past now : List Row) (first old new : PortEnds S K C) → IsStepped written faults old new → new.ahead ≡ old.ahead → HoldsSame (number_of first.port) past now → FitsSoFar left source_faults past first old → FitsSoFar left source_faults now first new
same_one {S} {K} {C} left written source_faults faults past now first old new stepped ahead_is holds so_far =
    let moved : FitsSoFar left source_faults now first (record old { ends = record old.ends { sink = new.ends.sink } }) =
    record {
      gave = so_far.gave;
      takes = so_far.takes;
      fits = rw (holds.arrivals_same, holds.end_same) so_far.fits;
      near = subst (λ (e : Option How). IsNear first.reader old.reader so_far.gave (left old.ends.source) e old.ahead) (sym holds.end_same) so_far.near;
      later = so_far.later;
      failed = so_far.failed;
      broken = λ ended_so. so_far.broken (sym holds.end_same ∙ ended_so);
      still = λ other others. so_far.still other (λ ended_so. others (holds.end_same ∙ ended_so));
    } in
    let same : new ≡ record old { ends = record old.ends { sink = new.ends.sink } } =
    stepped.same ∙ ap (λ (a : Ahead). record old { ends = record old.ends { sink = new.ends.sink }; ahead = a }) ahead_is in
    subst (λ (p : PortEnds S K C). FitsSoFar left source_faults now first p) (sym same) moved

-- a turn that is no port's changes no more than sinks
pub fits_sunk : {S K C : Type 0} (left : S → Option (List ℕ)) (written : K → Option (List ℕ)) (source_faults : S → ℕ) (faults : K → ℕ) (past now : List Row) (first old new : List (PortEnds S K C)) → EachPair (FitsSoFar left source_faults past) first old → EachPair (IsStepped written faults) old new
    → ((k : ℕ) (d : PortEnds S K C) → k < length old → (get_or new k d).ahead ≡ (get_or old k d).ahead) → ((n : ℕ) → HoldsSame n past now) → EachPair (FitsSoFar left source_faults now) first new
fits_sunk left written source_faults faults past now first old new so_far stepped same holds = record {
  size = stepped.size ∙ so_far.size;
  each = λ k d within.
      let inside : k < length old = omega (arith, so_far.size, within) in
      same_one left written source_faults faults past now (get_or first k d) (get_or old k d) (get_or new k d) (stepped.each k d inside) (same k d inside) (holds (number_of (get_or first k d).port)) (so_far.each k d within);
}

-- behind the turn of this port

pub same_turn : (t u : Turn) → Some t ≡ Some u → u ≡ t
same_turn t u is = cc

arrival_turn : (first reader : State) (gave buf : List ℕ) (before after : Option (List ℕ)) (past now : List Row) (port : Port) (arrival : Arrival) (b : Ahead) (turn : Turn) → turn ≡ Arrives port arrival → b ≡ ahead_after (ends_input turn) → IsHeld turn past now
    → input_end (number_of port) past ≡ None → HasRead first reader gave (arrived (number_of port) past ++ arrival ∷ []) → FitsAhead first reader gave buf before after (arrived (number_of port) now) (input_end (number_of port) now) b
arrival_turn first reader gave buf before after past now port arrival b turn turn_is b_is held none read =
    let b_now : b ≡ ahead.Unread = b_is ∙ ap (λ (t : Turn). ahead_after (ends_input t)) turn_is in
    let more : HoldsMore (number_of port) past now arrival = subst (λ (t : Turn). IsHeld t past now) turn_is held in
    subst (λ (c : Ahead). FitsAhead first reader gave buf before after (arrived (number_of port) now) (input_end (number_of port) now) c) (sym b_now)
    (more.end_same ∙ none, subst (λ (list : List Arrival). HasRead first reader gave list) (sym more.arrivals_more) read)

-- the turn ended the input so
ends_so : (past now : List Row) (port : Port) (how : How) (turn : Turn) → turn ≡ Ends (Ingress port) how → IsHeld turn past now → HoldsEnd (number_of port) past now how
ends_so past now port how turn turn_is held = subst (λ (t : Turn). IsHeld t past now) turn_is held

end_turn : (first reader : State) (gave buf : List ℕ) (before after : Option (List ℕ)) (past now : List Row) (port : Port) (how : How) (b : Ahead) (turn : Turn) → turn ≡ Ends (Ingress port) how → b ≡ ahead_after (ends_input turn) → IsHeld turn past now
    → Fits (AreInput (Comes first)) before after (arrived (number_of port) past) (Some how) → FitsAhead first reader gave buf before after (arrived (number_of port) now) (input_end (number_of port) now) b
end_turn first reader gave buf before after past now port how b turn turn_is b_is held fits =
    let ends = ends_so past now port how turn turn_is held in
    let b_now : b ≡ ahead.Done = b_is ∙ ap (λ (t : Turn). ahead_after (ends_input t)) turn_is in
    let at_end : Fits (AreInput (Comes first)) before after (arrived (number_of port) now) (input_end (number_of port) now) =
    subst (λ (e : Option How). Fits (AreInput (Comes first)) before after (arrived (number_of port) now) e) (sym ends.ended_so)
    (subst (λ (list : List Arrival). Fits (AreInput (Comes first)) before after list (Some how)) (sym ends.arrivals_same) fits) in
    subst (λ (c : Ahead). FitsAhead first reader gave buf before after (arrived (number_of port) now) (input_end (number_of port) now) c) (sym b_now) at_end

entered_fits : (first reader : State) (gave buf : List ℕ) (before after : Option (List ℕ)) (past now : List Row) (port : Port) (a b : Ahead) (turn : Turn) → turn_ahead port buf a ≡ Some turn → b ≡ ahead_after (ends_input turn) → IsHeld turn past now
    → FitsAhead first reader gave buf before after (arrived (number_of port) past) (input_end (number_of port) past) a → FitsAhead first reader gave buf before after (arrived (number_of port) now) (input_end (number_of port) now) b
entered_fits first reader gave buf before after past now port ahead.Unread b turn is b_is held fits = cc
entered_fits first reader gave buf before after past now port (ahead.Frame stamp len) b turn is b_is held fits =
    let arrival = arrivals.Frame stamp (take len buf) in
    arrival_turn first reader gave buf before after past now port arrival b turn (same_turn (Arrives port arrival) turn is) b_is held fits.0 fits.1
entered_fits first reader gave buf before after past now port (ahead.Long stamp len) b turn is b_is held fits =
    let arrival = arrivals.Long stamp len in
    arrival_turn first reader gave buf before after past now port arrival b turn (same_turn (Arrives port arrival) turn is) b_is held fits.0 fits.1
entered_fits first reader gave buf before after past now port ahead.End b turn is b_is held fits =
    end_turn first reader gave buf before after past now port hows.End b turn (same_turn (Ends (Ingress port) hows.End) turn is) b_is held fits.1
entered_fits first reader gave buf before after past now port (ahead.Malformed at) b turn is b_is held fits =
    end_turn first reader gave buf before after past now port (hows.Malformed at) b turn (same_turn (Ends (Ingress port) (hows.Malformed at)) turn is) b_is held fits.1
entered_fits first reader gave buf before after past now port ahead.Failed b turn is b_is held fits =
    end_turn first reader gave buf before after past now port hows.Failed b turn (same_turn (Ends (Ingress port) hows.Failed) turn is) b_is held fits.1
entered_fits first reader gave buf before after past now port ahead.Done b turn is b_is held fits = cc

-- An input ends at a failed read only where that was read, or where it had ended so.

arrival_broken : (R : Type 0) (past now : List Row) (port : Port) (arrival : Arrival) (turn : Turn) → turn ≡ Arrives port arrival → IsHeld turn past now → (input_end (number_of port) past ≡ Some hows.Failed → R) → input_end (number_of port) now ≡ Some hows.Failed → R
arrival_broken R past now port arrival turn turn_is held was is =
    let more : HoldsMore (number_of port) past now arrival = subst (λ (t : Turn). IsHeld t past now) turn_is held in
    was (sym more.end_same ∙ is)

end_broken : (R : Type 0) (past now : List Row) (port : Port) (how : How) (turn : Turn) → turn ≡ Ends (Ingress port) how → IsHeld turn past now → (how ≡ hows.Failed → R) → input_end (number_of port) now ≡ Some hows.Failed → R
end_broken R past now port how turn turn_is held failed is =
    let e : Some how ≡ Some hows.Failed = sym (ends_so past now port how turn turn_is held).ended_so ∙ is in failed cc

entered_broken : (R : Type 0) (past now : List Row) (port : Port) (buf : List ℕ) (a : Ahead) (turn : Turn) → turn_ahead port buf a ≡ Some turn → IsHeld turn past now → (a ≡ ahead.Failed → R) → (input_end (number_of port) past ≡ Some hows.Failed → R)
    → input_end (number_of port) now ≡ Some hows.Failed → R
entered_broken R past now port buf ahead.Unread turn is held failed was = cc
entered_broken R past now port buf (ahead.Frame stamp len) turn is held failed was =
    let arrival = arrivals.Frame stamp (take len buf) in
    arrival_broken R past now port arrival turn (same_turn (Arrives port arrival) turn is) held was
entered_broken R past now port buf (ahead.Long stamp len) turn is held failed was =
    let arrival = arrivals.Long stamp len in
    arrival_broken R past now port arrival turn (same_turn (Arrives port arrival) turn is) held was
entered_broken R past now port buf ahead.End turn is held failed was =
    end_broken R past now port hows.End turn (same_turn (Ends (Ingress port) hows.End) turn is) held (λ same. cc)
entered_broken R past now port buf (ahead.Malformed at) turn is held failed was =
    end_broken R past now port (hows.Malformed at) turn (same_turn (Ends (Ingress port) (hows.Malformed at)) turn is) held (λ same. cc)
entered_broken R past now port buf ahead.Failed turn is held failed was =
    end_broken R past now port hows.Failed turn (same_turn (Ends (Ingress port) hows.Failed) turn is) held (λ same. failed refl)
entered_broken R past now port buf ahead.Done turn is held failed was = cc

never_failed : (b : Bool) (a : Ahead) → a ≡ ahead_after b → a ≡ ahead.Failed → ⊥
never_failed true a is failed = cc
never_failed false a is failed = cc

-- behind a turn

near_arrival : (first reader : State) (gave : List ℕ) (after : Option (List ℕ)) (ending : Option How) (port : Port) (arrival : Arrival) (b : Ahead) (turn : Turn) → turn ≡ Arrives port arrival → b ≡ ahead_after (ends_input turn) → record_place reader ≡ record_place first + length gave
    → IsNear first reader gave after ending b
near_arrival first reader gave after ending port arrival b turn turn_is b_is taken =
    let b_now : b ≡ ahead.Unread = b_is ∙ ap (λ (t : Turn). ahead_after (ends_input t)) turn_is in
    subst (λ (c : Ahead). IsNear first reader gave after ending c) (sym b_now) taken

near_end : (first reader : State) (gave : List ℕ) (after : Option (List ℕ)) (past now : List Row) (port : Port) (how : How) (b : Ahead) (turn : Turn) → turn ≡ Ends (Ingress port) how → b ≡ ahead_after (ends_input turn) → IsHeld turn past now → ((at : ℕ) → how ≡ hows.Malformed at → IsNearFault at (length gave) after)
    → IsNear first reader gave after (input_end (number_of port) now) b
near_end first reader gave after past now port how b turn turn_is b_is held few =
    let b_now : b ≡ ahead.Done = b_is ∙ ap (λ (t : Turn). ahead_after (ends_input t)) turn_is in
    subst (λ (c : Ahead). IsNear first reader gave after (input_end (number_of port) now) c) (sym b_now)
    (λ at is. few at (same_end how at (sym (ends_so past now port how turn turn_is held).ended_so ∙ is)))
  where
    same_end : (how : How) (at : ℕ) → Some how ≡ Some (hows.Malformed at) → how ≡ hows.Malformed at
    same_end how at e = cc

near_entered : (first reader : State) (gave : List ℕ) (after : Option (List ℕ)) (past now : List Row) (port : Port) (buf : List ℕ) (a b : Ahead) (turn : Turn) → turn_ahead port buf a ≡ Some turn → b ≡ ahead_after (ends_input turn) → IsHeld turn past now
    → IsNear first reader gave after (input_end (number_of port) past) a → IsNear first reader gave after (input_end (number_of port) now) b
near_entered first reader gave after past now port buf ahead.Unread b turn is b_is held near = cc
near_entered first reader gave after past now port buf (ahead.Frame stamp len) b turn is b_is held near =
    let arrival = arrivals.Frame stamp (take len buf) in near_arrival first reader gave after (input_end (number_of port) now) port arrival b turn (same_turn (Arrives port arrival) turn is) b_is near
near_entered first reader gave after past now port buf (ahead.Long stamp len) b turn is b_is held near =
    let arrival = arrivals.Long stamp len in near_arrival first reader gave after (input_end (number_of port) now) port arrival b turn (same_turn (Arrives port arrival) turn is) b_is near
near_entered first reader gave after past now port buf ahead.End b turn is b_is held near =
    near_end first reader gave after past now port hows.End b turn (same_turn (Ends (Ingress port) hows.End) turn is) b_is held (λ at same. cc)
near_entered first reader gave after past now port buf (ahead.Malformed at) b turn is b_is held near =
    near_end first reader gave after past now port (hows.Malformed at) b turn (same_turn (Ends (Ingress port) (hows.Malformed at)) turn is) b_is held
    (λ place same. let e : at ≡ place = cc in subst (λ (n : ℕ). IsNearFault n (length gave) after) e near)
near_entered first reader gave after past now port buf ahead.Failed b turn is b_is held near =
    near_end first reader gave after past now port hows.Failed b turn (same_turn (Ends (Ingress port) hows.Failed) turn is) b_is held (λ at same. cc)
near_entered first reader gave after past now port buf ahead.Done b turn is b_is held near = cc

-- the end of an input at a failed read that was read
fails_there : (past now : List Row) (port : Port) (buf : List ℕ) (a : Ahead) (turn : Turn) → turn_ahead port buf a ≡ Some turn → IsHeld turn past now → a ≡ ahead.Failed → input_end (number_of port) now ≡ Some hows.Failed
fails_there past now port buf a turn is held failed =
    let turn_is : turn ≡ Ends (Ingress port) hows.Failed = same_turn (Ends (Ingress port) hows.Failed) turn (subst (λ (b : Ahead). turn_ahead port buf b ≡ Some turn) failed is) in
    (ends_so past now port hows.Failed turn turn_is held).ended_so

-- an input with a turn has not ended
open_before : (first reader : State) (gave buf : List ℕ) (before after : Option (List ℕ)) (past : List Row) (port : Port) (a : Ahead) (turn : Turn) → turn_ahead port buf a ≡ Some turn
    → FitsAhead first reader gave buf before after (arrived (number_of port) past) (input_end (number_of port) past) a → input_end (number_of port) past ≡ None
open_before first reader gave buf before after past port ahead.Unread turn is fits = fits.0
open_before first reader gave buf before after past port (ahead.Frame stamp len) turn is fits = fits.0
open_before first reader gave buf before after past port (ahead.Long stamp len) turn is fits = fits.0
open_before first reader gave buf before after past port ahead.End turn is fits = fits.0
open_before first reader gave buf before after past port (ahead.Malformed at) turn is fits = fits.0
open_before first reader gave buf before after past port ahead.Failed turn is fits = fits.0
open_before first reader gave buf before after past port ahead.Done turn is fits = cc

here_one : {S K C : Type 0} (left : S → Option (List ℕ)) (written : K → Option (List ℕ)) (source_faults : S → ℕ) (faults : K → ℕ) (past now : List Row) (first old new : PortEnds S K C) (turn : Turn) → old.port ≡ first.port → IsStepped written faults old new → turn_of old ≡ Some turn
    → IsHeld turn past now → new.ahead ≡ ahead_after (ends_input turn) → FitsSoFar left source_faults past first old → FitsSoFar left source_faults now first new
here_one {S} {K} {C} left written source_faults faults past now first old new turn port_is stepped turn_is held ahead_is so_far =
    let turn_first : turn_ahead first.port old.buf old.ahead ≡ Some turn = ap (λ (p : Port). turn_ahead p old.buf old.ahead) (sym port_is) ∙ turn_is in
    let moved : FitsSoFar left source_faults now first (record old { ends = record old.ends { sink = new.ends.sink }; ahead = new.ahead }) =
    record {
      gave = so_far.gave;
      takes = so_far.takes;
      fits = entered_fits first.reader old.reader so_far.gave old.buf (left first.ends.source) (left old.ends.source) past now first.port old.ahead new.ahead turn turn_first ahead_is held so_far.fits;
      near = near_entered first.reader old.reader so_far.gave (left old.ends.source) past now first.port old.buf old.ahead new.ahead turn turn_first ahead_is held so_far.near;
      later = so_far.later;
      failed = λ failed. absurd (never_failed (ends_input turn) new.ahead ahead_is failed);
      broken = entered_broken (Rose (source_faults first.ends.source) (source_faults old.ends.source)) past now first.port old.buf old.ahead turn turn_first held so_far.failed so_far.broken;
      still = λ other others.
          so_far.still (λ failed. others (fails_there past now first.port old.buf old.ahead turn turn_first held failed))
          (λ ended_so. none_ended (sym (open_before first.reader old.reader so_far.gave old.buf (left first.ends.source) (left old.ends.source) past first.port old.ahead turn turn_first so_far.fits) ∙ ended_so));
    } in
    subst (λ (p : PortEnds S K C). FitsSoFar left source_faults now first p) (sym stepped.same) moved

-- whose turn it was
pub turn_port : (port : Port) (buf : List ℕ) (a : Ahead) (turn : Turn) → turn_ahead port buf a ≡ Some turn → IsTurnOf port turn
turn_port port buf ahead.Unread turn is = cc
turn_port port buf (ahead.Frame stamp len) turn is = rw (same_turn (Arrives port (arrivals.Frame stamp (take len buf))) turn is) refl
turn_port port buf (ahead.Long stamp len) turn is = rw (same_turn (Arrives port (arrivals.Long stamp len)) turn is) refl
turn_port port buf ahead.End turn is = rw (same_turn (Ends (Ingress port) hows.End) turn is) refl
turn_port port buf (ahead.Malformed at) turn is = rw (same_turn (Ends (Ingress port) (hows.Malformed at)) turn is) refl
turn_port port buf ahead.Failed turn is = rw (same_turn (Ends (Ingress port) hows.Failed) turn is) refl
turn_port port buf ahead.Done turn is = cc

module _ {S K C : Type 0} (left : S → Option (List ℕ)) (written : K → Option (List ℕ)) (source_faults : S → ℕ) (faults : K → ℕ) (first old new : List (PortEnds S K C)) (past now : List Row) (j : ℕ) (turn : Turn)
    (ports_are : (k : ℕ) (d : PortEnds S K C) → k < length first → (get_or old k d).port ≡ (get_or first k d).port)
    (inside : j < length first) (so_far : EachPair (FitsSoFar left source_faults past) first old) (stepped : EachPair (IsStepped written faults) old new)
    (others : (k : ℕ) (d : PortEnds S K C) → k ≢ j → k < length old → (get_or new k d).ahead ≡ (get_or old k d).ahead)
    (turn_is : (d : PortEnds S K C) → turn_of (get_or old j d) ≡ Some turn) (held : IsHeld turn past now)
    (apart : (k : ℕ) (d : PortEnds S K C) → k < length first → k ≢ j → HoldsSame (number_of (get_or first k d).port) past now)
    (ahead_is : (d : PortEnds S K C) → (get_or new j d).ahead ≡ ahead_after (ends_input turn)) where
  turned_at : (k : ℕ) (d : PortEnds S K C) → k < length first → (k ≡ j) ⊎ (k ≢ j) → FitsSoFar left source_faults now (get_or first k d) (get_or new k d)
  turned_at k d within (inl same) =
      rw same (here_one left written source_faults faults past now (get_or first j d) (get_or old j d) (get_or new j d) turn (ports_are j d inside) (stepped.each j d (omega (arith, so_far.size, inside))) (turn_is d) held (ahead_is d) (so_far.each j d inside))
  turned_at k d within (inr other) =
      same_one left written source_faults faults past now (get_or first k d) (get_or old k d) (get_or new k d) (stepped.each k d (omega (arith, so_far.size))) (others k d other (omega (arith, so_far.size))) (apart k d within other) (so_far.each k d within)

  pub fits_turned : EachPair (FitsSoFar left source_faults now) first new
  fits_turned = record { size = stepped.size ∙ so_far.size; each = λ k d within. turned_at k d within (cases_eq k j) }

-- what the source of a port gave up fits what the history holds of its input
abbrev pub IsFit : {S K C : Type 0} → (S → Option (List ℕ)) → List Row → PortEnds S K C → PortEnds S K C → Type 0
IsFit left past old new =
    Fits (AreInput (Comes old.reader)) (left old.ends.source) (left new.ends.source) (arrived (number_of old.port) past) (input_end (number_of old.port) past)

-- the source has a fault exactly where the history tells of a failed read, and gave up no more than of one record behind a
-- place at fault
pub record HasCause {S K C : Type 0} (left : S → Option (List ℕ)) (source_faults : S → ℕ) (past : List Row) (old new : PortEnds S K C) : Type 0 where
  pub broken : input_end (number_of old.port) past ≡ Some hows.Failed → Rose (source_faults old.ends.source) (source_faults new.ends.source)
  pub still : input_end (number_of old.port) past ≢ Some hows.Failed → source_faults new.ends.source ≡ source_faults old.ends.source
  pub near : (at : ℕ) → input_end (number_of old.port) past ≡ Some (hows.Malformed at) → GaveNear (left old.ends.source) (left new.ends.source) at

pub fits_finished : {S K C : Type 0} (left : S → Option (List ℕ)) (source_faults : S → ℕ) (first old : List (PortEnds S K C)) (past now : List Row) → EachPair (FitsSoFar left source_faults past) first old
    → ((k : ℕ) (d : PortEnds S K C) → k < length old → (get_or old k d).ahead ≡ ahead.Done) → ((n : ℕ) → HoldsSame n past now) → EachPair (IsFit left now) first old
fits_finished left source_faults first old past now so_far done holds = record {
  size = so_far.size;
  each = λ k d within.
      let one = so_far.each k d within in
      let n = number_of (get_or first k d).port in
      let same = holds n in
      let fits : FitsAhead (get_or first k d).reader (get_or old k d).reader one.gave (get_or old k d).buf (left (get_or first k d).ends.source) (left (get_or old k d).ends.source) (arrived n past) (input_end n past) ahead.Done =
      subst (λ (a : Ahead). FitsAhead (get_or first k d).reader (get_or old k d).reader one.gave (get_or old k d).buf (left (get_or first k d).ends.source) (left (get_or old k d).ends.source) (arrived n past) (input_end n past) a) (done k d (omega (arith, so_far.size))) one.fits in
      rw (same.arrivals_same, same.end_same) fits;
}

pub done_apart : (a : Ahead) → a ≡ ahead.Done → a ≢ ahead.Failed
done_apart a done failed = cc

-- a fault came exactly where the history tells of a failed read, also where it holds no more of the inputs since
pub causes_finished : {S K C : Type 0} (left : S → Option (List ℕ)) (source_faults : S → ℕ) (first old : List (PortEnds S K C)) (past now : List Row) → EachPair (FitsSoFar left source_faults past) first old
    → ((k : ℕ) (d : PortEnds S K C) → k < length old → (get_or old k d).ahead ≡ ahead.Done) → ((n : ℕ) → input_end n now ≡ input_end n past) → EachPair (HasCause left source_faults now) first old
causes_finished left source_faults first old past now so_far done same = record {
  size = so_far.size;
  each = λ k d within.
      let one = so_far.each k d within in
      let n = number_of (get_or first k d).port in
      record {
        broken = λ ended_so. one.broken (sym (same n) ∙ ended_so);
        still = λ others. one.still (done_apart (get_or old k d).ahead (done k d (omega (arith, so_far.size)))) (λ ended_so. others (same n ∙ ended_so));
        near = λ at ended_so. (
          one.gave,
          one.takes,
          subst (λ (a : Ahead). IsNear (get_or first k d).reader (get_or old k d).reader one.gave (left (get_or old k d).ends.source) (input_end n past) a) (done k d (omega (arith, so_far.size))) one.near at (sym (same n) ∙ ended_so),
        );
      };
}
