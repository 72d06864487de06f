-- What was taken of the input of one port, and what is known of it.
use Rattle.std.proofs.Common.{◌≡◌, ◌≢◌, ℕ, ◌+◌, ◌≤◌, List, [], ◌∷◌, ◌++◌, length, map, take, true, false, refl, sym, ap, ◌∙◌, subst, arith, append-nil, Option, Some, None}
use Rattle.std.proofs.lemmas.List.{map-append}
use Rattle.savi_kinds.specs.declared.port.Port.{Port}
use Rattle.savi_kinds.specs.declared.entry.Who.TheVariants.{Ingress}
use Rattle.savi_kinds.specs.declared.entry.How.{How}
use Rattle.savi_kinds.specs.declared.entry.How.TheVariants as hows
use Rattle.savi_kinds.specs.Arrivals.{Arrival, Input}
use Rattle.savi_kinds.specs.Arrivals as arrivals
use Rattle.savi_ends.specs.Faults.{Rose}
use Rattle.savi_ends.proofs.FaultCounts.{rose_since}
use Rattle.savi_ends.specs.Octets.{Takes}
use Rattle.pcap_io.specs.Readers.{State, Comes, HasRead, IsNearFault, record_place}
use Rattle.pcap_io.proofs.CallsJoined.{has_read_more}
use Rattle.savi_history.specs.Fits.{IsWhole, IsBroken}
use Rattle.savi_history.specs.Turns.{Turn, Arrives, Ends, turns}
use Rattle.port_worker.specs.declared.port_ends.Ahead.{Ahead}
use Rattle.port_worker.specs.declared.port_ends.Ahead.TheVariants as ahead
use Rattle.port_worker.specs.declared.port_ends.PortEnds.{PortEnds}
use Rattle.port_worker.specs.Inputs.{IsReadAhead, IsLooked, IsReadAs, IsSoundAhead, IsReadable, turn_ahead, turn_of}
use Rattle.port_worker.specs.PortTurns.{ahead_passed}
use Rattle.port_worker.specs.Replays.{IsUnread}
use Rattle.port_worker.specs.Served.{AreInput, IsInputOf}
use Rattle.port_worker.proofs.Fitting.{IsNear, done_apart, near_more, same_turn, whole_at}
use Rattle.port_worker.proofs.Joining.{front_none, takes_twice, read_behind}
use Rattle.learn_run.specs.Learning.{IsHeard}
use Rattle.learn_run.proofs.Telling.{input_of, input_again}

-- the turn of an ending, where there is one
abbrev pub ending_turns : Port → Option How → List Turn
ending_turns port None = []
ending_turns port (Some how) = Ends (Ingress port) how ∷ []

-- what was taken from the source so far is these arrivals and what is known, and so much of the input has ended
abbrev pub FitsAhead : State → State → List ℕ → List ℕ → Option (List ℕ) → Option (List ℕ) → List Arrival → Option How → Ahead → Type 0
FitsAhead first now gave buf before after came ending ahead.Unread = (ending ≡ None) × HasRead first now gave came
FitsAhead first now gave buf before after came ending (ahead.Frame stamp len) = (ending ≡ None) × HasRead first now gave (came ++ arrivals.Frame stamp (take len buf) ∷ [])
FitsAhead first now gave buf before after came ending (ahead.Long stamp len) = (ending ≡ None) × HasRead first now gave (came ++ arrivals.Long stamp len ∷ [])
FitsAhead first now gave buf before after came ending ahead.End = (ending ≡ None) × IsWhole (AreInput (Comes first) true) before came hows.End
FitsAhead first now gave buf before after came ending (ahead.Malformed at) = (ending ≡ None) × IsWhole (AreInput (Comes first) true) before came (hows.Malformed at)
FitsAhead first now gave buf before after came ending ahead.Failed = (ending ≡ None) × IsBroken (AreInput (Comes first) false) before after came
FitsAhead first now gave buf before after came ending ahead.Done = (how : How) × (ending ≡ Some how) × IsInputOf (Comes first) before after (Some how) came how

pub record Hears {S K C : Type 0} (left : S → Option (List ℕ)) (faults : S → ℕ) (old new : PortEnds S K C) (taken : List Turn) : Type 0 where
  pub came : List Arrival
  pub ending : Option How
  pub taken_is : taken ≡ map (λ a. Arrives old.port a) came ++ ending_turns old.port ending
  pub gave : List ℕ
  pub takes : Takes (left old.ends.source) (left new.ends.source) gave
  pub fits : FitsAhead old.reader new.reader gave new.buf (left old.ends.source) (left new.ends.source) came ending new.ahead
  pub near : IsNear old.reader new.reader gave (left new.ends.source) ending new.ahead
  pub sound : IsSoundAhead new.reader new.ahead
  pub port : new.port ≡ old.port
  pub sink : new.ends.sink ≡ old.ends.sink
  pub clock : new.ends.clock ≡ old.ends.clock
  pub later : faults old.ends.source ≤ faults new.ends.source
  -- a read that failed, taken or not, was a fault of the source, and there was no other one
  pub failed : new.ahead ≡ ahead.Failed → Rose (faults old.ends.source) (faults new.ends.source)
  pub broken : ending ≡ Some hows.Failed → Rose (faults old.ends.source) (faults new.ends.source)
  pub still : new.ahead ≢ ahead.Failed → ending ≢ Some hows.Failed → faults new.ends.source ≡ faults old.ends.source

-- at first

pub hears_start : {S K C : Type 0} (left : S → Option (List ℕ)) (faults : S → ℕ) (p : PortEnds S K C) → IsUnread p → Hears left faults p p []
hears_start left faults p unread = record {
  came = [];
  ending = None;
  taken_is = refl;
  gave = [];
  takes = sym (front_none (left p.ends.source));
  fits = rw unread.0 (refl, λ seen rest later ending comes. comes);
  near = subst (λ (a : Ahead). IsNear p.reader p.reader [] (left p.ends.source) None a) (sym unread.0) (omega arith);
  sound = rw unread.0 unread.1;
  port = refl;
  sink = refl;
  clock = refl;
  later = omega arith;
  failed = λ is. let e : ahead.Unread ≡ ahead.Failed = sym unread.0 ∙ is in cc;
  broken = λ is. cc;
  still = λ other others. refl;
}

-- a look

read_more : (first mid now : State) (one two buf : List ℕ) (came : List Arrival) (ending : Option How) (a b c : Option (List ℕ)) (k : Ahead) → Takes a b one → Takes b c two → ending ≡ None → HasRead first mid one came
    → IsReadAs mid now two buf c k → FitsAhead first now (one ++ two) buf a c came ending k
read_more first mid now one two buf came ending a b c ahead.Unread take_one take_two none read is = absurd is
read_more first mid now one two buf came ending a b c (ahead.Frame stamp len) take_one take_two none read is =
    (none, has_read_more first mid now one two came (arrivals.Frame stamp (take len buf) ∷ []) read is.read)
read_more first mid now one two buf came ending a b c (ahead.Long stamp len) take_one take_two none read is =
    (none, has_read_more first mid now one two came (arrivals.Long stamp len ∷ []) read is.read)
read_more first mid now one two buf came ending a b c ahead.End take_one take_two none read is =
    (none, whole_at first mid one two came hows.End a b c take_one take_two read is.whole)
read_more first mid now one two buf came ending a b c (ahead.Malformed at) take_one take_two none read is =
    (none, whole_at first mid one two came (hows.Malformed at) a b c take_one take_two read is.whole)
read_more first mid now one two buf came ending a b c ahead.Failed take_one take_two none read is =
    (none, record { gave = one ++ two; takes = takes_twice a b c one two take_one take_two; read = read_behind first mid false one two came hows.Failed read is.taken })
read_more first mid now one two buf came ending a b c ahead.Done take_one take_two none read is = absurd is

hears_known : {S K C : Type 0} (left : S → Option (List ℕ)) (faults : S → ℕ) (first old new : PortEnds S K C) (taken : List Turn) (a : Ahead) → old.ahead ≡ a → IsReadAhead a → (IsReadAhead old.ahead → new ≡ old) → Hears left faults first old taken → Hears left faults first new taken
hears_known {S} {K} {C} left faults first old new taken a is known same h = subst (λ (p : PortEnds S K C). Hears left faults first p taken) (sym (same (subst IsReadAhead (sym is) known))) h

unread_apart : (a : Ahead) → a ≡ ahead.Unread → a ≢ ahead.Failed
unread_apart a unread failed = cc

none_ending : (e : Option How) → e ≡ None → e ≢ Some hows.Failed
none_ending e none some = cc

look_at : {S K C : Type 0} (left : S → Option (List ℕ)) (faults : S → ℕ) (first old new : PortEnds S K C) (taken : List Turn) (a : Ahead) → old.ahead ≡ a → IsLooked left faults old new → Hears left faults first old taken → Hears left faults first new taken
look_at left faults first old new taken ahead.Unread is looked h =
    let more = looked.read is in
    let fits : FitsAhead first.reader old.reader h.gave old.buf (left first.ends.source) (left old.ends.source) h.came h.ending ahead.Unread =
    subst (λ (b : Ahead). FitsAhead first.reader old.reader h.gave old.buf (left first.ends.source) (left old.ends.source) h.came h.ending b) is h.fits in
    let goes_on : h.ending ≢ Some hows.Failed = none_ending h.ending fits.0 in
    record {
      came = h.came;
      ending = h.ending;
      taken_is = h.taken_is;
      gave = h.gave ++ more.0;
      takes = takes_twice (left first.ends.source) (left old.ends.source) (left new.ends.source) h.gave more.0 h.takes more.1;
      fits = read_more first.reader old.reader new.reader h.gave more.0 new.buf h.came h.ending (left first.ends.source) (left old.ends.source) (left new.ends.source) new.ahead h.takes more.1 fits.0 fits.1 more.2;
      near = near_more first.reader old.reader new.reader h.gave more.0 new.buf (left new.ends.source) h.ending new.ahead
          (subst (λ (b : Ahead). IsNear first.reader old.reader h.gave (left old.ends.source) h.ending b) is h.near) more.2;
      sound = looked.sound;
      port = looked.port ∙ h.port;
      sink = looked.sink ∙ h.sink;
      clock = looked.clock ∙ h.clock;
      later = omega (arith, h.later, looked.later);
      failed = λ failed.
          rose_since (faults first.ends.source) (faults old.ends.source) (faults new.ends.source) (h.still (unread_apart old.ahead is) goes_on) (looked.failed is failed);
      broken = λ ended_so. absurd (goes_on ended_so);
      still = λ other others. looked.still other ∙ h.still (unread_apart old.ahead is) others;
    }
look_at left faults first old new taken (ahead.Frame stamp len) is looked h = hears_known left faults first old new taken (ahead.Frame stamp len) is tt looked.same h
look_at left faults first old new taken (ahead.Long stamp len) is looked h = hears_known left faults first old new taken (ahead.Long stamp len) is tt looked.same h
look_at left faults first old new taken ahead.End is looked h = hears_known left faults first old new taken ahead.End is tt looked.same h
look_at left faults first old new taken (ahead.Malformed at) is looked h = hears_known left faults first old new taken (ahead.Malformed at) is tt looked.same h
look_at left faults first old new taken ahead.Failed is looked h = hears_known left faults first old new taken ahead.Failed is tt looked.same h
look_at left faults first old new taken ahead.Done is looked h = hears_known left faults first old new taken ahead.Done is tt looked.same h

pub hears_looked : {S K C : Type 0} (left : S → Option (List ℕ)) (faults : S → ℕ) (first old new : PortEnds S K C) (taken : List Turn) → IsLooked left faults old new → Hears left faults first old taken → Hears left faults first new taken
hears_looked left faults first old new taken looked h = look_at left faults first old new taken old.ahead refl looked h

-- a turn that is taken

failed_ending : (how : How) → Some how ≡ Some hows.Failed → how ≡ hows.Failed
failed_ending how is = cc

same_ending : (how : How) (at : ℕ) → Some how ≡ Some (hows.Malformed at) → how ≡ hows.Malformed at
same_ending how at is = cc

same_place : (one other : ℕ) → hows.Malformed one ≡ hows.Malformed other → one ≡ other
same_place one other is = cc

module _ {S K C : Type 0} (left : S → Option (List ℕ)) (faults : S → ℕ) (first old : PortEnds S K C) (taken : List Turn) (turn : Turn) (h : Hears left faults first old taken) where
  abbrev passed : Ahead → PortEnds S K C
  passed a = record old { ahead = a }

  -- an arrival
  arrival_taken : (arrival : Arrival) → turn ≡ Arrives old.port arrival → h.ending ≡ None → taken ++ turn ∷ [] ≡ map (λ a. Arrives first.port a) (h.came ++ arrival ∷ []) ++ ending_turns first.port None
  arrival_taken arrival is none =
      ap (λ (l : List Turn). l ++ turn ∷ []) h.taken_is
      ∙ ap (λ (e : Option How). (map (λ a. Arrives first.port a) h.came ++ ending_turns first.port e) ++ turn ∷ []) none
      ∙ ap (λ (l : List Turn). l ++ turn ∷ []) (append-nil (map (λ a. Arrives first.port a) h.came))
      ∙ ap (λ (t : Turn). map (λ a. Arrives first.port a) h.came ++ t ∷ []) (is ∙ ap (λ (p : Port). Arrives p arrival) h.port)
      ∙ sym (map-append (λ a. Arrives first.port a) h.came (arrival ∷ []))
      ∙ sym (append-nil (map (λ a. Arrives first.port a) (h.came ++ arrival ∷ [])))

  arrival_passed : (arrival : Arrival) → turn ≡ Arrives old.port arrival → h.ending ≡ None → HasRead first.reader old.reader h.gave (h.came ++ arrival ∷ []) → record_place old.reader ≡ record_place first.reader + length h.gave → IsReadable old.reader → old.ahead ≢ ahead.Failed
      → Hears left faults first (passed ahead.Unread) (taken ++ turn ∷ [])
  arrival_passed arrival is none read near readable other = record {
    came = h.came ++ arrival ∷ [];
    ending = None;
    taken_is = arrival_taken arrival is none;
    gave = h.gave;
    takes = h.takes;
    fits = (refl, read);
    near = near;
    sound = readable;
    port = h.port;
    sink = h.sink;
    clock = h.clock;
    later = h.later;
    failed = λ failed. cc;
    broken = λ ended_so. cc;
    still = λ others more. h.still other (none_ending h.ending none);
  }

  -- an ending
  ending_taken : (how : How) → turn ≡ Ends (Ingress old.port) how → h.ending ≡ None → taken ++ turn ∷ [] ≡ map (λ a. Arrives first.port a) h.came ++ ending_turns first.port (Some how)
  ending_taken how is none =
      ap (λ (l : List Turn). l ++ turn ∷ []) h.taken_is
      ∙ ap (λ (e : Option How). (map (λ a. Arrives first.port a) h.came ++ ending_turns first.port e) ++ turn ∷ []) none
      ∙ ap (λ (l : List Turn). l ++ turn ∷ []) (append-nil (map (λ a. Arrives first.port a) h.came))
      ∙ ap (λ (t : Turn). map (λ a. Arrives first.port a) h.came ++ t ∷ []) (is ∙ ap (λ (p : Port). Ends (Ingress p) how) h.port)

  ending_passed : (how : How) → turn ≡ Ends (Ingress old.port) how → h.ending ≡ None → IsInputOf (Comes first.reader) (left first.ends.source) (left old.ends.source) (Some how) h.came how → ((at : ℕ) → how ≡ hows.Malformed at → IsNearFault at (length h.gave) (left old.ends.source)) → (how ≡ hows.Failed → old.ahead ≡ ahead.Failed) → (old.ahead ≡ ahead.Failed → how ≡ hows.Failed)
      → Hears left faults first (passed ahead.Done) (taken ++ turn ∷ [])
  ending_passed how is none whole few fails failing = record {
    came = h.came;
    ending = Some how;
    taken_is = ending_taken how is none;
    gave = h.gave;
    takes = h.takes;
    fits = (how, refl, whole);
    near = λ at ended_so. few at (same_ending how at ended_so);
    sound = tt;
    port = h.port;
    sink = h.sink;
    clock = h.clock;
    later = h.later;
    failed = λ failed. cc;
    broken = λ ended_so. h.failed (fails (failed_ending how ended_so));
    still = λ others more. h.still (λ failed. more (ap (λ (w : How). Some w) (failing failed))) (none_ending h.ending none);
  }

  abbrev FitsSo : Ahead → Type 0
  FitsSo a = FitsAhead first.reader old.reader h.gave old.buf (left first.ends.source) (left old.ends.source) h.came h.ending a

  abbrev NearSo : Ahead → Type 0
  NearSo a = IsNear first.reader old.reader h.gave (left old.ends.source) h.ending a

  pass_at : (a : Ahead) → old.ahead ≡ a → turn_ahead old.port old.buf a ≡ Some turn → Hears left faults first (passed (ahead_passed a)) (taken ++ turn ∷ [])
  pass_at ahead.Unread a_is is = cc
  pass_at (ahead.Frame stamp len) a_is is =
      let fits : FitsSo (ahead.Frame stamp len) = subst (λ (b : Ahead). FitsSo b) a_is h.fits in
      let sound : IsSoundAhead old.reader (ahead.Frame stamp len) = subst (λ (b : Ahead). IsSoundAhead old.reader b) a_is h.sound in
      let arrival = arrivals.Frame stamp (take len old.buf) in
      arrival_passed arrival (same_turn (Arrives old.port arrival) turn is) fits.0 fits.1 (subst (λ (b : Ahead). NearSo b) a_is h.near) sound.1 (λ failed. let e : ahead.Frame stamp len ≡ ahead.Failed = sym a_is ∙ failed in cc)
  pass_at (ahead.Long stamp len) a_is is =
      let fits : FitsSo (ahead.Long stamp len) = subst (λ (b : Ahead). FitsSo b) a_is h.fits in
      let sound : IsSoundAhead old.reader (ahead.Long stamp len) = subst (λ (b : Ahead). IsSoundAhead old.reader b) a_is h.sound in
      let arrival = arrivals.Long stamp len in
      arrival_passed arrival (same_turn (Arrives old.port arrival) turn is) fits.0 fits.1 (subst (λ (b : Ahead). NearSo b) a_is h.near) sound.1 (λ failed. let e : ahead.Long stamp len ≡ ahead.Failed = sym a_is ∙ failed in cc)
  pass_at ahead.End a_is is =
      let fits : FitsSo ahead.End = subst (λ (b : Ahead). FitsSo b) a_is h.fits in
      ending_passed hows.End (same_turn (Ends (Ingress old.port) hows.End) turn is) fits.0 fits.1 (λ at same. cc) (λ failed. cc) (λ failed. let e : ahead.End ≡ ahead.Failed = sym a_is ∙ failed in cc)
  pass_at (ahead.Malformed at) a_is is =
      let fits : FitsSo (ahead.Malformed at) = subst (λ (b : Ahead). FitsSo b) a_is h.fits in
      let near : IsNearFault at (length h.gave) (left old.ends.source) = subst (λ (b : Ahead). NearSo b) a_is h.near in
      ending_passed (hows.Malformed at) (same_turn (Ends (Ingress old.port) (hows.Malformed at)) turn is) fits.0 fits.1 (λ place same. subst (λ (n : ℕ). IsNearFault n (length h.gave) (left old.ends.source)) (same_place at place same) near) (λ failed. cc) (λ failed. let e : ahead.Malformed at ≡ ahead.Failed = sym a_is ∙ failed in cc)
  pass_at ahead.Failed a_is is =
      let fits : FitsSo ahead.Failed = subst (λ (b : Ahead). FitsSo b) a_is h.fits in
      ending_passed hows.Failed (same_turn (Ends (Ingress old.port) hows.Failed) turn is) fits.0 (refl, fits.1) (λ at same. cc) (λ failed. a_is) (λ failed. refl)
  pass_at ahead.Done a_is is = cc

pub hears_passed : {S K C : Type 0} (left : S → Option (List ℕ)) (faults : S → ℕ) (first old new : PortEnds S K C) (taken : List Turn) (turn : Turn) → turn_of old ≡ Some turn → new ≡ record old { ahead = ahead_passed old.ahead } → Hears left faults first old taken → Hears left faults first new (taken ++ turn ∷ [])
hears_passed {S} {K} {C} left faults first old new taken turn is passed_is h =
    subst (λ (p : PortEnds S K C). Hears left faults first p (taken ++ turn ∷ [])) (sym passed_is) (pass_at left faults first old taken turn h old.ahead refl is)

-- in the end

module _ {S K C : Type 0} (left : S → Option (List ℕ)) (faults : S → ℕ) (first old : PortEnds S K C) (taken : List Turn) (h : Hears left faults first old taken) (done : old.ahead ≡ ahead.Done) where
  fits_done : FitsAhead first.reader old.reader h.gave old.buf (left first.ends.source) (left old.ends.source) h.came h.ending ahead.Done
  fits_done = subst (λ (a : Ahead). FitsAhead first.reader old.reader h.gave old.buf (left first.ends.source) (left old.ends.source) h.came h.ending a) done h.fits

  taken_whole : taken ≡ map (λ a. Arrives first.port a) h.came ++ Ends (Ingress first.port) fits_done.0 ∷ []
  taken_whole = h.taken_is ∙ ap (λ (e : Option How). map (λ a. Arrives first.port a) h.came ++ ending_turns first.port e) fits_done.1

  input_is : input_of taken ≡ record { arrivals = h.came; ending = fits_done.0 }
  input_is = ap input_of taken_whole ∙ input_again first.port h.came fits_done.0

  -- what was taken are the turns of the input
  pub turns_are : taken ≡ turns first.port (input_of taken)
  turns_are = taken_whole ∙ ap (λ (i : Input). turns first.port i) (sym input_is)

  pub heard : IsHeard left faults (Comes first.reader) (input_of taken) first.ends old.ends
  heard = subst (λ (i : Input). IsHeard left faults (Comes first.reader) i first.ends old.ends) (sym input_is) (record {
    gave = fits_done.2;
    takes = (h.gave, h.takes);
    near = λ at malformed. (h.gave, h.takes, subst (λ (a : Ahead). IsNear first.reader old.reader h.gave (left old.ends.source) h.ending a) done h.near at (fits_done.1 ∙ ap (λ (w : How). Some w) malformed));
    sink = h.sink;
    clock = h.clock;
    later = h.later;
    broken = λ failed. h.broken (fits_done.1 ∙ ap (λ (w : How). Some w) failed);
    still = λ others. h.still (done_apart old.ahead done) (λ ended_so. others (failed_ending fits_done.0 (sym fits_done.1 ∙ ended_so)));
  })
