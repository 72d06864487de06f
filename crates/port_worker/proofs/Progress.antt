-- What was taken of the input of one port, and what may still come.
use Rattle.std.proofs.Common.{◌≡◌, ℕ, ◌+◌, Bool, true, false, List, [], ◌∷◌, ◌++◌, map, length, take, refl, sym, ap, ◌∙◌, subst, append_assoc, append-nil, ◌⊎◌, inl, inr, Option, Some, None, IfSome}
use Rattle.std.proofs.lemmas.List.{map-append}
use Rattle.savi_kinds.specs.declared.port.Port.{Port}
use Rattle.savi_kinds.specs.declared.plan.Plan.{Plan}
use Rattle.savi_kinds.specs.declared.entry.Who.TheVariants.{Ingress}
use Rattle.savi_kinds.specs.declared.entry.How.{How}
use Rattle.savi_kinds.specs.declared.entry.How.TheVariants as hows
use Rattle.savi_kinds.specs.Ports.{number_of}
use Rattle.savi_kinds.specs.Arrivals.{Arrival, Input}
use Rattle.savi_kinds.specs.Arrivals as arrivals
use Rattle.savi_ends.specs.Octets.{Takes}
use Rattle.pcap_io.specs.Runs.{ended}
use Rattle.pcap_io.specs.Readers.{State, Comes, HasRead, record_place}
use Rattle.pcap_io.proofs.CallsJoined.{has_read_more}
use Rattle.hist_store.specs.Rows.{Row}
use Rattle.savi_history.specs.Passes.{pass_of}
use Rattle.savi_history.specs.PortInputs.{input_end}
use Rattle.savi_history.specs.Turns.{Turn, Arrives, Ends, turns}
use Rattle.savi_segments.proofs.ForGood.{AreOf}
use Rattle.savi_segments.proofs.Reaching.{Head, Unread, Known, Done}
use Rattle.savi_segments.proofs.Reaching as reaching
use Rattle.port_worker.specs.declared.port_ends.Ahead.{Ahead}
use Rattle.port_worker.specs.declared.port_ends.Ahead.TheVariants as ahead
use Rattle.port_worker.specs.declared.port_ends.PortEnds.{PortEnds}
use Rattle.port_worker.specs.Inputs.{turn_ahead, moment_ahead, with_arrival, WillGive, WillCome, IsReadAhead, IsReadAs}
use Rattle.port_worker.specs.Served.{IsInputOf}
use Rattle.port_worker.proofs.Joining.{IsRunning, read_behind}

-- an input with more arrivals in front
abbrev pub with_front : List Arrival → Input → Input
with_front before input = record { arrivals = before ++ input.arrivals; ending = input.ending }

abbrev pub head_ahead : Port → List ℕ → Ahead → Head
head_ahead port buf ahead.Unread = Unread
head_ahead port buf (ahead.Frame stamp len) = Known (Arrives port (arrivals.Frame stamp (take len buf)))
head_ahead port buf (ahead.Long stamp len) = Known (Arrives port (arrivals.Long stamp len))
head_ahead port buf ahead.End = Known (Ends (Ingress port) hows.End)
head_ahead port buf (ahead.Malformed at) = Known (Ends (Ingress port) (hows.Malformed at))
head_ahead port buf ahead.Failed = Known (Ends (Ingress port) hows.Failed)
head_ahead port buf ahead.Done = Done

abbrev pub head_of : {S K C : Type 0} → PortEnds S K C → Head
head_of p = head_ahead p.port p.buf p.ahead

pub moment_same : (port : Port) (buf : List ℕ) (a : Ahead) → reaching.moment_of (head_ahead port buf a) ≡ moment_ahead a
moment_same port buf ahead.Unread = refl
moment_same port buf (ahead.Frame stamp len) = refl
moment_same port buf (ahead.Long stamp len) = refl
moment_same port buf ahead.End = refl
moment_same port buf (ahead.Malformed at) = refl
moment_same port buf ahead.Failed = refl
moment_same port buf ahead.Done = refl

-- where a moment is known, so is the turn
pub turn_at_moment : (port : Port) (buf : List ℕ) (a : Ahead) (n : ℕ) → moment_ahead a ≡ Some n → (t : Turn) × (turn_ahead port buf a ≡ Some t) × (head_ahead port buf a ≡ Known t)
turn_at_moment port buf ahead.Unread n is = cc
turn_at_moment port buf (ahead.Frame stamp len) n is = (_, refl, refl)
turn_at_moment port buf (ahead.Long stamp len) n is = (_, refl, refl)
turn_at_moment port buf ahead.End n is = (_, refl, refl)
turn_at_moment port buf (ahead.Malformed at) n is = (_, refl, refl)
turn_at_moment port buf ahead.Failed n is = (_, refl, refl)
turn_at_moment port buf ahead.Done n is = cc

-- where none is, the input is done
pub done_at_none : (a : Ahead) → IsReadAhead a → moment_ahead a ≡ None → a ≡ ahead.Done
done_at_none ahead.Unread known is = absurd known
done_at_none (ahead.Frame stamp len) known is = cc
done_at_none (ahead.Long stamp len) known is = cc
done_at_none ahead.End known is = cc
done_at_none (ahead.Malformed at) known is = cc
done_at_none ahead.Failed known is = cc
done_at_none ahead.Done known is = refl

pub read_known : (port : Port) (buf : List ℕ) (a : Ahead) → IsReadAhead a → reaching.IsRead (head_ahead port buf a)
read_known port buf ahead.Unread known = absurd known
read_known port buf (ahead.Frame stamp len) known = tt
read_known port buf (ahead.Long stamp len) known = tt
read_known port buf ahead.End known = tt
read_known port buf (ahead.Malformed at) known = tt
read_known port buf ahead.Failed known = tt
read_known port buf ahead.Done known = tt

-- the octets of a whole capture end so
abbrev IsWholeEnd : How → Type 0
IsWholeEnd hows.End = Unit {0}
IsWholeEnd (hows.Malformed at) = Unit {0}
IsWholeEnd hows.Failed = ⊥
IsWholeEnd hows.Quit = ⊥
IsWholeEnd (hows.Overlong at) = ⊥
IsWholeEnd hows.Unwritten = ⊥
IsWholeEnd hows.Paused = ⊥

-- What was taken from a source is these arrivals and the one that is known, or these and no whole one, nor one at fault, in
-- front of a read that failed.
abbrev pub HasReadAhead : State → State → List ℕ → List ℕ → List Arrival → Ahead → Type 0
HasReadAhead first now gave buf before ahead.Unread = HasRead first now gave before
HasReadAhead first now gave buf before (ahead.Frame stamp len) = HasRead first now gave (before ++ arrivals.Frame stamp (take len buf) ∷ []) × IsRunning now
HasReadAhead first now gave buf before (ahead.Long stamp len) = HasRead first now gave (before ++ arrivals.Long stamp len ∷ []) × IsRunning now
HasReadAhead first now gave buf before ahead.End = Unit {0}
HasReadAhead first now gave buf before (ahead.Malformed at) = Unit {0}
HasReadAhead first now gave buf before ahead.Failed = Comes first false gave (record { arrivals = before; ending = hows.Failed })
HasReadAhead first now gave buf before ahead.Done = Unit {0}

-- the turn is an arrival, behind which the rest comes
pub record AtArrival (left : Option (List ℕ)) (port : Port) (state : State) (buf : List ℕ) (a : Ahead) (t : Turn) : Type 0 where
  pub arrival : Arrival
  pub is_turn : t ≡ Arrives port arrival
  pub read : (first : State) (gave : List ℕ) (before : List Arrival) → HasReadAhead first state gave buf before a → HasRead first state gave (before ++ arrival ∷ []) × IsRunning state
  pub gives : (later : Input) → IfSome left (λ octets. Comes state true octets later) → IfSome left (λ octets. WillGive state buf a octets (with_arrival arrival later))

-- the turn is the ending of a whole capture
pub record AtEnding (left : Option (List ℕ)) (port : Port) (state : State) (buf : List ℕ) (a : Ahead) (t : Turn) : Type 0 where
  pub ending : How
  pub is_turn : t ≡ Ends (Ingress port) ending
  pub whole : IsWholeEnd ending
  pub gives : IfSome left (λ octets. WillGive state buf a octets (ended ending))

-- the turn is the ending at a read that failed
pub record AtFailure (port : Port) (a : Ahead) (t : Turn) : Type 0 where
  pub is_turn : t ≡ Ends (Ingress port) hows.Failed
  pub failed : a ≡ ahead.Failed

abbrev pub AtTurn : Option (List ℕ) → Port → State → List ℕ → Ahead → Turn → Type 0
AtTurn left port state buf a t = AtArrival left port state buf a t ⊎ (AtEnding left port state buf a t ⊎ AtFailure port a t)

if_more : (left : Option (List ℕ)) (P Q : List ℕ → Type 0) → ((octets : List ℕ) → P octets → Q octets) → IfSome left P → IfSome left Q
if_more None P Q more is = tt
if_more (Some octets) P Q more is = more octets is

if_all : (left : Option (List ℕ)) (P : List ℕ → Type 0) → ((octets : List ℕ) → P octets) → IfSome left P
if_all None P all = tt
if_all (Some octets) P all = all octets

same_turn : (t u : Turn) → Some t ≡ Some u → u ≡ t
same_turn t u is = cc

pub at_turn : (left : Option (List ℕ)) (port : Port) (state : State) (buf : List ℕ) (a : Ahead) (t : Turn) → turn_ahead port buf a ≡ Some t → AtTurn left port state buf a t
at_turn left port state buf ahead.Unread t is = cc
at_turn left port state buf (ahead.Frame stamp len) t is =
    let arrival = arrivals.Frame stamp (take len buf) in
    inl (record {
      arrival = arrival;
      is_turn = same_turn (Arrives port arrival) t is;
      read = λ first gave before read. read;
      gives = λ later. if_more left (λ octets. Comes state true octets later) (λ octets. WillGive state buf (ahead.Frame stamp len) octets (with_arrival arrival later)) (λ octets comes. (later, refl, comes));
    })
at_turn left port state buf (ahead.Long stamp len) t is =
    let arrival = arrivals.Long stamp len in
    inl (record {
      arrival = arrival;
      is_turn = same_turn (Arrives port arrival) t is;
      read = λ first gave before read. read;
      gives = λ later. if_more left (λ octets. Comes state true octets later) (λ octets. WillGive state buf (ahead.Long stamp len) octets (with_arrival arrival later)) (λ octets comes. (later, refl, comes));
    })
at_turn left port state buf ahead.End t is =
    inr (inl (record {
      ending = hows.End;
      is_turn = same_turn (Ends (Ingress port) hows.End) t is;
      whole = tt;
      gives = if_all left (λ octets. WillGive state buf ahead.End octets (ended hows.End)) (λ octets. refl);
    }))
at_turn left port state buf (ahead.Malformed at) t is =
    inr (inl (record {
      ending = hows.Malformed at;
      is_turn = same_turn (Ends (Ingress port) (hows.Malformed at)) t is;
      whole = tt;
      gives = if_all left (λ octets. WillGive state buf (ahead.Malformed at) octets (ended (hows.Malformed at))) (λ octets. refl);
    }))
at_turn left port state buf ahead.Failed t is = inr (inr (record { is_turn = same_turn (Ends (Ingress port) hows.Failed) t is; failed = refl }))
at_turn left port state buf ahead.Done t is = cc

-- one more read, behind what was read
pub read_ahead : (first mid now : State) (one two : List ℕ) (front : List Arrival) (buf : List ℕ) (left : Option (List ℕ)) (a : Ahead) → HasRead first mid one front → IsReadAs mid now two buf left a → HasReadAhead first now (one ++ two) buf front a
read_ahead first mid now one two front buf left ahead.Unread read is = absurd is
read_ahead first mid now one two front buf left (ahead.Frame stamp len) read is = (has_read_more first mid now one two front (arrivals.Frame stamp (take len buf) ∷ []) read is.read, (is.running.0, record_place mid + length two, is.running.1))
read_ahead first mid now one two front buf left (ahead.Long stamp len) read is = (has_read_more first mid now one two front (arrivals.Long stamp len ∷ []) read is.read, (is.running.0, record_place mid + length two, is.running.1))
read_ahead first mid now one two front buf left ahead.End read is = tt
read_ahead first mid now one two front buf left (ahead.Malformed at) read is = tt
read_ahead first mid now one two front buf left ahead.Failed read is = read_behind first mid false one two front hows.Failed read is.taken
read_ahead first mid now one two front buf left ahead.Done read is = absurd is

-- this input comes at first, where the source told its octets
abbrev pub CameFirst : {S K C : Type 0} → (S → Option (List ℕ)) → PortEnds S K C → Input → Type 0
CameFirst left old input = IfSome (left old.ends.source) (λ octets. Comes old.reader true octets input)

-- These arrivals were taken, and with whatever comes now behind them they come at first.
pub record Goes {S K C : Type 0} (left : S → Option (List ℕ)) (old new : PortEnds S K C) (taken : List Turn) : Type 0 where
  pub before : List Arrival
  pub taken_is : taken ≡ map (λ a. Arrives old.port a) before
  pub gave : List ℕ
  pub takes : Takes (left old.ends.source) (left new.ends.source) gave
  pub read : HasReadAhead old.reader new.reader gave new.buf before new.ahead
  pub comes : (input : Input) → WillCome left new input → CameFirst left old (with_front before input)

-- what the octets of a port's source are to its input, behind this history
abbrev pub IsInputAt : {S K C : Type 0} → (S → Option (List ℕ)) → List Row → PortEnds S K C → PortEnds S K C → Input → Type 0
IsInputAt left past old new input =
    IsInputOf (Comes old.reader) (left old.ends.source) (left new.ends.source) (input_end (number_of old.port) past) input.arrivals input.ending

-- What was taken, with some turns that are passed over, are the turns of the input that the source's octets are.
pub record Gone {S K C : Type 0} (left : S → Option (List ℕ)) (plan : Plan) (k : ℕ) (past : List Row) (old new : PortEnds S K C) (taken : List Turn) : Type 0 where
  pub input : Input
  pub rest : List Turn
  pub of : AreOf plan k rest
  pub split : taken ++ rest ≡ turns old.port input
  pub came : IsInputAt left past old new input

abbrev pub ProgressBy : {S K C : Type 0} → (S → Option (List ℕ)) → Plan → ℕ → List Row → PortEnds S K C → PortEnds S K C → List Turn → Ahead → Type 0
ProgressBy left plan k past old new taken ahead.Unread = Goes left old new taken
ProgressBy left plan k past old new taken (ahead.Frame stamp len) = Goes left old new taken
ProgressBy left plan k past old new taken (ahead.Long stamp len) = Goes left old new taken
ProgressBy left plan k past old new taken ahead.End = Goes left old new taken
ProgressBy left plan k past old new taken (ahead.Malformed at) = Goes left old new taken
ProgressBy left plan k past old new taken ahead.Failed = Goes left old new taken
ProgressBy left plan k past old new taken ahead.Done = Gone left plan k past old new taken

abbrev pub Progress : {S K C : Type 0} → (S → Option (List ℕ)) → Plan → ℕ → List Row → PortEnds S K C → PortEnds S K C → List Turn → Type 0
Progress left plan k past old new taken = ProgressBy left plan k past old new taken new.ahead

-- nothing of it hangs on the sink, nor on what the history holds of other ports
goes_sink : {S K C : Type 0} (left : S → Option (List ℕ)) (old p : PortEnds S K C) (k : K) (taken : List Turn) → Goes left old p taken → Goes left old (record p { ends = record p.ends { sink = k } }) taken
goes_sink left old p k taken goes = record { before = goes.before; taken_is = goes.taken_is; gave = goes.gave; takes = goes.takes; read = goes.read; comes = goes.comes }

gone_kept : {S K C : Type 0} (left : S → Option (List ℕ)) (plan : Plan) (n : ℕ) (past now : List Row) (old p : PortEnds S K C) (k : K) (taken : List Turn) → input_end (number_of old.port) now ≡ input_end (number_of old.port) past → Gone left plan n past old p taken
    → Gone left plan n now old (record p { ends = record p.ends { sink = k } }) taken
gone_kept left plan n past now old p k taken same gone = record {
  input = gone.input;
  rest = gone.rest;
  of = gone.of;
  split = gone.split;
  came = subst (λ (e : Option How). IsInputOf (Comes old.reader) (left old.ends.source) (left p.ends.source) e gone.input.arrivals gone.input.ending) (sym same) gone.came;
}

pub progress_kept : {S K C : Type 0} (left : S → Option (List ℕ)) (plan : Plan) (n : ℕ) (past now : List Row) (old p : PortEnds S K C) (k : K) (taken : List Turn) (a : Ahead) → input_end (number_of old.port) now ≡ input_end (number_of old.port) past
    → ProgressBy left plan n past old p taken a → ProgressBy left plan n now old (record p { ends = record p.ends { sink = k } }) taken a
progress_kept left plan n past now old p k taken ahead.Unread same goes = goes_sink left old p k taken goes
progress_kept left plan n past now old p k taken (ahead.Frame stamp len) same goes = goes_sink left old p k taken goes
progress_kept left plan n past now old p k taken (ahead.Long stamp len) same goes = goes_sink left old p k taken goes
progress_kept left plan n past now old p k taken ahead.End same goes = goes_sink left old p k taken goes
progress_kept left plan n past now old p k taken (ahead.Malformed at) same goes = goes_sink left old p k taken goes
progress_kept left plan n past now old p k taken ahead.Failed same goes = goes_sink left old p k taken goes
progress_kept left plan n past now old p k taken ahead.Done same gone = gone_kept left plan n past now old p k taken same gone

pub goes_at : {S K C : Type 0} (left : S → Option (List ℕ)) (plan : Plan) (k : ℕ) (past : List Row) (old new : PortEnds S K C) (taken : List Turn) (a : Ahead) (t : Turn) (port : Port) (buf : List ℕ) → turn_ahead port buf a ≡ Some t → ProgressBy left plan k past old new taken a → Goes left old new taken
goes_at left plan k past old new taken ahead.Unread t port buf is p = p
goes_at left plan k past old new taken (ahead.Frame stamp len) t port buf is p = p
goes_at left plan k past old new taken (ahead.Long stamp len) t port buf is p = p
goes_at left plan k past old new taken ahead.End t port buf is p = p
goes_at left plan k past old new taken (ahead.Malformed at) t port buf is p = p
goes_at left plan k past old new taken ahead.Failed t port buf is p = p
goes_at left plan k past old new taken ahead.Done t port buf is p = cc

-- the whole octets of a source are the input
whole_as : (Reads : Bool → List ℕ → Input → Type 0) (before after : Option (List ℕ)) (ended_so : Option How) (arrivals : List Arrival) (ending : How) → IsWholeEnd ending
    → IfSome before (λ octets. Reads true octets (record { arrivals = arrivals; ending = ending })) → IsInputOf Reads before after ended_so arrivals ending
whole_as Reads before after ended_so arrivals hows.End ends whole = whole
whole_as Reads before after ended_so arrivals (hows.Malformed at) ends whole = whole
whole_as Reads before after ended_so arrivals hows.Failed ends whole = absurd ends
whole_as Reads before after ended_so arrivals hows.Quit ends whole = ends
whole_as Reads before after ended_so arrivals (hows.Overlong at) ends whole = ends
whole_as Reads before after ended_so arrivals hows.Unwritten ends whole = ends
whole_as Reads before after ended_so arrivals hows.Paused ends whole = ends

module _ {S K C : Type 0} (left : S → Option (List ℕ)) (plan : Plan) (k : ℕ) (past : List Row) (old now new : PortEnds S K C) (taken : List Turn) (t : Turn)
    (port_is : now.port ≡ old.port) (pass : pass_of plan (Ingress old.port) ≡ k) (goes : Goes left old now taken)
    (source : new.ends.source ≡ now.ends.source) (reader : new.reader ≡ now.reader) where
  port_here : (arrival : Arrival) → t ≡ Arrives now.port arrival → t ≡ Arrives old.port arrival
  port_here arrival t_is = t_is ∙ ap (λ (p : Port). Arrives p arrival) port_is

  taken_more : (arrival : Arrival) → t ≡ Arrives now.port arrival → taken ++ t ∷ [] ≡ map (λ a. Arrives old.port a) (goes.before ++ arrival ∷ [])
  taken_more arrival t_is =
      ap (λ (l : List Turn). l ++ t ∷ []) goes.taken_is
      ∙ ap (λ (u : Turn). map (λ a. Arrives old.port a) goes.before ++ u ∷ []) (port_here arrival t_is)
      ∙ sym (map-append (λ a. Arrives old.port a) goes.before (arrival ∷ []))

  -- the turns that were taken where the last one is the ending
  taken_ended : (ending : How) → t ≡ Ends (Ingress now.port) ending → (taken ++ t ∷ []) ++ [] ≡ turns old.port (record { arrivals = goes.before; ending = ending })
  taken_ended ending t_is =
      append-nil (taken ++ t ∷ [])
      ∙ ap (λ (l : List Turn). l ++ t ∷ []) goes.taken_is
      ∙ ap (λ (u : Turn). map (λ a. Arrives old.port a) goes.before ++ u ∷ []) (t_is ∙ ap (λ (p : Port). Ends (Ingress p) ending) port_is)

  takes_new : Takes (left old.ends.source) (left new.ends.source) goes.gave
  takes_new = subst (λ (s : S). Takes (left old.ends.source) (left s) goes.gave) (sym source) goes.takes

  front_again : (arrival : Arrival) (later : Input) → with_front goes.before (with_arrival arrival later) ≡ with_front (goes.before ++ arrival ∷ []) later
  front_again arrival later = ap (λ (l : List Arrival). record { arrivals = l; ending = later.ending }) (sym (append_assoc goes.before (arrival ∷ []) later.arrivals))

  -- an arrival that was entered
  pub goes_on_at : new.ahead ≡ ahead.Unread → AtArrival (left now.ends.source) now.port now.reader now.buf now.ahead t → Progress left plan k past old new (taken ++ t ∷ [])
  goes_on_at unread at =
      let read_now : HasRead old.reader now.reader goes.gave (goes.before ++ at.arrival ∷ []) = (at.read old.reader goes.gave goes.before goes.read).0 in
      let read_new : HasRead old.reader new.reader goes.gave (goes.before ++ at.arrival ∷ []) = subst (λ (r : State). HasRead old.reader r goes.gave (goes.before ++ at.arrival ∷ [])) (sym reader) read_now in
      rw unread (record {
        before = goes.before ++ at.arrival ∷ [];
        taken_is = taken_more at.arrival at.is_turn;
        gave = goes.gave;
        takes = takes_new;
        read = read_new;
        comes = λ later will.
            let at_new : IfSome (left new.ends.source) (λ octets. Comes new.reader true octets later) = will in
            let at_now : IfSome (left now.ends.source) (λ octets. Comes now.reader true octets later) =
            subst (λ (s : S). IfSome (left s) (λ octets. Comes now.reader true octets later)) source (subst (λ (r : State). IfSome (left new.ends.source) (λ octets. Comes r true octets later)) reader at_new) in
            subst (λ (i : Input). CameFirst left old i) (front_again at.arrival later) (goes.comes (with_arrival at.arrival later) (at.gives later at_now));
      })

  pub ends_at : new.ahead ≡ ahead.Done → AtEnding (left now.ends.source) now.port now.reader now.buf now.ahead t → Progress left plan k past old new (taken ++ t ∷ [])
  ends_at done at = rw done (record {
    input = record { arrivals = goes.before; ending = at.ending };
    rest = [];
    of = tt;
    split = taken_ended at.ending at.is_turn;
    came = whole_as (Comes old.reader) (left old.ends.source) (left new.ends.source) (input_end (number_of old.port) past) goes.before at.ending at.whole
        (subst (λ (l : List Arrival). CameFirst left old (record { arrivals = l; ending = at.ending })) (append-nil goes.before) (goes.comes (ended at.ending) at.gives));
  })

  pub fails_at : new.ahead ≡ ahead.Done → input_end (number_of old.port) past ≡ Some hows.Failed → AtFailure now.port now.ahead t → Progress left plan k past old new (taken ++ t ∷ [])
  fails_at done ended_so at =
      let read : HasReadAhead old.reader now.reader goes.gave now.buf goes.before ahead.Failed = subst (λ (a : Ahead). HasReadAhead old.reader now.reader goes.gave now.buf goes.before a) at.failed goes.read in
      rw done (record {
        input = record { arrivals = goes.before; ending = hows.Failed };
        rest = [];
        of = tt;
        split = taken_ended hows.Failed at.is_turn;
        came = (ended_so, record { gave = goes.gave; takes = takes_new; read = read });
      })
