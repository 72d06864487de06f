-- How much of its input a port may still give: each turn makes it less, since no record is read past place 2^62.
use Rattle.std.proofs.Common.{◌≡◌, ℕ, zero, suc, ◌+◌, ◌*◌, ◌-◌, ◌^◌, ◌<◌, ◌≤◌, List, [], ◌∷◌, length, take, get_or, refl, sym, ap, ◌∙◌, subst, arith, Option, Some}
use Rattle.savi_kinds.specs.Arrivals.{Arrival}
use Rattle.savi_kinds.specs.Arrivals as arrivals
use Rattle.savi_kinds.specs.declared.entry.Who.TheVariants.{Ingress}
use Rattle.savi_kinds.specs.declared.entry.How.TheVariants as hows
use Rattle.savi_kinds.specs.declared.port.Port.{Port}
use Rattle.savi_history.specs.Turns.{Turn, Arrives, Ends}
use Rattle.pcap_io.specs.Readers.{State, HasReadOne, record_place}
use Rattle.port_worker.specs.declared.port_ends.Ahead.{Ahead}
use Rattle.port_worker.specs.declared.port_ends.Ahead.TheVariants as ahead
use Rattle.port_worker.specs.declared.port_ends.PortEnds.{PortEnds}
use Rattle.port_worker.specs.Inputs.{IsLooked, IsReadAhead, IsReadAs, turn_ahead}
use Rattle.port_worker.specs.Pairs.{EachPair}
use Rattle.port_worker.specs.Steps.{ahead_after, ends_input}

-- the places that a reader may still pass
abbrev pub places_left : State → ℕ
places_left state = 2 ^ 62 - record_place state

-- an arrival is one more than what is left behind it, and what is left is read and entered
abbrev pub weight : State → Ahead → ℕ
weight state ahead.Unread = 2 * places_left state + 1
weight state (ahead.Frame stamp len) = 2 * places_left state + 2
weight state (ahead.Long stamp len) = 2 * places_left state + 2
weight state ahead.End = 1
weight state (ahead.Malformed at) = 1
weight state ahead.Failed = 1
weight state ahead.Done = 0

-- how much may still come at these ports
abbrev pub undone : {S K C : Type 0} → List (PortEnds S K C) → ℕ
undone [] = 0
undone (p ∷ ports) = weight p.reader p.ahead + undone ports

-- no port has more than before
pub undone_more : {S K C : Type 0} (old new : List (PortEnds S K C)) → length new ≡ length old → ((k : ℕ) (d : PortEnds S K C) → k < length old → weight (get_or new k d).reader (get_or new k d).ahead ≤ weight (get_or old k d).reader (get_or old k d).ahead) → undone new ≤ undone old
undone_more [] [] size less = omega arith
undone_more [] (q ∷ new) size less = absurd (omega arith)
undone_more (p ∷ old) [] size less = absurd (omega arith)
undone_more (p ∷ old) (q ∷ new) size less =
    let first : weight q.reader q.ahead ≤ weight p.reader p.ahead = less 0 p (omega arith) in
    let later : undone new ≤ undone old = undone_more old new (omega arith) (λ k d inside. less (suc k) d (omega arith)) in
    omega (arith, first, later)

-- and one of them has less
pub undone_less : {S K C : Type 0} (old new : List (PortEnds S K C)) (j : ℕ) (e : PortEnds S K C) → length new ≡ length old → j < length old
    → ((k : ℕ) (d : PortEnds S K C) → k < length old → weight (get_or new k d).reader (get_or new k d).ahead ≤ weight (get_or old k d).reader (get_or old k d).ahead)
    → weight (get_or new j e).reader (get_or new j e).ahead < weight (get_or old j e).reader (get_or old j e).ahead → undone new < undone old
undone_less [] new j e size inside less now = absurd (omega (arith, inside))
undone_less (p ∷ old) [] j e size inside less now = absurd (omega (arith, size))
undone_less (p ∷ old) (q ∷ new) zero e size inside less now =
    let later : undone new ≤ undone old = undone_more old new (omega arith) (λ k d within. less (suc k) d (omega arith)) in
    omega (arith, now, later)
undone_less (p ∷ old) (q ∷ new) (suc j) e size inside less now =
    let first : weight q.reader q.ahead ≤ weight p.reader p.ahead = less 0 p (omega arith) in
    let later : undone new < undone old = undone_less old new j e (omega arith) (omega arith) (λ k d within. less (suc k) d (omega arith)) now in
    omega (arith, first, later)

-- what was read is no more than what was left

read_less : (old new : State) (gave : List ℕ) (arrival : Arrival) → HasReadOne old new gave arrival → 2 * places_left new + 2 ≤ 2 * places_left old + 1
read_less old new gave arrival one =
    let now : record_place new ≡ record_place old + length gave = ap record_place one.running.1 in
    let some = one.some in
    let placed = one.placed in
    omega (arith, now, some, placed)

weight_read : (old new : State) (gave buf : List ℕ) (left : Option (List ℕ)) (a : Ahead) → IsReadAs old new gave buf left a → weight new a ≤ weight old ahead.Unread
weight_read old new gave buf left ahead.Unread is = absurd is
weight_read old new gave buf left (ahead.Frame stamp len) is = read_less old new gave _ is
weight_read old new gave buf left (ahead.Long stamp len) is = read_less old new gave _ is
weight_read old new gave buf left ahead.End is = omega arith
weight_read old new gave buf left (ahead.Malformed at) is = omega arith
weight_read old new gave buf left ahead.Failed is = omega arith
weight_read old new gave buf left ahead.Done is = absurd is

module _ {S K C : Type 0} (left : S → Option (List ℕ)) (faults : S → ℕ) where
  weight_same : (p q : PortEnds S K C) (a : Ahead) → p.ahead ≡ a → IsReadAhead a → IsLooked left faults p q → weight q.reader q.ahead ≤ weight p.reader p.ahead
  weight_same p q a is known looked =
      subst (λ (r : PortEnds S K C). weight r.reader r.ahead ≤ weight p.reader p.ahead) (sym (looked.same (subst IsReadAhead (sym is) known))) (omega arith)

  weight_looked : (p q : PortEnds S K C) (a : Ahead) → p.ahead ≡ a → IsLooked left faults p q → weight q.reader q.ahead ≤ weight p.reader p.ahead
  weight_looked p q ahead.Unread is looked =
      let read = looked.read is in
      subst (λ (b : Ahead). weight q.reader q.ahead ≤ weight p.reader b) (sym is) (weight_read p.reader q.reader read.0 q.buf (left q.ends.source) q.ahead read.2)
  weight_looked p q (ahead.Frame stamp len) is looked = weight_same p q (ahead.Frame stamp len) is tt looked
  weight_looked p q (ahead.Long stamp len) is looked = weight_same p q (ahead.Long stamp len) is tt looked
  weight_looked p q ahead.End is looked = weight_same p q ahead.End is tt looked
  weight_looked p q (ahead.Malformed at) is looked = weight_same p q (ahead.Malformed at) is tt looked
  weight_looked p q ahead.Failed is looked = weight_same p q ahead.Failed is tt looked
  weight_looked p q ahead.Done is looked = weight_same p q ahead.Done is tt looked

  -- to read ahead makes it no more
  pub undone_looked : (ports new : List (PortEnds S K C)) → EachPair (IsLooked left faults) ports new → undone new ≤ undone ports
  undone_looked ports new looked = undone_more ports new looked.size (λ k d inside. weight_looked (get_or ports k d) (get_or new k d) (get_or ports k d).ahead refl (looked.each k d inside))

-- behind a turn there is less

same_turn : (t u : Turn) → Some t ≡ Some u → u ≡ t
same_turn t u is = cc

abbrev IsLess : State → Ahead → Ahead → Type 0
IsLess state b a = weight state b < weight state a

known_less : (state : State) (a b : Ahead) (turn here : Turn) → turn ≡ here → b ≡ ahead_after (ends_input turn) → IsLess state (ahead_after (ends_input here)) a → IsLess state b a
known_less state a b turn here turn_is b_is less = subst (λ (c : Ahead). IsLess state c a) (sym (b_is ∙ ap (λ (t : Turn). ahead_after (ends_input t)) turn_is)) less

pub weight_turned : (state : State) (port : Port) (buf : List ℕ) (a b : Ahead) (turn : Turn) → turn_ahead port buf a ≡ Some turn → b ≡ ahead_after (ends_input turn) → weight state b < weight state a
weight_turned state port buf ahead.Unread b turn is b_is = cc
weight_turned state port buf (ahead.Frame stamp len) b turn is b_is =
    let here = Arrives port (arrivals.Frame stamp (take len buf)) in
    known_less state (ahead.Frame stamp len) b turn here (same_turn here turn is) b_is (omega arith)
weight_turned state port buf (ahead.Long stamp len) b turn is b_is =
    let here = Arrives port (arrivals.Long stamp len) in
    known_less state (ahead.Long stamp len) b turn here (same_turn here turn is) b_is (omega arith)
weight_turned state port buf ahead.End b turn is b_is =
    let here = Ends (Ingress port) hows.End in
    known_less state ahead.End b turn here (same_turn here turn is) b_is (omega arith)
weight_turned state port buf (ahead.Malformed at) b turn is b_is =
    let here = Ends (Ingress port) (hows.Malformed at) in
    known_less state (ahead.Malformed at) b turn here (same_turn here turn is) b_is (omega arith)
weight_turned state port buf ahead.Failed b turn is b_is =
    let here = Ends (Ingress port) hows.Failed in
    known_less state ahead.Failed b turn here (same_turn here turn is) b_is (omega arith)
weight_turned state port buf ahead.Done b turn is b_is = cc
