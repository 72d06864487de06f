-- Each turn that is taken leaves less to read.
use Rattle.std.proofs.Common.{◌≡◌, ℕ, zero, suc, ◌+◌, ◌-◌, ◌^◌, ◌<◌, ◌≤◌, List, [], ◌∷◌, length, get_or, set, refl, sym, ap, subst, arith, Option, Some}
use Rattle.savi_kinds.specs.declared.port.Port.{Port}
use Rattle.savi_history.specs.Turns.{Turn}
use Rattle.pcap_io.specs.Readers.{State, record_place}
use Rattle.port_worker.specs.declared.port_ends.Ahead.{Ahead}
use Rattle.port_worker.specs.declared.port_ends.Ahead.TheVariants as ahead
use Rattle.port_worker.specs.declared.port_ends.PortEnds.{PortEnds}
use Rattle.port_worker.specs.Inputs.{IsReadAhead, IsLooked, IsReadAs, turn_of, turn_ahead}
use Rattle.port_worker.specs.PortTurns.{ahead_passed}

-- how much may still come of an input of at most so many octets: a record is read from its octets, and taken
abbrev pub left_from : ℕ → State → Ahead → ℕ
left_from most state ahead.Unread = 2 + (most - record_place state)
left_from most state (ahead.Frame stamp len) = 3 + (most - record_place state)
left_from most state (ahead.Long stamp len) = 3 + (most - record_place state)
left_from most state ahead.End = 1
left_from most state (ahead.Malformed at) = 1
left_from most state ahead.Failed = 1
left_from most state ahead.Done = 0

abbrev pub left_at : {S K C : Type 0} → PortEnds S K C → ℕ
left_at p = left_from (2 ^ 62) p.reader p.ahead

-- the same of all inputs
abbrev pub left_of : {S K C : Type 0} → List (PortEnds S K C) → ℕ
left_of [] = 0
left_of (p ∷ ports) = left_at p + left_of ports

read_less : (most : ℕ) (old new : State) (gave buf : List ℕ) (left : Option (List ℕ)) (a : Ahead) → most ≡ 2 ^ 62 → IsReadAs old new gave buf left a → left_from most new a ≤ left_from most old ahead.Unread
read_less most old new gave buf left ahead.Unread limit is = absurd is
read_less most old new gave buf left (ahead.Frame stamp len) limit is =
    let place : record_place new ≡ record_place old + length gave = ap record_place is.running.1 in
    let some = is.some in
    let placed : record_place old + length gave ≤ most = subst (λ (n : ℕ). record_place old + length gave ≤ n) (sym limit) is.placed in
    omega arith
read_less most old new gave buf left (ahead.Long stamp len) limit is =
    let place : record_place new ≡ record_place old + length gave = ap record_place is.running.1 in
    let some = is.some in
    let placed : record_place old + length gave ≤ most = subst (λ (n : ℕ). record_place old + length gave ≤ n) (sym limit) is.placed in
    omega arith
read_less most old new gave buf left ahead.End limit is = omega arith
read_less most old new gave buf left (ahead.Malformed at) limit is = omega arith
read_less most old new gave buf left ahead.Failed limit is = omega arith
read_less most old new gave buf left ahead.Done limit is = absurd is

known_less : {S K C : Type 0} (p q : PortEnds S K C) (a : Ahead) → p.ahead ≡ a → IsReadAhead a → (IsReadAhead p.ahead → q ≡ p) → left_at q ≤ left_at p
known_less {S} {K} {C} p q a is known same =
    let e : left_at q ≡ left_at p = ap (λ (r : PortEnds S K C). left_at r) (same (subst IsReadAhead (sym is) known)) in
    omega arith

look_less_at : {S K C : Type 0} (left : S → Option (List ℕ)) (faults : S → ℕ) (p q : PortEnds S K C) (a : Ahead) → p.ahead ≡ a → IsLooked left faults p q → left_at q ≤ left_at p
look_less_at left faults p q ahead.Unread is looked =
    let more = looked.read is in
    rw is (read_less (2 ^ 62) p.reader q.reader more.0 q.buf (left q.ends.source) q.ahead refl more.2)
look_less_at left faults p q (ahead.Frame stamp len) is looked = known_less p q (ahead.Frame stamp len) is tt looked.same
look_less_at left faults p q (ahead.Long stamp len) is looked = known_less p q (ahead.Long stamp len) is tt looked.same
look_less_at left faults p q ahead.End is looked = known_less p q ahead.End is tt looked.same
look_less_at left faults p q (ahead.Malformed at) is looked = known_less p q (ahead.Malformed at) is tt looked.same
look_less_at left faults p q ahead.Failed is looked = known_less p q ahead.Failed is tt looked.same
look_less_at left faults p q ahead.Done is looked = known_less p q ahead.Done is tt looked.same

-- a look leaves no more
pub look_less : {S K C : Type 0} (left : S → Option (List ℕ)) (faults : S → ℕ) (p q : PortEnds S K C) → IsLooked left faults p q → left_at q ≤ left_at p
look_less left faults p q looked = look_less_at left faults p q p.ahead refl looked

pass_less_at : (most : ℕ) (state : State) (port : Port) (buf : List ℕ) (a : Ahead) (turn : Turn) → turn_ahead port buf a ≡ Some turn → left_from most state (ahead_passed a) < left_from most state a
pass_less_at most state port buf ahead.Unread turn is = cc
pass_less_at most state port buf (ahead.Frame stamp len) turn is = omega arith
pass_less_at most state port buf (ahead.Long stamp len) turn is = omega arith
pass_less_at most state port buf ahead.End turn is = omega arith
pass_less_at most state port buf (ahead.Malformed at) turn is = omega arith
pass_less_at most state port buf ahead.Failed turn is = omega arith
pass_less_at most state port buf ahead.Done turn is = cc

-- a turn that is taken leaves less
pub pass_less : {S K C : Type 0} (p q : PortEnds S K C) (turn : Turn) → turn_of p ≡ Some turn → q ≡ record p { ahead = ahead_passed p.ahead } → left_at q < left_at p
pass_less p q turn is passed = rw passed (pass_less_at (2 ^ 62) p.reader p.port p.buf p.ahead turn is)

pub left_most : {S K C : Type 0} (old new : List (PortEnds S K C)) → length new ≡ length old → ((k : ℕ) (d : PortEnds S K C) → k < length old → left_at (get_or new k d) ≤ left_at (get_or old k d)) → left_of new ≤ left_of old
left_most [] [] size less = omega arith
left_most [] (q ∷ new) size less = absurd (omega arith)
left_most (p ∷ old) [] size less = absurd (omega arith)
left_most (p ∷ old) (q ∷ new) size less =
    let first : left_at q ≤ left_at p = less 0 p (omega arith) in
    let later : left_of new ≤ left_of old = left_most old new (omega arith) (λ k d inside. less (suc k) d (omega arith)) in
    omega arith

pub left_set : {S K C : Type 0} (ports : List (PortEnds S K C)) (j : ℕ) (d q : PortEnds S K C) → j < length ports → left_of (set ports j q) + left_at (get_or ports j d) ≡ left_of ports + left_at q
left_set [] j d q inside = absurd (omega arith)
left_set (p ∷ ports) zero d q inside = omega arith
left_set (p ∷ ports) (suc j) d q inside = let later = left_set ports j d q (omega arith) in omega arith
