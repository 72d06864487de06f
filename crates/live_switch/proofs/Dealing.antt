-- The passes of the workers of so many ports, as they are dealt, and with those of one port fewer.
use Rattle.std.proofs.Common.{◌≡◌, ℕ, zero, suc, ◌+◌, ◌*◌, ◌<◌, true, List, [], ◌∷◌, ◌++◌, length, get_or, slice_index_or, refl, sym, ap, subst, ◌∙◌, length-append, arith, None}
use Rattle.std.specs.List.{SameBelow, ShiftedDown}
use Rattle.std.proofs.lemmas.List.{get_or_append_left}
use Rattle.std.proofs.Math.Seq.{get_or-append_seam}
use Rattle.savi_kinds.specs.declared.entry.Who.TheVariants.{Ingress, Control, Ticker, Egress}
use Rattle.savi_kinds.specs.declared.plan.PortPlan.{PortPlan}
use Rattle.savi_kinds.specs.declared.port.Port.{Port}
use Rattle.savi_kinds.specs.Ports.{number_of}
use Rattle.savi_kinds.specs.ValidPlan.{IsValidPlan, numbers_of}
use Rattle.savi_history.specs.Passes.{has_port, place_of, pass_count}
use Rattle.savi_history.proofs.PassNumbers.{number_at, place_at, known_at}
use Rattle.table_lock.specs.Passes.{AreAll, AreDealt, IsPassOf, lock_seats, pass_number, pass_seen, pass_sleeps_at}
use Rattle.table_lock.specs.declared.lock.TableLock.{TableLock}
use Rattle.table_lock.specs.declared.pass.Pass.{Pass}
use Rattle.core_keep.specs.declared.keep.KeptCore.{KeptCore}
use Rattle.core_keep.specs.Pasts.{decoded}
use Rattle.live_turns.specs.Seats.{IsDealtTo, kept_fixed, lock_plan}
use Rattle.live_switch.specs.Dealt.{AreFor, IsFresh}

-- the element behind a list
pub at_end : {X : Type 0} (xs : List X) (x : X) (k : ℕ) (d : X) → k ≡ length xs → slice_index_or (xs ++ x ∷ []) k d ≡ x
at_end xs x k d is = ap (λ (j : ℕ). slice_index_or (xs ++ x ∷ []) j d) is ∙ get_or-append_seam xs x [] d

pub at_front : {X : Type 0} (xs : List X) (x : X) (k : ℕ) (d : X) → k < length xs → slice_index_or (xs ++ x ∷ []) k d ≡ slice_index_or xs k d
at_front xs x k d within = get_or_append_left xs (x ∷ []) d k within

-- the number of the port at a place
pub number_here : (ports : List PortPlan) (k n : ℕ) → k < length ports → ((p : PortPlan) → n ≡ number_of (slice_index_or ports k p).number) → n ≡ get_or (numbers_of ports) k 0
number_here [] k n within is = absurd (omega arith)
number_here (x ∷ xs) zero n within is = is x
number_here (x ∷ xs) (suc k) n within is = number_here xs k n (omega arith) is

module _ (lock : TableLock KeptCore) where
  fresh_at : (number : ℕ) (passes : List Pass) (d : Pass) → IsPassOf kept_fixed lock (slice_index_or passes number d) → (pass_number (slice_index_or passes number d) ≡ number) × (pass_seen (slice_index_or passes number d) ≡ []) × (pass_sleeps_at (slice_index_or passes number d) ≡ None) → IsFresh lock number (slice_index_or passes number d)
  fresh_at number passes d of new = record { of = of; number_is = new.0; nothing = ap decoded new.1; placeless = new.2 }

  -- all passes of a lock, as they are dealt
  pub all_dealt : (passes : List Pass) → AreAll kept_fixed lock passes → AreDealt passes → lock_seats lock ≡ pass_count (lock_plan lock) → AreFor lock (length (lock_plan lock).ports) passes
  all_dealt passes all dealt seats =
      let n : ℕ = length (lock_plan lock).ports in
      let size : length passes ≡ 2 * n + 2 = all.0 ∙ seats in
      record {
        size = omega arith;
        inputs = λ k d within.
            let inside : k < length passes = omega arith in
            fresh_at k passes d (all.1 k d inside) (dealt k d inside);
        others = λ k d within.
            let inside : n + k < length passes = omega arith in
            fresh_at (n + k) passes d (all.1 (n + k) d inside) (dealt (n + k) d inside);
      }

  -- what was taken off: the output's pass, from behind, and then the input's
  module _ (count : ℕ) (all most few : List Pass) (output input : Pass) (dealt : AreFor lock (count + 1) all) (last : all ≡ most ++ output ∷ [])
      (taken : input ≡ slice_index_or most count input) (below : SameBelow most few count) (above : ShiftedDown most few count) (size : length few + 1 ≡ length most) where
    most_size : length most ≡ count + 2 + count + 1
    most_size = let whole : length all ≡ length most + 1 = ap length last ∙ length-append most (output ∷ []) in let n = dealt.size in omega arith

    whole_at : (k : ℕ) (d : Pass) → k < length most → slice_index_or all k d ≡ slice_index_or most k d
    whole_at k d within = ap (λ (ps : List Pass). slice_index_or ps k d) last ∙ at_front most output k d within

    pub output_fresh : IsFresh lock (length (lock_plan lock).ports + (2 + count)) output
    output_fresh =
        let at : count + 1 + (2 + count) ≡ length most = let n = most_size in omega arith in
        subst (IsFresh lock (length (lock_plan lock).ports + (2 + count)))
        (ap (λ (ps : List Pass). slice_index_or ps (count + 1 + (2 + count)) output) last ∙ at_end most output (count + 1 + (2 + count)) output at)
        (dealt.others (2 + count) output (omega arith))

    pub input_fresh : IsFresh lock count input
    input_fresh =
        subst (IsFresh lock count) (whole_at count input (let n = most_size in omega arith) ∙ sym taken) (dealt.inputs count input (omega arith))

    pub fewer : AreFor lock count few
    fewer = record {
      size = let n = most_size in omega arith;
      inputs = λ k d within.
          subst (IsFresh lock k) (whole_at k d (let n = most_size in omega arith) ∙ sym (below k d within)) (dealt.inputs k d (omega arith));
      others = λ k d within.
          let place : count + 1 + k ≡ count + k + 1 = omega arith in
          subst (IsFresh lock (length (lock_plan lock).ports + k))
          (ap (λ (j : ℕ). slice_index_or all j d) place ∙ whole_at (count + k + 1) d (let n = most_size in omega arith) ∙ sym (above (count + k) d (omega arith)))
          (dealt.others k d (omega arith));
    }

  -- the passes of control and of the ticker, where no ports are left
  module _ (all most bare : List Pass) (ticker control : Pass) (dealt : AreFor lock 0 all) (last : all ≡ most ++ ticker ∷ []) (first : most ≡ bare ++ control ∷ []) where
    pub sizes : (length most ≡ 1) × (length bare ≡ 0)
    sizes =
        let a : length all ≡ length most + 1 = ap length last ∙ length-append most (ticker ∷ []) in
        let b : length most ≡ length bare + 1 = ap length first ∙ length-append bare (control ∷ []) in
        let n = dealt.size in
        (omega arith, omega arith)

    pub ticker_dealt : IsDealtTo lock Ticker ticker
    ticker_dealt =
        let fresh : IsFresh lock (length (lock_plan lock).ports + 1) ticker =
        subst (IsFresh lock (length (lock_plan lock).ports + 1))
        (ap (λ (ps : List Pass). slice_index_or ps (0 + 1) ticker) last ∙ at_end most ticker (0 + 1) ticker (let s = sizes in omega arith))
        (dealt.others 1 ticker (omega arith)) in
        record { of = fresh.of; known = refl; number_is = fresh.number_is; nothing = fresh.nothing; placeless = fresh.placeless }

    pub control_dealt : IsDealtTo lock Control control
    control_dealt =
        let fresh : IsFresh lock (length (lock_plan lock).ports + 0) control =
        subst (IsFresh lock (length (lock_plan lock).ports + 0))
        (ap (λ (ps : List Pass). slice_index_or ps (0 + 0) control) last ∙ at_front most ticker (0 + 0) control (let s = sizes in omega arith)
        ∙ ap (λ (ps : List Pass). slice_index_or ps (0 + 0) control) first ∙ at_end bare control (0 + 0) control (let s = sizes in omega arith))
        (dealt.others 0 control (omega arith)) in
        record { of = fresh.of; known = refl; number_is = let n = fresh.number_is in omega arith; nothing = fresh.nothing; placeless = fresh.placeless }

  -- a fresh pass is that of a port's input, or output, at its place of the plan
  module _ (place : ℕ) (port : Port) (valid : IsValidPlan (lock_plan lock)) (within : place < length (lock_plan lock).ports)
      (is : (p : PortPlan) → port ≡ (slice_index_or (lock_plan lock).ports place p).number) where
    port_number : number_of port ≡ number_at (lock_plan lock) place
    port_number = number_here (lock_plan lock).ports place (number_of port) within (λ p. ap (λ (x : Port). number_of x) (is p))

    is_known : has_port (lock_plan lock) (number_of port) ≡ true
    is_known = ap (λ (n : ℕ). has_port (lock_plan lock) n) port_number ∙ known_at (lock_plan lock) place within

    is_placed : place_of (lock_plan lock) (number_of port) ≡ place
    is_placed = ap (λ (n : ℕ). place_of (lock_plan lock) n) port_number ∙ place_at (lock_plan lock) place valid.ports within

    pub input_dealt : (pass : Pass) → IsFresh lock place pass → IsDealtTo lock (Ingress port) pass
    input_dealt pass fresh = record { of = fresh.of; known = is_known; number_is = fresh.number_is ∙ sym is_placed; nothing = fresh.nothing; placeless = fresh.placeless }

    pub output_dealt : (pass : Pass) → IsFresh lock (length (lock_plan lock).ports + (2 + place)) pass → IsDealtTo lock (Egress port) pass
    output_dealt pass fresh = record {
      of = fresh.of;
      known = is_known;
      number_is = let a = fresh.number_is in let b = is_placed in omega arith;
      nothing = fresh.nothing;
      placeless = fresh.placeless;
    }
