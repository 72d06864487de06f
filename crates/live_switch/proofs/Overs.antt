-- A pass that ended in an earlier segment has no worker, and what it serves stands as it did; another one is new.
use Rattle.std.proofs.Common.{◌≡◌, ℕ, ◌<◌, Bool, true, false, not, List, [], ◌∷◌, slice_index_or, Option, refl, sym, ap, subst, ◌∙◌, arith}
use Rattle.savi_kinds.specs.Ports.{number_of}
use Rattle.savi_kinds.specs.declared.entry.Who.{Who}
use Rattle.savi_kinds.specs.declared.entry.Who.TheVariants as passes
use Rattle.savi_kinds.specs.declared.plan.Plan.{Plan}
use Rattle.parcel_ring.specs.Sides.{was_taken}
use Rattle.hist_store.specs.Rows.{Row}
use Rattle.savi_history.specs.Passes.{has_ended, pass_count, pass_of}
use Rattle.savi_core.proofs.Places.{pass_within}
use Rattle.table_lock.specs.Passes.{pass_number}
use Rattle.table_lock.specs.declared.lock.TableLock.{TableLock}
use Rattle.table_lock.specs.declared.pass.Pass.{Pass}
use Rattle.core_keep.specs.declared.keep.KeptCore.{KeptCore}
use Rattle.core_keep.specs.Seen.{past_seen}
use Rattle.live_session.specs.Standing.{InputStands, OutputStands, TickerStands}
use Rattle.live_session.proofs.Same.{output_same}
use Rattle.live_session.proofs.StandsOn.{next_control, next_output, ticker_next}
use Rattle.live_turns.specs.Seats.{IsDealtTo, IsEndedPass, IsNewPass, lock_base, lock_plan}
use Rattle.live_input.specs.Judged.{kept_of}
use Rattle.live_input.specs.declared.judge.Ingress.{Ingress}
use Rattle.live_control.specs.Sides.{WorkerStands, worker_ring}
use Rattle.live_control.specs.declared.worker.ControlWorker.{ControlWorker}
use Rattle.live_output.specs.declared.output.Output.{Output}
use Rattle.live_ticker.specs.declared.ticker.TickerWorker.{TickerWorker}
use Rattle.live_switch.specs.Open.{AreOpenIn}
use Rattle.live_switch.specs.Served.{IsInputServed, IsLineServed, IsOutputServed, IsOverOf, IsTickerServed}
use Rattle.live_switch.proofs.Joining.{worker_same}

flip : (b : Bool) → not b ≡ true → b ≡ false
flip true is = let e : false ≡ true = is in cc
flip false is = refl

unflip : (b : Bool) → not b ≡ false → b ≡ true
unflip true is = refl
unflip false is = let e : true ≡ false = is in cc

module _ (lock : TableLock KeptCore) (who : Who) (pass : Pass) (dealt : IsDealtTo lock who pass) (going : List Bool) (are : AreOpenIn lock going)
    (within : pass_number pass < pass_count (lock_plan lock)) where
  said : (d : Bool) → slice_index_or going (pass_number pass) d ≡ not (has_ended (lock_base lock) (pass_of (lock_plan lock) who) [])
  said d = are.each (pass_number pass) d within ∙ ap (λ (n : ℕ). not (has_ended (lock_base lock) n [])) dealt.number_is

  -- it goes on
  pub is_new : slice_index_or going (pass_number pass) true ≡ true → IsNewPass lock who pass
  is_new goes = record { dealt = dealt; open_in = flip (has_ended (lock_base lock) (pass_of (lock_plan lock) who) []) (sym (said true) ∙ goes) }

  -- or has ended before
  pub was_over : slice_index_or going (pass_number pass) true ≡ false → IsOverOf lock who pass
  was_over stays = record {
    over = record {
      of = dealt.of;
      ended = ap (λ (rows : List Row). has_ended (lock_base lock) (pass_number pass) rows) dealt.nothing
          ∙ ap (λ (n : ℕ). has_ended (lock_base lock) n []) dealt.number_is
          ∙ unflip (has_ended (lock_base lock) (pass_of (lock_plan lock) who) []) (sym (said true) ∙ stays);
    };
    number_is = dealt.number_is;
  }

-- without a worker it stands as it did
pub input_idle : (lock : TableLock KeptCore) (judge : Ingress) (pass : Pass) → IsDealtTo lock (passes.Ingress judge.port) pass → IsOverOf lock (passes.Ingress judge.port) pass → IsInputServed lock judge pass judge pass
input_idle lock judge pass dealt over = record {
  port = refl;
  rings = refl;
  ended = over;
  stands = λ before legals base stands.
      subst (λ (rows : List Row). InputStands (number_of judge.port) (rows ∷ before) (was_taken judge.taker) (kept_of judge.kept)) (sym dealt.nothing) stands;
}

pub output_idle : {K : Type 0} (written : K → Option (List ℕ)) (faults : K → ℕ) (lock : TableLock KeptCore) (writer : Output K) (pass : Pass)
    → IsDealtTo lock (passes.Egress writer.port) pass → IsOverOf lock (passes.Egress writer.port) pass → IsOutputServed written faults lock writer pass writer pass
output_idle written faults lock writer pass dealt over = record {
  port = refl;
  format = refl;
  ended = over;
  stands = λ first before legals base stands.
      subst (λ (rows : List Row). OutputStands written faults writer.format (lock_plan lock) (number_of writer.port) (rows ∷ before) writer.begun first writer.sink) (sym dealt.nothing)
      (output_same written faults writer.format (lock_plan lock) (number_of writer.port) before ([] ∷ before) (next_output (lock_plan lock) before writer.format (number_of writer.port)) first writer.sink writer.begun stands);
}

pub ticker_idle : {C : Type 0} (readings : C → Option (List ℕ)) (lock : TableLock KeptCore) (ticker : TickerWorker C) (pass : Pass)
    → IsDealtTo lock passes.Ticker pass → IsOverOf lock passes.Ticker pass → IsTickerServed readings lock ticker pass ticker pass
ticker_idle readings lock ticker pass dealt over = record {
  ended = over;
  stands = λ first before legals base stands.
      subst (λ (rows : List Row). TickerStands readings (lock_plan lock) (rows ∷ before) first ticker.clock) (sym dealt.nothing)
      (ticker_next (lock_plan lock) before readings first ticker.clock stands);
}

pub line_idle : {K : Type 0} (written : K → Option (List ℕ)) (faults : K → ℕ) (lock : TableLock KeptCore) (old new : ControlWorker K) (pass : Pass)
    → IsDealtTo lock passes.Control pass → IsOverOf lock passes.Control pass → worker_ring new.ends ≡ worker_ring old.ends
    → ((plan : Plan) (segments : List (List Row)) (first : Option K) → WorkerStands written faults plan segments first old.ends → WorkerStands written faults plan segments first new.ends)
    → IsLineServed written faults lock old pass new pass
line_idle written faults lock old new pass dealt over ring still = record {
  ring = ring;
  ended = over;
  stands = λ first before legals base stands.
      subst (λ (rows : List Row). WorkerStands written faults (lock_plan lock) (rows ∷ before) first new.ends) (sym dealt.nothing)
      (worker_same written faults (lock_plan lock) before ([] ∷ before) (next_control (lock_plan lock) before) first new.ends (still (lock_plan lock) before first stands));
}

-- the number of a pass is that of one of all
pub number_within : (lock : TableLock KeptCore) (who : Who) (pass : Pass) → IsDealtTo lock who pass → pass_number pass < pass_count (lock_plan lock)
number_within lock who pass dealt = omega (arith, dealt.number_is, pass_within (lock_plan lock) who dealt.known)
