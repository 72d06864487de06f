-- How the output of a port stands where a replay begins: its header may fail.
use Rattle.std.proofs.Common.{◌≡◌, ◌≢◌, ℕ, suc, zero, ◌<◌, ◌==◌, Bool, true, false, List, [], ◌∷◌, get_or, length, refl, sym, ap, subst, ◌∙◌, arith, if◌then◌else◌, ◌⊎◌, inl, inr, Option, Some, None}
use Rattle.std.specs.Option.{is_some}
use Rattle.std.proofs.lemmas.Bool.{cases_eq, false≢true}
use Rattle.savi_kinds.specs.declared.port.Port.{Port}
use Rattle.savi_kinds.specs.declared.plan.Plan.{Plan}
use Rattle.savi_kinds.specs.declared.plan.PortPlan.{PortPlan}
use Rattle.savi_kinds.specs.declared.entry.Who.TheVariants as passes
use Rattle.savi_kinds.specs.declared.entry.How.{How}
use Rattle.savi_kinds.specs.declared.entry.How.TheVariants as hows
use Rattle.savi_kinds.specs.Ports.{number_of}
use Rattle.savi_kinds.specs.ValidPlan.{numbers_of}
use Rattle.hist_store.specs.Rows.{Row}
use Rattle.checkpoint.specs.Bases.{empty}
use Rattle.savi_history.specs.Events.{End}
use Rattle.savi_history.specs.Passes.{egress_pass, has_ended, has_port}
use Rattle.savi_history.specs.Queues.{Item, sent}
use Rattle.savi_history.specs.Replay.{Stops, begun, is_stopped, pieces_by, with_event, with_failure}
use Rattle.savi_history.proofs.Replaying.{IsAt}
use Rattle.savi_history.proofs.TakenPieces.{Fine}
use Rattle.savi_history.proofs.Waiting.{empty_begun, sent_end}
use Rattle.savi_segments.proofs.Legality.{AreKnown, all_known}
use Rattle.savi_segments.proofs.OutputSteps.{said, told, items, sure, same_egress, Stands, fine_by, said_here, told_here, ended_here}

module _ (plan : Plan) (stops : Stops) (n : ℕ) (place : IsAt plan n) where
  abbrev stop : Option ℕ
  stop = stops.ports n

  abbrev pass : ℕ
  pass = egress_pass plan n

  -- nothing was sent, and the output has failed at its beginning or not
  record IsBegun (past : List Row) : Type 0 where
    none_sent : sent plan empty n past ≡ []
    none_sure : sure plan stops n place [] past ≡ []
    alike : told plan stops n place [] past ≡ said plan stops n place [] past
    good : has_ended empty pass past ≡ is_some (told plan stops n place [] past)
    how : (said plan stops n place [] past ≡ None) ⊎ ((said plan stops n place [] past ≡ Some hows.Failed) × (is_stopped stop 1 ≡ true))

  -- where the first write fails the output has failed
  abbrev Settled : List Row → Type 0
  Settled past = is_stopped stop 1 ≡ true → said plan stops n place [] past ≡ Some hows.Failed

  first_piece : (past : List Row) (port : Port) → number_of port ≡ n → IsBegun past → is_stopped (stops.ports (number_of port)) (pieces_by plan empty (number_of port) past) ≡ is_stopped stop 1
  first_piece past port here begins =
      ap (λ (m : ℕ). is_stopped (stops.ports m) (pieces_by plan empty m past)) here ∙ ap (λ (l : List Item). is_stopped stop (suc (length l))) begins.none_sent

  begun_step : (past : List Row) (port : Port) (b : Bool) → (number_of port ≡ n) ⊎ (number_of port ≢ n) → has_port plan (number_of port) ≡ true → is_stopped (stops.ports (number_of port)) (pieces_by plan empty (number_of port) past) ≡ b → IsBegun past
      → IsBegun (if b then with_event plan empty past (End (passes.Egress port) hows.Failed) else past)
  begun_step past port false where_is there is begins = begins
  begun_step past port true (inl here) there is begins =
      let is_told = told_here plan stops n place [] past port hows.Failed refl here in
      let is_said = said_here plan stops n place [] past port hows.Failed refl here in
      record {
        none_sent = sent_end plan empty past (passes.Egress port) hows.Failed n ∙ begins.none_sent;
        none_sure = begins.none_sure;
        alike = is_told ∙ sym is_said;
        good = ended_here plan stops n place [] past port hows.Failed refl here ∙ ap is_some (sym is_told);
        how = inr (is_said, sym (first_piece past port here begins) ∙ is);
      }
  begun_step past port true (inr other) there is begins =
      let same = same_egress plan stops n place [] past port hows.Failed there other in
      record {
        none_sent = same.sent_same ∙ begins.none_sent;
        none_sure = begins.none_sure;
        alike = same.told_same ∙ begins.alike ∙ sym same.said_same;
        good = same.ended_same ∙ begins.good ∙ ap is_some (sym same.told_same);
        how = subst (λ (o : Option How). (o ≡ None) ⊎ ((o ≡ Some hows.Failed) × (is_stopped stop 1 ≡ true))) (sym same.said_same) begins.how;
      }

  settled_here : (past : List Row) (port : Port) (b : Bool) → number_of port ≡ n → is_stopped (stops.ports (number_of port)) (pieces_by plan empty (number_of port) past) ≡ b → IsBegun past
      → Settled (if b then with_event plan empty past (End (passes.Egress port) hows.Failed) else past)
  settled_here past port true here is begins stopped = said_here plan stops n place [] past port hows.Failed refl here
  settled_here past port false here is begins stopped = absurd (false≢true (sym is ∙ first_piece past port here begins ∙ stopped))

  failed_still : (here : Bool) (o : Option How) → o ≡ Some hows.Failed → (if here then Some hows.Failed else o) ≡ Some hows.Failed
  failed_still true o is = refl
  failed_still false o is = is

  settled_later : (past : List Row) (port : Port) (b : Bool) → Settled past → Settled (if b then with_event plan empty past (End (passes.Egress port) hows.Failed) else past)
  settled_later past port true settled stopped = failed_still (number_of port == n) (said plan stops n place [] past) (settled stopped)
  settled_later past port false settled stopped = settled stopped

  settled_all : (ports : List PortPlan) (past : List Row) → Settled past → Settled (begun plan empty stops.ports ports past)
  settled_all [] past settled = settled
  settled_all (q ∷ qs) past settled =
      settled_all qs (with_failure plan empty stops.ports q.number past) (settled_later past q.number (is_stopped (stops.ports (number_of q.number)) (pieces_by plan empty (number_of q.number) past)) settled)

  begun_at : (past : List Row) (port : Port) → has_port plan (number_of port) ≡ true → IsBegun past → IsBegun (with_failure plan empty stops.ports port past)
  begun_at past port there begins = begun_step past port (is_stopped (stops.ports (number_of port)) (pieces_by plan empty (number_of port) past)) (cases_eq (number_of port) n) there refl begins

  begun_all : (ports : List PortPlan) (past : List Row) → AreKnown plan ports → IsBegun past → IsBegun (begun plan empty stops.ports ports past)
  begun_all [] past there begins = begins
  begun_all (q ∷ qs) past there begins = begun_all qs (with_failure plan empty stops.ports q.number past) there.1 (begun_at past q.number there.0 begins)

  settled_at : (ports : List PortPlan) (past : List Row) (k : ℕ) → k < length ports → get_or (numbers_of ports) k 0 ≡ n → AreKnown plan ports → IsBegun past → Settled (begun plan empty stops.ports ports past)
  settled_at [] past k inside here there begins = absurd (omega (arith, inside))
  settled_at (q ∷ qs) past zero inside here there begins =
      settled_all qs (with_failure plan empty stops.ports q.number past) (settled_here past q.number (is_stopped (stops.ports (number_of q.number)) (pieces_by plan empty (number_of q.number) past)) here refl begins)
  settled_at (q ∷ qs) past (suc k) inside here there begins =
      settled_at qs (with_failure plan empty stops.ports q.number past) k (omega (arith, inside)) here there.1 (begun_at past q.number there.0 begins)

  fine_begun : (past : List Row) (b : Bool) → is_stopped stop 1 ≡ b → IsBegun past → Settled past → Fine stop (said plan stops n place [] past) (items plan stops n place [] past) (sure plan stops n place [] past)
  fine_begun past true is begins settled =
      fine_by plan stops n place [] (Some hows.Failed) past (settled is) (ap (λ (l : List Item). is_stopped stop (suc (length l))) begins.none_sent ∙ is, inl begins.none_sure)
  fine_begun past false is begins settled =
      elim begins.how [
        | inl none ↦ fine_by plan stops n place [] None past none (ap (λ (l : List Item). is_stopped stop (suc (length l))) begins.none_sent ∙ is)
        | inr failed ↦ absurd (false≢true (sym is ∙ failed.1))
      ]

  -- so the output stands well with its beginning
  pub stands_begun : Stands plan stops n place [] (begun plan empty stops.ports plan.ports [])
  stands_begun =
      let past = begun plan empty stops.ports plan.ports [] in
      let start : IsBegun [] = record { none_sent = refl; none_sure = refl; alike = refl; good = refl; how = inl refl } in
      let there = all_known plan empty stops in
      let begins = begun_all plan.ports [] there start in
      record {
        fine = fine_begun past (is_stopped stop 1) refl begins (settled_at plan.ports [] place.place place.inside (sym place.number) there start);
        alike = begins.alike;
        good = begins.good;
        waits = λ ended. empty_begun plan empty stops.ports plan.ports [] n refl;
      }
