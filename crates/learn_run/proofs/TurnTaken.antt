-- A turn is taken: an arrival is reported, and the end of an input is noted.
use Rattle.std.proofs.Common.{◌≡◌, ℕ, List, [], ◌∷◌, ◌++◌, Option, vec_capacity, append-nil, sym, ◌∙◌, subst, arith}
use Rattle.savi_kinds.specs.declared.port.Port.{Port}
use Rattle.savi_kinds.specs.declared.plan.Plan.{Plan}
use Rattle.savi_kinds.specs.declared.entry.How.{How}
use Rattle.savi_kinds.specs.declared.entry.Who.TheVariants.{Ingress}
use Rattle.savi_kinds.specs.Arrivals.{Arrival, Long}
use Rattle.savi_ends.specs.declared.sink.Put.{Put}
use Rattle.savi_history.specs.Turns.{Arrives, Ends}
use Rattle.ra_learn.specs.Printed.{PortArrival, advert_lines, sightings_of}
use Rattle.ra_learn.specs.Reports.{Reported, HasReported, Wrote}
use Rattle.learn_run.specs.declared.learning.Learning.{Learning}
use Rattle.learn_run.specs.declared.learning.Ending.{Ending}
use Rattle.learn_run.specs.TakenTurns.{IsTurnTaken}

abbrev pub arrival_at : Port → Arrival → PortArrival
arrival_at port arrival = record { port = port; arrival = arrival }

abbrev pub ending_at : Port → How → Ending
ending_at port how = record { port = port; how = how }

-- a report tells of one arrival more
abbrev pub TellsMore : Reported → Reported → PortArrival → Type 0
TellsMore old new newest =
    (plan : Plan) (window : ℕ) (arrivals : List PortArrival) → HasReported plan window arrivals old → HasReported plan window (newest ∷ arrivals) new

module _ {O : Type 0} (written : O → Option (List ℕ)) (faults : O → ℕ) (old new : Learning) where
  -- the sink took the line of one arrival more
  abbrev pub WroteMore : Reported → PortArrival → O → O → Type 0
  WroteMore report newest out out' =
      (plan : Plan) (window : ℕ) (arrivals : List PortArrival) (before : Option (List ℕ)) (count : ℕ) → HasReported plan window arrivals old.report
      → Wrote (advert_lines plan window (sightings_of plan arrivals)) old.report.put before (written out) count (faults out)
      → Wrote (advert_lines plan window (sightings_of plan (newest ∷ arrivals))) report.put before (written out') count (faults out')

  pub arrival_taken : (port : Port) (arrival : Arrival) (report : Reported) (out out' sink : O)
      → new.endings.items ≡ old.endings.items → vec_capacity new.endings ≡ vec_capacity old.endings → new.report ≡ report → out' ≡ sink
      → TellsMore old.report report (arrival_at port arrival) → WroteMore report (arrival_at port arrival) out sink
      → IsTurnTaken written faults (Arrives port arrival) old new out out'
  arrival_taken port arrival report out out' sink items capacity report_is out_is tells wrote = record {
    endings = items ∙ sym (append-nil old.endings.items);
    capacity = omega (arith, capacity);
    tells = λ plan window arrivals had. subst (λ (r : Reported). HasReported plan window (arrival_at port arrival ∷ arrivals) r) (sym report_is) (tells plan window arrivals had);
    wrote = λ plan window arrivals before count had took.
        let P : Reported → O → Type 0 = λ r o. Wrote (advert_lines plan window (sightings_of plan (arrival_at port arrival ∷ arrivals))) r.put before (written o) count (faults o) in
        subst (λ (o : O). P new.report o) (sym out_is) (subst (λ (r : Reported). P r sink) (sym report_is) (wrote plan window arrivals before count had took));
  }

  -- nothing is written of a longer frame
  pub long_taken : (port : Port) (stamp len : ℕ) (report : Reported) (out out' : O)
      → new.endings.items ≡ old.endings.items → vec_capacity new.endings ≡ vec_capacity old.endings → new.report ≡ report → out' ≡ out
      → TellsMore old.report report (arrival_at port (Long stamp len)) → report.put ≡ old.report.put
      → IsTurnTaken written faults (Arrives port (Long stamp len)) old new out out'
  long_taken port stamp len report out out' items capacity report_is out_is tells put =
      arrival_taken port (Long stamp len) report out out' out items capacity report_is out_is tells
      (λ plan window arrivals before count had took.
      subst (λ (p : Put). Wrote (advert_lines plan window (sightings_of plan arrivals)) p before (written out) count (faults out)) (sym put) took)

  pub end_taken : (port : Port) (how : How) (out out' : O)
      → new.endings.items ≡ old.endings.items ++ ending_at port how ∷ [] → vec_capacity new.endings ≡ vec_capacity old.endings → new.report ≡ old.report → out' ≡ out
      → IsTurnTaken written faults (Ends (Ingress port) how) old new out out'
  end_taken port how out out' items capacity report_is out_is = record {
    endings = items;
    capacity = omega (arith, capacity);
    tells = λ plan window arrivals had. subst (λ (r : Reported). HasReported plan window arrivals r) (sym report_is) had;
    wrote = λ plan window arrivals before count had took.
        let P : Reported → O → Type 0 = λ r o. Wrote (advert_lines plan window (sightings_of plan arrivals)) r.put before (written o) count (faults o) in
        subst (λ (o : O). P new.report o) (sym out_is) (subst (λ (r : Reported). P r out) (sym report_is) took);
  }
