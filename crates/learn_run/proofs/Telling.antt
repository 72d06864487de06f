-- Turns, and what is told of them.
use Rattle.std.proofs.Common.{◌≡◌, ℕ, suc, ◌<◌, List, [], ◌∷◌, ◌++◌, map, filter_map, reverse, get_or, length, refl, ap, sym, ◌∙◌, arith}
use Rattle.std.proofs.lemmas.List.{reverse-append}
use Rattle.std.proofs.lemmas.List.Elements.{filter_map-append}
use Rattle.savi_kinds.specs.declared.port.Port.{Port}
use Rattle.savi_kinds.specs.declared.plan.PortPlan.{PortPlan}
use Rattle.savi_kinds.specs.declared.entry.Who.TheVariants.{Ingress}
use Rattle.savi_kinds.specs.declared.entry.How.{How}
use Rattle.savi_kinds.specs.declared.entry.How.TheVariants as hows
use Rattle.savi_kinds.specs.Arrivals.{Arrival, Input}
use Rattle.pcap_io.specs.Runs.{ended}
use Rattle.savi_history.specs.Turns.{Turn, Arrives, Commands, Ends, turns, port_turns}
use Rattle.port_worker.specs.Inputs.{with_arrival}
use Rattle.ra_learn.specs.Printed.{PortArrival}
use Rattle.learn_run.specs.Turns.{turn_arrival, turn_ending, arrivals_of, endings_of}
use Rattle.learn_run.specs.TakenTurns.{with_turn}

newest_is : (turn : Turn) (past : List PortArrival) → reverse (filter_map turn_arrival (turn ∷ [])) ++ past ≡ with_turn turn past
newest_is (Arrives port arrival) past = refl
newest_is (Commands line) past = refl
newest_is (Ends who how) past = refl

pub arrivals_more : (taken : List Turn) (turn : Turn) → arrivals_of (taken ++ turn ∷ []) ≡ with_turn turn (arrivals_of taken)
arrivals_more taken turn =
    ap reverse (filter_map-append turn_arrival taken (turn ∷ []))
    ∙ reverse-append (filter_map turn_arrival taken) (filter_map turn_arrival (turn ∷ []))
    ∙ newest_is turn (arrivals_of taken)

pub endings_more : (taken : List Turn) (turn : Turn) → endings_of (taken ++ turn ∷ []) ≡ endings_of taken ++ endings_of (turn ∷ [])
endings_more taken turn = filter_map-append turn_ending taken (turn ∷ [])

-- the input whose turns these are
abbrev pub input_of : List Turn → Input
input_of [] = ended hows.End
input_of (Arrives port arrival ∷ later) = with_arrival arrival (input_of later)
input_of (Commands line ∷ later) = input_of later
input_of (Ends who how ∷ later) = ended how

pub input_again : (port : Port) (arrivals : List Arrival) (ending : How) → input_of (map (λ a. Arrives port a) arrivals ++ Ends (Ingress port) ending ∷ []) ≡ record { arrivals = arrivals; ending = ending }
input_again port [] ending = refl
input_again port (a ∷ arrivals) ending = ap (with_arrival a) (input_again port arrivals ending)

-- the turns of the inputs are what was taken
pub turns_again : (plans : List PortPlan) (taken : List (List Turn)) → length taken ≡ length plans → ((k : ℕ) (d : PortPlan) → k < length plans → get_or taken k [] ≡ turns (get_or plans k d).number (input_of (get_or taken k []))) → port_turns plans (map input_of taken) ≡ taken
turns_again [] [] size each = refl
turns_again [] (t ∷ taken) size each = absurd (omega arith)
turns_again (p ∷ plans) [] size each = absurd (omega arith)
turns_again (p ∷ plans) (t ∷ taken) size each =
    ap (λ (l : List Turn). l ∷ port_turns plans (map input_of taken)) (sym (each 0 p (omega arith)))
    ∙ ap (λ (l : List (List Turn)). t ∷ l) (turns_again plans taken (omega arith) (λ k d inside. each (suc k) d (omega arith)))
