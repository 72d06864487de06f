-- Control stands in front of the inputs of the ports. Where it has no input its end comes first.
use Rattle.std.proofs.Common.{◌≡◌, ℕ, zero, suc, ◌<◌, false, List, [], ◌∷◌, length, get_or, ap, ◌∙◌, arith, None}
use Rattle.savi_kinds.specs.declared.plan.Plan.{Plan}
use Rattle.savi_kinds.specs.declared.entry.Who.TheVariants.{Control}
use Rattle.savi_kinds.specs.declared.entry.How.TheVariants as hows
use Rattle.savi_history.specs.Passes.{control_pass}
use Rattle.savi_history.specs.Events.{End}
use Rattle.savi_history.specs.Merges.{merged}
use Rattle.savi_history.specs.Turns.{Turn, Ends, control_turns, turn_at}
use Rattle.savi_history.specs.Replay.{Stops, with_event}
use Rattle.savi_history.proofs.Merging.{NoneBefore, merge_left}
use Rattle.savi_segments.specs.Replay.{Run, all_taken, base_in, has_ended_in, run_with}
use Rattle.savi_segments.proofs.ForGood.{taken_open}
use Rattle.savi_segments.proofs.Reaching.{Head, Done, Agrees, AllRead, AllAgree, IsRead, Reaches, joined}

-- the pass of each port has ended exactly where its input is done
abbrev pub PortsAgree : Plan → Run → List Head → Type 0
PortsAgree plan run heads = (k : ℕ) → k < length heads → Agrees plan run k (get_or heads k Done)

pub read_all : (head : Head) (heads : List Head) → IsRead head → AllRead heads → AllRead (head ∷ heads)
read_all head heads is read zero inside = is
read_all head heads is read (suc k) inside = read k (omega arith)

pub agree_all : (plan : Plan) (run : Run) (head : Head) (heads : List Head) → Agrees plan run (control_pass plan) head → PortsAgree plan run heads → AllAgree plan run (head ∷ heads)
agree_all plan run head heads is agree zero inside = is
agree_all plan run head heads is agree (suc k) inside = agree k (omega arith)

pub done_all : (head : Head) (heads : List Head) → head ≡ Done → ((k : ℕ) → k < length heads → get_or heads k Done ≡ Done) → (k : ℕ) → k < length (head ∷ heads) → get_or (head ∷ heads) k Done ≡ Done
done_all head heads is done zero inside = is
done_all head heads is done (suc k) inside = done k (omega arith)

zero_none : (ys : List Turn) → NoneBefore turn_at 0 ys
zero_none [] = tt
zero_none (y ∷ ys) = grind arith

-- before anything was read control ends
pub reaches_control : (plan : Plan) (stops : Stops) (start : Run) (heads : List Head) (taken : List (List Turn)) → has_ended_in plan (control_pass plan) start ≡ false → ((rest : List (List Turn)) → length rest ≡ length heads → joined taken rest ≡ rest)
    → Reaches plan stops start (Done ∷ heads) (control_turns None ∷ taken) (run_with start (with_event plan (base_in plan start) start.past (End Control hows.End)))
reaches_control plan stops start heads taken running none [] left = let size = left.size in absurd (omega arith)
reaches_control plan stops start heads taken running none (r ∷ rest) left =
    let ends = Ends Control hows.End in
    let size = left.size in
    let first : merged turn_at ((ends ∷ r) ∷ rest) ≡ ends ∷ merged turn_at (r ∷ rest) = merge_left turn_at ends r (merged turn_at rest) (zero_none (merged turn_at rest)) in
    ap (λ (l : List (List Turn)). all_taken plan stops (merged turn_at ((ends ∷ r) ∷ l)) start) (none rest (omega arith))
    ∙ ap (λ (l : List Turn). all_taken plan stops l start) first
    ∙ ap (all_taken plan stops (merged turn_at (r ∷ rest))) (taken_open plan stops ends start running)

-- nothing was read yet
pub reaches_unread : (plan : Plan) (stops : Stops) (start : Run) (head : Head) (heads : List Head) (taken : List (List Turn)) → ((rest : List (List Turn)) → length rest ≡ length heads → joined taken rest ≡ rest) → Reaches plan stops start (head ∷ heads) ([] ∷ taken) start
reaches_unread plan stops start head heads taken none [] left = let size = left.size in absurd (omega arith)
reaches_unread plan stops start head heads taken none (r ∷ rest) left =
    let size = left.size in
    ap (λ (l : List (List Turn)). all_taken plan stops (merged turn_at (r ∷ l)) start) (none rest (omega arith))
