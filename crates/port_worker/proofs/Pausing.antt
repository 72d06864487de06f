-- Where there is no room one input after the other is paused.
use Rattle.std.proofs.Common.{◌≡◌, ℕ, suc, ◌+◌, ◌&&◌, nat_lt, nat_le, Bool, true, false, if◌then◌else◌, List, [], ◌∷◌, drop, length, sym, ap, ◌∙◌, subst, arith, inl, inr, add-one}
use Rattle.std.proofs.lemmas.Bool.{cases_Bool}
use Rattle.std.proofs.lemmas.Bool.Decides.{nat_tests}
use Rattle.std.proofs.lemmas.List.{drop_all}
use Rattle.savi_kinds.specs.declared.port.Port.{Port}
use Rattle.savi_kinds.specs.declared.plan.Plan.{Plan}
use Rattle.savi_kinds.specs.declared.plan.PortPlan.{PortPlan}
use Rattle.savi_kinds.specs.declared.entry.Who.{Who}
use Rattle.savi_kinds.specs.declared.entry.Who.TheVariants as passes
use Rattle.savi_kinds.specs.declared.entry.How.TheVariants as hows
use Rattle.hist_store.specs.Rows.{Row, held}
use Rattle.checkpoint.specs.Bases.{Base}
use Rattle.savi_history.specs.Events.{End}
use Rattle.savi_history.specs.Limits.{has_room}
use Rattle.savi_history.specs.Passes.{has_ended, pass_of}
use Rattle.savi_history.specs.Replay.{with_event}
use Rattle.savi_segments.specs.Replay.{inputs_paused, ports_paused, with_pause}
use Rattle.savi_core.specs.Machines.{Machine, base_of}

-- there is none behind a pause

no_more : (n entries : ℕ) (rest : Bool) → (nat_lt (n + 4130) entries && rest) ≡ false → (nat_lt (suc n + 4130) entries && rest) ≡ false
no_more n entries rest none = elim (cases_Bool (nat_lt (suc n + 4130) entries)) [
  | inl less ↦
      let before : nat_lt (n + 4130) entries ≡ true = grind (arith, nat_tests, less) in
      ap (λ (b : Bool). b && rest) less ∙ ap (λ (b : Bool). b && rest) (sym before) ∙ none
  | inr not ↦ ap (λ (b : Bool). b && rest) not
]

full_end : (plan : Plan) (base : Base) (past : List Row) (who : Who) → has_room plan past ≡ false → has_room plan (with_event plan base past (End who hows.Paused)) ≡ false
full_end plan base past who full =
    let same : held past ≡ 0 + held past = omega arith in
    subst (λ (n : ℕ). (nat_lt (suc (length past) + 4130) plan.entries && nat_le (n + 1518) plan.bytes) ≡ false) same
    (no_more (length past) plan.entries (nat_le (held past + 1518) plan.bytes) full)

full_at : (plan : Plan) (base : Base) (past : List Row) (who : Who) (b : Bool) → has_room plan past ≡ false → has_room plan (if b then past else with_event plan base past (End who hows.Paused)) ≡ false
full_at plan base past who true full = full
full_at plan base past who false full = full_end plan base past who full

full_pause : (plan : Plan) (base : Base) (past : List Row) (who : Who) → has_room plan past ≡ false → has_room plan (with_pause plan base who past) ≡ false
full_pause plan base past who full = full_at plan base past who (has_ended base (pass_of plan who) past) full

-- control is paused, and the inputs of the ports below a place
pub record PausesSoFar (place : ℕ) (first now : Machine) : Type 0 where
  pub whole : now ≡ record first { past = now.past }
  pub rest : ports_paused first.plan (base_of first) (drop place first.plan.ports) now.past ≡ inputs_paused first.plan (base_of first) first.past
  pub full : has_room first.plan now.past ≡ false

with_rows : (first now : Machine) (past : List Row) → now ≡ record first { past = past } → now ≡ record first { past = now.past }
with_rows first now past is = is ∙ ap (λ (l : List Row). record first { past = l }) (sym (ap (λ (m : Machine). m.past) is))

pub pause_start : (first now : Machine) → now ≡ record first { past = with_pause first.plan (base_of first) passes.Control first.past } → has_room first.plan first.past ≡ false → PausesSoFar 0 first now
pause_start first now is full =
    let past_is : now.past ≡ with_pause first.plan (base_of first) passes.Control first.past = ap (λ (m : Machine). m.past) is in
    record {
      whole = with_rows first now (with_pause first.plan (base_of first) passes.Control first.past) is;
      rest = ap (λ (l : List Row). ports_paused first.plan (base_of first) first.plan.ports l) past_is;
      full = rw past_is (full_pause first.plan (base_of first) first.past passes.Control full);
    }

module _ (place : ℕ) (first now : Machine) (so_far : PausesSoFar place first now) where
  plan_is : now.plan ≡ first.plan
  plan_is = ap (λ (m : Machine). m.plan) so_far.whole

  base_is : base_of now ≡ base_of first
  base_is = ap base_of so_far.whole

  pub full_now : has_room now.plan now.past ≡ false
  full_now = ap (λ (p : Plan). has_room p now.past) plan_is ∙ so_far.full

  pub plan_now : now.plan ≡ first.plan
  plan_now = plan_is

  pub pause_more : (next : Machine) (port : Port) (q : PortPlan) → next ≡ record now { past = with_pause now.plan (base_of now) (passes.Ingress port) now.past }
      → drop place first.plan.ports ≡ q ∷ drop (suc place) first.plan.ports → q.number ≡ port → PausesSoFar (place + 1) first next
  pause_more next port q is split port_is =
      let plan = first.plan in
      let base = base_of first in
      let paused = with_pause plan base (passes.Ingress port) now.past in
      let same : with_pause now.plan (base_of now) (passes.Ingress port) now.past ≡ paused =
      ap (λ (p : Plan). with_pause p (base_of now) (passes.Ingress port) now.past) plan_is ∙ ap (λ (b : Base). with_pause plan b (passes.Ingress port) now.past) base_is in
      let next_is : next ≡ record first { past = paused } =
      is ∙ ap (λ (l : List Row). record now { past = l }) same ∙ ap (λ (m : Machine). record m { past = paused }) so_far.whole in
      let past_is : next.past ≡ paused = ap (λ (m : Machine). m.past) next_is in
      let one : ports_paused plan base (drop place plan.ports) now.past ≡ ports_paused plan base (drop (suc place) plan.ports) paused =
      ap (λ (l : List PortPlan). ports_paused plan base l now.past) split
      ∙ ap (λ (p : Port). ports_paused plan base (drop (suc place) plan.ports) (with_pause plan base (passes.Ingress p) now.past)) port_is in
      record {
        whole = with_rows first next paused next_is;
        rest = rw add-one (ap (λ (l : List Row). ports_paused plan base (drop (suc place) plan.ports) l) past_is ∙ sym one ∙ so_far.rest);
        full = rw past_is (full_pause plan base now.past (passes.Ingress port) so_far.full);
      }

-- behind the last port all inputs are paused, and nothing else has changed
pub all_paused : (place : ℕ) (first now : Machine) → place ≡ length first.plan.ports → PausesSoFar place first now → now ≡ record first { past = inputs_paused first.plan (base_of first) first.past }
all_paused place first now all so_far =
    let none : drop place first.plan.ports ≡ [] = drop_all place first.plan.ports (omega (arith, all)) in
    so_far.whole
    ∙ ap (λ (l : List Row). record first { past = l }) (ap (λ (l : List PortPlan). ports_paused first.plan (base_of first) l now.past) (sym none) ∙ so_far.rest)
