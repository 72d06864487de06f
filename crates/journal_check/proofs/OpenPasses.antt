-- Which passes are open, and whether all have ended.
use Rattle.std.proofs.Common.{◌≡◌, ◌≢◌, ◌+◌, ◌*◌, ◌-◌, ◌<◌, ◌≤◌, ◌↔◌, ℕ, zero, suc, Bool, true, false, true≢false, not, nat_eq, List, length, get_or, refl, ap, sym, ◌∙◌, inl, inr, subst, arith, if◌then◌else◌}
use Rattle.std.specs.Prelude.{IsTrue}
use Rattle.std.specs.List.Sorted.{IsStrictlyIncreasing}
use Rattle.std.proofs.lemmas.Bool.{cases_lt}
use Rattle.std.proofs.lemmas.Bool.Decides.{nat_tests}
use Rattle.std.proofs.lemmas.List.{get_or-map}
use Rattle.savi_kinds.specs.declared.plan.Plan.{Plan}
use Rattle.savi_kinds.specs.declared.plan.PortPlan.{PortPlan}
use Rattle.savi_kinds.specs.declared.entry.Who.{Who}
use Rattle.savi_kinds.specs.declared.entry.Who.TheVariants as passes
use Rattle.savi_kinds.specs.declared.entry.How.{How}
use Rattle.savi_kinds.specs.declared.entry.How.TheVariants as hows
use Rattle.savi_kinds.specs.Ports.{number_of}
use Rattle.savi_kinds.specs.ValidPlan.{numbers_of}
use Rattle.hist_store.specs.Rows.{Row}
use Rattle.hist_store.specs.EndTexts.{IsReasonOf}
use Rattle.hist_store.specs.EntryLines.{IsHowInRange}
use Rattle.checkpoint.specs.Bases.{Base}
use Rattle.savi_history.specs.Passes.{has_pass, pass_of, place_of, egress_pass, has_ended, AllEnded}
use Rattle.savi_history.specs.Endings.{has_pause}
use Rattle.savi_history.specs.Legal.{IsOpen, IsFinished, MayEnd}
use Rattle.savi_history.proofs.PassNumbers.{number_at, place_at}
use Rattle.savi_core.specs.Counts.{open_below}
use Rattle.savi_core.proofs.Counting.{all_ended}
use Rattle.journal_check.specs.EgressEnds.{HaveEgressEnded}

pub open_iff : (plan : Plan) (base : Base) (past : List Row) (who : Who) (ended : Bool) → has_pass plan who ≡ true → ended ≡ has_ended base (pass_of plan who) past → IsTrue (not ended) ↔ IsOpen plan base past who
open_iff plan base past who true known is = (λ no. absurd (true≢false (sym no)), λ open_pass. absurd (true≢false (is ∙ open_pass.running)))
open_iff plan base past who false known is = (λ yes. record { known = known; running = sym is }, λ open_pass. refl)

pub closed_iff : (plan : Plan) (base : Base) (past : List Row) (who : Who) → has_pass plan who ≡ false → IsTrue false ↔ IsOpen plan base past who
closed_iff plan base past who unknown = (λ no. absurd (true≢false (sym no)), λ open_pass. absurd (true≢false (sym open_pass.known ∙ unknown)))

-- none is open where all have ended

pub none_open : (base : Base) (past : List Row) (n : ℕ) → AllEnded base n past → open_below base past n ≡ 0
none_open base past zero all = refl
none_open base past (suc n) all =
    let before = none_open base past n (λ pass within. all pass (omega (arith, within))) in
    let last : has_ended base n past ≡ true = all n (omega arith) in
    let sum : open_below base past n + 0 ≡ 0 = omega (arith, before) in
    ap (λ (b : Bool). open_below base past n + (if b then 0 else 1)) last ∙ sum

-- the passes behind the inputs and the ticker

behind_ticker : (plan : Plan) (base : Base) (past : List Row) (pass : ℕ) → has_ended base (length plan.ports + 1) past ≡ true → HaveEgressEnded plan base past → length plan.ports + 1 ≤ pass → pass < 2 * length plan.ports + 2
    → has_ended base pass past ≡ true
behind_ticker plan base past pass ticker egress low within =
    elim (cases_lt (length plan.ports + 1) pass) [
      | inl over ↦
          let place = pass - (length plan.ports + 2) in
          let number : length plan.ports + 2 + place ≡ pass = omega (arith, over) in
          subst (λ (n : ℕ). has_ended base n past ≡ true) number (egress place (omega (arith, over, within)))
      | inr under ↦ let number : length plan.ports + 1 ≡ pass = omega (arith, low, under) in subst (λ (n : ℕ). has_ended base n past ≡ true) number ticker
    ]

pub finished : (plan : Plan) (base : Base) (past : List Row) → AllEnded base (length plan.ports + 1 + 1) past → HaveEgressEnded plan base past → IsFinished plan base past
finished plan base past inputs egress = λ pass within.
    elim (cases_lt pass (length plan.ports + 1 + 1)) [
      | inl input ↦ inputs pass input
      | inr behind ↦ behind_ticker plan base past pass (inputs (length plan.ports + 1) (omega arith)) egress (omega (arith, behind)) within
    ]

pub egress_ended : (plan : Plan) (base : Base) (past : List Row) → IsFinished plan base past → HaveEgressEnded plan base past
egress_ended plan base past all = λ place within. all (length plan.ports + 2 + place) (omega (arith, within))

-- those up to the ticker
pub through : (plan : Plan) (base : Base) (past : List Row) → open_below base past (length plan.ports + 1) ≡ 0 → has_ended base (length plan.ports + 1) past ≡ true → AllEnded base (length plan.ports + 1 + 1) past
through plan base past none ticker = λ pass within.
    elim (cases_lt pass (length plan.ports + 1)) [
      | inl input ↦ all_ended base past (length plan.ports + 1) none pass input
      | inr behind ↦ let number : length plan.ports + 1 ≡ pass = omega (arith, within, behind) in subst (λ (n : ℕ). has_ended base n past ≡ true) number ticker
    ]

pub finished_through : (plan : Plan) (base : Base) (past : List Row) → IsFinished plan base past → AllEnded base (length plan.ports + 1 + 1) past
finished_through plan base past all = λ pass within. all pass (omega (arith, within))

-- by the reasons for which a pass may end

pub may_other : (plan : Plan) (base : Base) (past : List Row) (who : Who) (how : How) → IsReasonOf who how → IsHowInRange how → how ≢ hows.End → how ≢ hows.Paused → MayEnd plan base past who how
may_other plan base past who hows.End reason range not_end not_paused = absurd (not_end refl)
may_other plan base past who hows.Paused reason range not_end not_paused = absurd (not_paused refl)
may_other plan base past (passes.Ingress port) hows.Quit reason range not_end not_paused = absurd reason
may_other plan base past (passes.Ingress port) (hows.Malformed at) reason range not_end not_paused = range
may_other plan base past (passes.Ingress port) (hows.Overlong at) reason range not_end not_paused = absurd reason
may_other plan base past (passes.Ingress port) hows.Failed reason range not_end not_paused = tt
may_other plan base past (passes.Ingress port) hows.Unwritten reason range not_end not_paused = absurd reason
may_other plan base past passes.Control hows.Quit reason range not_end not_paused = tt
may_other plan base past passes.Control (hows.Malformed at) reason range not_end not_paused = range
may_other plan base past passes.Control (hows.Overlong at) reason range not_end not_paused = range
may_other plan base past passes.Control hows.Failed reason range not_end not_paused = tt
may_other plan base past passes.Control hows.Unwritten reason range not_end not_paused = tt
may_other plan base past passes.Ticker hows.Quit reason range not_end not_paused = absurd reason
may_other plan base past passes.Ticker (hows.Malformed at) reason range not_end not_paused = absurd reason
may_other plan base past passes.Ticker (hows.Overlong at) reason range not_end not_paused = absurd reason
may_other plan base past passes.Ticker hows.Failed reason range not_end not_paused = absurd reason
may_other plan base past passes.Ticker hows.Unwritten reason range not_end not_paused = absurd reason
may_other plan base past (passes.Egress port) hows.Quit reason range not_end not_paused = absurd reason
may_other plan base past (passes.Egress port) (hows.Malformed at) reason range not_end not_paused = absurd reason
may_other plan base past (passes.Egress port) (hows.Overlong at) reason range not_end not_paused = absurd reason
may_other plan base past (passes.Egress port) hows.Failed reason range not_end not_paused = tt
may_other plan base past (passes.Egress port) hows.Unwritten reason range not_end not_paused = absurd reason

-- the port at a place of the plan

number_there : (plan : Plan) (k : ℕ) (p : PortPlan) → k < length plan.ports → p ≡ get_or plan.ports k p → number_at plan k ≡ number_of p.number
number_there plan k p within is = get_or-map (λ (q : PortPlan). number_of q.number) plan.ports k p 0 within ∙ ap (λ (q : PortPlan). number_of q.number) (sym is)

pub egress_there : (plan : Plan) (k : ℕ) (p : PortPlan) → IsStrictlyIncreasing (numbers_of plan.ports) → k < length plan.ports → p ≡ get_or plan.ports k p → egress_pass plan (number_of p.number) ≡ length plan.ports + 2 + k
egress_there plan k p rising within is =
    ap (λ (n : ℕ). length plan.ports + 2 + n) (sym (ap (place_of plan) (number_there plan k p within is)) ∙ place_at plan k rising within)

pub inputs_ended : (plan : Plan) (base : Base) (past : List Row) → AllEnded base (length plan.ports + 1 + 1) past → open_below base past (length plan.ports + 1) ≡ 0
inputs_ended plan base past all = none_open base past (length plan.ports + 1) (λ pass within. all pass (omega (arith, within)))

-- by whether an input is paused, where the ticker or an output has nothing more to come

pub ends_well : {A : Type 0} (past : List Row) (paused : Bool) → A → paused ≡ has_pause past → IsTrue (not paused) ↔ (A × (has_pause past ≡ false))
ends_well past true through is = (λ no. absurd (true≢false (sym no)), λ both. absurd (true≢false (is ∙ both.1)))
ends_well past false through is = (λ yes. (through, sym is), λ both. refl)

pub pauses : {A : Type 0} (past : List Row) (paused : Bool) → A → paused ≡ has_pause past → IsTrue paused ↔ (A × (has_pause past ≡ true))
pauses past true through is = (λ yes. (through, sym is), λ both. refl)
pauses past false through is = (λ no. absurd (true≢false (sym no)), λ both. absurd (true≢false (sym both.1 ∙ sym is)))

pub waits : {A : Type 0} (past : List Row) (paused : Bool) (left : ℕ) → left ≢ 0 → ¬ A → IsTrue (nat_eq left 0) ↔ (A × (has_pause past ≡ paused))
waits past paused left some more = (λ yes. let none : left ≡ 0 = grind (arith, nat_tests) in absurd (some none), λ both. absurd (more both.0))
