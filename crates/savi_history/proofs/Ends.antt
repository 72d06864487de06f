-- What has ended stays so.
use Rattle.std.proofs.Common.{◌≡◌, ℕ, ◌||◌, Bool, true, false, List, [], ◌∷◌, refl, if◌then◌else◌}
use Rattle.savi_kinds.specs.declared.port.Port.{Port}
use Rattle.savi_kinds.specs.declared.plan.Plan.{Plan}
use Rattle.savi_kinds.specs.declared.plan.PortPlan.{PortPlan}
use Rattle.savi_kinds.specs.declared.entry.Who.TheVariants as passes
use Rattle.savi_kinds.specs.Ports.{number_of}
use Rattle.hist_store.specs.Rows.{Row}
use Rattle.checkpoint.specs.Bases.{Base}
use Rattle.savi_history.specs.Passes.{has_ended, egress_pass}
use Rattle.savi_history.specs.Events.{Event, End}
use Rattle.savi_history.specs.Replay.{with_event, closing, with_end, egress_ended}

-- what had ended after the first history has ended after the second
abbrev pub Later : Base → List Row → List Row → Type 0
Later base before now = (pass : ℕ) → has_ended base pass before ≡ true → has_ended base pass now ≡ true

or_right : (a b : Bool) → b ≡ true → (a || b) ≡ true
or_right true b is = refl
or_right false b is = is

pub later_event : (plan : Plan) (base : Base) (past : List Row) (event : Event) → Later base past (with_event plan base past event)
later_event plan base past event pass is = or_right _ (has_ended base pass past) is

-- an egress ends, if it hasn't
later_end_at : (plan : Plan) (base : Base) (port : Port) (past : List Row) (b : Bool) → Later base past (if b then past else with_event plan base past (End (passes.Egress port) (closing past)))
later_end_at plan base port past true pass is = is
later_end_at plan base port past false pass is = later_event plan base past (End (passes.Egress port) (closing past)) pass is

pub later_end : (plan : Plan) (base : Base) (port : Port) (past : List Row) → Later base past (with_end plan base port past)
later_end plan base port past = later_end_at plan base port past (has_ended base (egress_pass plan (number_of port)) past)

pub later_egress : (plan : Plan) (base : Base) (ports : List PortPlan) (past : List Row) → Later base past (egress_ended plan base ports past)
later_egress plan base [] past pass is = is
later_egress plan base (q ∷ qs) past pass is = later_egress plan base qs (with_end plan base q.number past) pass (later_end plan base q.number past pass is)
