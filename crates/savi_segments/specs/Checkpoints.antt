-- What a history leaves: the base from which the next one goes on.
use Rattle.std.specs.Prelude.{ℕ, zero, suc, ◌==◌, false, if◌then◌else◌, Option, Some, None, List, [], ◌∷◌, ◌++◌, filter}
use Rattle.savi_kinds.specs.declared.plan.Plan.{Plan}
use Rattle.savi_kinds.specs.declared.entry.Act.{Act}
use Rattle.savi_kinds.specs.declared.entry.Act.TheVariants.{Frame, Long, Tick, Command, Drain, End}
use Rattle.savi_kinds.specs.declared.entry.How.{How}
use Rattle.savi_kinds.specs.ValidPlan.{numbers_of}
use Rattle.hist_store.specs.Rows.{Row}
use Rattle.savi_access.specs.Tables.{rows_at}
use Rattle.savi_access.specs.Marks.{told, open_requests}
use Rattle.savi_access.specs.Plans.{rules_of}
use Rattle.checkpoint.specs.Bases.{Base, access_of}
use Rattle.savi_history.specs.Passes.{pass_count}
use Rattle.savi_history.specs.ShutPorts.{is_shut}
use Rattle.savi_history.specs.Moments.{last_moment}
use Rattle.savi_history.specs.Marks.{marks}
use Rattle.savi_history.specs.Stations.{stations}
use Rattle.savi_history.specs.Endings.{is_paused_reason}
use Rattle.savi_history.specs.Shown.{counts_of}

-- the numbers below this one, in order
abbrev pub up_to : ℕ → List ℕ
up_to zero = []
up_to (suc n) = up_to n ++ n ∷ []

-- how a pass has ended for good behind the end of the pass `by`, by how it had ended before: one that is paused goes on
abbrev pub ended_for_good : ℕ → ℕ → How → Option How → Option How
ended_for_good pass by how before = if is_paused_reason how then before else if by == pass then Some how else before

abbrev pub ended_after : ℕ → ℕ → Act → Option How → Option How
ended_after pass by (Frame port stamp at len) before = before
ended_after pass by (Long port stamp len) before = before
ended_after pass by (Tick stamp) before = before
ended_after pass by (Command stamp at len) before = before
ended_after pass by (Drain port count) before = before
ended_after pass by (End who how) before = ended_for_good pass by how before

-- why a pass ended, among the ends of passes
abbrev pub end_among : ℕ → List (ℕ × How) → Option How
end_among pass [] = None
end_among pass (ended ∷ ends) = if ended.0 == pass then Some ended.1 else end_among pass ends

-- how a pass has ended for good, if it has
abbrev pub end_of : Base → ℕ → List Row → Option How
end_of base pass [] = end_among pass base.ended
end_of base pass (r ∷ past) = ended_after pass r.entry.by r.entry.act (end_of base pass past)

-- the end of a pass in front of those of others, where it has one
abbrev pub with_pass_end : ℕ → Option How → List (ℕ × How) → List (ℕ × How)
with_pass_end pass None ends = ends
with_pass_end pass (Some how) ends = (pass, how) ∷ ends

-- the ends of these passes, of those that have one
abbrev pub ends_of : (ℕ → Option How) → List ℕ → List (ℕ × How)
ends_of end [] = []
ends_of end (pass ∷ passes) = with_pass_end pass (end pass) (ends_of end passes)

-- The last moment of a history, and what holds then: the passes of the plan that have ended for good, each with its reason,
-- its ports that are shut, of each VLAN the stations, the states of addresses and the open requests, and the counts.
abbrev pub after : Plan → Base → List Row → Base
after plan base past = record {
  is_start = false;
  moment = last_moment base past;
  ended = ends_of (λ pass. end_of base pass past) (up_to (pass_count plan));
  shut = filter (λ number. is_shut plan base number past) (numbers_of plan.ports);
  stations = λ vlan. stations vlan plan base past;
  rows = λ vlan. rows_at (rules_of plan).addresses (access_of base).addresses (told (marks plan base past)) (last_moment base past) vlan;
  requests = λ vlan. open_requests (access_of base) vlan (marks plan base past) (last_moment base past);
  counts = counts_of base past;
}
