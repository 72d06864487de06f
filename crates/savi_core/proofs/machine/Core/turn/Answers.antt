use Rattle.std.proofs.Common.{◌≡◌, ◌+◌, ◌*◌, ℕ, [], length, sym, ap, subst, ◌∙◌, arith}
use Rattle.std.specs.Prelude.{reverse}
use Rattle.savi_kinds.specs.declared.plan.Plan.{Plan}
use Rattle.savi_kinds.specs.declared.port.PortSet.{PortSet}
use Rattle.hist_store.specs.Rows.{History}
use Rattle.checkpoint.specs.Bases.{Base}
use Rattle.checkpoint.specs.Columns.{Columns, kept_base as base_kept}
use Rattle.savi_history.specs.Passes.{pass_count}
use Rattle.savi_history.specs.Shown.{counts_of}
use Rattle.savi_history.specs.Legal.{IsFinished}
use Rattle.savi_segments.specs.Checkpoints.{after}
use Rattle.savi_core.specs.Ends.{AreEnds}
use Rattle.savi_core.specs.Machines.{Machine, base_of}
use Rattle.savi_core.specs.Rings.{Rings}
use Rattle.savi_core.specs.Tells.{TellOfAll}
use Rattle.savi_core.specs.Turns.{reopened}
use Rattle.savi_core.proofs.Everywhere.{requests_few, rows_few, sets_rise, stations_few}
use Rattle.savi_core.proofs.Over.{ends_turned}
use Rattle.savi_core.proofs.Showing.{lane_count}
use Rattle.savi_core.proofs.Shutting.{shut_as}
use Rattle.savi_core.proofs.Together.{lent_too}
use Rattle.savi_core.proofs.Turned.{over_base, begun, kept_is, turned_left, all_turned, within_turned, remembers_turned}
use Rattle.savi_core.proofs.machine.Core.turn.Goals.{After-keep_stations}
use Rattle.savi_core.proofs.machine.Core.turn.Goals as goal

pub keep_ends-requires : goal.keep_ends-requires
keep_ends-requires c = record {
  empty = ap (λ (k : Columns). k.ended) c.begin.ensures;
  few = omega (arith, ap length c.as_slice.ensures, ap (λ (p : Plan). length p.ports) c.plan.ensures.plan, c.self.invariant.0.valid.port_count.1);
}

pub keep_rows-requires : goal.keep_rows-requires
keep_rows-requires c = record {
  empty = ap (λ (k : Columns). k.rows) c.keep_ends.ensures ∙ ap (λ (k : Columns). k.rows) c.begin.ensures;
  order = sets_rise c.self.invariant.0 c.as_slice-sets.result.now (lent_too c.as_slice-sets.ensures.value c.self.invariant.4);
  room =
      omega (
        arith,
        ap (λ (k : Columns). k.row_room) c.keep_ends.ensures,
        ap (λ (k : Columns). k.row_room) c.begin.ensures,
        c.self.invariant.8,
        rows_few c.self.invariant.0 c.as_slice-sets.result.now (lent_too c.as_slice-sets.ensures.value c.self.invariant.4),
      );
}

pub keep_requests-requires : goal.keep_requests-requires
keep_requests-requires c = record {
  empty = ap (λ (k : Columns). k.requests) c.keep_rows.ensures ∙ ap (λ (k : Columns). k.requests) c.keep_ends.ensures ∙ ap (λ (k : Columns). k.requests) c.begin.ensures;
  order = sets_rise c.self.invariant.0 c.as_slice-sets.result.now (lent_too c.as_slice-sets.ensures.value c.self.invariant.4);
  few = requests_few c.self.invariant.0 c.as_slice-sets.result.now (lent_too c.as_slice-sets.ensures.value c.self.invariant.4) (within_turned c.self.invariant.0 c.histories_tell_rightly.ensures.limits c.len-entries.ensures.octets);
}

pub keep_stations-requires : goal.keep_stations-requires
keep_stations-requires c = record {
  empty =
      ap (λ (k : Columns). k.stations) c.keep_requests.ensures
      ∙ ap (λ (k : Columns). k.stations) c.keep_rows.ensures
      ∙ ap (λ (k : Columns). k.stations) c.keep_ends.ensures
      ∙ ap (λ (k : Columns). k.stations) c.begin.ensures;
  order = sets_rise c.self.invariant.0 c.as_slice-sets.result.now (lent_too c.as_slice-sets.ensures.value c.self.invariant.4);
  room =
      omega (
        arith,
        ap (λ (k : Columns). k.station_room) c.keep_requests.ensures,
        ap (λ (k : Columns). k.station_room) c.keep_rows.ensures,
        ap (λ (k : Columns). k.station_room) c.keep_ends.ensures,
        ap (λ (k : Columns). k.station_room) c.begin.ensures,
        c.self.invariant.9,
        stations_few c.self.invariant.0 c.as_slice-sets.result.now (lent_too c.as_slice-sets.ensures.value c.self.invariant.4) (within_turned c.self.invariant.0 c.histories_tell_rightly.ensures.limits c.len-entries.ensures.octets),
      );
}

pub reopen-requires : goal.reopen-requires
reopen-requires c =
    omega (arith, ap length c.as_slice.ensures, ap (λ (p : Plan). length p.ports) c.plan.ensures.plan, c.self.invariant.0.valid.port_count.1, lane_count c.self.invariant.0.queues)

-- what is kept is what the history leaves
left : (c : After-keep_stations) → base_kept c.keep_stations.new.into ≡ after c.self.inside.ports (base_kept c.self.inside.checkpoint) (reverse c.self.inside.hist.rows)
left c =
    let inside = c.self.inside in
    let was = c.self.invariant.0 in
    let row_room : ℕ = inside.checkpoint.row_room in
    let station_room : ℕ = inside.checkpoint.station_room in
    let ports : ℕ = length c.as_slice.result.now in
    let all : 2 * ports + 2 ≡ pass_count inside.ports = omega (arith, ap length c.as_slice.ensures, ap (λ (p : Plan). length p.ports) c.plan.ensures.plan) in
    ap base_kept
    (kept_is was row_room station_room inside.ends c.as_slice-sets.result.now inside.tally c.begin.new.self c.keep_ends.new.into c.keep_rows.new.into c.keep_requests.new.into c.keep_stations.new.into (2 * ports + 2) all
    (c.begin.ensures ∙ ap (λ (set : PortSet). begun row_room station_room inside.moment set inside.tally) c.shut_ports.ensures)
    c.keep_ends.ensures c.keep_rows.ensures c.keep_requests.ensures c.keep_stations.ensures)
    ∙ turned_left was row_room station_room inside.ends c.as_slice-sets.result.now inside.tally c.self.invariant.7 (lent_too c.as_slice-sets.ensures.value c.self.invariant.4) c.self.invariant.6

pub invariant_of-self : goal.invariant_of-self
invariant_of-self c =
    let inside = c.self.inside in
    let was = c.self.invariant.0 in
    let plan : Plan = inside.ports in
    let base : Base = base_kept inside.checkpoint in
    let left_is : after plan base (reverse inside.hist.rows) ≡ base_kept c.keep_stations.new.into = sym (left (goal.at.invariant_of-self c).After-keep_stations) in
    let within = within_turned was c.histories_tell_rightly.ensures.limits c.len-entries.ensures.octets in
    let finished : IsFinished plan base (reverse inside.hist.rows) = subst (λ (m : Machine). IsFinished m.plan (base_of m) m.past) (sym c.self.view_is) c.requires.finished in
    let first : length c.as_slice.result.now + 2 ≡ length plan.ports + 2 = omega (arith, ap length c.as_slice.ensures, ap (λ (p : Plan). length p.ports) c.plan.ensures.plan) in
    let lanes = ap (λ (r : Rings). r.lanes) c.reopen.ensures ∙ ap (λ (n : ℕ). reopened n inside.ends.ends inside.queues.lanes) first in
    rw (c.clear.ensures, c.passes-self-inside.ensures) (
      over_base left_is (shut_as (sym (ap (λ (r : Rings). r.shut) c.reopen.ensures)) (remembers_turned was inside.ends c.self.invariant.7 finished within c.reopen.new.self.lanes lanes)),
      c.self.invariant.1,
      c.self.invariant.2,
      c.self.invariant.7.inputs,
      subst (λ (b : Base). TellOfAll plan b [] inside.moment inside.sets.items) left_is (all_turned was c.a_table_goes_on_from_its_states.ensures inside.sets.items c.self.invariant.4),
      tt,
      c.self.invariant.6 ∙ ap (λ (b : Base). counts_of b []) left_is,
      subst (λ (b : Base). AreEnds plan b [] inside.ends) left_is (ends_turned plan base (reverse inside.hist.rows) inside.ends c.self.invariant.7),
      ap (λ (k : Columns). k.row_room) c.keep_stations.ensures
          ∙ ap (λ (k : Columns). k.row_room) c.keep_requests.ensures
          ∙ ap (λ (k : Columns). k.row_room) c.keep_rows.ensures
          ∙ ap (λ (k : Columns). k.row_room) c.keep_ends.ensures
          ∙ ap (λ (k : Columns). k.row_room) c.begin.ensures
          ∙ c.self.invariant.8,
      ap (λ (k : Columns). k.station_room) c.keep_stations.ensures
          ∙ ap (λ (k : Columns). k.station_room) c.keep_requests.ensures
          ∙ ap (λ (k : Columns). k.station_room) c.keep_rows.ensures
          ∙ ap (λ (k : Columns). k.station_room) c.keep_ends.ensures
          ∙ ap (λ (k : Columns). k.station_room) c.begin.ensures
          ∙ c.self.invariant.9,
    )

pub returns : goal.returns
returns c = record {
  plan = ap (λ (m : Machine). m.plan) c.self.view_is;
  base = left (goal.at.returns c).After-keep_stations ∙ ap (λ (m : Machine). after m.plan (base_of m) m.past) c.self.view_is;
  past = ap (λ (h : History). reverse h.rows) c.clear.ensures;
}
