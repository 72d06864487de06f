use Rattle.std.proofs.Common.{◌≡◌, ◌*◌, ◌≤◌, arith, Some, length, sym, subst}
use Rattle.std.specs.Prelude.{slice_get}
use Rattle.std.specs.Bool.{OnTrue}
use Rattle.savi_kinds.specs.declared.plan.Plan.{Plan}
use Rattle.checkpoint.specs.BaseLines.{base_texts, HasNothingElsewhere}
use Rattle.checkpoint.specs.Bases.{Base}
use Rattle.checkpoint.specs.Columns.{kept_base as base_kept}
use Rattle.savi_core.specs.Machines.{Machine, base_of, station_room}
use Rattle.savi_core.proofs.machine.Core.put_base.Goals as goal

pub put_line-requires : goal.put_line-requires
put_line-requires c =
    let inside = c.self.inside in
    subst (λ (plan : Plan). HasNothingElsewhere plan (base_kept inside.checkpoint)) (sym c.plan.ensures.plan)
    c.self.invariant.0.within.elsewhere

pub returns-clause-line : goal.returns-clause-line
returns-clause-line c =
    let kept : Base = base_kept c.self.inside.checkpoint in
    let line : OnTrue c.put_line.result (Some c.put_line.new.into.items ≡ slice_get (base_texts c.self.inside.ports kept) c.args.i) =
    subst (λ (plan : Plan). OnTrue c.put_line.result (Some c.put_line.new.into.items ≡ slice_get (base_texts plan kept) c.args.i)) c.plan.ensures.plan c.put_line.ensures.line in
    subst (λ (m : Machine). OnTrue c.put_line.result (Some c.put_line.new.into.items ≡ slice_get (base_texts m.plan (base_of m)) c.args.i)) c.self.view_is line

pub returns-clause-past : goal.returns-clause-past
returns-clause-past c = λ none.
    let kept : Base = base_kept c.self.inside.checkpoint in
    let past : length (base_texts c.self.inside.ports kept) ≤ c.args.i = subst (λ (plan : Plan). length (base_texts plan kept) ≤ c.args.i) c.plan.ensures.plan (c.put_line.ensures.past none) in
    subst (λ (m : Machine). length (base_texts m.plan (base_of m)) ≤ c.args.i) c.self.view_is past

pub returns-clause-few : goal.returns-clause-few
returns-clause-few c = λ yes.
    let per_port : c.self.inside.ports.per_port ≤ 64 = c.self.invariant.0.valid.per_port.1 in
    let rows : c.self.inside.checkpoint.row_room ≡ 16 * c.self.inside.ports.per_port = c.self.invariant.8 in
    let stations : c.self.inside.checkpoint.station_room ≡ station_room c.self.inside.ports = c.self.invariant.9 in
    omega (arith, c.put_line.ensures.few yes, rows, stations, per_port, c.self.invariant.0.valid.vlan_count)
