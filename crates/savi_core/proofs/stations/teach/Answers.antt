use Rattle.std.proofs.Common.{◌≡◌, ◌==◌, ◌<◌, if◌then◌else◌, Bool, Option, Some, IfSome, ℕ, List, get_or, length, sym, refl, ap, subst, ◌∙◌}
use Rattle.std.proofs.lemmas.List.{get_or_default}
use Rattle.savi_kinds.specs.declared.verdict.Verdict.{Verdict}
use Rattle.frame_class.specs.Classes.{eth_of}
use Rattle.bridge_fdb.specs.declared.station.Station.{Station}
use Rattle.bridge_fdb.specs.Stations.{live_at}
use Rattle.savi_history.specs.Stations.{taught}
use Rattle.savi_core.specs.declared.vlan_set.VlanSet.{VlanSet}
use Rattle.savi_core.specs.Origins.{teaches_at}
use Rattle.savi_core.specs.VlanSets.{fdb_at}
use Rattle.savi_core.proofs.SetLoops.{learned_at, tables_at}
use Rattle.savi_core.proofs.stations.teach.Goals as goal

pub returns-in-Some-Pass-clause-access : goal.returns-in-Some-Pass-clause-access
returns-in-Some-Pass-clause-access c =
    let sets = c.args.sets.now in
    let place = c.in-Some-Pass.set in
    let here : VlanSet = get_or c.args.sets.now c.in-Some-Pass.set c.index-sets-set.result in
    let within : c.in-Some-Pass.set < length c.args.sets.now = subst (λ (set : Option ℕ). IfSome set (λ s. s < length c.args.sets.now)) c.in-Some-Pass.is-0 c.requires.within in
    tables_at sets place here (record here { fdb = c.learn.new.fdb }) (get_or_default sets place c.index-sets-set.result here within) refl

pub returns-in-Some-Pass-clause-taught : goal.returns-in-Some-Pass-clause-taught
returns-in-Some-Pass-clause-taught c = λ place inside.
    let sets = c.args.sets.now in
    let here : VlanSet = get_or c.args.sets.now c.in-Some-Pass.set c.index-sets-set.result in
    let learn : List Station → List Station = taught c.args.origin.port c.args.t (eth_of c.args.class.now) in
    let within : c.in-Some-Pass.set < length c.args.sets.now = subst (λ (set : Option ℕ). IfSome set (λ s. s < length c.args.sets.now)) c.in-Some-Pass.is-0 c.requires.within in
    let does : teaches_at c.args.origin.set c.args.verdict place ≡ (c.in-Some-Pass.set == place) =
    ap (λ (set : Option ℕ). teaches_at set c.args.verdict place) c.in-Some-Pass.is-0 ∙ ap (λ (verdict : Verdict). teaches_at (Some c.in-Some-Pass.set) verdict place) c.in-Some-Pass.is-1 in
    learned_at sets c.in-Some-Pass.set here (record here { fdb = c.learn.new.fdb }) c.args.t learn within (get_or_default sets c.in-Some-Pass.set c.index-sets-set.result here within) c.learn.ensures place
    ∙ ap (λ (b : Bool). if b then taught c.args.origin.port c.args.t (eth_of c.args.class.now) (live_at c.args.t (fdb_at c.args.sets.now place)) else live_at c.args.t (fdb_at c.args.sets.now place)) (sym does)
