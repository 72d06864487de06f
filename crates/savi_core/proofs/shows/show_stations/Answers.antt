use Rattle.std.proofs.Common.{ℕ, ◌≤◌, List, ◌++◌, map, ap, sym, subst, ◌∙◌, arith}
use Rattle.std.proofs.lemmas.List.{take_all}
use Rattle.bridge_fdb.specs.Stations.{live_at}
use Rattle.hist_store.specs.TextOfLines.{lines_text}
use Rattle.control_replies.specs.Replies.{end_text}
use Rattle.control_replies.specs.Shows.{station_fields}
use Rattle.savi_core.specs.declared.vlan_set.VlanSet.{VlanSet}
use Rattle.savi_core.specs.Shows.{station_lines, stations_told}
use Rattle.savi_core.specs.VlanSets.{of_sets}
use Rattle.savi_core.proofs.ShownSets.{live_of, stations_more}
use Rattle.savi_core.proofs.shows.show_stations.Goals as goal

pub put_stations-requires : goal.put_stations-requires
put_stations-requires c = record {
  vlan =
      subst (λ (v : ℕ). v ≤ 4094) (sym c.vlan.ensures)
      (subst (λ (s : VlanSet). s.access.vlan ≤ 4094) (sym c.set-item.is) (c.requires.vlans c.loop-set.set-index c.set-item.result c.loop-set-test.true));
  room = omega (arith, c.loop-set.invariant.size, c.loop-set-test.true, c.requires.few);
}

pub loop-set-preserved : goal.loop-set-preserved
loop-set-preserved c = record {
  text = stations_more c.args.sets.now c.loop-set.set-index c.set-item.result c.loop-set-test.true c.set-item.is c.loop-set.into c.put_stations.new.into c.args.t c.loop-set.invariant.text
      (c.put_stations.ensures.text ∙ ap (λ (v : ℕ). c.loop-set.into ++ station_lines v (live_at c.args.t c.set-item.result.fdb)) c.vlan.ensures);
  size = omega (arith, c.loop-set.invariant.size, c.put_stations.ensures.size);
}

pub put_end-requires : goal.put_end-requires
put_end-requires c = omega (arith, c.loop-set.invariant.size, c.requires.few)

pub returns : goal.returns
returns c =
    c.put_end.ensures.text
    ∙ ap (λ (text : List ℕ). text ++ end_text)
    (c.loop-set.invariant.text
    ∙ ap (λ (l : List VlanSet). lines_text (map station_fields (stations_told (of_sets (live_of c.args.t) l)))) (take_all c.loop-set.set-index c.args.sets.now (omega (arith, c.loop-set-test.false))))
