use Rattle.std.proofs.Common.{◌≡◌, ◌<◌, ◌++◌, ℕ, List, [], ◌∷◌, All, length, take, sym, ap, subst, ◌∙◌, arith}
use Rattle.std.proofs.lemmas.List.{map-append, take_more}
use Rattle.std.proofs.lemmas.List.Elements.{All-push}
use Rattle.savi_kinds.specs.declared.plan.Plan.{Plan}
use Rattle.savi_kinds.specs.Vlans.{vlans_of}
use Rattle.savi_access.specs.Plans.{rules_of}
use Rattle.savi_access.specs.Rules.{nothing_yet}
use Rattle.access_table.specs.Kept.{IsAgedTo, Represents}
use Rattle.savi_core.specs.declared.vlan_set.VlanSet.{VlanSet}
use Rattle.savi_core.specs.VlanSets.{AllRepresent, AreAgedTo, vlans_of_sets}
use Rattle.savi_core.proofs.vlan_set.make_sets.Goals as goal

pub loop-place-preserved : goal.loop-place-preserved
loop-place-preserved c =
    let r = rules_of c.args.ports.now in
    let vlans = vlans_of c.args.ports.now in
    let sets = c.loop-place.sets.items in
    let i = c.loop-place.place in
    let was = c.loop-place.invariant in
    let one : VlanSet = record { access = c.in_ok-make.field-0; fdb = c.in_ok-make-2.field-0 } in
    let more : c.push.new.self.items ≡ c.loop-place.sets.items ++ one ∷ [] = c.in_ok-push.ensures.items in
    let inside : c.loop-place.place < length (vlans_of c.args.ports.now) = omega (arith, c.loop-place-test.true, c.vlan_count-place-end.ensures.count) in
    let plan_is = c.plan.ensures.plan in
    record {
      vlans =
          ap vlans_of_sets more
          ∙ map-append (λ (s : VlanSet). s.access.vlan) sets (one ∷ [])
          ∙ ap (λ (vs : List ℕ). vs ++ c.in_ok-make.field-0.vlan ∷ []) was.vlans
          ∙ ap (λ (v : ℕ). take c.loop-place.place (vlans_of c.args.ports.now) ++ v ∷ []) (c.in_ok-make.ensures.vlan ∙ c.vlan_at.ensures.vlan)
          ∙ sym (take_more vlans i 0 inside);
      start =
          subst (AllRepresent (rules_of c.args.ports.now) nothing_yet [] 0) (sym more)
          (All-push (λ (s : VlanSet). Represents (rules_of c.args.ports.now) nothing_yet [] 0 s.access) sets one was.start
          (subst (λ (plan : Plan). Represents (rules_of plan) nothing_yet [] 0 c.in_ok-make.field-0) plan_is c.in_ok-make.ensures.start));
      ready = λ t.
          subst (AreAgedTo (rules_of c.args.ports.now) t) (sym more)
          (All-push (λ (s : VlanSet). IsAgedTo (rules_of c.args.ports.now) t s.access) sets one (was.ready t)
          (subst (λ (plan : Plan). IsAgedTo (rules_of plan) t c.in_ok-make.field-0) plan_is (c.in_ok-make.ensures.ready t)));
      unknown = subst (All (λ (s : VlanSet). s.fdb ≡ [])) (sym more) (All-push (λ (s : VlanSet). s.fdb ≡ []) sets one was.unknown c.in_ok-make-2.ensures);
    }
