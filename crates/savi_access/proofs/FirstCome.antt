-- Who came first keeps an address, for frames.
use Rattle.std.proofs.Common.{◌≡◌, ◌≢◌, ℕ, ◌≤◌, ◌^◌, true, false, is_some, Some, None, List, [], ◌∷◌, ◌++◌, refl, sym, ap, ◌∙◌, subst, inl, inr, ◌⊎◌}
use Rattle.savi_kinds.specs.declared.port.Port.{Port}
use Rattle.savi_kinds.specs.declared.plan.Method.{Method}
use Rattle.savi_kinds.specs.declared.plan.Role.TheVariants as roles
use Rattle.savi_kinds.specs.Ports.{number_of}
use Rattle.eth_frame.specs.declared.header.Eth.{Eth}
use Rattle.v6_chain.specs.declared.packet.Ip.{Ip}
use Rattle.frame_class.specs.declared.classes.Class.TheVariants.{Ip6}
use Rattle.frame_class.specs.declared.classes.Read.{Read}
use Rattle.fcfs_states.specs.States.{Same}
use Rattle.mix_rules.specs.States.{IsSoundFor}
use Rattle.mix_rules.specs.Next.{IsPass}
use Rattle.mix_rules.proofs.EventLemmas.{one_port}
use Rattle.savi_access.specs.Rows.{state_in}
use Rattle.savi_access.specs.Keeps.{IsSoundBy}
use Rattle.savi_kinds.specs.Orders.{AreInTurn}
use Rattle.savi_access.specs.NamedMarks.{named_moment}
use Rattle.savi_access.specs.States.{state_at, IsLiveAfter}
use Rattle.savi_access.specs.FirstCome.{IsKeptOn}
use Rattle.savi_access.proofs.AddrFirstCome.{keeps}
use Rattle.savi_access.specs.Rules.{AccessRules, AccessBase, IsAccessBase}
use Rattle.savi_access.specs.Marks.{Mark, Told, Asked, Met, told, newest_moment}
use Rattle.savi_access.specs.Legal.{AreMarks}
use Rattle.savi_access.specs.Judged.{judged}
use Rattle.savi_access.specs.Access.{IsLiveHere, HasAccess, IsPermitted}
use Rattle.savi_access.proofs.Living.{lives_at}
use Rattle.savi_access.proofs.States.{times, none_some}
use Rattle.savi_access.proofs.Passing.{accessed}

told-append : (late early : List Mark) → told (late ++ early) ≡ told late ++ told early
told-append [] early = refl
told-append (Told named ∷ late) early = ap (λ l. named ∷ l) (told-append late early)
told-append (Asked vlan request ∷ late) early = told-append late early
told-append (Met vlan moment tid duid ∷ late) early = told-append late early

module _ (r : AccessRules) (base : AccessBase) (is : IsAccessBase r base) (vlan : ℕ) (q : Port) (t : ℕ) (soon : t ≤ 2 ^ 62) (late early : List Mark) (right : AreMarks r base (late ++ early)) (after : newest_moment base (late ++ early) ≤ t) (own : r.addresses.vlan_of (number_of q) ≡ Some vlan) (on : r.validates ≡ true) (off : r.addresses.method_of vlan 0 ≡ None) (host : r.role_of (number_of q) ≢ roles.Trusted) where
  pub keeps_first : (eth : Eth) (ip : Ip) (read : Read) (m : Method) → r.addresses.method_of vlan ip.src.0 ≡ Some m → (from t0 : ℕ) → AreInTurn named_moment from t0 (told early) → AreInTurn named_moment t0 t (told late) → (p : Port) → IsLiveAfter r.addresses base.addresses (told early) t0 vlan ip.src.0 p → ¬ Same q p
      → IsPass (Some (judged r base vlan q t (late ++ early) (Ip6 eth ip read)).verdict)
      → IsKeptOn r.addresses base.addresses m (told early) t0 (told late) t vlan ip.src.0 p
  keeps_first eth ip read m found from t0 turn_early turn_late p live apart passed =
      keeps r.addresses base.addresses (times r base is vlan q t soon) vlan ip.src.0 m found sound from t0 (told early) (told late) turn_early p live t turn_late
      (λ lives. apart (one_port_of (live_here (accessed_so.1.1)) (subst (λ l. IsLiveAfter r.addresses base.addresses l t vlan ip.src.0 p) (sym (told-append late early)) lives)))
    where
      accessed_so : HasAccess r base vlan q t (late ++ early) false (Ip6 eth ip read)
      accessed_so = (accessed r base is vlan q t soon (late ++ early) right after own on off (Ip6 eth ip read) host tt).0 passed

      sound : IsSoundFor m (state_in (base.addresses.rows vlan) ip.src.0)
      sound = subst (λ o. IsSoundBy o (state_in (base.addresses.rows vlan) ip.src.0)) found (is.addresses.sound vlan ip.src.0)

      live_here : IsLiveHere r base vlan q t (late ++ early) ip.src.0 ⊎ IsPermitted r base vlan q t (late ++ early) ip read → IsLiveHere r base vlan q t (late ++ early) ip.src.0
      live_here (inl lives) = lives
      live_here (inr permitted) = absurd (none_some (ap is_some (sym off ∙ ap (λ a. r.addresses.method_of vlan a) (sym permitted.0) ∙ found)))

      one_port_of : IsLiveHere r base vlan q t (late ++ early) ip.src.0 → IsLiveAfter r.addresses base.addresses (told (late ++ early)) t vlan ip.src.0 p → Same q p
      one_port_of here there = one_port (state_at r.addresses base.addresses (told (late ++ early)) t vlan ip.src.0) q p ((lives_at (state_at r.addresses base.addresses (told (late ++ early)) t vlan ip.src.0) q).0 here) there
