-- Where a frame goes, by what a core keeps of stations; and that one which goes anywhere has a header.
use Rattle.std.proofs.Common.{◌≡◌, ℕ, zero, suc, ◌<◌, ◌≤◌, ◌&&◌, not, Bool, true, false, All, Option, Some, None, IfSome, is_none, List, length, refl, sym, ap, ◌∙◌, inl, inr, arith}
use Rattle.std.specs.Prelude.{reverse}
use Rattle.std.proofs.lemmas.Bool.{cases_lt, false≢true}
use Rattle.savi_kinds.specs.declared.plan.Plan.{Plan}
use Rattle.savi_kinds.specs.declared.plan.Role.{Role}
use Rattle.savi_kinds.specs.declared.plan.Role.TheVariants as roles
use Rattle.savi_kinds.specs.declared.port.Port.{Port}
use Rattle.savi_kinds.specs.declared.port.PortSet.{PortSet}
use Rattle.savi_kinds.specs.declared.verdict.Verdict.{Verdict}
use Rattle.savi_kinds.specs.declared.verdict.Verdict.TheVariants.{Pass, Drop}
use Rattle.savi_kinds.specs.Ports.{number_of}
use Rattle.savi_kinds.specs.PortSets.{is_member, no_ports}
use Rattle.savi_kinds.specs.Vlans.{vlans_of}
use Rattle.eth_frame.specs.Tags.{inner}
use Rattle.eth_frame.proofs.Untagged.{inner_short}
use Rattle.frame_class.specs.declared.classes.Class.{Class}
use Rattle.frame_class.specs.declared.classes.Class.TheVariants.{Runt, Tagged, Other, BadIp, Ip6}
use Rattle.frame_class.specs.Reading.{IsClassOf}
use Rattle.frame_class.specs.Classes.{eth_of}
use Rattle.ra_guard.specs.GuardOf.{guard_of}
use Rattle.savi_access.specs.Rules.{AccessRules, AccessBase}
use Rattle.savi_access.specs.Marks.{Mark}
use Rattle.savi_history.specs.Passes.{has_port}
use Rattle.savi_history.specs.ShutPorts.{is_shut}
use Rattle.savi_history.specs.Marks.{judged_at}
use Rattle.savi_history.specs.Outs.{outs, outs_by, without_shut}
use Rattle.savi_history.specs.Summary.{is_pass}
use Rattle.savi_history.proofs.FrameVlans.{untold_drops}
use Rattle.savi_history.proofs.Guarded.{stopped-not_pass}
use Rattle.savi_core.specs.declared.vlan_set.VlanSet.{VlanSet}
use Rattle.savi_core.specs.VlanSets.{vlan_at_place, vlan_of_place, vlans_of_sets}
use Rattle.savi_core.specs.Origins.{known_at, outs_from}
use Rattle.savi_core.specs.Knows.{Knows}
use Rattle.savi_core.specs.Remembers.{CoreState, Remembers}
use Rattle.savi_core.proofs.Knowing.{place_is}
use Rattle.savi_core.proofs.Members.{none_in, same_members}
use Rattle.savi_core.proofs.Shutting.{open_outs}

-- a frame goes to these ports where none of them is shut
abbrev pub AreOpen : PortSet → (ℕ → Bool) → PortSet → Type 0
AreOpen to shut left = (n : ℕ) → 1 ≤ n → is_member left n ≡ (is_member to n && not (shut n))

module _ {k : CoreState} (was : Remembers k) (sets : List VlanSet) (know : All (Knows k.plan k.base (reverse k.rows) k.moment) sets) (vlans : vlans_of_sets sets ≡ vlans_of k.plan) where
  -- they are the history's
  pub goes : (set : Option ℕ) → IfSome set (λ s. s < length (vlans_of k.plan)) → (port t : ℕ) → k.moment ≤ t → (class : Class) (octets : List ℕ) → IsClassOf (inner octets) class → (verdict : Verdict) (left : PortSet) (shut : ℕ → Bool)
      → shut ≡ (λ number. is_shut k.plan k.base number (reverse k.rows)) → ((n : ℕ) → 1 ≤ n → is_member left n ≡ true → has_port k.plan n ≡ true)
      → AreOpen (outs_from k.plan (vlan_of_place k.plan set) port (known_at sets set t (eth_of class)) verdict) shut left
      → left ≡ outs (vlan_of_place k.plan set) k.plan k.base (reverse k.rows) port t octets verdict
  goes None within port t later class octets is verdict left shut shut_is known members =
      same_members left no_ports (λ n least. members n least ∙ ap (λ (b : Bool). b && not (shut n)) (none_in n) ∙ sym (none_in n))
  goes (Some s) within port t later class octets is verdict left shut shut_is known members =
      let vlan : ℕ = vlan_at_place k.plan s in
      let to : PortSet = outs_by vlan k.plan port (known_at sets (Some s) t (eth_of class)) verdict in
      open_outs k.plan k.base (reverse k.rows) to left known (λ n least. members n least ∙ ap (λ (by : ℕ → Bool). is_member to n && not (by n)) shut_is)
      ∙ ap (λ (of : Option Port). without_shut k.plan k.base (reverse k.rows) (outs_by vlan k.plan port of verdict)) (place_is was sets know vlans s within t class octets later is)

-- a frame without a header is a runt, which no port lets pass

runt_of : (octets : List ℕ) (class : Class) → IsClassOf (inner octets) class → length octets < 14 → class ≡ Runt
runt_of octets Runt is short = refl
runt_of octets (Tagged eth) is short = absurd (omega (arith, is.0.long, inner_short octets, short))
runt_of octets (Other eth) is short = absurd (omega (arith, is.0.long, inner_short octets, short))
runt_of octets (BadIp eth) is short = absurd (omega (arith, is.0.long, inner_short octets, short))
runt_of octets (Ip6 eth ip read) is short = absurd (omega (arith, is.0.long, inner_short octets, short))

pub runt_stopped : (role : Role) (drop_unknown : Bool) → is_none (guard_of role drop_unknown Runt) ≡ false
unfolding guard_of
runt_stopped roles.Host drop_unknown = refl
runt_stopped roles.Server drop_unknown = refl
runt_stopped roles.Trusted drop_unknown = refl

runt_drops : (r : AccessRules) (base : AccessBase) (shut : Bool) (told : List Mark) (port : Port) (t : ℕ) (vlan : Option ℕ) → is_pass (Some (judged_at r base shut told port t vlan Runt).verdict) ≡ false
runt_drops r base true told port t vlan = refl
runt_drops r base false told port t (Some vlan) = stopped-not_pass r base vlan port t told Runt (runt_stopped (r.role_of (number_of port)) r.drop_unknown)
runt_drops r base false told port t None = untold_drops told (guard_of roles.Trusted r.drop_unknown Runt)

none_out : (plan : Plan) (vlan : Option ℕ) (port : ℕ) (known : Option Port) (verdict : Verdict) → is_pass (Some verdict) ≡ false → outs_from plan vlan port known verdict ≡ no_ports
none_out plan None port known verdict drops = refl
none_out plan (Some vlan) port known (Pass scope) drops = absurd (false≢true (sym drops))
none_out plan (Some vlan) port known (Drop rule) drops = refl

pub whole : (r : AccessRules) (base : AccessBase) (shut : Bool) (told : List Mark) (port : Port) (t : ℕ) (vlan : Option ℕ) (class : Class) (octets : List ℕ) (verdict : Verdict) → IsClassOf (inner octets) class → verdict ≡ (judged_at r base shut told port t vlan class).verdict
    → (plan : Plan) (number : ℕ) (known : Option Port) (by : ℕ → Bool) (left : PortSet) → AreOpen (outs_from plan vlan number known verdict) by left → (n : ℕ) → is_member left n ≡ true → 14 ≤ length octets
whole r base shut told port t vlan class octets verdict is verdict_is plan number known by left members n there =
    elim (cases_lt (length octets) 14) [
      | inl short ↦
          let drops : is_pass (Some verdict) ≡ false =
          ap (λ (v : Verdict). is_pass (Some v)) verdict_is
          ∙ ap (λ (c : Class). is_pass (Some (judged_at r base shut told port t vlan c).verdict)) (runt_of octets class is short)
          ∙ runt_drops r base shut told port t vlan in
          let to_none : outs_from plan vlan number known verdict ≡ no_ports = none_out plan vlan number known verdict drops in
          let none : (m : ℕ) → 1 ≤ m → is_member left m ≡ false = λ m least. members m least ∙ ap (λ (to : PortSet). is_member to m && not (by m)) to_none ∙ ap (λ (b : Bool). b && not (by m)) (none_in m) in
          absurd (false≢true (sym (at none n) ∙ there))
      | inr long ↦ omega (arith, long)
    ]
  where
    -- a set has the number 0 where it has the number 1
    at : ((m : ℕ) → 1 ≤ m → is_member left m ≡ false) → (m : ℕ) → is_member left m ≡ false
    at none zero = none 1 (omega arith)
    at none (suc m) = none (suc m) (omega arith)
