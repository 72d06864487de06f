-- What a judgement leaves: the verdict on a frame, what is told, and the probes at the ports.
use Rattle.std.specs.Prelude.{◌≡◌, ℕ, ◌≤◌, Bool, Option, List, ◌++◌, map, fold}
use Rattle.savi_kinds.specs.declared.port.Port.{Port}
use Rattle.savi_kinds.specs.declared.verdict.Verdict.{Verdict}
use Rattle.frame_class.specs.declared.classes.Class.{Class}
use Rattle.savi_access.specs.Probes.{probes_between}
use Rattle.savi_access.specs.Rules.{AccessRules, AccessBase}
use Rattle.savi_access.specs.Marks.{Mark, told}
use Rattle.savi_history.specs.Marks.{judged_at}
use Rattle.savi_history.specs.Merges.{merged}
use Rattle.savi_history.specs.Offers.{Offer, offer_of, in_answer}
use Rattle.savi_core.specs.declared.vlan_set.VlanSet.{VlanSet}
use Rattle.savi_core.specs.VlanSets.{AllRepresent, vlans_of_sets}
use Rattle.savi_core.specs.Rings.{Rings, uncounted, rings_after_probe}

-- the probes of these VLANs that fall due behind one moment, up to another: by the moment at which they are due, then by VLAN,
-- then by address
abbrev pub due_between : AccessRules → AccessBase → List Mark → ℕ → ℕ → List ℕ → List Offer
due_between r base past from t vlans =
    merged (λ offer. offer.due) (map (λ vlan. map (offer_of vlan) (probes_between r.addresses base.addresses (told past) from t vlan)) vlans)

-- All states are aged to t, and the probes that fall due are offered, counted from 0 on. Then a frame of this VLAN, or of
-- none, and of this class at the port, which is shut or not, is judged, what it tells is told, and the probe that answers it
-- is offered behind the others.
pub record Judges (r : AccessRules) (from t : ℕ) (shut : Bool) (port : Port) (vlan : Option ℕ) (class : Class) (sets : List VlanSet) (old new : Rings) (verdict : Verdict) (base : AccessBase) (past : List Mark) : Type 0 where
  pub verdict_is : verdict ≡ (judged_at r base shut past port t vlan class).verdict
  pub states : AllRepresent r base (judged_at r base shut past port t vlan class).marks t sets
  pub probes : new ≡ fold rings_after_probe (uncounted old)
      (due_between r base past from t (vlans_of_sets sets) ++ in_answer vlan (judged_at r base shut past port t vlan class).probe)

-- All states are aged to t, and the probes that fall due are offered, counted from 0 on.
pub record Ages (r : AccessRules) (from t : ℕ) (sets : List VlanSet) (old new : Rings) (base : AccessBase) (past : List Mark) : Type 0 where
  pub states : AllRepresent r base past t sets
  pub probes : new ≡ fold rings_after_probe (uncounted old) (due_between r base past from t (vlans_of_sets sets))

-- The same up to some moment that isn't after t, without a new count.
pub record AgesUntil (r : AccessRules) (from t : ℕ) (sets : List VlanSet) (old new : Rings) (base : AccessBase) (past : List Mark) : Type 0 where
  pub until : ℕ
  pub behind : from ≤ until
  pub before : until ≤ t
  pub states : AllRepresent r base past until sets
  pub probes : new ≡ fold rings_after_probe old (due_between r base past from until (vlans_of_sets sets))
