-- The texts of VLANs in a journal's header (IEEE 802.1Q): what the line of a port, and that of a prefix, has of them behind its
-- other fields. Where nothing is said, that is VLAN 1.
use Rattle.std.specs.Prelude.{ℕ, ◌≡◌, ◌<◌, ◌≤◌, ◌==◌, List, [], ◌∷◌, ◌++◌, All, length, map, codes, decimal, if◌then◌else◌}
use Rattle.std.specs.List.{join_with_byte}
use Rattle.std.specs.List.Sorted.{IsStrictlyIncreasing}
use Rattle.savi_kinds.specs.declared.plan.Vlan.{Vlan}
use Rattle.savi_kinds.specs.declared.plan.Vlan.TheVariants.{Access, Trunk}
use Rattle.savi_kinds.specs.Vlans.{IsVlan, numbers_of_vlan}
use Rattle.hist_store.specs.TextOfLines.{comma}

-- the numbers of VLANs with commas between
abbrev pub vlans_text : List ℕ → List ℕ
vlans_text numbers = join_with_byte comma (map decimal numbers)

-- what the line of a prefix has of its VLAN
abbrev pub vlan_fields : ℕ → List (List ℕ)
vlan_fields vlan = if vlan == 1 then [] else codes "vlan" ∷ decimal vlan ∷ []

-- what the line of a port has of its VLANs: the one of an access port, or those that a trunk lists
abbrev pub port_vlan_fields : Vlan → List (List ℕ)
port_vlan_fields (Access vlan) = vlan_fields vlan
port_vlan_fields (Trunk vlans) = codes "trunk" ∷ vlans_text vlans.items ∷ []

-- numbers with which the list of a trunk may begin: each is that of a VLAN, they rise, and there are at most 8
pub record BeginTrunk (numbers : List ℕ) : Type 0 where
  pub vlans : All IsVlan numbers
  pub rising : IsStrictlyIncreasing numbers
  pub few : length numbers ≤ 8

-- the VLANs that a port may have: one, or from 1 to 8 of a trunk
abbrev pub AreVlans : Vlan → Type 0
AreVlans vlan = BeginTrunk (numbers_of_vlan vlan) × (0 < length (numbers_of_vlan vlan))

-- the text is that of numbers, of which there are some; behind those before them they are all those of a trunk
pub record ListsBehind (before whole text : List ℕ) : Type 0 where
  pub more : List ℕ
  pub some : 0 < length more
  pub text_is : text ≡ vlans_text more
  pub whole_is : whole ≡ before ++ more
  pub trunk : BeginTrunk whole
