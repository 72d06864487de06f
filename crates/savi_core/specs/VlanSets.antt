-- What a core keeps of each VLAN of its plan: a set of its own, in rising order of VLAN.
use Rattle.std.specs.Prelude.{◌≡◌, ℕ, ◌==◌, if◌then◌else◌, Option, None, List, [], ◌∷◌, map, slice_index_or, All}
use Rattle.std.specs.List.{flat_map}
use Rattle.std.specs.Option.{option_map}
use Rattle.savi_kinds.specs.declared.plan.Plan.{Plan}
use Rattle.savi_kinds.specs.Vlans.{vlans_of}
use Rattle.bridge_fdb.specs.declared.station.Station.{Station}
use Rattle.dhcp_states.specs.declared.request.Request.{Request}
use Rattle.mix_rules.specs.Ageing.{sooner_moment}
use Rattle.savi_access.specs.declared.row.Row.{Row}
use Rattle.savi_access.specs.Ages.{aged_rows, AllStill}
use Rattle.savi_access.specs.Sends.{sends}
use Rattle.savi_access.specs.Rules.{AccessRules, AccessBase}
use Rattle.savi_access.specs.Marks.{Mark}
use Rattle.addr_table.specs.Addresses.{Addresses}
use Rattle.addr_table.specs.Dues.{first_due}
use Rattle.access_table.specs.Kept.{Represents, IsAgedTo}
use Rattle.savi_core.specs.declared.vlan_set.VlanSet.{VlanSet}

-- the VLANs of sets, in order
abbrev pub vlans_of_sets : List VlanSet → List ℕ
vlans_of_sets sets = map (λ set. set.access.vlan) sets

-- the VLAN at a place among those of a plan
abbrev pub vlan_at_place : Plan → ℕ → ℕ
vlan_at_place plan place = slice_index_or (vlans_of plan) place 0

-- the same, where there is a place
abbrev pub vlan_of_place : Plan → Option ℕ → Option ℕ
vlan_of_place plan place = option_map (vlan_at_place plan) place

-- the stations that are kept of the VLAN at a place
abbrev pub fdb_at : List VlanSet → ℕ → List Station
fdb_at sets place = slice_index_or (map (λ set. set.fdb) sets) place []

-- the addresses of a VLAN that have a state, and its requests: none where there is no set of it
abbrev pub rows_by_vlan : List VlanSet → ℕ → List Row
rows_by_vlan [] vlan = []
rows_by_vlan (set ∷ sets) vlan = if set.access.vlan == vlan then set.access.addresses.rows else rows_by_vlan sets vlan

abbrev pub requests_in : List VlanSet → ℕ → List Request
requests_in [] vlan = []
requests_in (set ∷ sets) vlan = if set.access.vlan == vlan then set.access.requests else requests_in sets vlan

-- what each VLAN has, with the VLAN, one VLAN behind the other
abbrev pub of_sets : {A : Type 0} → (VlanSet → List A) → List VlanSet → List (ℕ × A)
of_sets has sets = flat_map (λ set. map (λ a. (set.access.vlan, a)) (has set)) sets

-- the moment at which something is due first in any VLAN
abbrev pub first_due_of : List VlanSet → Option ℕ
first_due_of [] = None
first_due_of (set ∷ sets) = sooner_moment (first_due set.access.addresses.times set.access.addresses.rows) (first_due_of sets)

-- the states of addresses aged to t
abbrev pub aged_addresses : ℕ → Addresses → List Row
aged_addresses t addresses = aged_rows addresses.times t addresses.rows

-- nothing is due in the state of any address of a VLAN at t
abbrev pub IsStillAt : ℕ → VlanSet → Type 0
IsStillAt t set = AllStill set.access.addresses.times t set.access.addresses.rows

-- nothing is due in a VLAN at or before t
pub record IsQuietAt (t : ℕ) (set : VlanSet) : Type 0 where
  pub unchanged : aged_addresses t set.access.addresses ≡ set.access.addresses.rows
  pub silent : sends set.access.addresses.times t set.access.addresses.rows ≡ []
  pub still : AllStill set.access.addresses.times t set.access.addresses.rows

-- the sets stand for what was told since a base, each for that of its VLAN, at this moment
abbrev pub AllRepresent : AccessRules → AccessBase → List Mark → ℕ → List VlanSet → Type 0
AllRepresent r base past t sets = All (λ set. Represents r base past t set.access) sets

-- all states are aged to t
abbrev pub AreAgedTo : AccessRules → ℕ → List VlanSet → Type 0
AreAgedTo r t sets = All (λ set. IsAgedTo r t set.access) sets

-- the same VLANs, and the same is known of stations
abbrev pub stations_of_sets : List VlanSet → List (ℕ × List Station)
stations_of_sets sets = map (λ set. (set.access.vlan, set.fdb)) sets
