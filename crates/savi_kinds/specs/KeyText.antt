-- The texts of an address, and of a MAC address, in a VLAN: what stands for VLAN 1 is the address alone, and in another VLAN
-- '@' and the number of the VLAN stand behind it.
use Rattle.std.specs.Prelude.{ℕ, ◌≡◌, ◌==◌, ◌≤◌, List, [], ◌∷◌, ◌++◌, decimal, if◌then◌else◌}
use Rattle.savi_kinds.specs.declared.address.Addr.{Addr}
use Rattle.savi_kinds.specs.declared.address.Mac.{Mac}
use Rattle.savi_kinds.specs.AddrText.{IsAddrText, addr_text}
use Rattle.savi_kinds.specs.MacText.{mac_text}
use Rattle.savi_kinds.specs.Vlans.{IsVlan}

-- '@'
abbrev pub at_sign : ℕ
at_sign = 64

-- what stands behind an address of this VLAN
abbrev pub vlan_suffix : ℕ → List ℕ
vlan_suffix vlan = if vlan == 1 then [] else at_sign ∷ decimal vlan

-- the text writes this address in this VLAN
pub record IsKeyText (text : List ℕ) (vlan : ℕ) (a : Addr) : Type 0 where
  pub address : List ℕ
  pub written : IsAddrText address a
  pub number : IsVlan vlan
  pub spelled : text ≡ address ++ vlan_suffix vlan

-- the number of a VLAN other than 1, in decimal without a leading zero
abbrev pub IsVidText : List ℕ → ℕ → Type 0
IsVidText text vlan = (text ≡ decimal vlan) × (2 ≤ vlan) × (vlan ≤ 4094)

-- the text that is written of an address in a VLAN, and that of a MAC address
abbrev pub key_text : ℕ → Addr → List ℕ
key_text vlan a = addr_text a ++ vlan_suffix vlan

abbrev pub mac_key_text : ℕ → Mac → List ℕ
mac_key_text vlan mac = mac_text mac ++ vlan_suffix vlan
