-- By what the VLANs are kept apart: keys of addresses and ids of clients are of one VLAN each.
use Rattle.std.specs.Prelude.{ℕ, ◌≡◌, ◌<◌, ◌^◌}
use Rattle.v4_snoop.specs.Leased.{v4_key}
use Rattle.v4_snoop.specs.Following.{client_id}

-- no two addresses in VLANs have one key
abbrev pub HaveOwnKeys : Type 0
HaveOwnKeys = (vlan address vlan' address' : ℕ) → address < 2 ^ 32 → address' < 2 ^ 32 → v4_key vlan address ≡ v4_key vlan' address' → (vlan ≡ vlan') × (address ≡ address')

-- no two clients in VLANs, with hardware addresses of 48 bits, have one id
abbrev pub HaveOwnIds : Type 0
HaveOwnIds = (vlan mac vlan' mac' : ℕ) → vlan < 2 ^ 16 → vlan' < 2 ^ 16 → mac < 2 ^ 48 → mac' < 2 ^ 48 → client_id vlan mac ≡ client_id vlan' mac' → (vlan ≡ vlan') × (mac ≡ mac')
