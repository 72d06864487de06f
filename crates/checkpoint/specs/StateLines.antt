-- The lines of the state of an address: where it is fixed, where DHCPv6 bound it (RFC 7513), and what first come, first
-- served (RFC 6620) says of it.
use Rattle.std.specs.Prelude.{ℕ, ◌==◌, Bool, if◌then◌else◌, List, [], ◌∷◌, ◌++◌, codes, decimal, Option, Some, None}
use Rattle.savi_kinds.specs.declared.port.Port.{Port}
use Rattle.savi_kinds.specs.AddrText.{addr_text}
use Rattle.fcfs_states.specs.declared.state.Fcfs.{Fcfs}
use Rattle.fcfs_states.specs.declared.state.Fcfs.TheVariants.{NoBind, Tentative, Valid, TestLt, TestVp}
use Rattle.dhcp_states.specs.declared.bound.Bound.{Bound}
use Rattle.savi_access.specs.declared.row.Row.{Row}
use Rattle.hist_store.specs.PortTexts.{port_text}
use Rattle.control_replies.specs.Bindings.{until_text}

-- the key of an address in a VLAN: its text, and `@` with the VLAN behind it where that isn't the first one
abbrev pub text_in_vlan : List ℕ → ℕ → List ℕ
text_in_vlan text vlan = if vlan == 1 then text else text ++ codes "@" ++ decimal vlan

-- whether the second probe is still to come
abbrev pub two_text : Bool → List ℕ
two_text two = if two then codes "yes" else codes "no"

abbrev pub fixed_line : List ℕ → Port → List (List ℕ)
fixed_line key port = codes "fixed" ∷ key ∷ port_text port ∷ []

-- with the moment (ms) at which the binding ends, or `-` where it doesn't end
abbrev pub bound_line : List ℕ → Bound → List (List ℕ)
bound_line key bound = codes "bound" ∷ key ∷ port_text bound.p ∷ until_text bound.until ∷ []

-- with the moment (ms) since which a claim or a test stands, and whether its second probe is still to come; without a state
-- there are no fields
abbrev pub fcfs_line : List ℕ → Fcfs → List (List ℕ)
fcfs_line key NoBind = []
fcfs_line key (Tentative p since two) = codes "fcfs" ∷ key ∷ codes "tentative" ∷ port_text p ∷ decimal since ∷ two_text two ∷ []
fcfs_line key (Valid p until) = codes "fcfs" ∷ key ∷ codes "valid" ∷ port_text p ∷ decimal until ∷ []
fcfs_line key (TestLt p since two) = codes "fcfs" ∷ key ∷ codes "testing-lt" ∷ port_text p ∷ decimal since ∷ two_text two ∷ []
fcfs_line key (TestVp p q since two) = codes "fcfs" ∷ key ∷ codes "testing-vp" ∷ port_text p ∷ port_text q ∷ decimal since ∷ two_text two ∷ []

abbrev pub fixed_lines : List ℕ → Option Port → List (List (List ℕ))
fixed_lines key None = []
fixed_lines key (Some port) = fixed_line key port ∷ []

abbrev pub binding_base_lines : List ℕ → Option Bound → List (List (List ℕ))
binding_base_lines key None = []
binding_base_lines key (Some bound) = bound_line key bound ∷ []

abbrev pub claim_base_lines : List ℕ → Fcfs → List (List (List ℕ))
claim_base_lines key NoBind = []
claim_base_lines key (Tentative p since two) = fcfs_line key (Tentative p since two) ∷ []
claim_base_lines key (Valid p until) = fcfs_line key (Valid p until) ∷ []
claim_base_lines key (TestLt p since two) = fcfs_line key (TestLt p since two) ∷ []
claim_base_lines key (TestVp p q since two) = fcfs_line key (TestVp p q since two) ∷ []

-- the lines of an address in its VLAN
abbrev pub state_base_lines : ℕ × Row → List (List (List ℕ))
state_base_lines p =
    fixed_lines (text_in_vlan (addr_text p.1.address) p.0) p.1.state.fixed
    ++ binding_base_lines (text_in_vlan (addr_text p.1.address) p.0) p.1.state.dhcp
    ++ claim_base_lines (text_in_vlan (addr_text p.1.address) p.0) p.1.state.fcfs
