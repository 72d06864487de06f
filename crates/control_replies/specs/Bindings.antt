-- What `show bindings` prints: for each address of each VLAN its lines, the one of DHCPv6 (RFC 7513) before the one of first
-- come, first served (RFC 6620); an address that the operator has fixed (`static`) has one line.
use Rattle.std.specs.Prelude.{ℕ, ◌+◌, ◌^◌, ◌≤◌, List, [], ◌∷◌, ◌++◌, codes, decimal, Option, Some, None}
use Rattle.savi_kinds.specs.declared.address.Addr.{Addr}
use Rattle.savi_kinds.specs.declared.port.Port.{Port}
use Rattle.savi_kinds.specs.KeyText.{key_text}
use Rattle.fcfs_states.specs.declared.times.Times.{Times}
use Rattle.fcfs_states.specs.declared.state.Fcfs.{Fcfs}
use Rattle.fcfs_states.specs.declared.state.Fcfs.TheVariants.{NoBind, Tentative, Valid, TestLt, TestVp}
use Rattle.fcfs_states.specs.Premises.{AreMomentsBelow}
use Rattle.dhcp_states.specs.declared.bound.Bound.{Bound}
use Rattle.mix_rules.specs.Ageing.{bound_end}
use Rattle.mix_rules.specs.Premises.{IsMomentBelow}
use Rattle.savi_access.specs.declared.row.Row.{Row}
use Rattle.hist_store.specs.TextOfLines.{lines_text}
use Rattle.hist_store.specs.PortTexts.{port_text}
use Rattle.control_replies.specs.Replies.{end_text}

-- the port that claims an address which another port holds, or `-`
abbrev pub claimant_text : Option Port → List ℕ
claimant_text (Some q) = port_text q
claimant_text None = codes "-"

-- the moment (ms) at which a state ends, or `-`
abbrev pub until_text : Option ℕ → List ℕ
until_text (Some moment) = decimal moment
until_text None = codes "-"

-- the fields of a line: the key of the address in its VLAN, its port, the word for its state, the claimant, and when the
-- state ends
abbrev pub binding_fields : ℕ → Addr → Port → List ℕ → Option Port → Option ℕ → List (List ℕ)
binding_fields vlan address port state claimant until =
    key_text vlan address ∷ port_text port ∷ state ∷ claimant_text claimant ∷ until_text until ∷ []

-- by first come, first served; a claim or a test ends when its time has passed
abbrev pub fcfs_lines : Times → ℕ → Addr → Fcfs → List (List (List ℕ))
fcfs_lines times vlan address NoBind = []
fcfs_lines times vlan address (Tentative p since two) =
    binding_fields vlan address p (codes "tentative") None (Some (since + times.test)) ∷ []
fcfs_lines times vlan address (Valid p until) = binding_fields vlan address p (codes "valid") None (Some until) ∷ []
fcfs_lines times vlan address (TestLt p since two) =
    binding_fields vlan address p (codes "testing-lt") None (Some (since + times.test)) ∷ []
fcfs_lines times vlan address (TestVp p q since two) =
    binding_fields vlan address p (codes "testing-vp") (Some q) (Some (since + times.test)) ∷ []

-- by DHCPv6
abbrev pub bound_lines : ℕ → Addr → Option Bound → List (List (List ℕ))
bound_lines vlan address (Some bound) = binding_fields vlan address bound.p (codes "bound") None bound.until ∷ []
bound_lines vlan address None = []

-- by the methods together; by configuration the address is at its port alone, and without an end
abbrev pub state_lines : Times → ℕ → Addr → Option Port → Fcfs → Option Bound → List (List (List ℕ))
state_lines times vlan address (Some port) fcfs dhcp = binding_fields vlan address port (codes "static") None None ∷ []
state_lines times vlan address None fcfs dhcp = bound_lines vlan address dhcp ++ fcfs_lines times vlan address fcfs

-- the lines of an address in its VLAN
abbrev pub binding_lines : Times → ℕ × Row → List ℕ
binding_lines times p = lines_text (state_lines times p.0 p.1.address p.1.state.fixed p.1.state.fcfs p.1.state.dhcp)

-- the lines of all addresses, each with its VLAN, in the order of the rows
abbrev pub all_binding_lines : Times → List (ℕ × Row) → List ℕ
all_binding_lines times [] = []
all_binding_lines times (p ∷ rows) = binding_lines times p ++ all_binding_lines times rows

abbrev pub bindings_text : Times → List (ℕ × Row) → List ℕ
bindings_text times rows = all_binding_lines times rows ++ end_text

-- a VLAN has a number that it may have (IEEE 802.1Q), and each moment of a row is a number of 64 bits, as the code has them
pub record IsStored (p : ℕ × Row) : Type 0 where
  pub vlan : p.0 ≤ 4094
  pub fcfs : AreMomentsBelow (2 ^ 64) p.1.state.fcfs
  pub dhcp : IsMomentBelow (2 ^ 64) (bound_end p.1.state.dhcp)
