-- What the header of a journal tells of a plan, in which way addresses are written.
use Rattle.std.specs.Prelude.{◌≡◌, ◌≢◌, ℕ, ◌^◌, ◌<◌, List, [], map, None, All}
use Rattle.savi_kinds.specs.declared.plan.Plan.{Plan}
use Rattle.savi_kinds.specs.declared.plan.PortPlan.{PortPlan}

-- the port, but for the names of its input and output
abbrev pub without_port_names : PortPlan → PortPlan
without_port_names port = record port { input = []; output = [] }

-- the plan, but for the names of its inputs and outputs, of which control may have none: all that is left stands in the
-- header of a journal
abbrev pub without_names : Plan → Plan
without_names plan = record plan { control = None; journal = []; ports = map without_port_names plan.ports }

-- 128 bits
abbrev pub IsAddress : ℕ → Type 0
IsAddress address = address < 2 ^ 128

-- A text for each IPv6 address, as that of RFC 5952: no two addresses have the same text, and it has neither a space, nor
-- a control character, nor the '/' that follows it in the text of a prefix.
pub record IsAddressText (address_text : ℕ → List ℕ) : Type 0 where
  pub graphic : (address : ℕ) → All (λ octet. 32 < octet) (address_text address)
  pub no_slash : (address : ℕ) → All (λ octet. octet ≢ 47) (address_text address)
  pub one_address : (a b : ℕ) → IsAddress a → IsAddress b → address_text a ≡ address_text b → a ≡ b
