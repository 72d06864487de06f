-- A plan with its names as numbers, of which no two plans have the same. Where a part may be longer or shorter, its length
-- stands in front.
use Rattle.std.specs.Prelude.{ℕ, Bool, true, false, List, [], ◌∷◌, ◌++◌, length, Option, Some, None}
use Rattle.savi_kinds.specs.declared.plan.Role.{Role}
use Rattle.savi_kinds.specs.declared.plan.Role.TheVariants.{Host, Server, Trusted}
use Rattle.savi_kinds.specs.declared.plan.Method.{Method}
use Rattle.savi_kinds.specs.declared.plan.Method.TheVariants.{Fcfs, Dhcp, Mixed}
use Rattle.savi_kinds.specs.declared.plan.Format.{Format}
use Rattle.savi_kinds.specs.declared.plan.Format.TheVariants.{Pcap, Stream}
use Rattle.savi_kinds.specs.declared.plan.Vlan.{Vlan}
use Rattle.savi_kinds.specs.declared.plan.Vlan.TheVariants.{Access, Trunk}
use Rattle.savi_kinds.specs.declared.plan.PortPlan.{PortPlan}
use Rattle.savi_kinds.specs.declared.plan.PrefixPlan.{PrefixPlan}
use Rattle.savi_kinds.specs.declared.plan.Plan.{Plan}
use Rattle.savi_kinds.specs.Ports.{number_of}

abbrev pub bit_code : Bool → List ℕ
bit_code false = 0 ∷ []
bit_code true = 1 ∷ []

-- a text, or other numbers
abbrev pub text_code : List ℕ → List ℕ
text_code text = length text ∷ text

abbrev pub each_code : {X : Type 0} → (X → List ℕ) → List X → List ℕ
each_code code [] = []
each_code code (x ∷ xs) = code x ++ each_code code xs

abbrev pub list_code : {X : Type 0} → (X → List ℕ) → List X → List ℕ
list_code code xs = length xs ∷ each_code code xs

abbrev pub role_number : Role → ℕ
role_number Host = 0
role_number Server = 1
role_number Trusted = 2

abbrev pub method_number : Method → ℕ
method_number Fcfs = 0
method_number Dhcp = 1
method_number Mixed = 2

abbrev pub format_number : Format → ℕ
format_number Pcap = 0
format_number Stream = 1

-- an access port's, or those that a trunk lists
abbrev pub vlan_code : Vlan → List ℕ
vlan_code (Access v) = 0 ∷ v ∷ []
vlan_code (Trunk vs) = 1 ∷ text_code vs.items

abbrev pub port_code : PortPlan → List ℕ
port_code p =
    number_of p.number ∷ role_number p.role ∷ format_number p.format
    ∷ (text_code p.input ++ (text_code p.output ++ vlan_code p.vlan))

abbrev pub prefix_code : PrefixPlan → List ℕ
prefix_code p = p.prefix.net.0 ∷ p.prefix.len ∷ method_number p.method ∷ p.vlan ∷ []

abbrev pub names_code : Option (List ℕ × List ℕ) → List ℕ
names_code None = 0 ∷ []
names_code (Some names) = 1 ∷ (text_code names.0 ++ text_code names.1)

abbrev pub plan_code : Plan → List ℕ
plan_code plan =
    plan.per_port ∷ plan.depth ∷ plan.entries ∷ plan.bytes ∷ plan.gap ∷ plan.test ∷ plan.life
    ∷ (bit_code plan.savi ++ (bit_code plan.drop_unknown ++ (text_code plan.mac.0 ++ (names_code plan.control
    ++ (text_code plan.journal ++ (list_code port_code plan.ports ++ list_code prefix_code plan.prefixes))))))
