-- The plan of a load: hosts at ports 1, 2 and 3, a router at port 4, a DHCPv6 server at port 5, all in VLAN 1.
use Rattle.std.specs.Prelude.{ℕ, ◌*◌, ◌+◌, ◌^◌, ◌≡◌, true, List, [], ◌∷◌, None, map, codes}
use Rattle.savi_kinds.specs.declared.plan.Plan.{Plan}
use Rattle.savi_kinds.specs.declared.plan.PortPlan.{PortPlan}
use Rattle.savi_kinds.specs.declared.plan.PrefixPlan.{PrefixPlan}
use Rattle.savi_kinds.specs.declared.plan.Role.{Role}
use Rattle.savi_kinds.specs.declared.plan.Role.TheVariants.{Host, Server, Trusted}
use Rattle.savi_kinds.specs.declared.plan.Format.{Format}
use Rattle.savi_kinds.specs.declared.plan.Format.TheVariants.{Pcap}
use Rattle.savi_kinds.specs.declared.plan.Vlan.{Vlan}
use Rattle.savi_kinds.specs.declared.plan.Vlan.TheVariants.{Access}
use Rattle.savi_kinds.specs.declared.plan.Method.{Method}
use Rattle.savi_kinds.specs.declared.plan.Method.TheVariants.{Fcfs, Dhcp, Mixed}
use Rattle.savi_kinds.specs.Ports.{number_of}

-- a port of the plan, by number
pub record SaidPort : Type 0 where
  pub number : ℕ
  pub role : Role
  pub format : Format
  pub input : List ℕ
  pub output : List ℕ
  pub vlan : Vlan

abbrev pub said : PortPlan → SaidPort
said p = record {
  number = number_of p.number;
  role = p.role;
  format = p.format;
  input = p.input;
  output = p.output;
  vlan = p.vlan;
}

-- an access port of VLAN 1 whose input and output are captures
abbrev pub captured : ℕ → Role → List ℕ → List ℕ → SaidPort
captured number role input output = record {
  number = number;
  role = role;
  format = Pcap;
  input = input;
  output = output;
  vlan = Access 1;
}

-- 2001:db8:N::/64, in VLAN 1
abbrev pub site : ℕ → Method → PrefixPlan
site n method = record {
  prefix = record { net = record { 0 = 0x20010db8 * 2 ^ 96 + n * 2 ^ 80 }; len = 64 };
  method = method;
  vlan = 1;
}

abbrev pub load_ports : List SaidPort
load_ports =
    captured 1 Host (codes "1.pcap") (codes "1.out")
    ∷ captured 2 Host (codes "2.pcap") (codes "2.out")
    ∷ captured 3 Host (codes "3.pcap") (codes "3.out")
    ∷ captured 4 Trusted (codes "4.pcap") (codes "4.out")
    ∷ captured 5 Server (codes "5.pcap") (codes "5.out")
    ∷ []

abbrev pub load_prefixes : List PrefixPlan
load_prefixes = site 1 Fcfs ∷ site 2 Dhcp ∷ site 3 Mixed ∷ []

-- Sources are validated, unknown next headers dropped. All numbers but that of the entries are those of a configuration that
-- names none.
pub record IsLoadPlan (plan : Plan) : Type 0 where
  pub mac : plan.mac ≡ record { 0 = 0x02 ∷ 0 ∷ 0 ∷ 0 ∷ 0 ∷ 0x01 ∷ [] }
  pub savi : plan.savi ≡ true
  pub drop_unknown : plan.drop_unknown ≡ true
  pub per_port : plan.per_port ≡ 32
  pub depth : plan.depth ≡ 256
  pub entries : plan.entries ≡ 1000000
  pub bytes : plan.bytes ≡ 67108864
  pub gap : plan.gap ≡ 250
  pub test : plan.test ≡ 500
  pub life : plan.life ≡ 300000
  pub control : plan.control ≡ None
  pub journal : plan.journal ≡ codes "journal.txt"
  pub ports : map said plan.ports ≡ load_ports
  pub prefixes : plan.prefixes ≡ load_prefixes
