-- A worked base and its lines, computed from the definitions.
use Rattle.std.proofs.Common.{◌≡◌, ◌+◌, ℕ, true, false, [], ◌∷◌, codes, map, refl, Some, None, arith}
use Rattle.std.specs.Fmt.{digits}
use Rattle.std.specs.Net.Text.{hex}
use Rattle.hex.specs.Hex.{encode_with}
use Rattle.savi_kinds.specs.AddrText.{spelling, groups_of}
use Rattle.savi_kinds.specs.declared.plan.Plan.{Plan}
use Rattle.savi_kinds.specs.declared.plan.Role.TheVariants as roles
use Rattle.savi_kinds.specs.declared.plan.Format.TheVariants as formats
use Rattle.savi_kinds.specs.declared.plan.Vlan.TheVariants.{Access}
use Rattle.savi_kinds.specs.declared.port.Port.{Port}
use Rattle.savi_kinds.specs.declared.entry.How.TheVariants as hows
use Rattle.savi_kinds.specs.declared.address.Mac.{Mac}
use Rattle.fcfs_states.specs.declared.state.Fcfs.TheVariants.{NoBind, Tentative, Valid, TestLt, TestVp}
use Rattle.mix_rules.specs.declared.state.AddrState.{AddrState}
use Rattle.savi_access.specs.declared.row.Row.{Row}
use Rattle.hist_store.specs.TextOfLines.{joined}
use Rattle.hist_store.proofs.OnePort.{the_port}
use Rattle.dhcp_states.specs.Requests.{request_of}
use Rattle.savi_access.specs.Rows.{address_row}
use Rattle.checkpoint.specs.Bases.{Base, empty}
use Rattle.checkpoint.specs.BaseLines.{base_texts, head_lines, column_lines}

abbrev one : Port
one = the_port 1 (omega arith) (omega arith)

abbrev two : Port
two = the_port 2 (omega arith) (omega arith)

abbrev four : Port
four = the_port 4 (omega arith) (omega arith)

-- ports 1, 2 and 4: passes 0 to 2, control and the ticker at 3 and 4, then 5 to 7
abbrev plan : Plan
plan = record {
  mac = record { 0 = 2 ∷ 0 ∷ 0 ∷ 0 ∷ 0 ∷ 1 ∷ [] };
  savi = true;
  drop_unknown = true;
  per_port = 32;
  depth = 256;
  entries = 4131;
  bytes = 67108864;
  gap = 250;
  test = 500;
  life = 300000;
  control = None;
  journal = [];
  ports = record { number = one; role = roles.Host; format = formats.Pcap; input = []; output = []; vlan = Access 1 }
      ∷ record { number = two; role = roles.Host; format = formats.Pcap; input = []; output = []; vlan = Access 1 }
      ∷ record { number = four; role = roles.Trusted; format = formats.Pcap; input = []; output = []; vlan = Access 1 } ∷ [];
  prefixes = [];
}

-- the last octet of an address of fe80::/64, and of a MAC address 02:00:00:00:00

abbrev local : ℕ → AddrState → Row
local low state = address_row (0xfe800000000000000000000000000000 + low) state

abbrev mac : ℕ → Mac
mac last = record { 0 = 2 ∷ 0 ∷ 0 ∷ 0 ∷ 0 ∷ last ∷ [] }

abbrev base : Base
base = record {
  is_start = false;
  moment = 123456;
  ended = (0, hows.Malformed 24) ∷ (3, hows.Quit) ∷ (4, hows.End) ∷ (7, hows.Failed) ∷ [];
  shut = 1 ∷ 4 ∷ [];
  stations = λ vlan. record { mac = mac 17; port = one; last = 2600 } ∷ record { mac = mac 254; port = four; last = 123456 } ∷ [];
  rows = λ vlan.
      address_row 0x20010db8000200000000000000000101 (record { fixed = None; fcfs = NoBind; dhcp = Some (record { p = one; until = None }) })
      ∷ address_row 0x20010db8000300000000000000000033 (record { fixed = None; fcfs = Valid one 301500; dhcp = Some (record { p = one; until = Some 722100 }) })
      ∷ local 17 (record { fixed = None; fcfs = Tentative one 123400 true; dhcp = None })
      ∷ local 18 (record { fixed = None; fcfs = TestLt two 123001 false; dhcp = None })
      ∷ local 19 (record { fixed = None; fcfs = TestVp one two 123000 true; dhcp = None })
      ∷ local 152 (record { fixed = Some two; fcfs = NoBind; dhcp = None }) ∷ [];
  requests = λ vlan.
      request_of two 658188 (0 ∷ 3 ∷ 0 ∷ 1 ∷ 2 ∷ 0 ∷ 0 ∷ 0 ∷ 0 ∷ 17 ∷ []) 2000
      ∷ request_of one 658188 (0 ∷ 3 ∷ 0 ∷ 1 ∷ 2 ∷ 0 ∷ 0 ∷ 0 ∷ 0 ∷ []) 3000
      ∷ request_of one 7 (0 ∷ 2 ∷ 9 ∷ []) 4000 ∷ [];
  counts = record { by_rule = 1 ∷ 2 ∷ 3 ∷ 4 ∷ 5 ∷ 6 ∷ 7 ∷ 8 ∷ 9 ∷ 10 ∷ 11 ∷ 12 ∷ 13 ∷ 14 ∷ 15 ∷ 16 ∷ 17 ∷ 18 ∷ 19 ∷ 20 ∷ 21 ∷ 22 ∷ 23 ∷ []; pass = 24; cut = 25; probes = 26; lost = 18446744073709551615 };
}

-- the moment, the ports that are shut, and the counts
pub first_lines : map joined (head_lines base) ≡
    codes "moment 123456"
    ∷ codes "shut 1,4"
    ∷ codes "count PortDown 1"
    ∷ codes "count Malformed 2"
    ∷ codes "count ReservedGroup 3"
    ∷ codes "count SourceMac 4"
    ∷ codes "count Tagged 5"
    ∷ codes "count BadIpv6 6"
    ∷ codes "count HiddenUpper 7"
    ∷ codes "count UnknownNextHeader 8"
    ∷ codes "count RouterAdvert 9"
    ∷ codes "count FragmentedNd 10"
    ∷ codes "count BadNd 11"
    ∷ codes "count Redirect 12"
    ∷ codes "count DhcpServer 13"
    ∷ codes "count UnspecifiedSource 14"
    ∷ codes "count OffLink 15"
    ∷ codes "count NotAssigned 16"
    ∷ codes "count PortFull 17"
    ∷ codes "count WrongPort 18"
    ∷ codes "count Unverified 19"
    ∷ codes "count Contested 20"
    ∷ codes "count NaTarget 21"
    ∷ codes "count PendingFull 22"
    ∷ codes "count DhcpContested 23"
    ∷ codes "count Pass 24"
    ∷ codes "count Cut 25"
    ∷ codes "count Probes 26"
    ∷ codes "count Lost 18446744073709551615" ∷ []
unfolding digits
first_lines = refl

-- addresses, requests by id and DUID, stations and passes
pub lines_behind : map joined (column_lines plan base) ≡
    codes "bound 2001:db8:2::101 1 -"
    ∷ codes "bound 2001:db8:3::33 1 722100"
    ∷ codes "fcfs 2001:db8:3::33 valid 1 301500"
    ∷ codes "fcfs fe80::11 tentative 1 123400 yes"
    ∷ codes "fcfs fe80::12 testing-lt 2 123001 no"
    ∷ codes "fcfs fe80::13 testing-vp 1 2 123000 yes"
    ∷ codes "fixed fe80::98 2"
    ∷ codes "request 1 1 7 000209 124000"
    ∷ codes "request 1 1 658188 000300010200000000 123000"
    ∷ codes "request 1 2 658188 00030001020000000011 122000"
    ∷ codes "station 02:00:00:00:00:11 1 2600"
    ∷ codes "station 02:00:00:00:00:fe 4 123456"
    ∷ codes "ended in1 malformed 24"
    ∷ codes "ended control quit"
    ∷ codes "ended ticker end"
    ∷ codes "ended out4 failed" ∷ []
unfolding digits spelling groups_of encode_with hex
lines_behind = refl

-- the start has none
pub start_has_none : base_texts plan empty ≡ []
start_has_none = refl
