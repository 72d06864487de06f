-- The words for the parts of a plan, in a configuration and in a journal.
use Rattle.std.specs.Prelude.{ℕ, List, codes, Bool, if◌then◌else◌}
use Rattle.savi_kinds.specs.declared.plan.Role.{Role}
use Rattle.savi_kinds.specs.declared.plan.Role.TheVariants.{Host, Server, Trusted}
use Rattle.savi_kinds.specs.declared.plan.Method.{Method}
use Rattle.savi_kinds.specs.declared.plan.Method.TheVariants.{Fcfs, Dhcp, Mixed}
use Rattle.savi_kinds.specs.declared.plan.Format.{Format}
use Rattle.savi_kinds.specs.declared.plan.Format.TheVariants.{Pcap, Stream}

abbrev pub role_word : Role → List ℕ
role_word Host = codes "host"
role_word Server = codes "server"
role_word Trusted = codes "trusted"

abbrev pub method_word : Method → List ℕ
method_word Fcfs = codes "fcfs"
method_word Dhcp = codes "dhcp"
method_word Mixed = codes "mixed"

abbrev pub format_word : Format → List ℕ
format_word Pcap = codes "pcap"
format_word Stream = codes "stream"

-- whether sources are validated
abbrev pub savi_word : Bool → List ℕ
savi_word savi = if savi then codes "on" else codes "off"

-- whether packets with an unknown next header are dropped
abbrev pub unknown_word : Bool → List ℕ
unknown_word drop_unknown = if drop_unknown then codes "drop" else codes "pass"
