-- What a command is answered on control: why it is refused; `ok`; or, for a `show`, what the switch knows. A command is
-- refused by what stood before its entry; a `show` reads the history with the entry and the probes that fell due by then.
-- Addresses and stations are shown by VLAN, the least first.
use Rattle.std.specs.Prelude.{ℕ, List, [], ◌∷◌, length, map, Option, Some, None, Result, Ok, Err}
use Rattle.std.specs.List.{flat_map}
use Rattle.savi_kinds.specs.declared.address.Mac.{Mac}
use Rattle.savi_kinds.specs.declared.port.Port.{Port}
use Rattle.savi_kinds.specs.declared.plan.Plan.{Plan}
use Rattle.savi_kinds.specs.declared.plan.PortPlan.{PortPlan}
use Rattle.savi_kinds.specs.Ports.{number_of}
use Rattle.savi_kinds.specs.Vlans.{access_vlan, vlans_of}
use Rattle.dhcp_states.specs.Requests.{requests_at_port}
use Rattle.savi_access.specs.Tables.{held_at}
use Rattle.bridge_fdb.specs.Stations.{live_at, station_told}
use Rattle.cli_lang.specs.declared.kinds.Command.{Command}
use Rattle.cli_lang.specs.declared.kinds.Command.TheVariants.{ShowBindings, ShowPorts, ShowCounters, ShowStations, Clear, Static, Shut, Reopen, Quit}
use Rattle.cli_lang.specs.declared.kinds.CmdFault.{CmdFault}
use Rattle.cli_lang.specs.CommandOf.{command_of}
use Rattle.hist_store.specs.Rows.{Row}
use Rattle.control_replies.specs.declared.refusal.Refusal.{Refusal}
use Rattle.control_replies.specs.declared.port_row.PortRow.{PortRow}
use Rattle.control_replies.specs.declared.counts.Counts.{Counts}
use Rattle.control_replies.specs.Replies.{refusal_text, ok_text}
use Rattle.control_replies.specs.Bindings.{bindings_text}
use Rattle.control_replies.specs.Shows.{ports_text, stations_text}
use Rattle.control_replies.specs.Counters.{counters_text}
use Rattle.control_replies.specs.Counting.{counted_with}
use Rattle.savi_access.specs.Rules.{AccessBase}
use Rattle.savi_access.specs.Marks.{Mark, told, open_requests}
use Rattle.savi_access.specs.Plans.{times_of, rules_of}
use Rattle.checkpoint.specs.Bases.{Base, access_of}
use Rattle.checkpoint.specs.Columns.{by_vlan}
use Rattle.savi_history.specs.ShutPorts.{is_shut}
use Rattle.savi_history.specs.Commands.{rows_told, fault_refusal, refusal_of}
use Rattle.savi_history.specs.Marks.{marks}
use Rattle.savi_history.specs.Queues.{queue}
use Rattle.savi_history.specs.Stations.{stations}

-- what is counted up to the end of a history
abbrev pub counts_of : Base → List Row → Counts
counts_of base [] = base.counts
counts_of base (r ∷ past) = counted_with r.entry (counts_of base past)

-- how many requests of the port of this number are open at this moment after these marks: all of them are of its own VLAN
abbrev pub pending_in : AccessBase → List Mark → ℕ → ℕ → Option ℕ → ℕ
pending_in base marks moment number (Some vlan) = requests_at_port number (open_requests base vlan marks moment)
pending_in base marks moment number None = 0

-- what is told of a port at this moment
abbrev pub port_row : Plan → Base → List Row → ℕ → PortPlan → PortRow
port_row plan base past moment port = record {
  number = port.number;
  role = port.role;
  is_shut = is_shut plan base (number_of port.number) past;
  held =
      held_at (rules_of plan).addresses (access_of base).addresses (told (marks plan base past)) moment
      (number_of port.number);
  pending =
      pending_in (access_of base) (marks plan base past) moment (number_of port.number)
      (access_vlan plan (number_of port.number));
  queued = length (queue plan base (number_of port.number) past);
}

-- what is told of a station of a VLAN: the VLAN, its MAC address, its port, and the moment at which it ends
abbrev pub station_row : ℕ → Mac × Port × ℕ → ℕ × Mac × Port × ℕ
station_row vlan told = (vlan, told.0, told.1, told.2)

-- the stations of each VLAN of the plan that are live at this moment
abbrev pub station_rows : Plan → Base → List Row → ℕ → List (ℕ × Mac × Port × ℕ)
station_rows plan base past moment =
    flat_map (λ vlan. map (station_row vlan) (map station_told (live_at moment (stations vlan plan base past))))
    (vlans_of plan)

-- what a command is answered that isn't refused, by the history with its entry, at the entry's moment
abbrev pub reply_to : Plan → Base → List Row → ℕ → Result Command CmdFault → List ℕ
reply_to plan base past moment (Err fault) = refusal_text (fault_refusal fault)
reply_to plan base past moment (Ok ShowBindings) =
    bindings_text (times_of plan) (by_vlan (vlans_of plan) (rows_told plan (access_of base) (marks plan base past) moment))
reply_to plan base past moment (Ok ShowPorts) = ports_text (map (port_row plan base past moment) plan.ports)
reply_to plan base past moment (Ok ShowCounters) = counters_text (counts_of base past)
reply_to plan base past moment (Ok ShowStations) = stations_text (station_rows plan base past moment)
reply_to plan base past moment (Ok (Clear vlan address)) = ok_text
reply_to plan base past moment (Ok (Static address port)) = ok_text
reply_to plan base past moment (Ok (Shut port)) = ok_text
reply_to plan base past moment (Ok (Reopen port)) = ok_text
reply_to plan base past moment (Ok Quit) = ok_text

-- what one is answered that may be refused
abbrev pub reply_unless : Plan → Base → List Row → ℕ → Result Command CmdFault → Option Refusal → List ℕ
reply_unless plan base past moment command (Some refusal) = refusal_text refusal
reply_unless plan base past moment command None = reply_to plan base past moment command

-- the reply to the newest entry, where that is a command's
abbrev pub shown : Plan → Base → List Row → List ℕ
shown plan base [] = []
shown plan base (r ∷ past) =
    reply_unless plan base (r ∷ past) r.entry.moment (command_of r.octets)
    (refusal_of plan (rows_told plan (access_of base) (marks plan base past) r.entry.moment) (command_of r.octets))
