-- Which ports are shut: those of which the last `shut` or `open` that was answered `ok` was a `shut`. A frame that comes in
-- at a shut port is dropped, and neither frames nor probes go to one.
use Rattle.std.specs.Prelude.{ℕ, ◌==◌, ◌&&◌, Bool, true, false, if◌then◌else◌, List, [], ◌∷◌, Result, Ok, Err}
use Rattle.std.specs.List.{list_any}
use Rattle.savi_kinds.specs.declared.plan.Plan.{Plan}
use Rattle.savi_kinds.specs.declared.port.Port.{Port}
use Rattle.savi_kinds.specs.declared.entry.Act.{Act}
use Rattle.savi_kinds.specs.declared.entry.Act.TheVariants.{Frame, Long, Tick, Command, Drain, End}
use Rattle.savi_kinds.specs.Ports.{number_of}
use Rattle.cli_lang.specs.declared.kinds.Command.{Command as Order}
use Rattle.cli_lang.specs.declared.kinds.Command.TheVariants.{ShowBindings, ShowPorts, ShowCounters, ShowStations, Clear, Static, Shut, Reopen, Quit}
use Rattle.cli_lang.specs.declared.kinds.CmdFault.{CmdFault}
use Rattle.cli_lang.specs.CommandOf.{command_of}
use Rattle.hist_store.specs.Rows.{Row}
use Rattle.checkpoint.specs.Bases.{Base}
use Rattle.savi_history.specs.Passes.{has_port}

-- A `shut` or an `open` of a port is answered `ok` where the port is one of the plan; else it is refused, and no port is
-- shut or opened by it. So it is heard at the port of this number.
abbrev pub is_heard_at : Plan → Port → ℕ → Bool
is_heard_at plan port number = has_port plan (number_of port) && number_of port == number

-- whether the port of this number is shut behind a command, by whether it was before
abbrev pub shut_by : Plan → ℕ → Result Order CmdFault → Bool → Bool
shut_by plan number (Ok (Shut port)) before = if is_heard_at plan port number then true else before
shut_by plan number (Ok (Reopen port)) before = if is_heard_at plan port number then false else before
shut_by plan number (Ok (Static address port)) before = before
shut_by plan number (Ok (Clear vlan address)) before = before
shut_by plan number (Ok ShowBindings) before = before
shut_by plan number (Ok ShowPorts) before = before
shut_by plan number (Ok ShowCounters) before = before
shut_by plan number (Ok ShowStations) before = before
shut_by plan number (Ok Quit) before = before
shut_by plan number (Err fault) before = before

-- the same behind an entry with these octets: no other entry shuts or opens a port
abbrev pub shut_after : Plan → ℕ → List ℕ → Act → Bool → Bool
shut_after plan number octets (Frame port stamp at len) before = before
shut_after plan number octets (Long port stamp len) before = before
shut_after plan number octets (Tick stamp) before = before
shut_after plan number octets (Command stamp at len) before = shut_by plan number (command_of octets) before
shut_after plan number octets (Drain port count) before = before
shut_after plan number octets (End who how) before = before

-- whether the port of this number is shut
abbrev pub is_shut : Plan → Base → ℕ → List Row → Bool
is_shut plan base number [] = list_any (λ n. n == number) base.shut
is_shut plan base number (r ∷ past) = shut_after plan number r.octets r.entry.act (is_shut plan base number past)
