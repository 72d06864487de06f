-- What a history holds of control's input: the lines that were entered, and how it ended.
use Rattle.std.specs.Prelude.{ℕ, Bool, true, false, List, [], ◌∷◌, ◌++◌, Option, Some, None, Result, Ok, Err}
use Rattle.savi_kinds.specs.declared.entry.Act.{Act}
use Rattle.savi_kinds.specs.declared.entry.Act.TheVariants as acts
use Rattle.savi_kinds.specs.declared.entry.Who.{Who}
use Rattle.savi_kinds.specs.declared.entry.Who.TheVariants.{Ingress, Control, Ticker, Egress}
use Rattle.savi_kinds.specs.declared.entry.How.{How}
use Rattle.cli_lang.specs.declared.kinds.Command.{Command}
use Rattle.cli_lang.specs.declared.kinds.Command.TheVariants as orders
use Rattle.cli_lang.specs.declared.kinds.CmdFault.{CmdFault}
use Rattle.cli_lang.specs.CommandOf.{command_of}
use Rattle.cli_lang.specs.Arrivals.{Line}
use Rattle.hist_store.specs.Rows.{Row}

-- the line with these octets, where the entry is one of a line
abbrev pub line_by : List ℕ → Act → List Line
line_by octets (acts.Frame port stamp at len) = []
line_by octets (acts.Long port stamp len) = []
line_by octets (acts.Tick stamp) = []
line_by octets (acts.Command stamp at len) = record { stamp = stamp; command = octets } ∷ []
line_by octets (acts.Drain port count) = []
line_by octets (acts.End who how) = []

-- the lines that were entered, the oldest first
abbrev pub entered_lines : List Row → List Line
entered_lines [] = []
entered_lines (r ∷ past) = entered_lines past ++ line_by r.octets r.entry.act

-- how control has ended behind the end of a pass, by how it had ended before
abbrev pub control_ended_by : Who → How → Option How → Option How
control_ended_by (Ingress port) how before = before
control_ended_by Control how before = Some how
control_ended_by Ticker how before = before
control_ended_by (Egress port) how before = before

abbrev pub control_ended_behind : Act → Option How → Option How
control_ended_behind (acts.Frame port stamp at len) before = before
control_ended_behind (acts.Long port stamp len) before = before
control_ended_behind (acts.Tick stamp) before = before
control_ended_behind (acts.Command stamp at len) before = before
control_ended_behind (acts.Drain port count) before = before
control_ended_behind (acts.End who how) before = control_ended_by who how before

-- how control has ended
abbrev pub control_end : List Row → Option How
control_end [] = None
control_end (r ∷ past) = control_ended_behind r.entry.act (control_end past)

-- the command is `quit`
abbrev pub is_quit_command : Result Command CmdFault → Bool
is_quit_command (Err fault) = false
is_quit_command (Ok (orders.Static address port)) = false
is_quit_command (Ok (orders.Clear vlan address)) = false
is_quit_command (Ok (orders.Shut port)) = false
is_quit_command (Ok (orders.Reopen port)) = false
is_quit_command (Ok orders.ShowBindings) = false
is_quit_command (Ok orders.ShowPorts) = false
is_quit_command (Ok orders.ShowCounters) = false
is_quit_command (Ok orders.ShowStations) = false
is_quit_command (Ok orders.Quit) = true

abbrev pub is_quit : Line → Bool
is_quit line = is_quit_command (command_of line.command)
