-- What a line comes to, as a function: its command, or its fault, for every list of numbers.
use Rattle.std.specs.Prelude.{ℕ, T, leb, List, [], ◌∷◌, find, decimal, bytes_eq, Option, Result, Ok, Err}
use Rattle.std.specs.Option.{option_map_or}
use Rattle.std.specs.Cmp.Lexicographic.{pointwise}
use lib.Dec.{lit≤}
use Rattle.savi_kinds.specs.declared.address.Addr.{Addr}
use Rattle.savi_kinds.specs.declared.port.Port.{Port}
use Rattle.savi_kinds.specs.Ports.{number_of}
use Rattle.savi_kinds.specs.AddrOf.{addr_of}
use Rattle.savi_kinds.specs.KeyOf.{key_of}
use Rattle.cli_lang.specs.declared.kinds.Command.{Command}
use Rattle.cli_lang.specs.declared.kinds.Command.TheVariants as command
use Rattle.cli_lang.specs.declared.kinds.CmdFault.{CmdFault}
use Rattle.cli_lang.specs.declared.kinds.CmdFault.TheVariants as fault
use Rattle.cli_lang.specs.Words.{words_of}
use Rattle.cli_lang.specs.Commands.{Form, ShowBindings, ShowPorts, ShowCounters, ShowStations, Clear, Static, Shut, Open, Quit, words_for}

-- the ports that a switch has
abbrev pub port : (n : ℕ) → T (leb 1 n) → T (leb n 16) → Port
port n low high = record { number = n; low = lit≤ low; high = lit≤ high }

abbrev pub all_ports : List Port
all_ports =
    port 1 tt tt ∷ port 2 tt tt ∷ port 3 tt tt ∷ port 4 tt tt ∷ port 5 tt tt ∷ port 6 tt tt
    ∷ port 7 tt tt ∷ port 8 tt tt ∷ port 9 tt tt ∷ port 10 tt tt ∷ port 11 tt tt ∷ port 12 tt tt
    ∷ port 13 tt tt ∷ port 14 tt tt ∷ port 15 tt tt ∷ port 16 tt tt ∷ []

-- the port whose number a text writes, in decimal without a leading zero
unfoldable pub port_of_text : List ℕ → Option Port
port_of_text text = find (λ p. bytes_eq text (decimal (number_of p))) all_ports

-- the forms of as many words as these, with these words where the form leaves them open
abbrev pub forms_for : List (List ℕ) → List Form
forms_for (word ∷ []) = Quit ∷ []
forms_for (word ∷ second ∷ []) =
    ShowBindings ∷ ShowPorts ∷ ShowCounters ∷ ShowStations ∷ Clear second ∷ Shut second ∷ Open second ∷ []
forms_for (word ∷ second ∷ third ∷ []) = Static second third ∷ []
forms_for words = []

-- the form in which words are written
abbrev pub form_of : List (List ℕ) → Option Form
form_of words = find (λ form. pointwise bytes_eq words (words_for form)) (forms_for words)

-- the command for an address, or the fault of its text; the same for the key of one, and for a port
abbrev pub with_addr : List ℕ → (Addr → Result Command CmdFault) → Result Command CmdFault
with_addr address make = option_map_or make (addr_of address) (Err fault.Address)

abbrev pub with_key : List ℕ → (ℕ → Addr → Result Command CmdFault) → Result Command CmdFault
with_key key make = option_map_or (λ k. make k.0 k.1) (key_of key) (Err fault.Address)

abbrev pub with_port : List ℕ → (Port → Result Command CmdFault) → Result Command CmdFault
with_port number make = option_map_or make (port_of_text number) (Err fault.PortNumber)

-- what a form comes to
abbrev pub command_in : Form → Result Command CmdFault
command_in ShowBindings = Ok command.ShowBindings
command_in ShowPorts = Ok command.ShowPorts
command_in ShowCounters = Ok command.ShowCounters
command_in ShowStations = Ok command.ShowStations
command_in (Clear key) = with_key key (λ vlan a. Ok (command.Clear vlan a))
command_in (Static address number) = with_addr address (λ a. with_port number (λ p. Ok (command.Static a p)))
command_in (Shut number) = with_port number (λ p. Ok (command.Shut p))
command_in (Open number) = with_port number (λ p. Ok (command.Reopen p))
command_in Quit = Ok command.Quit

-- what a line comes to
unfoldable pub command_of : List ℕ → Result Command CmdFault
command_of line = option_map_or command_in (form_of (words_of line)) (Err fault.Unknown)
