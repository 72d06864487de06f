-- The commands of a control line, and what a line is that is none.
use Rattle.std.specs.Prelude.{◌≡◌, ◌≢◌, ℕ, ◌≤◌, List, [], ◌∷◌, codes, decimal, Result, Ok, Err, MatchResult, ◌⊎◌}
use Rattle.savi_kinds.specs.declared.address.Addr.{Addr}
use Rattle.savi_kinds.specs.declared.port.Port.{Port}
use Rattle.savi_kinds.specs.Ports.{number_of}
use Rattle.savi_kinds.specs.AddrText.{IsAddrText}
use Rattle.savi_kinds.specs.KeyText.{IsKeyText}
use Rattle.cli_lang.specs.declared.kinds.Command.{Command}
use Rattle.cli_lang.specs.declared.kinds.Command.TheVariants as command
use Rattle.cli_lang.specs.declared.kinds.CmdFault.{CmdFault}
use Rattle.cli_lang.specs.declared.kinds.CmdFault.TheVariants as fault
use Rattle.cli_lang.specs.Words.{words_of}

-- The forms of a command, with the texts that stand for an address, the key of one and the number of a port.
pub data Form : Type 0 where
  ShowBindings : Form
  ShowPorts : Form
  ShowCounters : Form
  ShowStations : Form
  Clear : (key : List ℕ) → Form
  Static : (address number : List ℕ) → Form
  Shut : (number : List ℕ) → Form
  Open : (number : List ℕ) → Form
  Quit : Form

-- how each form is written
abbrev pub words_for : Form → List (List ℕ)
words_for ShowBindings = codes "show" ∷ codes "bindings" ∷ []
words_for ShowPorts = codes "show" ∷ codes "ports" ∷ []
words_for ShowCounters = codes "show" ∷ codes "counters" ∷ []
words_for ShowStations = codes "show" ∷ codes "stations" ∷ []
words_for (Clear key) = codes "clear" ∷ key ∷ []
words_for (Static address number) = codes "static" ∷ address ∷ number ∷ []
words_for (Shut number) = codes "shut" ∷ number ∷ []
words_for (Open number) = codes "open" ∷ number ∷ []
words_for Quit = codes "quit" ∷ []

-- the text writes the number of this port, from 1 to 16, in decimal without a leading zero
abbrev pub IsPortText : List ℕ → Port → Type 0
IsPortText text port = text ≡ decimal (number_of port)

-- the text writes no address, or no key of an address in a VLAN, or no number of a port
abbrev pub IsNoAddr : List ℕ → Type 0
IsNoAddr text = (a : Addr) → ¬ IsAddrText text a

abbrev pub IsNoKey : List ℕ → Type 0
IsNoKey text = (vlan : ℕ) (a : Addr) → ¬ IsKeyText text vlan a

abbrev pub IsNoPort : List ℕ → Type 0
IsNoPort text = (n : ℕ) → 1 ≤ n → n ≤ 16 → text ≢ decimal n

-- the number is that of a port, for which the command is made
abbrev pub GivesPort : List ℕ → (Port → Command) → Result Command CmdFault → Type 0
GivesPort number make result =
    MatchResult result (λ c. (port : Port) × IsPortText number port × (c ≡ make port)) (λ f. IsNoPort number × (f ≡ fault.PortNumber))

-- What a form gives: a command, or the fault of its address or key, and of its port only where the address has none.
abbrev pub Gives : Form → Result Command CmdFault → Type 0
Gives ShowBindings result = result ≡ Ok command.ShowBindings
Gives ShowPorts result = result ≡ Ok command.ShowPorts
Gives ShowCounters result = result ≡ Ok command.ShowCounters
Gives ShowStations result = result ≡ Ok command.ShowStations
Gives (Clear key) result =
    MatchResult result (λ c. (vlan : ℕ) × (a : Addr) × IsKeyText key vlan a × (c ≡ command.Clear vlan a)) (λ f. IsNoKey key × (f ≡ fault.Address))
Gives (Static address number) result =
    (IsNoAddr address × (result ≡ Err fault.Address))
    ⊎ ((a : Addr) × IsAddrText address a × GivesPort number (λ port. command.Static a port) result)
Gives (Shut number) result = GivesPort number (λ port. command.Shut port) result
Gives (Open number) result = GivesPort number (λ port. command.Reopen port) result
Gives Quit result = result ≡ Ok command.Quit

-- What these words come to: they are written in one of the forms, or in none and are unknown.
abbrev pub WordsGive : List (List ℕ) → Result Command CmdFault → Type 0
WordsGive words result =
    ((form : Form) × (words ≡ words_for form) × Gives form result)
    ⊎ (((form : Form) → words ≢ words_for form) × (result ≡ Err fault.Unknown))

-- what a line comes to
abbrev pub LineGives : List ℕ → Result Command CmdFault → Type 0
LineGives line result = WordsGive (words_of line) result
