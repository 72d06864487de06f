-- A line has one answer: its words are of one form, and a form gives one answer.
use Rattle.std.proofs.Common.{ℕ, ◌≡◌, ◌≤◌, List, [], ◌∷◌, Option, Some, None, Result, Ok, Err, codes, if◌then◌else◌, refl, sym, ap, ap₂, ◌∙◌, subst, arith, inl, inr}
use Rattle.std.proofs.lemmas.Fmt.{decimal_injective}
use Rattle.std.specs.Str.{bytes_eq}
use Rattle.savi_kinds.specs.declared.address.Addr.{Addr}
use Rattle.savi_kinds.specs.declared.port.Port.{Port}
use Rattle.savi_kinds.specs.Ports.{number_of}
use Rattle.savi_kinds.proofs.PortNumbers.{port_same}
use Rattle.savi_kinds.proofs.AddrGrammar.{one_address}
use Rattle.savi_kinds.proofs.KeyGrammar.{one_key}
use Rattle.cli_lang.specs.declared.kinds.Command.{Command}
use Rattle.cli_lang.specs.declared.kinds.Command.TheVariants as command
use Rattle.cli_lang.specs.declared.kinds.CmdFault.{CmdFault}
use Rattle.cli_lang.specs.Words.{words_of}
use Rattle.cli_lang.specs.Commands.{Form, ShowBindings, ShowPorts, ShowCounters, ShowStations, Clear, Static, Shut, Open, Quit, words_for, Gives, GivesPort, IsPortText, WordsGive, LineGives}

-- the form in which words are written
form_of : List (List ℕ) → Option Form
form_of [] = None
form_of (word ∷ []) = Some Quit
form_of (word ∷ argument ∷ []) =
    if bytes_eq word (codes "clear") then Some (Clear argument)
    else (if bytes_eq word (codes "shut") then Some (Shut argument)
    else (if bytes_eq word (codes "open") then Some (Open argument)
    else (if bytes_eq argument (codes "bindings") then Some ShowBindings
    else (if bytes_eq argument (codes "ports") then Some ShowPorts
    else (if bytes_eq argument (codes "counters") then Some ShowCounters else Some ShowStations)))))
form_of (word ∷ address ∷ number ∷ more) = Some (Static address number)

form_found : (form : Form) → form_of (words_for form) ≡ Some form
unfolding form_of
form_found ShowBindings = refl
form_found ShowPorts = refl
form_found ShowCounters = refl
form_found ShowStations = refl
form_found (Clear key) = refl
form_found (Static address number) = refl
form_found (Shut number) = refl
form_found (Open number) = refl
form_found Quit = refl

one_form : (words : List (List ℕ)) (f g : Form) → words ≡ words_for f → words ≡ words_for g → f ≡ g
one_form words f g one other =
    let both : Some f ≡ Some g = sym (form_found f) ∙ ap form_of (sym one ∙ other) ∙ form_found g in
    cc

-- a text is the number of one port
one_port : (text : List ℕ) (p q : Port) → IsPortText text p → IsPortText text q → p ≡ q
one_port text p q one other =
    let first : p.number ≤ 16 = p.high in
    let second : q.number ≤ 16 = q.high in
    port_same p q (decimal_injective p.number q.number (omega arith) (omega arith) (sym one ∙ other))

port_once : (number : List ℕ) (make : Port → Command) (one other : Result Command CmdFault) → GivesPort number make one → GivesPort number make other → one ≡ other
port_once number make (Ok c) (Ok d) one other = ap (λ (k : Command). Ok k) (one.2 ∙ ap make (one_port number one.0 other.0 one.1 other.1) ∙ sym other.2)
port_once number make (Ok c) (Err g) one other = absurd (other.0 (number_of one.0) one.0.low one.0.high one.1)
port_once number make (Err f) (Ok d) one other = absurd (one.0 (number_of other.0) other.0.low other.0.high other.1)
port_once number make (Err f) (Err g) one other = ap (λ (k : CmdFault). Err k) (one.1 ∙ sym other.1)

-- a form gives one answer
gives_once : (form : Form) (one other : Result Command CmdFault) → Gives form one → Gives form other → one ≡ other
gives_once ShowBindings one other first second = first ∙ sym second
gives_once ShowPorts one other first second = first ∙ sym second
gives_once ShowCounters one other first second = first ∙ sym second
gives_once ShowStations one other first second = first ∙ sym second
gives_once (Clear key) (Ok c) (Ok d) first second =
    let same = one_key key first.0 second.0 first.1 second.1 first.2 second.2 in
    ap (λ (k : Command). Ok k) (first.3 ∙ ap₂ (λ (vlan : ℕ) (a : Addr). command.Clear vlan a) same.0 same.1 ∙ sym second.3)
gives_once (Clear key) (Ok c) (Err g) first second = absurd (second.0 first.0 first.1 first.2)
gives_once (Clear key) (Err f) (Ok d) first second = absurd (first.0 second.0 second.1 second.2)
gives_once (Clear key) (Err f) (Err g) first second = ap (λ (k : CmdFault). Err k) (first.1 ∙ sym second.1)
gives_once (Static address number) one other (inl first) (inl second) = first.1 ∙ sym second.1
gives_once (Static address number) one other (inl first) (inr second) = absurd (first.0 second.0 second.1)
gives_once (Static address number) one other (inr first) (inl second) = absurd (second.0 first.0 first.1)
gives_once (Static address number) one other (inr first) (inr second) =
    let same : first.0 ≡ second.0 = one_address address first.0 second.0 first.1 second.1 in
    let given : GivesPort number (λ port. command.Static second.0 port) one = subst (λ (a : Addr). GivesPort number (λ port. command.Static a port) one) same first.2 in
    port_once number (λ port. command.Static second.0 port) one other given second.2
gives_once (Shut number) one other first second = port_once number (λ port. command.Shut port) one other first second
gives_once (Open number) one other first second = port_once number (λ port. command.Reopen port) one other first second
gives_once Quit one other first second = first ∙ sym second

words_give_once : (words : List (List ℕ)) (one other : Result Command CmdFault) → WordsGive words one → WordsGive words other → one ≡ other
words_give_once words one other (inl first) (inl second) =
    gives_once second.0 one other (subst (λ (f : Form). Gives f one) (one_form words first.0 second.0 first.1 second.1) first.2) second.2
words_give_once words one other (inl first) (inr second) = absurd (second.0 first.0 first.1)
words_give_once words one other (inr first) (inl second) = absurd (first.0 second.0 second.1)
words_give_once words one other (inr first) (inr second) = first.1 ∙ sym second.1

pub one_answer : (line : List ℕ) (one other : Result Command CmdFault) → LineGives line one → LineGives line other → one ≡ other
one_answer line one other first second = words_give_once (words_of line) one other first second
