-- What a line comes to is what the function finds.
use Rattle.std.proofs.Common.{ℕ, ◌≡◌, ◌≢◌, ◌≤◌, ◌==◌, ◌&&◌, Bool, true, false, List, [], ◌∷◌, refl, sym, ap, ◌∙◌, arith, inl, inr, ne_eqb, le-leb, decimal, Option, Some, None, MatchOption, Result, Ok, Err, nat_le, bytes_eq, cond, find}
use Rattle.std.specs.List.{list_any}
use Rattle.std.specs.Option.{option_map_or}
use Rattle.std.specs.Cmp.Lexicographic.{pointwise}
use Rattle.std.proofs.lemmas.Bool.{cases_eq, and_from, agree_below_at, true≢false}
use Rattle.std.proofs.lemmas.Option.{none-some}
use Rattle.std.proofs.lemmas.Slice.Eq.{bytes_eq-Decides, slice_eq-Decides}
use Rattle.savi_kinds.specs.declared.address.Addr.{Addr}
use Rattle.savi_kinds.specs.declared.port.Port.{Port}
use Rattle.savi_kinds.specs.Ports.{number_of}
use Rattle.savi_kinds.specs.AddrText.{IsAddrText}
use Rattle.savi_kinds.specs.KeyText.{IsKeyText}
use Rattle.cli_lang.specs.declared.kinds.Command.{Command}
use Rattle.cli_lang.specs.declared.kinds.Command.TheVariants as command
use Rattle.cli_lang.specs.declared.kinds.CmdFault.{CmdFault}
use Rattle.cli_lang.specs.declared.kinds.CmdFault.TheVariants as fault
use Rattle.cli_lang.specs.Words.{words_of}
use Rattle.cli_lang.specs.Commands.{Form, ShowBindings, ShowPorts, ShowCounters, ShowStations, Clear, Static, Shut, Open, Quit, words_for, Gives, GivesPort, IsPortText, IsNoAddr, IsNoKey, IsNoPort, WordsGive, LineGives}
use Rattle.cli_lang.specs.CommandOf.{all_ports, port_of_text, forms_for, form_of, with_port, command_in, command_of}
use Rattle.cli_lang.proofs.OneAnswer.{one_answer}
use Rattle.savi_kinds.specs.AddrOf.{addr_of}
use Rattle.savi_kinds.specs.KeyOf.{key_of}
use Rattle.savi_kinds.proofs.AddrFound.{addr_read}
use Rattle.savi_kinds.proofs.KeyGrammar.{key_read}

-- what is found passes the test
found : {X : Type 0} (test : X → Bool) (xs : List X) (x : X) → find test xs ≡ Some x → test x ≡ true
found test [] x h = absurd (none-some x h)
found {X} test (y ∷ xs) x h = tested (test y) refl (found test xs x) h
  where
    tested : (b : Bool) → test y ≡ b → (find test xs ≡ Some x → test x ≡ true) → cond b (Some y) (find test xs) ≡ Some x → test x ≡ true
    tested true is later e = let same : y ≡ x = cc in ap test (sym same) ∙ is
    tested false is later e = later e

-- the port of a text
not_missed : (text : List ℕ) (n : ℕ) (ports : List Port) → text ≡ decimal n → list_any (λ p. number_of p == n) ports ≡ true → find (λ p. bytes_eq text (decimal (number_of p))) ports ≢ None
not_missed text n [] spelled among none = true≢false (sym among)
not_missed text n (p ∷ ports) spelled among none = tested (bytes_eq text (decimal (number_of p))) refl (not_missed text n ports spelled) none
  where
    tested : (b : Bool) → bytes_eq text (decimal (number_of p)) ≡ b → (list_any (λ (q : Port). number_of q == n) ports ≡ true → find (λ (q : Port). bytes_eq text (decimal (number_of q))) ports ≢ None) → cond b (Some p) (find (λ (q : Port). bytes_eq text (decimal (number_of q))) ports) ≡ None → ⊥
    tested true is later e = none-some p (sym e)
    tested false is later e =
        elim (cases_eq (number_of p) n) [
          | inl same ↦ true≢false (sym ((bytes_eq-Decides text (decimal (number_of p))).1 (spelled ∙ ap decimal (sym same))) ∙ is)
          | inr other ↦ later (rw (ne_eqb (number_of p) n other) at among) e
        ]

sixteen : (n : ℕ) → 1 ≤ n → n ≤ 16 → list_any (λ p. number_of p == n) all_ports ≡ true
sixteen n low high =
    agree_below_at (λ m. list_any (λ (p : Port). number_of p == m) all_ports) (λ m. nat_le 1 m && nat_le m 16) 17 n refl (omega arith)
    ∙ and_from (nat_le 1 n) (nat_le n 16) (le-leb 1 n low) (le-leb n 16 high)

port_read : (text : List ℕ) → MatchOption (port_of_text text) (IsNoPort text) (λ p. IsPortText text p)
unfolding port_of_text
port_read text = read (port_of_text text) refl
  where
    read : (o : Option Port) → find (λ (p : Port). bytes_eq text (decimal (number_of p))) all_ports ≡ o → MatchOption o (IsNoPort text) (λ p. IsPortText text p)
    read None is = λ n low high spelled. not_missed text n all_ports spelled (sixteen n low high) is
    read (Some p) is = (bytes_eq-Decides text (decimal (number_of p))).0 (found (λ (q : Port). bytes_eq text (decimal (number_of q))) all_ports p is)

-- the form of words
same_word : (word : List ℕ) → bytes_eq word word ≡ true
same_word word = (bytes_eq-Decides word word).1 refl

form_again : (form : Form) → form_of (words_for form) ≡ Some form
form_again ShowBindings = refl
form_again ShowPorts = refl
form_again ShowCounters = refl
form_again ShowStations = refl
form_again (Clear key) = rw same_word refl
form_again (Static address number) = rw same_word (rw same_word refl)
form_again (Shut number) = rw same_word refl
form_again (Open number) = rw same_word refl
form_again Quit = refl

form_found : (words : List (List ℕ)) (form : Form) → form_of words ≡ Some form → words ≡ words_for form
form_found words form h =
    let test : pointwise bytes_eq words (words_for form) ≡ true = found (λ (f : Form). pointwise bytes_eq words (words_for f)) (forms_for words) form h in
    (slice_eq-Decides bytes_eq-Decides words (words_for form) (pointwise bytes_eq words (words_for form)) refl).0 test

-- what a form gives
port_given : (number : List ℕ) (make : Port → Command) → GivesPort number make (with_port number (λ p. Ok (make p)))
port_given number make = given (port_of_text number) (port_read number)
  where
    given : (o : Option Port) → MatchOption o (IsNoPort number) (λ p. IsPortText number p) → GivesPort number make (option_map_or (λ (p : Port). Ok (make p)) o (Err fault.PortNumber))
    given None is = (is, refl)
    given (Some p) is = (p, is, refl)

form_given : (form : Form) → Gives form (command_in form)
form_given ShowBindings = refl
form_given ShowPorts = refl
form_given ShowCounters = refl
form_given ShowStations = refl
form_given (Clear key) = given (key_of key) (key_read key)
  where
    given : (o : Option (ℕ × Addr)) → MatchOption o (IsNoKey key) (λ k. IsKeyText key k.0 k.1) → Gives (Clear key) (option_map_or (λ (k : ℕ × Addr). Ok (command.Clear k.0 k.1)) o (Err fault.Address))
    given None is = (is, refl)
    given (Some k) is = (k.0, k.1, is, refl)
form_given (Static address number) = given (addr_of address) (addr_read address)
  where
    given : (o : Option Addr) → MatchOption o (IsNoAddr address) (λ a. IsAddrText address a) → Gives (Static address number) (option_map_or (λ (a : Addr). with_port number (λ p. Ok (command.Static a p))) o (Err fault.Address))
    given None is = inl (is, refl)
    given (Some a) is = inr (a, is, port_given number (λ p. command.Static a p))
form_given (Shut number) = port_given number (λ p. command.Shut p)
form_given (Open number) = port_given number (λ p. command.Reopen p)
form_given Quit = refl

words_given : (words : List (List ℕ)) → WordsGive words (option_map_or command_in (form_of words) (Err fault.Unknown))
words_given words = given (form_of words) refl
  where
    given : (o : Option Form) → form_of words ≡ o → WordsGive words (option_map_or command_in o (Err fault.Unknown))
    given None is = inr (λ form written. none-some form (sym is ∙ ap form_of written ∙ form_again form), refl)
    given (Some form) is = inl (form, form_found words form is, form_given form)

pub line_given : (line : List ℕ) → LineGives line (command_of line)
unfolding command_of
line_given line = words_given (words_of line)

pub value_is : (line : List ℕ) (result : Result Command CmdFault) → LineGives line result → result ≡ command_of line
value_is line result gives = one_answer line result (command_of line) gives (line_given line)
