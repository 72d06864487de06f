-- What is known in a loop over options of what all of them say.
use Rattle.std.proofs.Common.{◌≡◌, ℕ, ◌<◌, Bool, false, ◌||◌, Result, Ok, Err, List, [], ◌∷◌, ◌++◌, length, refl, sym, ap, ◌∙◌, subst, inl, arith}
use Rattle.std.proofs.Math.Bool.{or_assoc, or-false}
use Rattle.std.specs.List.{flat_map}
use Rattle.std.proofs.lemmas.List.{append_assoc, append-nil, nil_from_length}
use Rattle.dhcp6_read.specs.declared.message.Lease.{Lease}
use Rattle.dhcp6_read.specs.declared.message.DhcpFault.{DhcpFault}
use Rattle.dhcp6_read.specs.declared.message.DhcpFault.TheVariants.{Overrun}
use Rattle.dhcp6_read.specs.Options.{DhcpOption, BeginsNone, OptionsRead, GivesRows, option_code}
use Rattle.dhcp6_read.specs.Levels.{Said, row_says, overrun}
use Rattle.dhcp6_read.specs.Steps.{TellsLeases, BeginsWith}
use Rattle.dhcp6_read.proofs.Rows.{row_begins, row_ends, begins_none}

-- What all the octets say is what the rest says, behind the options that are read: these have no fault, one of them
-- voids where `void` says so, and their leases stand behind those before.
pub record Goes (whole left : Said) (void : Bool) (before leases : List Lease) : Type 0 where
  pub same_faults : whole.faults ≡ left.faults
  pub same_void : whole.void ≡ (void || left.void)
  pub same_leases : before ++ whole.leases ≡ leases ++ left.leases

-- the faults of options
abbrev faults_in : (ℕ → List ℕ → Said) → List DhcpOption → List DhcpFault
faults_in says options = flat_map (λ option. (says (option_code option) option.content).faults) options

goes_more : (says : ℕ → List ℕ → Said) (whole : Said) (o : DhcpOption) (row : OptionsRead) (void voids : Bool) (before leases after : List Lease)
    → Goes whole (row_says says (record { options = o ∷ row.options; rest = row.rest })) void before leases
    → TellsLeases (says (option_code o) o.content) (Ok voids) leases after
    → Goes whole (row_says says row) (void || voids) before after
goes_more says whole o row void voids before leases after known told =
    let left = row_says says row in
    let said = says (option_code o) o.content in
    record {
      same_faults = known.same_faults ∙ ap (λ (l : List DhcpFault). (l ++ faults_in says row.options) ++ overrun row.rest) told.0;
      same_void = known.same_void ∙ ap (λ (b : Bool). void || (b || left.void)) told.1 ∙ sym (or_assoc void voids left.void);
      same_leases = known.same_leases ∙ sym (append_assoc leases said.leases left.leases) ∙ ap (λ (l : List Lease). l ++ left.leases) (sym told.2);
    }

goes_end : (says : ℕ → List ℕ → Said) (whole : Said) (void : Bool) (before leases : List Lease)
    → Goes whole (row_says says (record { options = []; rest = [] })) void before leases → TellsLeases whole (Ok void) before leases
goes_end says whole void before leases known = (known.same_faults, known.same_void ∙ or-false void, sym (known.same_leases ∙ append-nil leases))

goes_fault : (says : ℕ → List ℕ → Said) (whole : Said) (o : DhcpOption) (row : OptionsRead) (void : Bool) (fault : DhcpFault) (before leases after end : List Lease)
    → Goes whole (row_says says (record { options = o ∷ row.options; rest = row.rest })) void before leases
    → TellsLeases (says (option_code o) o.content) (Err fault) leases after
    → TellsLeases whole (Err fault) before end
goes_fault says whole o row void fault before leases after end known told = (
  (told.0 ++ faults_in says row.options) ++ overrun row.rest,
  known.same_faults ∙ ap (λ (l : List DhcpFault). (l ++ faults_in says row.options) ++ overrun row.rest) told.1,
)

goes_overrun : (says : ℕ → List ℕ → Said) (whole : Said) (octet : ℕ) (octets : List ℕ) (void : Bool) (before leases end : List Lease)
    → Goes whole (row_says says (record { options = []; rest = octet ∷ octets })) void before leases
    → TellsLeases whole (Err Overrun) before end
goes_overrun says whole octet octets void before leases end known = ([], known.same_faults)

-- the same for each function that gives rows, with the rest of the octets in place of what it says
abbrev pub Continues : ((List ℕ → OptionsRead) → ℕ → List ℕ → Said) → List ℕ → List ℕ → Bool → List Lease → List Lease → Type 0
Continues says octets rest void before leases =
    (row_of : List ℕ → OptionsRead) → GivesRows row_of → Goes (row_says (says row_of) (row_of octets)) (row_says (says row_of) (row_of rest)) void before leases

abbrev pub TellsEach : ((List ℕ → OptionsRead) → Said) → Result Bool DhcpFault → List Lease → List Lease → Type 0
TellsEach said result before after = (row_of : List ℕ → OptionsRead) → GivesRows row_of → TellsLeases (said row_of) result before after

pub starts : (says : (List ℕ → OptionsRead) → ℕ → List ℕ → Said) (octets : List ℕ) (before : List Lease) → Continues says octets octets false before before
starts says octets before row_of gives = record { same_faults = refl; same_void = refl; same_leases = refl }

at_option : (says : ℕ → List ℕ → Said) (r : Result Bool DhcpFault) (leases after : List Lease) (m n : ℕ) (c d : List ℕ) → m ≡ n → c ≡ d → TellsLeases (says n d) r leases after → TellsLeases (says m c) r leases after
at_option says r leases after m n c d e f told =
    let P : ℕ → Type 0 = λ k. TellsLeases (says k d) r leases after in
    let Q : List ℕ → Type 0 = λ l. TellsLeases (says m l) r leases after in
    subst Q (sym f) (subst P (sym e) told)

pub goes_on : (says : (List ℕ → OptionsRead) → ℕ → List ℕ → Said) (octets rest behind content : List ℕ) (code : ℕ) (void voids : Bool) (before leases after : List Lease)
    → Continues says octets rest void before leases → BeginsWith rest code content behind
    → TellsEach (λ row_of. says row_of code content) (Ok voids) leases after
    → Continues says octets behind (void || voids) before after
goes_on says octets rest behind content code void voids before leases after known begins told row_of gives =
    let o = begins.0 in
    let P : OptionsRead → Type 0 = λ row. Goes (row_says (says row_of) (row_of octets)) (row_says (says row_of) row) void before leases in
    let g = subst P (row_begins row_of gives rest behind o begins.1 begins.4) (known row_of gives) in
    goes_more (says row_of) (row_says (says row_of) (row_of octets)) o (row_of behind) void voids before leases after g
    (at_option (says row_of) (Ok voids) leases after (option_code o) code o.content content begins.2 begins.3 (told row_of gives))

pub stops_at : (says : (List ℕ → OptionsRead) → ℕ → List ℕ → Said) (octets rest behind content : List ℕ) (code : ℕ) (void : Bool) (fault : DhcpFault) (before leases after end : List Lease)
    → Continues says octets rest void before leases → BeginsWith rest code content behind
    → TellsEach (λ row_of. says row_of code content) (Err fault) leases after
    → TellsEach (λ row_of. row_says (says row_of) (row_of octets)) (Err fault) before end
stops_at says octets rest behind content code void fault before leases after end known begins told row_of gives =
    let o = begins.0 in
    let P : OptionsRead → Type 0 = λ row. Goes (row_says (says row_of) (row_of octets)) (row_says (says row_of) row) void before leases in
    let g = subst P (row_begins row_of gives rest behind o begins.1 begins.4) (known row_of gives) in
    goes_fault (says row_of) (row_says (says row_of) (row_of octets)) o (row_of behind) void fault before leases after end g
    (at_option (says row_of) (Err fault) leases after (option_code o) code o.content content begins.2 begins.3 (told row_of gives))

pub overruns : (says : (List ℕ → OptionsRead) → ℕ → List ℕ → Said) (octets rest : List ℕ) (void : Bool) (before leases end : List Lease)
    → Continues says octets rest void before leases → BeginsNone rest → 0 < length rest
    → TellsEach (λ row_of. row_says (says row_of) (row_of octets)) (Err Overrun) before end
overruns says octets [] void before leases end known none some row_of gives = absurd (omega arith)
overruns says octets (octet ∷ rest) void before leases end known none some row_of gives =
    let P : OptionsRead → Type 0 = λ row. Goes (row_says (says row_of) (row_of octets)) (row_says (says row_of) row) void before leases in
    let g = subst P (row_ends row_of gives (octet ∷ rest) none) (known row_of gives) in
    goes_overrun (says row_of) (row_says (says row_of) (row_of octets)) octet rest void before leases end g

pub ends : (says : (List ℕ → OptionsRead) → ℕ → List ℕ → Said) (octets rest : List ℕ) (void : Bool) (before leases : List Lease)
    → Continues says octets rest void before leases → length rest ≡ 0
    → TellsEach (λ row_of. row_says (says row_of) (row_of octets)) (Ok void) before leases
ends says octets rest void before leases known none row_of gives =
    let P : OptionsRead → Type 0 = λ row. Goes (row_says (says row_of) (row_of octets)) (row_says (says row_of) row) void before leases in
    let e = row_ends row_of gives rest (begins_none rest (inl (omega arith))) in
    let at_end = ap (λ (l : List ℕ). record { options = []; rest = l }) (nil_from_length rest none) in
    let g = subst P (e ∙ at_end) (known row_of gives) in
    goes_end (says row_of) (row_says (says row_of) (row_of octets)) void before leases g
