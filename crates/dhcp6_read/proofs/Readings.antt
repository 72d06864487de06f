-- What a message reads as: the same by each function that gives rows.
use Rattle.std.proofs.Common.{◌≡◌, ℕ, ◌<◌, ◌≤◌, Bool, true, false, cond, Option, None, Result, Ok, Err, List, [], ◌++◌, length, drop, refl, sym, ap, ◌∙◌, subst}
use Rattle.std.proofs.Math.Path.{fun_ext}
use Rattle.std.proofs.lemmas.Bool.{lt-ltb, le-ltb}
use Rattle.arrayvec.specs.ArrayVec.{ArrayVec}
use Rattle.dhcp6_read.specs.declared.message.Lease.{Lease}
use Rattle.dhcp6_read.specs.declared.message.Dhcp.{Dhcp}
use Rattle.dhcp6_read.specs.declared.message.DhcpFault.{DhcpFault}
use Rattle.dhcp6_read.specs.declared.message.DhcpFault.TheVariants.{Short}
use Rattle.dhcp6_read.specs.Options.{OptionsRead, GivesRows}
use Rattle.dhcp6_read.specs.Levels.{Said, row_says, in_message}
use Rattle.dhcp6_read.specs.Message.{kind_of, tid_of, is_relayed, duid_in, is_rapid, unless_fault, unread, read_whole, options_read, reading, Reads}
use Rattle.dhcp6_read.specs.DhcpOf.{option_row, dhcp_of}
use Rattle.dhcp6_read.specs.Steps.{TellsLeases}
use Rattle.dhcp6_read.proofs.Rows.{gives_rows, row_same}

abbrev pub ReadsEach : List ℕ → Result Dhcp DhcpFault → Type 0
ReadsEach message result = (row_of : List ℕ → OptionsRead) → GivesRows row_of → result ≡ reading row_of message

pub reads_so : (message : List ℕ) (result : Result Dhcp DhcpFault) → ReadsEach message result → Reads message result
reads_so message result each = (option_row, gives_rows, each option_row gives_rows)

pub reads_only : (message : List ℕ) (result : Result Dhcp DhcpFault) → ReadsEach message result → (other : Result Dhcp DhcpFault) → Reads message other → other ≡ result
reads_only message result each other reads = reads.2 ∙ sym (each reads.0 reads.1)

pub short_reads : (message : List ℕ) → length message < 4 → ReadsEach message (Err Short)
short_reads message few row_of gives = rw (lt-ltb (length message) 4 few) refl

-- a message with a header, by whether relays send it
headed : (row_of : List ℕ → OptionsRead) (message : List ℕ) (relayed : Bool) → 4 ≤ length message → is_relayed (kind_of message) ≡ relayed → reading row_of message ≡ cond relayed (Ok (unread message)) (options_read row_of message (row_of (drop 4 message)))
headed row_of message relayed long e =
    let short : Result Dhcp DhcpFault = Err Short in
    let rest = options_read row_of message (row_of (drop 4 message)) in
    ap (λ (b : Bool). cond b short (cond (is_relayed (kind_of message)) (Ok (unread message)) rest)) (le-ltb (length message) 4 long)
    ∙ ap (λ (b : Bool). cond b (Ok (unread message)) rest) e

same_dhcp : (d : Dhcp) (kind tid : ℕ) (duid : Option (ArrayVec ℕ)) (rapid : Bool) (leases : List Lease) → d.kind ≡ kind → d.tid ≡ tid → d.duid ≡ duid → d.rapid ≡ rapid → d.leases.items ≡ leases
    → d ≡ record { kind = kind; tid = tid; duid = duid; rapid = rapid; leases = record { items = leases } }
same_dhcp d kind tid duid rapid leases a b c e f =
    let made : ℕ → ℕ → Option (ArrayVec ℕ) → Bool → List Lease → Dhcp = λ k t u r l. record { kind = k; tid = t; duid = u; rapid = r; leases = record { items = l } } in
    ap (λ (k : ℕ). made k d.tid d.duid d.rapid d.leases.items) a
    ∙ ap (λ (t : ℕ). made kind t d.duid d.rapid d.leases.items) b
    ∙ ap (λ (u : Option (ArrayVec ℕ)). made kind tid u d.rapid d.leases.items) c
    ∙ ap (λ (r : Bool). made kind tid duid r d.leases.items) e
    ∙ ap (λ (l : List Lease). made kind tid duid rapid l) f

pub relayed_reads : (message : List ℕ) (d : Dhcp) → 4 ≤ length message → is_relayed (kind_of message) ≡ true → d.kind ≡ kind_of message → d.tid ≡ tid_of message → d.duid ≡ None → d.rapid ≡ false → d.leases.items ≡ [] → ReadsEach message (Ok d)
relayed_reads message d long e k t u r l row_of gives =
    let ok : Dhcp → Result Dhcp DhcpFault = λ x. Ok x in
    ap ok (same_dhcp d (kind_of message) (tid_of message) None false [] k t u r l) ∙ sym (headed row_of message true long e)

-- what the options of a message say, by the octets behind its first 4
abbrev pub said_by : (List ℕ → OptionsRead) → List ℕ → List ℕ → Said
said_by row_of message octets = row_says (in_message row_of (kind_of message)) (row_of octets)

-- what is known of them, whichever function gives rows
abbrev pub TellsOf : List ℕ → List ℕ → Result Bool DhcpFault → List Lease → List Lease → Type 0
TellsOf message octets result before after = (row_of : List ℕ → OptionsRead) → GivesRows row_of → TellsLeases (said_by row_of message octets) result before after

pub fault_reads : (message octets : List ℕ) (fault : DhcpFault) (before after : List Lease) → 4 ≤ length message → octets ≡ drop 4 message → is_relayed (kind_of message) ≡ false
    → TellsOf message octets (Err fault) before after → ReadsEach message (Err fault)
fault_reads message octets fault before after long at e told row_of gives =
    let behind = drop 4 message in
    let P : List ℕ → Type 0 = λ l. TellsLeases (said_by row_of message l) (Err fault) before after in
    let value = read_whole message (row_of behind).options (said_by row_of message behind) in
    sym (headed row_of message false long e ∙ ap (λ (l : List DhcpFault). unless_fault l value) (subst P at (told row_of gives)).1)

-- what is read in a message without a fault, all but the leases
pub record HasRead (message octets : List ℕ) (d : Dhcp) (row_of : List ℕ → OptionsRead) : Type 0 where
  pub kind : d.kind ≡ kind_of message
  pub tid : d.tid ≡ tid_of message
  pub duid : d.duid ≡ duid_in (row_of octets).options
  pub rapid : d.rapid ≡ is_rapid (row_of octets).options

pub whole_reads : (message octets : List ℕ) (d : Dhcp) (void : Bool) (before after : List Lease) → 4 ≤ length message → octets ≡ drop 4 message → is_relayed (kind_of message) ≡ false
    → ((row_of : List ℕ → OptionsRead) → GivesRows row_of → HasRead message octets d row_of) → TellsOf message octets (Ok void) before after → before ≡ []
    → d.leases.items ≡ cond void [] after → ReadsEach message (Ok d)
whole_reads message octets d void before after long at e has told none leases row_of gives =
    let behind = drop 4 message in
    let P : List ℕ → Type 0 = λ l. TellsLeases (said_by row_of message l) (Ok void) before after in
    let Q : List ℕ → Type 0 = λ l. HasRead message l d row_of in
    let k = subst Q at (has row_of gives) in
    let t = subst P at (told row_of gives) in
    let options = (row_of behind).options in
    let said = said_by row_of message behind in
    let empty : List Lease = [] in
    let same : after ≡ said.leases = t.2 ∙ ap (λ (l : List Lease). l ++ said.leases) none in
    let kept : d.leases.items ≡ cond said.void [] said.leases = leases ∙ ap (λ (l : List Lease). cond void empty l) same ∙ ap (λ (b : Bool). cond b empty said.leases) (sym t.1) in
    let ok : Dhcp → Result Dhcp DhcpFault = λ x. Ok x in
    let value = read_whole message options said in
    ap ok (same_dhcp d (kind_of message) (tid_of message) (duid_in options) (is_rapid options) (cond said.void [] said.leases) k.kind k.tid k.duid k.rapid kept)
    ∙ sym (headed row_of message false long e ∙ ap (λ (l : List DhcpFault). unless_fault l value) t.0)

-- `dhcp_of` is a reading of each message
pub dhcp_is : (message : List ℕ) → Reads message (dhcp_of message)
unfolding dhcp_of
dhcp_is message = (option_row, gives_rows, refl)

-- a message has one reading
pub same_dhcp_reading : (message : List ℕ) (a b : Result Dhcp DhcpFault) → Reads message a → Reads message b → a ≡ b
same_dhcp_reading message a b p q =
    let same : p.0 ≡ q.0 = fun_ext (λ octets. row_same octets (p.0 octets) (q.0 octets) (p.1 octets) (q.1 octets)) in
    p.2 ∙ ap (λ (r : List ℕ → OptionsRead). reading r message) same ∙ sym q.2
