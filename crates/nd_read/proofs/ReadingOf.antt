-- Each message has a reading, the one that `nd_of` gives.
use Rattle.std.proofs.Common.{◌≡◌, ℕ, ◌+◌, ◌||◌, ◌==◌, not, Bool, List, [], ◌∷◌, length, find, Option, Some, None, is_some, Result, Ok, bit_and, refl, sym, ap, subst, inl, inr}
use Rattle.std.specs.Bool.{Decides}
use Rattle.std.proofs.lemmas.Bool.{false≢true, both_ways, not-true, not-false, not_from_false, or_cases, or_left, or_right, cases_Bool, cond_both}
use Rattle.std.proofs.lemmas.Bool.Decides.{Decides-eqb, Decides-and, Decides-or, Decides-not, Decides-like, not_from_Decides}
use Rattle.savi_kinds.specs.Prefixes.{multicast, unspecified}
use Rattle.v6_chain.specs.declared.packet.Ip.{Ip}
use Rattle.v6_sum.specs.InternetChecksum.{checksum}
use Rattle.nd_read.specs.declared.message.Nd.{Nd}
use Rattle.nd_read.specs.declared.message.NdFault.{NdFault}
use Rattle.nd_read.specs.declared.message.NdFault.TheVariants.{HopLimit, Code, Short, Checksum, Target, Options, Unspecified, Solicited}
use Rattle.nd_read.specs.Messages.{kind_of, code_of, flags_of, target_of, fixed_len, behind_fixed, named}
use Rattle.nd_read.specs.Options.{NdOption}
use Rattle.nd_read.specs.Tests.{HasOptions, NamesSource, Passes, PassesBefore, test_number, IsFirstFailed, HasTests, Reads, solicited_node}
use Rattle.nd_read.specs.OptionRow.{has_kind}
use Rattle.nd_read.specs.NdOf.{implies, options_of, is_rs, is_ns, is_na, is_tested, passes, tests, first_fault, unless_failed, nd_of}
use Rattle.nd_read.proofs.InPrefix.{Decides-leb, Decides-lies_in}
use Rattle.nd_read.proofs.OptionLists.{kind_same}
use Rattle.nd_read.proofs.OptionRow.{IsRow, kind_decided, option_row-is}
use Rattle.nd_read.proofs.TestOrder.{before_none, before_more, before_all, first_failed, same_reading}

pub Decides-implies : {P Q : Type 0} → (x y : Bool) → Decides x P → Decides y Q → Decides (implies x y) (P → Q)
Decides-implies x y p q = (
  λ holds h. elim (or_cases (not x) y holds) [ inl none ↦ absurd (both_ways x (not-true x none) (p.1 h)) | inr second ↦ q.0 second ],
  λ h. elim (cases_Bool x) [ inl first ↦ or_right (not x) y (q.1 (h (p.0 first))) | inr none ↦ or_left (not x) y (not_from_false x none) ],
)

options_decided : (message : List ℕ) (found : Option (List NdOption)) → IsRow (behind_fixed message) found → Decides (is_some found) (HasOptions message)
options_decided message (Some options) row = ((λ t. (options, row)), (λ h. refl))
options_decided message None none = ((λ t. absurd (false≢true t)), (λ h. absurd (none h.0 h.1)))

source_decided : (message : List ℕ) (found : Option (List NdOption)) → IsRow (behind_fixed message) found → Decides (has_kind 1 found) (NamesSource message)
source_decided message (Some options) row =
    Decides-like (has_kind 1 (Some options)) (λ h. (options, row, h)) (λ n. kind_same 1 (behind_fixed message) n.0 options n.1 row n.2) (kind_decided 1 options)
source_decided message None none = ((λ t. absurd (false≢true t)), (λ n. absurd (none n.0 n.1)))

pub passes_decided : (test : NdFault) (ip : Ip) (message : List ℕ) → Decides (passes test ip message) (Passes test ip message)
unfolding passes Passes
passes_decided HopLimit ip message = Decides-eqb ip.hop 255
passes_decided Code ip message = Decides-eqb (code_of message) 0
passes_decided Short ip message = Decides-leb (fixed_len message) (length message)
passes_decided Checksum ip message = Decides-eqb (checksum ip.src ip.dst 58 message) 0
passes_decided Target ip message =
    Decides-implies (is_ns message || is_na message) _ (Decides-or (is_ns message) _ (Decides-eqb (kind_of message) 135) (Decides-eqb (kind_of message) 136))
    (Decides-not _ (Decides-lies_in (target_of message).0 multicast))
passes_decided Options ip message = options_decided message (options_of message) (option_row-is (behind_fixed message))
passes_decided Unspecified ip message =
    Decides-implies (ip.src.0 == unspecified) _ (Decides-eqb ip.src.0 unspecified)
    (Decides-and
    (implies (is_rs message || is_ns message) (not (has_kind 1 (options_of message))))
    _
    (Decides-implies _ _ (Decides-or (is_rs message) _ (Decides-eqb (kind_of message) 133) (Decides-eqb (kind_of message) 135)) (Decides-not _ (source_decided message (options_of message) (option_row-is (behind_fixed message)))))
    (Decides-implies _ _ (Decides-eqb (kind_of message) 135) (Decides-lies_in ip.dst.0 solicited_node)))
passes_decided Solicited ip message =
    Decides-implies _ _ (Decides-eqb (kind_of message) 136)
    (Decides-implies _ _ (Decides-lies_in ip.dst.0 multicast) (Decides-eqb (bit_and (flags_of message) 0x40) 0))

pub tested_decided : (message : List ℕ) → Decides (is_tested message) (HasTests message)
tested_decided message =
    Decides-or (is_rs message) _ (Decides-eqb (kind_of message) 133)
    (Decides-or (is_ns message) _ (Decides-eqb (kind_of message) 135) (Decides-eqb (kind_of message) 136))

-- these are the tests from this place on
abbrev AreFrom : ℕ → List NdFault → Type 0
AreFrom place [] = place ≡ 9
AreFrom place (test ∷ later) = (test_number test ≡ place) × AreFrom (place + 1) later

tests_are : AreFrom 1 tests
tests_are = (refl, (refl, (refl, (refl, (refl, (refl, (refl, (refl, refl))))))))

-- the first test that fails, if one does
abbrev IsFault : Ip → List ℕ → Option NdFault → Type 0
IsFault ip message (Some fault) = IsFirstFailed ip message fault
IsFault ip message None = PassesBefore 9 ip message

fault_is : (ip : Ip) (message : List ℕ) (later : List NdFault) (place : ℕ) → AreFrom place later → PassesBefore place ip message → IsFault ip message (find (λ test. not (passes test ip message)) later)
fault_is ip message [] place from known = let P : ℕ → Type 0 = λ n. PassesBefore n ip message in subst P from known
fault_is ip message (test ∷ later) place from known =
    let P : ℕ → Type 0 = λ n. PassesBefore n ip message in
    let before : PassesBefore (test_number test) ip message = subst P (sym from.0) known in
    let decided : Decides (passes test ip message) (Passes test ip message) = passes_decided test ip message in
    cond_both (not (passes test ip message)) (Some test) (find (λ test. not (passes test ip message)) later) (IsFault ip message)
    (λ fails. first_failed ip message test before (not_from_Decides _ decided (not-true _ fails)))
    (λ holds.
    let more : PassesBefore (test_number test + 1) ip message = before_more ip message test before (decided.0 (not-false _ holds)) in
    fault_is ip message later (place + 1) from.1 (subst P (ap (λ (n : ℕ). n + 1) from.0) more))

reads_by : (ip : Ip) (message : List ℕ) (fault : Option NdFault) → HasTests message → IsFault ip message fault → Reads ip message (unless_failed (named ip message) fault)
reads_by ip message (Some fault) tested first = (tested, first)
reads_by ip message None tested all = (refl, λ h. before_all ip message all)

-- `nd_of` is a reading of each message
pub nd_is : (ip : Ip) (message : List ℕ) → Reads ip message (nd_of ip message)
unfolding nd_of
nd_is ip message =
    let decided : Decides (is_tested message) (HasTests message) = tested_decided message in
    cond_both (is_tested message) (unless_failed (named ip message) (first_fault ip message)) (Ok (named ip message)) (Reads ip message)
    (λ holds. reads_by ip message (first_fault ip message) (decided.0 holds) (fault_is ip message tests 1 tests_are (before_none ip message)))
    (λ not_one. (refl, λ tested. absurd (not_from_Decides (is_tested message) decided not_one tested)))

-- and the only one
pub nd_only : (ip : Ip) (message : List ℕ) (reading : Result Nd NdFault) → Reads ip message reading → reading ≡ nd_of ip message
nd_only ip message reading reads = same_reading ip message reading (nd_of ip message) reads (nd_is ip message)
