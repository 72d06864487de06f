-- What each step of reading a message adds to its reading.
use Rattle.std.proofs.Common.{◌≡◌, ◌==◌, ℕ, ◌↔◌, Bool, IsTrue, bit_and, List, Result, Ok, Err, refl, sym, subst, inl, inr, ◌⊎◌, arith}
use Rattle.std.proofs.lemmas.Bool.{ne_eqb}
use Rattle.std.specs.Result.{MatchResult, IfOk, IfErr}
use Rattle.savi_kinds.specs.Prefixes.{LiesIn, multicast, unspecified}
use Rattle.v6_chain.specs.declared.packet.Ip.{Ip}
use Rattle.nd_read.specs.declared.message.Nd.TheVariants.{Rs, Ra, Ns, Na, Redirect, Other}
use Rattle.nd_read.specs.declared.message.NdFault.{NdFault}
use Rattle.nd_read.specs.declared.message.NdFault.TheVariants.{Target, Options, Unspecified, Solicited}
use Rattle.nd_read.specs.Messages.{IsRs, IsNs, IsNa, kind_of, flags_of, target_of, behind_fixed, named}
use Rattle.nd_read.specs.Options.{NdOption, AreOptions, HasKind}
use Rattle.nd_read.specs.Tests.{HasOptions, NamesSource, Passes, PassesBefore, HasTests, Reads, solicited_node}
use Rattle.nd_read.proofs.OptionLists.{kind_same}
use Rattle.nd_read.proofs.TestOrder.{before_more, before_all, first_failed}

-- the options of the message, by those of the octets behind its fixed part
abbrev pub Found : List ℕ → Result Bool NdFault → Type 0
Found octets r = MatchResult r (λ found. (options : List NdOption) × AreOptions octets options × (IsTrue found ↔ HasKind 1 options)) (λ fault. (fault ≡ Options) × ((options : List NdOption) → AreOptions octets options → ⊥))

pub options_ok : (octets message : List ℕ) (r : Result Bool NdFault) → octets ≡ behind_fixed message → Found octets r → IfOk r (λ named. HasOptions message × (IsTrue named ↔ NamesSource message))
options_ok octets message (Ok found) e h =
    let P : List ℕ → Type 0 = λ l. AreOptions l h.0 in
    let are = subst P e h.1 in (
      (h.0, are),
      ((λ t. (h.0, are, h.2.0 t)), (λ n. h.2.1 (kind_same 1 (behind_fixed message) n.0 h.0 n.1 are n.2))),
    )
options_ok octets message (Err fault) e h = tt

pub options_err : (octets message : List ℕ) (r : Result Bool NdFault) → octets ≡ behind_fixed message → Found octets r → IfErr r (λ fault. (fault ≡ Options) × (HasOptions message → ⊥))
options_err octets message (Ok found) e h = tt
options_err octets message (Err fault) e h =
    let P : List ℕ → Type 0 = λ l. (options : List NdOption) → AreOptions l options → ⊥ in
    (h.0, λ has. subst P e h.1 has.0 has.1)

-- the type that a message names
pub named-rs : (ip : Ip) (message : List ℕ) → IsRs message → named ip message ≡ Rs
unfolding named
named-rs ip message e = rw e refl

pub named-ns : (ip : Ip) (message : List ℕ) → IsNs message → named ip message ≡ Ns (target_of message) (ip.src.0 == unspecified)
unfolding named
named-ns ip message e = rw e refl

pub named-na : (ip : Ip) (message : List ℕ) → IsNa message → named ip message ≡ Na (target_of message) (flags_of message)
unfolding named
named-na ip message e = rw e refl

named-ra : (ip : Ip) (message : List ℕ) → kind_of message ≡ 134 → named ip message ≡ Ra
unfolding named
named-ra ip message e = rw e refl

named-redirect : (ip : Ip) (message : List ℕ) → kind_of message ≡ 137 → named ip message ≡ Redirect
unfolding named
named-redirect ip message e = rw e refl

named-other : (ip : Ip) (message : List ℕ) → (kind_of message ≡ 133 → ⊥) → (kind_of message ≡ 134 → ⊥) → (kind_of message ≡ 135 → ⊥) → (kind_of message ≡ 136 → ⊥) → (kind_of message ≡ 137 → ⊥) → named ip message ≡ Other
unfolding named
named-other ip message a b c d e = rw (ne_eqb (kind_of message) 133 a, ne_eqb (kind_of message) 134 b, ne_eqb (kind_of message) 135 c, ne_eqb (kind_of message) 136 d, ne_eqb (kind_of message) 137 e) refl

-- the messages that aren't tested
pub ra_reads : (ip : Ip) (message : List ℕ) → kind_of message ≡ 134 → Reads ip message (Ok Ra)
ra_reads ip message e = (sym (named-ra ip message e), λ tested. elim tested [ inl rs ↦ absurd (omega (arith, e, rs)) | inr h ↦ elim h [ inl ns ↦ absurd (omega (arith, e, ns)) | inr na ↦ absurd (omega (arith, e, na)) ] ])

pub redirect_reads : (ip : Ip) (message : List ℕ) → kind_of message ≡ 137 → Reads ip message (Ok Redirect)
redirect_reads ip message e = (sym (named-redirect ip message e), λ tested. elim tested [ inl rs ↦ absurd (omega (arith, e, rs)) | inr h ↦ elim h [ inl ns ↦ absurd (omega (arith, e, ns)) | inr na ↦ absurd (omega (arith, e, na)) ] ])

pub other_reads : (ip : Ip) (message : List ℕ) → (kind_of message ≡ 133 → ⊥) → (kind_of message ≡ 134 → ⊥) → (kind_of message ≡ 135 → ⊥) → (kind_of message ≡ 136 → ⊥) → (kind_of message ≡ 137 → ⊥) → Reads ip message (Ok Other)
other_reads ip message a b c d e = (sym (named-other ip message a b c d e), λ tested. elim tested [ inl rs ↦ absurd (a rs) | inr h ↦ elim h [ inl ns ↦ absurd (c ns) | inr na ↦ absurd (d na) ] ])

-- a router solicitation
pub rs_options : (ip : Ip) (message : List ℕ) → IsRs message → PassesBefore 5 ip message → PassesBefore 6 ip message
unfolding Passes
rs_options ip message rs known = before_more ip message Target known (λ h. elim h [ inl ns ↦ absurd (omega (arith, rs, ns)) | inr na ↦ absurd (omega (arith, rs, na)) ])

-- a target that isn't a group's
pub target_passed : (ip : Ip) (message : List ℕ) → PassesBefore 5 ip message → (LiesIn (target_of message).0 multicast → ⊥) → PassesBefore 6 ip message
unfolding Passes
target_passed ip message known single = before_more ip message Target known (λ h. single)

pub target_failed : (ip : Ip) (message : List ℕ) → IsNs message ⊎ IsNa message → PassesBefore 5 ip message → LiesIn (target_of message).0 multicast → Reads ip message (Err Target)
unfolding Passes
target_failed ip message kind known group = (inr kind, first_failed ip message Target known (λ p. p kind group))

pub options_failed : (ip : Ip) (message : List ℕ) → HasTests message → PassesBefore 6 ip message → (HasOptions message → ⊥) → Reads ip message (Err Options)
unfolding Passes
options_failed ip message tested known none = (tested, first_failed ip message Options known none)

pub options_passed : (ip : Ip) (message : List ℕ) → PassesBefore 6 ip message → HasOptions message → PassesBefore 7 ip message
unfolding Passes
options_passed ip message known has = before_more ip message Options known has

pub unspecified_failed : (ip : Ip) (message : List ℕ) → HasTests message → PassesBefore 7 ip message → ip.src.0 ≡ unspecified → ((IsRs message ⊎ IsNs message) × NamesSource message) ⊎ (IsNs message × (LiesIn ip.dst.0 solicited_node → ⊥)) → Reads ip message (Err Unspecified)
unfolding Passes
unspecified_failed ip message tested known here bad = (
  tested,
  first_failed ip message Unspecified known (λ p.
      elim bad [ inl names ↦ (p here).0 names.0 names.1 | inr away ↦ away.1 ((p here).1 away.0) ]),
)

pub rs_reads : (ip : Ip) (message : List ℕ) → IsRs message → PassesBefore 7 ip message → (ip.src.0 ≡ unspecified → NamesSource message → ⊥) → Reads ip message (Ok Rs)
unfolding Passes
rs_reads ip message rs known silent =
    let seven = before_more ip message Unspecified known (λ here. ((λ kind names. silent here names), (λ ns. absurd (omega (arith, rs, ns))))) in
    let eight = before_more ip message Solicited seven (λ na group. absurd (omega (arith, rs, na))) in
    (sym (named-rs ip message rs), λ tested. before_all ip message eight)

pub ns_reads : (ip : Ip) (message : List ℕ) → IsNs message → PassesBefore 7 ip message → (ip.src.0 ≡ unspecified → (NamesSource message → ⊥) × LiesIn ip.dst.0 solicited_node) → Reads ip message (Ok (Ns (target_of message) (ip.src.0 == unspecified)))
unfolding Passes
ns_reads ip message ns known right =
    let seven = before_more ip message Unspecified known (λ here. ((λ kind. (right here).0), (λ again. (right here).1))) in
    let eight = before_more ip message Solicited seven (λ na group. absurd (omega (arith, ns, na))) in
    (sym (named-ns ip message ns), λ tested. before_all ip message eight)

na_unspecified : (ip : Ip) (message : List ℕ) → IsNa message → PassesBefore 7 ip message → PassesBefore 8 ip message
unfolding Passes
na_unspecified ip message na known = before_more ip message Unspecified known (λ here.
    ((λ kind names. elim kind [ inl rs ↦ omega (arith, na, rs) | inr ns ↦ omega (arith, na, ns) ]), (λ ns. absurd (omega (arith, na, ns)))))

pub na_reads : (ip : Ip) (message : List ℕ) → IsNa message → PassesBefore 7 ip message → (LiesIn ip.dst.0 multicast → bit_and (flags_of message) 64 ≡ 0) → Reads ip message (Ok (Na (target_of message) (flags_of message)))
unfolding Passes
na_reads ip message na known unasked =
    let seven = na_unspecified ip message na known in
    let eight = before_more ip message Solicited seven (λ again. unasked) in
    (sym (named-na ip message na), λ tested. before_all ip message eight)

pub solicited_failed : (ip : Ip) (message : List ℕ) → IsNa message → PassesBefore 7 ip message → LiesIn ip.dst.0 multicast → (bit_and (flags_of message) 64 ≡ 0 → ⊥) → Reads ip message (Err Solicited)
unfolding Passes
solicited_failed ip message na known group asked =
    (inr (inr na), first_failed ip message Solicited (na_unspecified ip message na known) (λ p. asked (p na group)))
