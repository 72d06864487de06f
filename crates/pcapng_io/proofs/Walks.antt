-- Options one behind the other, as far as they were read.
use Rattle.std.proofs.Common.{◌≡◌, ℕ, ◌+◌, ◌≤◌, Bool, true, false, List, [], ◌∷◌, ◌++◌, length, inl, inr, refl, sym, ap, subst, ◌∙◌, arith, append_assoc, append-nil, length-append, All, IsTrue}
use Rattle.std.proofs.lemmas.List.Elements.{All-tail, All-nil, All-append, All-cons}
use Rattle.pcap_io.specs.declared.kind.ByteOrder.{ByteOrder}
use Rattle.pcapng_io.specs.Numbers.{half_at}
use Rattle.pcapng_io.specs.Options.{padded, BlockOption, IsOption, EndsOptions, AreOptions, IsSettled, resolved, Settle, HaveOptions}
use Rattle.pcapng_io.specs.Pieces.{AreFront}
use Rattle.pcapng_io.proofs.Fronts.{half_front}
use Rattle.pcapng_io.proofs.Parts.{same_fronts}

-- these octets are these options, with any others behind them
pub record HasWalked (order : ByteOrder) (earlier : List BlockOption) (gave : List ℕ) : Type 0 where
  pub forth : (rest : List ℕ) (later : List BlockOption) → AreOptions order later rest → AreOptions order (earlier ++ later) (gave ++ rest)
  pub back : (rest : List ℕ) (options : List BlockOption) → AreOptions order options (gave ++ rest) → (later : List BlockOption) × (options ≡ earlier ++ later) × AreOptions order later rest

pub walked_none : (order : ByteOrder) → HasWalked order [] []
walked_none order = record { forth = λ rest later are. are; back = λ rest options are. (options, refl, are) }

option_least : (order : ByteOrder) (one : List ℕ) (o : BlockOption) → IsOption order one o → 4 ≤ length one
option_least order one o is = omega (arith, is.size)

abbrev option_by : ℕ → List ℕ → BlockOption
option_by code value = record { code = code; value = value }

-- octets are one option
same_option : (order : ByteOrder) (one : List ℕ) (o p : BlockOption) → IsOption order one o → IsOption order one p → p ≡ o
same_option order one o p is other =
    ap (λ (c : ℕ). option_by c p.value) (other.code_is ∙ sym is.code_is) ∙ ap (λ (v : List ℕ). option_by o.code v) (other.value_is ∙ sym is.value_is)

-- where octets begin with an option that is it
pub first_option : (order : ByteOrder) (one rest : List ℕ) (o : BlockOption) (options : List BlockOption) → IsOption order one o → AreOptions order options (one ++ rest) → (later : List BlockOption) × (options ≡ o ∷ later) × AreOptions order later rest
first_option order one rest o [] is (inl none) = absurd (omega (arith, option_least order one o is, ap length none, length-append one rest))
first_option order one rest o [] is (inr code) = absurd (is.some (sym (half_front order 0 one rest (omega (arith, option_least order one o is))) ∙ code.1))
first_option order one rest o (p ∷ options) is are =
    let front = are.0 in
    let named : half_at order 2 one ≡ half_at order 2 front =
    sym (half_front order 2 one rest (omega (arith, option_least order one o is)))
    ∙ ap (λ (l : List ℕ). half_at order 2 l) are.2
    ∙ half_front order 2 front are.1 (omega (arith, option_least order front p are.3)) in
    let same = same_fronts one rest front are.1 are.2 (is.size ∙ ap (λ (n : ℕ). 4 + padded n) named ∙ sym are.3.size) in (
      options,
      ap (λ (q : BlockOption). q ∷ options) (same_option order one o p is (subst (λ (l : List ℕ). IsOption order l p) same.0 are.3)),
      subst (λ (l : List ℕ). AreOptions order options l) (sym same.1) are.4,
    )

pub walked_more : (order : ByteOrder) (earlier : List BlockOption) (gave one : List ℕ) (o : BlockOption) → HasWalked order earlier gave → IsOption order one o → HasWalked order (earlier ++ o ∷ []) (gave ++ one)
walked_more order earlier gave one o was is = record {
  forth = λ rest later are. rw (append_assoc earlier (o ∷ []) later, append_assoc gave one rest) (was.forth (one ++ rest) (o ∷ later) (one, rest, refl, is, are));
  back = λ rest options are.
      let joined = was.back (one ++ rest) options (subst (λ (l : List ℕ). AreOptions order options l) (append_assoc gave one rest) are) in
      let first = first_option order one rest o joined.0 is joined.2 in
      (first.0, joined.1 ∙ ap (λ (l : List BlockOption). earlier ++ l) first.1 ∙ sym (append_assoc earlier (o ∷ []) first.0), first.2);
}

pub resolved_more : (earlier later : List BlockOption) (units : ℕ) → resolved units (earlier ++ later) ≡ resolved (resolved units earlier) later
resolved_more [] later units = refl
resolved_more (o ∷ earlier) later units = resolved_more earlier later _

all_behind : (earlier later : List BlockOption) → All IsSettled (earlier ++ later) → All IsSettled later
all_behind [] later all = all
all_behind (o ∷ earlier) later all = all_behind earlier later (All-tail IsSettled o (earlier ++ later) all)

-- before the first option
pub settle_none : (b : Bool) → Settle b [] 1000000
settle_none true = (All-nil IsSettled, refl)
settle_none false = tt

-- one option more
pub settle_more : (b : Bool) (earlier : List BlockOption) (o : BlockOption) (units behind : ℕ) → Settle b earlier units → (IsTrue b → IsSettled o × (behind ≡ resolved units (o ∷ []))) → Settle b (earlier ++ o ∷ []) behind
settle_more true earlier o units behind was one =
    let more = one refl in (
      All-append IsSettled earlier (o ∷ []) was.0 (All-cons IsSettled o [] more.0 (All-nil IsSettled)),
      more.1 ∙ ap (λ (n : ℕ). resolved n (o ∷ [])) was.1 ∙ sym (resolved_more earlier (o ∷ []) 1000000),
    )
settle_more false earlier o units behind was one = tt

settle_later : (b : Bool) (earlier later : List BlockOption) (units : ℕ) → Settle b (earlier ++ later) units → (behind : ℕ) × Settle b later behind
settle_later true earlier later units settle = (resolved 1000000 later, (all_behind earlier later settle.0, refl))
settle_later false earlier later units settle = (0, tt)

-- options that have these in front have the others behind them
pub front_behind : (order : ByteOrder) (b : Bool) (len missing : ℕ) (earlier : List BlockOption) (gave x : List ℕ) → HasWalked order earlier gave → length gave + missing ≡ len → AreFront order b len (gave ++ x) → AreFront order b missing x
front_behind order b len missing earlier gave x walked size front =
    let back = walked.back x front.1.1.0 front.1.1.1 in
    let settle = settle_later b earlier back.0 front.1.0 (subst (λ (l : List BlockOption). Settle b l front.1.0) back.1 front.1.1.2) in
    (omega (arith, size, front.0, length-append gave x), (settle.0, (back.0, back.2, settle.1)))

-- the end of the options behind these
pub walked_end : (order : ByteOrder) (b : Bool) (earlier : List BlockOption) (gave rest : List ℕ) (units : ℕ) → HasWalked order earlier gave → Settle b earlier units → EndsOptions order rest → HaveOptions order b units (gave ++ rest)
walked_end order b earlier gave rest units walked settle ends =
    (earlier, subst (λ (l : List BlockOption). AreOptions order l (gave ++ rest)) (append-nil earlier) (walked.forth rest [] ends), settle)
