-- The chain ends in one way, and not at a header that it goes on behind.
use Rattle.std.proofs.Common.{◌≡◌, ◌≢◌, ℕ, ◌<◌, ◌≤◌, Bool, true, false, cond, List, [], ◌∷◌, ◌++◌, length, nat_lt, IsTrue, refl, arith, ap, sym, ◌∙◌}
use Rattle.std.proofs.lemmas.Bool.{false≢true, lt-ltb, le-ltb}
use Rattle.std.proofs.lemmas.List.{length-append}
use Rattle.v6_chain.specs.declared.kind.Kind.{Kind}
use Rattle.v6_chain.specs.declared.kind.Kind.TheVariants as kinds
use Rattle.v6_chain.specs.declared.outcome.Chain.{Chain}
use Rattle.v6_chain.specs.declared.outcome.Chain.TheVariants.{Bad, Hidden, Unknown, Later, Upper}
use Rattle.v6_chain.specs.declared.outcome.ChainFault.TheVariants.{Cut, HopByHop, Twice}
use Rattle.v6_chain.specs.Kinds.{kind_of}
use Rattle.v6_chain.specs.Headers.{Header, size_at, offset_of, is_extension, has_fragment, MayStand, IsPassed, octets_of}
use Rattle.v6_chain.specs.Outcome.{IsWholeUpper, EndsIn}
use Rattle.v6_chain.proofs.Sizes.{size_least, size_at-append, offset_of-append}

cut_end : Bool → Chain
cut_end true = Hidden
cut_end false = Bad Cut

-- the end at what a value of this kind names
abbrev end_at : Kind → List Header → ℕ → List ℕ → Chain
end_at kinds.HopByHop [] value rest = Bad Cut
end_at kinds.HopByHop (last ∷ before) value rest = Bad HopByHop
end_at kinds.Extension before value rest = cut_end (has_fragment before)
end_at kinds.Authentication before value rest = cut_end (has_fragment before)
end_at kinds.Fragment before value rest = cond (has_fragment before) (Bad Twice) (cond (nat_lt (length rest) 8) (Bad Cut) Later)
end_at (kinds.Upper least) before value rest = cond (nat_lt (length rest) least) (cut_end (has_fragment before)) (Upper value (length (octets_of before)) (has_fragment before))
end_at kinds.Unknown before value rest = Unknown value

late_end : (before : List Header) (value : ℕ) (rest : List ℕ) → before ≢ [] → Bad HopByHop ≡ end_at kinds.HopByHop before value rest
late_end [] value rest h = absurd (h refl)
late_end (last ∷ before) value rest h = refl

cut_end_at : (kind : Kind) (before : List Header) (value : ℕ) (rest : List ℕ) → MayStand before kind → length rest < size_at kind rest → cut_end (has_fragment before) ≡ end_at kind before value rest
unfolding cut_end
cut_end_at kinds.HopByHop [] value rest may short = refl
cut_end_at kinds.HopByHop (last ∷ before) value rest may short = let none : last ∷ before ≡ [] = may.hop_by_hop refl in cc
cut_end_at kinds.Extension before value rest may short = refl
cut_end_at kinds.Authentication before value rest may short = refl
cut_end_at kinds.Fragment before value rest may short = rw (may.fragment refl, lt-ltb _ _ short) refl
cut_end_at (kinds.Upper least) before value rest may short = rw (lt-ltb _ _ short) refl
cut_end_at kinds.Unknown before value rest may short = absurd (omega arith)

upper_end : (kind : Kind) (before : List Header) (value : ℕ) (rest : List ℕ) → IsWholeUpper kind rest → Upper value (length (octets_of before)) (has_fragment before) ≡ end_at kind before value rest
upper_end (kinds.Upper least) before value rest whole = rw (le-ltb _ _ whole) refl
upper_end kinds.HopByHop before value rest whole = absurd whole
upper_end kinds.Extension before value rest whole = absurd whole
upper_end kinds.Authentication before value rest whole = absurd whole
upper_end kinds.Fragment before value rest whole = absurd whole
upper_end kinds.Unknown before value rest whole = absurd whole

is_end : (before : List Header) (value : ℕ) (rest : List ℕ) (outcome : Chain) → EndsIn before value rest outcome → outcome ≡ end_at (kind_of value) before value rest
unfolding cut_end
is_end before value rest (Bad HopByHop) h = rw h.0 (late_end before value rest h.1)
is_end before value rest (Bad Twice) h = rw (h.0, h.1) refl
is_end before value rest (Bad Cut) h = ap cut_end (sym h.1) ∙ cut_end_at (kind_of value) before value rest h.0.0 h.0.1
is_end before value rest Hidden h = ap cut_end (sym h.1) ∙ cut_end_at (kind_of value) before value rest h.0.0 h.0.1
is_end before value rest Later h = rw (h.0, h.1, le-ltb _ _ h.2) refl
is_end before value rest (Unknown unknown) h = rw (h.0, h.1) refl
is_end before value rest (Upper proto at fragmented) h = rw (h.1, h.2, h.3) (upper_end (kind_of value) before value rest h.0)

-- one end at each place
pub one_end : (before : List Header) (value : ℕ) (rest : List ℕ) (a b : Chain) → EndsIn before value rest a → EndsIn before value rest b → a ≡ b
one_end before value rest a b ha hb = is_end before value rest a ha ∙ sym (is_end before value rest b hb)

not_upper : (kind : Kind) (rest : List ℕ) → IsWholeUpper kind rest → IsTrue (is_extension kind) → ⊥
not_upper (kinds.Upper least) rest whole extension = false≢true extension
not_upper kinds.HopByHop rest whole extension = whole
not_upper kinds.Extension rest whole extension = whole
not_upper kinds.Authentication rest whole extension = whole
not_upper kinds.Fragment rest whole extension = whole
not_upper kinds.Unknown rest whole extension = whole

not_cut : (before : List Header) (header : Header) (tail : List ℕ) → IsPassed before header → length (header.octets ++ tail) < size_at (kind_of header.value) (header.octets ++ tail) → ⊥
not_cut before header tail passed short =
    let least : 8 ≤ size_at (kind_of header.value) header.octets = size_least (kind_of header.value) header.octets passed.extension in
    let same : size_at (kind_of header.value) (header.octets ++ tail) ≡ size_at (kind_of header.value) header.octets = size_at-append (kind_of header.value) header.octets tail (omega (arith, passed.whole, least)) in
    omega (arith, length-append header.octets tail, passed.whole, same, short)

not_later : (before : List Header) (header : Header) (tail : List ℕ) → IsPassed before header → kind_of header.value ≡ kinds.Fragment → offset_of (header.octets ++ tail) ≢ 0 → ⊥
not_later before header tail passed kind_is late =
    let least : 8 ≤ size_at (kind_of header.value) header.octets = size_least (kind_of header.value) header.octets passed.extension in
    late (offset_of-append header.octets tail (omega (arith, passed.whole, least)) ∙ passed.first_fragment kind_is)

-- the chain doesn't end at a header that it goes on behind
pub no_end : (before : List Header) (header : Header) (tail : List ℕ) (outcome : Chain) → IsPassed before header → EndsIn before header.value (header.octets ++ tail) outcome → ⊥
no_end before header tail (Bad HopByHop) passed h = h.1 (passed.may_stand.hop_by_hop h.0)
no_end before header tail (Bad Twice) passed h = false≢true (sym (passed.may_stand.fragment h.0) ∙ h.1)
no_end before header tail (Bad Cut) passed h = not_cut before header tail passed h.0.1
no_end before header tail Hidden passed h = not_cut before header tail passed h.0.1
no_end before header tail Later passed h = not_later before header tail passed h.0 h.3
no_end before header tail (Unknown unknown) passed h = false≢true (ap is_extension (sym h.0) ∙ passed.extension)
no_end before header tail (Upper proto at fragmented) passed h = not_upper (kind_of header.value) _ h.0 passed.extension
