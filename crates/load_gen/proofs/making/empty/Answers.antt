use Rattle.std.proofs.Common.{◌≡◌, ℕ, List, [], ◌∷◌, ◌++◌, map, ap, sym, ◌∙◌, arith}
use Rattle.std.specs.List.{range_with_len}
use Rattle.std.proofs.lemmas.List.{map-append}
use Rattle.std.proofs.lemmas.List.FromFn.{map-range_with_len_more}
use Rattle.pcap_io.specs.Captures.{header_text}
use Rattle.load_gen.specs.Captures.{captures_of}
use Rattle.load_gen.specs.Writing.{octets_of}
use Rattle.load_gen.proofs.making.empty.Goals as goal

pub loop-place-preserved : goal.loop-place-preserved
loop-place-preserved c =
    let place = c.loop-place.place in
    ap (map octets_of) c.in_ok-push.ensures.items
    ∙ map-append octets_of c.loop-place.captures.items (c.in_ok-make.field-0 ∷ [])
    ∙ ap (λ (l : List (List ℕ)). l ++ octets_of c.in_ok-make.field-0 ∷ []) c.loop-place.invariant
    ∙ ap (λ (l : List ℕ). map (λ _. header_text) (range_with_len 0 place) ++ l ∷ []) c.in_ok-make.ensures
    ∙ sym (map-range_with_len_more (λ (_ : ℕ). header_text) 0 place place (omega arith))

pub returns : goal.returns
unfolding captures_of
returns c =
    let done : c.loop-place.place ≡ 5 = omega arith in
    c.loop-place.invariant ∙ ap (λ (n : ℕ). map (λ (_ : ℕ). header_text) (range_with_len 0 n)) done
