-- The function that takes options off the front finds the row of whole options, where there is one.
use Rattle.std.proofs.Common.{◌≡◌, ℕ, zero, suc, ◌+◌, ◌*◌, ◌≤◌, nat_le, ◌&&◌, ◌==◌, true, List, [], ◌∷◌, length, drop, Option, Some, None, refl, inl, inr, arith}
use Rattle.std.specs.List.{list_any}
use Rattle.std.specs.Bool.{Decides}
use Rattle.std.proofs.lemmas.Bool.{false≢true, both_ways, and_parts, and_from, cond_both, leb-true, le-leb}
use Rattle.std.proofs.lemmas.Bool.Decides.{Decides-eqb, Decides-or, Decides-like}
use Rattle.std.proofs.lemmas.List.{length-drop}
use Rattle.std.proofs.lemmas.List.Elements.{All-nil}
use Rattle.nd_read.specs.Options.{NdOption, IsWhole, AreOptions, HasKind}
use Rattle.nd_read.specs.OptionRow.{front_option, with_nd_option, options_within, option_row}
use Rattle.nd_read.proofs.OptionLists.{kind-head, kind-tail, kind-cons, kind-nil, begins, joins, alone}

-- the options that are found are the row, and none where there is none
abbrev pub IsRow : List ℕ → Option (List NdOption) → Type 0
IsRow octets (Some options) = AreOptions octets options
IsRow octets None = (options : List NdOption) → AreOptions octets options → ⊥

front_row : (kind units : ℕ) (tail : List ℕ) (found : Option (List NdOption)) → 1 ≤ units → 8 * units ≤ 2 + length tail → IsRow (drop (8 * units) (kind ∷ units ∷ tail)) found → IsRow (kind ∷ units ∷ tail) (with_nd_option (front_option kind units tail) found)
front_row kind units tail (Some others) some within row = joins kind units tail others some within row
front_row kind units tail None some within none = λ options are. let first = begins kind units tail options are in none first.others first.are

row_is : (most : ℕ) (octets : List ℕ) → length octets ≤ most → IsRow octets (options_within most octets)
row_is most [] few = record { whole = All-nil IsWhole; row = refl }
row_is zero (kind ∷ rest) few = absurd (omega (arith, few))
row_is (suc most) (kind ∷ []) few = alone kind
row_is (suc most) (kind ∷ units ∷ tail) few =
    let rest : List ℕ = drop (8 * units) (kind ∷ units ∷ tail) in
    cond_both (nat_le 1 units && nat_le (8 * units) (2 + length tail)) (with_nd_option (front_option kind units tail) (options_within most rest)) None (IsRow (kind ∷ units ∷ tail))
    (λ fits.
    let parts : (nat_le 1 units ≡ true) × (nat_le (8 * units) (2 + length tail) ≡ true) = and_parts (nat_le 1 units) (nat_le (8 * units) (2 + length tail)) fits in
    let some : 1 ≤ units = leb-true 1 units parts.0 in
    let shorter : length rest ≤ most = omega (arith, length-drop (8 * units) (kind ∷ units ∷ tail), few, some) in
    front_row kind units tail (options_within most rest) some (leb-true (8 * units) (2 + length tail) parts.1) (row_is most rest shorter))
    (λ cut options are.
    let first = begins kind units tail options are in
    let some : 1 ≤ units = first.some in
    let within : 8 * units ≤ length (kind ∷ units ∷ tail) = first.within in
    both_ways _ cut (and_from _ _ (le-leb 1 units some) (le-leb (8 * units) (2 + length tail) (omega (arith, within)))))

pub kind_decided : (kind : ℕ) (options : List NdOption) → Decides (list_any (λ option. option.kind == kind) options) (HasKind kind options)
kind_decided kind [] = ((λ t. absurd (false≢true t)), (λ h. absurd (kind-nil kind h)))
kind_decided kind (o ∷ os) =
    Decides-like _
    (λ h. elim h [ inl e ↦ kind-head kind o os e | inr g ↦ kind-tail kind o os g ])
    (kind-cons kind o os)
    (Decides-or (o.kind == kind) (list_any (λ option. option.kind == kind) os) (Decides-eqb o.kind kind) (kind_decided kind os))

-- the row of octets is found
pub option_row-is : (octets : List ℕ) → IsRow octets (option_row octets)
option_row-is octets = row_is (length octets) octets (omega arith)
