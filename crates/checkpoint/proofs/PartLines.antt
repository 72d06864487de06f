-- The parts of states have their lines.
use Rattle.std.proofs.Common.{ℕ, ◌≡◌, ◌+◌, ◌*◌, ◌≤◌, List, [], ◌∷◌, ◌++◌, length, map, Option, Some, None, refl, sym, ap, ◌∙◌, arith}
use Rattle.std.specs.List.{flat_map}
use Rattle.std.proofs.lemmas.List.{map-append, length-append, append-nil}
use Rattle.std.proofs.lemmas.Grind.{flat_map-append}
use Rattle.savi_kinds.specs.declared.port.Port.{Port}
use Rattle.savi_kinds.specs.AddrText.{addr_text}
use Rattle.fcfs_states.specs.declared.state.Fcfs.{Fcfs}
use Rattle.fcfs_states.specs.declared.state.Fcfs.TheVariants.{NoBind, Tentative, Valid, TestLt, TestVp}
use Rattle.dhcp_states.specs.declared.bound.Bound.{Bound}
use Rattle.savi_access.specs.declared.row.Row.{Row}
use Rattle.checkpoint.specs.declared.part.Part.{Part}
use Rattle.checkpoint.specs.StateLines.{text_in_vlan, fixed_lines, binding_base_lines, claim_base_lines, state_base_lines}
use Rattle.checkpoint.specs.Parts.{part_line, fixed_parts, bound_parts, claimed_parts, parts_of}

abbrev key : ℕ × Row → List ℕ
key p = text_in_vlan (addr_text p.1.address) p.0

of_fixed : (p : ℕ × Row) (fixed : Option Port) → fixed_lines (key p) fixed ≡ map part_line (fixed_parts p fixed)
of_fixed p None = refl
of_fixed p (Some port) = refl

of_bound : (p : ℕ × Row) (dhcp : Option Bound) → binding_base_lines (key p) dhcp ≡ map part_line (bound_parts p dhcp)
of_bound p None = refl
of_bound p (Some bound) = refl

of_claimed : (p : ℕ × Row) (fcfs : Fcfs) → claim_base_lines (key p) fcfs ≡ map part_line (claimed_parts p fcfs)
of_claimed p NoBind = refl
of_claimed p (Tentative q since two) = refl
of_claimed p (Valid q until) = refl
of_claimed p (TestLt q since two) = refl
of_claimed p (TestVp q claimant since two) = refl

joined : {X Y : Type 0} (f : X → Y) (a b c : List X) (u v w : List Y) → u ≡ map f a → v ≡ map f b → w ≡ map f c → u ++ v ++ w ≡ map f (a ++ b ++ c)
joined {X} {Y} f a b c u v w one two three =
    ap (λ (l : List Y). l ++ v ++ w) one ∙ ap (λ (l : List Y). map f a ++ l ++ w) two ∙ ap (λ (l : List Y). map f a ++ map f b ++ l) three
    ∙ ap (λ (l : List Y). l ++ map f c) (sym (map-append f a b)) ∙ sym (map-append f (a ++ b) c)

of_row : (p : ℕ × Row) → state_base_lines p ≡ map part_line (parts_of p)
of_row p =
    joined part_line (fixed_parts p p.1.state.fixed) (bound_parts p p.1.state.dhcp) (claimed_parts p p.1.state.fcfs)
    (fixed_lines (key p) p.1.state.fixed) (binding_base_lines (key p) p.1.state.dhcp) (claim_base_lines (key p) p.1.state.fcfs)
    (of_fixed p p.1.state.fixed) (of_bound p p.1.state.dhcp) (of_claimed p p.1.state.fcfs)

pub of_rows : (rows : List (ℕ × Row)) → flat_map state_base_lines rows ≡ map part_line (flat_map parts_of rows)
of_rows [] = refl
of_rows (p ∷ rows) =
    ap (λ l. l ++ flat_map state_base_lines rows) (of_row p) ∙ ap (λ l. map part_line (parts_of p) ++ l) (of_rows rows)
    ∙ sym (map-append part_line (parts_of p) (flat_map parts_of rows))

few_fixed : (p : ℕ × Row) (fixed : Option Port) → length (fixed_parts p fixed) ≤ 1
few_fixed p None = omega arith
few_fixed p (Some port) = omega arith

few_bound : (p : ℕ × Row) (dhcp : Option Bound) → length (bound_parts p dhcp) ≤ 1
few_bound p None = omega arith
few_bound p (Some bound) = omega arith

few_claimed : (p : ℕ × Row) (fcfs : Fcfs) → length (claimed_parts p fcfs) ≤ 1
few_claimed p NoBind = omega arith
few_claimed p (Tentative q since two) = omega arith
few_claimed p (Valid q until) = omega arith
few_claimed p (TestLt q since two) = omega arith
few_claimed p (TestVp q claimant since two) = omega arith

few_joined : (a b c : List Part) → length a ≤ 1 → length b ≤ 1 → length c ≤ 1 → length (a ++ b ++ c) ≤ 3
few_joined a b c one two three = omega (arith, length-append (a ++ b) c, length-append a b, one, two, three)

few_of_row : (p : ℕ × Row) → length (parts_of p) ≤ 3
few_of_row p =
    few_joined (fixed_parts p p.1.state.fixed) (bound_parts p p.1.state.dhcp) (claimed_parts p p.1.state.fcfs)
    (few_fixed p p.1.state.fixed) (few_bound p p.1.state.dhcp) (few_claimed p p.1.state.fcfs)

few_with : (a b : List Part) (n : ℕ) → length a ≤ 3 → length b ≤ 3 * n → length (a ++ b) ≤ 3 * (n + 1)
few_with a b n one others = omega (arith, length-append a b, one, others)

-- a row has three parts at most
pub few_parts : (rows : List (ℕ × Row)) → length (flat_map parts_of rows) ≤ 3 * length rows
few_parts [] = omega arith
few_parts (p ∷ rows) =
    let size : length (parts_of p ++ flat_map parts_of rows) ≤ 3 * (length rows + 1) = few_with (parts_of p) (flat_map parts_of rows) (length rows) (few_of_row p) (few_parts rows) in
    omega (arith, size)

-- the parts with those of one more row
pub parts_push : (rows : List (ℕ × Row)) (p : ℕ × Row) (parts new : List Part) → parts ≡ flat_map parts_of rows → new ≡ parts ++ parts_of p → new ≡ flat_map parts_of (rows ++ p ∷ [])
parts_push rows p parts new was added =
    added ∙ ap (λ (l : List Part). l ++ parts_of p) was ∙ ap (λ (l : List Part). flat_map parts_of rows ++ l) (sym (append-nil (parts_of p)))
    ∙ sym (flat_map-append parts_of rows (p ∷ []))
