-- The text of a set's members as far as port k.
use Rattle.std.proofs.Common.{ℕ, ◌≡◌, ◌+◌, ◌*◌, ◌≤◌, ◌<◌, Bool, true, false, cond, List, [], ◌∷◌, ◌++◌, length, map, filter, decimal, refl, sym, ap, ◌∙◌, arith, append_assoc, length-append}
use Rattle.std.specs.List.{join_with_byte, range_with_len}
use Rattle.std.proofs.lemmas.List.{append-nil, length-map, map-append, map-id}
use Rattle.std.proofs.lemmas.List.Elements.{filter-append}
use Rattle.std.proofs.lemmas.List.FromFn.{map-range_with_len_more}
use Rattle.std.proofs.lemmas.Fmt.{decimal_nonempty}
use Rattle.savi_kinds.specs.declared.port.PortSet.{PortSet}
use Rattle.savi_kinds.specs.PortSets.{is_member}
use Rattle.hist_store.specs.TextOfLines.{comma, dash, or_dash}
use Rattle.hist_store.specs.PortTexts.{port_numbers, members_text}

-- the members from 1 to k
unfoldable pub upto : PortSet → ℕ → List ℕ
upto set k = filter (is_member set) (range_with_len 1 k)

-- their text
abbrev pub listed : PortSet → ℕ → List ℕ
listed set k = join_with_byte comma (map decimal (upto set k))

range_more : (k : ℕ) → range_with_len 1 (k + 1) ≡ range_with_len 1 k ++ (k + 1) ∷ []
range_more k =
    let identity : ℕ → ℕ = λ n. n in
    sym (map-id (range_with_len 1 (k + 1))) ∙ map-range_with_len_more identity 1 k (k + 1) (omega arith) ∙ ap (λ ns. ns ++ (k + 1) ∷ []) (map-id (range_with_len 1 k))

upto_more : (set : PortSet) (k : ℕ) (b : Bool) → is_member set (k + 1) ≡ b → upto set (k + 1) ≡ upto set k ++ cond b ((k + 1) ∷ []) []
unfolding upto
upto_more set k b is =
    ap (filter (is_member set)) (range_more k) ∙ filter-append (is_member set) (range_with_len 1 k) ((k + 1) ∷ [])
    ∙ ap (λ c. filter (is_member set) (range_with_len 1 k) ++ cond c ((k + 1) ∷ []) []) is

pub upto-none : (set : PortSet) → upto set 0 ≡ []
unfolding upto
upto-none set = refl

pub upto_member : (set : PortSet) (k : ℕ) → is_member set (k + 1) ≡ true → upto set (k + 1) ≡ upto set k ++ (k + 1) ∷ []
upto_member set k is = upto_more set k true is

pub upto_other : (set : PortSet) (k : ℕ) → is_member set (k + 1) ≡ false → upto set (k + 1) ≡ upto set k
upto_other set k is = upto_more set k false is ∙ append-nil (upto set k)

upto_at : (set : PortSet) (k : ℕ) (ns : List ℕ) → ns ≡ range_with_len 1 k → filter (is_member set) ns ≡ upto set k
unfolding upto
upto_at set k ns same = ap (filter (is_member set)) same

port_numbers-is : port_numbers ≡ range_with_len 1 16
unfolding port_numbers
port_numbers-is = refl

join_push : (c : ℕ) (xs : List (List ℕ)) (x : List ℕ) → 0 < length xs → join_with_byte c (xs ++ x ∷ []) ≡ join_with_byte c xs ++ c ∷ x
join_push c [] x more = absurd (omega arith)
join_push c (y ∷ []) x more = refl
join_push c (y ∷ z ∷ ys) x more = ap (λ t. y ++ c ∷ t) (join_push c (z ∷ ys) x (omega arith)) ∙ sym (append_assoc y (c ∷ join_with_byte c (z ∷ ys)) (c ∷ x))

-- what is known where the members from 1 to k are written, and whether there is any
pub record IsListed (set : PortSet) (k : ℕ) (any : Bool) (before after : List ℕ) : Type 0 where
  pub text : after ≡ before ++ listed set k
  pub size : length after ≤ length before + 3 * k
  pub none : any ≡ false → upto set k ≡ []
  pub some : any ≡ true → (0 < length (upto set k)) × (0 < length (listed set k))

pub IsListed-none : (set : PortSet) (items : List ℕ) → IsListed set 0 false items items
IsListed-none set items =
    record {
      text = sym (ap (λ ns. items ++ join_with_byte comma (map decimal ns)) (upto-none set) ∙ append-nil items);
      size = omega arith;
      none = λ _. upto-none set;
      some = λ e. cc;
    }

-- what is written of one more member
abbrev piece : Bool → ℕ → List ℕ
piece any n = cond any (comma ∷ decimal n) (decimal n)

listed_more : (set : PortSet) (k : ℕ) (any : Bool) → (any ≡ false → upto set k ≡ []) → (any ≡ true → 0 < length (upto set k)) → is_member set (k + 1) ≡ true → listed set (k + 1) ≡ listed set k ++ piece any (k + 1)
listed_more set k false none some is =
    let text : List ℕ → List ℕ = λ ns. join_with_byte comma (map decimal ns) in
    let first : upto set (k + 1) ≡ (k + 1) ∷ [] = upto_member set k is ∙ ap (λ ns. ns ++ (k + 1) ∷ []) (none refl) in
    let empty : listed set k ≡ [] = ap text (none refl) in
    ap text first ∙ sym (ap (λ t. t ++ decimal (k + 1)) empty)
listed_more set k true none some is =
    let text : List ℕ → List ℕ = λ ns. join_with_byte comma (map decimal ns) in
    let more : 0 < length (map decimal (upto set k)) = rw (length-map (upto set k) decimal) (some refl) in
    ap text (upto_member set k is) ∙ ap (join_with_byte comma) (map-append decimal (upto set k) ((k + 1) ∷ [])) ∙ join_push comma (map decimal (upto set k)) (decimal (k + 1)) more

piece_nonempty : (any : Bool) (n : ℕ) → n ≤ 16 → 0 < length (piece any n)
piece_nonempty true n low = omega arith
piece_nonempty false n low = decimal_nonempty n (omega (arith, low))

pub IsListed-member : (set : PortSet) (k : ℕ) (any : Bool) (before after new : List ℕ) → k < 16 → is_member set (k + 1) ≡ true → IsListed set k any before after → new ≡ after ++ piece any (k + 1) → length new ≤ length after + 3 → IsListed set (k + 1) true before new
IsListed-member set k any before after new low is was written grows =
    let more : listed set (k + 1) ≡ listed set k ++ piece any (k + 1) = listed_more set k any was.none (λ e. (was.some e).0) is in
    let members_size : length (upto set (k + 1)) ≡ length (upto set k) + 1 = ap length (upto_member set k is) ∙ length-append (upto set k) ((k + 1) ∷ []) in
    let text_size : length (listed set (k + 1)) ≡ length (listed set k) + length (piece any (k + 1)) = ap length more ∙ length-append (listed set k) (piece any (k + 1)) in
    let written_size : 0 < length (piece any (k + 1)) = piece_nonempty any (k + 1) (omega (arith, low)) in
    record {
      text = written ∙ ap (λ t. t ++ piece any (k + 1)) was.text ∙ append_assoc before (listed set k) (piece any (k + 1)) ∙ sym (ap (λ t. before ++ t) more);
      size = omega (arith, was.size, grows);
      none = λ e. cc;
      some = λ _. (omega (arith, members_size), omega (arith, text_size, written_size));
    }

pub IsListed-other : (set : PortSet) (k : ℕ) (any : Bool) (before after : List ℕ) → is_member set (k + 1) ≡ false → IsListed set k any before after → IsListed set (k + 1) any before after
IsListed-other set k any before after is was =
    let same : upto set (k + 1) ≡ upto set k = upto_other set k is in
    record {
      text = was.text ∙ sym (ap (λ ns. before ++ join_with_byte comma (map decimal ns)) same);
      size = omega (arith, was.size);
      none = λ e. same ∙ was.none e;
      some = λ e. rw same (was.some e);
    }

members-is : (set : PortSet) (k : ℕ) → k ≡ 16 → filter (is_member set) port_numbers ≡ upto set k
members-is set k all = upto_at set k port_numbers (port_numbers-is ∙ ap (range_with_len 1) (sym all))

or_dash-nonempty : (t : List ℕ) → 0 < length t → or_dash t ≡ t
or_dash-nonempty [] h = absurd (omega arith)
or_dash-nonempty (x ∷ xs) h = refl

-- no member was written
pub ports_text-none : (set : PortSet) (k : ℕ) (before after : List ℕ) → k ≡ 16 → IsListed set k false before after → after ++ dash ∷ [] ≡ before ++ members_text set
ports_text-none set k before after all was =
    let text : List ℕ → List ℕ = λ ns. join_with_byte comma (map decimal ns) in
    let empty : listed set k ≡ [] = ap text (was.none refl) in
    let kept : after ≡ before = was.text ∙ ap (λ t. before ++ t) empty ∙ append-nil before in
    let none : members_text set ≡ dash ∷ [] = ap (λ ns. or_dash (text ns)) (members-is set k all ∙ was.none refl) in
    ap (λ t. t ++ dash ∷ []) kept ∙ sym (ap (λ t. before ++ t) none)

-- each member was written
pub ports_text-some : (set : PortSet) (k : ℕ) (before after : List ℕ) → k ≡ 16 → IsListed set k true before after → after ≡ before ++ members_text set
ports_text-some set k before after all was =
    let text : List ℕ → List ℕ = λ ns. join_with_byte comma (map decimal ns) in
    let some : members_text set ≡ listed set k = ap (λ ns. or_dash (text ns)) (members-is set k all) ∙ or_dash-nonempty (listed set k) (was.some refl).1 in
    was.text ∙ sym (ap (λ t. before ++ t) some)
