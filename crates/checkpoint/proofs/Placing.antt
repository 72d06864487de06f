-- Requests in order: where one more stands, and that places tell them.
use Rattle.std.proofs.Common.{ℕ, zero, suc, ◌≡◌, ◌+◌, ◌<◌, Bool, true, false, cond, List, [], ◌∷◌, ◌++◌, length, map, take, drop, get_or, Option, Some, None, refl, sym, ap, ◌∙◌, arith}
use Rattle.std.specs.Prelude.{slice_get}
use Rattle.std.specs.List.{insert, fold}
use Rattle.std.specs.Ordering.{is_lt}
use Rattle.std.proofs.lemmas.List.{map-append, take-map, drop-map, get_or-map, length-map}
use Rattle.std.proofs.lemmas.List.Sums.{fold_push}
use Rattle.std.proofs.lemmas.Option.{slice_get_within, slice_get_read, get_or_from_slice_get}
use Rattle.dhcp_states.specs.declared.request.Request.{Request}
use Rattle.checkpoint.specs.Orders.{request_order, request_placed, requests_in_order}
use Rattle.checkpoint.specs.Kept.{OrdersRequests}
use Rattle.checkpoint.proofs.Places.{at_front, at_seam}

-- the request comes before the one at a place
abbrev pub comes_before : ℕ × Request → List (ℕ × Request) → ℕ → Bool
comes_before new told k = is_lt (request_order new (get_or told k new))

-- it comes before none of those in front of a place
abbrev pub ComesBehind : ℕ × Request → List (ℕ × Request) → ℕ → Type 0
ComesBehind new told n = (k : ℕ) → k < n → comes_before new told k ≡ false

by_test : (b : Bool) (new other : ℕ × Request) (others : List (ℕ × Request)) → is_lt (request_order new other) ≡ b → request_placed new (other ∷ others) ≡ cond b (new ∷ other ∷ others) (other ∷ request_placed new others)
by_test b new other others e = ap (λ (c : Bool). cond c (new ∷ other ∷ others) (other ∷ request_placed new others)) e

later : (new other : ℕ × Request) (others : List (ℕ × Request)) (n : ℕ) → ComesBehind new (other ∷ others) (suc n) → ComesBehind new others n
later new other others n behind k below = behind (suc k) (omega arith)

-- it stands in front of the first that it comes before
pub placed_here : (new : ℕ × Request) (told : List (ℕ × Request)) (n : ℕ) → n < length told → ComesBehind new told n → comes_before new told n ≡ true → request_placed new told ≡ insert told n new
placed_here new [] n within behind before = absurd (omega arith)
placed_here new (other ∷ others) zero within behind before = by_test true new other others before
placed_here new (other ∷ others) (suc n) within behind before =
    by_test false new other others (behind 0 (omega arith))
    ∙ ap (λ (l : List (ℕ × Request)). other ∷ l) (placed_here new others n (omega arith) (later new other others n behind) before)

-- or behind all others
pub placed_last : (new : ℕ × Request) (told : List (ℕ × Request)) → ComesBehind new told (length told) → request_placed new told ≡ insert told (length told) new
placed_last new [] behind = refl
placed_last new (other ∷ others) behind =
    by_test false new other others (behind 0 (omega arith))
    ∙ ap (λ (l : List (ℕ × Request)). other ∷ l) (placed_last new others (later new other others (length others) behind))

insert-map : {X Y : Type 0} (f : X → Y) (xs : List X) (n : ℕ) (x : X) → map f (insert xs n x) ≡ insert (map f xs) n (f x)
insert-map f xs n x =
    map-append f (take n xs) (x ∷ drop n xs)
    ∙ ap (λ l. l ++ f x ∷ map f (drop n xs)) (sym (take-map f n xs))
    ∙ ap (λ l. take n (map f xs) ++ f x ∷ l) (sym (drop-map f n xs))

-- places tell the same with one more request behind the others
still_told : (requests : List (ℕ × Request)) (new : ℕ × Request) (places : List ℕ) (told : List (ℕ × Request)) → map (slice_get requests) places ≡ map Some told → map (slice_get (requests ++ new ∷ [])) places ≡ map Some told
still_told requests new [] told e = e
still_told requests new (k ∷ places) [] e = absurd (cc)
still_told requests new (k ∷ places) (request ∷ told) e =
    let first : slice_get requests k ≡ Some request = cc in
    let others : map (slice_get requests) places ≡ map Some told = cc in
    ap (λ (o : Option (ℕ × Request)). o ∷ map (slice_get (requests ++ new ∷ [])) places) (at_front requests (new ∷ []) k request first)
    ∙ ap (λ (l : List (Option (ℕ × Request))). Some request ∷ l) (still_told requests new places told others)

-- one more request, whose place is put where it stands in order
pub ordered_push : (requests : List (ℕ × Request)) (places : List ℕ) (new : ℕ × Request) (n : ℕ) → OrdersRequests requests places → request_placed new (requests_in_order requests) ≡ insert (requests_in_order requests) n new → OrdersRequests (requests ++ new ∷ []) (insert places n (length requests))
ordered_push requests places new n told at =
    let all : List (ℕ × Request) = requests ++ new ∷ [] in
    let sorted : requests_in_order all ≡ insert (requests_in_order requests) n new = fold_push (λ (l : List (ℕ × Request)) (request : ℕ × Request). request_placed request l) [] requests new ∙ at in
    insert-map (slice_get all) places n (length requests)
    ∙ ap (λ (l : List (Option (ℕ × Request))). insert l n (slice_get all (length requests))) (still_told requests new places (requests_in_order requests) told)
    ∙ ap (λ (o : Option (ℕ × Request)). insert (map Some (requests_in_order requests)) n o) (at_seam requests new [])
    ∙ sym (insert-map Some (requests_in_order requests) n new)
    ∙ ap (λ (l : List (ℕ × Request)). map Some l) (sym sorted)

-- as many places as requests in order
pub as_many : (requests : List (ℕ × Request)) (places : List ℕ) → OrdersRequests requests places → length places ≡ length (requests_in_order requests)
as_many requests places told = sym (length-map places (slice_get requests)) ∙ ap length told ∙ length-map (requests_in_order requests) Some

-- the request at a place in order
pub told_at : (requests : List (ℕ × Request)) (places : List ℕ) (k : ℕ) (d : ℕ × Request) → OrdersRequests requests places → k < length places → slice_get requests (get_or places k 0) ≡ Some (get_or (requests_in_order requests) k d)
told_at requests places k d told within =
    sym (get_or-map (slice_get requests) places k 0 None within) ∙ ap (λ (l : List (Option (ℕ × Request))). get_or l k None) told
    ∙ get_or-map Some (requests_in_order requests) k d None (omega (arith, as_many requests places told, within))

length_placed : (new : ℕ × Request) (told : List (ℕ × Request)) → length (request_placed new told) ≡ length told + 1
length_placed new [] = refl
length_placed new (other ∷ others) =
    let one : length (request_placed new others) ≡ length others + 1 = length_placed new others in
    elim (is_lt (request_order new other)) as (λ b. is_lt (request_order new other) ≡ b → length (request_placed new (other ∷ others)) ≡ length (other ∷ others) + 1) [
      | true ↦ λ (is : is_lt (request_order new other) ≡ true). ap length (by_test true new other others is) ∙ omega arith
      | false ↦ λ (is : is_lt (request_order new other) ≡ false). ap length (by_test false new other others is) ∙ omega (arith, one)
    ] refl

length_folded : (told requests : List (ℕ × Request)) → length (fold (λ (l : List (ℕ × Request)) (request : ℕ × Request). request_placed request l) told requests) ≡ length told + length requests
length_folded told [] = omega arith
length_folded told (request ∷ requests) =
    let all : List (ℕ × Request) = fold (λ (l : List (ℕ × Request)) (other : ℕ × Request). request_placed other l) (request_placed request told) requests in
    omega (arith, length_folded (request_placed request told) requests, length_placed request told)

-- as many requests in order as there are
pub length_in_order : (requests : List (ℕ × Request)) → length (requests_in_order requests) ≡ length requests
length_in_order requests = omega (arith, length_folded [] requests)

-- what stands at the place that is read there
pub read_at : (requests : List (ℕ × Request)) (places : List ℕ) (k place : ℕ) (other d : ℕ × Request) → OrdersRequests requests places → k < length places → place ≡ get_or places k 0 → other ≡ get_or requests place other → other ≡ get_or (requests_in_order requests) k d
read_at requests places k place other d told within place_is is =
    is ∙ ap (λ (n : ℕ). get_or requests n other) place_is ∙ get_or_from_slice_get requests (get_or places k 0) (get_or (requests_in_order requests) k d) other (told_at requests places k d told within)

-- and that there is one
pub place_within : (requests : List (ℕ × Request)) (places : List ℕ) (k : ℕ) (d : ℕ × Request) → OrdersRequests requests places → k < length places → get_or places k 0 < length requests
place_within requests places k d told within = slice_get_within requests (get_or places k 0) (get_or (requests_in_order requests) k d) (told_at requests places k d told within)

-- the same where no request is at hand yet
pub place_inside : (requests : List (ℕ × Request)) (places : List ℕ) (k : ℕ) → OrdersRequests requests places → k < length places → get_or places k 0 < length requests
place_inside requests places k told within =
    elim (requests_in_order requests) as (λ (l : List (ℕ × Request)). length places ≡ length l → get_or places k 0 < length requests) [
      | [] ↦ λ (none : length places ≡ 0). absurd (omega (arith, none, within))
      | request ∷ others ↦ λ (some : length places ≡ length (request ∷ others)). place_within requests places k request told within
    ] (as_many requests places told)

-- the request that was read by its place is the one in order, where both are known by other names too
pub request_there : (requests known : List (ℕ × Request)) (places : List ℕ) (k j place : ℕ) (one : ℕ × Request) → OrdersRequests requests places → requests ≡ known → k ≡ j → k < length places → place ≡ get_or places k 0 → one ≡ get_or requests place one → slice_get (requests_in_order known) j ≡ Some one
request_there requests known places k j place one told same at within place_is is =
    ap (slice_get (requests_in_order known)) (sym at) ∙ ap (λ (l : List (ℕ × Request)). slice_get (requests_in_order l) k) (sym same)
    ∙ slice_get_read (requests_in_order requests) (length places) k one (as_many requests places told) within (read_at requests places k place one one told within place_is is)
