-- The line at the front of what is held of a text.
use Rattle.std.proofs.Common.{◌≡◌, ◌≢◌, ◌==◌, ◌+◌, ◌<◌, ◌≤◌, ℕ, suc, Bool, true, false, not, cond, List, [], ◌∷◌, ◌++◌, length, take, drop, slice_range, Option, Some, None, IfSome, refl, ap, sym, ◌∙◌, arith, one-add, length-append, length-drop, length-take-le, drop-drop, append_assoc, append-nil}
use Rattle.std.proofs.Math.Seq.{drop-length}
use Rattle.std.proofs.lemmas.Slice.{between_is}
use Rattle.std.proofs.lemmas.Bool.Decides.{nat_tests}
use Rattle.std.specs.List.{position_or_len}
use Rattle.savi_ends.specs.Octets.{in_front, NothingLeft}
use Rattle.savi_ends.proofs.Octets.{in_front_again}
use Rattle.journal_check.specs.Feeds.{HasNoFeed, IsBehindLine, BeginsWithNoLine}

-- the octets before the first line feed, and those from it on

plain_at : (x : ℕ) (xs : List ℕ) (k : ℕ) (b : Bool) → (x == 10) ≡ b → HasNoFeed (take k xs) → HasNoFeed (take (cond (not b) (1 + k) 0) (x ∷ xs))
plain_at x xs k true is plain = tt
plain_at x xs k false is plain = let other : x ≢ 10 = grind (arith, nat_tests) in rw (one-add k) (other, plain)

pub front_plain : (xs : List ℕ) → HasNoFeed (take (position_or_len (λ (octet : ℕ). octet == 10) xs) xs)
front_plain [] = tt
front_plain (x ∷ xs) = plain_at x xs (position_or_len (λ (octet : ℕ). octet == 10) xs) (x == 10) refl (front_plain xs)

behind_at : (x : ℕ) (xs : List ℕ) (k : ℕ) (b : Bool) → (x == 10) ≡ b → IsBehindLine (drop k xs) → IsBehindLine (drop (cond (not b) (1 + k) 0) (x ∷ xs))
behind_at x xs k true is behind = let feed : x ≡ 10 = grind (arith, nat_tests) in feed
behind_at x xs k false is behind = rw (one-add k) behind

pub front_behind : (xs : List ℕ) → IsBehindLine (drop (position_or_len (λ (octet : ℕ). octet == 10) xs) xs)
front_behind [] = tt
front_behind (x ∷ xs) = behind_at x xs (position_or_len (λ (octet : ℕ). octet == 10) xs) (x == 10) refl (front_behind xs)

-- what is held, cut behind a part

drop_past : (part : List ℕ) (x : ℕ) (more : List ℕ) → drop (length part + 1) (part ++ x ∷ more) ≡ more
drop_past [] x more = refl
drop_past (y ∷ part) x more =
    let number : length (y ∷ part) + 1 ≡ suc (length part + 1) = omega arith in
    ap (λ (k : ℕ). drop k (y ∷ part ++ x ∷ more)) number ∙ drop_past part x more

pub cut_whole : (held part rest new : List ℕ) → held ≡ part ++ rest → IsBehindLine rest → length part < length held → new ≡ drop (length part + 1) held → held ≡ part ++ 10 ∷ new
cut_whole held part [] new is behind less e =
    let size : length held ≡ length part = ap length is ∙ ap length (append-nil part) in
    absurd (omega (arith, size, less))
cut_whole held part (x ∷ more) new is behind less e =
    let rest : new ≡ more = e ∙ ap (drop (length part + 1)) is ∙ drop_past part x more in
    is ∙ ap (λ (octet : ℕ). part ++ octet ∷ more) behind ∙ ap (λ (l : List ℕ). part ++ 10 ∷ l) (sym rest)

pub cut_part : (held part rest : List ℕ) → held ≡ part ++ rest → length held ≤ length part → held ≡ part
cut_part held part [] is less = is ∙ append-nil part
cut_part held part (x ∷ more) is less =
    let size : length held ≡ length part + length (x ∷ more) = ap length is ∙ length-append part (x ∷ more) in
    absurd (omega (arith, size, less))

-- lines

pub plain_append : (s t : List ℕ) → HasNoFeed s → HasNoFeed t → HasNoFeed (s ++ t)
plain_append [] t a b = b
plain_append (x ∷ s) t a b = (a.0, plain_append s t a.1 b)

pub no_feed_in : (line octets more : List ℕ) → HasNoFeed octets → octets ≡ line ++ 10 ∷ more → ⊥
no_feed_in [] [] more plain e = cc
no_feed_in [] (x ∷ octets) more plain e = let feed : x ≡ 10 = cc in plain.0 feed
no_feed_in (y ∷ line) [] more plain e = cc
no_feed_in (y ∷ line) (x ∷ octets) more plain e = let tails : octets ≡ line ++ 10 ∷ more = cc in no_feed_in line octets more plain.1 tails

-- octets without a line feed at the front are part of the first line
longer_line : (line front more rest : List ℕ) → HasNoFeed front → front ++ rest ≡ line ++ 10 ∷ more → length front ≤ length line
longer_line line [] more rest plain e = omega arith
longer_line [] (x ∷ front) more rest plain e = let feed : x ≡ 10 = cc in absurd (plain.0 feed)
longer_line (y ∷ line) (x ∷ front) more rest plain e =
    let tails : front ++ rest ≡ line ++ 10 ∷ more = cc in
    let less = longer_line line front more rest plain.1 tails in
    omega (arith, less)

pub in_front_none : (o : Option (List ℕ)) → in_front [] o ≡ o
in_front_none None = refl
in_front_none (Some rest) = refl

-- the octets end before a line feed
pub none_at_end : (line : List ℕ) (before after : Option (List ℕ)) → HasNoFeed line → before ≡ in_front line after → NothingLeft after → IfSome before BeginsWithNoLine
none_at_end line before None plain is nothing = rw is tt
none_at_end line before (Some rest) plain is nothing =
    let whole : line ++ rest ≡ line = ap (λ (l : List ℕ). line ++ l) nothing ∙ append-nil line in
    rw is (λ other more apart short e. no_feed_in other line more plain (sym whole ∙ e))

-- the octets before a line feed are too many
pub none_if_long : (line part rest : List ℕ) (before left : Option (List ℕ)) → HasNoFeed (line ++ part) → before ≡ in_front line (in_front (part ++ rest) left) → 3400 < length line + length part
    → IfSome before BeginsWithNoLine
none_if_long line part rest before None plain is long = rw is tt
none_if_long line part rest before (Some left) plain is long =
    let text : line ++ ((part ++ rest) ++ left) ≡ (line ++ part) ++ (rest ++ left) = ap (λ (l : List ℕ). line ++ l) (append_assoc part rest left) ∙ sym (append_assoc line part (rest ++ left)) in
    rw is (λ other more apart short e.
    let less = longer_line other (line ++ part) more (rest ++ left) plain (sym text ∙ e) in
    let size = length-append line part in
    absurd (omega (arith, less, size, long, short)))

-- what is held in a piece, cut behind its first line

pub whole_cut : (piece : List ℕ) (at end len : ℕ) (part rest : List ℕ) → slice_range piece at end ≡ part ++ rest → IsBehindLine rest → len ≡ length part → len < length (slice_range piece at end)
    → drop at (take end piece) ≡ part ++ 10 ∷ drop (at + (len + 1)) (take end piece)
whole_cut piece at end len part rest is behind size less =
    let held = drop at (take end piece) in
    let same : slice_range piece at end ≡ held = between_is piece at end in
    let sizes = ap length same in
    let new : drop (at + (len + 1)) (take end piece) ≡ drop (length part + 1) held = sym (drop-drop (len + 1) at (take end piece)) ∙ ap (λ (n : ℕ). drop (n + 1) held) size in
    cut_whole held part rest (drop (at + (len + 1)) (take end piece)) (sym same ∙ is) behind (omega (arith, size, less, sizes)) new

pub part_cut : (piece : List ℕ) (at end len : ℕ) (part rest : List ℕ) → slice_range piece at end ≡ part ++ rest → len ≡ length part → length (slice_range piece at end) ≤ len
    → (drop at (take end piece) ≡ part) × (drop (at + len) (take end piece) ≡ [])
part_cut piece at end len part rest is size less =
    let held = drop at (take end piece) in
    let same : slice_range piece at end ≡ held = between_is piece at end in
    let sizes = ap length same in
    let all : held ≡ part = cut_part held part rest (sym same ∙ is) (omega (arith, size, less, sizes)) in
    let number : len ≡ length held = size ∙ ap length (sym all) in
    (all, sym (drop-drop len at (take end piece)) ∙ ap (λ (n : ℕ). drop n held) number ∙ drop-length held)

-- a piece holds something where its end is behind
pub some_held : (piece : List ℕ) (at end : ℕ) → at < end → end ≤ length piece → 0 < length (drop at (take end piece))
some_held piece at end less within =
    let front = length-take-le end piece within in
    let size = length-drop at (take end piece) in
    omega (arith, less, front, size)

-- all that is held moves behind what was taken
pub told_part : (taken held held' taken' : List ℕ) (whole before left : Option (List ℕ)) → whole ≡ in_front taken before → in_front held left ≡ before → taken' ≡ taken ++ held → held' ≡ []
    → whole ≡ in_front taken' (in_front held' left)
told_part taken held held' taken' whole before left told same is none =
    told ∙ ap (in_front taken) (sym same) ∙ in_front_again taken held left ∙ ap (λ (l : List ℕ). in_front l left) (sym is)
    ∙ ap (in_front taken') (sym (ap (λ (l : List ℕ). in_front l left) none ∙ in_front_none left))

-- the rest of the line moves, and its line feed is passed over
pub told_whole : (taken part held held' taken' : List ℕ) (whole before left : Option (List ℕ)) → whole ≡ in_front taken before → in_front held left ≡ before → taken' ≡ taken ++ part → held ≡ part ++ 10 ∷ held'
    → whole ≡ in_front (taken' ++ 10 ∷ []) (in_front held' left)
told_whole taken part held held' taken' whole before left told same is cut =
    told ∙ ap (in_front taken) (sym same ∙ ap (λ (l : List ℕ). in_front l left) cut) ∙ in_front_again taken (part ++ 10 ∷ held') left
    ∙ ap (λ (l : List ℕ). in_front l left) (sym (append_assoc taken part (10 ∷ held')) ∙ ap (λ (l : List ℕ). l ++ 10 ∷ held') (sym is) ∙ sym (append_assoc taken' (10 ∷ []) held'))
    ∙ sym (in_front_again (taken' ++ 10 ∷ []) held' left)
