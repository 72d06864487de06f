-- What is seen of a text, up to a place.
use Rattle.std.proofs.Common.{◌≡◌, ◌≢◌, ◌+◌, ◌-◌, ◌≤◌, ◌<◌, ℕ, zero, suc, List, [], ◌∷◌, ◌++◌, length, Option, Some, None, IfSome, refl, ap, ap₂, sym, ◌∙◌, arith, append_assoc, length-append}
use Rattle.savi_ends.specs.Octets.{NothingLeft, in_front}
use Rattle.journal_check.specs.Feeds.{HasNoFeed, BeginsWithNoLine}
use Rattle.journal_check.specs.Seen.{seen_to}
use Rattle.journal_check.specs.declared.lines.Taken.{Taken}
use Rattle.journal_check.specs.declared.lines.Taken.TheVariants as takes
use Rattle.journal_check.specs.Pieces.{TookLine, seen_if_told}
use Rattle.journal_check.proofs.FeedPlaces.{no_feed_in}

-- octets that end at the place or before it are seen as they are
pub seen_append : (front rest : List ℕ) (place : ℕ) → length front ≤ place → seen_to (front ++ rest) place ≡ front ++ seen_to rest (place - length front)
seen_append [] rest place low = let same : place ≡ place - 0 = omega arith in ap (seen_to rest) same
seen_append (x ∷ front) rest zero low = absurd (omega (arith, low))
seen_append (x ∷ front) rest (suc place) low =
    let same : place - length front ≡ suc place - length (x ∷ front) = omega arith in
    ap (λ (t : List ℕ). x ∷ t) (seen_append front rest place (omega (arith, low)))
    ∙ ap (λ (k : ℕ). x ∷ (front ++ seen_to rest k)) same

pub seen_all : (octets : List ℕ) (place : ℕ) → length octets ≤ place → seen_to octets place ≡ octets
seen_all [] place low = refl
seen_all (x ∷ octets) zero low = absurd (omega (arith, low))
seen_all (x ∷ octets) (suc place) low = ap (λ (t : List ℕ). x ∷ t) (seen_all octets place (omega (arith, low)))

nothing_ends : (line more : List ℕ) → [] ≡ line ++ 10 ∷ more → ⊥
nothing_ends [] more e = cc
nothing_ends (x ∷ line) more e = cc

none_seen : (octets : List ℕ) (place : ℕ) → seen_to octets place ≡ [] → octets ≡ []
none_seen [] place e = refl
none_seen (x ∷ octets) zero e = cc
none_seen (x ∷ octets) (suc place) e = cc

-- what is seen as a line is one
pub seen_line : (octets : List ℕ) (place : ℕ) (line more : List ℕ) → seen_to octets place ≡ line ++ 10 ∷ more → (rest : List ℕ) × (octets ≡ line ++ 10 ∷ rest)
seen_line [] place line more e = absurd (nothing_ends line more e)
seen_line (x ∷ octets) zero [] more e = let feed : ◌≡◌ {A = ℕ} 0 10 = cc in absurd (omega (arith, feed))
seen_line (x ∷ octets) zero (y ∷ line) more e = let tails : [] ≡ line ++ 10 ∷ more = cc in absurd (nothing_ends line more tails)
seen_line (x ∷ octets) (suc place) [] more e = let feed : x ≡ 10 = cc in (octets, ap (λ (y : ℕ). y ∷ octets) feed)
seen_line (x ∷ octets) (suc place) (y ∷ line) more e =
    let first : x ≡ y = cc in
    let tails : seen_to octets place ≡ line ++ 10 ∷ more = cc in
    let behind = seen_line octets place line more tails in
    (behind.0, ap₂ (λ (z : ℕ) (t : List ℕ). z ∷ t) first behind.1)

-- what is seen as a text that ends with a line is that text
pub seen_whole : (octets : List ℕ) (place : ℕ) (text : List ℕ) → seen_to octets place ≡ text ++ 10 ∷ [] → (octets ≡ text ++ 10 ∷ []) × (length octets ≤ place)
seen_whole [] place text e = absurd (nothing_ends text [] e)
seen_whole (x ∷ octets) zero [] e = let feed : ◌≡◌ {A = ℕ} 0 10 = cc in absurd (omega (arith, feed))
seen_whole (x ∷ octets) zero (y ∷ text) e = let tails : [] ≡ text ++ 10 ∷ [] = cc in absurd (nothing_ends text [] tails)
seen_whole (x ∷ octets) (suc place) [] e =
    let feed : x ≡ 10 = cc in
    let tails : seen_to octets place ≡ [] = cc in
    let none = none_seen octets place tails in
    let size = ap length none in
    (ap₂ (λ (z : ℕ) (t : List ℕ). z ∷ t) feed none, omega (arith, size))
seen_whole (x ∷ octets) (suc place) (y ∷ text) e =
    let first : x ≡ y = cc in
    let tails : seen_to octets place ≡ text ++ 10 ∷ [] = cc in
    let behind = seen_whole octets place text tails in
    let size = behind.1 in
    (ap₂ (λ (z : ℕ) (t : List ℕ). z ∷ t) first behind.0, omega (arith, size))

-- where no line feed stands up to the place none is seen
plain_seen : (front rest : List ℕ) (place : ℕ) → HasNoFeed front → place ≤ length front → HasNoFeed (seen_to (front ++ rest) place)
plain_seen [] [] place plain low = tt
plain_seen [] (x ∷ rest) zero plain low = (λ same. omega (arith, same), tt)
plain_seen [] (x ∷ rest) (suc place) plain low = absurd (omega (arith, low))
plain_seen (x ∷ front) rest zero plain low = (λ same. omega (arith, same), tt)
plain_seen (x ∷ front) rest (suc place) plain low = (plain.0, plain_seen front rest place plain.1 (omega (arith, low)))

-- no line that is seen begins what no line begins
pub none_seen_of : (place : ℕ) (before : Option (List ℕ)) → IfSome before BeginsWithNoLine → IfSome (seen_if_told place before) BeginsWithNoLine
none_seen_of place None none = tt
none_seen_of place (Some octets) none = λ line more plain short e. let is = seen_line octets place line more e in none line is.0 plain short is.1

-- a line that ends behind the place isn't seen
pub none_so_far : (place : ℕ) (line : List ℕ) (before after : Option (List ℕ)) → HasNoFeed line → before ≡ in_front (line ++ 10 ∷ []) after → place ≤ length line → IfSome (seen_if_told place before) BeginsWithNoLine
none_so_far place line before None plain told low = rw told tt
none_so_far place line before (Some rest) plain told low =
    let text : (line ++ 10 ∷ []) ++ rest ≡ line ++ 10 ∷ rest = append_assoc line (10 ∷ []) rest in
    rw told (λ other more apart short e.
    no_feed_in other (seen_to (line ++ 10 ∷ rest) place) more (plain_seen line (10 ∷ rest) place plain low) (ap (λ (t : List ℕ). seen_to t place) (sym text) ∙ e))

-- octets in front of what is seen behind them
pub seen_front : (place later : ℕ) (front : List ℕ) (before after : Option (List ℕ)) → before ≡ in_front front after → place ≡ later + length front → seen_if_told place before ≡ in_front front (seen_if_told later after)
seen_front place later front before None told count = ap (seen_if_told place) told
seen_front place later front before (Some rest) told count =
    let behind : place - length front ≡ later = omega (arith, count) in
    ap (seen_if_told place) told
    ∙ ap (λ (t : List ℕ). let o : Option (List ℕ) = Some t in o) (seen_append front rest place (omega (arith, count)) ∙ ap (λ (k : ℕ). front ++ seen_to rest k) behind)

pub nothing_seen : (place : ℕ) (left : Option (List ℕ)) → NothingLeft left → NothingLeft (seen_if_told place left)
nothing_seen place None none = tt
nothing_seen place (Some rest) none = ap (λ (t : List ℕ). seen_to t place) none

-- where octets are held something is seen
pub some_seen : (place : ℕ) (held : List ℕ) (left : Option (List ℕ)) → 0 < length held → IfSome (seen_if_told place (in_front held left)) (λ octets. octets ≢ [])
some_seen place held None some = tt
some_seen place [] (Some rest) some = absurd (omega (arith, some))
some_seen zero (x ∷ held) (Some rest) some = λ none. cc
some_seen (suc place) (x ∷ held) (Some rest) some = λ none. cc

-- a line whose end was compared with the place
pub passed_line : (t : Taken) (place later : ℕ) (line : List ℕ) (before after : Option (List ℕ)) → t ≢ takes.Failed → HasNoFeed line → before ≡ in_front (line ++ 10 ∷ []) after
    → (t ≡ takes.Line → place ≡ later + (length line + 1)) → (t ≡ takes.Broken → place ≤ length line) → TookLine t line (seen_if_told place before) (seen_if_told later after)
passed_line takes.Line place later line before after never plain told ends far =
    let count = ends refl in
    let size = length-append line (10 ∷ []) in
    (plain, seen_front place later (line ++ 10 ∷ []) before after told (omega (arith, count, size)))
passed_line takes.Broken place later line before after never plain told ends far = none_so_far place line before after plain told (far refl)
passed_line takes.Failed place later line before after never plain told ends far = absurd (never refl)
