-- A list of octets in parts: where no front of it is so.
use Rattle.std.proofs.Common.{◌≡◌, ℕ, ◌+◌, ◌<◌, ◌≤◌, List, [], ◌∷◌, ◌++◌, length, Option, Some, None, refl, sym, ap, subst, ◌∙◌, arith, append_assoc, append-nil, length-append}
use Rattle.pcapng_io.specs.declared.stop.Stop.{Stop}
use Rattle.pcapng_io.specs.declared.stop.Stop.TheVariants as stop
use Rattle.pcapng_io.specs.Pieces.{NoneIn, Stops, FallsShort}

-- of two fronts of one list the shorter one is a front of the longer one
pub fronts : (a b c d : List ℕ) → a ++ b ≡ c ++ d → length a ≤ length c → (x : List ℕ) × (c ≡ a ++ x) × (b ≡ x ++ d)
fronts [] b c d same within = (c, refl, same)
fronts (x ∷ a) b [] d same within = absurd (omega arith)
fronts (x ∷ a) b (y ∷ c) d same within =
    let heads : x ≡ y = cc in
    let tails : a ++ b ≡ c ++ d = cc in
    let more = fronts a b c d tails (omega arith) in
    (more.0, cc (more.1), more.2)

-- the fronts of one list that have one length
pub same_fronts : (a b c d : List ℕ) → a ++ b ≡ c ++ d → length a ≡ length c → (c ≡ a) × (b ≡ d)
same_fronts [] b [] d same within = (refl, same)
same_fronts [] b (y ∷ c) d same within = absurd (omega arith)
same_fronts (x ∷ a) b [] d same within = absurd (omega arith)
same_fronts (x ∷ a) b (y ∷ c) d same within =
    let heads : x ≡ y = cc in
    let tails : a ++ b ≡ c ++ d = cc in
    let more = same_fronts a b c d tails (omega arith) in
    (cc (more.0), more.1)

-- whatever has a part behind this front that no front of the rest has
pub none_behind : (P Q : List ℕ → Type 0) (a g : List ℕ) → ((first : List ℕ) → P first → length a ≤ length first) → ((x : List ℕ) → P (a ++ x) → (q : List ℕ) × (r : List ℕ) × (x ≡ q ++ r) × Q q) → NoneIn Q g → NoneIn P (a ++ g)
none_behind P Q a g least part none first rest same is =
    let f = fronts a g first rest same (least first is) in
    let p : P (a ++ f.0) = subst P f.1 is in
    let q = part f.0 p in
    none q.0 (q.1 ++ rest) (f.2 ∙ ap (λ (l : List ℕ). l ++ rest) q.2 ∙ append_assoc q.0 q.1 rest) q.3

pub stops_behind : (P Q : List ℕ → Type 0) (a g : List ℕ) (why : Stop) (left : Option (List ℕ)) → ((first : List ℕ) → P first → length a ≤ length first) → ((x : List ℕ) → P (a ++ x) → (q : List ℕ) × (r : List ℕ) × (x ≡ q ++ r) × Q q) → Stops Q why g left → Stops P why (a ++ g) left
stops_behind P Q a g stop.Malformed None least part stops = (none_behind P Q a g least part stops.0, tt)
stops_behind P Q a g stop.Malformed (Some rest) least part stops =
    (none_behind P Q a g least part stops.0, subst (NoneIn P) (sym (append_assoc a g rest)) (none_behind P Q a (g ++ rest) least part stops.1))
stops_behind P Q a g stop.Failed left least part stops = none_behind P Q a g least part stops

none_short : (P : List ℕ → Type 0) (n : ℕ) (g : List ℕ) → ((first : List ℕ) → P first → n ≤ length first) → length g < n → NoneIn P g
none_short P n g least short first rest same is = absurd (omega (arith, least first is, ap length same, length-append first rest))

-- fewer octets than are needed were taken
pub short_stops : (P : List ℕ → Type 0) (n : ℕ) (g : List ℕ) (why : Stop) (left : Option (List ℕ)) → ((first : List ℕ) → P first → n ≤ length first) → FallsShort n why g left → Stops P why g left
short_stops P n g stop.Malformed None least short = (none_short P n g least short.0, tt)
short_stops P n g stop.Malformed (Some rest) least short =
    (none_short P n g least short.0, subst (NoneIn P) (sym (append-nil g) ∙ ap (λ (l : List ℕ). g ++ l) (sym short.1)) (none_short P n g least short.0))
short_stops P n g stop.Failed left least short = none_short P n g least short

pub short_behind : (n : ℕ) (a g : List ℕ) (why : Stop) (left : Option (List ℕ)) → FallsShort n why g left → FallsShort (length a + n) why (a ++ g) left
short_behind n a g stop.Malformed left short = (omega (arith, short.0, length-append a g), short.1)
short_behind n a g stop.Failed left short = omega (arith, short, length-append a g)

-- how many octets were taken at most
pub short_within : (n most : ℕ) (a g : List ℕ) (why : Stop) (left : Option (List ℕ)) → FallsShort n why g left → length a + n ≤ most → length (a ++ g) ≤ most
short_within n most a g stop.Malformed left short room = omega (arith, short.0, room, length-append a g)
short_within n most a g stop.Failed left short room = omega (arith, short, room, length-append a g)

none_wrong : (P : List ℕ → Type 0) (g more : List ℕ) → ((first : List ℕ) → P first → length g ≤ length first) → ((x : List ℕ) → P (g ++ x) → ⊥) → NoneIn P (g ++ more)
none_wrong P g more least wrong first rest same is =
    let f = fronts g more first rest same (least first is) in
    wrong f.0 (subst P f.1 is)

-- nothing that is so begins with these octets
pub wrong_stops : (P : List ℕ → Type 0) (g : List ℕ) (left : Option (List ℕ)) → ((first : List ℕ) → P first → length g ≤ length first) → ((x : List ℕ) → P (g ++ x) → ⊥) → Stops P stop.Malformed g left
wrong_stops P g None least wrong = (subst (NoneIn P) (append-nil g) (none_wrong P g [] least wrong), tt)
wrong_stops P g (Some rest) least wrong = (subst (NoneIn P) (append-nil g) (none_wrong P g [] least wrong), none_wrong P g rest least wrong)
