-- The options of a message, one after the other.
use Rattle.std.proofs.Common.{◌≡◌, ℕ, zero, suc, ◌+◌, ◌-◌, ◌*◌, ◌<◌, ◌≤◌, Bool, true, false, List, [], ◌∷◌, ◌++◌, length, get_or, take, drop, refl, sym, ap, ◌∙◌, inl, inr, ◌⊎◌, arith}
use Rattle.std.specs.List.{flat_map}
use Rattle.std.proofs.lemmas.Bool.{false≢true}
use Rattle.std.proofs.lemmas.List.{drop_at, take-append-drop, length-append, length-take-le}
use Rattle.std.proofs.lemmas.List.Elements.{All-nil, All-cons, All-head, All-tail}
use Rattle.nd_read.specs.Options.{NdOption, IsWhole, AreOptions, HasKind, octets_of}

-- one of the options, or one of the others
pub kind-head : (kind : ℕ) (option : NdOption) (options : List NdOption) → option.kind ≡ kind → HasKind kind (option ∷ options)
kind-head kind option options e = (0, option, omega arith, refl, e)

pub kind-tail : (kind : ℕ) (option : NdOption) (options : List NdOption) → HasKind kind options → HasKind kind (option ∷ options)
kind-tail kind option options h = (suc h.0, h.1, omega (arith, h.2), h.3, h.4)

pub kind-cons : (kind : ℕ) (option : NdOption) (options : List NdOption) → HasKind kind (option ∷ options) → (option.kind ≡ kind) ⊎ HasKind kind options
kind-cons kind option options (zero, x, p, q, r) = inl (ap (λ (o : NdOption). o.kind) q ∙ r)
kind-cons kind option options (suc k, x, p, q, r) = inr (k, x, omega (arith, p), q, r)

pub kind-nil : (kind : ℕ) → HasKind kind [] → ⊥
kind-nil kind h = let within = h.2 in omega (arith, within)

-- what whole options that fill some octets say of the first
pub record Begins (rest : List ℕ) (units : ℕ) : Type 0 where
  pub some : 1 ≤ units
  pub within : 8 * units ≤ length rest
  pub others : List NdOption
  pub are : AreOptions (drop (8 * units) rest) others

pub begins : (kind units : ℕ) (tail : List ℕ) (options : List NdOption) → AreOptions (kind ∷ units ∷ tail) options → Begins (kind ∷ units ∷ tail) units
begins kind units tail [] are = let e : suc (suc (length tail)) ≡ 0 = ap length are.row in absurd (omega arith)
begins kind units tail (o ∷ os) are =
    let whole = All-head IsWhole o os are.whole in
    let some = whole.some in
    let long = whole.long in
    let e : units ≡ o.units = ap (λ (l : List ℕ). get_or l 1 0) are.row in
    let total : suc (suc (length tail)) ≡ length (octets_of o ++ flat_map octets_of os) = ap length are.row in
    let parts = length-append (octets_of o) (flat_map octets_of os) in
    let first : length (octets_of o) ≡ 8 * units = omega (arith, long, e) in
    record {
      some = omega (arith, some, e);
      within = omega (arith, total, parts, first);
      others = os;
      are = record {
        whole = All-tail IsWhole o os are.whole;
        row = ap (drop (8 * units)) are.row ∙ drop_at (octets_of o) (flat_map octets_of os) (8 * units) first;
      };
    }

-- the option that begins some octets
abbrev pub first_option : ℕ → ℕ → List ℕ → NdOption
first_option kind units tail = record { kind = kind; units = units; content = take (8 * units - 2) tail }

drop-two : (m kind units : ℕ) (tail : List ℕ) → 2 ≤ m → drop m (kind ∷ units ∷ tail) ≡ drop (m - 2) tail
drop-two m kind units tail h =
    let e : m ≡ suc (suc (m - 2)) = omega arith in
    ap (λ (n : ℕ). drop n (kind ∷ units ∷ tail)) e

pub joins : (kind units : ℕ) (tail : List ℕ) (others : List NdOption) → 1 ≤ units → 8 * units ≤ 2 + length tail → AreOptions (drop (8 * units) (kind ∷ units ∷ tail)) others → AreOptions (kind ∷ units ∷ tail) (first_option kind units tail ∷ others)
joins kind units tail others some within are =
    let len : length (take (8 * units - 2) tail) ≡ 8 * units - 2 = length-take-le (8 * units - 2) tail (omega arith) in
    let rest : drop (8 * units - 2) tail ≡ flat_map octets_of others = sym (drop-two (8 * units) kind units tail (omega arith)) ∙ are.row in
    let split : tail ≡ take (8 * units - 2) tail ++ flat_map octets_of others = sym (take-append-drop (8 * units - 2) tail) ∙ ap (λ (l : List ℕ). take (8 * units - 2) tail ++ l) rest in
    record {
      whole = All-cons IsWhole (first_option kind units tail) others (record { some = some; long = omega (arith, len) }) are.whole;
      row = ap (λ (l : List ℕ). kind ∷ units ∷ l) split;
    }

-- What is known before an option: whole options that fill the rest fill it all with those before them, one of
-- which names the source where that was found; and what fills it all has a part that fills the rest.
pub record Joined (octets : List ℕ) (found : Bool) (others : List NdOption) : Type 0 where
  pub options : List NdOption
  pub are : AreOptions octets options
  pub named : HasKind 1 options → (found ≡ true) ⊎ HasKind 1 others
  pub names : (found ≡ true) ⊎ HasKind 1 others → HasKind 1 options

pub record Continues (octets rest : List ℕ) (found : Bool) : Type 0 where
  pub joined : (others : List NdOption) → AreOptions rest others → Joined octets found others
  pub parted : (options : List NdOption) → AreOptions octets options → (others : List NdOption) × AreOptions rest others

pub starts : (octets : List ℕ) → Continues octets octets false
starts octets = record {
  joined = λ others are. record { options = others; are = are; named = λ h. inr h; names = λ h. elim h [ inl e ↦ absurd (false≢true e) | inr g ↦ g ] };
  parted = λ options are. (options, are);
}

pub continues_more : (octets rest : List ℕ) (found more : Bool) → Continues octets rest found → 2 ≤ length rest → 1 ≤ get_or rest 1 0 → 8 * get_or rest 1 0 ≤ length rest
    → (more ≡ true → (found ≡ true) ⊎ (get_or rest 0 0 ≡ 1)) → ((found ≡ true) ⊎ (get_or rest 0 0 ≡ 1) → more ≡ true)
    → Continues octets (drop (8 * get_or rest 1 0) rest) more
continues_more octets [] found more known two some within only all = absurd (omega arith)
continues_more octets (kind ∷ []) found more known two some within only all = absurd (omega arith)
continues_more octets (kind ∷ units ∷ tail) found more known two some within only all = record {
  joined = λ others are.
      let option = first_option kind units tail in
      let whole = known.joined (option ∷ others) (joins kind units tail others some (omega (arith, within)) are) in
      record {
        options = whole.options;
        are = whole.are;
        named = λ h. elim (whole.named h) [
          | inl e ↦ inl (all (inl e))
          | inr g ↦ elim (kind-cons 1 option others g) [ inl e ↦ inl (all (inr e)) | inr k ↦ inr k ]
        ];
        names = λ h. elim h [
          | inl e ↦ elim (only e) [ inl f ↦ whole.names (inl f) | inr k ↦ whole.names (inr (kind-head 1 option others k)) ]
          | inr g ↦ whole.names (inr (kind-tail 1 option others g))
        ];
      };
  parted = λ options are. let others = known.parted options are in let b = begins kind units tail others.0 others.1 in (b.others, b.are);
}

-- nothing is left
pub continues_all : (octets rest : List ℕ) (found : Bool) → Continues octets rest found → length rest ≡ 0 → (options : List NdOption) × AreOptions octets options × (HasKind 1 options → found ≡ true) × (found ≡ true → HasKind 1 options)
continues_all octets [] found known none =
    let whole = known.joined [] (record { whole = All-nil IsWhole; row = refl }) in
    (whole.options, whole.are, (λ h. elim (whole.named h) [ inl e ↦ e | inr g ↦ absurd (kind-nil 1 g) ]), (λ e. whole.names (inl e)))
continues_all octets (x ∷ rest) found known none = absurd (omega arith)

pub alone : (x : ℕ) (others : List NdOption) → AreOptions (x ∷ []) others → ⊥
alone x [] are = let e : suc (length {A = ℕ} []) ≡ 0 = ap length are.row in omega arith
alone x (o ∷ os) are =
    let e : suc (length {A = ℕ} []) ≡ length (octets_of o ++ flat_map octets_of os) = ap length are.row in
    omega (arith, e, length-append (octets_of o) (flat_map octets_of os))

-- one octet is left
pub stops_short : (octets rest : List ℕ) (found : Bool) → Continues octets rest found → length rest ≡ 1 → (options : List NdOption) → AreOptions octets options → ⊥
stops_short octets [] found known one options are = omega arith
stops_short octets (x ∷ y ∷ rest) found known one options are = omega arith
stops_short octets (x ∷ []) found known one options are =
    let left = known.parted options are in alone x left.0 left.1

-- an option of length 0, or one that is longer than what is left
pub stops_at : (octets rest : List ℕ) (found : Bool) → Continues octets rest found → 2 ≤ length rest → (get_or rest 1 0 ≡ 0) ⊎ (length rest < 8 * get_or rest 1 0) → (options : List NdOption) → AreOptions octets options → ⊥
stops_at octets [] found known two bad options are = omega arith
stops_at octets (x ∷ []) found known two bad options are = omega arith
stops_at octets (kind ∷ units ∷ tail) found known two bad options are =
    let left = known.parted options are in
    let b = begins kind units tail left.0 left.1 in
    let some = b.some in
    let within = b.within in
    elim bad [ inl e ↦ omega arith | inr g ↦ omega arith ]

-- octets have one row of whole options, as far as types go
pub kind_same : (kind : ℕ) (octets : List ℕ) (a b : List NdOption) → AreOptions octets a → AreOptions octets b → HasKind kind a → HasKind kind b
kind_same kind octets [] b p q h = absurd (kind-nil kind h)
kind_same kind octets (o ∷ os) [] p q h =
    let e : length (octets_of o ++ flat_map octets_of os) ≡ 0 = ap length (sym p.row ∙ q.row) in
    absurd (omega (arith, e, length-append (octets_of o) (flat_map octets_of os)))
kind_same kind octets (o ∷ os) (r ∷ rs) p q h =
    let both : octets_of o ++ flat_map octets_of os ≡ octets_of r ++ flat_map octets_of rs = sym p.row ∙ q.row in
    let first : o.kind ≡ r.kind = ap (λ (l : List ℕ). get_or l 0 0) both in
    let units : o.units ≡ r.units = ap (λ (l : List ℕ). get_or l 1 0) both in
    let whole = All-head IsWhole o os p.whole in
    let whole' = All-head IsWhole r rs q.whole in
    let len : length (octets_of o) ≡ 8 * o.units = omega (arith, whole.long) in
    let len' : length (octets_of r) ≡ 8 * o.units = omega (arith, whole'.long, units) in
    let rest : flat_map octets_of os ≡ flat_map octets_of rs =
    sym (drop_at (octets_of o) (flat_map octets_of os) (8 * o.units) len) ∙ ap (drop (8 * o.units)) both ∙ drop_at (octets_of r) (flat_map octets_of rs) (8 * o.units) len' in
    elim (kind-cons kind o os h) [
      | inl e ↦ kind-head kind r rs (sym first ∙ e)
      | inr g ↦ kind-tail kind r rs (kind_same kind (flat_map octets_of os) os rs (record { whole = All-tail IsWhole o os p.whole; row = refl }) (record { whole = All-tail IsWhole r rs q.whole; row = rest }) g)
    ]
