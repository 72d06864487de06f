-- The rule that each step keeps, of the three words, the slot, and what each pass knows (its view).
--
-- The words are the next ticket, the ticket that is served, and how many entries were made. Let H be the history of the
-- value in the slot or, while the value is away, what the one pass that has it has seen. Then, with the fields of `Keeps`
-- and `Fits` that say so:
-- * The ticket that is served is at most the next ticket, and at most 2^63 (`counted`, `served`).
-- * The tickets of the passes are different (`apart`), lie from the one that is served to below the next one (`ranges`),
--   and are as many as lie there (`counted`). A pass between two turns has no ticket, and a pass that waits has one
--   (`Stage`). A pass that is out has the one that is served, which is below 2^63 (`ranges`).
-- * At most one pass is out (by `ranges` and `apart`), and the value is away from the slot exactly then (`placed`).
-- * H has as many entries as the third word says (`words`).
-- * What a pass has seen begins H (`seen`), and so does what a pass had seen that was joined into it (`told`).
-- * One pass knows how many numbers were given out: the one that has the key 0, which is the first pass or the one that it
--   was joined into (`has_count`). No other pass counts them (`count`). They are at most as many as the lock was made for
--   (`few`), and those are at most 34 (`most`).
-- * There are as many views as numbers were given out, those of spent passes with them (`all`), and together they have as
--   many keys (`shared`).
-- * Each number that was given out is a key of one pass (`keyed`) and of no other, and no other number is a key (`keys`) or
--   has an entry in H (`others`).
-- * The list at the key i of a pass is the entries of i in H (`keys`). A pass that isn't spent has a number, which is among
--   its keys (`own`).
-- * Every pass that isn't spent knows the fixed part of the value that the lock was made with (`fixed`), and the value in
--   the slot has it (`placed`).
-- * A pass that was joined into another is spent: it has no ticket (`Stage`), no number, no key and no count, and has seen
--   nothing (`spent`).
use Rattle.std.specs.Prelude.{◌≡◌, ◌≢◌, ◌⊎◌, ℕ, ◌+◌, ◌^◌, ◌<◌, ◌≤◌, List, [], ◌∷◌, length, Option, Some, None}
use Rattle.std.specs.List.{sum_by}
use mathlib.Core.Option.{none, some}
use mathlib.Core.Option as maybe
use lib.ListN.{get_elem?}
use Rattle.atomic_table.specs.Table.{State}
use Rattle.table_lock.specs.Entries.{EntryList, mine, StartsWith}
use Rattle.table_lock.specs.declared.board.Stage.{Stage}
use Rattle.table_lock.specs.declared.board.Stage.TheVariants.{Spent, Idle, Waiting, Out}
use Rattle.table_lock.specs.declared.board.View.{View}

-- a finite map from numbers of passes to their entries
abbrev pub Map : Type 0
Map = List (ℕ × EntryList)

abbrev pub Has : Map → ℕ → EntryList → Type 0
Has m i es = (k : ℕ) × (get_elem? m k ≡ some (i, es))

-- a ticket lies from the one that is served to below the next one, and one that is out is served
abbrev pub InRange : ℕ → ℕ → Stage → Type 0
InRange serving ticket Spent = Unit {0}
InRange serving ticket Idle = Unit {0}
InRange serving ticket (Waiting t) = (serving ≤ t) × (t < ticket)
InRange serving ticket (Out t) = (t ≡ serving) × (t < ticket) × (t < 2 ^ 63)

abbrev pub IsTicket : Stage → ℕ → Type 0
IsTicket Spent t = ⊥
IsTicket Idle t = ⊥
IsTicket (Waiting x) t = x ≡ t
IsTicket (Out x) t = x ≡ t

-- how many tickets a pass has
abbrev pub tickets : Stage → ℕ
tickets Spent = 0
tickets Idle = 0
tickets (Waiting t) = 1
tickets (Out t) = 1

-- how many tickets all passes have
abbrev pub waiting : List View → ℕ
waiting views = sum_by (λ v. tickets v.stage) views

-- how many keys all passes have
abbrev pub key_count : List View → ℕ
key_count views = sum_by (λ v. length v.mine) views

-- what the view of a seat has to do with the history H, where n numbers were given out, and i is a key of the seat `owner i`
pub record FitsView (F : List ℕ) (H : EntryList) (n : ℕ) (owner : ℕ → ℕ) (seat : ℕ) (v : View) : Type 0 where
  pub seen : StartsWith H v.seen
  pub fixed : v.stage ≢ Spent → v.fixed ≡ F
  pub keys : (i : ℕ) (es : EntryList) → Has v.mine i es → (i < n) × (owner i ≡ seat) × (es ≡ mine i H)
  pub own : v.stage ≢ Spent → (i : ℕ) × (es : EntryList) × (v.number ≡ Some i) × Has v.mine i es
  pub count : v.seats ≢ 0 → (v.seats ≡ n) × (seat ≡ owner 0)
  pub told : (k : ℕ) (xs : EntryList) → get_elem? v.told k ≡ some xs → StartsWith H xs
  pub spent : v.stage ≡ Spent → (v.number ≡ None) × (v.seen ≡ []) × (v.mine ≡ []) × (v.seats ≡ 0)

module _ {V : Type 0} (history : V → EntryList) (fixed : V → List ℕ) (F : List ℕ) (N : ℕ) where
  -- the value is in the slot with the history H and no pass is out, or it is away with a pass that has seen H
  abbrev pub HasValueInPlace : EntryList → List (maybe.Option (Option V)) → List View → Type 0
  HasValueInPlace H homes views =
      ((x : V) × (homes ≡ some (Some x) ∷ []) × (history x ≡ H) × (fixed x ≡ F) × ((j : ℕ) (v : View) → get_elem? views j ≡ some v → (t : ℕ) → v.stage ≢ Out t))
      ⊎ ((homes ≡ none ∷ []) × ((j : ℕ) × (v : View) × (t : ℕ) × (get_elem? views j ≡ some v) × (v.stage ≡ Out t) × (v.seen ≡ H)))

  pub record Keeps (s : State (Option V) View) : Type 0 where
    pub H : EntryList
    pub n : ℕ
    pub owner : ℕ → ℕ
    pub ticket : ℕ
    pub serving : ℕ
    pub words : s.words ≡ ticket ∷ serving ∷ length H ∷ []
    pub served : serving ≤ 2 ^ 63
    pub few : n ≤ N
    pub most : N ≤ 34
    pub all : length s.views ≡ n
    pub has_count : (v : View) × (get_elem? s.views (owner 0) ≡ some v) × (v.seats ≡ n)
    pub counted : waiting s.views + serving ≡ ticket
    pub shared : key_count s.views ≡ n
    pub ranges : (j : ℕ) (v : View) → get_elem? s.views j ≡ some v → InRange serving ticket v.stage
    pub apart : (j : ℕ) (v : View) → get_elem? s.views j ≡ some v → (k : ℕ) (w : View) → get_elem? s.views k ≡ some w → (t : ℕ) → IsTicket v.stage t → IsTicket w.stage t → j ≡ k
    pub each : (j : ℕ) (v : View) → get_elem? s.views j ≡ some v → FitsView F H n owner j v
    pub keyed : (i : ℕ) → i < n → (v : View) × (es : EntryList) × (get_elem? s.views (owner i) ≡ some v) × Has v.mine i es
    pub others : (i : ℕ) → n ≤ i → mine i H ≡ []
    pub placed : HasValueInPlace H s.homes s.views

-- what the first pass knows as the lock is made: its number is 0
abbrev pub opening_view : List ℕ → View
opening_view F = record { number = Some 0; stage = Idle; seats = 1; seen = []; mine = (0, []) ∷ []; fixed = F; told = [] }
