-- An entry differs in one way from those that may stand in its place, and one that may stand there doesn't.
use Rattle.std.proofs.Common.{◌≡◌, ℕ, Bool, true, false, true≢false, if◌then◌else◌, List, [], ◌∷◌, length, decimal, Option, Some, None, refl, ap, sym, ◌∙◌, inl, inr, subst, arith}
use Rattle.std.specs.Str.{bytes_eq}
use Rattle.std.specs.Cmp.Lexicographic.{bytes_decides}
use Rattle.savi_kinds.specs.declared.plan.Plan.{Plan}
use Rattle.savi_kinds.specs.declared.entry.Act.{Act}
use Rattle.savi_kinds.specs.declared.entry.Act.TheVariants as acts
use Rattle.hist_store.specs.Rows.{Row}
use Rattle.hist_store.specs.LineTexts.{line_fields}
use Rattle.hist_store.specs.EntryLines.{act_said, row_said}
use Rattle.checkpoint.specs.Bases.{Base}
use Rattle.savi_history.specs.Events.{Event, Frame, Long, Command, Tick, Drain, End, row_of}
use Rattle.savi_history.specs.Legal.{MayCome, Stands}
use Rattle.journal_check.specs.Differing.{event_by, row_event, WantsNumber, first_apart, Differs}
use Rattle.journal_check.proofs.SaidFields.{fields_said}

-- events

pub event_row : (plan : Plan) (base : Base) (past : List Row) (event : Event) → row_event (row_of plan base past event) ≡ event
event_row plan base past (Frame port stamp octets) = refl
event_row plan base past (Long port stamp len) = refl
event_row plan base past (Command stamp line) = refl
event_row plan base past (Tick stamp) = refl
event_row plan base past (Drain port count) = refl
event_row plan base past (End who how) = refl

event_said_by : (act : Act) (octets : List ℕ) → event_by (act_said act) octets ≡ event_by act octets
event_said_by (acts.Frame port stamp at len) octets = refl
event_said_by (acts.Long port stamp len) octets = refl
event_said_by (acts.Tick stamp) octets = refl
event_said_by (acts.Command stamp at len) octets = refl
event_said_by (acts.Drain port count) octets = refl
event_said_by (acts.End who how) octets = refl

pub event_said : (row : Row) → row_event (row_said row) ≡ row_event row
event_said row = event_said_by row.entry.act row.octets

-- the event of a row that stands is the one of which it is the row
pub stood_event : (plan : Plan) (base : Base) (past : List Row) (row : Row) (stands : Stands plan base past row) → row_event row ≡ stands.0
stood_event plan base past row stands = ap row_event stands.2 ∙ event_row plan base past stands.0

-- the number that is wanted

wants_same : (plan : Plan) (base : Base) (past : List Row) (event : Event) (m n m' n' : ℕ) → WantsNumber plan base past event m n → WantsNumber plan base past event m' n' → (m ≡ m') × (n ≡ n')
wants_same plan base past (Drain port count) m n m' n' a b = (a.1 ∙ sym b.1, a.3 ∙ sym b.3)
wants_same plan base past (End who how) m n m' n' a b = absurd a
wants_same plan base past (Frame port stamp octets) m n m' n' a b = absurd a
wants_same plan base past (Long port stamp len) m n m' n' a b = absurd a
wants_same plan base past (Command stamp line) m n m' n' a b = absurd a
wants_same plan base past (Tick stamp) m n m' n' a b = absurd a

-- an event that may come wants no number
wants_none : (plan : Plan) (base : Base) (past : List Row) (event : Event) (m n : ℕ) → MayCome plan base past event → WantsNumber plan base past event m n → ⊥
wants_none plan base past (Drain port count) m n may a =
    let few = may.2 in
    let waits = a.1 in
    let less = a.2 in
    omega (arith, few, waits, less)
wants_none plan base past (End who how) m n may a = a
wants_none plan base past (Frame port stamp octets) m n may a = a
wants_none plan base past (Long port stamp len) m n may a = a
wants_none plan base past (Command stamp line) m n may a = a
wants_none plan base past (Tick stamp) m n may a = a

-- fields

abbrev Both : Type 0
Both = List ℕ × List ℕ

same_apart_at : (b : Bool) (field : List ℕ) (rest : Option Both) → b ≡ true → rest ≡ None → (if b then rest else Some (field, field)) ≡ None
same_apart_at true field rest is none = none
same_apart_at false field rest is none = absurd (true≢false (sym is))

same_apart : (fields : List (List ℕ)) → first_apart fields fields ≡ None
same_apart [] = refl
same_apart (field ∷ fields) = same_apart_at (bytes_eq field field) field (first_apart fields fields) ((bytes_decides field field).1 refl) (same_apart fields)

none_some : (o : Option Both) (both : Both) → o ≡ None → o ≡ Some both → ⊥
none_some o both none some = cc

abbrev picked : Both → Option Both → Both
picked both None = both
picked both (Some other) = other

some_same : (o : Option Both) (a b : Both) → o ≡ Some a → o ≡ Some b → a ≡ b
some_same o a b e f = ap (picked a) (sym e ∙ f)

-- in what an entry differs

pub differs_same : (plan : Plan) (base : Base) (past : List Row) (row : Row) (want have want' have' : List ℕ) → Differs plan base past row want have → Differs plan base past row want' have' → (want ≡ want') × (have ≡ have')
differs_same plan base past row want have want' have' (inl a) (inl b) = (a.want_none ∙ sym b.want_none, a.have_letter ∙ sym b.have_letter)
differs_same plan base past row want have want' have' (inl a) (inr (inl b)) = absurd (a.no_number b.wanted b.given b.wants)
differs_same plan base past row want have want' have' (inl a) (inr (inr b)) = absurd (a.never b.may)
differs_same plan base past row want have want' have' (inr (inl a)) (inl b) = absurd (b.no_number a.wanted a.given a.wants)
differs_same plan base past row want have want' have' (inr (inl a)) (inr (inl b)) =
    let numbers = wants_same plan base past (row_event row) a.wanted a.given b.wanted b.given a.wants b.wants in
    (a.want_number ∙ ap decimal numbers.0 ∙ sym b.want_number, a.have_number ∙ ap decimal numbers.1 ∙ sym b.have_number)
differs_same plan base past row want have want' have' (inr (inl a)) (inr (inr b)) = absurd (wants_none plan base past (row_event row) a.wanted a.given b.may a.wants)
differs_same plan base past row want have want' have' (inr (inr a)) (inl b) = absurd (b.never a.may)
differs_same plan base past row want have want' have' (inr (inr a)) (inr (inl b)) = absurd (wants_none plan base past (row_event row) b.wanted b.given a.may b.wants)
differs_same plan base past row want have want' have' (inr (inr a)) (inr (inr b)) =
    let both = some_same _ (want, have) (want', have') a.apart b.apart in
    (ap (λ (p : Both). p.0) both, ap (λ (p : Both). p.1) both)

-- a row as the line of one that stands says it
pub stands_not : (plan : Plan) (base : Base) (past : List Row) (row other : Row) (want have : List ℕ) → Stands plan base past row → other ≡ row_said row → Differs plan base past other want have → ⊥
stands_not plan base past row other want have stands same (inl a) =
    let event : row_event other ≡ stands.0 = ap row_event same ∙ event_said row ∙ stood_event plan base past row stands in
    a.never (subst (MayCome plan base past) (sym event) stands.1)
stands_not plan base past row other want have stands same (inr (inl a)) =
    let event : row_event other ≡ stands.0 = ap row_event same ∙ event_said row ∙ stood_event plan base past row stands in
    wants_none plan base past stands.0 a.wanted a.given stands.1 (subst (λ (e : Event). WantsNumber plan base past e a.wanted a.given) event a.wants)
stands_not plan base past row other want have stands same (inr (inr a)) =
    let n = length past in
    let event : row_event other ≡ stands.0 = ap row_event same ∙ event_said row ∙ stood_event plan base past row stands in
    let is : row_of plan base past (row_event other) ≡ row = ap (row_of plan base past) event ∙ sym stands.2 in
    let fields : line_fields n (row_of plan base past (row_event other)) ≡ line_fields n other = ap (line_fields n) is ∙ fields_said n row ∙ ap (line_fields n) (sym same) in
    none_some _ (want, have) (ap (λ (fs : List (List ℕ)). first_apart fs (line_fields n other)) fields ∙ same_apart (line_fields n other)) a.apart
