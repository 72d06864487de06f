-- Where the budget suffices an open pass has room, and none ends for want of it.
use Rattle.std.proofs.Common.{◌≡◌, ℕ, zero, suc, ◌+◌, ◌*◌, ◌<◌, ◌≤◌, ◌&&◌, ◌||◌, nat_lt, nat_le, Bool, true, false, if◌then◌else◌, List, [], ◌∷◌, length, refl, sym, ◌∙◌, subst, inl, inr, arith}
use Rattle.std.proofs.lemmas.Bool.{cases_eq, false≢true, lt-ltb, le-leb}
use Rattle.savi_kinds.specs.declared.plan.Plan.{Plan}
use Rattle.savi_kinds.specs.declared.entry.Who.{Who}
use Rattle.savi_kinds.specs.declared.entry.Who.TheVariants as passes
use Rattle.savi_kinds.specs.declared.entry.How.{How}
use Rattle.savi_kinds.specs.declared.entry.How.TheVariants as hows
use Rattle.hist_store.specs.Rows.{Row, held}
use Rattle.checkpoint.specs.Bases.{Base}
use Rattle.savi_history.specs.Limits.{IsWithinLimits, has_room}
use Rattle.savi_history.specs.Passes.{pass_of, pass_count, has_ended}
use Rattle.savi_history.specs.Endings.{has_pause, has_paused_end, is_paused_reason}
use Rattle.savi_history.specs.Legal.{IsLegal, Stands, MayCome, MayEnd, IsOpen}
use Rattle.savi_history.specs.Events.{Event, Frame, Long, Command, Tick, Drain, End, row_of}
use Rattle.savi_laws.specs.Budgets.{input_count, standing, causes, entries_most, Suffices}
use Rattle.savi_laws.proofs.Pauses.{no_pause}
use Rattle.savi_laws.proofs.FewEnds.{open_below, pass_low}
use Rattle.savi_laws.proofs.Budget.{entries_few}

one_at : (b : Bool) (count : ℕ) → b ≡ false → 1 ≤ (if b then 0 else 1) + count
one_at true count is = absurd (false≢true (sym is))
one_at false count is = omega arith

more_at : (b : Bool) (count : ℕ) → 1 ≤ count → 1 ≤ (if b then 0 else 1) + count
more_at true count some = omega (arith, some)
more_at false count some = omega arith

-- a pass that is open counts
some_open : (base : Base) (past : List Row) (pass : ℕ) → has_ended base pass past ≡ false → (n : ℕ) → pass < n → 1 ≤ open_below base past n
some_open base past pass running zero low = absurd (omega (arith, low))
some_open base past pass running (suc n) low =
    elim (cases_eq pass n) [
      | inl same ↦ one_at (has_ended base n past) (open_below base past n) (subst (λ (m : ℕ). has_ended base m past ≡ false) same running)
      | inr other ↦ more_at (has_ended base n past) (open_below base past n) (some_open base past pass running n (omega (arith, low, other)))
    ]

both_true : (x y : Bool) → x ≡ true → y ≡ true → (x && y) ≡ true
both_true true y one two = two
both_true false y one two = absurd (false≢true one)

or_false : (x y : Bool) → x ≡ false → y ≡ false → (x || y) ≡ false
or_false true y one two = absurd (false≢true (sym one))
or_false false y one two = two

all_of : (l left m : ℕ) → l + left ≤ m → l ≤ m
all_of l left m few = omega (arith, few)

room_left : (l left m x : ℕ) → l + left ≤ m → 1 ≤ left → 4130 + m ≤ x → l + 4130 < x
room_left l left m x few some low = omega (arith, few, some, low)

bytes_left : (h x : ℕ) → 1518 + h ≤ x → h + 1518 ≤ x
bytes_left h x low = omega (arith, low)

pub fewer_causes : (i j b x : ℕ) → i ≤ j → 4130 + (34 + 256 * (j + b)) ≤ x → 4130 + (34 + 256 * (i + b)) ≤ x
fewer_causes i j b x fewer low = omega (arith, fewer, low)

fewer_octets : (h k x : ℕ) → 1518 + (k + h) ≤ x → 1518 + h ≤ x
fewer_octets h k x low = omega (arith, low)

module _ (plan : Plan) (base : Base) (few_ports : length plan.ports ≤ 16) (within : IsWithinLimits plan base) where
  pub few_entries : (past : List Row) → IsLegal plan base past → length past ≤ entries_most (causes plan base past)
  few_entries past legal = all_of (length past) (open_below base past (pass_count plan)) (entries_most (causes plan base past)) (entries_few plan base few_ports within past legal)

  pub open_has_room : (past : List Row) (who : Who) → IsLegal plan base past → IsOpen plan base past who → Suffices plan (causes plan base past) (held past) → has_room plan past ≡ true
  open_has_room past who legal is suffices =
      let some : 1 ≤ open_below base past (pass_count plan) = some_open base past (pass_of plan who) is.running (pass_count plan) (pass_low plan who is.known) in
      let entries : length past + 4130 < plan.entries =
      room_left (length past) (open_below base past (pass_count plan)) (entries_most (causes plan base past)) plan.entries (entries_few plan base few_ports within past legal) some suffices.entries in
      both_true (nat_lt (length past + 4130) plan.entries) (nat_le (held past + 1518) plan.bytes)
      (lt-ltb (length past + 4130) plan.entries entries) (le-leb (held past + 1518) plan.bytes (bytes_left (held past) plan.bytes suffices.bytes))

  -- what suffices for a history sufficed for its past
  before : (past : List Row) (r : Row) → input_count past ≤ input_count (r ∷ past) → Suffices plan (causes plan base (r ∷ past)) (held (r ∷ past)) → Suffices plan (causes plan base past) (held past)
  before past r fewer suffices = record {
    entries = fewer_causes (input_count past) (input_count (r ∷ past)) (standing plan base) plan.entries fewer suffices.entries;
    bytes = fewer_octets (held past) (length r.octets) plan.bytes suffices.bytes;
  }

  is_not_paused : (past : List Row) (who : Who) → has_room plan past ≡ true → has_pause past ≡ false → MayEnd plan base past who hows.Paused → ⊥
  is_not_paused past (passes.Ingress p) room none may = false≢true (sym may ∙ room)
  is_not_paused past passes.Control room none may = false≢true (sym may ∙ room)
  is_not_paused past passes.Ticker room none may = false≢true (sym none ∙ may.1)
  is_not_paused past (passes.Egress p) room none may = false≢true (sym none ∙ may.1)

  -- no pass is paused where there is room and no input was paused before
  ends_well : (past : List Row) (who : Who) (how : How) → has_room plan past ≡ true → has_pause past ≡ false → MayEnd plan base past who how → is_paused_reason how ≡ false
  ends_well past who hows.End room none may = refl
  ends_well past who hows.Quit room none may = refl
  ends_well past who (hows.Malformed at) room none may = refl
  ends_well past who (hows.Overlong at) room none may = refl
  ends_well past who hows.Failed room none may = refl
  ends_well past who hows.Unwritten room none may = refl
  ends_well past who hows.Paused room none may = absurd (is_not_paused past who room none may)

  abbrev EndsWell : List Row → Type 0
  EndsWell past = Suffices plan (causes plan base past) (held past) → has_paused_end past ≡ false

  well_event : (past : List Row) (event : Event) → IsLegal plan base past → MayCome plan base past event → EndsWell past → EndsWell (row_of plan base past event ∷ past)
  well_event past (Frame port stamp octets) legal may well suffices = well (before past (row_of plan base past (Frame port stamp octets)) (omega arith) suffices)
  well_event past (Long port stamp len) legal may well suffices = well (before past (row_of plan base past (Long port stamp len)) (omega arith) suffices)
  well_event past (Command stamp line) legal may well suffices = well (before past (row_of plan base past (Command stamp line)) (omega arith) suffices)
  well_event past (Tick stamp) legal may well suffices = well (before past (row_of plan base past (Tick stamp)) (omega arith) suffices)
  well_event past (Drain port count) legal may well suffices = well (before past (row_of plan base past (Drain port count)) (omega arith) suffices)
  well_event past (End who how) legal may well suffices =
      let enough : Suffices plan (causes plan base past) (held past) = before past (row_of plan base past (End who how)) (omega arith) suffices in
      let none : has_paused_end past ≡ false = well enough in
      or_false (is_paused_reason how) (has_paused_end past) (ends_well past who how (open_has_room past who legal may.0 enough) (no_pause past none) may.1) none

  pub none_full : (past : List Row) → IsLegal plan base past → EndsWell past
  none_full [] legal suffices = refl
  none_full (r ∷ past) legal suffices =
      let stands : Stands plan base past r = legal.0 in
      let well : EndsWell (r ∷ past) = subst (λ (x : Row). EndsWell (x ∷ past)) (sym stands.2) (well_event past stands.0 legal.1 stands.1 (none_full past legal.1)) in
      well suffices
