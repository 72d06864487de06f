-- How passes have ended for good: at the start, behind one more row, and behind a turn.
use Rattle.std.proofs.Common.{◌≡◌, ℕ, zero, suc, ◌+◌, ◌<◌, ◌==◌, ◌&&◌, ◌||◌, Bool, true, false, if◌then◌else◌, Option, Some, None, List, [], ◌∷◌, ◌++◌, length, replicate, get_or, set, refl, sym, ap, subst, ◌∙◌, ◌⊎◌, ◌≢◌, inl, inr, arith, get_or-set_same, get_or-set_other, length-set}
use Rattle.std.specs.Prelude.{reverse}
use Rattle.std.specs.Option.{is_some}
use Rattle.std.specs.List.{list_any}
use Rattle.std.proofs.lemmas.Bool.{cases_eq, eq-eqb, ne_eqb, false≢true}
use Rattle.savi_kinds.specs.declared.plan.Plan.{Plan}
use Rattle.savi_kinds.specs.declared.entry.Entry.{Entry}
use Rattle.savi_kinds.specs.declared.entry.Act.{Act}
use Rattle.savi_kinds.specs.declared.entry.Act.TheVariants as acts
use Rattle.savi_kinds.specs.declared.entry.Who.{Who}
use Rattle.savi_kinds.specs.declared.entry.How.{How}
use Rattle.hist_store.specs.Rows.{Row}
use Rattle.checkpoint.specs.Bases.{Base, empty}
use Rattle.savi_history.specs.Passes.{has_ended, is_end, pass_count, control_pass}
use Rattle.savi_history.specs.Endings.{is_paused_reason}
use Rattle.savi_history.specs.Events.{Event, row_of}
use Rattle.savi_history.specs.Events as events
use Rattle.savi_segments.specs.Checkpoints.{up_to, ended_after, end_among, end_of, after}
use Rattle.savi_segments.proofs.Passing.{below_in, in_ends}
use Rattle.savi_core.specs.Ends.{EndMarks, none_over, with_over, with_ending, AreEnds}
use Rattle.savi_core.specs.Remembers.{CoreState, Remembers}
use Rattle.savi_core.proofs.Remembering.{reverse_push}
use Rattle.savi_core.proofs.Stepping.{row}

or_parts : (x y : Bool) → (x || y) ≡ false → (x ≡ false) × (y ≡ false)
or_parts true y none = absurd (false≢true (sym none))
or_parts false y none = (refl, none)

-- a pass that hasn't ended hasn't ended for good

none_among : (pass : ℕ) (ends : List (ℕ × How)) → list_any (λ ended. ended.0 == pass) ends ≡ false → end_among pass ends ≡ None
none_among pass [] none = refl
none_among pass (end ∷ ends) none =
    let parts = or_parts (end.0 == pass) (list_any (λ ended. ended.0 == pass) ends) none in
    ap (λ (b : Bool). if b then Some end.1 else end_among pass ends) parts.0 ∙ none_among pass ends parts.1

for_good_none : (paused here : Bool) (how : How) (before : Option How) → here ≡ false → before ≡ None → (if paused then before else if here then Some how else before) ≡ None
for_good_none true here how before other none = none
for_good_none false here how before other none = ap (λ (b : Bool). if b then Some how else before) other ∙ none

act_none : (pass by : ℕ) (act : Act) (before : Option How) → (is_end act && (by == pass)) ≡ false → before ≡ None → ended_after pass by act before ≡ None
act_none pass by (acts.Frame port stamp at len) before other none = none
act_none pass by (acts.Long port stamp len) before other none = none
act_none pass by (acts.Tick stamp) before other none = none
act_none pass by (acts.Command stamp at len) before other none = none
act_none pass by (acts.Drain port count) before other none = none
act_none pass by (acts.End who how) before other none = for_good_none (is_paused_reason how) (by == pass) how before other none

pub end_none : (base : Base) (pass : ℕ) (past : List Row) → has_ended base pass past ≡ false → end_of base pass past ≡ None
end_none base pass [] runs = none_among pass base.ended runs
end_none base pass (r ∷ past) runs =
    let parts = or_parts (is_end r.entry.act && (r.entry.by == pass)) (has_ended base pass past) runs in
    act_none pass r.entry.by r.entry.act (end_of base pass past) parts.0 (end_none base pass past parts.1)

-- behind a turn a pass has ended where it had ended for good

some_at : (here more : Bool) (how : How) (end : Option How) → more ≡ is_some end → (here || more) ≡ is_some (if here then Some how else end)
some_at true more how end same = refl
some_at false more how end same = same

pub any_some : (pass : ℕ) (ends : List (ℕ × How)) → list_any (λ ended. ended.0 == pass) ends ≡ is_some (end_among pass ends)
any_some pass [] = refl
any_some pass (end ∷ ends) = some_at (end.0 == pass) (list_any (λ ended. ended.0 == pass) ends) end.1 (end_among pass ends) (any_some pass ends)

pub over_behind : (plan : Plan) (base : Base) (past : List Row) (pass : ℕ) → pass < pass_count plan → has_ended (after plan base past) pass [] ≡ is_some (end_of base pass past)
over_behind plan base past pass below =
    any_some pass (after plan base past).ended
    ∙ ap (λ (end : Option How). is_some end) (in_ends (λ n. end_of base n past) pass (up_to (pass_count plan)) (below_in (pass_count plan) pass below))

pub end_behind : (plan : Plan) (base : Base) (past : List Row) (pass : ℕ) → pass < pass_count plan → end_of (after plan base past) pass [] ≡ end_of base pass past
end_behind plan base past pass below = in_ends (λ n. end_of base n past) pass (up_to (pass_count plan)) (below_in (pass_count plan) pass below)

-- at the start

none_at : (n i : ℕ) → get_or (replicate {A = Option How} n None) i None ≡ None
none_at zero i = refl
none_at (suc n) zero = refl
none_at (suc n) (suc i) = none_at n i

pub ends_start : (plan : Plan) (inputs : ℕ) → inputs ≡ control_pass plan + 1 → AreEnds plan empty [] (none_over inputs)
ends_start plan inputs is = record { inputs = is; size = refl; ends = λ pass below. none_at 34 pass }

pub ends_turned : (plan : Plan) (base : Base) (past : List Row) (marks : EndMarks) → AreEnds plan base past marks → AreEnds plan (after plan base past) [] marks
ends_turned plan base past marks are = record { inputs = are.inputs; size = are.size; ends = λ pass below. are.ends pass below ∙ sym (end_behind plan base past pass below) }

-- behind one more row

abbrev pub IsNoEnd : Event → Type 0
IsNoEnd (events.Frame port stamp octets) = Unit {0}
IsNoEnd (events.Long port stamp len) = Unit {0}
IsNoEnd (events.Command stamp line) = Unit {0}
IsNoEnd (events.Tick stamp) = Unit {0}
IsNoEnd (events.Drain port count) = Unit {0}
IsNoEnd (events.End who how) = ⊥

end_still : (pass by : ℕ) (act : Act) (before : Option How) → is_end act ≡ false → ended_after pass by act before ≡ before
end_still pass by (acts.Frame port stamp at len) before none = refl
end_still pass by (acts.Long port stamp len) before none = refl
end_still pass by (acts.Tick stamp) before none = refl
end_still pass by (acts.Command stamp at len) before none = refl
end_still pass by (acts.Drain port count) before none = refl
end_still pass by (acts.End who how) before none = absurd (false≢true (sym none))

module _ {k : CoreState} (was : Remembers k) where
  no_end : (event : Event) → IsNoEnd event → is_end (row_of k.plan k.base (reverse k.rows) event).entry.act ≡ false
  no_end (events.Frame port stamp octets) none = refl
  no_end (events.Long port stamp len) none = refl
  no_end (events.Command stamp line) none = refl
  no_end (events.Tick stamp) none = refl
  no_end (events.Drain port count) none = refl
  no_end (events.End who how) none = absurd none

  -- an entry that ends no pass
  pub ends_still : (marks : EndMarks) → AreEnds k.plan k.base (reverse k.rows) marks → (event : Event) (e : Entry) (octets : List ℕ) → e ≡ (row_of k.plan k.base (reverse k.rows) event).entry → IsNoEnd event
      → AreEnds k.plan k.base (reverse (k.rows ++ row e octets ∷ [])) marks
  ends_still marks are event e octets e_is none =
      rw (reverse_push k.rows (row e octets)) (record {
        inputs = are.inputs;
        size = are.size;
        ends = λ pass below. are.ends pass below ∙ sym (end_still pass e.by e.act (end_of k.base pass (reverse k.rows)) (ap (λ (x : Entry). is_end x.act) e_is ∙ no_end event none));
      })

  -- the end of a pass that is paused
  pub ends_paused : (marks : EndMarks) → AreEnds k.plan k.base (reverse k.rows) marks → (who : Who) (how : How) (e : Entry) → e ≡ (row_of k.plan k.base (reverse k.rows) (events.End who how)).entry → is_paused_reason how ≡ true
      → AreEnds k.plan k.base (reverse (k.rows ++ row e [] ∷ [])) marks
  ends_paused marks are who how e e_is paused =
      rw (reverse_push k.rows (row e [])) (record {
        inputs = are.inputs;
        size = are.size;
        ends = λ pass below.
            are.ends pass below
            ∙ sym (ap (λ (x : Entry). ended_after pass x.by x.act (end_of k.base pass (reverse k.rows))) e_is
            ∙ ap (λ (b : Bool). if b then end_of k.base pass (reverse k.rows) else if (row_of k.plan k.base (reverse k.rows) (events.End who how)).entry.by == pass then Some how else end_of k.base pass (reverse k.rows)) paused);
      })

  -- that of one that isn't
  pub ends_over : (marks : EndMarks) → AreEnds k.plan k.base (reverse k.rows) marks → (who : Who) (how : How) (e : Entry) → e ≡ (row_of k.plan k.base (reverse k.rows) (events.End who how)).entry → is_paused_reason how ≡ false → e.by < 34
      → AreEnds k.plan k.base (reverse (k.rows ++ row e [] ∷ [])) (with_over e.by how marks)
  ends_over marks are who how e e_is ends small =
      rw (reverse_push k.rows (row e [])) (record {
        inputs = are.inputs;
        size = size;
        ends = λ pass below. here pass (cases_eq e.by pass) below ∙ sym (behind pass);
      })
    where
      size : length (set marks.ends e.by (Some how)) ≡ 34
      size = length-set marks.ends e.by (Some how) ∙ are.size

      behind : (pass : ℕ) → ended_after pass e.by e.act (end_of k.base pass (reverse k.rows)) ≡ (if e.by == pass then Some how else end_of k.base pass (reverse k.rows))
      behind pass =
          ap (λ (a : Act). ended_after pass e.by a (end_of k.base pass (reverse k.rows))) (ap (λ (x : Entry). x.act) e_is)
          ∙ ap (λ (b : Bool). if b then end_of k.base pass (reverse k.rows) else if e.by == pass then Some how else end_of k.base pass (reverse k.rows)) ends

      here : (pass : ℕ) → (e.by ≡ pass) ⊎ (e.by ≢ pass) → pass < pass_count k.plan → get_or (set marks.ends e.by (Some how)) pass None ≡ (if e.by == pass then Some how else end_of k.base pass (reverse k.rows))
      here pass (inl same) below =
          ap (λ (n : ℕ). get_or (set marks.ends e.by (Some how)) n None) (sym same)
          ∙ get_or-set_same marks.ends e.by (Some how) None (omega (arith, small, are.size))
          ∙ sym (ap (λ (b : Bool). if b then Some how else end_of k.base pass (reverse k.rows)) (eq-eqb e.by pass same))
      here pass (inr other) below =
          get_or-set_other marks.ends e.by pass (Some how) None (λ same. other (sym same))
          ∙ are.ends pass below
          ∙ sym (ap (λ (b : Bool). if b then Some how else end_of k.base pass (reverse k.rows)) (ne_eqb e.by pass other))

  -- that of either
  pub ends_ended : (marks : EndMarks) → AreEnds k.plan k.base (reverse k.rows) marks → (who : Who) (how : How) (e : Entry) → e ≡ (row_of k.plan k.base (reverse k.rows) (events.End who how)).entry → e.by < 34
      → AreEnds k.plan k.base (reverse (k.rows ++ row e [] ∷ [])) (with_ending e.by how marks)
  ends_ended marks are who how e e_is small = at (is_paused_reason how) refl
    where
      at : (b : Bool) → is_paused_reason how ≡ b → AreEnds k.plan k.base (reverse (k.rows ++ row e [] ∷ [])) (with_ending e.by how marks)
      at true is =
          subst (λ (m : EndMarks). AreEnds k.plan k.base (reverse (k.rows ++ row e [] ∷ [])) m) (sym (ap (λ (b : Bool). if b then marks else with_over e.by how marks) is))
          (ends_paused marks are who how e e_is is)
      at false is =
          subst (λ (m : EndMarks). AreEnds k.plan k.base (reverse (k.rows ++ row e [] ∷ [])) m) (sym (ap (λ (b : Bool). if b then marks else with_over e.by how marks) is))
          (ends_over marks are who how e e_is is small)
