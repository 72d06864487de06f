-- Each pass of a switch ends for good once: so legal segments tell of no more ends than there are passes.
use Rattle.std.proofs.Common.{◌≡◌, ◌≢◌, ℕ, zero, suc, ◌+◌, ◌<◌, ◌≤◌, ◌==◌, Bool, true, false, if◌then◌else◌, List, [], ◌∷◌, ◌++◌, length, length-append, refl, sym, ap, ◌∙◌, subst, arith, append-nil, append_assoc, zero-add, inl, inr, Option, Some}
use Rattle.std.specs.List.{filter}
use Rattle.std.specs.Option.{is_some}
use Rattle.std.proofs.lemmas.Bool.{cases_eq, cases_Bool, eq-eqb, ne_eqb, false≢true}
use Rattle.savi_kinds.specs.declared.plan.Plan.{Plan}
use Rattle.savi_kinds.specs.declared.entry.Who.{Who}
use Rattle.savi_kinds.specs.declared.entry.Who.TheVariants as passes
use Rattle.savi_kinds.specs.declared.entry.How.{How}
use Rattle.savi_kinds.specs.Ports.{number_of}
use Rattle.savi_kinds.specs.ValidPlan.{IsValidPlan}
use Rattle.hist_store.specs.Rows.{Row}
use Rattle.checkpoint.specs.Bases.{Base}
use Rattle.savi_history.specs.Endings.{end_told, ends_told, is_paused_reason}
use Rattle.savi_history.specs.Events.{Event, Frame, Long, Command, Tick, Drain, End, row_of}
use Rattle.savi_history.specs.Legal.{IsLegal, IsOpen, MayCome}
use Rattle.savi_history.specs.Passes.{has_pass, pass_count, pass_of}
use Rattle.savi_history.proofs.PortPlaces.{place_within}
use Rattle.savi_segments.specs.Checkpoints.{end_of, up_to}
use Rattle.savi_segments.specs.Segments.{AreLegal, base_after, joined}
use Rattle.savi_segments.proofs.Passing.{below_in, in_ends}
use Rattle.journal_write.specs.Told.{passes_over}
use Rattle.savi_segments.proofs.HowEnded.{shows}

abbrev one_if : Bool → ℕ
one_if true = 1
one_if false = 0

-- how many of the passes below a number are over
abbrev over_below : (ℕ → Bool) → ℕ → ℕ
over_below over zero = 0
over_below over (suc n) = one_if (over n) + over_below over n

few_below : (over : ℕ → Bool) (n : ℕ) → over_below over n ≤ n
few_below over zero = omega arith
few_below over (suc n) = let more = few_below over n in elim (cases_Bool (over n)) [ inl is ↦ rw is (omega (arith, more)) | inr not ↦ rw not (omega (arith, more)) ]

same_below : (over was : ℕ → Bool) (n : ℕ) → ((pass : ℕ) → pass < n → over pass ≡ was pass) → over_below over n ≡ over_below was n
same_below over was zero same = refl
same_below over was (suc n) same =
    ap (λ (b : Bool). one_if b + over_below over n) (same n (omega arith)) ∙ ap (λ (m : ℕ). one_if (was n) + m) (same_below over was n (λ pass below. same pass (omega (arith, below))))

-- one more is over
one_more : (over was : ℕ → Bool) (n pass : ℕ) → pass < n → was pass ≡ false → over pass ≡ true → ((other : ℕ) → other ≢ pass → over other ≡ was other) → over_below over n ≡ over_below was n + 1
one_more over was zero pass below before now same = absurd (omega (arith, below))
one_more over was (suc n) pass below before now same = elim (cases_eq pass n) [
  | inl here ↦
      let rest : over_below over n ≡ over_below was n = same_below over was n (λ other low. same other (λ is. absurd (omega (arith, low, is, here)))) in
      let now_here : one_if (over n) ≡ 1 = ap one_if (subst (λ (k : ℕ). over k ≡ true) here now) in
      let was_here : one_if (was n) ≡ 0 = ap one_if (subst (λ (k : ℕ). was k ≡ false) here before) in
      omega (arith, rest, now_here, was_here)
  | inr apart ↦
      let rest : over_below over n ≡ over_below was n + 1 = one_more over was n pass (omega (arith, below, apart)) before now same in
      let here : one_if (over n) ≡ one_if (was n) = ap one_if (same n (λ is. apart (sym is))) in
      omega (arith, rest, here)
]

abbrev over_of : Base → List Row → ℕ → Bool
over_of base past pass = is_some (end_of base pass past)

-- they are those that a filter keeps

one_kept : (b : Bool) (n : ℕ) → length (if b then n ∷ [] else []) ≡ one_if b
one_kept true n = refl
one_kept false n = refl

kept_at : (b : Bool) (x n m : ℕ) (xs : List ℕ) (over : ℕ → Bool) → length (filter over (xs ++ n ∷ [])) ≡ length (filter over xs) + m
    → length (if b then x ∷ filter over (xs ++ n ∷ []) else filter over (xs ++ n ∷ [])) ≡ length (if b then x ∷ filter over xs else filter over xs) + m
kept_at true x n m xs over step = omega (arith, step)
kept_at false x n m xs over step = step

filter_push : (over : ℕ → Bool) (xs : List ℕ) (n : ℕ) → length (filter over (xs ++ n ∷ [])) ≡ length (filter over xs) + one_if (over n)
filter_push over [] n = one_kept (over n) n ∙ sym (zero-add (one_if (over n)))
filter_push over (x ∷ xs) n = kept_at (over x) x n (one_if (over n)) xs over (filter_push over xs n)

over_counted : (over : ℕ → Bool) (n : ℕ) → length (filter over (up_to n)) ≡ over_below over n
over_counted over zero = refl
over_counted over (suc n) =
    let rest = over_counted over n in
    let turned : length (filter over (up_to n)) + one_if (over n) ≡ one_if (over n) + over_below over n = omega (arith, rest) in
    filter_push over (up_to n) n ∙ turned

none_over : (n : ℕ) → over_below (λ pass. false) n ≡ 0
none_over zero = refl
none_over (suc n) = ap (λ (m : ℕ). 0 + m) (none_over n)

-- what is told of rows in front of others
pub told_both : (xs rows : List Row) → ends_told (xs ++ rows) ≡ ends_told rows ++ ends_told xs
told_both [] rows = sym (append-nil (ends_told rows))
told_both (r ∷ xs) rows =
    ap (λ (l : List (Who × How)). l ++ end_told r.entry.act) (told_both xs rows) ∙ append_assoc (ends_told rows) (ends_told xs) (end_told r.entry.act)

module _ (plan : Plan) where
  pass_below : (who : Who) → has_pass plan who ≡ true → pass_of plan who < pass_count plan
  pass_below (passes.Ingress p) known = let within = place_within plan (number_of p) known in omega (arith, within)
  pass_below passes.Control known = omega arith
  pass_below passes.Ticker known = omega arith
  pass_below (passes.Egress p) known = let within = place_within plan (number_of p) known in omega (arith, within)

  abbrev count : Base → List Row → ℕ
  count base past = over_below (over_of base past) (pass_count plan)

  now_over : (paused here : Bool) (how : How) (before : Option How) → paused ≡ false → here ≡ true → is_some (if paused then before else if here then Some how else before) ≡ true
  now_over true here how before plain is = cc
  now_over false true how before plain is = refl
  now_over false false how before plain is = cc

  still_over : (paused here : Bool) (how : How) (before : Option How) → here ≡ false → is_some (if paused then before else if here then Some how else before) ≡ is_some before
  still_over true here how before is = refl
  still_over false true how before is = cc
  still_over false false how before is = refl

  -- the ends that rows tell are the passes that they end for good
  abbrev Counts : Base → List Row → Type 0
  Counts base past = length (ends_told past) + count base [] ≡ count base past

  counts_end : (base : Base) (past : List Row) (who : Who) (how : How) (paused : Bool) → is_paused_reason how ≡ paused → IsOpen plan base past who → Counts base past → Counts base (row_of plan base past (End who how) ∷ past)
  counts_end base past who how true paused is_open counts =
      let row = row_of plan base past (End who how) in
      let same : count base (row ∷ past) ≡ count base past = same_below (over_of base (row ∷ past)) (over_of base past) (pass_count plan) (λ pass below. rw paused refl) in
      let told : ends_told (row ∷ past) ≡ ends_told past = rw paused (append-nil (ends_told past)) in
      ap (λ (l : List (Who × How)). length l + count base []) told ∙ counts ∙ sym same
  counts_end base past who how false plain is_open counts =
      let row = row_of plan base past (End who how) in
      let pass = pass_of plan who in
      let below : pass < pass_count plan = pass_below who is_open.known in
      let before : over_of base past pass ≡ false = elim (cases_Bool (over_of base past pass)) [
        | inl is ↦ absurd (false≢true (sym is_open.running ∙ shows base past pass is))
        | inr not ↦ not
      ] in
      let more : count base (row ∷ past) ≡ count base past + 1 =
      one_more (over_of base (row ∷ past)) (over_of base past) (pass_count plan) pass below before
      (now_over (is_paused_reason how) (pass == pass) how (end_of base pass past) plain (eq-eqb pass pass refl))
      (λ other apart. still_over (is_paused_reason how) (pass == other) how (end_of base other past) (ne_eqb pass other (λ is. apart (sym is)))) in
      let told : ends_told (row ∷ past) ≡ ends_told past ++ (who, how) ∷ [] = rw plain refl in
      let size : length (ends_told (row ∷ past)) ≡ length (ends_told past) + 1 = ap (λ (l : List (Who × How)). length l) told ∙ length-append (ends_told past) ((who, how) ∷ []) in
      omega (arith, size, more, counts)

  -- an event that ends nothing
  counts_other : (base : Base) (past : List Row) (n c : ℕ) (told : List (Who × How)) → length told + n ≡ c → length (told ++ []) + n ≡ c
  counts_other base past n c told counts = ap (λ (l : List (Who × How)). length l + n) (append-nil told) ∙ counts

  counts_event : (base : Base) (past : List Row) (event : Event) → MayCome plan base past event → Counts base past → Counts base (row_of plan base past event ∷ past)
  counts_event base past (Frame port stamp octets) may counts = counts_other base past (count base []) (count base past) (ends_told past) counts
  counts_event base past (Long port stamp len) may counts = counts_other base past (count base []) (count base past) (ends_told past) counts
  counts_event base past (Command stamp line) may counts = counts_other base past (count base []) (count base past) (ends_told past) counts
  counts_event base past (Tick stamp) may counts = counts_other base past (count base []) (count base past) (ends_told past) counts
  counts_event base past (Drain port n) may counts = counts_other base past (count base []) (count base past) (ends_told past) counts
  counts_event base past (End who how) may counts = counts_end base past who how (is_paused_reason how) refl may.0 counts

  counts_rows : (base : Base) (past : List Row) → IsLegal plan base past → Counts base past
  counts_rows base [] legal = zero-add (count base [])
  counts_rows base (r ∷ past) legal =
      subst (λ (x : Row). Counts base (x ∷ past)) (sym legal.0.2) (counts_event base past legal.0.0 legal.0.1 (counts_rows base past legal.1))

  counts_segments : (segments : List (List Row)) → AreLegal plan segments → length (ends_told (joined segments)) ≡ count (base_after plan segments) []
  counts_segments [] legal = sym (none_over (pass_count plan))
  counts_segments (segment ∷ before) legal =
      let base = base_after plan before in
      let first = counts_segments before legal.2 in
      let here = counts_rows base segment legal.0 in
      let same : count (base_after plan (segment ∷ before)) [] ≡ count base segment =
      same_below (over_of (base_after plan (segment ∷ before)) []) (over_of base segment) (pass_count plan)
      (λ pass below. ap is_some (in_ends (λ (n : ℕ). end_of base n segment) pass (up_to (pass_count plan)) (below_in (pass_count plan) pass below))) in
      let size : length (ends_told (segment ++ joined before)) ≡ length (ends_told (joined before)) + length (ends_told segment) =
      ap (λ (l : List (Who × How)). length l) (told_both segment (joined before)) ∙ length-append (ends_told (joined before)) (ends_told segment) in
      omega (arith, size, first, here, same)

  -- what is told of legal segments are the passes that they ended for good
  pub counts_told : (segments : List (List Row)) → AreLegal plan segments → length (ends_told (joined segments)) ≡ passes_over plan (base_after plan segments) []
  counts_told segments legal = counts_segments segments legal ∙ sym (over_counted (over_of (base_after plan segments) []) (pass_count plan))

  -- so there is room for those of one more
  pub few_more : (base : Base) (past : List Row) (told : ℕ) → IsValidPlan plan → IsLegal plan base past → told ≡ passes_over plan base [] → told + length (ends_told past) ≤ 34
  few_more base past told valid legal is =
      let few = few_below (over_of base past) (pass_count plan) in
      let before : passes_over plan base [] ≡ count base [] = over_counted (over_of base []) (pass_count plan) in
      let counts = counts_rows base past legal in
      let ports = valid.port_count.1 in
      omega (arith, few, before, counts, is, ports)
