-- What the ticker's readings are to segments, while others go on and where the next one begins.
use Rattle.std.proofs.Common.{◌≡◌, ℕ, false, List, [], ◌∷◌, ◌++◌, refl, sym, ap, subst, ◌∙◌, append_assoc}
use Rattle.std.proofs.lemmas.Bool.{eq-eqb, false≢true}
use Rattle.savi_kinds.specs.declared.plan.Plan.{Plan}
use Rattle.hist_store.specs.Rows.{Row}
use Rattle.checkpoint.specs.Bases.{Base}
use Rattle.savi_history.specs.Events.{Event, Frame, Long, Command, Tick, Drain, End, row_of}
use Rattle.savi_history.specs.Legal.{IsLegal}
use Rattle.savi_history.specs.Passes.{ticker_pass}
use Rattle.savi_segments.specs.Segments.{base_after, joined}
use Rattle.core_keep.specs.Seen.{AreOthers, IsLater}
use Rattle.live_session.specs.Ticking.{HasNoTick, Ticked, is_tick}
use Rattle.live_session.proofs.Stays.{IsOther}

no_tick_behind : (a b : List Row) → HasNoTick a → HasNoTick b → HasNoTick (a ++ b)
no_tick_behind [] b none more = more
no_tick_behind (r ∷ a) b none more = (none.0, no_tick_behind a b none.1 more)

heads : (x y : List Row) (xs ys : List (List Row)) → x ∷ xs ≡ y ∷ ys → (x ≡ y) × (xs ≡ ys)
heads x y xs ys e = (cc, cc)

module _ (plan : Plan) where
  no_tick_step : (base : Base) (past : List Row) (event : Event) → IsOther (ticker_pass plan) (row_of plan base past event) → is_tick (row_of plan base past event).entry.act ≡ false
  no_tick_step base past (Frame p stamp octets) other = refl
  no_tick_step base past (Long p stamp len) other = refl
  no_tick_step base past (Command stamp line) other = refl
  no_tick_step base past (Tick stamp) other = absurd (false≢true (sym other ∙ eq-eqb (ticker_pass plan) (ticker_pass plan) refl))
  no_tick_step base past (Drain p count) other = refl
  no_tick_step base past (End who how) other = refl

  -- a tick is an entry of the ticker
  no_ticks : (base : Base) (newer past : List Row) → IsLegal plan base (newer ++ past) → AreOthers (ticker_pass plan) newer → HasNoTick newer
  no_ticks base [] past legal others = tt
  no_ticks base (r ∷ newer) past legal others =
      let is : r ≡ row_of plan base (newer ++ past) legal.0.0 = legal.0.2 in
      let other : IsOther (ticker_pass plan) (row_of plan base (newer ++ past) legal.0.0) = subst (IsOther (ticker_pass plan)) is others.0 in
      (ap (λ (x : Row). is_tick x.entry.act) is ∙ no_tick_step base (newer ++ past) legal.0.0 other, no_ticks base newer past legal.1 others.1)

  -- rows without a tick, in front of the newest segment

  module _ (more past : List Row) (before : List (List Row)) (none : HasNoTick more) where
    ticked_in : (later : List (List Row)) (newer upto : List Row) (first : List (List Row))
        → past ∷ before ≡ later ++ (newer ++ upto) ∷ first → HasNoTick (joined later ++ newer)
        → (later' : List (List Row)) × (newer' : List Row) × ((more ++ past) ∷ before ≡ later' ++ (newer' ++ upto) ∷ first) × HasNoTick (joined later' ++ newer')
    ticked_in [] newer upto first split quiet =
        let both = heads past (newer ++ upto) before first split in (
          [],
          more ++ newer,
          (λ i. (ap (λ (rows : List Row). more ++ rows) both.0 ∙ sym (append_assoc more newer upto)) i ∷ both.1 i),
          no_tick_behind more newer none quiet,
        )
    ticked_in (segment ∷ later) newer upto first split quiet =
        let both = heads past segment before (later ++ (newer ++ upto) ∷ first) split in (
          (more ++ segment) ∷ later,
          newer,
          (λ i. (more ++ both.0 i) ∷ both.1 i),
          subst (λ (rows : List Row). HasNoTick rows) (sym (ap (λ (rows : List Row). rows ++ newer) (append_assoc more segment (joined later)) ∙ append_assoc more (segment ++ joined later) newer))
              (no_tick_behind more ((segment ++ joined later) ++ newer) none quiet),
        )

    pub ticked_more : (latest : List ℕ) → Ticked plan (past ∷ before) latest → Ticked plan ((more ++ past) ∷ before) latest
    ticked_more [] ticked = subst (λ (rows : List Row). HasNoTick rows) (sym (append_assoc more past (joined before))) (no_tick_behind more (past ++ joined before) none ticked)
    ticked_more (reading ∷ earlier) ticked =
        let placed = ticked_in ticked.0 ticked.1 ticked.2 ticked.3 ticked.4 ticked.5 in
        (placed.0, placed.1, ticked.2, ticked.3, placed.2, placed.3, ticked.6)

  -- others go on in the newest segment
  pub ticks_later : (before : List (List Row)) (found now : List Row) (latest : List ℕ) → IsLegal plan (base_after plan before) now → IsLater (ticker_pass plan) found now
      → Ticked plan (found ∷ before) latest → Ticked plan (now ∷ before) latest
  ticks_later before found now latest legal later ticked =
      let whole : IsLegal plan (base_after plan before) (later.newer ++ found) = subst (IsLegal plan (base_after plan before)) later.split legal in
      subst (λ (past : List Row). Ticked plan (past ∷ before) latest) (sym later.split)
      (ticked_more later.newer found before (no_ticks (base_after plan before) later.newer found whole later.others) latest ticked)

  -- the next segment begins
  pub ticks_next : (before : List (List Row)) (latest : List ℕ) → Ticked plan before latest → Ticked plan ([] ∷ before) latest
  ticks_next before [] ticked = ticked
  ticks_next before (reading ∷ earlier) ticked =
      ([] ∷ ticked.0, ticked.1, ticked.2, ticked.3, ap (λ (segments : List (List Row)). [] ∷ segments) ticked.4, ticked.5, ticked.6)
