-- What a watcher was given of what was read of a text.
use Rattle.std.proofs.Common.{◌≡◌, ℕ, true, List, [], ◌∷◌, ◌++◌, length, Option, Some, None, IfSome, refl, ap, sym, ◌∙◌, inl, subst}
use Rattle.std.proofs.lemmas.List.Elements.{All-cons}
use Rattle.hex.specs.Hex.{IsBytes}
use Rattle.savi_kinds.specs.declared.plan.Plan.{Plan}
use Rattle.hist_store.specs.Rows.{Row}
use Rattle.hist_store.specs.TextOfLines.{joined}
use Rattle.hist_store.specs.JournalTexts.{journal_end_line}
use Rattle.hist_store.specs.declared.version.Version.{Version}
use Rattle.hist_store.specs.declared.version.Version.TheVariants.{One, Two}
use Rattle.savi_ends.specs.Octets.{in_front}
use Rattle.checkpoint.specs.Bases.{Base}
use Rattle.savi_history.specs.Endings.{has_pause}
use Rattle.savi_history.specs.Legal.{IsFinished}
use Rattle.savi_core.specs.Machines.{Machine, base_of}
use Rattle.savi_core.specs.Turns.{IsTurned}
use Rattle.savi_segments.specs.Segments.{AreLegal, HaveTurned, base_after}
use Rattle.journal_check.specs.declared.answer.Checked.{Checked}
use Rattle.journal_check.specs.declared.answer.Checked.TheVariants.{Good, Wrong, BadLine, Failed, NoMemory}
use Rattle.journal_check.specs.declared.openings.Before.{Before}
use Rattle.journal_check.specs.declared.turns.Turn.TheVariants as turns
use Rattle.journal_check.specs.Headers.{IsPlan}
use Rattle.journal_check.specs.Openings.{OpensSegment}
use Rattle.journal_check.specs.Turns.{SaysNext, MadeTurn}
use Rattle.journal_check.specs.Answers.{past_text, IsAnswerTo, IsBadHeader, IsBeforeEntries, IfRead, IsAnswerBehind}
use Rattle.journal_check.specs.Watched.{WatchedEntry, all_watched, Leads, ComesToWatch, HasWatched, IsWatched}
use Rattle.journal_check.proofs.Entries.{IsReading, read_next, read_turn, row_plan}

-- what was read, as of `Entries`, with a watcher of this plan that has begun and was given the entries
pub record IsWatching {W : Type 0} (sees : W → Plan → WatchedEntry → W → Type 0) (version : Version) (plan : Plan) (m : Machine) (before : Before) (whole ahead : Option (List ℕ)) (begun now : W) : Type 0 where
  pub same : m.plan ≡ plan
  pub reading : IsReading version m before whole ahead
  pub led : Leads sees m.plan begun (all_watched (m.past ∷ reading.closed)) now

module _ {W : Type 0} (begins : W → Plan → W → Type 0) (sees : W → Plan → WatchedEntry → W → Type 0) (version : Version) (plan : Plan) (old : Machine) (count : Before) (whole before : Option (List ℕ)) (begun now : W)
    (r : IsWatching sees version plan old count whole before begun now) where
  -- an entry that stands, as it is given
  abbrev pub entry_of : Row → WatchedEntry
  entry_of row = record { segment = count.segments; number = length old.past; row = row }

  -- it may be given
  pub comes : (new : Machine) (line : List ℕ) (first : W) → begins first plan begun → (turned : MadeTurn old line new turns.Stands) → ComesToWatch begins sees now new.plan (entry_of turned.0)
  comes new line first began turned =
      let row = turned.0 in
      let next : SaysNext old.plan (base_after old.plan r.reading.closed) old.past line row = subst (λ (b : Base). SaysNext old.plan b old.past line row) r.reading.base turned.1 in
      subst (λ (p : Plan). ComesToWatch begins sees now p (entry_of row)) (sym (row_plan old new line turned)) (record {
        closed = r.reading.closed;
        past = old.past;
        plan_is = r.reading.plan_is;
        legal = ((next.stands, r.reading.legal.0), All-cons (λ (q : Row). IsBytes q.octets) row old.past next.says.octets r.reading.legal.1, r.reading.legal.2);
        turned = r.reading.turned;
        segment_is = r.reading.segments;
        number_is = refl;
        before = first;
        led = (begun, subst (λ (p : Plan). begins first p begun) (sym r.same) began, r.led);
      })

  -- and was given
  pub watch_row : (new : Machine) (line : List ℕ) (after : Option (List ℕ)) (last : W) → before ≡ in_front (line ++ 10 ∷ []) after → (turned : MadeTurn old line new turns.Stands)
      → ((row : Row) → (past : List Row) → new.past ≡ row ∷ past → sees now new.plan (record { segment = count.segments; number = length past; row = row }) last)
      → IsWatching sees version plan new count whole after begun last
  watch_row new line after last taken turned gave =
      let row = turned.0 in
      let saw : sees now new.plan (entry_of row) last = gave row old.past (ap (λ (m : Machine). m.past) turned.2) in
      let of_plan : sees now old.plan (entry_of row) last = subst (λ (p : Plan). sees now p (entry_of row) last) (row_plan old new line turned) saw in
      let numbered : sees now old.plan (record { segment = length r.reading.closed; number = length old.past; row = row }) last =
      subst (λ (k : ℕ). sees now old.plan (record { segment = k; number = length old.past; row = row }) last) r.reading.segments of_plan in
      let read = read_next version old count line whole before after r.reading taken row turned.1 in
      let led : Leads sees old.plan begun (all_watched ((row ∷ old.past) ∷ r.reading.closed)) last = (now, r.led, numbered) in
      subst (λ (m : Machine). IsWatching sees version plan m count whole after begun last) (sym turned.2) (record {
        same = r.same;
        reading = read.0;
        led = subst (λ (closed : List (List Row)). Leads sees old.plan begun (all_watched ((row ∷ old.past) ∷ closed)) last) (sym read.1) led;
      })

  -- the next segment was begun
  pub watch_turn : (new : Machine) (line : List ℕ) (mid : Option (List ℕ)) → before ≡ in_front (line ++ 10 ∷ []) mid → IsFinished old.plan (base_of old) old.past → line ≡ joined (journal_end_line (length old.past))
      → version ≡ Two → has_pause old.past ≡ true → IsTurned old new → (next : Before) (after : Option (List ℕ)) → OpensSegment old new count next mid after → IsWatching sees version plan new next whole after begun now
  watch_turn new line mid taken finished is two paused turn next after opened =
      let closed = old.past ∷ r.reading.closed in
      let read = read_turn version old new count line whole before mid r.reading taken finished is two paused turn next after opened in
      let led : Leads sees new.plan begun (all_watched (new.past ∷ closed)) now =
      subst (λ (p : Plan). Leads sees p begun (all_watched (new.past ∷ closed)) now) (sym turn.plan)
      (subst (λ (past : List Row). Leads sees old.plan begun (all_watched (past ∷ closed)) now) (sym turn.past) r.led) in
      record {
        same = turn.plan ∙ r.same;
        reading = read.0;
        led = subst (λ (segments : List (List Row)). Leads sees new.plan begun (all_watched (new.past ∷ segments)) now) (sym read.1) led;
      }

  -- where the answer is known
  pub watched : (a : Checked) → IfRead a (IfSome before (λ octets. IsAnswerTo version old.plan r.reading.closed old.past octets a)) → HasWatched sees version plan whole a begun now
  watched a judges = subst (λ (p : Plan). HasWatched sees version p whole a begun now) r.same (record {
    closed = r.reading.closed;
    past = old.past;
    rest = before;
    plan_is = r.reading.plan_is;
    legal = r.reading.legal;
    turned = r.reading.turned;
    one = r.reading.one;
    told = r.reading.told;
    judges = judges;
    led = r.led;
  })

-- the answer of a text of which that is told

answer_at : (version : Version) (plan : Plan) (closed : List (List Row)) (past : List Row) (text rest : Option (List ℕ)) (a : Checked) → IsPlan plan → AreLegal plan (past ∷ closed) → HaveTurned plan (past ∷ closed) → (version ≡ One → closed ≡ [])
    → text ≡ in_front (past_text version plan closed past) rest → IfSome rest (λ octets. IsAnswerTo version plan closed past octets a) → IfSome text (λ octets. IsAnswerBehind octets a)
answer_at version plan closed past text None a plan_is legal turned one told judges = rw told tt
answer_at version plan closed past text (Some rest) a plan_is legal turned one told judges = rw told (record {
  version = version;
  plan = plan;
  closed = closed;
  past = past;
  rest = rest;
  begins = record { plan_is = plan_is; legal = legal; turned = turned; one = one; text = refl };
  judges = judges;
})

module _ {W : Type 0} (sees : W → Plan → WatchedEntry → W → Type 0) (version : Version) (plan : Plan) (text : Option (List ℕ)) (begun now : W) where
  pub watched_answer : (a : Checked) → HasWatched sees version plan text a begun now → IfRead a (IfSome text (λ octets. IsAnswerBehind octets a))
  watched_answer (Good entries) x = answer_at version plan x.closed x.past text x.rest (Good entries) x.plan_is x.legal x.turned x.one x.told x.judges
  watched_answer (Wrong entry want have) x = answer_at version plan x.closed x.past text x.rest (Wrong entry want have) x.plan_is x.legal x.turned x.one x.told x.judges
  watched_answer (BadLine n) x = answer_at version plan x.closed x.past text x.rest (BadLine n) x.plan_is x.legal x.turned x.one x.told x.judges
  watched_answer Failed x = tt
  watched_answer NoMemory x = tt

-- a watcher of a text that was read to no entry
pub not_watched : {W : Type 0} (begins : W → Plan → W → Type 0) (sees : W → Plan → WatchedEntry → W → Type 0) (text : Option (List ℕ)) (a : Checked) (before after : W) → after ≡ before
    → IsBeforeEntries a → IfRead a (IfSome text (λ octets. IsBadHeader octets a)) → IsWatched begins sees text a before after
not_watched begins sees text a before after same fault bad = inl (same, fault, bad)
