-- One more line behind what was read of a text, and what is answered there.
use Rattle.std.proofs.lemmas.List.Elements.{All-cons, All-nil}
use Rattle.hex.specs.Hex.{IsBytes}
use Rattle.std.proofs.Common.{◌≡◌, ◌≢◌, ◌⊎◌, ◌+◌, ◌^◌, ◌<◌, ℕ, true, false, List, [], ◌∷◌, ◌++◌, length, Option, Some, None, IfSome, refl, ap, sym, ◌∙◌, inl, inr, subst, append_assoc, length-append, arith}
use Rattle.savi_kinds.specs.declared.plan.Plan.{Plan}
use Rattle.hist_store.specs.Rows.{Row}
use Rattle.hist_store.specs.TextOfLines.{joined, lines_text}
use Rattle.hist_store.specs.declared.version.Version.{Version}
use Rattle.hist_store.specs.declared.version.Version.TheVariants.{One, Two}
use Rattle.hist_store.specs.LineTexts.{line_text}
use Rattle.hist_store.specs.EntryLines.{SaysEntry, row_said}
use Rattle.hist_store.specs.JournalTexts.{journal_end_line, journal_end_text}
use Rattle.hist_store.proofs.Words.{Avoids, parted}
use Rattle.savi_ends.specs.Octets.{in_front}
use Rattle.savi_ends.proofs.Octets.{in_front_again}
use Rattle.checkpoint.specs.Bases.{Base}
use Rattle.savi_history.specs.Endings.{has_pause}
use Rattle.savi_history.specs.Legal.{IsFinished}
use Rattle.savi_history.proofs.Fields.{lines_end}
use Rattle.savi_segments.specs.Checkpoints.{after}
use Rattle.savi_segments.specs.Segments.{AreLegal, HasTurned, HaveTurned, base_after, joined as all_rows}
use Rattle.journal_check.specs.declared.answer.Checked.{Checked}
use Rattle.journal_check.specs.declared.answer.Checked.TheVariants.{Good, Wrong, BadLine, Failed, NoMemory}
use Rattle.journal_check.specs.Feeds.{HasNoFeed, BeginsWithNoLine}
use Rattle.journal_check.specs.Headers.{IsPlan}
use Rattle.savi_core.specs.Machines.{Machine, base_of}
use Rattle.savi_core.specs.Turns.{IsTurned}
use Rattle.journal_check.specs.declared.turns.Turn.TheVariants as turns
use Rattle.journal_check.specs.Turns.{SaysNext, SaysWrong, SaysNothing, MadeTurn}
use Rattle.journal_check.specs.declared.openings.Before.{Before}
use Rattle.journal_check.specs.Fronts.{DepartsAfter, front_lines, opening_lines}
use Rattle.journal_check.specs.Openings.{BreaksAt, OpensSegment}
use Rattle.journal_check.specs.Answers.{past_text, IsAnswerTo, HasNoLine, Ends, IfRead, entry_count, next_line}
use Rattle.journal_check.proofs.LineFronts.{line_avoids}
use Rattle.journal_check.proofs.SaidFields.{fields_said}
use Rattle.journal_check.proofs.OneAnswer.{says_avoids}
use Rattle.journal_check.proofs.SegmentTexts.{front_count, opening_text}
use Rattle.journal_check.proofs.ShortLines.{line_short, end_short}

-- line feeds, in either word

pub avoids_plain : (t : List ℕ) → HasNoFeed t → Avoids 10 t
avoids_plain [] plain = tt
avoids_plain (x ∷ t) plain = (plain.0, avoids_plain t plain.1)

pub plain_avoids : (t : List ℕ) → Avoids 10 t → HasNoFeed t
plain_avoids [] avoids = tt
plain_avoids (x ∷ t) avoids = (avoids.0, plain_avoids t avoids.1)

end_avoids : (n : ℕ) → Avoids 10 (joined (journal_end_line n))
end_avoids n = let is = lines_end n in line_avoids (journal_end_line n) is.0

-- the last line with its line feed, in front of more
end_opened : (n : ℕ) (more : List ℕ) → journal_end_text n ++ more ≡ joined (journal_end_line n) ++ 10 ∷ more
end_opened n more = append_assoc (joined (journal_end_line n)) (10 ∷ []) more

fed_opened : (line rest : List ℕ) → line ++ 10 ∷ [] ++ rest ≡ line ++ 10 ∷ rest
fed_opened line rest = append_assoc line (10 ∷ []) rest

-- a row that stands

-- the line of a row is the line that says it
line_is : (n : ℕ) (line : List ℕ) (row : Row) → SaysEntry line n (row_said row) → line ≡ line_text n row
line_is n line row says = says.text ∙ sym (ap joined (fields_said n row))

-- what was read of a text of this version and plan, what is to come, and what stands before the entries of the segment
pub record IsReading (version : Version) (m : Machine) (before : Before) (whole ahead : Option (List ℕ)) : Type 0 where
  pub closed : List (List Row)
  pub plan_is : IsPlan m.plan
  pub base : base_of m ≡ base_after m.plan closed
  pub legal : AreLegal m.plan (m.past ∷ closed)
  pub turned : HaveTurned m.plan (m.past ∷ closed)
  pub one : version ≡ One → closed ≡ []
  pub lines : before.lines ≡ length (front_lines Two m.plan closed)
  pub segments : before.segments ≡ length closed
  pub entries : before.entries ≡ length (all_rows closed)
  pub told : whole ≡ in_front (past_text version m.plan closed m.past) ahead

-- the number of the next line, and of the next entry

module _ (version : Version) (m : Machine) (before : Before) (whole ahead : Option (List ℕ)) (r : IsReading version m before whole ahead) where
  pub line_number : before.lines + length m.past + 1 ≡ next_line m.plan r.closed m.past
  line_number = let lines = r.lines in omega (arith, lines)

  pub entry_number : before.entries + length m.past ≡ entry_count r.closed m.past
  entry_number = let entries = r.entries in let parts = length-append m.past (all_rows r.closed) in omega (arith, entries, parts)

told_more : (version : Version) (plan : Plan) (closed : List (List Row)) (past : List Row) (line : List ℕ) (row : Row) (whole before after : Option (List ℕ)) → SaysEntry line (length past) (row_said row)
    → whole ≡ in_front (past_text version plan closed past) before → before ≡ in_front (line ++ 10 ∷ []) after → whole ≡ in_front (past_text version plan closed (row ∷ past)) after
told_more version plan closed past line row whole before after says told taken =
    let text = past_text version plan closed past in
    let n = length past in
    told ∙ ap (in_front text) taken ∙ in_front_again text (line ++ 10 ∷ []) after
    ∙ ap (λ (l : List ℕ). in_front (text ++ (l ++ 10 ∷ [])) after) (line_is n line row says)
    ∙ ap (λ (t : List ℕ). in_front t after) (sym (append_assoc text (line_text n row) (10 ∷ [])))

-- one more row was read
pub read_next : (version : Version) (old : Machine) (count : Before) (line : List ℕ) (whole before after : Option (List ℕ)) (r : IsReading version old count whole before)
    → before ≡ in_front (line ++ 10 ∷ []) after → (row : Row) → SaysNext old.plan (base_of old) old.past line row → (now : IsReading version (record old { past = row ∷ old.past }) count whole after) × (now.closed ≡ r.closed)
read_next version old count line whole before after r taken row says =
    let next : SaysNext old.plan (base_after old.plan r.closed) old.past line row = subst (λ (base : Base). SaysNext old.plan base old.past line row) r.base says in (
      record {
        closed = r.closed;
        plan_is = r.plan_is;
        base = r.base;
        legal = ((next.stands, r.legal.0), All-cons (λ (q : Row). IsBytes q.octets) row old.past next.says.octets r.legal.1, r.legal.2);
        turned = r.turned;
        one = r.one;
        lines = r.lines;
        segments = r.segments;
        entries = r.entries;
        told = told_more version old.plan r.closed old.past line row whole before after next.says r.told taken;
      },
      refl,
    )

pub row_count : (old new : Machine) (line : List ℕ) → MadeTurn old line new turns.Stands → length new.past ≡ length old.past + 1
row_count old new line turned = ap (λ (m : Machine). length m.past) turned.2 ∙ omega arith

pub row_plan : (old new : Machine) (line : List ℕ) → MadeTurn old line new turns.Stands → new.plan ≡ old.plan
row_plan old new line turned = ap (λ (m : Machine). m.plan) turned.2

-- the last line, and the lines in front of the next segment's entries
told_opening : (version : Version) (plan : Plan) (closed : List (List Row)) (past : List Row) (line : List ℕ) (whole ahead mid after : Option (List ℕ)) → line ≡ joined (journal_end_line (length past))
    → whole ≡ in_front (past_text version plan closed past) ahead → ahead ≡ in_front (line ++ 10 ∷ []) mid → mid ≡ in_front (lines_text (opening_lines plan (base_after plan (past ∷ closed)))) after
    → whole ≡ in_front (past_text version plan (past ∷ closed) []) after
told_opening version plan closed past line whole ahead mid after is told taken opened =
    let text = past_text version plan closed past in
    let last = journal_end_text (length past) in
    let opening = lines_text (opening_lines plan (base_after plan (past ∷ closed))) in
    told ∙ ap (in_front text) (taken ∙ ap (λ (l : List ℕ). in_front (l ++ 10 ∷ []) mid) is ∙ ap (in_front last) opened ∙ in_front_again last opening after)
    ∙ in_front_again text (last ++ opening) after
    ∙ ap (λ (t : List ℕ). in_front t after) (sym (opening_text version plan closed past))

one_not_two : {version : Version} → version ≡ Two → version ≡ One → ⊥
one_not_two two one = let apart : Two ≡ One = sym two ∙ one in cc

module _ (version : Version) (old new : Machine) (before : Before) (line : List ℕ) (whole ahead mid : Option (List ℕ)) (r : IsReading version old before whole ahead)
    (taken : ahead ≡ in_front (line ++ 10 ∷ []) mid) (finished : IsFinished old.plan (base_of old) old.past) (is : line ≡ joined (journal_end_line (length old.past)))
    (two : version ≡ Two) (paused : has_pause old.past ≡ true) (turn : IsTurned old new) where
  abbrev closed' : List (List Row)
  closed' = old.past ∷ r.closed

  new_base : base_of new ≡ base_after old.plan closed'
  new_base = turn.base ∙ ap (λ (b : Base). after old.plan b old.past) r.base

  old_turned : HasTurned old.plan closed'
  old_turned = (subst (λ (b : Base). IsFinished old.plan b old.past) r.base finished, paused)

  -- the next segment was begun
  pub read_turn : (next : Before) (after' : Option (List ℕ)) → OpensSegment old new before next mid after' → (now : IsReading version new next whole after') × (now.closed ≡ old.past ∷ r.closed)
  read_turn next after' opened =
      let number = opened.lines in
      let count = front_count Two old.plan r.closed old.past in
      let opening : length (opening_lines old.plan (base_of new)) ≡ length (opening_lines old.plan (base_after old.plan closed')) = ap (λ (b : Base). length (opening_lines old.plan b)) new_base in
      let lines_are = r.lines in
      let segments = opened.segments in
      let segments_are = r.segments in
      let entries = opened.entries in
      let entries_are = r.entries in
      let parts = length-append old.past (all_rows r.closed) in
      let lines_now : next.lines ≡ length (front_lines Two old.plan closed') = omega (arith, number, count, opening, lines_are) in
      let legal_now : AreLegal old.plan ([] ∷ closed') = (tt, All-nil (λ (q : Row). IsBytes q.octets), r.legal) in
      let told_now : whole ≡ in_front (past_text version old.plan closed' []) after' =
      told_opening version old.plan r.closed old.past line whole ahead mid after' is r.told taken
      (opened.taken ∙ ap (λ (b : Base). in_front (lines_text (opening_lines old.plan b)) after') new_base) in (
        record {
          closed = closed';
          plan_is = subst IsPlan (sym turn.plan) r.plan_is;
          base = new_base ∙ ap (λ (p : Plan). base_after p closed') (sym turn.plan);
          legal = subst (λ (past : List Row). AreLegal new.plan (past ∷ closed')) (sym turn.past) (subst (λ (p : Plan). AreLegal p ([] ∷ closed')) (sym turn.plan) legal_now);
          turned = subst (λ (p : Plan). HaveTurned p (new.past ∷ closed')) (sym turn.plan) (old_turned, r.turned);
          one = λ one. absurd (one_not_two two one);
          lines = lines_now ∙ ap (λ (p : Plan). length (front_lines Two p closed')) (sym turn.plan);
          segments = omega (arith, segments, segments_are);
          entries = omega (arith, entries, entries_are, parts);
          told = told_now
              ∙ ap (λ (p : Plan). in_front (past_text version p closed' []) after') (sym turn.plan)
              ∙ ap (λ (past : List Row). in_front (past_text version new.plan closed' past) after') (sym turn.past);
        },
        refl,
      )

  -- or the lines in front of its entries break off
  breaks_off : (rest : List ℕ) (a : Checked) → BreaksAt (opening_lines old.plan (base_of new)) (before.lines + length old.past + 1) rest a → IsAnswerTo version old.plan r.closed old.past (line ++ 10 ∷ rest) a
  breaks_off rest a breaks =
      let count = breaks.0 in
      let lines_are = r.lines in
      let number : before.lines + length old.past + 1 + 1 + count ≡ next_line old.plan r.closed old.past + 1 + count = omega (arith, lines_are) in
      let last = journal_end_text (length old.past) in
      let off : DepartsAfter (opening_lines old.plan (base_after old.plan closed')) rest count = subst (λ (b : Base). DepartsAfter (opening_lines old.plan b) rest count) new_base breaks.1 in
      subst (λ (b : Checked). IsAnswerTo version old.plan r.closed old.past (line ++ 10 ∷ rest) b) (sym breaks.2)
      (inr (inr (
        count,
        number,
        record {
          two = two;
          turned = old_turned;
          more = rest;
          text = ap (λ (l : List ℕ). l ++ 10 ∷ rest) is ∙ sym (end_opened (length old.past) rest);
          breaks = off;
        },
      )))

-- what is answered

told_some : (P : List ℕ → Type 0) (o : Option (List ℕ)) (rest : List ℕ) → o ≡ Some rest → IfSome o P → P rest
told_some P o rest is some = subst (λ (p : Option (List ℕ)). IfSome p P) is some

-- what is to come begins with a line
begun : (P : List ℕ → Type 0) (line : List ℕ) (ahead behind : Option (List ℕ)) → ahead ≡ in_front (line ++ 10 ∷ []) behind → ((rest : List ℕ) → behind ≡ Some rest → P (line ++ 10 ∷ rest)) → IfSome ahead P
begun P line ahead None taken is = rw taken tt
begun P line ahead (Some rest) taken is = rw taken (subst P (sym (fed_opened line rest)) (is rest refl))

one_version : (version : Version) → (version ≡ Two → ⊥) → version ≡ One
one_version One not = refl
one_version Two not = absurd (not refl)

-- what is bad behind the last line
bad_end : (version : Version) (past : List Row) (behind : Option (List ℕ)) (rest : List ℕ) → behind ≡ Some rest → ((version ≡ Two) × (has_pause past ≡ true) → ⊥)
    → (has_pause past ≡ true) ⊎ ((has_pause past ≡ false) × IfSome behind (λ octets. octets ≢ [])) → ((has_pause past ≡ false) × (rest ≢ [])) ⊎ ((has_pause past ≡ true) × (version ≡ One))
bad_end version past behind rest told alone (inl paused) = inr (paused, one_version version (λ two. alone (two, paused)))
bad_end version past behind rest told alone (inr more) = inl (more.0, told_some (λ (t : List ℕ). t ≢ []) behind rest told more.1)

module _ (version : Version) (m : Machine) (before : Before) (whole ahead : Option (List ℕ)) (r : IsReading version m before whole ahead) where
  abbrev pub Answers : Checked → List ℕ → Type 0
  Answers a rest = IsAnswerTo version m.plan r.closed m.past rest a

  number_is : (n : ℕ) → n ≡ before.lines + length m.past + 1 → n ≡ next_line m.plan r.closed m.past
  number_is n is = is ∙ line_number version m before whole ahead r

  entry_is : (n : ℕ) → n ≡ before.entries + length m.past → n ≡ entry_count r.closed m.past
  entry_is n is = is ∙ entry_number version m before whole ahead r

  pub judged_wrong : (line : List ℕ) (after' : Option (List ℕ)) (entry : ℕ) (want have : List ℕ) → ahead ≡ in_front (line ++ 10 ∷ []) after'
      → entry ≡ before.entries + length m.past → SaysWrong m.plan (base_of m) m.past line want have → IfSome ahead (Answers (Wrong entry want have))
  judged_wrong line after' entry want have taken number says =
      let wrong = subst (λ (b : Base). SaysWrong m.plan b m.past line want have) r.base says in
      begun (Answers (Wrong entry want have)) line ahead after' taken
      (λ rest is. (entry_is entry number, record { line = line; row = wrong.row; more = rest; says = wrong.says; text = refl; differs = wrong.differs }))

  no_line : (line rest : List ℕ) → HasNoFeed line → SaysNothing m.plan (base_after m.plan r.closed) m.past line → HasNoLine m.plan (base_after m.plan r.closed) m.past (line ++ 10 ∷ rest)
  no_line line rest plain nothing = record {
    entry = λ other row more says e.
        let parts = parted 10 line other rest more (avoids_plain line plain) (says_avoids other (length m.past) row says) e in
        nothing.entry row (subst (λ (l : List ℕ). SaysEntry l (length m.past) row) (sym parts.0) says);
    last = λ more finished e.
        let parts = parted 10 line (joined (journal_end_line (length m.past))) rest more (avoids_plain line plain) (end_avoids (length m.past)) (e ∙ end_opened (length m.past) more) in
        nothing.last finished parts.0;
  }

  pub judged_bad : (line : List ℕ) (after' : Option (List ℕ)) (n : ℕ) → ahead ≡ in_front (line ++ 10 ∷ []) after' → n ≡ before.lines + length m.past + 1 → HasNoFeed line
      → SaysNothing m.plan (base_of m) m.past line → IfSome ahead (Answers (BadLine n))
  judged_bad line after' n taken number plain says =
      let nothing = subst (λ (b : Base). SaysNothing m.plan b m.past line) r.base says in
      begun (Answers (BadLine n)) line ahead after' taken (λ rest is. inl (number_is n number, no_line line rest plain nothing))

  broken_at : (rest : List ℕ) → length m.past < 2 ^ 64 → BeginsWithNoLine rest → HasNoLine m.plan (base_after m.plan r.closed) m.past rest
  broken_at rest few none = record {
    entry = λ line row more says e. none line more (plain_avoids line (says_avoids line (length m.past) row says)) (line_short line (length m.past) row says) e;
    last = λ more finished e.
        none (joined (journal_end_line (length m.past))) more (plain_avoids (joined (journal_end_line (length m.past))) (end_avoids (length m.past))) (end_short (length m.past) few)
        (e ∙ end_opened (length m.past) more);
  }

  broken_in : (rest : Option (List ℕ)) (n : ℕ) → n ≡ before.lines + length m.past + 1 → length m.past < 2 ^ 64 → IfSome rest BeginsWithNoLine → IfSome rest (Answers (BadLine n))
  broken_in None n number few none = tt
  broken_in (Some rest) n number few none = inl (number_is n number, broken_at rest few none)

  pub judged_broken : (n : ℕ) → n ≡ before.lines + length m.past + 1 → length m.past < 2 ^ 64 → IfSome ahead BeginsWithNoLine → IfSome ahead (Answers (BadLine n))
  judged_broken n number few none = broken_in ahead n number few none

  -- behind the last line

  last_text : (line rest : List ℕ) → line ≡ joined (journal_end_line (length m.past)) → line ++ 10 ∷ rest ≡ journal_end_text (length m.past) ++ rest
  last_text line rest is = ap (λ (l : List ℕ). l ++ 10 ∷ rest) is ∙ sym (end_opened (length m.past) rest)

  last_good : (line rest : List ℕ) (entries : ℕ) → entries ≡ before.entries + length m.past → IsFinished m.plan (base_after m.plan r.closed) m.past → has_pause m.past ≡ false
      → line ≡ joined (journal_end_line (length m.past)) → rest ≡ [] → Answers (Good entries) (line ++ 10 ∷ rest)
  last_good line rest entries number finished over is nothing =
      (entry_is entries number, (finished, over), ap (λ (l : List ℕ). l ++ 10 ∷ rest) is ∙ ap (λ (t : List ℕ). joined (journal_end_line (length m.past)) ++ 10 ∷ t) nothing)

  last_bad : (line rest : List ℕ) (n : ℕ) → n ≡ before.lines + length m.past + 1 + 1 → IsFinished m.plan (base_after m.plan r.closed) m.past → line ≡ joined (journal_end_line (length m.past))
      → ((has_pause m.past ≡ false) × (rest ≢ [])) ⊎ ((has_pause m.past ≡ true) × (version ≡ One)) → Answers (BadLine n) (line ++ 10 ∷ rest)
  last_bad line rest n number finished is bad =
      let at = line_number version m before whole ahead r in
      inr (inl (omega (arith, number, at), record { finished = finished; more = rest; text = last_text line rest is; bad = bad }))

  -- the answer where the last line may stand and no segment may follow
  last_answer : (line : List ℕ) (after' : Option (List ℕ)) (entries number : ℕ) (a : Checked) → ahead ≡ in_front (line ++ 10 ∷ []) after' → entries ≡ before.entries + length m.past → number ≡ before.lines + length m.past + 1
      → IsFinished m.plan (base_after m.plan r.closed) m.past → line ≡ joined (journal_end_line (length m.past)) → ((version ≡ Two) × (has_pause m.past ≡ true) → ⊥)
      → Ends m.past entries number after' a → IfRead a (IfSome ahead (Answers a))
  last_answer line after' entries number (Good n) taken count at finished is alone ends =
      begun (Answers (Good n)) line ahead after' taken
      (λ rest told. last_good line rest n (ends.0 ∙ count) finished ends.1 is (told_some (λ (t : List ℕ). t ≡ []) after' rest told ends.2))
  last_answer line after' entries number (Wrong n want have) taken count at finished is alone ends = absurd ends
  last_answer line after' entries number (BadLine n) taken count at finished is alone ends =
      begun (Answers (BadLine n)) line ahead after' taken
      (λ rest told. last_bad line rest n (ends.0 ∙ ap (λ (k : ℕ). k + 1) at) finished is (bad_end version m.past after' rest told alone ends.1))
  last_answer line after' entries number Failed taken count at finished is alone ends = tt
  last_answer line after' entries number NoMemory taken count at finished is alone ends = tt

  pub judged_last : (line : List ℕ) (after' : Option (List ℕ)) (entries number : ℕ) (a : Checked) → ahead ≡ in_front (line ++ 10 ∷ []) after' → entries ≡ before.entries + length m.past → number ≡ before.lines + length m.past + 1
      → IsFinished m.plan (base_of m) m.past → line ≡ joined (journal_end_line (length m.past)) → ((version ≡ Two) × (has_pause m.past ≡ true) → ⊥)
      → Ends m.past entries number after' a → IfRead a (IfSome ahead (Answers a))
  judged_last line after' entries number a taken count at finished is alone ends =
      last_answer line after' entries number a taken count at (subst (λ (b : Base). IsFinished m.plan b m.past) r.base finished) is alone ends

  -- the answer where the lines in front of the next segment's entries break off
  opening_in : (new : Machine) (line : List ℕ) (mid : Option (List ℕ)) (a : Checked) → ahead ≡ in_front (line ++ 10 ∷ []) mid → IsFinished m.plan (base_of m) m.past
      → line ≡ joined (journal_end_line (length m.past)) → version ≡ Two → has_pause m.past ≡ true → IsTurned m new
      → IfSome mid (λ octets. BreaksAt (opening_lines m.plan (base_of new)) (before.lines + length m.past + 1) octets a) → IfSome ahead (Answers a)
  opening_in new line mid a taken finished is two paused turn breaks =
      begun (Answers a) line ahead mid taken
      (λ rest told. breaks_off version m new before line whole ahead mid r taken finished is two paused turn rest a
      (told_some (λ (t : List ℕ). BreaksAt (opening_lines m.plan (base_of new)) (before.lines + length m.past + 1) t a) mid rest told breaks))

  pub judged_opening : (new : Machine) (line : List ℕ) (mid : Option (List ℕ)) (a : Checked) → ahead ≡ in_front (line ++ 10 ∷ []) mid → IsFinished m.plan (base_of m) m.past
      → line ≡ joined (journal_end_line (length m.past)) → version ≡ Two → has_pause m.past ≡ true → IsTurned m new
      → IfRead a (IfSome mid (λ octets. BreaksAt (opening_lines m.plan (base_of new)) (before.lines + length m.past + 1) octets a)) → IfRead a (IfSome ahead (Answers a))
  judged_opening new line mid (Good n) taken finished is two paused turn breaks = opening_in new line mid (Good n) taken finished is two paused turn breaks
  judged_opening new line mid (Wrong n want have) taken finished is two paused turn breaks = opening_in new line mid (Wrong n want have) taken finished is two paused turn breaks
  judged_opening new line mid (BadLine n) taken finished is two paused turn breaks = opening_in new line mid (BadLine n) taken finished is two paused turn breaks
  judged_opening new line mid Failed taken finished is two paused turn breaks = tt
  judged_opening new line mid NoMemory taken finished is two paused turn breaks = tt
