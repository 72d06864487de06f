-- A rest has one answer behind one past, and none where an entry stands or the next segment begins.
use Rattle.std.proofs.Common.{◌≡◌, ◌≢◌, ◌+◌, ◌⊎◌, ℕ, true, false, true≢false, List, [], ◌∷◌, ◌++◌, length, refl, ap, sym, ◌∙◌, inl, inr, subst, append_assoc, append-nil}
use Rattle.std.proofs.lemmas.List.{append_cancel_left}
use Rattle.savi_kinds.specs.declared.plan.Plan.{Plan}
use Rattle.hist_store.specs.Rows.{Row}
use Rattle.hist_store.specs.TextOfLines.{joined, lines_text}
use Rattle.hist_store.specs.LineTexts.{line_fields, line_text}
use Rattle.hist_store.specs.EntryLines.{SaysEntry, row_said}
use Rattle.hist_store.specs.declared.version.Version.{Version}
use Rattle.hist_store.specs.declared.version.Version.TheVariants.{One, Two}
use Rattle.hist_store.specs.JournalTexts.{journal_end_line, journal_end_text}
use Rattle.hist_store.proofs.LineLemmas.{lines_text-append}
use Rattle.hist_store.proofs.Words.{Avoids, parted, joined_same}
use Rattle.hist_store.proofs.FieldWords.{line_row}
use Rattle.hist_store.proofs.OneEntry.{one_entry}
use Rattle.checkpoint.specs.Bases.{Base}
use Rattle.savi_history.specs.Endings.{has_pause}
use Rattle.savi_history.specs.Legal.{Stands}
use Rattle.savi_history.proofs.Fields.{lines_end}
use Rattle.savi_segments.specs.Segments.{HasTurned, base_after}
use Rattle.journal_check.specs.declared.answer.Checked.{Checked}
use Rattle.journal_check.specs.declared.answer.Checked.TheVariants.{Good, Wrong, BadLine, Failed, NoMemory}
use Rattle.journal_check.specs.Differing.{Differs}
use Rattle.journal_check.specs.Headers.{LineFields}
use Rattle.journal_check.specs.Fronts.{DepartsAfter, opening_lines}
use Rattle.journal_check.specs.Answers.{HasBadEnd, HasBadOpening, HasNoLine, HasWrong, IsAnswerTo, entry_count, next_line}
use Rattle.journal_check.proofs.LineFronts.{line_avoids}
use Rattle.journal_check.proofs.OneFault.{differs_same, stands_not}

-- lines at the front of a rest

pub says_avoids : (line : List ℕ) (n : ℕ) (row : Row) → SaysEntry line n row → Avoids 10 line
says_avoids line n row says = subst (Avoids 10) (sym says.text) (line_avoids (line_fields n row) (line_row n row says.octets))

-- two lines of the next entry, with their line feeds
pub entry_once : (line line' : List ℕ) (n : ℕ) (row row' : Row) (more more' : List ℕ) → SaysEntry line n row → SaysEntry line' n row' → line ++ 10 ∷ more ≡ line' ++ 10 ∷ more'
    → (row ≡ row') × (more ≡ more')
entry_once line line' n row row' more more' says says' e =
    let parts = parted 10 line line' more more' (says_avoids line n row says) (says_avoids line' n row' says') e in
    let same : SaysEntry line n row' = subst (λ (l : List ℕ). SaysEntry l n row') (sym parts.0) says' in
    ((one_entry line n n row row' says same).1, parts.1)

two_fields : {a b c d e : List ℕ} {fields : List (List ℕ)} → a ∷ b ∷ [] ≡ c ∷ d ∷ e ∷ fields → ⊥
two_fields e = cc

-- the last line is that of no entry
pub entry_not_last : (line : List ℕ) (n m : ℕ) (row : Row) (more rest : List ℕ) → SaysEntry line n row → line ++ 10 ∷ more ≡ journal_end_text m ++ rest → ⊥
entry_not_last line n m row more rest says e =
    let is = lines_end m in
    let both : line ++ 10 ∷ more ≡ joined (journal_end_line m) ++ 10 ∷ rest = e ∙ append_assoc (joined (journal_end_line m)) (10 ∷ []) rest in
    let parts = parted 10 line (joined (journal_end_line m)) more rest (says_avoids line n row says) (line_avoids (journal_end_line m) is.0) both in
    let fields = joined_same (journal_end_line m) (line_fields n row) is.0 (line_row n row says.octets) (sym parts.0 ∙ says.text) in
    two_fields fields

longer_not : (xs : List ℕ) (x : ℕ) (more : List ℕ) → xs ≡ xs ++ x ∷ more → ⊥
longer_not [] x more e = cc
longer_not (y ∷ xs) x more e = let tails : xs ≡ xs ++ x ∷ more = cc in longer_not xs x more tails

-- what stands behind the last line
behind_last : (n : ℕ) (rest more more' : List ℕ) → rest ≡ journal_end_text n ++ more → rest ≡ journal_end_text n ++ more' → more ≡ more'
behind_last n rest more more' e e' = append_cancel_left (journal_end_text n) more more' (sym e ∙ e')

-- the last line with nothing behind it
alone : (n : ℕ) (rest : List ℕ) → rest ≡ journal_end_text n → rest ≡ journal_end_text n ++ []
alone n rest e = e ∙ sym (append-nil (journal_end_text n))

paused_not : {A : Type 0} (past : List Row) → has_pause past ≡ true → has_pause past ≡ false → A
paused_not past paused open_still = absurd (true≢false (sym paused ∙ open_still))

versions_apart : Two ≡ One → ⊥
versions_apart e = cc

two_not : {version : Version} {A : Type 0} → version ≡ Two → version ≡ One → A
two_not two one = absurd (versions_apart (sym two ∙ one))

wrong_same : (m n : ℕ) (want have want' have' : List ℕ) → m ≡ n → want ≡ want' → have ≡ have' → Wrong m want have ≡ Wrong n want' have'
wrong_same m n want have want' have' number wants haves =
    ap (λ (k : ℕ). Wrong k want have) number ∙ ap (λ (t : List ℕ). Wrong n t have) wants ∙ ap (λ (t : List ℕ). Wrong n want' t) haves

-- lines that break off

-- two fronts of the same lines: they are the same, or one of them goes on where the other breaks off
abbrev AreCuts : List LineFields → LineFields → List LineFields → LineFields → Type 0
AreCuts ls l ms m = (ls ≡ ms) ⊎ (((more : List LineFields) × (ms ≡ ls ++ l ∷ more)) ⊎ ((more : List LineFields) × (ls ≡ ms ++ m ∷ more)))

cuts_longer : (line : LineFields) (ls : List LineFields) (l : LineFields) (ms : List LineFields) (m : LineFields) → AreCuts ls l ms m → AreCuts (line ∷ ls) l (line ∷ ms) m
cuts_longer line ls l ms m (inl same) = inl (ap (λ (xs : List LineFields). line ∷ xs) same)
cuts_longer line ls l ms m (inr (inl on)) = inr (inl (on.0, ap (λ (xs : List LineFields). line ∷ xs) on.1))
cuts_longer line ls l ms m (inr (inr on)) = inr (inr (on.0, ap (λ (xs : List LineFields). line ∷ xs) on.1))

cuts : (ls : List LineFields) (l : LineFields) (more : List LineFields) (ms : List LineFields) (m : LineFields) (more' : List LineFields) → ls ++ l ∷ more ≡ ms ++ m ∷ more' → AreCuts ls l ms m
cuts [] l more [] m more' e = inl refl
cuts [] l more (x ∷ ms) m more' e = let first : x ≡ l = cc in inr (inl (ms, ap (λ (y : LineFields). y ∷ ms) first))
cuts (x ∷ ls) l more [] m more' e = let first : x ≡ m = cc in inr (inr (ls, ap (λ (y : LineFields). y ∷ ls) first))
cuts (x ∷ ls) l more (y ∷ ms) m more' e =
    let first : x ≡ y = cc in
    let tails : ls ++ l ∷ more ≡ ms ++ m ∷ more' = cc in
    subst (λ (z : LineFields). AreCuts (x ∷ ls) l (z ∷ ms) m) first (cuts_longer x ls l ms m (cuts ls l more ms m more' tails))

-- behind lines that go on the next one stands
goes_on : (ls : List LineFields) (l : LineFields) (more : List LineFields) (rest behind : List ℕ) → lines_text (ls ++ l ∷ more) ++ behind ≡ lines_text ls ++ rest → rest ≡ joined l ++ 10 ∷ (lines_text more ++ behind)
goes_on ls l more rest behind e =
    let front = lines_text ls in
    append_cancel_left front rest (joined l ++ 10 ∷ (lines_text more ++ behind))
    (sym e ∙ ap (λ (t : List ℕ). t ++ behind) (lines_text-append ls (l ∷ more)) ∙ append_assoc front (lines_text (l ∷ more)) behind
    ∙ ap (λ (t : List ℕ). front ++ t) (append_assoc (joined l) (10 ∷ lines_text more) behind))

breaks_at : (wanted : List LineFields) (octets : List ℕ) (m n : ℕ) (a : DepartsAfter wanted octets m) (b : DepartsAfter wanted octets n) → AreCuts a.lines a.next b.lines b.next → m ≡ n
breaks_at wanted octets m n a b (inl same) = a.count_is ∙ ap length same ∙ sym b.count_is
breaks_at wanted octets m n a b (inr (inl on)) =
    absurd (a.none (lines_text on.0 ++ b.behind) (goes_on a.lines a.next on.0 a.behind b.behind (ap (λ (ls : List LineFields). lines_text ls ++ b.behind) (sym on.1) ∙ sym b.text ∙ a.text)))
breaks_at wanted octets m n a b (inr (inr on)) =
    absurd (b.none (lines_text on.0 ++ a.behind) (goes_on b.lines b.next on.0 b.behind a.behind (ap (λ (ls : List LineFields). lines_text ls ++ a.behind) (sym on.1) ∙ sym a.text ∙ b.text)))

breaks_once : (wanted : List LineFields) (octets : List ℕ) (m n : ℕ) → DepartsAfter wanted octets m → DepartsAfter wanted octets n → m ≡ n
breaks_once wanted octets m n a b = breaks_at wanted octets m n a b (cuts a.lines a.next a.later b.lines b.next b.later (sym a.all ∙ b.all))

-- where all of them stand they don't break off
breaks_not : (wanted : List LineFields) (octets more : List ℕ) (n : ℕ) → octets ≡ lines_text wanted ++ more → DepartsAfter wanted octets n → ⊥
breaks_not wanted octets more n e a =
    a.none (lines_text a.later ++ more) (goes_on a.lines a.next a.later a.behind more (ap (λ (ls : List LineFields). lines_text ls ++ more) (sym a.all) ∙ sym e ∙ a.text))

-- behind the last line of a history that is closed nothing stands that is bad there
end_at : {A : Type 0} (version : Version) (past : List Row) (rest more : List ℕ) → has_pause past ≡ false → rest ≡ journal_end_text (length past) → rest ≡ journal_end_text (length past) ++ more
    → ((has_pause past ≡ false) × (more ≢ [])) ⊎ ((has_pause past ≡ true) × (version ≡ One)) → A
end_at version past rest more over e text (inl some) = absurd (some.1 (behind_last (length past) rest more [] text (alone (length past) rest e)))
end_at version past rest more over e text (inr one) = paused_not past one.0 over

-- where the version has no next segment none begins
opened_at : {A : Type 0} (version : Version) (past : List Row) (more : List ℕ) → has_pause past ≡ true → version ≡ Two → ((has_pause past ≡ false) × (more ≢ [])) ⊎ ((has_pause past ≡ true) × (version ≡ One)) → A
opened_at version past more paused two (inl some) = paused_not past paused some.0
opened_at version past more paused two (inr one) = two_not two one.1

module _ (version : Version) (plan : Plan) (closed : List (List Row)) (past : List Row) (rest : List ℕ) where
  abbrev base : Base
  base = base_after plan closed

  abbrev opening : List LineFields
  opening = opening_lines plan (base_after plan (past ∷ closed))

  wrong_once : (want have want' have' : List ℕ) → HasWrong plan base past rest want have → HasWrong plan base past rest want' have' → (want ≡ want') × (have ≡ have')
  wrong_once want have want' have' a b =
      let rows = entry_once a.line b.line (length past) a.row b.row a.more b.more a.says b.says (sym a.text ∙ b.text) in
      differs_same plan base past a.row want have want' have' a.differs (subst (λ (r : Row). Differs plan base past r want' have') (sym rows.0) b.differs)

  -- where a line of the next entry stands the last line doesn't
  wrong_last : {want have : List ℕ} {A : Type 0} (more : List ℕ) → HasWrong plan base past rest want have → rest ≡ journal_end_text (length past) ++ more → A
  wrong_last more a e = absurd (entry_not_last a.line (length past) (length past) a.row a.more more a.says (sym a.text ∙ e))

  wrong_line : {want have : List ℕ} {A : Type 0} → HasWrong plan base past rest want have → HasNoLine plan base past rest → A
  wrong_line a none = absurd (none.entry a.line a.row a.more a.says a.text)

  pub judge_once : (a b : Checked) → IsAnswerTo version plan closed past rest a → IsAnswerTo version plan closed past rest b → a ≡ b
  judge_once (Good m) (Good n) a b = ap Good (a.0 ∙ sym b.0)
  judge_once (Good m) (Wrong n want have) a b = wrong_last [] b.1 (alone (length past) rest a.2)
  judge_once (Good m) (BadLine n) a (inl b) = absurd (b.1.last [] a.1.0 (alone (length past) rest a.2))
  judge_once (Good m) (BadLine n) a (inr (inl b)) = end_at version past rest b.1.more a.1.1 a.2 b.1.text b.1.bad
  judge_once (Good m) (BadLine n) a (inr (inr b)) = paused_not past b.2.turned.1 a.1.1
  judge_once (Wrong m want have) (Good n) a b = wrong_last [] a.1 (alone (length past) rest b.2)
  judge_once (Wrong m want have) (Wrong n want' have') a b =
      let texts = wrong_once want have want' have' a.1 b.1 in
      wrong_same m n want have want' have' (a.0 ∙ sym b.0) texts.0 texts.1
  judge_once (Wrong m want have) (BadLine n) a (inl b) = wrong_line a.1 b.1
  judge_once (Wrong m want have) (BadLine n) a (inr (inl b)) = wrong_last b.1.more a.1 b.1.text
  judge_once (Wrong m want have) (BadLine n) a (inr (inr b)) = wrong_last b.2.more a.1 b.2.text
  judge_once (BadLine m) (Good n) (inl a) b = absurd (a.1.last [] b.1.0 (alone (length past) rest b.2))
  judge_once (BadLine m) (Good n) (inr (inl a)) b = end_at version past rest a.1.more b.1.1 b.2 a.1.text a.1.bad
  judge_once (BadLine m) (Good n) (inr (inr a)) b = paused_not past a.2.turned.1 b.1.1
  judge_once (BadLine m) (Wrong n want have) (inl a) b = wrong_line b.1 a.1
  judge_once (BadLine m) (Wrong n want have) (inr (inl a)) b = wrong_last a.1.more b.1 a.1.text
  judge_once (BadLine m) (Wrong n want have) (inr (inr a)) b = wrong_last a.2.more b.1 a.2.text
  judge_once (BadLine m) (BadLine n) (inl a) (inl b) = ap BadLine (a.0 ∙ sym b.0)
  judge_once (BadLine m) (BadLine n) (inl a) (inr (inl b)) = absurd (a.1.last b.1.more b.1.finished b.1.text)
  judge_once (BadLine m) (BadLine n) (inl a) (inr (inr b)) = absurd (a.1.last b.2.more b.2.turned.0 b.2.text)
  judge_once (BadLine m) (BadLine n) (inr (inl a)) (inl b) = absurd (b.1.last a.1.more a.1.finished a.1.text)
  judge_once (BadLine m) (BadLine n) (inr (inl a)) (inr (inl b)) = ap BadLine (a.0 ∙ sym b.0)
  judge_once (BadLine m) (BadLine n) (inr (inl a)) (inr (inr b)) = opened_at version past a.1.more b.2.turned.1 b.2.two a.1.bad
  judge_once (BadLine m) (BadLine n) (inr (inr a)) (inl b) = absurd (b.1.last a.2.more a.2.turned.0 a.2.text)
  judge_once (BadLine m) (BadLine n) (inr (inr a)) (inr (inl b)) = opened_at version past b.1.more a.2.turned.1 a.2.two b.1.bad
  judge_once (BadLine m) (BadLine n) (inr (inr a)) (inr (inr b)) =
      let behind : b.2.more ≡ a.2.more = behind_last (length past) rest b.2.more a.2.more b.2.text a.2.text in
      let counts : a.0 ≡ b.0 = breaks_once opening a.2.more a.0 b.0 a.2.breaks (subst (λ (t : List ℕ). DepartsAfter opening t b.0) behind b.2.breaks) in
      ap BadLine (a.1 ∙ ap (λ (k : ℕ). next_line plan closed past + 1 + k) counts ∙ sym b.1)
  judge_once Failed b a judges = absurd a
  judge_once NoMemory b a judges = absurd a
  judge_once (Good m) Failed a b = absurd b
  judge_once (Good m) NoMemory a b = absurd b
  judge_once (Wrong m want have) Failed a b = absurd b
  judge_once (Wrong m want have) NoMemory a b = absurd b
  judge_once (BadLine m) Failed a b = absurd b
  judge_once (BadLine m) NoMemory a b = absurd b

  -- where an entry stands, nothing is to be answered yet
  pub judge_stands : (more : List ℕ) (row : Row) (a : Checked) → Stands plan base past row → SaysEntry (line_text (length past) row) (length past) (row_said row)
      → rest ≡ line_text (length past) row ++ 10 ∷ more → IsAnswerTo version plan closed past rest a → ⊥
  judge_stands more row (Good n) stands says e judges =
      entry_not_last (line_text (length past) row) (length past) (length past) (row_said row) more [] says (sym e ∙ alone (length past) rest judges.2)
  judge_stands more row (Wrong n want have) stands says e judges =
      let wrong = judges.1 in
      let rows = entry_once wrong.line (line_text (length past) row) (length past) wrong.row (row_said row) wrong.more more wrong.says says (sym wrong.text ∙ e) in
      stands_not plan base past row wrong.row want have stands rows.0 wrong.differs
  judge_stands more row (BadLine n) stands says e (inl judges) = judges.1.entry (line_text (length past) row) (row_said row) more says e
  judge_stands more row (BadLine n) stands says e (inr (inl judges)) =
      entry_not_last (line_text (length past) row) (length past) (length past) (row_said row) more judges.1.more says (sym e ∙ judges.1.text)
  judge_stands more row (BadLine n) stands says e (inr (inr judges)) =
      entry_not_last (line_text (length past) row) (length past) (length past) (row_said row) more judges.2.more says (sym e ∙ judges.2.text)
  judge_stands more row Failed stands says e judges = judges
  judge_stands more row NoMemory stands says e judges = judges

  -- nor where the next segment begins
  pub judge_turns : (more : List ℕ) (a : Checked) → HasTurned plan (past ∷ closed) → version ≡ Two → rest ≡ journal_end_text (length past) ++ (lines_text opening ++ more) → IsAnswerTo version plan closed past rest a → ⊥
  judge_turns more (Good n) turned two e judges = paused_not past turned.1 judges.1.1
  judge_turns more (Wrong n want have) turned two e judges = wrong_last (lines_text opening ++ more) judges.1 e
  judge_turns more (BadLine n) turned two e (inl judges) = judges.1.last (lines_text opening ++ more) turned.0 e
  judge_turns more (BadLine n) turned two e (inr (inl judges)) = opened_at version past judges.1.more turned.1 two judges.1.bad
  judge_turns more (BadLine n) turned two e (inr (inr judges)) =
      breaks_not opening judges.2.more more judges.0 (behind_last (length past) rest judges.2.more (lines_text opening ++ more) judges.2.text e) judges.2.breaks
  judge_turns more Failed turned two e judges = judges
  judge_turns more NoMemory turned two e judges = judges
