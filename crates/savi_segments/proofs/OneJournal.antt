-- A text stands for one list of legal segments, and for one plan but for names.
use Rattle.std.proofs.Common.{◌≡◌, ℕ, ◌≤◌, ◌⊎◌, inl, inr, List, [], ◌∷◌, ◌++◌, length, reverse, refl, ap, sym, ◌∙◌, subst, arith, append_assoc, All}
use Rattle.std.proofs.lemmas.List.{append_cancel_left, length-reverse, reverse-append, reverse-reverse}
use Rattle.savi_kinds.specs.declared.plan.Plan.{Plan}
use Rattle.savi_kinds.specs.Prefixes.{first_of}
use Rattle.savi_kinds.specs.ValidPlan.{IsValidPlan, nets_of}
use Rattle.hist_store.specs.declared.version.Version.{Version}
use Rattle.hist_store.specs.declared.version.Version.TheVariants as versions
use Rattle.hist_store.specs.Rows.{Row}
use Rattle.hist_store.specs.TextOfLines.{joined as line_text, lines_text}
use Rattle.hist_store.specs.JournalTexts.{Segment, StandsFor, begin_line, entry_lines, header_lines, journal_end_line, journal_text_of, segment_lines, segments_lines}
use Rattle.hist_store.proofs.LineLemmas.{lines_text-append}
use Rattle.hist_store.proofs.Words.{IsLines, lines_append}
use Rattle.hist_store.proofs.JournalLemmas.{first_segment, IsFrontOf, entries_apart, lines_either, segments_text}
use Rattle.checkpoint.specs.Bases.{Base, empty}
use Rattle.checkpoint.specs.BaseLines.{base_lines}
use Rattle.savi_history.specs.Legal.{IsLegal}
use Rattle.savi_history.specs.Journals.{IsAddress, IsAddressText, without_names}
use Rattle.savi_history.proofs.Fields.{lines_begin, lines_header}
use Rattle.savi_history.proofs.Headers.{header_by_lines}
use Rattle.savi_history.proofs.OneHistory.{octets_reversed, rows_same}
use Rattle.savi_segments.specs.Checkpoints.{after}
use Rattle.savi_segments.specs.Segments.{AreLegal, AreOctets, base_after}
use Rattle.savi_segments.specs.Journals.{IsJournalOf, IsSame, journal_segment, journal_segments}
use Rattle.savi_segments.proofs.SameNames.{after_same, base_lines_same}

abbrev Lines : Type 0
Lines = List (List (List ℕ))

-- segments, the oldest first, that go on from a base

abbrev journal_from : Plan → Base → List (List Row) → List Segment
journal_from plan base [] = []
journal_from plan base (segment ∷ later) = journal_segment plan base segment ∷ journal_from plan (after plan base segment) later

-- what they leave
abbrev base_from : Plan → Base → List (List Row) → Base
base_from plan base [] = base
base_from plan base (segment ∷ later) = base_from plan (after plan base segment) later

abbrev AreLegalFrom : Plan → Base → List (List Row) → Type 0
AreLegalFrom plan base [] = Unit {0}
AreLegalFrom plan base (segment ∷ later) = IsLegal plan base segment × AreOctets segment × AreLegalFrom plan (after plan base segment) later

-- one more segment

base_push : (plan : Plan) (base : Base) (segments : List (List Row)) (segment : List Row) → base_from plan base (segments ++ segment ∷ []) ≡ after plan (base_from plan base segments) segment
base_push plan base [] segment = refl
base_push plan base (first ∷ later) segment = base_push plan (after plan base first) later segment

journal_push : (plan : Plan) (base : Base) (segments : List (List Row)) (segment : List Row)
    → journal_from plan base (segments ++ segment ∷ []) ≡ journal_from plan base segments ++ journal_segment plan (base_from plan base segments) segment ∷ []
journal_push plan base [] segment = refl
journal_push plan base (first ∷ later) segment =
    ap (λ (told : List Segment). journal_segment plan base first ∷ told) (journal_push plan (after plan base first) later segment)

legal_push : (plan : Plan) (base : Base) (segments : List (List Row)) (segment : List Row) → AreLegalFrom plan base segments → IsLegal plan (base_from plan base segments) segment → AreOctets segment
    → AreLegalFrom plan base (segments ++ segment ∷ [])
legal_push plan base [] segment are legal octets = (legal, octets, tt)
legal_push plan base (first ∷ later) segment are legal octets = (are.0, are.1, legal_push plan (after plan base first) later segment are.2 legal octets)

turned_round : (segment : List Row) (before : List (List Row)) → reverse (segment ∷ before) ≡ reverse before ++ segment ∷ []
turned_round segment before = reverse-append (segment ∷ []) before

module _ (plan : Plan) where
  base_reversed : (segments : List (List Row)) → base_from plan empty (reverse segments) ≡ base_after plan segments
  base_reversed [] = refl
  base_reversed (segment ∷ before) =
      ap (base_from plan empty) (turned_round segment before) ∙ base_push plan empty (reverse before) segment
      ∙ ap (λ (base : Base). after plan base segment) (base_reversed before)

  journal_reversed : (segments : List (List Row)) → journal_segments plan segments ≡ journal_from plan empty (reverse segments)
  journal_reversed [] = refl
  journal_reversed (segment ∷ before) =
      ap (λ (told : List Segment). told ++ journal_segment plan (base_after plan before) segment ∷ []) (journal_reversed before)
      ∙ ap (λ (base : Base). journal_from plan empty (reverse before) ++ journal_segment plan base segment ∷ []) (sym (base_reversed before))
      ∙ sym (journal_push plan empty (reverse before) segment)
      ∙ ap (journal_from plan empty) (sym (turned_round segment before))

  legal_reversed : (segments : List (List Row)) → AreLegal plan segments → AreLegalFrom plan empty (reverse segments)
  legal_reversed [] are = tt
  legal_reversed (segment ∷ before) are =
      subst (AreLegalFrom plan empty) (sym (turned_round segment before))
      (legal_push plan empty (reverse before) segment (legal_reversed before are.2)
      (subst (λ (base : Base). IsLegal plan base segment) (sym (base_reversed before)) are.0) are.1)

-- the text of segments: what the first one goes on from, its own lines, and the others
parts : (base : Lines) (rows : List Row) (later : List Segment)
    → segments_text (record { base_lines = base; rows = rows } ∷ later) ≡ lines_text base ++ (lines_text (segment_lines (first_segment rows)) ++ segments_text later)
parts base rows later =
    let own = segment_lines (first_segment rows) in
    lines_text-append (base ++ own) (segments_lines later)
    ∙ ap (λ (text : List ℕ). text ++ segments_text later) (lines_text-append base own)
    ∙ append_assoc (lines_text base) (lines_text own) (segments_text later)

not_empty : (front own : List ℕ) (octet : ℕ) (more : List ℕ) → [] ≡ front ++ (own ++ octet ∷ more) → ⊥
not_empty [] [] octet more e = cc
not_empty [] (x ∷ own) octet more e = cc
not_empty (x ∷ front) own octet more e = cc

-- a segment has a text
some_text : (base : Lines) (rows : List Row) (later : List Segment) → [] ≡ segments_text (record { base_lines = base; rows = rows } ∷ later) → ⊥
some_text base rows later e =
    let behind = lines_text (entry_lines 0 rows ++ journal_end_line (length rows) ∷ []) in
    not_empty (lines_text base) (line_text begin_line) 10 (behind ++ segments_text later)
    (e ∙ parts base rows later ∙ ap (λ (text : List ℕ). lines_text base ++ text) (append_assoc (line_text begin_line) (10 ∷ behind) (segments_text later)))

module _ (plan plan' : Plan) (same : without_names plan ≡ without_names plan') (valid : IsValidPlan plan) (valid' : IsValidPlan plan') where
  -- legal segments that go on from the same, with the same text
  segments_same : (base : Base) (segments others : List (List Row)) → AreLegalFrom plan base segments → AreLegalFrom plan' base others
      → segments_text (journal_from plan base segments) ≡ segments_text (journal_from plan' base others) → segments ≡ others
  segments_same base [] [] are are' e = refl
  segments_same base [] (other ∷ others) are are' e =
      absurd (some_text (base_lines plan' base) (reverse other) (journal_from plan' (after plan' base other) others) e)
  segments_same base (segment ∷ segments) [] are are' e =
      absurd (some_text (base_lines plan base) (reverse segment) (journal_from plan (after plan base segment) segments) (sym e))
  segments_same base (segment ∷ segments) (other ∷ others) are are' e =
      let later = journal_from plan (after plan base segment) segments in
      let later' = journal_from plan' (after plan' base other) others in
      let front = lines_text (base_lines plan base) in
      let own = lines_text (segment_lines (first_segment (reverse segment))) ++ segments_text later in
      let own' = lines_text (segment_lines (first_segment (reverse other))) ++ segments_text later' in
      let texts : front ++ own ≡ front ++ own' =
      sym (parts (base_lines plan base) (reverse segment) later) ∙ e ∙ parts (base_lines plan' base) (reverse other) later'
      ∙ ap (λ (lines : Lines). lines_text lines ++ own') (sym (base_lines_same plan plan' same base)) in
      let apart = entries_apart (reverse segment) (reverse other) (segments_text later) (segments_text later')
      (octets_reversed segment are.1) (octets_reversed other are'.1) (append_cancel_left front own own' texts) in
      let first : segment ≡ other = rows_same plan plan' base segment other same valid valid' are.0 are'.0 are.1 are'.1 apart.0 in
      let leaves : after plan' base other ≡ after plan base segment = sym (after_same plan plan' same base other) ∙ ap (after plan base) (sym first) in
      let rest : segments ≡ others =
      segments_same (after plan base segment) segments others are.2 (subst (λ (b : Base). AreLegalFrom plan' b others) leaves are'.2)
      (apart.1 ∙ ap (λ (b : Base). segments_text (journal_from plan' b others)) leaves) in
      ap (λ (s : List Row). s ∷ segments) first ∙ ap (λ (l : List (List Row)). other ∷ l) rest

-- the header

module _ (text_of : ℕ → List ℕ) (is : IsAddressText text_of) where
  -- what a text may stand for
  record IsPlanOf (plan : Plan) : Type 0 where
    valid : IsValidPlan plan
    addresses : All (λ net. IsAddress (first_of net)) (nets_of plan.prefixes)

  -- a header and `begin`
  abbrev head : Version → Plan → Lines
  head version plan = header_lines version text_of plan ++ begin_line ∷ []

  lines_head : (version : Version) (plan : Plan) → IsLines (head version plan)
  lines_head version plan = lines_append (header_lines version text_of plan) (begin_line ∷ []) (lines_header text_of is version plan) lines_begin

  heads_either : (version version' : Version) (plan plan' : Plan) (behind past : List ℕ) → IsPlanOf plan → IsPlanOf plan'
      → IsFrontOf (head version plan) (head version' plan') behind past ⊎ IsFrontOf (head version' plan') (head version plan) past behind
      → (without_names plan ≡ without_names plan') × (behind ≡ past)
  heads_either version version' plan plan' behind past of of' (inl front) =
      let lines = sym (append_assoc (header_lines version text_of plan) (begin_line ∷ []) front.more) ∙ sym front.longer in
      let told = header_by_lines text_of is version version' plan plan' front.more [] of.valid of'.valid of.addresses of'.addresses lines in
      (told.0, front.rest ∙ ap (λ (more : Lines). lines_text more ++ past) told.1)
  heads_either version version' plan plan' behind past of of' (inr front) =
      let lines = front.longer ∙ append_assoc (header_lines version' text_of plan') (begin_line ∷ []) front.more in
      let told = header_by_lines text_of is version version' plan plan' [] front.more of.valid of'.valid of.addresses of'.addresses lines in
      (told.0, sym (front.rest ∙ ap (λ (more : Lines). lines_text more ++ behind) (sym told.1)))

  heads_same : (version version' : Version) (plan plan' : Plan) (behind past : List ℕ) → IsPlanOf plan → IsPlanOf plan'
      → lines_text (head version plan) ++ behind ≡ lines_text (head version' plan') ++ past → (without_names plan ≡ without_names plan') × (behind ≡ past)
  heads_same version version' plan plan' behind past of of' e =
      heads_either version version' plan plan' behind past of of'
      (lines_either (head version plan) (head version' plan') behind past (lines_head version plan) (lines_head version' plan') e)

  -- the first segment begins with `begin`
  split : (version : Version) (plan : Plan) (lines : Lines) → lines_text (header_lines version text_of plan ++ begin_line ∷ lines) ≡ lines_text (head version plan) ++ lines_text lines
  split version plan lines =
      ap lines_text (sym (append_assoc (header_lines version text_of plan) (begin_line ∷ []) lines)) ∙ lines_text-append (head version plan) lines

  -- the lines of segments from the start behind the first `begin`
  abbrev behind_begin : Plan → List Row → List (List Row) → Lines
  behind_begin plan first later =
      (entry_lines 0 (reverse first) ++ journal_end_line (length (reverse first)) ∷ []) ++ segments_lines (journal_from plan (after plan empty first) later)

  told_from : (version version' : Version) (plan plan' : Plan) (segments others : List (List Row)) → 1 ≤ length segments → 1 ≤ length others → IsPlanOf plan → IsPlanOf plan'
      → AreLegalFrom plan empty segments → AreLegalFrom plan' empty others
      → journal_text_of version text_of plan (journal_from plan empty segments) ≡ journal_text_of version' text_of plan' (journal_from plan' empty others)
      → (without_names plan ≡ without_names plan') × (segments ≡ others)
  told_from version version' plan plan' [] others some some' of of' are are' e = absurd (omega (arith, some))
  told_from version version' plan plan' (first ∷ later) [] some some' of of' are are' e = absurd (omega (arith, some'))
  told_from version version' plan plan' (first ∷ later) (first' ∷ later') some some' of of' are are' e =
      let lines = behind_begin plan first later in
      let lines' = behind_begin plan' first' later' in
      let told = heads_same version version' plan plan' (lines_text lines) (lines_text lines') of of' (sym (split version plan lines) ∙ e ∙ split version' plan' lines') in
      let texts : segments_text (journal_from plan empty (first ∷ later)) ≡ segments_text (journal_from plan' empty (first' ∷ later')) =
      ap (λ (text : List ℕ). line_text begin_line ++ 10 ∷ text) told.1 in
      (told.0, segments_same plan plan' told.0 of.valid of'.valid empty (first ∷ later) (first' ∷ later') are are' texts)

  -- the text is a journal in some version
  in_version : (plan : Plan) (told : List Segment) (text : List ℕ) → StandsFor text_of plan told text → (version : Version) × (text ≡ journal_text_of version text_of plan told)
  in_version plan told text (inl two) = (versions.Two, two)
  in_version plan told text (inr one) = (versions.One, one.1)

  from_start : (version : Version) (plan : Plan) (segments : List (List Row)) (text : List ℕ) → text ≡ journal_text_of version text_of plan (journal_segments plan segments)
      → text ≡ journal_text_of version text_of plan (journal_from plan empty (reverse segments))
  from_start version plan segments text e = e ∙ ap (journal_text_of version text_of plan) (journal_reversed plan segments)

  some_reversed : (segments : List (List Row)) → 1 ≤ length segments → 1 ≤ length (reverse segments)
  some_reversed segments some = let same = length-reverse segments in omega (arith, some, same)

  pub journal_tells : (plan plan' : Plan) (segments segments' : List (List Row)) (text : List ℕ) → IsJournalOf text_of plan segments text → IsJournalOf text_of plan' segments' text → IsSame plan segments plan' segments'
  journal_tells plan plan' segments segments' text of of' =
      let one = in_version plan (journal_segments plan segments) text of.journal in
      let other = in_version plan' (journal_segments plan' segments') text of'.journal in
      let told = told_from one.0 other.0 plan plan' (reverse segments) (reverse segments') (some_reversed segments of.some) (some_reversed segments' of'.some)
      (record { valid = of.valid; addresses = of.addresses }) (record { valid = of'.valid; addresses = of'.addresses })
      (legal_reversed plan segments of.legal) (legal_reversed plan' segments' of'.legal)
      (sym (from_start one.0 plan segments text one.1) ∙ from_start other.0 plan' segments' text other.1) in
      record { plans = told.0; rows = sym (reverse-reverse segments) ∙ ap reverse told.1 ∙ reverse-reverse segments' }
