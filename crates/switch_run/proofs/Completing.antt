-- A run that nothing hinders goes through.
use Rattle.std.proofs.Common.{◌≡◌, ◌≢◌, ℕ, ◌<◌, ◌==◌, ◌&&◌, ◌||◌, not, if◌then◌else◌, ◌⊎◌, inl, inr, List, [], ◌∷◌, Bool, true, false, get_or, length, refl, sym, ap, ◌∙◌, subst, arith, Option, Some, None, IfSome, Result, Ok, Err}
use Rattle.std.specs.Prelude.{◌↔◌, All}
use Rattle.std.proofs.lemmas.Bool.{cases_eq, ne_eqb}
use Rattle.std.specs.List.{list_any}
use Rattle.savi_kinds.specs.declared.entry.How.{How}
use Rattle.savi_kinds.specs.declared.entry.How.TheVariants as hows
use Rattle.savi_kinds.specs.declared.plan.Format.{Format}
use Rattle.savi_kinds.specs.declared.plan.Format.TheVariants.{Pcap}
use Rattle.savi_kinds.specs.declared.plan.Plan.{Plan}
use Rattle.savi_kinds.specs.Ports.{number_of}
use Rattle.savi_kinds.specs.ValidPlan.{numbers_of}
use Rattle.savi_ends.specs.declared.world.Std.TheVariants.{Out}
use Rattle.savi_ends.specs.declared.world.Ends.{Ends}
use Rattle.savi_ends.specs.Faults.{Rose}
use Rattle.savi_ends.specs.Places.{Place, Book, ControlKey}
use Rattle.pcapng_io.specs.Runs.{Event}
use Rattle.pcapng_io.specs.Runs as events
use Rattle.pcapng_io.proofs.Once.{one_input as one_capture}
use Rattle.split_run.specs.declared.outcome.Outcome.{Outcome}
use Rattle.split_run.specs.declared.outcome.Outcome.TheVariants as outcome
use Rattle.split_run.specs.Names.{output_name}
use Rattle.split_run.specs.Runs.{CameTo}
use Rattle.savi_conf.specs.declared.fault.ConfFault.{ConfFault}
use Rattle.savi_conf.specs.declared.fault.ConfFault.TheVariants.{NoMemory}
use Rattle.savi_conf.specs.Answers.{IsAnswer}
use Rattle.savi_conf.proofs.OneAnswer.{one_answer}
use Rattle.port_reader.specs.Inputs.{AreArrivals}
use Rattle.port_reader.specs.Judging.{EnteredRow}
use Rattle.cli_lang.specs.Arrivals as control
use Rattle.hist_store.specs.Rows.{Row}
use Rattle.journal_check.specs.declared.answer.Checked.{Checked}
use Rattle.journal_check.specs.declared.answer.Checked.TheVariants as answers
use Rattle.journal_check.specs.Answers.{IfRead}
use Rattle.journal_check.specs.Laws.{IsFinishedJournal}
use Rattle.savi_history.specs.ControlFits.{FitsControl}
use Rattle.savi_history.specs.ControlInputs.{control_end, entered_lines}
use Rattle.savi_history.specs.Endings.{has_failed, has_failed_write, has_malformed, is_failed_reason, is_malformed_reason}
use Rattle.savi_history.specs.Fits.{Fits}
use Rattle.savi_history.specs.PortInputs.{arrived, input_end}
use Rattle.savi_segments.specs.Unbroken.{unbroken}
use Rattle.control_reader.specs.LiveLines.{AreLiveLines}
use Rattle.port_worker.specs.ControlServed.{AreLines}
use Rattle.run_config.specs.Configs.{EndHasFault, OfText}
use Rattle.run_config.specs.Words.{IsReplay, IsServe, IsLearn}
use Rattle.learn_run.specs.declared.learning.Ending.{Ending}
use Rattle.switch_ports.specs.Named.{control_key}
use Rattle.switch_run.specs.Causes.{IsOneOf, ports_in, session_statuses, statuses}
use Rattle.switch_run.specs.Audits.{IsAuditRun, IsAuditedFile, audit_status}
use Rattle.switch_run.specs.Checks.{IsAnswered, IsCheckRun, IsTextRead, check_status}
use Rattle.switch_run.specs.Learnings.{IsLearning}
use Rattle.switch_run.specs.Live.{IsServeSession, ServesControlAt}
use Rattle.switch_run.specs.Splits.{IsCaptureRun, IsTold}
use Rattle.switch_run.specs.Loads.{IsLoadRun}
use Rattle.switch_run.specs.Session.{IsFileUnread, IsNoPlan, IsSession, ServesControlPlace, WasTold}
use Rattle.switch_run.specs.Unhindered.{ArePortsWhole, AreWhole, AreWholeLines, IsComplete, IsFaultless, IsUnhindered, IsWholeInput, Tells}
use Rattle.switch_run.proofs.AuditClauses.{RunClauses}
use Rattle.switch_run.proofs.Clauses.{Clauses}
use Rattle.switch_run.proofs.LearnClauses.{AllClauses}
use Rattle.switch_run.proofs.LearnFaults.{ends_among}
use Rattle.switch_run.proofs.Faulting.{ended_alone, no_input, unwritten_fault}
use Rattle.switch_run.proofs.LegalFailures.{number_of_place, plan_element}
use Rattle.switch_run.proofs.LegalFaults.{IsMalformedAt, segments_malformed}
use Rattle.switch_run.proofs.WholeInputs.{both_told, lines_not_malformed, live_not_malformed, told_of, whole_not_entered_malformed, whole_not_heard_malformed, whole_not_replayed_malformed}

-- statuses

one_or : (m n : ℕ) (ns : List ℕ) → IsOneOf (m ∷ ns) n → (n ≡ m) ⊎ IsOneOf ns n
one_or m n ns is = elim (cases_eq m n) [
  | inl same ↦ inl (sym same)
  | inr other ↦ inr (subst (λ (b : Bool). (b || list_any (λ k. k == n) ns) ≡ true) (ne_eqb m n other) is)
]

not_first : (m n : ℕ) (ns : List ℕ) → n ≢ m → IsOneOf (m ∷ ns) n → IsOneOf ns n
not_first m n ns other is = elim (one_or m n ns is) [ inl same ↦ absurd (other same) | inr rest ↦ rest ]

-- a status that is none of 2 to 7
goes : (n : ℕ) → IsOneOf statuses n → n ≢ 2 → n ≢ 3 → n ≢ 4 → n ≢ 5 → n ≢ 6 → n ≢ 7 → (n ≡ 0) ⊎ (n ≡ 1)
goes n is two three four five six seven = elim (one_or 0 n (1 ∷ 2 ∷ 3 ∷ 4 ∷ 5 ∷ 6 ∷ 7 ∷ []) is) [
  | inl zero_is ↦ inl zero_is
  | inr some ↦ elim (one_or 1 n (2 ∷ 3 ∷ 4 ∷ 5 ∷ 6 ∷ 7 ∷ []) some) [
    | inl one_is ↦ inr one_is
    | inr rest ↦
        let four_up : IsOneOf (4 ∷ 5 ∷ 6 ∷ 7 ∷ []) n = not_first 3 n (4 ∷ 5 ∷ 6 ∷ 7 ∷ []) three (not_first 2 n (3 ∷ 4 ∷ 5 ∷ 6 ∷ 7 ∷ []) two rest) in
        let six_up : IsOneOf (6 ∷ 7 ∷ []) n = not_first 5 n (6 ∷ 7 ∷ []) five (not_first 4 n (5 ∷ 6 ∷ 7 ∷ []) four four_up) in
        let none : IsOneOf [] n = not_first 7 n [] seven (not_first 6 n (7 ∷ []) six six_up) in
        absurd (let t : false ≡ true = none in cc)
  ]
]

malformed_by : (status : ℕ) (f w m : Bool) → status ≡ (if f then 5 else if w then 6 else if m then 4 else 0) → status ≡ 4 → m ≡ true
malformed_by status true w m is e = absurd (omega (arith, is, e))
malformed_by status false true m is e = absurd (omega (arith, is, e))
malformed_by status false false true is e = refl
malformed_by status false false false is e = absurd (omega (arith, is, e))

-- no opening failed where the world's count didn't rise
not_risen : (before now : ℕ) → before ≡ 0 → now ≡ before → Rose before now → ⊥
not_risen before now zero_is same rose = omega (arith, zero_is, same, rose)

-- the plan

ok_has_memory : (plan : Plan) → ◌≡◌ {A = Result Plan ConfFault} (Ok plan) (Err NoMemory) → ⊥
ok_has_memory plan same = cc

err_has_memory : (fault : ConfFault) → fault ≢ NoMemory → ◌≡◌ {A = Result Plan ConfFault} (Err fault) (Err NoMemory) → ⊥
err_has_memory fault other same = other cc

one_plan : (text : List ℕ) (replay : Bool) (one other : Plan) → IsAnswer text replay (Ok one) → IsAnswer text replay (Ok other) → one ≡ other
one_plan text replay one other is also =
    let same : ◌≡◌ {A = Result Plan ConfFault} (Ok one) (Ok other) = one_answer text replay (Ok one) (Ok other) is also (ok_has_memory one) (ok_has_memory other) in
    cc

not_refused : (text : List ℕ) (replay : Bool) (fault : ConfFault) (plan : Plan) → fault ≢ NoMemory → IsAnswer text replay (Err fault) → IsAnswer text replay (Ok plan) → ⊥
not_refused text replay fault plan other is also =
    let same : ◌≡◌ {A = Result Plan ConfFault} (Err fault) (Ok plan) = one_answer text replay (Err fault) (Ok plan) is also (err_has_memory fault other) (ok_has_memory plan) in
    cc

module _ {S K C : Type 0} (replay : Bool) (left : S → Option (List ℕ)) (source_faults : S → ℕ) (sink_faults : K → ℕ) (Whole : Plan → Type 0) (file : List ℕ) (old new : Book S K C) (u : IsUnhindered replay left source_faults sink_faults Whole file old new) where
  plan_said : (plan : Plan) → OfText left (old.inputs file) (λ text. IsAnswer text replay (Ok plan)) → u.plan ≡ plan
  plan_said plan says =
      let text = both_told left (λ text. IsAnswer text replay (Ok plan)) (λ text. IsAnswer text replay (Ok u.plan)) (old.inputs file) says u.says in
      one_plan text.0 replay u.plan plan text.2 text.1

  whole_of : (plan : Plan) → OfText left (old.inputs file) (λ text. IsAnswer text replay (Ok plan)) → Whole plan
  whole_of plan says = subst Whole (plan_said plan says) u.whole

  never_refused : (Says : List ℕ → Type 0) → IsNoPlan replay left source_faults file Says old new → ⊥
  never_refused Says none =
      let text = both_told left (λ text. IsAnswer text replay (Err none.fault)) (λ text. IsAnswer text replay (Ok u.plan)) (old.inputs file) none.refused.answer u.says in
      not_refused text.0 replay none.fault u.plan none.refused.cause text.1 text.2

-- a port of a plan of captures tells a whole one
told_capture : {S K C : Type 0} (left : S → Option (List ℕ)) (book : Book S K C) (plan : Plan) → All (λ port. port.format ≡ Pcap) plan.ports → ArePortsWhole left book plan
    → (k : ℕ) → k < length plan.ports → Tells (λ ends. left ends.source) (ports_in plan book (get_or (numbers_of plan.ports) k 0)) (IsWholeInput Pcap)
told_capture {S} {K} {C} left book plan captures whole k inside =
    let d = plan_element plan.ports k inside in
    subst (λ (n : ℕ). Tells (λ (e : Ends S K C). left e.source) (ports_in plan book n) (IsWholeInput Pcap)) (sym (number_of_place plan k d inside))
    (subst (λ (f : Format). Tells (λ (e : Ends S K C). left e.source) (ports_in plan book (number_of (get_or plan.ports k d).number)) (IsWholeInput f)) (captures k d inside) (whole k d inside))

-- a replay

control_place : {S K C : Type 0} (left : S → Option (List ℕ)) (written : K → Option (List ℕ)) (source_faults : S → ℕ) (sink_faults : K → ℕ) (plan : Plan) (segments : List (List Row)) (how : How) (names : Option (List ℕ × List ℕ)) (lines : Option control.Input) (stop : Option ℕ) (old new : ControlKey → Place (Ends S K C))
    → ServesControlPlace left written source_faults sink_faults plan segments names lines stop old new → (lines ≡ None → ⊥) → IfSome names (λ n. Tells (λ ends. left ends.source) (old (control_key false n)) (AreWholeLines false))
    → control_end (unbroken segments) ≡ Some how → is_malformed_reason how ≡ true → ⊥
control_place left written source_faults sink_faults plan segments how None None stop old new serves some whole is reason = some refl
control_place left written source_faults sink_faults plan segments how None (Some input) stop old new serves some whole is reason = serves
control_place left written source_faults sink_faults plan segments how (Some names) None stop old new serves some whole is reason = serves
control_place {S} {K} {C} left written source_faults sink_faults plan segments how (Some names) (Some input) stop old new serves some whole is reason =
    let fits : FitsControl AreLines (left serves.handed.source) (left serves.back.source) (entered_lines (unbroken segments)) (Some how) = subst (λ (e : Option How). FitsControl AreLines (left serves.handed.source) (left serves.back.source) (entered_lines (unbroken segments)) e) is serves.holds.fits in
    lines_not_malformed (left serves.handed.source) (left serves.back.source) (entered_lines (unbroken segments)) how reason fits
    (told_of (λ (e : Ends S K C). left e.source) (AreWholeLines false) (old (control_key false names)) serves.handed serves.told whole)

module _ {S K C : Type 0} (left : S → Option (List ℕ)) (written : K → Option (List ℕ)) (source_faults : S → ℕ) (sink_faults : K → ℕ) (Says : List ℕ → Type 0) (old new : Book S K C) (file : List ℕ) (status : ℕ) (s : IsSession left written source_faults sink_faults file Says old new status) where
  abbrev played : List (List Row)
  played = s.session.did.segments

  abbrev rows : List Row
  rows = unbroken played

  ended_in_order : (how : How) → control_end rows ≡ Some how → is_malformed_reason how ≡ true → s.session.did.serves.lines ≡ None → ⊥
  ended_in_order how is reason none =
      let both : Some how ≡ Some hows.End = sym is ∙ ended_alone left written source_faults sink_faults s.plan Says old new status s.session.did none in
      let end : how ≡ hows.End = cc in
      let bad : true ≡ false = sym reason ∙ ap is_malformed_reason end in
      cc

  module _ (whole : AreWhole false left old s.plan) where
    replay_at : IsMalformedAt s.plan rows → ⊥
    replay_at (inl (k, how, inside, reason, is)) =
        let n = get_or (numbers_of s.plan.ports) k 0 in
        let at = s.session.did.serves.each k no_input inside in
        let fits : Fits (AreArrivals Pcap) (left at.handed.source) (left at.back.source) (arrived n rows) (Some how) =
        subst (λ (e : Option How). Fits (AreArrivals Pcap) (left at.handed.source) (left at.back.source) (arrived n rows) e) is at.holds.fits in
        whole_not_replayed_malformed (left at.handed.source) (left at.back.source) (arrived n rows) how reason fits
        (told_of (λ (e : Ends S K C). left e.source) (IsWholeInput Pcap) (ports_in s.plan old n) at.handed at.told (told_capture left old s.plan (s.configured.built.captures refl) whole.ports k inside))
    replay_at (inr (how, reason, is)) =
        control_place left written source_faults sink_faults s.plan played how s.plan.control s.session.did.serves.lines s.session.did.serves.stops.control old.control new.control s.session.did.serves.control
        (ended_in_order how is reason) whole.control is reason

    replay_sound : status ≡ 4 → ⊥
    replay_sound four =
        let r = s.session.did.reported in
        let bad : has_malformed rows ≡ true = malformed_by status (has_failed rows) (has_failed_write rows || not (r.journal_written && r.summed.summary_written)) (has_malformed rows) r.summed.cause four in
        replay_at (segments_malformed s.plan played s.session.did.serves.session.legal bad)

-- a live session

module _ {S K C : Type 0} (left : S → Option (List ℕ)) (written : K → Option (List ℕ)) (source_faults : S → ℕ) (sink_faults : K → ℕ) (readings : C → Option (List ℕ)) where
  live_place : (plan : Plan) (segments : List (List Row)) (how : How) (names : Option (List ℕ × List ℕ)) (old new : ControlKey → Place (Ends S K C))
      → ServesControlAt left written source_faults sink_faults readings plan segments names old new → IfSome names (λ n. Tells (λ ends. left ends.source) (old (control_key true n)) (AreWholeLines true))
      → control_end (unbroken segments) ≡ Some how → is_malformed_reason how ≡ true → ⊥
  live_place plan segments how None old new serves whole is reason =
      let both : Some how ≡ Some hows.End = sym is ∙ serves.0.ended in
      let end : how ≡ hows.End = cc in
      let bad : true ≡ false = sym reason ∙ ap is_malformed_reason end in
      cc
  live_place plan segments how (Some names) old new serves whole is reason =
      let fits : FitsControl AreLiveLines (left serves.handed.source) (left serves.back.source) (entered_lines (unbroken segments)) (Some how) = subst (λ (e : Option How). FitsControl AreLiveLines (left serves.handed.source) (left serves.back.source) (entered_lines (unbroken segments)) e) (sym serves.holds.ended ∙ is) serves.holds.source.fits in
      live_not_malformed (left serves.handed.source) (left serves.back.source) (entered_lines (unbroken segments)) how reason fits
      (told_of (λ (e : Ends S K C). left e.source) (AreWholeLines true) (old (control_key true names)) serves.handed serves.told whole)

  module _ (Says : List ℕ → Type 0) (old new : Book S K C) (file : List ℕ) (status : ℕ) (s : IsServeSession left written source_faults sink_faults readings file Says old new status) where
    module _ (whole : AreWhole true left old s.plan) where
      live_at : IsMalformedAt s.plan (unbroken s.session.segments) → ⊥
      live_at (inl (k, how, inside, reason, is)) =
          let d = plan_element s.plan.ports k inside in
          let p = get_or s.plan.ports k d in
          let at = s.session.ports k d inside in
          let ended = subst (λ (n : ℕ). input_end n (unbroken s.session.segments) ≡ Some how) (number_of_place s.plan k d inside) is in
          let entered = arrived (number_of p.number) (unbroken s.session.segments) in
          let row : EnteredRow left source_faults readings p.format entered (Some how) at.handed.source at.back.source at.handed.clock at.back.clock =
          subst (λ (e : Option How). EnteredRow left source_faults readings p.format entered e at.handed.source at.back.source at.handed.clock at.back.clock) ended at.holds.0 in
          whole_not_entered_malformed left source_faults readings p.format entered how at.handed.source at.back.source at.handed.clock at.back.clock reason row
          (told_of (λ (e : Ends S K C). left e.source) (IsWholeInput p.format) (ports_in s.plan old (number_of p.number)) at.handed at.told (whole.ports k d inside))
      live_at (inr (how, reason, is)) = live_place s.plan s.session.segments how s.plan.control old.control new.control s.session.control whole.control is reason

      live_sound : status ≡ 4 → ⊥
      live_sound four =
          let rows = unbroken s.session.segments in
          let r = s.session.reported in
          let bad : has_malformed rows ≡ true = malformed_by status (has_failed rows) (has_failed_write rows || not (r.journal_written && r.summed.summary_written)) (has_malformed rows) r.summed.cause four in
          live_at (segments_malformed s.plan s.session.segments s.session.session.legal bad)

-- learning

heard_malformed : (status : ℕ) (f w m : Bool) → status ≡ (if f then 5 else if w then 6 else if m then 4 else 0) → status ≡ 4 → m ≡ true
heard_malformed status true w m is e = absurd (omega (arith, is, e))
heard_malformed status false true m is e = absurd (omega (arith, is, e))
heard_malformed status false false true is e = refl
heard_malformed status false false false is e = absurd (omega (arith, is, e))

module _ {S K C : Type 0} (left : S → Option (List ℕ)) (written : K → Option (List ℕ)) (source_faults : S → ℕ) (sink_faults : K → ℕ) (Says : List ℕ → Type 0) (old new : Book S K C) (file : List ℕ) (window status : ℕ) (l : IsLearning left written source_faults sink_faults file window Says old new status) where
  heard_sound : ArePortsWhole left old l.plan → status ≡ 4 → ⊥
  heard_sound whole four =
      let learns = l.learning.learns in
      let bad = heard_malformed status (list_any (λ (e : Ending). is_failed_reason e.how) l.learning.endings) (not l.learning.text_written) (list_any (λ (e : Ending). is_malformed_reason e.how) l.learning.endings) l.learning.cause four in
      let among = ends_among is_malformed_reason l.plan.ports learns.inputs l.learning.endings learns.size learns.ended bad in
      let at = learns.each among.0 no_input among.1 in
      let input = get_or learns.inputs among.0 no_input in
      whole_not_heard_malformed (left at.handed.source) (left at.back.source) (Some input.ending) input.arrivals input.ending (among.2 no_input) at.holds.gave
      (told_of (λ (e : Ends S K C). left e.source) (IsWholeInput Pcap) (ports_in l.plan old (get_or (numbers_of l.plan.ports) among.0 0)) at.handed at.told (told_capture left old l.plan (l.configured.built.captures refl) whole among.0 among.1))

-- the check of a file

line_by : (done : Bool) (n status : ℕ) → status ≡ (if done then n else 6) → (done ≡ false → ⊥) → status ≡ n
line_by true n status is written_so = is
line_by false n status is written_so = absurd (written_so refl)

zero_good : (answer : Checked) → IsTextRead answer → check_status answer ≡ 0 → (entries : ℕ) × (answer ≡ answers.Good entries)
zero_good (answers.Good entries) read zero_is = (entries, refl)
zero_good (answers.Wrong entry want have) read zero_is = absurd (omega (arith, zero_is))
zero_good (answers.BadLine n) read zero_is = absurd (omega (arith, zero_is))
zero_good answers.Failed read zero_is = absurd read
zero_good answers.NoMemory read zero_is = absurd read

module _ {S : Type 0} (left : S → Option (List ℕ)) (answer : Checked) (status : ℕ) (read : IsTextRead answer) (is : status ≡ check_status answer) where
  abbrev IsExact : List ℕ → Type 0
  IsExact text = (status ≡ 0) ↔ ((entries : ℕ) × IsFinishedJournal text entries)

  exact_octets : (octets : Option (List ℕ)) → ((entries : ℕ) → answer ≡ answers.Good entries → IfSome octets (λ text. IsFinishedJournal text entries)) → ((entries : ℕ) → IfSome octets (λ text. IsFinishedJournal text entries → answer ≡ answers.Good entries)) → IfSome octets IsExact
  exact_octets None good journal = tt
  exact_octets (Some text) good journal = (
    λ zero_is. let found = zero_good answer read (sym is ∙ zero_is) in (found.0, good found.0 found.1),
    λ found. is ∙ ap check_status (journal found.0 found.1),
  )

  exact_at : (stands : Option S) → ((entries : ℕ) → answer ≡ answers.Good entries → IfSome stands (λ told. IfSome (left told) (λ text. IsFinishedJournal text entries))) → ((entries : ℕ) → IfSome stands (λ told. IfSome (left told) (λ text. IsFinishedJournal text entries → answer ≡ answers.Good entries)))
      → IfSome stands (λ told. IfSome (left told) IsExact)
  exact_at None good journal = tt
  exact_at (Some told) good journal = exact_octets (left told) good journal

-- the audit of a file

audited_by : {S : Type 0} (left : S → Option (List ℕ)) (stands : Option S) (status : ℕ) (answer : Checked) (done : Bool) → status ≡ audit_status done answer → (done ≡ false → ⊥) → status ≢ 1 → (answer ≡ answers.Failed → ⊥)
    → ((entries : ℕ) → answer ≡ answers.Good entries → IfSome stands (λ told. IfSome (left told) (λ text. IsFinishedJournal text entries)))
    → ((entries : ℕ) → IfRead answer (IfSome stands (λ told. IfSome (left told) (λ text. IsFinishedJournal text entries → answer ≡ answers.Good entries))))
    → IfSome stands (λ told. IfSome (left told) (λ text. (status ≡ 0) ↔ ((entries : ℕ) × IsFinishedJournal text entries)))
audited_by left stands status (answers.Good entries) done is wrote other failed good journal = exact_at left (answers.Good entries) status tt (line_by done 0 status is wrote) stands good journal
audited_by left stands status (answers.Wrong entry want have) done is wrote other failed good journal = exact_at left (answers.Wrong entry want have) status tt (line_by done 4 status is wrote) stands good journal
audited_by left stands status (answers.BadLine n) done is wrote other failed good journal = exact_at left (answers.BadLine n) status tt (line_by done 4 status is wrote) stands good journal
audited_by left stands status answers.Failed done is wrote other failed good journal = absurd (failed refl)
audited_by left stands status answers.NoMemory done is wrote other failed good journal = absurd (other is)

-- the split of a file

module _ {S : Type 0} (left : S → Option (List ℕ)) (P Q : List ℕ → Type 0) (each : (text : List ℕ) → P text → Q text) where
  of_octets : (octets : Option (List ℕ)) → IfSome octets P → IfSome octets Q
  of_octets None is = tt
  of_octets (Some text) is = each text is

  of_stands : (stands : Option S) → IfSome stands (λ told. IfSome (left told) P) → IfSome stands (λ told. IfSome (left told) Q)
  of_stands None is = tt
  of_stands (Some told) is = of_octets (left told) is

abbrev IsSplitText : ℕ → List ℕ → Type 0
IsSplitText status text = (status ≡ 0) ↔ ((found : List Event) × events.Arrive text (record { events = found; ending = hows.End }))

split_end : (status : ℕ) (found : List Event) → status ≡ 0 → (text : List ℕ) → events.Arrive text (record { events = found; ending = hows.End }) → IsSplitText status text
split_end status found is text arrive = (λ zero_is. (found, arrive), λ other. is)

split_malformed : (status : ℕ) (found : List Event) (at : ℕ) → status ≡ 4 → (text : List ℕ) → events.Arrive text (record { events = found; ending = hows.Malformed at }) → IsSplitText status text
split_malformed status found at is text arrive = (
  λ zero_is. absurd (omega (arith, is, zero_is)),
  λ other.
      let same : hows.Malformed at ≡ hows.End = ap (λ (i : events.Input). i.ending) (one_capture text (record { events = found; ending = hows.Malformed at }) (record { events = other.0; ending = hows.End }) arrive other.1) in
      cc,
)

-- a load

load_by : (sink_fault : Type 0) (done : Bool) (status : ℕ) → status ≡ (if done then 0 else 6) → (done ≡ false → sink_fault) → (status ≡ 0) ⊎ ((status ≡ 1) ⊎ ((status ≡ 6) × sink_fault))
load_by sink_fault true status is failed = inl is
load_by sink_fault false status is failed = inr (inr (is, failed refl))

-- all forms

module _ {S K C : Type 0} (left : S → Option (List ℕ)) (written : K → Option (List ℕ)) (source_faults : S → ℕ) (sink_faults : K → ℕ) (readings : C → Option (List ℕ)) (words : List (List ℕ)) (old new : Book S K C) (status : ℕ) (fresh : old.faults ≡ 0) (every : RunClauses left written source_faults sink_faults readings words old new status) where
  abbrev all : AllClauses left written source_faults sink_faults readings words old new status
  all = every.others

  abbrev c : Clauses left written source_faults sink_faults readings words old new status
  c = all.others

  abbrev Says : List ℕ → Type 0
  Says = WasTold sink_faults written old new

  -- a session's status but 5 says that there was one
  session_by : (Session : Type 0) (file : List ℕ) (n : ℕ) → n ≢ 5 → status ≡ n → IsFileUnread left source_faults file Says old new status ⊎ Session → Session
  session_by Session file n other is (inl unread) = absurd (other (sym is ∙ unread.status_is))
  session_by Session file n other is (inr session) = session

  in_session : (n : ℕ) → status ≡ n → IsOneOf session_statuses n → IsOneOf session_statuses status
  in_session n is one_of = subst (λ (m : ℕ). IsOneOf session_statuses m) (sym is) one_of

  replay_goes : (file : List ℕ) → IsReplay file words → IsUnhindered true left source_faults sink_faults (AreWhole false left old) file old new
      → (status ≡ 0) ⊎ (status ≡ 1)
  replay_goes file form u =
      let session : (n : ℕ) → n ≢ 5 → IsOneOf session_statuses n → status ≡ n → IsSession left written source_faults sink_faults file Says old new status = λ n other one_of is.
      session_by (IsSession left written source_faults sink_faults file Says old new status) file n other is (c.session file form (in_session n is one_of)) in
      goes status c.one_of
      (λ two. c.usage.0 two (inl (file, form)))
      (λ three. never_refused true left source_faults sink_faults (AreWhole false left old) file old new u Says (c.config file form three))
      (λ four.
      let s = session 4 (λ e. omega (arith, e)) refl four in
      replay_sound left written source_faults sink_faults Says old new file status s (whole_of true left source_faults sink_faults (AreWhole false left old) file old new u s.plan s.configured.says) four)
      (λ five. u.faultless.read (c.read file form five))
      (λ six. u.faultless.written (c.write file form six))
      (λ seven. not_risen old.faults new.faults fresh u.faultless.opened (c.opening seven))

  serve_goes : (file : List ℕ) → IsServe file words → IsUnhindered false left source_faults sink_faults (AreWhole true left old) file old new
      → (status ≡ 0) ⊎ (status ≡ 1)
  serve_goes file form u =
      let run = c.serve file form in
      let session : (n : ℕ) → n ≢ 5 → IsOneOf session_statuses n → status ≡ n → IsServeSession left written source_faults sink_faults readings file Says old new status = λ n other one_of is.
      session_by (IsServeSession left written source_faults sink_faults readings file Says old new status) file n other is (run.session (in_session n is one_of)) in
      goes status c.one_of
      (λ two. c.usage.0 two (inr (inl (file, form))))
      (λ three. never_refused false left source_faults sink_faults (AreWhole true left old) file old new u Says (run.config three))
      (λ four.
      let s = session 4 (λ e. omega (arith, e)) refl four in
      live_sound left written source_faults sink_faults readings Says old new file status s (whole_of false left source_faults sink_faults (AreWhole true left old) file old new u s.plan s.configured.says) four)
      (λ five. u.faultless.read (c.served_read file form five))
      (λ six. u.faultless.written (c.served_write file form six))
      (λ seven. not_risen old.faults new.faults fresh u.faultless.opened (c.opening seven))

  learn_goes : (file : List ℕ) (window : ℕ) → IsLearn file window words → IsUnhindered true left source_faults sink_faults (ArePortsWhole left old) file old new → (status ≡ 0) ⊎ (status ≡ 1)
  learn_goes file window form u =
      let run = (all.learn file window form).run in
      let session : (n : ℕ) → n ≢ 5 → IsOneOf session_statuses n → status ≡ n → IsLearning left written source_faults sink_faults file window Says old new status = λ n other one_of is.
      session_by (IsLearning left written source_faults sink_faults file window Says old new status) file n other is (run.session (in_session n is one_of)) in
      goes status c.one_of
      (λ two. c.usage.0 two (inr (inr (inr (inr (inr (inl (file, window, form))))))))
      (λ three. never_refused true left source_faults sink_faults (ArePortsWhole left old) file old new u Says (run.config three))
      (λ four.
      let l = session 4 (λ e. omega (arith, e)) refl four in
      heard_sound left written source_faults sink_faults Says old new file window status l (whole_of true left source_faults sink_faults (ArePortsWhole left old) file old new u l.plan l.configured.says) four)
      (λ five. u.faultless.read (all.learned_read file window form five))
      (λ six. u.faultless.written (inr (inr (inr (all.learned_write file window form six)))))
      (λ seven. not_risen old.faults new.faults fresh u.faultless.opened (c.opening seven))

  answered_exact : (file : List ℕ) → IsFaultless source_faults sink_faults file old new → IsAnswered left written source_faults sink_faults file Says old new status
      → OfText left (old.inputs file) (λ text. (status ≡ 0) ↔ ((entries : ℕ) × IsFinishedJournal text entries))
  answered_exact file faultless a =
      let is = line_by a.line_written (check_status a.answer) status a.cause (λ lost. faultless.written (inr (inr (inr (unwritten_fault sink_faults written a.line_written _ (old.std Out) (new.std Out) lost a.line))))) in
      exact_at left a.answer status a.read is (old.inputs file).stands a.good a.journal

  check_exact : (file : List ℕ) → IsFaultless source_faults sink_faults file old new → status ≢ 1 → IsCheckRun left written source_faults sink_faults file Says old new status
      → OfText left (old.inputs file) (λ text. (status ≡ 0) ↔ ((entries : ℕ) × IsFinishedJournal text entries))
  check_exact file faultless other run = elim run.did [
    | inl unopened ↦ absurd (not_risen old.faults new.faults fresh faultless.opened unopened.fault)
    | inr (kept, inl unjudged) ↦ absurd (other unjudged.status_is)
    | inr (kept, inr (inl unread)) ↦ absurd (faultless.read (inl unread.fault))
    | inr (kept, inr (inr answered)) ↦ answered_exact file faultless answered
  ]

  audited_exact : (file : List ℕ) → IsFaultless source_faults sink_faults file old new → status ≢ 1 → IsAuditedFile left written source_faults sink_faults file Says old new status
      → OfText left (old.inputs file) (λ text. (status ≡ 0) ↔ ((entries : ℕ) × IsFinishedJournal text entries))
  audited_exact file faultless other a =
      audited_by left (old.inputs file).stands status a.answer a.text_written a.cause
      (λ lost. faultless.written (inr (inr (inr (unwritten_fault sink_faults written a.text_written _ (old.std Out) (new.std Out) lost a.out)))))
      other (λ failed. faultless.read (inl (a.fault failed))) a.good a.journal

  audit_exact : (file : List ℕ) → IsFaultless source_faults sink_faults file old new → status ≢ 1 → IsAuditRun left written source_faults sink_faults file Says old new status
      → OfText left (old.inputs file) (λ text. (status ≡ 0) ↔ ((entries : ℕ) × IsFinishedJournal text entries))
  audit_exact file faultless other run = elim run.did [
    | inl unopened ↦ absurd (not_risen old.faults new.faults fresh faultless.opened unopened.fault)
    | inr (kept, audited) ↦ audited_exact file faultless other audited
  ]

  split_by : (file : List ℕ) → IsFaultless source_faults sink_faults file old new → (o : Outcome) → CameTo left written source_faults sink_faults file old new o → IsTold written sink_faults Says file o (old.std Out) (new.std Out) status → OfText left (old.inputs file) (IsSplitText status)
  split_by file faultless (outcome.Split counts) came told =
      let is = line_by told.line_written 0 status told.cause (λ lost. faultless.written (inr (inr (inr (unwritten_fault sink_faults written told.line_written _ (old.std Out) (new.std Out) lost told.line))))) in
      of_stands left (λ text. events.Arrive text (record { events = came.1.events; ending = hows.End })) (IsSplitText status) (split_end status came.1.events is) (old.inputs file).stands came.1.tells
  split_by file faultless (outcome.Malformed at counts) came told =
      let is = line_by told.line_written 4 status told.cause (λ lost. faultless.written (inr (inr (inr (unwritten_fault sink_faults written told.line_written _ (old.std Out) (new.std Out) lost told.line))))) in
      of_stands left (λ text. events.Arrive text (record { events = came.1.events; ending = hows.Malformed at })) (IsSplitText status) (split_malformed status came.1.events at is) (old.inputs file).stands came.1.tells
  split_by file faultless outcome.Unread came told = absurd (faultless.read (inl came.2))
  split_by file faultless (outcome.Unwritten interface) came told = absurd (faultless.written (inr (inr (inl (output_name file interface, came.2)))))
  split_by file faultless (outcome.NoOutput interface) came told = absurd (not_risen old.faults new.faults fresh faultless.opened came.2)
  split_by file faultless outcome.NoInput came told = absurd (not_risen old.faults new.faults fresh faultless.opened came.0)

  split_exact : (file : List ℕ) → IsFaultless source_faults sink_faults file old new → status ≢ 1 → IsCaptureRun left written source_faults sink_faults file Says old new status → OfText left (old.inputs file) (IsSplitText status)
  split_exact file faultless other (inl unsplit) = absurd (other unsplit.told.cause)
  split_exact file faultless other (inr did) = split_by file faultless did.outcome did.came did.told

  load_goes : (seed frames : ℕ) → IsLoadRun written sink_faults seed frames Says old new status → (status ≡ 0) ⊎ ((status ≡ 1) ⊎ ((status ≡ 6) × EndHasFault sink_faults (new.std Out)))
  load_goes seed frames run = elim run.did [
    | inl unplayed ↦ inr (inl unplayed.one)
    | inr summed ↦ load_by (EndHasFault sink_faults (new.std Out)) summed.summary_written status summed.cause (λ lost. unwritten_fault sink_faults written summed.summary_written _ (old.std Out) (new.std Out) lost summed.summary)
  ]

  pub complete_of : IsComplete left source_faults sink_faults words old new status
  complete_of = record {
    replay = replay_goes;
    serve = serve_goes;
    learn = learn_goes;
    check = λ file form faultless other. check_exact file faultless other (c.check file form);
    audit = λ file form faultless other. audit_exact file faultless other (every.audit file form);
    split = λ file form faultless other. split_exact file faultless other (c.split file form);
    load = λ seed frames form. load_goes seed frames (c.load seed frames form);
  }
