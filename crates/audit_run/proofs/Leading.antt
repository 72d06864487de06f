-- The entries that a check gives to an audit, one after another, are all audited.
use Rattle.std.proofs.Common.{◌≡◌, ◌≢◌, ℕ, ◌^◌, ◌≤◌, Bool, true, false, if◌then◌else◌, List, [], ◌∷◌, ◌++◌, length, Option, Some, None, IfSome, refl, sym, subst, arith, inl, inr}
use Rattle.savi_kinds.specs.declared.entry.Act.{Act}
use Rattle.savi_kinds.specs.declared.entry.Act.TheVariants.{Frame, Long, Tick, Command, Drain, End}
use Rattle.savi_kinds.specs.declared.plan.Plan.{Plan}
use Rattle.savi_ends.specs.Octets.{IsFront, in_front}
use Rattle.hist_store.specs.Rows.{Row}
use Rattle.hist_store.specs.declared.version.Version.{Version}
use Rattle.hist_store.specs.declared.version.Version.TheVariants.{One}
use Rattle.checkpoint.specs.Bases.{Base}
use Rattle.savi_history.specs.Legal.{IsLegal}
use Rattle.savi_history.specs.Moments.{last_moment}
use Rattle.savi_history.specs.Summary.{is_pass}
use Rattle.savi_segments.specs.Segments.{AreLegal, HaveTurned, base_after}
use Rattle.journal_check.specs.declared.answer.Checked.{Checked}
use Rattle.journal_check.specs.declared.answer.Checked.TheVariants as answers
use Rattle.journal_check.specs.Answers.{IfRead, IsAnswerBehind, IsAnswerTo, IsBadHeader, IsBeforeEntries, past_text}
use Rattle.journal_check.specs.Headers.{IsPlan}
use Rattle.journal_check.specs.Laws.{HasOneHistory}
use Rattle.journal_check.specs.Pieces.{seen_if_told}
use Rattle.journal_check.specs.Seen.{seen}
use Rattle.journal_check.specs.Watched.{HasWatched, IsWatched, Leads, WatchedEntry, all_watched, watched_in}
use Rattle.journal_check.proofs.OneWatch.{none_some}
use Rattle.journal_check.proofs.OpeningLines.{some_same}
use Rattle.v4_snoop.specs.Reasons.{PassedFrame, last_passed, passed_at}
use Rattle.audit_run.specs.declared.auditor.Auditor.{Auditor}
use Rattle.audit_run.specs.PassedFrames.{frame_by, frame_passed, passed_frames, with_passed}
use Rattle.audit_run.specs.Auditing.{BeginsAudit, ComesBehind, HasAudited, IsUnbegun, Sees}
use Rattle.audit_run.specs.Audited.{Audits, IsAuditOf, IsAudited}
use Rattle.audit_run.specs.Printed.{HasPrinted}
use Rattle.audit_run.specs.Violations.{violation_lines}
use Rattle.audit_run.proofs.Passing.{IsWhole, base_early, last_early, row_later, row_whole}

-- the frames of entries came no later than the last moment

last_with : (passed : Option PassedFrame) (frames : List PassedFrame) (m t : ℕ) → last_passed frames ≤ m → m ≤ t → IfSome passed (λ frame. frame.moment ≡ t) → last_passed (with_passed passed frames) ≤ t
last_with None frames m t low order is = omega (arith, low, order)
last_with (Some frame) frames m t low order is = omega (arith, is)

moment_if : (is : Bool) (frame : PassedFrame) → IfSome (if is then Some frame else None) (λ one. one.moment ≡ frame.moment)
moment_if true frame = refl
moment_if false frame = tt

moment_by : (row : Row) (act : Act) → IfSome (frame_by row act) (λ frame. frame.moment ≡ row.entry.moment)
moment_by row (Frame port stamp at len) = moment_if (is_pass row.entry.verdict) (passed_at port row.entry.moment row.octets)
moment_by row (Long port stamp len) = tt
moment_by row (Tick stamp) = tt
moment_by row (Command stamp at len) = tt
moment_by row (Drain port count) = tt
moment_by row (End who how) = tt

some_moment : (row : Row) → IfSome (frame_passed row) (λ frame. frame.moment ≡ row.entry.moment)
some_moment row = moment_by row row.entry.act

module _ (plan : Plan) (base : Base) (segment : ℕ) (before : List WatchedEntry) (early : base.moment ≤ 2 ^ 62) where
  -- in a segment behind others
  segment_last : (past : List Row) → last_passed (passed_frames before) ≤ base.moment → IsLegal plan base past → last_passed (passed_frames (watched_in segment past ++ before)) ≤ last_moment base past
  segment_last [] low legal = low
  segment_last (row ∷ past) low legal =
      last_with (frame_passed row) (passed_frames (watched_in segment past ++ before)) (last_moment base past) row.entry.moment
      (segment_last past low legal.1) (row_later plan base past row (last_early plan base past early legal.1) legal.0) (some_moment row)

segments_last : (plan : Plan) (segments : List (List Row)) → AreLegal plan segments → last_passed (passed_frames (all_watched segments)) ≤ (base_after plan segments).moment
segments_last plan [] legal = omega arith
segments_last plan (segment ∷ before) legal =
    segment_last plan (base_after plan before) (length before) (all_watched before) (base_early plan before legal.2) segment (segments_last plan before legal.2) legal.0

-- so the next one comes behind them
comes_behind : (plan : Plan) (past : List PassedFrame) (t : ℕ) (passed : Option PassedFrame) → last_passed past ≤ t → IfSome passed (IsWhole plan t) → IfSome passed (ComesBehind plan past)
comes_behind plan past t None low whole = tt
comes_behind plan past t (Some frame) low whole = record { vlan = whole.vlan; later = omega (arith, low, whole.later) }

module _ {K : Type 0} (written : K → Option (List ℕ)) (faults : K → ℕ) (first : K) (plan : Plan) (begun : Auditor K) (began : HasAudited written faults first plan [] begun) where
  module _ (base : Base) (segment : ℕ) (before : List WatchedEntry) (early : base.moment ≤ 2 ^ 62) (low : last_passed (passed_frames before) ≤ base.moment)
      (so_far : (after : Auditor K) → Leads (Sees written faults) plan begun before after → HasAudited written faults first plan before after) where
    segment_led : (past : List Row) (after : Auditor K) → IsLegal plan base past → Leads (Sees written faults) plan begun (watched_in segment past ++ before) after → HasAudited written faults first plan (watched_in segment past ++ before) after
    segment_led [] after legal led = so_far after led
    segment_led (row ∷ past) after legal (mid, led, sees) =
        let moments : last_moment base past ≤ 2 ^ 62 = last_early plan base past early legal.1 in
        sees first (watched_in segment past ++ before)
        (comes_behind plan (passed_frames (watched_in segment past ++ before)) (last_moment base past) (frame_passed row) (segment_last plan base segment before early past low legal.1) (row_whole plan base past row moments legal.0))
        (segment_led past mid legal.1 led)

  -- all entries of segments
  pub segments_led : (segments : List (List Row)) (after : Auditor K) → AreLegal plan segments → Leads (Sees written faults) plan begun (all_watched segments) after → HasAudited written faults first plan (all_watched segments) after
  segments_led [] after legal led = subst (HasAudited written faults first plan []) (sym led) began
  segments_led (segment ∷ before) after legal led =
      segment_led (base_after plan before) (length before) (all_watched before) (base_early plan before legal.2) (segments_last plan before legal.2) (λ mid led. segments_led before mid legal.2 led) segment after legal.0 led

-- the text of what was given begins the octets
text_begins : (left : Option (List ℕ)) (front : List ℕ) (rest : Option (List ℕ)) → seen_if_told (2 ^ 62) left ≡ in_front front rest → IfSome left (λ octets. IsFront front (seen octets))
text_begins None front rest told = tt
text_begins (Some octets) front None told = absurd (none_some (seen octets) told)
text_begins (Some octets) front (Some rest) told = (rest, some_same (seen octets) (front ++ rest) told)

-- what follows where a text was read
pub if_read : (answer : Checked) (P Q : Type 0) → (P → Q) → IfRead answer P → IfRead answer Q
if_read (answers.Good entries) P Q follows is = follows is
if_read (answers.Wrong entry want have) P Q follows is = follows is
if_read (answers.BadLine n) P Q follows is = follows is
if_read answers.Failed P Q follows is = tt
if_read answers.NoMemory P Q follows is = tt

-- and where octets are told, by what is seen of them
if_seen : (left : Option (List ℕ)) (P Q : List ℕ → Type 0) → ((octets : List ℕ) → P octets → Q octets) → IfSome (seen_if_told (2 ^ 62) left) P → IfSome left (λ octets. Q (seen octets))
if_seen None P Q follows is = tt
if_seen (Some octets) P Q follows is = follows (seen octets) is

module _ {K : Type 0} (written : K → Option (List ℕ)) (faults : K → ℕ) (first : K) (once : HasOneHistory) (answer : Checked) (before after : Auditor K) where
  module _ (version : Version) (plan : Plan) (closed : List (List Row)) (past : List Row) (audited : HasAudited written faults first plan (all_watched (past ∷ closed)) after) where
    abbrev lines : List ℕ
    lines = violation_lines plan (all_watched (past ∷ closed))

    audit_of : IsAuditOf plan (past ∷ closed) lines after
    audit_of = record { text_is = refl; frames = audited.frames; violations = audited.violations }

    -- it is that of the same history
    audit_as : (plan' : Plan) (closed' : List (List Row)) (past' : List Row) → plan ≡ plan' → closed ≡ closed' → past ≡ past' → IsAuditOf plan' (past' ∷ closed') lines after
    audit_as plan' closed' past' plans closed_are past_are =
        subst (λ (p : Plan). IsAuditOf p (past' ∷ closed') lines after) plans
        (subst (λ (segments : List (List Row)). IsAuditOf plan (past' ∷ segments) lines after) closed_are
        (subst (λ (rows : List Row). IsAuditOf plan (rows ∷ closed) lines after) past_are audit_of))

    -- octets that are told have this history alone
    octets_audited : (octets : List ℕ) (rest : Option (List ℕ)) → IsPlan plan → AreLegal plan (past ∷ closed) → HaveTurned plan (past ∷ closed) → (version ≡ One → closed ≡ [])
        → Some octets ≡ in_front (past_text version plan closed past) rest → IfSome rest (λ behind. IsAnswerTo version plan closed past behind answer) → IsAudited octets answer lines before after
    octets_audited octets None plan_is legal turned one told judges = absurd (none_some octets told)
    octets_audited octets (Some rest) plan_is legal turned one told judges =
        let is : IsAnswerBehind octets answer = record {
          version = version;
          plan = plan;
          closed = closed;
          past = past;
          rest = rest;
          begins = record { plan_is = plan_is; legal = legal; turned = turned; one = one; text = some_same octets (past_text version plan closed past ++ rest) told };
          judges = judges;
        } in
        let only = once octets answer answer is in
        record {
          header = λ bad. absurd (only.0 bad);
          behind = λ other. let same = only.1 other in audit_as other.plan other.closed other.past same.1 same.2 same.3;
        }

    left_audited : (left rest : Option (List ℕ)) → IsPlan plan → AreLegal plan (past ∷ closed) → HaveTurned plan (past ∷ closed) → (version ≡ One → closed ≡ [])
        → seen_if_told (2 ^ 62) left ≡ in_front (past_text version plan closed past) rest → IfSome rest (λ behind. IsAnswerTo version plan closed past behind answer) → IfSome left (λ octets. IsAudited (seen octets) answer lines before after)
    left_audited None rest plan_is legal turned one told judges = tt
    left_audited (Some octets) rest plan_is legal turned one told judges = octets_audited (seen octets) rest plan_is legal turned one told judges

  module _ (left : Option (List ℕ)) (unbegun : IsUnbegun written faults first before) where
    -- in the header nothing was done
    idle_audits : after ≡ before → IsBeforeEntries answer → IfRead answer (IfSome (seen_if_told (2 ^ 62) left) (λ octets. IsBadHeader octets answer)) → Audits written faults first left answer before after
    idle_audits same fault bad = record {
      text = [];
      printed = subst (λ (a : Auditor K). HasPrinted written faults first a.printer []) (sym same) unbegun.printed;
      told = if_read answer (IfSome (seen_if_told (2 ^ 62) left) (λ octets. IsBadHeader octets answer)) (IfSome left (λ octets. IsAudited (seen octets) answer [] before after))
          (if_seen left (λ octets. IsBadHeader octets answer) (λ octets. IsAudited octets answer [] before after)
          (λ octets header. record { header = λ other. record { none = refl; same = same }; behind = λ is. absurd ((once octets answer answer is).0 header) }))
          bad;
      part = inl (record { none = refl; same = same }, fault);
      unbegun = λ none. record { none = refl; same = same };
    }

    -- behind it the entries that were given are audited
    entries_audit : answer ≢ answers.NoMemory → (version : Version) (plan : Plan) (begun : Auditor K) → BeginsAudit written faults before plan begun → HasWatched (Sees written faults) version plan (seen_if_told (2 ^ 62) left) answer begun after
        → Audits written faults first left answer before after
    entries_audit other version plan begun began x =
        let audited : HasAudited written faults first plan (all_watched (x.past ∷ x.closed)) after = segments_led written faults first plan begun (began first unbegun) (x.past ∷ x.closed) after x.legal x.led in
        record {
          text = violation_lines plan (all_watched (x.past ∷ x.closed));
          printed = audited.printed;
          told = if_read answer (IfSome x.rest (λ behind. IsAnswerTo version plan x.closed x.past behind answer)) (IfSome left (λ octets. IsAudited (seen octets) answer (violation_lines plan (all_watched (x.past ∷ x.closed))) before after))
              (left_audited version plan x.closed x.past audited left x.rest x.plan_is x.legal x.turned x.one x.told) x.judges;
          part = inr (record {
            version = version;
            plan = plan;
            closed = x.closed;
            past = x.past;
            legal = x.legal;
            turned = x.turned;
            begins = text_begins left (past_text version plan x.closed x.past) x.rest x.told;
            audit = audit_of version plan x.closed x.past audited;
          });
          unbegun = λ none. absurd (other none);
        }

    pub audits_of : IsWatched (BeginsAudit written faults) (Sees written faults) (seen_if_told (2 ^ 62) left) answer before after → Audits written faults first left answer before after
    audits_of (inl header) = idle_audits header.0 header.1 header.2
    audits_of (inr (other, version, plan, begun, began, watched)) = entries_audit other version plan begun began watched
