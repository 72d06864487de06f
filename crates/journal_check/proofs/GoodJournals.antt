-- What is good is a journal, and each journal of a whole session is good.
use Rattle.std.proofs.Common.{◌≡◌, ◌^◌, ◌≤◌, ℕ, List, [], ◌∷◌, ◌++◌, length, refl, ap, sym, ◌∙◌, inl, inr, arith, append_assoc, length-append}
use Rattle.savi_kinds.specs.declared.plan.Plan.{Plan}
use Rattle.hist_store.specs.Rows.{Row}
use Rattle.hist_store.specs.TextOfLines.{joined}
use Rattle.hist_store.specs.declared.version.Version.{Version}
use Rattle.hist_store.specs.declared.version.Version.TheVariants.{One, Two}
use Rattle.hist_store.specs.JournalTexts.{StandsFor, address_text, journal_end_line, journal_end_text, journal_text_of}
use Rattle.savi_segments.specs.Segments.{IsWholeSession, base_after, joined as all_rows}
use Rattle.savi_segments.specs.Journals.{journal_segment, journal_segments}
use Rattle.journal_check.specs.declared.answer.Checked.TheVariants.{Good, BadLine}
use Rattle.journal_check.specs.Seen.{seen, seen_to}
use Rattle.journal_check.specs.Headers.{IsPlan}
use Rattle.journal_check.specs.Answers.{past_text, IsAnswer, IsAnswerBehind}
use Rattle.journal_check.specs.Laws.{IsFinishedJournal, GoodIsJournal, JournalIsGood}
use Rattle.journal_check.proofs.SeenTexts.{seen_all, seen_whole}
use Rattle.journal_check.proofs.SegmentTexts.{journal_lines}

-- a text of version 1 stands for one segment
stands_for : (version : Version) (plan : Plan) (closed : List (List Row)) (past : List Row) (octets : List ℕ) → (version ≡ One → closed ≡ [])
    → octets ≡ journal_text_of version address_text plan (journal_segments plan (past ∷ closed)) → StandsFor address_text plan (journal_segments plan (past ∷ closed)) octets
stands_for Two plan closed past octets one e = inl e
stands_for One plan closed past octets one e = inr (ap (λ (c : List (List Row)). length (journal_segments plan (past ∷ c))) (one refl), e)

good_behind : (octets : List ℕ) (entries : ℕ) → IsAnswerBehind (seen octets) (Good entries) → IsFinishedJournal octets entries
good_behind octets entries x =
    let text = past_text x.version x.plan x.closed x.past in
    let last = joined (journal_end_line (length x.past)) in
    let seen_is : seen_to octets (2 ^ 62) ≡ (text ++ last) ++ 10 ∷ [] =
    x.begins.text ∙ ap (λ (t : List ℕ). text ++ t) x.judges.2 ∙ sym (append_assoc text last (10 ∷ [])) in
    let whole = seen_whole octets (2 ^ 62) (text ++ last) seen_is in
    let journal : octets ≡ journal_text_of x.version address_text x.plan (journal_segments x.plan (x.past ∷ x.closed)) =
    whole.0 ∙ append_assoc text last (10 ∷ []) ∙ sym (journal_lines x.version x.plan x.closed x.past) in
    record {
      plan = x.plan;
      segments = x.past ∷ x.closed;
      plan_is = x.begins.plan_is;
      journal = record {
        valid = x.begins.plan_is.valid;
        addresses = x.begins.plan_is.addresses;
        some = omega arith;
        legal = x.begins.legal;
        journal = stands_for x.version x.plan x.closed x.past octets x.begins.one journal;
      };
      session = record { legal = x.begins.legal; turned = x.begins.turned; closed = x.judges.1 };
      count = x.judges.0;
      within = whole.1;
    }

good_not_bad : (entries n : ℕ) → Good entries ≡ BadLine n → ⊥
good_not_bad entries n e = cc

pub good_is_journal : GoodIsJournal
good_is_journal octets entries (inl bad) = absurd (good_not_bad entries bad.0 bad.2)
good_is_journal octets entries (inr x) = good_behind octets entries x

-- one segment has none before it
one_segment : (plan : Plan) (closed : List (List Row)) (past : List Row) → length (journal_segments plan (past ∷ closed)) ≡ 1 → closed ≡ []
one_segment plan [] past e = refl
one_segment plan (segment ∷ before) past e =
    let some = length-append (journal_segments plan (segment ∷ before)) (journal_segment plan (base_after plan (segment ∷ before)) past ∷ []) in
    let more = length-append (journal_segments plan before) (journal_segment plan (base_after plan before) segment ∷ []) in
    absurd (omega (arith, e, some, more))

-- a journal in this version
good_of : (octets : List ℕ) (entries : ℕ) (version : Version) (plan : Plan) (segments : List (List Row)) → IsPlan plan → IsWholeSession plan segments → (version ≡ One → length (journal_segments plan segments) ≡ 1)
    → octets ≡ journal_text_of version address_text plan (journal_segments plan segments) → entries ≡ length (all_rows segments) → length octets ≤ 2 ^ 62 → IsAnswer octets (Good entries)
good_of octets entries version plan [] is session one text count within = absurd session.closed
good_of octets entries version plan (past ∷ closed) is session one text count within = inr (record {
  version = version;
  plan = plan;
  closed = closed;
  past = past;
  rest = journal_end_text (length past);
  begins = record {
    plan_is = is;
    legal = session.legal;
    turned = session.turned;
    one = λ first. one_segment plan closed past (one first);
    text = seen_all octets (2 ^ 62) within ∙ text ∙ journal_lines version plan closed past;
  };
  judges = (count, session.closed, refl);
})

two_not_one : Two ≡ One → ⊥
two_not_one e = cc

good_in : (octets : List ℕ) (entries : ℕ) (x : IsFinishedJournal octets entries) → StandsFor address_text x.plan (journal_segments x.plan x.segments) octets → IsAnswer octets (Good entries)
good_in octets entries x (inl two) = good_of octets entries Two x.plan x.segments x.plan_is x.session (λ one. absurd (two_not_one one)) two x.count x.within
good_in octets entries x (inr one) = good_of octets entries One x.plan x.segments x.plan_is x.session (λ is. one.0) one.1 x.count x.within

pub journal_is_good : JournalIsGood
journal_is_good octets entries x = good_in octets entries x x.journal.journal
