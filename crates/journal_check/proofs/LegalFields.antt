-- Each number of a legal history fits its field of the journal.
use Rattle.std.proofs.Common.{ℕ, ◌^◌, ◌<◌, ◌≤◌, ◌&&◌, Option, Some, None, List, [], ◌∷◌, length, refl, sym, subst, arith}
use Rattle.std.specs.Prelude.{reverse}
use Rattle.std.proofs.lemmas.List.{reverse-append}
use Rattle.std.proofs.lemmas.List.Elements.{All-head, All-tail, All-pop}
use Rattle.hex.specs.Hex.{IsBytes}
use Rattle.savi_kinds.specs.declared.plan.Plan.{Plan}
use Rattle.savi_kinds.specs.declared.entry.Who.{Who}
use Rattle.savi_kinds.specs.declared.entry.Who.TheVariants as passes
use Rattle.savi_kinds.specs.declared.entry.How.{How}
use Rattle.savi_kinds.specs.declared.entry.How.TheVariants as hows
use Rattle.savi_kinds.specs.declared.entry.Act.TheVariants as acts
use Rattle.savi_kinds.specs.declared.verdict.Verdict.{Verdict}
use Rattle.savi_kinds.specs.Ports.{number_of}
use Rattle.savi_kinds.specs.PortSets.{is_member}
use Rattle.savi_kinds.specs.ValidPlan.{IsValidPlan}
use Rattle.hist_store.specs.Rows.{Row}
use Rattle.hist_store.specs.LineTexts.{FitsLine}
use Rattle.hist_store.specs.EntryLines.{IsHowInRange, IsInRange, entry_said}
use Rattle.hist_store.proofs.OneEntry.{written_says}
use Rattle.checkpoint.specs.Bases.{Base}
use Rattle.savi_history.specs.Moments.{last_moment, moment_at}
use Rattle.savi_history.specs.Outs.{outs}
use Rattle.savi_history.specs.Queues.{is_closed}
use Rattle.savi_history.specs.Vlans.{vlan_of_frame}
use Rattle.savi_history.specs.Events.{Event, Frame, Long, Command, Tick, Drain, End, row_of, outs_of, frame_act, command_act}
use Rattle.savi_history.specs.Judged.{verdict_of}
use Rattle.savi_history.specs.Limits.{IsWithinLimits}
use Rattle.savi_history.specs.Legal.{MayCome, MayEnd, Stands, IsLegal}
use Rattle.savi_history.proofs.Depth.{queue_within}
use Rattle.savi_history.proofs.Lines.{fits_oldest}
use Rattle.savi_history.proofs.Telling.{AreOctets, early}
use Rattle.journal_check.specs.Laws.{AreSaid}
use Rattle.journal_check.proofs.FewEntries.{few_entries}
use Rattle.journal_check.proofs.ComputedFields.{pass_fits, set_fits, probes_fit, lost_fits}

-- the ports of a frame, which are none where it has no VLAN
outs_fit : (vlan : Option ℕ) (plan : Plan) (base : Base) (past : List Row) (port moment : ℕ) (octets : List ℕ) (verdict : Verdict) → (outs vlan plan base past port moment octets verdict).0 < 2 ^ 16
outs_fit (Some vlan) plan base past port moment octets verdict = set_fits _ plan.ports
outs_fit None plan base past port moment octets verdict = omega arith

-- the number of a reason

how_fits : (plan : Plan) (base : Base) (past : List Row) (how : How) (who : Who) → MayEnd plan base past who how → IsHowInRange how
how_fits plan base past hows.End who may = tt
how_fits plan base past hows.Quit who may = tt
how_fits plan base past hows.Failed who may = tt
how_fits plan base past hows.Unwritten who may = tt
how_fits plan base past hows.Paused who may = tt
how_fits plan base past (hows.Malformed at) (passes.Ingress port) may = may
how_fits plan base past (hows.Malformed at) passes.Control may = may
how_fits plan base past (hows.Malformed at) passes.Ticker may = absurd may
how_fits plan base past (hows.Malformed at) (passes.Egress port) may = absurd may
how_fits plan base past (hows.Overlong at) (passes.Ingress port) may = absurd may
how_fits plan base past (hows.Overlong at) passes.Control may = may
how_fits plan base past (hows.Overlong at) passes.Ticker may = absurd may
how_fits plan base past (hows.Overlong at) (passes.Egress port) may = absurd may

module _ (plan : Plan) (valid : IsValidPlan plan) (base : Base) (within : IsWithinLimits plan base) (past : List Row) (legal : IsLegal plan base past) (octets_are : AreOctets past) where
  number_fits : length past < 2 ^ 64
  number_fits = omega (arith, few_entries plan base valid past legal, valid.entries.1)

  moment_fits : (event : Event) → MayCome plan base past event → (row_of plan base past event).entry.moment < 2 ^ 64
  moment_fits event may =
      let low : last_moment base (row_of plan base past event ∷ past) ≤ 2 ^ 62 = early plan valid base within (row_of plan base past event ∷ past) ((event, may, refl), legal) in
      omega (arith, low)

  -- the numbers of the row of an event
  in_range : (event : Event) → MayCome plan base past event → IsInRange (entry_said (row_of plan base past event).entry)
  in_range (Frame port stamp octets) may =
      let act = frame_act past port stamp octets in
      let out = outs_of plan base past port stamp octets in
      record {
        by = pass_fits plan (passes.Ingress port) valid may.0.open_pass.known;
        moment = moment_fits (Frame port stamp octets) may;
        act = (may.0.fits, refl);
        outs = outs_fit (vlan_of_frame plan (number_of port) octets) plan base past (number_of port) (moment_at base past stamp) octets (verdict_of plan base past port stamp octets);
        cuts = set_fits (λ q. is_member out q && is_closed plan base past act octets q) plan.ports;
        probes = probes_fit plan valid base within past legal octets_are act octets;
        lost = lost_fits plan valid base within past legal octets_are act octets;
      }
  in_range (Long port stamp len) may = record {
    by = pass_fits plan (passes.Ingress port) valid may.0.open_pass.known;
    moment = moment_fits (Long port stamp len) may;
    act = (may.0.fits, may.2);
    outs = omega arith;
    cuts = omega arith;
    probes = probes_fit plan valid base within past legal octets_are (acts.Long port stamp len) [];
    lost = lost_fits plan valid base within past legal octets_are (acts.Long port stamp len) [];
  }
  in_range (Command stamp line) may =
      let act = command_act past stamp line in
      record {
        by = pass_fits plan passes.Control valid refl;
        moment = moment_fits (Command stamp line) may;
        act = (may.0.fits, refl);
        outs = omega arith;
        cuts = omega arith;
        probes = probes_fit plan valid base within past legal octets_are act line;
        lost = lost_fits plan valid base within past legal octets_are act line;
      }
  in_range (Tick stamp) may = record {
    by = pass_fits plan passes.Ticker valid refl;
    moment = moment_fits (Tick stamp) may;
    act = may.fits;
    outs = omega arith;
    cuts = omega arith;
    probes = probes_fit plan valid base within past legal octets_are (acts.Tick stamp) [];
    lost = lost_fits plan valid base within past legal octets_are (acts.Tick stamp) [];
  }
  in_range (Drain port count) may =
      let few : count < 2 ^ 32 = omega (arith, may.2, queue_within plan base (number_of port) past, valid.depth.1) in
      record {
        by = pass_fits plan (passes.Egress port) valid may.0.known;
        moment = moment_fits (Drain port count) may;
        act = few;
        outs = omega arith;
        cuts = omega arith;
        probes = omega arith;
        lost = omega arith;
      }
  in_range (End who how) may = record {
    by = pass_fits plan who valid may.0.known;
    moment = moment_fits (End who how) may;
    act = how_fits plan base past how who may.1;
    outs = omega arith;
    cuts = omega arith;
    probes = omega arith;
    lost = omega arith;
  }

-- the newest row is all in its line
newest_fits : (plan : Plan) (base : Base) (row : Row) (past : List Row) → IsLegal plan base (row ∷ past) → FitsLine row
newest_fits plan base row past legal = (All-pop FitsLine (reverse (row ∷ past)) (reverse past) (Some row) (reverse-append (row ∷ []) past) (fits_oldest plan base (row ∷ past) legal)).1

pub legal_said : (plan : Plan) → IsValidPlan plan → (base : Base) → IsWithinLimits plan base → (past : List Row) → IsLegal plan base past → AreOctets past → AreSaid past
legal_said plan valid base within [] legal octets_are = tt
legal_said plan valid base within (row ∷ past) legal octets_are =
    let stands : Stands plan base past row = legal.0 in
    let before = All-tail (λ (r : Row). IsBytes r.octets) row past octets_are in
    let range : IsInRange (entry_said row.entry) = subst (λ (r : Row). IsInRange (entry_said r.entry)) (sym stands.2) (in_range plan valid base within past legal.1 before stands.0 stands.1) in (
      written_says (length past) row (number_fits plan valid base within past legal.1 before) range (All-head (λ (r : Row). IsBytes r.octets) row past octets_are) (newest_fits plan base row past legal),
      legal_said plan valid base within past legal.1 before,
    )
