-- The segments of a session of a plan are those of the plan without its names, with the same journal.
use Rattle.std.proofs.Common.{◌≡◌, ◌+◌, ◌*◌, ◌==◌, ◌≤◌, ℕ, List, [], ◌∷◌, ◌++◌, All, length, map, reverse, refl, ap, ap₂, sym, ◌∙◌, subst, inl, inr}
use Rattle.std.specs.List.{list_any}
use Rattle.std.specs.List.Sorted.{IsStrictlyIncreasing}
use Rattle.std.proofs.lemmas.List.Elements.{All-cons, All-head, All-nil, All-tail}
use Rattle.savi_kinds.specs.declared.plan.Plan.{Plan}
use Rattle.savi_kinds.specs.declared.plan.PortPlan.{PortPlan}
use Rattle.savi_kinds.specs.declared.port.Port.{Port}
use Rattle.savi_kinds.specs.declared.entry.Who.{Who}
use Rattle.savi_kinds.specs.declared.entry.Who.TheVariants.{Ingress, Control, Ticker, Egress}
use Rattle.savi_kinds.specs.declared.entry.How.{How}
use Rattle.savi_kinds.specs.declared.entry.How.TheVariants as hows
use Rattle.savi_kinds.specs.Ports.{number_of}
use Rattle.savi_kinds.specs.ValidPlan.{HasPlanVlans, IsValidPlan, IsWithin}
use Rattle.hist_store.specs.Rows.{Row}
use Rattle.hist_store.specs.TextOfLines.{lines_text}
use Rattle.hist_store.specs.declared.version.Version.{Version}
use Rattle.hist_store.specs.declared.version.Version.TheVariants.{One, Two}
use Rattle.hist_store.specs.JournalTexts.{Segment, StandsFor, address_text, header_lines, journal_port_fields, journal_text_of, limit_lines, prefix_fields, segments_lines, time_lines, word_lines}
use Rattle.savi_access.specs.Probes.{HasChanged}
use Rattle.savi_access.specs.Rules.{AccessRules}
use Rattle.savi_access.specs.Marks.{Mark, told}
use Rattle.savi_access.specs.Plans.{rules_of}
use Rattle.checkpoint.specs.Bases.{Base, access_of}
use Rattle.checkpoint.specs.BaseLines.{base_lines}
use Rattle.savi_history.specs.Passes.{has_pass, pass_of, has_ended, AllEnded}
use Rattle.savi_history.specs.Moments.{last_moment, moment_at}
use Rattle.savi_history.specs.Marks.{marks}
use Rattle.savi_history.specs.Events.{Event, Frame, Long, Command, Tick, Drain, End}
use Rattle.savi_history.specs.Queues.{Item}
use Rattle.savi_history.specs.Legal.{IsOpen, InputsEnded, HasNothingToSend, IsFinished, IsLegal, MayArrive, MayTick, MayEnd, MayCome}
use Rattle.savi_history.specs.Journals.{without_names, without_port_names}
use Rattle.savi_segments.specs.Checkpoints.{after}
use Rattle.savi_segments.specs.Segments.{AreLegal, HasClosed, HasTurned, HaveTurned, IsWholeSession, base_after, joined as all_rows}
use Rattle.savi_segments.specs.Journals.{journal_segments}
use Rattle.savi_segments.proofs.SameNames.{after_same, base_lines_same}
use Rattle.savi_history.proofs.WithoutNames.{numbers_kept, count_kept, rules_kept, marks_kept, queue_kept, row_kept, vlans_kept}
use Rattle.journal_check.specs.Headers.{LineFields}
use Rattle.journal_check.specs.Laws.{JournalsLackNames, WrittenIsGood}
use Rattle.journal_check.proofs.GoodJournals.{journal_is_good}

-- what may come

module _ (plan : Plan) (base : Base) (past : List Row) where
  abbrev bare : Plan
  bare = without_names plan

  pass_kept : (who : Who) → pass_of bare who ≡ pass_of plan who
  pass_kept who = ap (λ (row : Row). row.entry.by) (row_kept plan base past (End who hows.End))

  port_kept : (number : ℕ) → list_any (λ n. n == number) (map (λ (p : PortPlan). number_of p.number) bare.ports) ≡ list_any (λ n. n == number) (map (λ (p : PortPlan). number_of p.number) plan.ports)
  port_kept number = ap (λ (numbers : List ℕ). list_any (λ n. n == number) numbers) (numbers_kept plan.ports)

  known_kept : (who : Who) → has_pass bare who ≡ has_pass plan who
  known_kept (Ingress port) = port_kept (number_of port)
  known_kept Control = refl
  known_kept Ticker = refl
  known_kept (Egress port) = port_kept (number_of port)

  open_kept : (who : Who) → IsOpen plan base past who → IsOpen bare base past who
  open_kept who is = record {
    known = known_kept who ∙ is.known;
    running = ap (λ (pass : ℕ). has_ended base pass past) (pass_kept who) ∙ is.running;
  }

  arrive_kept : (port : Port) (stamp : ℕ) → MayArrive plan base past port stamp → MayArrive bare base past port stamp
  arrive_kept port stamp may = record { open_pass = open_kept (Ingress port) may.open_pass; room = may.room; fits = may.fits }

  tick_kept : (stamp : ℕ) → MayTick plan base past stamp → MayTick bare base past stamp
  tick_kept stamp may =
      let at = last_moment base past in
      let moment = moment_at base past stamp in
      let addresses = (access_of base).addresses in
      record {
        open_pass = open_kept Ticker may.open_pass;
        room = may.room;
        fits = may.fits;
        changed = (
          may.changed.0,
          subst (λ (r : AccessRules). HasChanged r.addresses addresses (told (marks bare base past)) at moment may.changed.0) (sym (rules_kept plan))
              (subst (λ (all : List Mark). HasChanged (rules_of plan).addresses addresses (told all) at moment may.changed.0) (sym (marks_kept plan base past)) may.changed.1),
        );
      }

  inputs_kept : InputsEnded plan base past → InputsEnded bare base past
  inputs_kept all = subst (λ (n : ℕ). AllEnded base (n + 1) past) (sym (count_kept plan.ports)) all

  quiet_kept : (number : ℕ) → HasNothingToSend plan base past number → HasNothingToSend bare base past number
  quiet_kept number quiet = (
    subst (λ (n : ℕ). AllEnded base (n + 1 + 1) past) (sym (count_kept plan.ports)) quiet.0,
    queue_kept plan base number past ∙ quiet.1,
  )

  end_kept : (who : Who) (how : How) → MayEnd plan base past who how → MayEnd bare base past who how
  end_kept (Ingress port) hows.End may = may
  end_kept (Ingress port) hows.Quit may = may
  end_kept (Ingress port) (hows.Malformed at) may = may
  end_kept (Ingress port) (hows.Overlong at) may = may
  end_kept (Ingress port) hows.Failed may = may
  end_kept (Ingress port) hows.Unwritten may = may
  end_kept (Ingress port) hows.Paused may = may
  end_kept Control hows.End may = may
  end_kept Control hows.Quit may = may
  end_kept Control (hows.Malformed at) may = may
  end_kept Control (hows.Overlong at) may = may
  end_kept Control hows.Failed may = may
  end_kept Control hows.Unwritten may = may
  end_kept Control hows.Paused may = may
  end_kept Ticker hows.End may = (inputs_kept may.0, may.1)
  end_kept Ticker hows.Quit may = may
  end_kept Ticker (hows.Malformed at) may = may
  end_kept Ticker (hows.Overlong at) may = may
  end_kept Ticker hows.Failed may = may
  end_kept Ticker hows.Unwritten may = may
  end_kept Ticker hows.Paused may = (inputs_kept may.0, may.1)
  end_kept (Egress port) hows.End may = (quiet_kept (number_of port) may.0, may.1)
  end_kept (Egress port) hows.Quit may = may
  end_kept (Egress port) (hows.Malformed at) may = may
  end_kept (Egress port) (hows.Overlong at) may = may
  end_kept (Egress port) hows.Failed may = may
  end_kept (Egress port) hows.Unwritten may = may
  end_kept (Egress port) hows.Paused may = (quiet_kept (number_of port) may.0, may.1)

  may_kept : (event : Event) → MayCome plan base past event → MayCome bare base past event
  may_kept (Frame port stamp octets) may = (arrive_kept port stamp may.0, may.1)
  may_kept (Long port stamp len) may = (arrive_kept port stamp may.0, may.1, may.2)
  may_kept (Command stamp line) may = (record { open_pass = open_kept Control may.0.open_pass; room = may.0.room; fits = may.0.fits }, may.1)
  may_kept (Tick stamp) may = tick_kept stamp may
  may_kept (Drain port count) may = (
    open_kept (Egress port) may.0,
    may.1,
    subst (λ (items : List Item). count ≤ length items) (sym (queue_kept plan base (number_of port) past)) may.2,
  )
  may_kept (End who how) may = (open_kept who may.0, end_kept who how may.1)

legal_kept : (plan : Plan) (base : Base) (past : List Row) → IsLegal plan base past → IsLegal (without_names plan) base past
legal_kept plan base [] legal = tt
legal_kept plan base (row ∷ past) legal =
    let stands = legal.0 in (
      (stands.0, may_kept plan base past stands.0 stands.1, stands.2 ∙ sym (row_kept plan base past stands.0)),
      legal_kept plan base past legal.1,
    )

finished_kept : (plan : Plan) (base : Base) (past : List Row) → IsFinished plan base past → IsFinished (without_names plan) base past
finished_kept plan base past finished = subst (λ (n : ℕ). AllEnded base (2 * n + 2) past) (sym (count_kept plan.ports)) finished

-- what the header says

has_kept : (ports : List PortPlan) → All HasPlanVlans ports → All HasPlanVlans (map without_port_names ports)
has_kept [] has = All-nil HasPlanVlans
has_kept (p ∷ ports) has =
    let first = All-head HasPlanVlans p ports has in
    All-cons HasPlanVlans (without_port_names p) (map without_port_names ports)
    (record { numbers = first.numbers; some = first.some; rising = first.rising; trusted = first.trusted })
    (has_kept ports (All-tail HasPlanVlans p ports has))

valid_kept : (plan : Plan) → IsValidPlan plan → IsValidPlan (without_names plan)
valid_kept plan valid = record {
  unicast = valid.unicast;
  per_port = valid.per_port;
  depth = valid.depth;
  entries = valid.entries;
  bytes = valid.bytes;
  gap = valid.gap;
  test = valid.test;
  gap_first = valid.gap_first;
  life = valid.life;
  port_count = subst (IsWithin 1 16) (sym (count_kept plan.ports)) valid.port_count;
  ports = subst IsStrictlyIncreasing (sym (numbers_kept plan.ports)) valid.ports;
  port_vlans = has_kept plan.ports valid.port_vlans;
  vlan_count = subst (λ (vlans : List ℕ). length vlans ≤ 8) (sym (vlans_kept plan)) valid.vlan_count;
  prefix_count = valid.prefix_count;
  plan_prefixes = valid.plan_prefixes;
  prefix_vlans = valid.prefix_vlans;
  prefixes = valid.prefixes;
}

port_lines_kept : (ports : List PortPlan) → map journal_port_fields (map without_port_names ports) ≡ map journal_port_fields ports
port_lines_kept [] = refl
port_lines_kept (p ∷ ports) = ap (λ (lines : List LineFields). journal_port_fields p ∷ lines) (port_lines_kept ports)

header_kept : (version : Version) (plan : Plan) → header_lines version address_text (without_names plan) ≡ header_lines version address_text plan
header_kept version plan =
    ap (λ (lines : List LineFields). word_lines version plan ++ limit_lines plan ++ time_lines plan ++ lines ++ map (prefix_fields address_text) plan.prefixes) (port_lines_kept plan.ports)

nameless_twice : (ports : List PortPlan) → map without_port_names (map without_port_names ports) ≡ map without_port_names ports
nameless_twice [] = refl
nameless_twice (p ∷ ports) = ap (λ (ps : List PortPlan). without_port_names p ∷ ps) (nameless_twice ports)

bare_twice : (plan : Plan) → without_names (without_names plan) ≡ without_names plan
bare_twice plan = ap (λ (ps : List PortPlan). record (without_names plan) { ports = ps }) (nameless_twice plan.ports)

-- segments

module _ (plan : Plan) where
  abbrev bare_plan : Plan
  bare_plan = without_names plan

  base_kept : (segments : List (List Row)) → base_after bare_plan segments ≡ base_after plan segments
  base_kept [] = refl
  base_kept (segment ∷ before) =
      ap (λ (base : Base). after bare_plan base segment) (base_kept before) ∙ after_same bare_plan plan (bare_twice plan) (base_after plan before) segment

  lines_kept : (segments : List (List Row)) → base_lines bare_plan (base_after bare_plan segments) ≡ base_lines plan (base_after plan segments)
  lines_kept segments = ap (base_lines bare_plan) (base_kept segments) ∙ base_lines_same bare_plan plan (bare_twice plan) (base_after plan segments)

  segments_kept : (segments : List (List Row)) → journal_segments bare_plan segments ≡ journal_segments plan segments
  segments_kept [] = refl
  segments_kept (segment ∷ before) =
      ap₂ (λ (told : List Segment) (lines : List LineFields). told ++ record { base_lines = lines; rows = reverse segment } ∷ []) (segments_kept before) (lines_kept before)

  legal_all : (segments : List (List Row)) → AreLegal plan segments → AreLegal bare_plan segments
  legal_all [] legal = tt
  legal_all (segment ∷ before) legal = (
    subst (λ (base : Base). IsLegal bare_plan base segment) (sym (base_kept before)) (legal_kept plan (base_after plan before) segment legal.0),
    legal.1,
    legal_all before legal.2,
  )

  finished_all : (segment : List Row) (before : List (List Row)) → IsFinished plan (base_after plan before) segment → IsFinished bare_plan (base_after bare_plan before) segment
  finished_all segment before finished =
      subst (λ (base : Base). IsFinished bare_plan base segment) (sym (base_kept before)) (finished_kept plan (base_after plan before) segment finished)

  turned_one : (segments : List (List Row)) → HasTurned plan segments → HasTurned bare_plan segments
  turned_one [] turned = tt
  turned_one (segment ∷ before) turned = (finished_all segment before turned.0, turned.1)

  turned_all : (segments : List (List Row)) → HaveTurned plan segments → HaveTurned bare_plan segments
  turned_all [] turned = tt
  turned_all (segment ∷ before) turned = (turned_one before turned.0, turned_all before turned.1)

  closed_kept : (segments : List (List Row)) → HasClosed plan segments → HasClosed bare_plan segments
  closed_kept [] closed = closed
  closed_kept (segment ∷ before) closed = (finished_all segment before closed.0, closed.1)

  session_kept : (segments : List (List Row)) → IsWholeSession plan segments → IsWholeSession bare_plan segments
  session_kept segments session =
      record { legal = legal_all segments session.legal; turned = turned_all segments session.turned; closed = closed_kept segments session.closed }

  journal_kept : (version : Version) (segments : List (List Row))
      → journal_text_of version address_text bare_plan (journal_segments bare_plan segments) ≡ journal_text_of version address_text plan (journal_segments plan segments)
  journal_kept version segments =
      ap₂ (λ (lines : List LineFields) (told : List Segment). lines_text (lines ++ segments_lines told)) (header_kept version plan) (segments_kept segments)

  stands_kept : (segments : List (List Row)) (octets : List ℕ) → StandsFor address_text plan (journal_segments plan segments) octets → StandsFor address_text bare_plan (journal_segments bare_plan segments) octets
  stands_kept segments octets (inl two) = inl (two ∙ sym (journal_kept Two segments))
  stands_kept segments octets (inr one) = inr (ap (λ (told : List Segment). length told) (segments_kept segments) ∙ one.0, one.1 ∙ sym (journal_kept One segments))

pub journals_lack_names : JournalsLackNames
journals_lack_names plan segments octets is = record {
  valid = valid_kept plan is.valid;
  addresses = is.addresses;
  some = is.some;
  legal = legal_all plan segments is.legal;
  journal = stands_kept plan segments octets is.journal;
}

pub written_is_good : WrittenIsGood
written_is_good plan segments octets six is session within =
    let bare_journal = journals_lack_names plan segments octets is in
    journal_is_good octets (length (all_rows segments)) (record {
      plan = without_names plan;
      segments = segments;
      plan_is = record {
        valid = bare_journal.valid;
        mac = six;
        addresses = bare_journal.addresses;
        nameless = bare_twice plan;
      };
      journal = bare_journal;
      session = session_kept plan segments session;
      count = refl;
      within = within;
    })
