-- A legal history comes to few entries: its inputs and the states that it began with pay for all that follows from them.
use Rattle.std.proofs.Common.{◌≡◌, ◌≢◌, ℕ, suc, ◌+◌, ◌*◌, ◌<◌, ◌≤◌, ◌==◌, ◌||◌, Bool, true, false, if◌then◌else◌, Option, Some, None, List, [], ◌∷◌, ◌++◌, drop, map, filter, length, length-append, refl, sym, ap, ◌∙◌, subst, inl, inr, arith, sum_by}
use Rattle.std.specs.List.{list_any}
use Rattle.std.proofs.Math.Path.{fun_ext}
use Rattle.std.proofs.Math.Nat.{suc-mul, mul-le-mul_right}
use Rattle.std.proofs.lemmas.Bool.{cases_Bool, cond-true, cond-false, false≢true, eqb-true, eq-eqb, ne_eqb}
use Rattle.std.proofs.lemmas.List.{length-map, length-drop}
use Rattle.std.proofs.lemmas.List.Sums.{length-filter, count_by-le-length, sum_by-cons}
use Rattle.savi_kinds.specs.declared.plan.Plan.{Plan}
use Rattle.savi_kinds.specs.declared.plan.PortPlan.{PortPlan}
use Rattle.savi_kinds.specs.declared.port.Port.{Port}
use Rattle.savi_kinds.specs.declared.entry.Act.{Act}
use Rattle.savi_kinds.specs.declared.entry.Act.TheVariants as acts
use Rattle.savi_kinds.specs.declared.entry.Who.{Who}
use Rattle.savi_kinds.specs.declared.entry.Who.TheVariants as passes
use Rattle.savi_kinds.specs.declared.entry.How.{How}
use Rattle.savi_kinds.specs.Ports.{number_of}
use Rattle.savi_kinds.specs.PortSets.{is_member}
use Rattle.savi_kinds.specs.ValidPlan.{numbers_of}
use Rattle.savi_kinds.specs.Vlans.{vlans_of}
use Rattle.savi_kinds.proofs.VlanSets.{vlans_rise}
use Rattle.cli_lang.specs.CommandOf.{command_of}
use Rattle.eth_frame.specs.Tags.{inner}
use Rattle.eth_frame.proofs.Untagged.{inner_short}
use Rattle.frame_class.specs.ClassOf.{class_of}
use Rattle.fcfs_states.specs.Premises.{AreTimes}
use Rattle.hist_store.specs.Rows.{Row}
use Rattle.savi_access.specs.declared.row.Row.{Row as AddrRow}
use Rattle.savi_access.specs.declared.sent.SentProbe.{SentProbe}
use Rattle.savi_access.specs.Ages.{aged_rows}
use Rattle.savi_access.specs.Sends.{all_sends}
use Rattle.savi_access.specs.Bases.{AddrRules, AreTables}
use Rattle.savi_access.specs.Keeps.{IsWithinRules}
use Rattle.savi_access.specs.Limits.{IsAddrBase}
use Rattle.savi_access.specs.Tables.{rows_after, rows_at}
use Rattle.savi_access.specs.Marks.{told}
use Rattle.savi_access.specs.Plans.{rules_of}
use Rattle.savi_access.proofs.AllSends.{sends-late}
use Rattle.savi_access.proofs.Orders.{order-length}
use Rattle.savi_access.proofs.TablesOf.{table_at, rows-later, changes}
use Rattle.checkpoint.specs.Bases.{Base, access_of}
use Rattle.checkpoint.specs.BaseLines.{has_vlan}
use Rattle.savi_history.specs.Vlans.{vlan_of_frame}
use Rattle.savi_history.specs.Moments.{last_moment, moment_at}
use Rattle.savi_history.specs.Limits.{IsWithinLimits}
use Rattle.savi_history.specs.Passes.{pass_count, has_pass}
use Rattle.savi_history.specs.ShutPorts.{is_shut}
use Rattle.savi_history.specs.Marks.{marks}
use Rattle.savi_history.specs.Ticks.{HasChangedBy}
use Rattle.savi_history.specs.Offers.{Offer, offer_of, offers, due_by, due_in, in_answer}
use Rattle.savi_history.specs.Queues.{Item, item_of, probe_item, is_probed, offered_at, room_at, joined_queue, probed, queue, over_ports}
use Rattle.savi_history.specs.Judged.{judged_of}
use Rattle.savi_history.specs.Legal.{IsLegal, Stands, MayCome}
use Rattle.savi_history.specs.Events.{Event, Frame, Long, Command, Tick, Drain, End, row_of, frame_act, command_act}
use Rattle.savi_history.proofs.Joining.{joined_few}
use Rattle.savi_history.proofs.Depth.{length_dropped, ended_fewer}
use Rattle.savi_segments.proofs.Ascending.{AreFrom, increasing_from}
use Rattle.savi_segments.proofs.Elsewhere.{after_elsewhere}
use Rattle.savi_segments.proofs.MergedLengths.{all_length}
use Rattle.savi_laws.specs.Budgets.{input_count, standing, causes, entries_most}
use Rattle.savi_laws.proofs.FewEnds.{ends, open_below, few_ends}
use Rattle.savi_laws.proofs.FewLeases.{few_leases}
use Rattle.savi_laws.proofs.FrameWeight.{added, judged_weight, command_weight}
use Rattle.savi_laws.proofs.Weights.{weight, weight_most, rows-weight, same_or_less}

-- sums over ports
no_items : (qs : List ℕ) → over_ports qs (λ q. 0) ≡ 0
no_items [] = refl
no_items (q ∷ qs) = omega (arith, no_items qs)

more_step : (a b c x y m n : ℕ) → a ≤ b + c → x ≤ y + m → n ≡ m + c → a + x ≤ b + y + n
more_step a b c x y m n first rest total = omega (arith, first, rest, total)

over_more : (qs : List ℕ) (now before : ℕ → ℕ) (c : ℕ) → ((q : ℕ) → now q ≤ before q + c) → over_ports qs now ≤ over_ports qs before + length qs * c
over_more [] now before c more = omega arith
over_more (q ∷ qs) now before c more =
    more_step (now q) (before q) c (over_ports qs now) (over_ports qs before) (length qs * c) (suc (length qs) * c) (more q) (over_more qs now before c more) (suc-mul (length qs) c)

over_low : (qs : List ℕ) (now before : ℕ → ℕ) → ((q : ℕ) → now q ≤ before q) → over_ports qs now ≤ over_ports qs before
over_low [] now before low = omega arith
over_low (q ∷ qs) now before low = omega (arith, low q, over_low qs now before low)

over_less : (qs : List ℕ) (now before : ℕ → ℕ) → ((q : ℕ) → now q ≤ before q) → (x : ℕ) → now x < before x → list_any (λ n. n == x) qs ≡ true → over_ports qs now < over_ports qs before
over_less [] now before low x less is = absurd (false≢true is)
over_less (q ∷ qs) now before low x less is = at_first (λ later. over_less qs now before low x less later) (q == x) refl is
  where
    at_first : (list_any (λ n. n == x) qs ≡ true → over_ports qs now < over_ports qs before) → (b : Bool) → (q == x) ≡ b → (b || list_any (λ n. n == x) qs) ≡ true
        → over_ports (q ∷ qs) now < over_ports (q ∷ qs) before
    at_first rest true here any =
        let one : now q < before q = subst (λ (n : ℕ). now n < before n) (sym (eqb-true q x here)) less in
        omega (arith, one, over_low qs now before low)
    at_first rest false other later = omega (arith, low q, rest later)

over_with : (qs : List ℕ) (now before more : ℕ → ℕ) → ((q : ℕ) → now q ≤ before q + more q) → over_ports qs now ≤ over_ports qs before + over_ports qs more
over_with [] now before more low = omega arith
over_with (q ∷ qs) now before more low = omega (arith, low q, over_with qs now before more low)

-- what a frame adds in all, where no VLAN comes twice

none_added : (v from : ℕ) (vs : List ℕ) → AreFrom from vs → v < from → over_ports vs (added (Some v)) ≡ 0
none_added v from [] are low = refl
none_added v from (u ∷ vs) are low =
    let here : added (Some v) u ≡ 0 = cond-false (v == u) 170 0 (ne_eqb v u (λ same. absurd (omega (arith, are.0, low, same)))) in
    omega (arith, here, none_added v (u + 1) vs are.1 (omega (arith, are.0, low)))

added_once : (v from : ℕ) (vs : List ℕ) → AreFrom from vs → over_ports vs (added (Some v)) ≤ 170
added_once v from [] are = omega arith
added_once v from (u ∷ vs) are =
    elim (cases_Bool (v == u)) [
      | inl same ↦
          let here : added (Some v) u ≡ 170 = cond-true (v == u) 170 0 same in
          omega (arith, here, none_added v (u + 1) vs are.1 (omega (arith, eqb-true v u same)))
      | inr other ↦
          let here : added (Some v) u ≡ 0 = cond-false (v == u) 170 0 other in
          omega (arith, here, added_once v (u + 1) vs are.1)
    ]

added_most : (own : Option ℕ) (vs : List ℕ) → AreFrom 0 vs → over_ports vs (added own) ≤ 170
added_most (Some v) vs are = added_once v 0 vs are
added_most None vs are = let none : over_ports vs (added None) ≡ 0 = no_items vs in omega (arith, none)

-- the weight of all VLANs, by how many addresses they have
weights_most : (rows : ℕ → List AddrRow) (vs : List ℕ) → over_ports vs (λ v. weight (rows v)) ≤ 86 * sum_by (λ v. length (rows v)) vs
weights_most rows [] = omega arith
weights_most rows (v ∷ vs) = omega (arith, weight_most (rows v), weights_most rows vs, sum_by-cons (λ (u : ℕ). length (rows u)) v vs)

-- sums of the potential: entries, weight, what waits; ends and inputs
start_step : (w y : ℕ) → w ≤ y → 0 + (w + 0) ≤ 0 + 256 * 0 + y
start_step w y low = omega (arith, low)

frame_step : (l w q e i b d now after waits : ℕ) → l + (w + q) ≤ e + 256 * i + b → now + 16 * d ≤ w → after ≤ now + 170 → waits ≤ q + 16 * (d + 2) → suc l + (after + waits) ≤ e + 256 * suc i + b
frame_step l w q e i b d now after waits fits aged more queued = omega (arith, fits, aged, more, queued)

input_step : (l w q e i b d now after waits : ℕ) → l + (w + q) ≤ e + 256 * i + b → now + 16 * d ≤ w → after ≤ now → waits ≤ q + 16 * d → suc l + (after + waits) ≤ e + 256 * suc i + b
input_step l w q e i b d now after waits fits aged more queued = omega (arith, fits, aged, more, queued)

tick_step : (l w q e i b d now waits : ℕ) → l + (w + q) ≤ e + 256 * i + b → now + 16 * d < w → waits ≤ q + 16 * d → suc l + (now + waits) ≤ e + 256 * i + b
tick_step l w q e i b d now waits fits aged queued = omega (arith, fits, aged, queued)

drain_step : (l w q e i b now waits : ℕ) → l + (w + q) ≤ e + 256 * i + b → now ≤ w → waits < q → suc l + (now + waits) ≤ e + 256 * i + b
drain_step l w q e i b now waits fits same fewer = omega (arith, fits, same, fewer)

end_step : (l w q e i b now waits : ℕ) → l + (w + q) ≤ e + 256 * i + b → now ≤ w → waits ≤ q → suc l + (now + waits) ≤ suc e + 256 * i + b
end_step l w q e i b now waits fits same fewer = omega (arith, fits, same, fewer)

in_all : (l w e i b n left rows : ℕ) → l + w ≤ e + 256 * i + b → e + left ≤ 2 * n + 2 → n ≤ 16 → b ≤ 86 * rows → l + left ≤ 34 + 256 * (i + rows)
in_all l w e i b n left rows fits few ports most = omega (arith, fits, few, ports, most)

module _ (plan : Plan) (base : Base) where
  offered_few : (past : List Row) (act : Act) (octets : List ℕ) (q : ℕ) → length (offered_at plan base past act octets q) ≤ length (offers plan base past act octets)
  offered_few past act octets q =
      let here : Offer → Bool = is_probed plan base past q in
      omega (
        arith,
        length-map (filter here (offers plan base past act octets)) (probe_item plan q),
        length-filter here (offers plan base past act octets),
        count_by-le-length here (offers plan base past act octets),
      )

  probed_few : (past : List Row) (act : Act) (octets : List ℕ) (q : ℕ) (waiting : List Item) → length (probed plan base past act octets q waiting) ≤ length waiting + length (offers plan base past act octets)
  probed_few past act octets q waiting =
      omega (arith, joined_few (room_at plan base past q) waiting (offered_at plan base past act octets q), offered_few past act octets q)

  framed_if : (b : Bool) (room : ℕ) (item : Item) (waiting : List Item) → length (if b then joined_queue room waiting item else waiting) ≤ length waiting + 1
  framed_if true room item waiting = omega (arith, joined_few room waiting (item ∷ []))
  framed_if false room item waiting = omega arith

  abbrev waiting_at : List Row → ℕ → ℕ
  waiting_at past q = length (queue plan base q past)

  -- all that waits
  abbrev waiting : List Row → ℕ
  waiting past = over_ports (numbers_of plan.ports) (waiting_at past)

  -- the states of a VLAN at t
  abbrev rows_by_then : List Row → ℕ → ℕ → List AddrRow
  rows_by_then past t vlan = rows_at (rules_of plan).addresses (access_of base).addresses (told (marks plan base past)) t vlan

  -- the weight of all VLANs
  abbrev weight_at : List Row → ℕ → ℕ
  weight_at past t = over_ports (vlans_of plan) (λ vlan. weight (rows_by_then past t vlan))

  -- that of the first states
  abbrev first_weight : ℕ
  first_weight = over_ports (vlans_of plan) (λ vlan. weight (base.rows vlan))

  -- the entries, and what may still come of states and of what waits, are paid for by ends, inputs and the first states
  abbrev pub IsPaidFor : List Row → Type 0
  IsPaidFor past = length past + (weight_at past (last_moment base past) + waiting past) ≤ ends past + 256 * input_count past + first_weight

  in_answer_few : (past : List Row) (stamp : ℕ) (own : Option ℕ) (o : Option SentProbe) → length (due_by plan base past (moment_at base past stamp) ++ in_answer own o) ≤ length (due_by plan base past (moment_at base past stamp)) + 1
  in_answer_few past stamp None o = omega (arith, length-append (due_by plan base past (moment_at base past stamp)) [])
  in_answer_few past stamp (Some vlan) None = omega (arith, length-append (due_by plan base past (moment_at base past stamp)) [])
  in_answer_few past stamp (Some vlan) (Some sent) = omega (arith, length-append (due_by plan base past (moment_at base past stamp)) (offer_of vlan sent ∷ []))

  frame_offers : (past : List Row) (port : Port) (stamp : ℕ) (octets : List ℕ) → length (offers plan base past (frame_act past port stamp octets) octets) ≤ length (due_by plan base past (moment_at base past stamp)) + 1
  unfolding offers
  frame_offers past port stamp octets = in_answer_few past stamp (vlan_of_frame plan (number_of port) octets) (judged_of plan base past port stamp octets).probe

  long_offers : (past : List Row) (port : Port) (stamp len : ℕ) → length (offers plan base past (acts.Long port stamp len) []) ≡ length (due_by plan base past (moment_at base past stamp))
  unfolding offers
  long_offers past port stamp len = refl

  line_offers : (past : List Row) (stamp : ℕ) (line : List ℕ) → length (offers plan base past (command_act past stamp line) line) ≡ length (due_by plan base past (moment_at base past stamp))
  unfolding offers
  line_offers past stamp line = refl

  tick_offers : (past : List Row) (stamp : ℕ) → length (offers plan base past (acts.Tick stamp) []) ≡ length (due_by plan base past (moment_at base past stamp))
  unfolding offers
  tick_offers past stamp = refl

  module _ (few_ports : length plan.ports ≤ 16) where
    -- at 16 ports
    waiting_more : (past : List Row) (now : ℕ → ℕ) (c : ℕ) → ((q : ℕ) → now q ≤ waiting_at past q + c) → over_ports (numbers_of plan.ports) now ≤ waiting past + 16 * c
    waiting_more past now c more =
        let size : length (numbers_of plan.ports) ≡ length plan.ports = length-map plan.ports (λ (p : PortPlan). number_of p.number) in
        let few : length (numbers_of plan.ports) ≤ 16 = omega (arith, size, few_ports) in
        let all : length (numbers_of plan.ports) * c ≤ 16 * c = mul-le-mul_right c few in
        omega (arith, over_more (numbers_of plan.ports) now (waiting_at past) c more, all)

    frame_waits : (past : List Row) (port : Port) (stamp : ℕ) (octets : List ℕ) → waiting (row_of plan base past (Frame port stamp octets) ∷ past) ≤ waiting past + 16 * (length (due_by plan base past (moment_at base past stamp)) + 2)
    frame_waits past port stamp octets =
        let r : Row = row_of plan base past (Frame port stamp octets) in
        let act : Act = frame_act past port stamp octets in
        waiting_more past (waiting_at (r ∷ past)) (length (due_by plan base past (moment_at base past stamp)) + 2)
        (λ q. omega (
          arith,
          framed_if (is_member r.entry.outs q) (room_at plan base past q) (item_of plan q port r) (probed plan base past act octets q (queue plan base q past)),
          probed_few past act octets q (queue plan base q past),
          frame_offers past port stamp octets,
        ))

    long_waits : (past : List Row) (port : Port) (stamp len : ℕ) → waiting (row_of plan base past (Long port stamp len) ∷ past) ≤ waiting past + 16 * length (due_by plan base past (moment_at base past stamp))
    long_waits past port stamp len =
        waiting_more past (waiting_at (row_of plan base past (Long port stamp len) ∷ past)) (length (due_by plan base past (moment_at base past stamp)))
        (λ q. omega (arith, probed_few past (acts.Long port stamp len) [] q (queue plan base q past), long_offers past port stamp len))

    line_waits : (past : List Row) (stamp : ℕ) (line : List ℕ) → waiting (row_of plan base past (Command stamp line) ∷ past) ≤ waiting past + 16 * length (due_by plan base past (moment_at base past stamp))
    line_waits past stamp line =
        waiting_more past (waiting_at (row_of plan base past (Command stamp line) ∷ past)) (length (due_by plan base past (moment_at base past stamp)))
        (λ q. omega (arith, probed_few past (command_act past stamp line) line q (queue plan base q past), line_offers past stamp line))

    tick_waits : (past : List Row) (stamp : ℕ) → waiting (row_of plan base past (Tick stamp) ∷ past) ≤ waiting past + 16 * length (due_by plan base past (moment_at base past stamp))
    tick_waits past stamp =
        waiting_more past (waiting_at (row_of plan base past (Tick stamp) ∷ past)) (length (due_by plan base past (moment_at base past stamp)))
        (λ q. omega (arith, probed_few past (acts.Tick stamp) [] q (queue plan base q past), tick_offers past stamp))

  drained_less : (b : Bool) (count : ℕ) (items : List Item) → b ≡ true → 1 ≤ count → count ≤ length items → length (if b then drop count items else items) < length items
  drained_less true count items is some low = omega (arith, some, low, length-drop count items)
  drained_less false count items is some low = absurd (false≢true is)

  drain_waits : (past : List Row) (port : Port) (count : ℕ) → has_pass plan (passes.Egress port) ≡ true → 1 ≤ count → count ≤ length (queue plan base (number_of port) past)
      → waiting (row_of plan base past (Drain port count) ∷ past) < waiting past
  drain_waits past port count known some low =
      over_less (numbers_of plan.ports) (waiting_at (row_of plan base past (Drain port count) ∷ past)) (waiting_at past)
      (λ q. length_dropped (number_of port == q) count (queue plan base q past)) (number_of port)
      (drained_less (number_of port == number_of port) count (queue plan base (number_of port) past) (eq-eqb (number_of port) (number_of port) refl) some low) known

  end_waits : (past : List Row) (who : Who) (how : How) → waiting (row_of plan base past (End who how) ∷ past) ≤ waiting past
  end_waits past who how =
      over_low (numbers_of plan.ports) (waiting_at (row_of plan base past (End who how) ∷ past)) (waiting_at past)
      (λ q. ended_fewer plan base past q (row_of plan base past (End who how)) who how (queue plan base q past))

module _ (plan : Plan) (base : Base) (few_ports : length plan.ports ≤ 16) (within : IsWithinLimits plan base) where
  abbrev rules : AddrRules
  rules = (rules_of plan).addresses

  first_rows : IsAddrBase rules (access_of base).addresses
  first_rows = within.access.addresses

  times : AreTimes rules.times
  times = let kept : IsWithinRules rules.times rules.per_port (base.rows 1) = first_rows.kept 1 in kept.times

  tables : AreTables (access_of base).addresses
  tables vlan = let kept : IsWithinRules rules.times rules.per_port (base.rows vlan) = first_rows.kept vlan in kept.table

  vlans_from : AreFrom 0 (vlans_of plan)
  vlans_from = increasing_from 0 (vlans_of plan) (vlans_rise plan.ports) (λ some. omega arith)

  module _ (past : List Row) (t : ℕ) (later : last_moment base past ≤ t) where
    abbrev last_rows : ℕ → List AddrRow
    last_rows vlan = rows_by_then plan base past (last_moment base past) vlan

    rows_later : (vlan : ℕ) → rows_by_then plan base past t vlan ≡ aged_rows rules.times t (last_rows vlan)
    rows_later vlan = rows-later rules (access_of base).addresses tables times (told (marks plan base past)) (last_moment base past) t vlan later

    due_sends : (vlan : ℕ) → length (due_in plan base past t vlan) ≡ length (all_sends rules.times t (last_rows vlan))
    due_sends vlan =
        ap (λ (sent : List SentProbe). length sent) (sends-late rules.times times (last_moment base past) t (rows_after rules (access_of base).addresses (told (marks plan base past)) vlan) later)
        ∙ order-length (all_sends rules.times t (last_rows vlan))

    -- the weight of a VLAN and its probes
    abbrev spent : ℕ → ℕ
    spent vlan = weight (rows_by_then plan base past t vlan) + 16 * length (due_in plan base past t vlan)

    abbrev had : ℕ → ℕ
    had vlan = weight (last_rows vlan)

    aged_in : (vlan : ℕ) → spent vlan ≤ had vlan
    aged_in vlan = omega (arith, ap weight (rows_later vlan), due_sends vlan, rows-weight rules.times times t (last_rows vlan))

    -- all probes are those of each VLAN
    spent_over : (vs : List ℕ) → over_ports vs spent ≡ over_ports vs (λ vlan. weight (rows_by_then plan base past t vlan)) + 16 * over_ports vs (λ vlan. length (due_in plan base past t vlan))
    spent_over [] = refl
    spent_over (v ∷ vs) = omega (arith, spent_over vs)

    due_over : length (due_by plan base past t) ≡ over_ports (vlans_of plan) (λ vlan. length (due_in plan base past t vlan))
    due_over =
        all_length (λ (offer : Offer). offer.due) (λ vlan. map (offer_of vlan) (due_in plan base past t vlan)) (vlans_of plan)
        ∙ ap (over_ports (vlans_of plan)) (fun_ext (λ vlan. length-map (due_in plan base past t vlan) (offer_of vlan)))

    -- ageing pays for its probes
    aged_weight : weight_at plan base past t + 16 * length (due_by plan base past t) ≤ weight_at plan base past (last_moment base past)
    aged_weight = omega (arith, spent_over (vlans_of plan), due_over, over_low (vlans_of plan) spent had aged_in)

    -- what has changed is of a VLAN that the plan has
    changed_there : (vlan : ℕ) → rows_by_then plan base past t vlan ≢ last_rows vlan → has_vlan plan vlan ≡ true
    changed_there vlan changed =
        elim (cases_Bool (has_vlan plan vlan)) [
          | inl there ↦ there
          | inr missing ↦
              let none : last_rows vlan ≡ [] = (after_elsewhere plan base within.elsewhere past).rows vlan missing in
              absurd (changed (rows_later vlan ∙ ap (λ (rows : List AddrRow). aged_rows rules.times t rows) none ∙ sym none))
        ]

    -- and for a tick
    ticked_weight : HasChangedBy plan base past t → weight_at plan base past t + 16 * length (due_by plan base past t) < weight_at plan base past (last_moment base past)
    ticked_weight changed =
        let vlan : ℕ = changed.0 in
        let other : rows_by_then plan base past t vlan ≢ last_rows vlan = (changes rules (access_of base).addresses tables times (told (marks plan base past)) (last_moment base past) t vlan later).0 changed.1 in
        elim (same_or_less rules.times times t (last_rows vlan) (table_at rules (access_of base).addresses tables (told (marks plan base past)) (last_moment base past) vlan).stand) [
          | inl same ↦ absurd (other (rows_later vlan ∙ same))
          | inr less ↦
              let one : spent vlan < had vlan = omega (arith, ap weight (rows_later vlan), due_sends vlan, less) in
              omega (arith, spent_over (vlans_of plan), due_over, over_less (vlans_of plan) spent had aged_in vlan one (changed_there vlan other))
        ]

  stamped : (past : List Row) (stamp : ℕ) → last_moment base past ≤ moment_at base past stamp
  stamped past stamp = omega arith

  paid_frame : (past : List Row) (port : Port) (stamp : ℕ) (octets : List ℕ) → length octets ≤ 1518 → IsPaidFor plan base past → IsPaidFor plan base (row_of plan base past (Frame port stamp octets) ∷ past)
  paid_frame past port stamp octets short paid =
      let t : ℕ = moment_at base past stamp in
      let own : Option ℕ = vlan_of_frame plan (number_of port) octets in
      let now : ℕ → ℕ = λ vlan. weight (rows_at rules (access_of base).addresses (told (judged_of plan base past port stamp octets).marks) t vlan) in
      let before : ℕ → ℕ = λ vlan. weight (rows_by_then plan base past t vlan) in
      let each : (vlan : ℕ) → now vlan ≤ before vlan + added own vlan =
      judged_weight (rules_of plan) (access_of base) times tables port t (marks plan base past) (length (inner octets)) (omega (arith, inner_short octets, short)) (class_of (inner octets)) (few_leases (inner octets)) (is_shut plan base (number_of port) past) own in
      let more : over_ports (vlans_of plan) now ≤ weight_at plan base past t + 170 =
      omega (arith, over_with (vlans_of plan) now before (added own) each, added_most own (vlans_of plan) vlans_from) in
      frame_step (length past) (weight_at plan base past (last_moment base past)) (waiting plan base past) (ends past) (input_count past) (first_weight plan base) (length (due_by plan base past t)) (weight_at plan base past t) (over_ports (vlans_of plan) now) (waiting plan base (row_of plan base past (Frame port stamp octets) ∷ past))
      paid (aged_weight past t (stamped past stamp)) more (frame_waits plan base few_ports past port stamp octets)

  paid_long : (past : List Row) (port : Port) (stamp len : ℕ) → IsPaidFor plan base past → IsPaidFor plan base (row_of plan base past (Long port stamp len) ∷ past)
  paid_long past port stamp len paid =
      let t : ℕ = moment_at base past stamp in
      input_step (length past) (weight_at plan base past (last_moment base past)) (waiting plan base past) (ends past) (input_count past) (first_weight plan base) (length (due_by plan base past t)) (weight_at plan base past t) (weight_at plan base past t) (waiting plan base (row_of plan base past (Long port stamp len) ∷ past))
      paid (aged_weight past t (stamped past stamp)) (omega arith) (long_waits plan base few_ports past port stamp len)

  paid_line : (past : List Row) (stamp : ℕ) (line : List ℕ) → IsPaidFor plan base past → IsPaidFor plan base (row_of plan base past (Command stamp line) ∷ past)
  paid_line past stamp line paid =
      let t : ℕ = moment_at base past stamp in
      let after : ℕ = weight_at plan base (row_of plan base past (Command stamp line) ∷ past) t in
      let more : after ≤ weight_at plan base past t =
      over_low (vlans_of plan) (λ vlan. weight (rows_by_then plan base (row_of plan base past (Command stamp line) ∷ past) t vlan)) (λ vlan. weight (rows_by_then plan base past t vlan))
      (λ vlan. command_weight plan (access_of base) times tables t (marks plan base past) vlan (command_of line)) in
      input_step (length past) (weight_at plan base past (last_moment base past)) (waiting plan base past) (ends past) (input_count past) (first_weight plan base) (length (due_by plan base past t)) (weight_at plan base past t) after (waiting plan base (row_of plan base past (Command stamp line) ∷ past))
      paid (aged_weight past t (stamped past stamp)) more (line_waits plan base few_ports past stamp line)

  paid_tick : (past : List Row) (stamp : ℕ) → HasChangedBy plan base past (moment_at base past stamp) → IsPaidFor plan base past → IsPaidFor plan base (row_of plan base past (Tick stamp) ∷ past)
  paid_tick past stamp changed paid =
      let t : ℕ = moment_at base past stamp in
      tick_step (length past) (weight_at plan base past (last_moment base past)) (waiting plan base past) (ends past) (input_count past) (first_weight plan base) (length (due_by plan base past t)) (weight_at plan base past t) (waiting plan base (row_of plan base past (Tick stamp) ∷ past))
      paid (ticked_weight past t (stamped past stamp) changed) (tick_waits plan base few_ports past stamp)

  paid_drain : (past : List Row) (port : Port) (count : ℕ) → has_pass plan (passes.Egress port) ≡ true → 1 ≤ count → count ≤ length (queue plan base (number_of port) past)
      → IsPaidFor plan base past → IsPaidFor plan base (row_of plan base past (Drain port count) ∷ past)
  paid_drain past port count known some low paid =
      drain_step (length past) (weight_at plan base past (last_moment base past)) (waiting plan base past) (ends past) (input_count past) (first_weight plan base) (weight_at plan base past (last_moment base past)) (waiting plan base (row_of plan base past (Drain port count) ∷ past))
      paid (omega arith) (drain_waits plan base past port count known some low)

  paid_end : (past : List Row) (who : Who) (how : How) → IsPaidFor plan base past → IsPaidFor plan base (row_of plan base past (End who how) ∷ past)
  paid_end past who how paid =
      end_step (length past) (weight_at plan base past (last_moment base past)) (waiting plan base past) (ends past) (input_count past) (first_weight plan base) (weight_at plan base past (last_moment base past)) (waiting plan base (row_of plan base past (End who how) ∷ past))
      paid (omega arith) (end_waits plan base past who how)

  paid_event : (past : List Row) (event : Event) → MayCome plan base past event → IsPaidFor plan base past → IsPaidFor plan base (row_of plan base past event ∷ past)
  paid_event past (Frame port stamp octets) may paid = paid_frame past port stamp octets may.1 paid
  paid_event past (Long port stamp len) may paid = paid_long past port stamp len paid
  paid_event past (Command stamp line) may paid = paid_line past stamp line paid
  paid_event past (Tick stamp) may paid = paid_tick past stamp may.changed paid
  paid_event past (Drain port count) may paid = paid_drain past port count may.0.known may.1 may.2 paid
  paid_event past (End who how) may paid = paid_end past who how paid

  -- the first states have what may come of them
  begun : (vlan : ℕ) → weight (rows_by_then plan base [] (last_moment base []) vlan) ≤ weight (base.rows vlan)
  begun vlan = let few = rows-weight rules.times times base.moment (base.rows vlan) in omega (arith, few)

  paid_start : IsPaidFor plan base []
  paid_start =
      let none : waiting plan base [] ≡ 0 = no_items (numbers_of plan.ports) in
      let low : weight_at plan base [] (last_moment base []) ≤ first_weight plan base =
      over_low (vlans_of plan) (λ vlan. weight (rows_by_then plan base [] (last_moment base []) vlan)) (λ vlan. weight (base.rows vlan)) begun in
      subst (λ (n : ℕ). 0 + (weight_at plan base [] (last_moment base []) + n) ≤ 0 + 256 * 0 + first_weight plan base) (sym none)
      (start_step (weight_at plan base [] (last_moment base [])) (first_weight plan base) low)

  paid : (past : List Row) → IsLegal plan base past → IsPaidFor plan base past
  paid [] legal = paid_start
  paid (r ∷ past) legal =
      let stands : Stands plan base past r = legal.0 in
      subst (λ (x : Row). IsPaidFor plan base (x ∷ past)) (sym stands.2) (paid_event past stands.0 stands.1 (paid past legal.1))

  -- the entries, and the passes that are open
  pub entries_few : (past : List Row) → IsLegal plan base past → length past + open_below base past (pass_count plan) ≤ entries_most (causes plan base past)
  entries_few past legal =
      in_all (length past) (weight_at plan base past (last_moment base past) + waiting plan base past) (ends past) (input_count past) (first_weight plan base) (length plan.ports) (open_below base past (pass_count plan)) (standing plan base)
      (paid past legal) (few_ends plan base past legal) few_ports (weights_most base.rows (vlans_of plan))
