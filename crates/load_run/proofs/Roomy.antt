-- For each input of a load there is room in the first segment, so that every end is an ordinary one.
use Rattle.std.proofs.Common.{◌≡◌, ◌≢◌, ℕ, zero, suc, ◌+◌, ◌*◌, ◌%◌, ◌<◌, ◌≤◌, ◌==◌, ◌&&◌, ◌||◌, nat_lt, nat_le, if◌then◌else◌, Bool, true, false, List, [], ◌∷◌, ◌++◌, length, map, filter, refl, sym, ap, ◌∙◌, subst, arith, append-nil, length-append, None, inl, inr}
use Rattle.std.specs.List.{range_with_len}
use Rattle.std.proofs.lemmas.Bool.{cases_eq}
use Rattle.std.proofs.lemmas.Bool.Decides.{nat_tests}
use Rattle.std.proofs.lemmas.List.{length-map}
use Rattle.std.proofs.lemmas.List.FromFn.{length-map-range_with_len}
use Rattle.savi_kinds.specs.declared.entry.Act.{Act}
use Rattle.savi_kinds.specs.declared.entry.Act.TheVariants as acts
use Rattle.savi_kinds.specs.declared.plan.Plan.{Plan}
use Rattle.savi_kinds.specs.declared.plan.PortPlan.{PortPlan}
use Rattle.savi_kinds.specs.declared.port.Port.{Port}
use Rattle.savi_kinds.specs.declared.entry.Who.TheVariants as passes
use Rattle.savi_kinds.specs.declared.entry.How.{How}
use Rattle.savi_kinds.specs.declared.entry.How.TheVariants as hows
use Rattle.savi_kinds.specs.Ports.{number_of}
use Rattle.savi_kinds.specs.Arrivals.{Arrival, Input}
use Rattle.savi_kinds.specs.Arrivals as arrivals
use Rattle.probe_write.proofs.ProbeReading.{length-probe}
use Rattle.pcap_io.specs.Captures.{Sent}
use Rattle.hist_store.specs.Rows.{Row, held}
use Rattle.load_gen.specs.Captures.{sent_at}
use Rattle.load_gen.specs.Draws.{draw}
use Rattle.load_gen.specs.Frames.{mac_of, host_address}
use Rattle.load_gen.specs.Inputs.{arrival_with}
use Rattle.load_gen.specs.Sendings.{Sending, claim, drawn_packet, sendings}
use Rattle.load_gen.proofs.Wholes.{length-data}
use Rattle.checkpoint.specs.Bases.{empty}
use Rattle.savi_history.specs.Endings.{has_pause, is_input, is_paused_input, is_paused_reason}
use Rattle.savi_history.specs.Events.{Drain, End}
use Rattle.savi_history.specs.Limits.{has_room}
use Rattle.savi_history.specs.Merges.{enter, merge, merged}
use Rattle.savi_history.specs.Passes.{pass_of, egress_pass, has_ended}
use Rattle.savi_history.specs.Queues.{queue}
use Rattle.savi_history.specs.Replay.{event_of, with_event, begun, with_drain, drained, closing, with_end, egress_ended, closed}
use Rattle.savi_history.specs.Turns.{Turn, Arrives, Commands, Ends, who_of, turn_at, turns, port_turns, all_turns}
use Rattle.savi_segments.specs.Replay.{Run, has_ended_in, all_closed, turned, entered_in, taken, taken_if_open, all_taken, run_begun}
use Rattle.savi_segments.specs.Segments.{joined}
use Rattle.load_run.specs.LoadHistory.{AreOrdinary, IsOrdinary, input_at, load_inputs, load_segments, no_stops}

-- frames of at most 100 octets, and then the end
abbrev IsLight : Arrival → Type 0
IsLight (arrivals.Frame stamp octets) = length octets ≤ 100
IsLight (arrivals.Long stamp len) = ⊥

abbrev IsSmall : Turn → Type 0
IsSmall (Arrives port arrival) = IsLight arrival
IsSmall (Commands line) = ⊥
IsSmall (Ends who how) = how ≡ hows.End

abbrev AreSmall : List Turn → Type 0
AreSmall [] = Unit {0}
AreSmall (x ∷ xs) = IsSmall x × AreSmall xs

-- where every end is an ordinary one, no input is paused

never : (b : Bool) → (b && false) ≡ false
never true = refl
never false = refl

unpaused : (act : Act) → IsOrdinary act → is_paused_input act ≡ false
unpaused (acts.Frame port stamp at len) o = refl
unpaused (acts.Long port stamp len) o = refl
unpaused (acts.Tick stamp) o = refl
unpaused (acts.Command stamp at len) o = refl
unpaused (acts.Drain port count) o = refl
unpaused (acts.End who how) o = ap (λ (h : How). is_input who && is_paused_reason h) o ∙ never (is_input who)

no_pause : (past : List Row) → AreOrdinary past → has_pause past ≡ false
no_pause [] o = refl
no_pause (r ∷ past) o = ap (λ (b : Bool). b || has_pause past) (unpaused r.entry.act o.0) ∙ no_pause past o.1

closed_so : (past : List Row) → AreOrdinary past → closing past ≡ hows.End
closed_so past o = ap (λ (b : Bool). if b then hows.Paused else hows.End) (no_pause past o)

-- of merged lists

module _ (x : Turn) (rest : List Turn → List Turn) (small : IsSmall x) (behind : (ys : List Turn) → AreSmall ys → AreSmall (rest ys)) where
  enter_at : (b : Bool) (y : Turn) (ys : List Turn) → AreSmall (y ∷ ys) → AreSmall (enter turn_at x rest ys) → AreSmall (if b then y ∷ enter turn_at x rest ys else x ∷ rest (y ∷ ys))
  enter_at true y ys are step = (are.0, step)
  enter_at false y ys are step = (small, behind (y ∷ ys) are)

  small_enter : (ys : List Turn) → AreSmall ys → AreSmall (enter turn_at x rest ys)
  small_enter [] are = (small, behind [] tt)
  small_enter (y ∷ ys) are = enter_at (nat_lt (turn_at y) (turn_at x)) y ys are (small_enter ys are.1)

small_merge : (xs ys : List Turn) → AreSmall xs → AreSmall ys → AreSmall (merge turn_at xs ys)
small_merge [] ys are_x are_y = are_y
small_merge (x ∷ xs) ys are_x are_y = small_enter x (merge turn_at xs) are_x.0 (λ zs are. small_merge xs zs are_x.1 are) ys are_y

module _ (x : Turn) (rest : List Turn → List Turn) (n : ℕ) (size : (ys : List Turn) → length (rest ys) ≡ n + length ys) where
  length_at : (b : Bool) (y : Turn) (ys : List Turn) → length (enter turn_at x rest ys) ≡ n + length ys + 1 → length (if b then y ∷ enter turn_at x rest ys else x ∷ rest (y ∷ ys)) ≡ n + length (y ∷ ys) + 1
  length_at true y ys step = omega (arith, step)
  length_at false y ys step = let there : length (rest (y ∷ ys)) ≡ n + length (y ∷ ys) = size (y ∷ ys) in omega (arith, there)

  length_enter : (ys : List Turn) → length (enter turn_at x rest ys) ≡ n + length ys + 1
  length_enter [] = let there : length (rest []) ≡ n + 0 = size [] in omega (arith, there)
  length_enter (y ∷ ys) = length_at (nat_lt (turn_at y) (turn_at x)) y ys (length_enter ys)

length_merge : (xs ys : List Turn) → length (merge turn_at xs ys) ≡ length xs + length ys
length_merge [] ys = omega arith
length_merge (x ∷ xs) ys =
    let entered_one : length (merge turn_at (x ∷ xs) ys) ≡ length xs + length ys + 1 = length_enter x (merge turn_at xs) (length xs) (length_merge xs) ys in
    omega (arith, entered_one)

abbrev total : List (List Turn) → ℕ
total [] = 0
total (l ∷ ls) = length l + total ls

length_merged : (ls : List (List Turn)) → length (merged turn_at ls) ≡ total ls
length_merged [] = refl
length_merged (l ∷ ls) = length_merge l (merged turn_at ls) ∙ ap (λ (n : ℕ). length l + n) (length_merged ls)

abbrev AllSmall : List (List Turn) → Type 0
AllSmall [] = Unit {0}
AllSmall (l ∷ ls) = AreSmall l × AllSmall ls

small_merged : (ls : List (List Turn)) → AllSmall ls → AreSmall (merged turn_at ls)
small_merged [] are = tt
small_merged (l ∷ ls) are = small_merge l (merged turn_at ls) are.0 (small_merged ls are.1)

-- of what is sent

abbrev AreLight : List Sending → Type 0
AreLight [] = Unit {0}
AreLight (s ∷ all) = (length s.sent.frame ≤ 100) × AreLight all

light_append : (xs ys : List Sending) → AreLight xs → AreLight ys → AreLight (xs ++ ys)
light_append [] ys are_x are_y = are_y
light_append (x ∷ xs) ys are_x are_y = (are_x.0, light_append xs ys are_x.1 are_y)

light_claim : (host : ℕ) → length (claim host).sent.frame ≤ 100
light_claim host = omega (arith, length-probe (mac_of host) (host_address host))

light_packets : (seed a n : ℕ) → AreLight (map (drawn_packet seed) (range_with_len a n))
light_packets seed a zero = tt
light_packets seed a (suc n) =
    let host = 1 + draw seed (2 * a) % 3 in
    let source = 1 + draw seed (2 * a + 1) % 3 in
    (omega (arith, length-data (mac_of host) (host_address source)), light_packets seed (a + 1) n)

light_sendings : (seed frames : ℕ) → AreLight (sendings seed frames)
light_sendings seed frames =
    light_append (map claim (1 ∷ 2 ∷ 3 ∷ [])) (map (drawn_packet seed) (range_with_len 0 frames)) (light_claim 1, (light_claim 2, (light_claim 3, tt))) (light_packets seed 0 frames)

few_sendings : (seed frames : ℕ) → length (sendings seed frames) ≡ frames + 3
few_sendings seed frames =
    omega (arith, length-append (map claim (1 ∷ 2 ∷ 3 ∷ [])) (map (drawn_packet seed) (range_with_len 0 frames)), length-map-range_with_len (drawn_packet seed) 0 frames)

-- the frames at one port

abbrev at_port : ℕ → List Sending → List Sending
at_port n all = filter (λ s. s.port == n) all

abbrev ending : Port → List Turn
ending port = Ends (passes.Ingress port) hows.End ∷ []

module _ (port : Port) (n : ℕ) where
  small_one : (b : Bool) (s : Sending) (rest : List Sending) → length s.sent.frame ≤ 100 → AreSmall (map (λ a. Arrives port a) (map arrival_with (map (λ s. s.sent) rest)) ++ ending port)
      → AreSmall (map (λ a. Arrives port a) (map arrival_with (map (λ s. s.sent) (if b then s ∷ rest else rest))) ++ ending port)
  small_one true s rest light are = (light, are)
  small_one false s rest light are = are

  small_turns : (all : List Sending) → AreLight all → AreSmall (turns port (input_at n all))
  small_turns [] light = (refl, tt)
  small_turns (s ∷ all) light = small_one (s.port == n) s (at_port n all) light.0 (small_turns all light.1)

length_turns : (port : Port) (n : ℕ) (all : List Sending) → length (turns port (input_at n all)) ≡ length (at_port n all) + 1
length_turns port n all =
    let items : List Sent = sent_at n all in
    omega (arith, length-append (map (λ a. Arrives port a) (map arrival_with items)) (ending port), length-map (map arrival_with items) (λ a. Arrives port a), length-map items arrival_with, length-map (at_port n all) (λ s. s.sent))

-- no frame comes in at two ports

abbrev here : ℕ → ℕ → ℕ
here p n = if p == n then 1 else 0

is_here : (p n : ℕ) → p ≡ n → here p n ≡ 1
is_here p n same = grind (arith, nat_tests)

not_here : (p n : ℕ) → p ≢ n → here p n ≡ 0
not_here p n other = grind (arith, nat_tests)

one_port : (p : ℕ) → here p 1 + here p 2 + here p 3 + here p 4 + here p 5 ≤ 1
one_port p = elim (cases_eq p 1) [
  | inl e ↦
      omega (arith, is_here p 1 e, not_here p 2 (λ f. absurd (omega (arith, e, f))), not_here p 3 (λ f. absurd (omega (arith, e, f))), not_here p 4 (λ f. absurd (omega (arith, e, f))), not_here p 5 (λ f. absurd (omega (arith, e, f))))
  | inr a ↦ elim (cases_eq p 2) [
    | inl e ↦
        omega (arith, not_here p 1 a, is_here p 2 e, not_here p 3 (λ f. absurd (omega (arith, e, f))), not_here p 4 (λ f. absurd (omega (arith, e, f))), not_here p 5 (λ f. absurd (omega (arith, e, f))))
    | inr b ↦ elim (cases_eq p 3) [
      | inl e ↦
          omega (arith, not_here p 1 a, not_here p 2 b, is_here p 3 e, not_here p 4 (λ f. absurd (omega (arith, e, f))), not_here p 5 (λ f. absurd (omega (arith, e, f))))
      | inr c ↦ elim (cases_eq p 4) [
        | inl e ↦ omega (arith, not_here p 1 a, not_here p 2 b, not_here p 3 c, is_here p 4 e, not_here p 5 (λ f. absurd (omega (arith, e, f))))
        | inr d ↦ elim (cases_eq p 5) [
          | inl e ↦ omega (arith, not_here p 1 a, not_here p 2 b, not_here p 3 c, not_here p 4 d, is_here p 5 e)
          | inr g ↦ omega (arith, not_here p 1 a, not_here p 2 b, not_here p 3 c, not_here p 4 d, not_here p 5 g)
        ]
      ]
    ]
  ]
]

length_one : (b : Bool) (s : Sending) (rest : List Sending) → length (if b then s ∷ rest else rest) ≡ (if b then 1 else 0) + length rest
length_one true s rest = omega arith
length_one false s rest = omega arith

length_more : (s : Sending) (all : List Sending) (n : ℕ) → length (at_port n (s ∷ all)) ≡ here s.port n + length (at_port n all)
length_more s all n = length_one (s.port == n) s (at_port n all)

abbrev at_all : List Sending → ℕ
at_all all = length (at_port 1 all) + length (at_port 2 all) + length (at_port 3 all) + length (at_port 4 all) + length (at_port 5 all)

few_at_all : (all : List Sending) → at_all all ≤ length all
few_at_all [] = omega arith
few_at_all (s ∷ all) =
    let fewer : at_all all ≤ length all = few_at_all all in
    omega (arith, fewer, one_port s.port, length_more s all 1, length_more s all 2, length_more s all 3, length_more s all 4, length_more s all 5)

-- the turns of a load

abbrev inputs_of : List ℕ → List Sending → List Input
inputs_of ns all = map (λ n. input_at n all) ns

small_ports : (ports : List PortPlan) (ns : List ℕ) (all : List Sending) → AreLight all → AllSmall (port_turns ports (inputs_of ns all))
small_ports [] ns all light = tt
small_ports (p ∷ ports) [] all light = tt
small_ports (p ∷ ports) (n ∷ ns) all light = (small_turns p.number n all light, small_ports ports ns all light)

abbrev sizes : List ℕ → List Sending → ℕ
sizes [] all = 0
sizes (n ∷ ns) all = length (at_port n all) + 1 + sizes ns all

few_turns : (ports : List PortPlan) (ns : List ℕ) (all : List Sending) → total (port_turns ports (inputs_of ns all)) ≤ sizes ns all
few_turns [] ns all = omega arith
few_turns (p ∷ ports) [] all = omega arith
few_turns (p ∷ ports) (n ∷ ns) all =
    let fewer : total (port_turns ports (inputs_of ns all)) ≤ sizes ns all = few_turns ports ns all in
    omega (arith, fewer, length_turns p.number n all)

roomy : (a b c d : ℕ) → a < b → c ≤ d → (nat_lt a b && nat_le c d) ≡ true
roomy a b c d less within = grind (arith, nat_tests)

-- a run whose first segment goes on, with these rows
abbrev first_run : List Row → Run
first_run past = record { closed = []; past = past }

-- the first segment goes on, and has no end but ordinary ones
record IsFirst (run : Run) : Type 0 where
  first : run ≡ first_run run.past
  ordinary : AreOrdinary run.past

-- Behind n turns it has few entries, and keeps few octets.
record Behind (n : ℕ) (run : Run) : Type 0 where
  first : run ≡ first_run run.past
  few : length run.past ≤ 6 * n
  light : held run.past ≤ 100 * n
  ordinary : AreOrdinary run.past

-- behind at most k drains
record Drained (k : ℕ) (before now : List Row) : Type 0 where
  few : length now ≤ length before + k
  same : held now ≡ held before
  ordinary : AreOrdinary before → AreOrdinary now

module _ (plan : Plan) (five : length plan.ports ≡ 5) (entries : plan.entries ≡ 1000000) (bytes : plan.bytes ≡ 67108864) where
  one_drained : (past : List Row) (port : Port) (count : ℕ) (none : Bool) → Drained 1 past (if none then past else with_event plan empty past (Drain port count))
  one_drained past port count true = record { few = omega arith; same = refl; ordinary = λ o. o }
  one_drained past port count false = record { few = omega arith; same = omega arith; ordinary = λ o. (tt, o) }

  all_drained : (ports : List PortPlan) (past : List Row) → Drained (length ports) past (drained plan empty no_stops.ports ports past)
  all_drained [] past = record { few = omega arith; same = refl; ordinary = λ o. o }
  all_drained (q ∷ qs) past =
      let count = length (queue plan empty (number_of q.number) past) in
      let mid : List Row = with_drain plan empty no_stops.ports q.number count past in
      let first : Drained 1 past mid = one_drained past q.number count (count == 0) in
      let rest : Drained (length qs) mid (drained plan empty no_stops.ports qs mid) = all_drained qs mid in
      record { few = omega (arith, first.few, rest.few); same = rest.same ∙ first.same; ordinary = λ o. rest.ordinary (first.ordinary o) }

  one_frame : (past : List Row) (n : ℕ) (port : Port) (stamp : ℕ) (octets : List ℕ) → length octets ≤ 100 → Behind n (first_run past)
      → Behind (n + 1) (first_run (drained plan empty no_stops.ports plan.ports (with_event plan empty past (event_of port (arrivals.Frame stamp octets)))))
  one_frame past n port stamp octets light was =
      let next : List Row = with_event plan empty past (event_of port (arrivals.Frame stamp octets)) in
      let all : Drained (length plan.ports) next (drained plan empty no_stops.ports plan.ports next) = all_drained plan.ports next in
      let kept : held next ≡ length octets + held past = refl in
      record {
        first = refl;
        few = omega (arith, was.few, all.few, five);
        light = omega (arith, was.light, all.same, kept, light);
        ordinary = all.ordinary (tt, was.ordinary);
      }

  one_arrival : (past : List Row) (n : ℕ) (port : Port) (a : Arrival) → IsLight a → n ≤ 100009 → Behind n (first_run past) → Behind (n + 1) (taken plan no_stops (Arrives port a) (first_run past))
  one_arrival past n port (arrivals.Long stamp len) light within was = absurd light
  one_arrival past n port (arrivals.Frame stamp octets) light within was =
      let turn : Turn = Arrives port (arrivals.Frame stamp octets) in
      let room : has_room plan past ≡ true =
      roomy (length past + 4130) plan.entries (held past + 1518) plan.bytes (omega (arith, was.few, within, entries)) (omega (arith, was.light, within, bytes)) in
      subst (λ (b : Bool). Behind (n + 1) (entered_in plan no_stops turn (if b then first_run past else turned plan (first_run past)))) (sym room) (one_frame past n port stamp octets light was)

  one_turn : (past : List Row) (n : ℕ) (turn : Turn) → IsSmall turn → n ≤ 100009 → Behind n (first_run past) → Behind (n + 1) (taken plan no_stops turn (first_run past))
  one_turn past n (Arrives port a) small within was = one_arrival past n port a small within was
  one_turn past n (Commands line) small within was = absurd small
  one_turn past n (Ends who how) small within was = record { first = refl; few = omega (arith, was.few); light = omega (arith, was.light); ordinary = (small, was.ordinary) }

  next_turn : (run : Run) (n : ℕ) (turn : Turn) (over : Bool) → IsSmall turn → n ≤ 100009 → Behind n run → Behind (n + 1) (if over then run else taken plan no_stops turn run)
  next_turn run n turn true small within was = record { first = was.first; few = omega (arith, was.few); light = omega (arith, was.light); ordinary = was.ordinary }
  next_turn run n turn false small within was =
      let one : Behind n (first_run run.past) = record { first = refl; few = was.few; light = was.light; ordinary = was.ordinary } in
      subst (λ (r : Run). Behind (n + 1) (taken plan no_stops turn r)) (sym was.first) (one_turn run.past n turn small within one)

  all_turned : (ts : List Turn) (run : Run) (n : ℕ) → AreSmall ts → n + length ts ≤ 100009 → Behind n run → IsFirst (all_taken plan no_stops ts run)
  all_turned [] run n small within was = record { first = was.first; ordinary = was.ordinary }
  all_turned (t ∷ ts) run n small within was =
      all_turned ts (taken_if_open plan no_stops t run) (n + 1) small.1 (omega (arith, within))
      (next_turn run n t (has_ended_in plan (pass_of plan (who_of t)) run) small.0 (omega (arith, within)) was)

  not_begun : (ports : List PortPlan) (past : List Row) → begun plan empty no_stops.ports ports past ≡ past
  not_begun [] past = refl
  not_begun (q ∷ qs) past = not_begun qs past

  one_ended : (past : List Row) (port : Port) (over : Bool) → AreOrdinary past → AreOrdinary (if over then past else with_event plan empty past (End (passes.Egress port) (closing past)))
  one_ended past port true o = o
  one_ended past port false o = (closed_so past o, o)

  all_ended : (ports : List PortPlan) (past : List Row) → AreOrdinary past → AreOrdinary (egress_ended plan empty ports past)
  all_ended [] past o = o
  all_ended (q ∷ qs) past o = all_ended qs (with_end plan empty q.number past) (one_ended past q.number (has_ended empty (egress_pass plan (number_of q.number)) past) o)

  -- where nothing but the first segment went on, it is all there is
  one_closed : (past : List Row) → AreOrdinary past → AreOrdinary (joined (all_closed plan (first_run past)))
  one_closed past o =
      subst (λ (p : List Row). AreOrdinary p) (sym (append-nil (closed plan empty past))) (all_ended plan.ports (with_event plan empty past (End passes.Ticker (closing past))) (closed_so past o, o))

  pub load_is_ordinary : (seed frames : ℕ) → frames ≤ 100000 → AreOrdinary (joined (load_segments plan seed frames))
  unfolding load_segments load_inputs
  load_is_ordinary seed frames within =
      let all : List Sending = sendings seed frames in
      let lists : List (List Turn) = all_turns None plan.ports (load_inputs seed frames) in
      let ts : List Turn = merged turn_at lists in
      let small : AreSmall ts = small_merged lists ((refl, tt), small_ports plan.ports (1 ∷ 2 ∷ 3 ∷ 4 ∷ 5 ∷ []) all (light_sendings seed frames)) in
      let fewer : total (port_turns plan.ports (load_inputs seed frames)) ≤ sizes (1 ∷ 2 ∷ 3 ∷ 4 ∷ 5 ∷ []) all = few_turns plan.ports (1 ∷ 2 ∷ 3 ∷ 4 ∷ 5 ∷ []) all in
      let sized : total lists ≡ 1 + total (port_turns plan.ports (load_inputs seed frames)) = refl in
      let number : length ts ≤ 100009 = omega (arith, within, fewer, sized, length_merged lists, few_at_all all, few_sendings seed frames) in
      let none : Behind 0 (first_run []) = record { first = refl; few = omega arith; light = omega arith; ordinary = tt } in
      let start : Behind 0 (run_begun plan no_stops) = subst (λ (p : List Row). Behind 0 (first_run p)) (sym (not_begun plan.ports [])) none in
      let run : Run = all_taken plan no_stops ts (run_begun plan no_stops) in
      let behind : IsFirst run = all_turned ts (run_begun plan no_stops) 0 small (omega (arith, number)) start in
      subst (λ (r : Run). AreOrdinary (joined (all_closed plan r))) (sym behind.first) (one_closed run.past behind.ordinary)
