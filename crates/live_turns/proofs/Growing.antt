-- A queue grows only by what an entry puts there: a probe, which the entry counts, or its frame, which goes to the port.
use Rattle.std.proofs.Common.{◌≡◌, ◌<◌, ◌==◌, ◌⊎◌, if◌then◌else◌, ℕ, Bool, true, false, Option, List, [], ◌∷◌, length, drop, refl, sym, subst, inl, inr, arith}
use Rattle.std.specs.List.{list_any}
use Rattle.std.proofs.lemmas.Bool.{cases_Bool}
use Rattle.std.proofs.lemmas.Bool.Decides.{Decides-eqb}
use Rattle.std.proofs.lemmas.List.{length-drop}
use Rattle.savi_kinds.specs.declared.port.Port.{Port}
use Rattle.savi_kinds.specs.declared.port.PortSet.{PortSet}
use Rattle.savi_kinds.specs.declared.plan.Plan.{Plan}
use Rattle.savi_kinds.specs.declared.entry.Act.{Act}
use Rattle.savi_kinds.specs.declared.entry.Entry.{Entry}
use Rattle.savi_kinds.specs.declared.entry.Who.{Who}
use Rattle.savi_kinds.specs.declared.entry.Who.TheVariants.{Ingress, Control, Ticker, Egress}
use Rattle.savi_kinds.specs.declared.entry.How.{How}
use Rattle.savi_kinds.specs.declared.entry.How.TheVariants as hows
use Rattle.savi_kinds.specs.Ports.{number_of}
use Rattle.savi_kinds.specs.PortSets.{is_member}
use Rattle.savi_kinds.specs.ValidPlan.{numbers_of}
use Rattle.hist_store.specs.Rows.{Row}
use Rattle.checkpoint.specs.Bases.{Base}
use Rattle.savi_history.specs.Events.{Event, Frame, Long, Command, Tick, Drain, End, row_of}
use Rattle.savi_history.specs.Passes.{has_port}
use Rattle.savi_history.specs.Queues.{Item, queue, probed, framed, room_at, queued_at, over_ports, probes}
use Rattle.savi_history.specs.Replay.{closing, with_event}
use Rattle.live_turns.specs.declared.kinds.TickTurn.{TickTurn}
use Rattle.live_turns.specs.declared.kinds.TickTurn.TheVariants as ticks
use Rattle.live_turns.specs.declared.kinds.DrainTurn.{DrainTurn}
use Rattle.live_turns.specs.declared.kinds.DrainTurn.TheVariants as drains
use Rattle.live_turns.specs.TurnKinds.{DidDrain, DidEnd, DidLook, DidTick, IsFrame}
use Rattle.live_turns.specs.Wakes.{HasAll, HasGrown, HasGrownPorts, MayHaveQueued, WokeGrown, was_woken}
use Rattle.table_lock.specs.declared.lock.sleeping.Woken.{Woken}

-- a sum over ports isn't 0 where one of its numbers isn't
sum_by : (q n : ℕ) (rest : List ℕ) (count : ℕ → ℕ) → (b : Bool) → (n == q) ≡ b → (b ≡ false → 0 < over_ports rest count) → 0 < count q → 0 < over_ports (n ∷ rest) count
sum_by q n rest count true is later some =
    let same : n ≡ q = (Decides-eqb n q).0 is in
    let here : 0 < count n = subst (λ (m : ℕ). 0 < count m) (sym same) some in
    omega (arith, here)
sum_by q n rest count false is later some = let more = later refl in omega (arith, more)

any_later : (b rest : Bool) → (if b then true else rest) ≡ true → b ≡ false → rest ≡ true
any_later true rest is off = cc
any_later false rest is off = is

some_over : (numbers : List ℕ) (q : ℕ) (count : ℕ → ℕ) → list_any (λ n. n == q) numbers ≡ true → 0 < count q → 0 < over_ports numbers count
some_over [] q count any some = cc
some_over (n ∷ rest) q count any some =
    elim (cases_Bool (n == q)) [
      | inl same ↦ sum_by q n rest count true same (λ off. cc) some
      | inr apart ↦ sum_by q n rest count false apart (λ off. some_over rest q count (rw apart at any) some) some
    ]

module _ (plan : Plan) (base : Base) (past : List Row) where
  -- an entry counts probes where one joined at a port of the plan
  counted : (act : Act) (octets : List ℕ) (q : ℕ) → has_port plan q ≡ true → length (queue plan base q past) < length (probed plan base past act octets q (queue plan base q past)) → 0 < probes plan base past act octets
  unfolding probes
  counted act octets q of grown = some_over (numbers_of plan.ports) q (queued_at plan base past act octets) of (omega (arith, grown))

  -- a queue that has grown by an entry with a frame
  frame_grown : (q : ℕ) (port : Port) (r : Row) (act : Act) → has_port plan q ≡ true
      → length (queue plan base q past) < length (framed plan (room_at plan base past q) q port r (probed plan base past act r.octets q (queue plan base q past)))
      → (0 < probes plan base past act r.octets) ⊎ (is_member r.entry.outs q ≡ true)
  frame_grown q port r act of grown =
      elim (cases_Bool (is_member r.entry.outs q)) [
        | inl to ↦ inr to
        | inr off ↦ inl (counted act r.octets q of (rw off at grown))
      ]

  -- behind an input the ports are told whose queues may have grown
  pub input_grown : (event : Event) (entry : Entry) (now : List Row) (ports : PortSet) → IsFrame event → now ≡ with_event plan base past event → entry ≡ (row_of plan base past event).entry → MayHaveQueued entry ports → HasGrownPorts ports plan base past now
  input_grown (Frame port stamp octets) entry now ports frame is same may = λ to of grown.
      let row = row_of plan base past (Frame port stamp octets) in
      let more : HasGrown plan base past (row ∷ past) to = subst (λ (rows : List Row). HasGrown plan base past rows to) is grown in
      let some = frame_grown (number_of to) port row row.entry.act of more in
      may to (subst (λ (e : Entry). (0 < e.probes) ⊎ (is_member e.outs (number_of to) ≡ true)) (sym same) some)
  input_grown (Long port stamp len) entry now ports frame is same may = λ to of grown.
      let row = row_of plan base past (Long port stamp len) in
      let more : HasGrown plan base past (row ∷ past) to = subst (λ (rows : List Row). HasGrown plan base past rows to) is grown in
      may to (subst (λ (e : Entry). (0 < e.probes) ⊎ (is_member e.outs (number_of to) ≡ true)) (sym same) (inl (counted row.entry.act row.octets (number_of to) of more)))
  input_grown (Command stamp line) entry now ports frame is same may = absurd frame
  input_grown (Tick stamp) entry now ports frame is same may = absurd frame
  input_grown (Drain port count) entry now ports frame is same may = absurd frame
  input_grown (End who how) entry now ports frame is same may = absurd frame

  -- behind an end and a drain no queue has grown

  end_shorter : (q : ℕ) (port : Port) (waiting : List Item) → (b : Bool) → length waiting < length (if b then [] else waiting) → ⊥
  end_shorter q port waiting true grown = omega (arith, grown)
  end_shorter q port waiting false grown = omega (arith, grown)

  end_grown : (who : Who) (how : How) (q : ℕ) → length (queue plan base q past) < length (queue plan base q (with_event plan base past (End who how))) → ⊥
  end_grown (Egress port) hows.Failed q grown = end_shorter q port (queue plan base q past) (number_of port == q) grown
  end_grown (Egress port) hows.End q grown = omega (arith, grown)
  end_grown (Egress port) hows.Quit q grown = omega (arith, grown)
  end_grown (Egress port) (hows.Malformed at) q grown = omega (arith, grown)
  end_grown (Egress port) (hows.Overlong at) q grown = omega (arith, grown)
  end_grown (Egress port) hows.Unwritten q grown = omega (arith, grown)
  end_grown (Egress port) hows.Paused q grown = omega (arith, grown)
  end_grown (Ingress port) how q grown = omega (arith, grown)
  end_grown Control how q grown = omega (arith, grown)
  end_grown Ticker how q grown = omega (arith, grown)

  pub none_grown_end : (who : Who) (how : How) (now : List Row) (woken : List (Option Woken)) → DidEnd who how plan base past now → WokeGrown woken plan base past now
  none_grown_end who how now woken did = λ to of grown.
      absurd (end_grown who how (number_of to) (subst (λ (rows : List Row). HasGrown plan base past rows to) did grown))

  -- nor where nothing was done
  none_grown_still : (now : List Row) (woken : List (Option Woken)) → now ≡ past → WokeGrown woken plan base past now
  none_grown_still now woken same = λ to of grown.
      let more : HasGrown plan base past past to = subst (λ (rows : List Row). HasGrown plan base past rows to) same grown in
      absurd (omega (arith, more))

  -- nor behind a look at the room
  pub none_grown_look : (who : Who) (paused : Bool) (now : List Row) (woken : List (Option Woken)) → DidLook who paused plan base past now → WokeGrown woken plan base past now
  none_grown_look who true now woken did = none_grown_end who hows.Paused now woken did.1
  none_grown_look who false now woken did = none_grown_still now woken did.1

  drain_shorter : (count : ℕ) (waiting : List Item) → (b : Bool) → length waiting < length (if b then drop count waiting else waiting) → ⊥
  drain_shorter count waiting true grown = let size = length-drop count waiting in omega (arith, grown, size)
  drain_shorter count waiting false grown = omega (arith, grown)

  pub none_grown_drain : (port : Port) (batch : List Item) (came : DrainTurn) (now : List Row) (woken : List (Option Woken)) → DidDrain port batch came plan base past now → WokeGrown woken plan base past now
  none_grown_drain port batch drains.Took now woken did = λ to of grown.
      absurd (drain_shorter (length batch) (queue plan base (number_of to) past) (number_of port == number_of to) (subst (λ (rows : List Row). HasGrown plan base past rows to) did.2 grown))
  none_grown_drain port batch drains.Idle now woken did = none_grown_still now woken did.3
  none_grown_drain port batch drains.Ended now woken did = none_grown_end (Egress port) (closing past) now woken did.3

  -- each port was woken, or the ticker did nothing
  pub tick_grown : (stamp : ℕ) (came : TickTurn) (now : List Row) (woken : List (Option Woken)) → DidTick stamp came plan base past now → ((came ≡ ticks.Idle → ⊥) → (port : Port) → was_woken woken (number_of port) ≡ true) → WokeGrown woken plan base past now
  tick_grown stamp ticks.Made now woken did all = λ to of grown. all (λ e. cc) to
  tick_grown stamp ticks.Idle now woken did all = none_grown_still now woken did.2
  tick_grown stamp ticks.Full now woken did all = none_grown_still now woken did.2
  tick_grown stamp ticks.Ended now woken did all = λ to of grown. all (λ e. cc) to

-- ports that are told are woken
pub woken_too : (told : PortSet) (woken : List (Option Woken)) (plan : Plan) (base : Base) (past now : List Row) → HasAll told woken → HasGrownPorts told plan base past now → WokeGrown woken plan base past now
woken_too told woken plan base past now all grown = λ to of more. all to (grown to of more)
