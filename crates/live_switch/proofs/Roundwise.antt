-- What a part of a round does to all that serves the ends: one worker goes on, and the others stand as they did.
use Rattle.std.proofs.Common.{◌≡◌, ◌≢◌, ℕ, ◌+◌, ◌<◌, ◌==◌, Bool, true, false, List, [], ◌∷◌, ◌++◌, length, slice_index_or, vec_len, Option, Some, None, is_some, refl, sym, ap, subst, ◌∙◌, append_assoc, arith, ◌⊎◌, inl, inr}
use Rattle.std.specs.Vec.{with_item}
use Rattle.std.proofs.lemmas.Bool.{cases_eq}
use Rattle.std.proofs.lemmas.Bool.Decides.{nat_tests}
use Rattle.std.proofs.lemmas.List.{get_or_default, get_or-set_same, get_or-set_other}
use Rattle.savi_kinds.specs.declared.plan.Format.{Format}
use Rattle.savi_kinds.specs.declared.plan.Plan.{Plan}
use Rattle.savi_kinds.specs.declared.plan.PortPlan.{PortPlan}
use Rattle.savi_kinds.specs.declared.entry.Who.TheVariants as passes
use Rattle.savi_kinds.specs.declared.port.Port.{Port}
use Rattle.savi_kinds.specs.Ports.{number_of}
use Rattle.savi_kinds.specs.ValidPlan.{IsValidPlan}
use Rattle.control_reader.specs.Answered.{waiting_line}
use Rattle.control_reader.specs.Heard.{HeardLine, lines_taken}
use Rattle.parcel_ring.specs.Handed.{Handed}
use Rattle.parcel_ring.specs.Sides.{taker_rings, was_taken}
use Rattle.hist_store.specs.Rows.{Row}
use Rattle.checkpoint.specs.Bases.{Base}
use Rattle.checkpoint.specs.Columns as columns
use Rattle.savi_history.specs.ControlInputs.{control_end}
use Rattle.savi_history.specs.Legal.{IsFinished, IsLegal, IsOpen}
use Rattle.savi_history.specs.Passes.{control_pass, egress_pass, has_ended, has_port, place_of, ticker_pass}
use Rattle.savi_history.specs.PortInputs.{input_end}
use Rattle.savi_history.proofs.PassNumbers.{known_at, number_at, place_at}
use Rattle.savi_segments.specs.Segments.{AreLegal, base_after}
use Rattle.savi_segments.specs.Unbroken.{unbroken}
use Rattle.savi_core.specs.Machines.{Machine, base_of}
use Rattle.core_keep.specs.declared.keep.KeptCore.{KeptCore}
use Rattle.core_keep.specs.Seen.{AreOthers, IsLater}
use Rattle.live_session.specs.Standing.{InputStands, OutputStands, TickerStands}
use Rattle.live_session.proofs.Same.{input_same, output_same}
use Rattle.live_session.proofs.StandsOn.{next_control, next_input, next_output, same_control, same_input, same_output, ticker_later, ticker_next}
use Rattle.live_turns.specs.Rounds.{AreOwn, MadeBy}
use Rattle.live_turns.proofs.MadeOnly.{made_none}
use Rattle.live_turns.proofs.OpenEnds.{control_open, input_open}
use Rattle.live_input.specs.Judged.{kept_of}
use Rattle.live_input.specs.declared.judge.Ingress.{Ingress}
use Rattle.live_output.specs.declared.output.Output.{Output}
use Rattle.live_control.specs.Sides.{SideGoes, SideStands, WorkerStands, heard_in, worker_ring}
use Rattle.live_control.specs.declared.side.ControlSide.{ControlSide}
use Rattle.live_control.specs.declared.worker.ControlWorker.{ControlWorker}
use Rattle.live_control.proofs.Passing.{goes_next, side_goes, side_stands}
use Rattle.live_ticker.specs.declared.ticker.TickerWorker.{TickerWorker}
use Rattle.live_switch.specs.declared.services.PortService.{PortService}
use Rattle.live_switch.specs.declared.services.Service.{Service}
use Rattle.live_switch.specs.Joined.{AllStand, Firsts, PortStands, StandOn}
use Rattle.live_switch.specs.Rounds.{CanGoRound, GoesOnBy, HasGoneOn, HoldsOn, InputGoesOn, ServesOn}
use Rattle.live_switch.specs.Segments.{HasServedSegment}
use Rattle.live_switch.specs.Works.{IsPortService, ServesSamePort, IsSameService, IsServiceOf}
use Rattle.live_switch.proofs.Dealing.{number_here}
use Rattle.live_switch.proofs.Joining.{worker_same}
use Rattle.live_switch.proofs.Opening.{known_here, placed_here}
use Rattle.live_switch.proofs.Running.{same_both, serves_still}

-- a history that is legal was legal before

legal_behind : (plan : Plan) (base : Base) (newer past : List Row) → IsLegal plan base (newer ++ past) → IsLegal plan base past
legal_behind plan base [] past legal = legal
legal_behind plan base (r ∷ newer) past legal = legal_behind plan base newer past legal.1

pub legal_before : (plan : Plan) (base : Base) (past now : List Row) → HasGoneOn past now → IsLegal plan base now → IsLegal plan base past
legal_before plan base past now grown legal = legal_behind plan base grown.newer past (subst (λ (rows : List Row). IsLegal plan base rows) grown.split legal)

-- histories that grow

pub grown_none : (past : List Row) → HasGoneOn past past
grown_none past = record { newer = []; split = refl }

pub grown_both : (past mid now : List Row) → HasGoneOn past mid → HasGoneOn mid now → HasGoneOn past now
grown_both past mid now one two = record {
  newer = two.newer ++ one.newer;
  split = two.split ∙ ap (λ (rows : List Row). two.newer ++ rows) one.split ∙ sym (append_assoc two.newer one.newer past);
}

pub made_grown : (pass : ℕ) (past now : List Row) → MadeBy pass past now → HasGoneOn past now
made_grown pass past now made = record { newer = made.newer; split = made.split }

-- what the switch answers of a pass

pub not_ended : (core now : Machine) (pass : Machine → ℕ) (ended : Bool) → core ≡ now → ended ≡ has_ended (base_of core) (pass core) core.past → ended ≡ false → has_ended (base_of now) (pass now) now.past ≡ false
not_ended core now pass ended same is runs = subst (λ (m : Machine). has_ended (base_of m) (pass m) m.past ≡ false) same (sym is ∙ runs)

-- for another pass the history has gone on by others

test_apart : (m n : ℕ) → m ≢ n → (m == n) ≡ false
test_apart m n other = grind (arith, nat_tests)

others_of : (pass other : ℕ) → pass ≢ other → (newer : List Row) → AreOwn pass newer → AreOthers other newer
others_of pass other apart [] own = tt
others_of pass other apart (r ∷ newer) own = (ap (λ (n : ℕ). n == other) own.0 ∙ test_apart pass other apart, others_of pass other apart newer own.1)

pub other_later : (pass other : ℕ) (found now : List Row) → pass ≢ other → MadeBy pass found now → IsLater other found now
other_later pass other found now apart made = record { newer = made.newer; split = made.split; others = others_of pass other apart made.newer made.own }

-- the port at a place of the plan has its passes by that place

module _ (plan : Plan) (k : ℕ) (p : PortPlan) (within : k < length plan.ports) where
  pub known_there : has_port plan (number_of (slice_index_or plan.ports k p).number) ≡ true
  known_there = known_here plan k (slice_index_or plan.ports k p) within (λ q. get_or_default plan.ports k p q within)

  pub place_there : IsValidPlan plan → place_of plan (number_of (slice_index_or plan.ports k p).number) ≡ k
  place_there = placed_here plan k (slice_index_or plan.ports k p) within (λ q. get_or_default plan.ports k p q within)

-- What stands of a worker stands behind entries of another pass.
module _ {K C : Type 0} (written : K → Option (List ℕ)) (faults : K → ℕ) (readings : C → Option (List ℕ)) (plan : Plan) (before : List (List Row)) (found now : List Row)
    (legal : IsLegal plan (base_after plan before) now) (pass : ℕ) (made : MadeBy pass found now) where
  input_still : (port : ℕ) (taken : List Handed) (kept : Option Handed) → pass ≢ place_of plan port → InputStands port (found ∷ before) taken kept → InputStands port (now ∷ before) taken kept
  input_still port taken kept apart stands =
      input_same port (found ∷ before) (now ∷ before) taken kept (same_input plan before found now legal port (other_later pass (place_of plan port) found now apart made)) stands

  output_still : (format : Format) (port : ℕ) (begun : Bool) (first sink : K) → pass ≢ egress_pass plan port
      → OutputStands written faults format plan port (found ∷ before) begun first sink → OutputStands written faults format plan port (now ∷ before) begun first sink
  output_still format port begun first sink apart stands =
      output_same written faults format plan port (found ∷ before) (now ∷ before) (same_output plan before found now legal format port (other_later pass (egress_pass plan port) found now apart made)) first sink begun stands

  port_still : (p : PortPlan) (first : K) (s : PortService K) → pass ≢ place_of plan (number_of p.number) → pass ≢ egress_pass plan (number_of p.number)
      → PortStands written faults plan (found ∷ before) p first s → PortStands written faults plan (now ∷ before) p first s
  port_still p first s apart apart_out stands = record {
    input = input_still (number_of p.number) (was_taken s.judge.taker) (kept_of s.judge.kept) apart stands.input;
    output = output_still p.format (number_of p.number) s.writer.begun first s.writer.sink apart_out stands.output;
  }

  control_still : (first : Option K) (ends : Option (ControlSide K)) → pass ≢ control_pass plan
      → WorkerStands written faults plan (found ∷ before) first ends → WorkerStands written faults plan (now ∷ before) first ends
  control_still first ends apart stands =
      worker_same written faults plan (found ∷ before) (now ∷ before) (same_control plan before found now legal (other_later pass (control_pass plan) found now apart made)) first ends stands

  ticker_still : (first clock : C) → pass ≢ ticker_pass plan → TickerStands readings plan (found ∷ before) first clock → TickerStands readings plan (now ∷ before) first clock
  ticker_still first clock apart stands = ticker_later plan before found now legal readings first clock (other_later pass (ticker_pass plan) found now apart made) stands

-- The judge of a port takes what waits, which it does while its input hasn't ended, and goes on in a turn.

module _ (kept : KeptCore) (judge : Ingress) where
  abbrev pass_here : ℕ
  pass_here = place_of kept.core.value.plan (number_of judge.port)

  pub input_fetched : (new : Ingress) → IsOpen kept.core.value.plan (base_of kept.core.value) kept.core.value.past (passes.Ingress judge.port) → new.port ≡ judge.port → taker_rings new.taker ≡ taker_rings judge.taker
      → ((segments : List (List Row)) → input_end (number_of judge.port) (unbroken segments) ≡ None → InputStands (number_of judge.port) segments (was_taken judge.taker) (kept_of judge.kept)
      → InputStands (number_of judge.port) segments (was_taken new.taker) (kept_of new.kept))
      → InputGoesOn kept judge kept new
  input_fetched new is_open port rings fetched = record {
    port = port;
    rings = rings;
    goes = record {
      plan_is = refl;
      checkpoint_is = refl;
      made = made_none pass_here kept.core.value.past;
      stands = λ before legals base legal stands.
          fetched (kept.core.value.past ∷ before)
          (input_open kept.core.value.plan kept.core.value.past before (subst (λ (b : Base). IsLegal kept.core.value.plan b kept.core.value.past) base legal) legals (number_of judge.port) is_open.known
          (subst (λ (b : Base). has_ended b pass_here kept.core.value.past ≡ false) base is_open.running))
          stands;
    };
  }

  pub input_both : (now : KeptCore) (mid new : Ingress) → InputGoesOn kept judge kept mid → InputGoesOn kept mid now new → InputGoesOn kept judge now new
  input_both now mid new one two =
      let plan = kept.core.value.plan in
      let past = kept.core.value.past in
      let at = subst
      (λ (port : Port). GoesOnBy (place_of plan (number_of port)) kept now
      (λ segments. InputStands (number_of port) segments (was_taken mid.taker) (kept_of mid.kept)) (λ segments. InputStands (number_of port) segments (was_taken new.taker) (kept_of new.kept)))
      one.port two.goes in
      record {
        port = two.port ∙ one.port;
        rings = two.rings ∙ one.rings;
        goes = record {
          plan_is = at.plan_is;
          checkpoint_is = at.checkpoint_is;
          made = at.made;
          stands = λ before legals base legal stands.
              at.stands before legals base legal
              (one.goes.stands before legals base (legal_before plan (base_of kept.core.value) past now.core.value.past (made_grown pass_here past now.core.value.past at.made) legal) stands);
        };
      }

-- Control takes of its ring what waits, likewise.

pub none_kept : {X : Type 0} (kept : Option X) → is_some kept ≡ false → kept ≡ None
none_kept None is = refl
none_kept (Some x) is = let never : true ≡ false = is in cc

module _ {K : Type 0} (written : K → Option (List ℕ)) (faults : K → ℕ) (plan : Plan) (segments : List (List Row)) where
  pub side_fetched : (first : K) (old new : ControlSide K) → control_end (unbroken segments) ≡ None → new.sink ≡ old.sink → new.passes_over ≡ old.passes_over
      → ((entered : List HeardLine) → lines_taken old.taker ≡ entered ++ waiting_line (heard_in old.kept) → lines_taken new.taker ≡ entered ++ waiting_line (heard_in new.kept))
      → SideStands written faults plan segments first old → SideStands written faults plan segments first new
  side_fetched first old new unended sink passes step stands =
      let goes : SideGoes written faults plan segments first old = side_goes written faults plan segments first old unended stands in
      side_stands written faults plan segments first new (record {
        goes = goes_next written faults plan segments first old new (heard_in new.kept) sink step goes.goes;
        enters = passes ∙ goes.enters;
      })

pub control_unended : (kept : KeptCore) (before : List (List Row)) → has_ended (base_of kept.core.value) (control_pass kept.core.value.plan) kept.core.value.past ≡ false → AreLegal kept.core.value.plan before
    → base_of kept.core.value ≡ base_after kept.core.value.plan before → IsLegal kept.core.value.plan (base_of kept.core.value) kept.core.value.past → control_end (unbroken (kept.core.value.past ∷ before)) ≡ None
control_unended kept before running legals base legal =
    let plan = kept.core.value.plan in
    let past = kept.core.value.past in
    control_open plan past before (subst (λ (b : Base). IsLegal plan b past) base legal) legals (subst (λ (b : Base). has_ended b (control_pass plan) past ≡ false) base running)

-- it serves the same

pub same_port : {K : Type 0} (service : PortService K) → ServesSamePort service service
same_port service = record { judge = refl; rings = refl; writer = (refl, refl) }

pub same_service : {K C : Type 0} (service : Service K C) → IsSameService service service
same_service service = record { len = refl; room = refl; ports = λ place d within. same_port (slice_index_or service.ports.items place d); ring = refl }

-- with another one for control, the ticker, or a port

abbrev pub with_control : {K C : Type 0} → Service K C → ControlWorker K → Service K C
with_control service control = record { ports = service.ports; control = control; ticker = service.ticker }

abbrev pub with_ticker : {K C : Type 0} → Service K C → TickerWorker C → Service K C
with_ticker service ticker = record { ports = service.ports; control = service.control; ticker = ticker }

abbrev pub with_port : {K C : Type 0} → Service K C → ℕ → PortService K → Service K C
with_port service k port = record { ports = with_item service.ports k port; control = service.control; ticker = service.ticker }

module _ {K C : Type 0} (service : Service K C) (k : ℕ) (within : k < vec_len service.ports) where
  inside : k < length service.ports.items
  inside = omega (arith, service.ports.ok.0)

  at_port : (port d : PortService K) → slice_index_or (with_port service k port).ports.items k d ≡ port
  at_port port d = get_or-set_same service.ports.items k port d inside

  at_other : (port d : PortService K) (j : ℕ) → j ≢ k → slice_index_or (with_port service k port).ports.items j d ≡ slice_index_or service.ports.items j d
  at_other port d j other = get_or-set_other service.ports.items k j port d other

  same_with : (port : PortService K) → ((d : PortService K) → ServesSamePort (slice_index_or service.ports.items k d) port) → IsSameService service (with_port service k port)
  same_with port same = record {
    len = refl;
    room = refl;
    ports = λ place d below.
        elim (cases_eq place k) [
          | inl here ↦
              subst (λ (j : ℕ). ServesSamePort (slice_index_or service.ports.items j d) (slice_index_or (with_port service k port).ports.items j d)) (sym here)
              (subst (λ (s : PortService K). ServesSamePort (slice_index_or service.ports.items k d) s) (sym (at_port port d)) (same d))
          | inr other ↦
              subst (λ (s : PortService K). ServesSamePort (slice_index_or service.ports.items place d) s) (sym (at_other port d place other)) (same_port (slice_index_or service.ports.items place d))
        ];
    ring = refl;
  }

-- A round goes on.
module _ {K C : Type 0} (written : K → Option (List ℕ)) (faults : K → ℕ) (readings : C → Option (List ℕ)) where
  base_is : (kept now : KeptCore) → now.core.value.checkpoint ≡ kept.core.value.checkpoint → base_of now.core.value ≡ base_of kept.core.value
  base_is kept now same = ap columns.kept_base same

  pub serves_none : (kept : KeptCore) (service : Service K C) → ServesOn written faults readings kept service kept service
  serves_none kept service = record {
    plan_is = refl;
    checkpoint_is = refl;
    grown = grown_none kept.core.value.past;
    same = same_service service;
    stands = λ before legals base legal first stands. stands;
  }

  pub serves_both : (kept mid now : KeptCore) (old moved new : Service K C) → ServesOn written faults readings kept old mid moved → ServesOn written faults readings mid moved now new → ServesOn written faults readings kept old now new
  serves_both kept mid now old moved new one two =
      let then = subst
      (λ (t : Plan × Base). (before : List (List Row)) → AreLegal t.0 before → t.1 ≡ base_after t.0 before → IsLegal t.0 t.1 now.core.value.past
      → StandOn written faults readings t.0 (mid.core.value.past ∷ before) (now.core.value.past ∷ before) moved new)
      (λ i. (one.plan_is i, base_is kept mid one.checkpoint_is i)) two.stands in
      record {
        plan_is = two.plan_is ∙ one.plan_is;
        checkpoint_is = two.checkpoint_is ∙ one.checkpoint_is;
        grown = grown_both kept.core.value.past mid.core.value.past now.core.value.past one.grown two.grown;
        same = same_both old moved new one.same two.same;
        stands = λ before legals base legal first stands.
            then before legals base legal first
            (one.stands before legals base (legal_before kept.core.value.plan (base_of kept.core.value) mid.core.value.past now.core.value.past two.grown legal) first stands);
      }

  -- the next part of a round may begin
  pub can_go_on : (kept now : KeptCore) (old new : Service K C) → CanGoRound kept old → ServesOn written faults readings kept old now new → CanGoRound now new
  can_go_on kept now old new can goes = record {
    valid = subst (λ (p : Plan). IsValidPlan p) (sym goes.plan_is) can.valid;
    serves = subst (λ (p : Plan). IsServiceOf p new) (sym goes.plan_is) (serves_still kept.core.value.plan old new goes.same can.serves);
  }

  module _ (kept now : KeptCore) (old : Service K C) (can : CanGoRound kept old) where
    abbrev plan : Plan
    plan = kept.core.value.plan

    -- the legality of what there is now, behind segments
    from_there : (before : List (List Row)) → base_of kept.core.value ≡ base_after plan before → IsLegal plan (base_of kept.core.value) now.core.value.past → IsLegal plan (base_after plan before) now.core.value.past
    from_there before base legal = subst (λ (b : Base). IsLegal plan b now.core.value.past) base legal

    -- control has gone on
    pub control_moved : (control : ControlWorker K) → worker_ring control.ends ≡ worker_ring old.control.ends → now.core.value.plan ≡ plan → now.core.value.checkpoint ≡ kept.core.value.checkpoint
        → MadeBy (control_pass plan) kept.core.value.past now.core.value.past
        → ((first : Option K) → HoldsOn kept now (λ segments. WorkerStands written faults plan segments first old.control.ends) (λ segments. WorkerStands written faults plan segments first control.ends))
        → ServesOn written faults readings kept old now (with_control old control)
    control_moved control ring plan_is checkpoint_is made holds = record {
      plan_is = plan_is;
      checkpoint_is = checkpoint_is;
      grown = made_grown (control_pass plan) kept.core.value.past now.core.value.past made;
      same = record { len = refl; room = refl; ports = (same_service old).ports; ring = ring };
      stands = λ before legals base legal first stands. record {
        size = stands.size;
        ports = λ place p k d within.
            let inside : place < length plan.ports = omega (arith, within, stands.size, old.ports.ok.0, can.serves.size) in
            let at = place_there plan place p inside can.valid in
            port_still written faults readings plan before kept.core.value.past now.core.value.past (from_there before base legal) (control_pass plan) made
            (slice_index_or plan.ports place p) (slice_index_or first.sinks place k) (slice_index_or old.ports.items place d)
            (omega (arith, inside, at)) (omega (arith, inside, at)) (stands.ports place p k d within);
        control = holds first.sink before legals base legal stands.control;
        ticker = ticker_still written faults readings plan before kept.core.value.past now.core.value.past (from_there before base legal) (control_pass plan) made first.clock old.ticker.clock (omega arith) stands.ticker;
      };
    }

    -- the ticker has
    pub ticker_moved : (ticker : TickerWorker C) → now.core.value.plan ≡ plan → now.core.value.checkpoint ≡ kept.core.value.checkpoint
        → MadeBy (ticker_pass plan) kept.core.value.past now.core.value.past
        → ((first : C) → HoldsOn kept now (λ segments. TickerStands readings plan segments first old.ticker.clock) (λ segments. TickerStands readings plan segments first ticker.clock))
        → ServesOn written faults readings kept old now (with_ticker old ticker)
    ticker_moved ticker plan_is checkpoint_is made holds = record {
      plan_is = plan_is;
      checkpoint_is = checkpoint_is;
      grown = made_grown (ticker_pass plan) kept.core.value.past now.core.value.past made;
      same = record { len = refl; room = refl; ports = (same_service old).ports; ring = refl };
      stands = λ before legals base legal first stands. record {
        size = stands.size;
        ports = λ place p k d within.
            let inside : place < length plan.ports = omega (arith, within, stands.size, old.ports.ok.0, can.serves.size) in
            let at = place_there plan place p inside can.valid in
            port_still written faults readings plan before kept.core.value.past now.core.value.past (from_there before base legal) (ticker_pass plan) made
            (slice_index_or plan.ports place p) (slice_index_or first.sinks place k) (slice_index_or old.ports.items place d)
            (omega (arith, inside, at)) (omega (arith, inside, at)) (stands.ports place p k d within);
        control = control_still written faults readings plan before kept.core.value.past now.core.value.past (from_there before base legal) (ticker_pass plan) made first.sink old.control.ends (omega arith) stands.control;
        ticker = holds first.clock before legals base legal stands.ticker;
      };
    }

    -- the input or the output at a place has
    module _ (k : ℕ) (within : k < vec_len old.ports) (pass : ℕ) (of : (pass ≡ k) ⊎ (pass ≡ length plan.ports + 2 + k)) where
      abbrev here_of : PortPlan → PortPlan
      here_of p = slice_index_or plan.ports k p

      apart_control : pass ≢ control_pass plan
      apart_control = elim of [ inl input ↦ omega (arith, within, can.serves.size, input) | inr output ↦ omega (arith, output) ]

      apart_ticker : pass ≢ ticker_pass plan
      apart_ticker = elim of [ inl input ↦ omega (arith, within, can.serves.size, input) | inr output ↦ omega (arith, output) ]

      apart_input : (j n : ℕ) → j ≢ k → n ≡ j → j < length plan.ports → pass ≢ n
      apart_input j n other is below = elim of [ inl input ↦ omega (arith, other, is, input) | inr output ↦ omega (arith, is, below, output) ]

      apart_output : (j n : ℕ) → j ≢ k → n ≡ j → j < length plan.ports → pass ≢ length plan.ports + 2 + n
      apart_output j n other is below = elim of [ inl input ↦ omega (arith, within, can.serves.size, input) | inr output ↦ omega (arith, other, is, output) ]

      pub port_moved : (port : PortService K) → now.core.value.plan ≡ plan → now.core.value.checkpoint ≡ kept.core.value.checkpoint → MadeBy pass kept.core.value.past now.core.value.past
          → ((d : PortService K) → ServesSamePort (slice_index_or old.ports.items k d) port)
          → ((p : PortPlan) (first : K) (d : PortService K) → HoldsOn kept now
          (λ segments. PortStands written faults plan segments (here_of p) first (slice_index_or old.ports.items k d))
          (λ segments. PortStands written faults plan segments (here_of p) first port))
          → ServesOn written faults readings kept old now (with_port old k port)
      port_moved port plan_is checkpoint_is made same holds = record {
        plan_is = plan_is;
        checkpoint_is = checkpoint_is;
        grown = made_grown pass kept.core.value.past now.core.value.past made;
        same = same_with old k within port same;
        stands = λ before legals base legal first stands.
            let new : Service K C = with_port old k port in
            let size : length new.ports.items ≡ length old.ports.items = sym new.ports.ok.0 ∙ old.ports.ok.0 in
            record {
              size = size ∙ stands.size;
              ports = λ place p f d below.
                  elim (cases_eq place k) [
                    | inl at ↦
                        subst (λ (j : ℕ). PortStands written faults plan (now.core.value.past ∷ before) (slice_index_or plan.ports j p) (slice_index_or first.sinks j f) (slice_index_or new.ports.items j d)) (sym at)
                        (subst (λ (s : PortService K). PortStands written faults plan (now.core.value.past ∷ before) (here_of p) (slice_index_or first.sinks k f) s) (sym (at_port old k within port d))
                        (holds p (slice_index_or first.sinks k f) d before legals base legal (stands.ports k p f d (omega (arith, below, at)))))
                    | inr other ↦
                        let inside : place < length plan.ports = omega (arith, below, stands.size, old.ports.ok.0, can.serves.size) in
                        let at = place_there plan place p inside can.valid in
                        subst (λ (s : PortService K). PortStands written faults plan (now.core.value.past ∷ before) (slice_index_or plan.ports place p) (slice_index_or first.sinks place f) s)
                        (sym (at_other old k within port d place other))
                        (port_still written faults readings plan before kept.core.value.past now.core.value.past (from_there before base legal) pass made
                        (slice_index_or plan.ports place p) (slice_index_or first.sinks place f) (slice_index_or old.ports.items place d)
                        (apart_input place _ other at inside) (apart_output place _ other at inside) (stands.ports place p f d below))
                  ];
              control = control_still written faults readings plan before kept.core.value.past now.core.value.past (from_there before base legal) pass made first.sink old.control.ends apart_control stands.control;
              ticker = ticker_still written faults readings plan before kept.core.value.past now.core.value.past (from_there before base legal) pass made first.clock old.ticker.clock apart_ticker stands.ticker;
            };
      }

  -- what serves the port at a place of the plan
  module _ (kept : KeptCore) (service : Service K C) (can : CanGoRound kept service) (k : ℕ) (within : k < vec_len service.ports) (s : PortService K)
      (is : (d : PortService K) → s ≡ slice_index_or service.ports.items k d) where
    abbrev plan_here : Plan
    plan_here = kept.core.value.plan

    inside_plan : k < length plan_here.ports
    inside_plan = omega (arith, within, can.serves.size)

    of_plan : (p : PortPlan) → IsPortService (slice_index_or plan_here.ports k p) s
    of_plan p = subst (λ (x : PortService K). IsPortService (slice_index_or plan_here.ports k p) x) (sym (is s)) (can.serves.ports k p s within)

    judge_number : number_of s.judge.port ≡ number_at plan_here k
    judge_number = number_here plan_here.ports k (number_of s.judge.port) inside_plan (λ p. ap (λ (port : Port). number_of port) (of_plan p).judge)

    writer_number : number_of s.writer.port ≡ number_at plan_here k
    writer_number = number_here plan_here.ports k (number_of s.writer.port) inside_plan (λ p. ap (λ (port : Port). number_of port) (of_plan p).writer)

    judge_known : has_port plan_here (number_of s.judge.port) ≡ true
    judge_known = ap (λ (n : ℕ). has_port plan_here n) judge_number ∙ known_at plan_here k inside_plan

    writer_known : has_port plan_here (number_of s.writer.port) ≡ true
    writer_known = ap (λ (n : ℕ). has_port plan_here n) writer_number ∙ known_at plan_here k inside_plan

    judge_place : place_of plan_here (number_of s.judge.port) ≡ k
    judge_place = ap (λ (n : ℕ). place_of plan_here n) judge_number ∙ place_at plan_here k can.valid.ports inside_plan

    writer_place : place_of plan_here (number_of s.writer.port) ≡ k
    writer_place = ap (λ (n : ℕ). place_of plan_here n) writer_number ∙ place_at plan_here k can.valid.ports inside_plan

    -- its judge has gone on
    input_moved : (now : KeptCore) (new : Ingress) → InputGoesOn kept s.judge now new → ServesOn written faults readings kept service now (with_port service k (record { judge = new; writer = s.writer }))
    input_moved now new went =
        let moved : PortService K = record { judge = new; writer = s.writer } in
        let past = kept.core.value.past in
        let past' = now.core.value.past in
        let pass = place_of plan_here (number_of s.judge.port) in
        port_moved kept now service can k within pass (inl judge_place) moved went.goes.plan_is went.goes.checkpoint_is went.goes.made
        (λ d. subst (λ (x : PortService K). ServesSamePort x moved) (is d) (record { judge = went.port; rings = went.rings; writer = (refl, refl) }))
        (λ p first d before legals base legal stands.
        let p' : PortPlan = slice_index_or plan_here.ports k p in
        let here : PortStands written faults plan_here (past ∷ before) p' first s = subst (λ (x : PortService K). PortStands written faults plan_here (past ∷ before) p' first x) (sym (is d)) stands in
        let port : s.judge.port ≡ p'.number = (of_plan p).judge in
        let at = place_there plan_here k p inside_plan can.valid in
        let was = judge_place in
        record {
          input = subst (λ (q : Port). InputStands (number_of q) (past' ∷ before) (was_taken new.taker) (kept_of new.kept)) port
              (went.goes.stands before legals base legal (subst (λ (q : Port). InputStands (number_of q) (past ∷ before) (was_taken s.judge.taker) (kept_of s.judge.kept)) (sym port) here.input));
          output = output_still written faults readings plan_here before past past' (from_there kept now service can before base legal) pass went.goes.made
              p'.format (number_of p'.number) s.writer.begun first s.writer.sink (omega (arith, was, at, inside_plan)) here.output;
        })

    -- its output has
    output_moved : (now : KeptCore) (new : Output K) → new.port ≡ s.writer.port → new.format ≡ s.writer.format → now.core.value.plan ≡ plan_here → now.core.value.checkpoint ≡ kept.core.value.checkpoint
        → MadeBy (egress_pass plan_here (number_of s.writer.port)) kept.core.value.past now.core.value.past
        → ((first : K) → HoldsOn kept now
        (λ segments. OutputStands written faults s.writer.format plan_here (number_of s.writer.port) segments s.writer.begun first s.writer.sink)
        (λ segments. OutputStands written faults s.writer.format plan_here (number_of s.writer.port) segments new.begun first new.sink))
        → ServesOn written faults readings kept service now (with_port service k (record { judge = s.judge; writer = new }))
    output_moved now new same_number same_format plan_is checkpoint_is made holds =
        let moved : PortService K = record { judge = s.judge; writer = new } in
        let past = kept.core.value.past in
        let past' = now.core.value.past in
        let pass = egress_pass plan_here (number_of s.writer.port) in
        port_moved kept now service can k within pass (inr (ap (λ (n : ℕ). length plan_here.ports + 2 + n) writer_place)) moved plan_is checkpoint_is made
        (λ d. subst (λ (x : PortService K). ServesSamePort x moved) (is d) (record { judge = refl; rings = refl; writer = (same_number, same_format) }))
        (λ p first d before legals base legal stands.
        let p' : PortPlan = slice_index_or plan_here.ports k p in
        let here : PortStands written faults plan_here (past ∷ before) p' first s = subst (λ (x : PortService K). PortStands written faults plan_here (past ∷ before) p' first x) (sym (is d)) stands in
        let number : s.writer.port ≡ p'.number = (of_plan p).writer in
        let format : s.writer.format ≡ p'.format = (of_plan p).format in
        let at = place_there plan_here k p inside_plan can.valid in
        record {
          input = input_still written faults readings plan_here before past past' (from_there kept now service can before base legal) pass made (number_of p'.number) (was_taken s.judge.taker) (kept_of s.judge.kept)
              (omega (arith, at, inside_plan)) here.input;
          output = subst (λ (t : Format × Port). OutputStands written faults t.0 plan_here (number_of t.1) (past' ∷ before) new.begun first new.sink) (λ i. (format i, number i))
              (holds first before legals base legal
              (subst (λ (t : Format × Port). OutputStands written faults t.0 plan_here (number_of t.1) (past ∷ before) s.writer.begun first s.writer.sink) (λ i. (sym format i, sym number i)) here.output));
        })

    -- it is as it was
    port_kept : ServesOn written faults readings kept service kept (with_port service k s)
    port_kept =
        port_moved kept kept service can k within k (inl refl) s refl refl (made_none k kept.core.value.past)
        (λ d. subst (λ (x : PortService K). ServesSamePort x s) (is d) (same_port s))
        (λ p first d before legals base legal stands.
        subst (λ (x : PortService K). PortStands written faults plan_here (kept.core.value.past ∷ before) (slice_index_or plan_here.ports k p) first x) (sym (is d)) stands)

  -- by other names of what there is now
  pub serves_as : (first : KeptCore) (start : Service K C) (now now' : KeptCore) (new new' : Service K C) → now' ≡ now → new' ≡ new → ServesOn written faults readings first start now new
      → ServesOn written faults readings first start now' new'
  serves_as first start now now' new new' same same_service serves =
      subst (λ (t : KeptCore × Service K C). ServesOn written faults readings first start t.0 t.1) (λ i. (sym same i, sym same_service i)) serves

  -- One port after the other: the next one is at this place, and is served like this so far.
  module _ (first kept : KeptCore) (start service : Service K C) (can : CanGoRound first start) (so_far : ServesOn written faults readings first start kept service) (k : ℕ) (below : k < vec_len start.ports)
      (s : PortService K) (value : s ≡ slice_index_or service.ports.items k s) where
    can_now : CanGoRound kept service
    can_now = can_go_on first kept start service can so_far

    within_now : k < vec_len service.ports
    within_now = omega (arith, below, so_far.same.len)

    is_there : (d : PortService K) → s ≡ slice_index_or service.ports.items k d
    is_there d = value ∙ get_or_default service.ports.items k s d (omega (arith, within_now, service.ports.ok.0))

    pub judge_has_pass : (core : Machine) → core ≡ kept.core.value → has_port core.plan (number_of s.judge.port) ≡ true
    judge_has_pass core same = ap (λ (m : Machine). has_port m.plan (number_of s.judge.port)) same ∙ judge_known kept service can_now k within_now s is_there

    pub writer_has_pass : (core : Machine) → core ≡ kept.core.value → has_port core.plan (number_of s.writer.port) ≡ true
    writer_has_pass core same = ap (λ (m : Machine). has_port m.plan (number_of s.writer.port)) same ∙ writer_known kept service can_now k within_now s is_there

    pub judge_open : (core : Machine) (ended : Bool) → core ≡ kept.core.value → ended ≡ has_ended (base_of core) (place_of core.plan (number_of s.judge.port)) core.past → ended ≡ false
        → IsOpen kept.core.value.plan (base_of kept.core.value) kept.core.value.past (passes.Ingress s.judge.port)
    judge_open core ended same is runs = record {
      known = judge_known kept service can_now k within_now s is_there;
      running = not_ended core kept.core.value (λ m. place_of m.plan (number_of s.judge.port)) ended same is runs;
    }

    pub writer_open : (core : Machine) (ended : Bool) → core ≡ kept.core.value → ended ≡ has_ended (base_of core) (egress_pass core.plan (number_of s.writer.port)) core.past → ended ≡ false
        → IsOpen kept.core.value.plan (base_of kept.core.value) kept.core.value.past (passes.Egress s.writer.port)
    writer_open core ended same is runs = record {
      known = writer_known kept service can_now k within_now s is_there;
      running = not_ended core kept.core.value (λ m. egress_pass m.plan (number_of s.writer.port)) ended same is runs;
    }

    pub judges_more : (now : KeptCore) (new : Ingress) → InputGoesOn kept s.judge now new → ServesOn written faults readings first start now (with_port service k (record { judge = new; writer = s.writer }))
    judges_more now new went =
        serves_both first kept now start service (with_port service k (record { judge = new; writer = s.writer })) so_far (input_moved kept service can_now k within_now s is_there now new went)

    pub writes_more : (now : KeptCore) (new : Output K) → new.port ≡ s.writer.port → new.format ≡ s.writer.format → now.core.value.plan ≡ kept.core.value.plan → now.core.value.checkpoint ≡ kept.core.value.checkpoint
        → MadeBy (egress_pass kept.core.value.plan (number_of s.writer.port)) kept.core.value.past now.core.value.past
        → ((sink : K) → HoldsOn kept now
        (λ segments. OutputStands written faults s.writer.format kept.core.value.plan (number_of s.writer.port) segments s.writer.begun sink s.writer.sink)
        (λ segments. OutputStands written faults s.writer.format kept.core.value.plan (number_of s.writer.port) segments new.begun sink new.sink))
        → ServesOn written faults readings first start now (with_port service k (record { judge = s.judge; writer = new }))
    writes_more now new number format plan_is checkpoint_is made holds =
        serves_both first kept now start service (with_port service k (record { judge = s.judge; writer = new })) so_far
        (output_moved kept service can_now k within_now s is_there now new number format plan_is checkpoint_is made holds)

    pub stays_more : ServesOn written faults readings first start kept (with_port service k s)
    stays_more = serves_both first kept kept start service (with_port service k s) so_far (port_kept kept service can_now k within_now s is_there)

  -- A segment begins, and is over.

  all_next : (plan : Plan) (before : List (List Row)) (first : Firsts K C) (service : Service K C) → AllStand written faults readings plan before first service → AllStand written faults readings plan ([] ∷ before) first service
  all_next plan before first service stands = record {
    size = stands.size;
    ports = λ place p k d within.
        let one = stands.ports place p k d within in
        let port : PortPlan = slice_index_or plan.ports place p in
        let s : PortService K = slice_index_or service.ports.items place d in
        record {
          input = input_same (number_of port.number) before ([] ∷ before) (was_taken s.judge.taker) (kept_of s.judge.kept) (next_input plan before (number_of port.number)) one.input;
          output = output_same written faults port.format plan (number_of port.number) before ([] ∷ before) (next_output plan before port.format (number_of port.number)) (slice_index_or first.sinks place k) s.writer.sink s.writer.begun one.output;
        };
    control = worker_same written faults plan before ([] ∷ before) (next_control plan before) first.sink service.control.ends stands.control;
    ticker = ticker_next plan before readings first.clock service.ticker.clock stands.ticker;
  }

  pub all_served : (kept now : KeptCore) (old new : Service K C) → kept.core.value.past ≡ [] → ServesOn written faults readings kept old now new → IsLegal now.core.value.plan (base_of now.core.value) now.core.value.past
      → IsFinished now.core.value.plan (base_of now.core.value) now.core.value.past
      → HasServedSegment written faults readings kept.core.value.plan (base_of kept.core.value) old now new
  all_served kept now old new empty serves legal finished =
      let plan = kept.core.value.plan in
      let base = base_of kept.core.value in
      let past = now.core.value.past in
      let same_base : base_of now.core.value ≡ base = base_is kept now serves.checkpoint_is in
      let legal_here : IsLegal plan base past = subst (λ (t : Plan × Base). IsLegal t.0 t.1 past) (λ i. (serves.plan_is i, same_base i)) legal in
      record {
        plan_is = serves.plan_is;
        base_is = same_base;
        legal = legal_here;
        finished = subst (λ (t : Plan × Base). IsFinished t.0 t.1 past) (λ i. (serves.plan_is i, same_base i)) finished;
        same = serves.same;
        stands = λ before legals from first stands.
            serves.stands before legals from legal_here first
            (subst (λ (rows : List Row). AllStand written faults readings plan (rows ∷ before) first old) (sym empty) (all_next plan before first old stands));
      }
