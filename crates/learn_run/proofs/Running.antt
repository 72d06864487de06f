-- The state of learning between two turns.
use Rattle.std.proofs.Common.{◌≡◌, ◌≢◌, ℕ, zero, suc, ◌+◌, ◌-◌, ◌<◌, ◌≤◌, List, [], ◌∷◌, ◌++◌, length, length-set, map, get_or, set, refl, sym, ap, ◌∙◌, subst, arith, ◌⊎◌, inl, inr, Option, Some, None, IfSome, IsSome, vec_capacity}
use Rattle.std.proofs.lemmas.Bool.{cases_eq, cases_lt}
use Rattle.std.proofs.lemmas.List.{length-map, length-append, get_or-map, get_or_default, get_or_past, get_or-set_same, get_or-set_other, map-set}
use Rattle.std.specs.List.{All}
use Rattle.savi_kinds.specs.declared.port.Port.{Port}
use Rattle.savi_kinds.specs.declared.plan.Plan.{Plan}
use Rattle.savi_kinds.specs.declared.plan.PortPlan.{PortPlan}
use Rattle.savi_kinds.specs.Arrivals.{Input}
use Rattle.savi_ends.specs.declared.sink.Put.{Put}
use Rattle.pcap_io.specs.Readers.{Comes}
use Rattle.savi_history.specs.Merges.{merged}
use Rattle.savi_history.specs.Picks.{IsLeast}
use Rattle.savi_history.specs.Turns.{Turn, turn_at, turns}
use Rattle.savi_segments.proofs.Reaching.{Head, Known, Done}
use Rattle.port_worker.specs.declared.port_ends.Ahead.{Ahead}
use Rattle.port_worker.specs.declared.port_ends.Ahead.TheVariants as ahead
use Rattle.port_worker.specs.declared.port_ends.PortEnds.{PortEnds}
use Rattle.port_worker.specs.Inputs.{IsReadAhead, IsLooked, IsSoundAhead, turn_ahead, turn_of, turn_moment}
use Rattle.port_worker.specs.Pairs.{EachPair}
use Rattle.port_worker.specs.PortTurns.{ahead_passed}
use Rattle.port_worker.specs.Replays.{IsUnread, ports_held, ports_planned}
use Rattle.port_worker.specs.Served.{IsSamePort}
use Rattle.port_worker.proofs.Fitting.{same_turn}
use Rattle.port_worker.proofs.Later.{behind_none}
use Rattle.port_worker.proofs.Planned.{count_is}
use Rattle.port_worker.proofs.Progress.{head_of, head_ahead, turn_at_moment, done_at_none}
use Rattle.port_worker.proofs.Running.{head_at, element, moments_same, all_read}
use Rattle.ra_learn.specs.Printed.{PortArrival, advert_lines, printed, sightings_of}
use Rattle.ra_learn.specs.Reports.{HasReported, Wrote}
use Rattle.learn_run.specs.declared.learning.Learning.{Learning}
use Rattle.learn_run.specs.declared.learning.Ending.{Ending}
use Rattle.learn_run.specs.Begun.{IsBegun}
use Rattle.learn_run.specs.Learning.{IsHeard, LearnsEnds}
use Rattle.learn_run.specs.TakenTurns.{IsTurnTaken, passed as passed_of}
use Rattle.learn_run.specs.Turns.{arrivals_of, endings_of, turns_in_order}
use Rattle.learn_run.proofs.Hearing.{Hears, hears_start, hears_looked, hears_passed, heard, turns_are}
use Rattle.learn_run.proofs.Measuring.{left_of, left_most, left_set, look_less, pass_less}
use Rattle.learn_run.proofs.Taking.{IsRest, Reaches, nothing_of, nothing_at, nothing_size, reaches_start, reaches_looked, reaches_take, reaches_end}
use Rattle.learn_run.proofs.Telling.{arrivals_more, endings_more, input_of, turns_again}
use Rattle.learn_run.proofs.Undone.{undone, undone_same, weight}

pub record Running {S K C O : Type 0} (left : S → Option (List ℕ)) (source_faults : S → ℕ) (written : O → Option (List ℕ)) (faults : O → ℕ) (plan : Plan) (first ports : List (PortEnds S K C)) (old new : Learning) (out out' : O) : Type 0 where
  pub past : List Turn
  pub taken : List (List Turn)
  pub taken_size : length taken ≡ length first
  pub size : length ports ≡ length first
  pub reaches : Reaches (map head_of ports) taken past
  pub each : (k : ℕ) (d : PortEnds S K C) → k < length first → Hears left source_faults (get_or first k d) (get_or ports k d) (get_or taken k [])
  pub endings : new.endings.items ≡ endings_of past
  pub room : length new.endings.items + undone ports ≡ length first
  pub capacity : vec_capacity old.endings ≤ vec_capacity new.endings
  pub tells : (window : ℕ) → IsBegun plan window old → HasReported plan window (arrivals_of past) new.report
  pub wrote : (window : ℕ) → IsBegun plan window old → Wrote (advert_lines plan window (sightings_of plan (arrivals_of past))) new.report.put (written out) (written out') (faults out) (faults out')

-- how many inputs aren't done

weight_open : (a : Ahead) → a ≢ ahead.Done → weight a ≡ 1
weight_open ahead.Unread other = refl
weight_open (ahead.Frame stamp len) other = refl
weight_open (ahead.Long stamp len) other = refl
weight_open ahead.End other = refl
weight_open (ahead.Malformed at) other = refl
weight_open ahead.Failed other = refl
weight_open ahead.Done other = absurd (other refl)

unread_open : (a : Ahead) → a ≡ ahead.Unread → a ≢ ahead.Done
unread_open a unread done = cc

look_weight_known : {S K C : Type 0} (p q : PortEnds S K C) (a : Ahead) → p.ahead ≡ a → IsReadAhead a → (IsReadAhead p.ahead → q ≡ p) → weight q.ahead ≡ weight p.ahead
look_weight_known {S} {K} {C} p q a is known same = ap (λ (r : PortEnds S K C). weight r.ahead) (same (subst IsReadAhead (sym is) known))

look_weight : {S K C : Type 0} (left : S → Option (List ℕ)) (faults : S → ℕ) (p q : PortEnds S K C) (a : Ahead) → p.ahead ≡ a → IsLooked left faults p q → weight q.ahead ≡ weight p.ahead
look_weight left faults p q ahead.Unread is looked =
    weight_open q.ahead (λ done. unread_open p.ahead is (looked.done done)) ∙ sym (weight_open p.ahead (unread_open p.ahead is))
look_weight left faults p q (ahead.Frame stamp len) is looked = look_weight_known p q (ahead.Frame stamp len) is tt looked.same
look_weight left faults p q (ahead.Long stamp len) is looked = look_weight_known p q (ahead.Long stamp len) is tt looked.same
look_weight left faults p q ahead.End is looked = look_weight_known p q ahead.End is tt looked.same
look_weight left faults p q (ahead.Malformed at) is looked = look_weight_known p q (ahead.Malformed at) is tt looked.same
look_weight left faults p q ahead.Failed is looked = look_weight_known p q ahead.Failed is tt looked.same
look_weight left faults p q ahead.Done is looked = look_weight_known p q ahead.Done is tt looked.same

undone_set : {S K C : Type 0} (ports : List (PortEnds S K C)) (j : ℕ) (d q : PortEnds S K C) → j < length ports → undone (set ports j q) + weight (get_or ports j d).ahead ≡ undone ports + weight q.ahead
undone_set [] j d q inside = absurd (omega arith)
undone_set (p ∷ ports) zero d q inside = omega arith
undone_set (p ∷ ports) (suc j) d q inside = let later = undone_set ports j d q (omega arith) in omega arith

undone_some : {S K C : Type 0} (ports : List (PortEnds S K C)) (j : ℕ) (d : PortEnds S K C) → j < length ports → weight (get_or ports j d).ahead ≤ undone ports
undone_some [] j d inside = absurd (omega arith)
undone_some (p ∷ ports) zero d inside = omega arith
undone_some (p ∷ ports) (suc j) d inside = let later = undone_some ports j d (omega arith) in omega arith

-- an end is noted exactly where the input is done by it
ended_weight : (port : Port) (buf : List ℕ) (a : Ahead) (turn : Turn) → turn_ahead port buf a ≡ Some turn → length (endings_of (turn ∷ [])) + weight (ahead_passed a) ≡ 1
ended_weight port buf ahead.Unread turn is = cc
ended_weight port buf (ahead.Frame stamp len) turn is = rw (same_turn _ turn is) refl
ended_weight port buf (ahead.Long stamp len) turn is = rw (same_turn _ turn is) refl
ended_weight port buf ahead.End turn is = rw (same_turn _ turn is) refl
ended_weight port buf (ahead.Malformed at) turn is = rw (same_turn _ turn is) refl
ended_weight port buf ahead.Failed turn is = rw (same_turn _ turn is) refl
ended_weight port buf ahead.Done turn is = cc

turn_weight : (port : Port) (buf : List ℕ) (a : Ahead) (turn : Turn) → turn_ahead port buf a ≡ Some turn → weight a ≡ 1
turn_weight port buf ahead.Unread turn is = cc
turn_weight port buf (ahead.Frame stamp len) turn is = refl
turn_weight port buf (ahead.Long stamp len) turn is = refl
turn_weight port buf ahead.End turn is = refl
turn_weight port buf (ahead.Malformed at) turn is = refl
turn_weight port buf ahead.Failed turn is = refl
turn_weight port buf ahead.Done turn is = cc

-- the heads of the inputs

-- the turns that may be left where more is known may be left where less is
rest_known : {S K C : Type 0} (p q : PortEnds S K C) (a : Ahead) (rest : List Turn) → p.ahead ≡ a → IsReadAhead a → (IsReadAhead p.ahead → q ≡ p) → IsRest (head_of q) rest → IsRest (head_of p) rest
rest_known {S} {K} {C} p q a rest is known same there = subst (λ (r : PortEnds S K C). IsRest (head_of r) rest) (same (subst IsReadAhead (sym is) known)) there

rest_unread : (port : Port) (buf : List ℕ) (a : Ahead) (rest : List Turn) → a ≡ ahead.Unread → IsRest (head_ahead port buf a) rest
rest_unread port buf a rest is = rw is tt

rest_less : {S K C : Type 0} (p q : PortEnds S K C) (a : Ahead) (rest : List Turn) → p.ahead ≡ a → (IsReadAhead p.ahead → q ≡ p) → IsRest (head_of q) rest → IsRest (head_of p) rest
rest_less p q ahead.Unread rest is same there = rest_unread p.port p.buf p.ahead rest is
rest_less p q (ahead.Frame stamp len) rest is same there = rest_known p q (ahead.Frame stamp len) rest is tt same there
rest_less p q (ahead.Long stamp len) rest is same there = rest_known p q (ahead.Long stamp len) rest is tt same there
rest_less p q ahead.End rest is same there = rest_known p q ahead.End rest is tt same there
rest_less p q (ahead.Malformed at) rest is same there = rest_known p q (ahead.Malformed at) rest is tt same there
rest_less p q ahead.Failed rest is same there = rest_known p q ahead.Failed rest is tt same there
rest_less p q ahead.Done rest is same there = rest_known p q ahead.Done rest is tt same there

-- the place of a port among all inputs is behind control's
pub least_port : (numbers : List (Option ℕ)) (place : ℕ) → IsLeast (None ∷ numbers) place → (suc (place - 1) ≡ place) × IsLeast numbers (place - 1)
least_port numbers zero least = let there : None ≡ Some least.least = least.there in cc
least_port numbers (suc place) least = (
  omega arith,
  subst (λ (n : ℕ). IsLeast numbers n) (omega arith) (record {
    inside = let inside = least.inside in omega arith;
    least = least.least;
    there = least.there;
    before = λ other lower. least.before (suc other) (omega arith);
    behind = λ other higher. least.behind (suc other) (omega arith);
  }),
)

module _ {S K C O : Type 0} (left : S → Option (List ℕ)) (source_faults : S → ℕ) (written : O → Option (List ℕ)) (faults : O → ℕ) (plan : Plan) (first : List (PortEnds S K C)) (old : Learning) (out : O) where
  abbrev Runs : List (PortEnds S K C) → Learning → O → Type 0
  Runs ports new out' = Running left source_faults written faults plan first ports old new out out'

  undone_first : (ports : List (PortEnds S K C)) → ((k : ℕ) (d : PortEnds S K C) → k < length ports → IsUnread (get_or ports k d)) → undone ports ≡ length ports
  undone_first [] unread = refl
  undone_first (p ∷ ports) unread =
      let here : p.ahead ≡ ahead.Unread = (unread 0 p (omega arith)).0 in
      let one : weight p.ahead ≡ 1 = ap weight here in
      let later = undone_first ports (λ k d inside. unread (suc k) d (omega arith)) in
      omega arith

  pub running_start : All IsUnread first → (window : ℕ) × IsBegun plan window old → Runs first old out
  running_start unread begun = record {
    past = [];
    taken = nothing_of first;
    taken_size = nothing_size first;
    size = refl;
    reaches = reaches_start (map head_of first) first (length-map first head_of);
    each = λ k d inside. rw (nothing_at first k) (hears_start left source_faults (get_or first k d) (unread k d inside));
    endings = begun.1.none;
    room = let none = ap (λ (l : List Ending). length l) begun.1.none in let all = undone_first first unread in omega arith;
    capacity = omega arith;
    tells = λ window is. is.tells;
    wrote = λ window is. rw is.put (record { took = behind_none (written out); later = omega arith; cause = λ failed. cc; still = λ done. refl });
  }

  module _ (ports looked : List (PortEnds S K C)) (new : Learning) (out' : O) (r : Runs ports new out') (look : EachPair (IsLooked left source_faults) ports looked) where
    size_looked : length looked ≡ length first
    size_looked = look.size ∙ r.size

    rest_at : (k : ℕ) (rest : List Turn) → (k < length ports) ⊎ (length ports ≤ k) → IsRest (get_or (map head_of looked) k Done) rest → IsRest (get_or (map head_of ports) k Done) rest
    rest_at k rest (inl inside) there =
        let d = element ports k inside in
        let size = look.size in
        rw (head_at ports k d Done inside)
        (rest_less (get_or ports k d) (get_or looked k d) (get_or ports k d).ahead rest refl (look.each k d inside).same
        (subst (λ (h : Head). IsRest h rest) (head_at looked k d Done (omega arith)) there))
    rest_at k rest (inr outside) there =
        let sizes = length-map ports head_of in
        let sizes_looked = length-map looked head_of in
        let size = look.size in
        rw (get_or_past (map head_of ports) k Done (omega arith)) (subst (λ (h : Head). IsRest h rest) (get_or_past (map head_of looked) k Done (omega arith)) there)

    pub looked_less : left_of looked ≤ left_of ports
    looked_less = left_most ports looked look.size (λ k d within. look_less left source_faults (get_or ports k d) (get_or looked k d) (look.each k d within))

    pub running_looked : Runs looked new out'
    running_looked = record {
      past = r.past;
      taken = r.taken;
      taken_size = r.taken_size;
      size = size_looked;
      reaches = reaches_looked (map head_of ports) (map head_of looked) r.taken r.past (length-map looked head_of ∙ look.size ∙ sym (length-map ports head_of)) (λ k rest. rest_at k rest (cases_lt k (length ports))) r.reaches;
      each = λ k d inside.
          let size = r.size in
          hears_looked left source_faults (get_or first k d) (get_or ports k d) (get_or looked k d) (get_or r.taken k []) (look.each k d (omega arith)) (r.each k d inside);
      endings = r.endings;
      room =
          let same = undone_same ports looked look.size (λ k d inside. look_weight left source_faults (get_or ports k d) (get_or looked k d) (get_or ports k d).ahead refl (look.each k d inside)) in
          let room = r.room in
          omega arith;
      capacity = r.capacity;
      tells = r.tells;
      wrote = r.wrote;
    }

  -- the turn of the port at a place
  module _ (ports : List (PortEnds S K C)) (new : Learning) (out' : O) (r : Runs ports new out') (known : All (λ p. IsReadAhead p.ahead) ports) (j : ℕ) (least : IsLeast (map turn_moment ports) j) where
    pub inside : j < length ports
    inside = let inside = least.inside in let size = length-map ports turn_moment in omega arith

    pub turn_here : (d : PortEnds S K C) → (turn : Turn) × (turn_of (get_or ports j d) ≡ Some turn) × (head_of (get_or ports j d) ≡ Known turn)
    turn_here d =
        let p = get_or ports j d in
        turn_at_moment p.port p.buf p.ahead least.least (sym (get_or-map turn_moment ports j d None inside) ∙ least.there)

    pub is_some_turn : (d : PortEnds S K C) → IsSome (turn_of (get_or ports j d))
    is_some_turn d = rw (turn_here d).1 refl

    pub sound_here : (d : PortEnds S K C) → IsSoundAhead (get_or ports j d).reader (get_or ports j d).ahead
    sound_here d = let size = r.size in (r.each j d (omega (arith, size, inside))).sound

    pub has_room : length plan.ports ≤ vec_capacity old.endings → length first ≡ length plan.ports → length new.endings.items < vec_capacity new.endings
    has_room room count =
        let d = element ports j inside in
        let p = get_or ports j d in
        let t = turn_here d in
        let one : weight p.ahead ≡ 1 = turn_weight p.port p.buf p.ahead t.0 t.1 in
        let some = undone_some ports j d inside in
        let all = r.room in
        let more = r.capacity in
        omega arith

    pub fewer : (d q : PortEnds S K C) → q ≡ record (get_or ports j d) { ahead = ahead_passed (get_or ports j d).ahead } → left_of (set ports j q) < left_of ports
    fewer d q passed =
        let t = turn_here d in
        let less = pass_less (get_or ports j d) q t.0 t.1 passed in
        let both = left_set ports j d q inside in
        omega arith

    module _ (d q : PortEnds S K C) (now : Learning) (out_now : O) (passed : q ≡ record (get_or ports j d) { ahead = ahead_passed (get_or ports j d).ahead }) (took : IfSome (turn_of (get_or ports j d)) (λ turn. IsTurnTaken written faults turn new now out' out_now)) where
      abbrev p : PortEnds S K C
      p = get_or ports j d

      abbrev turn : Turn
      turn = (turn_here d).0

      turn_is : turn_of p ≡ Some turn
      turn_is = (turn_here d).1

      step : IsTurnTaken written faults turn new now out' out_now
      step = subst (λ (o : Option Turn). IfSome o (λ t. IsTurnTaken written faults t new now out' out_now)) turn_is took

      hears_at : (k : ℕ) (e : PortEnds S K C) → k < length first → (k ≡ j) ⊎ (k ≢ j) → Hears left source_faults (get_or first k e) (get_or (set ports j q) k e) (get_or (set r.taken j (get_or r.taken j [] ++ turn ∷ [])) k [])
      hears_at k e within (inl same) =
          let sizes = r.size in
          let taken_sizes = r.taken_size in
          let here : Hears left source_faults (get_or first j e) (get_or ports j d) (get_or r.taken j []) =
          subst (λ (x : PortEnds S K C). Hears left source_faults (get_or first j e) x (get_or r.taken j [])) (get_or_default ports j e d (omega (arith, inside))) (r.each j e (omega (arith, inside))) in
          rw (same, get_or-set_same ports j q e inside, get_or-set_same r.taken j (get_or r.taken j [] ++ turn ∷ []) [] (omega (arith, inside)))
          (hears_passed left source_faults (get_or first j e) (get_or ports j d) q (get_or r.taken j []) turn turn_is passed here)
      hears_at k e within (inr other) =
          rw (get_or-set_other ports j k q e other, get_or-set_other r.taken j k (get_or r.taken j [] ++ turn ∷ []) [] other) (r.each k e within)

      head_here : get_or (map head_of ports) j Done ≡ Known turn
      head_here = head_at ports j d Done inside ∙ (turn_here d).2

      pub running_passed : Runs (set ports j q) now out_now
      running_passed = record {
        past = r.past ++ turn ∷ [];
        taken = set r.taken j (get_or r.taken j [] ++ turn ∷ []);
        taken_size = length-set r.taken j (get_or r.taken j [] ++ turn ∷ []) ∙ r.taken_size;
        size = length-set ports j q ∙ r.size;
        reaches = subst (λ (heads : List Head). Reaches heads (set r.taken j (get_or r.taken j [] ++ turn ∷ [])) (r.past ++ turn ∷ [])) (sym (map-set head_of ports j q))
            (reaches_take (map head_of ports) r.taken r.past j turn (head_of q) head_here (all_read ports known) (subst (λ (l : List (Option ℕ)). IsLeast l j) (sym (moments_same ports)) least) r.reaches);
        each = λ k e within. hears_at k e within (cases_eq k j);
        endings = step.endings ∙ ap (λ (l : List Ending). l ++ endings_of (turn ∷ [])) r.endings ∙ sym (endings_more r.past turn);
        room =
            let size : length now.endings.items ≡ length new.endings.items + length (endings_of (turn ∷ [])) = ap (λ (l : List Ending). length l) step.endings ∙ length-append new.endings.items (endings_of (turn ∷ [])) in
            let left_open = undone_set ports j d q inside in
            let one : weight p.ahead ≡ 1 = turn_weight p.port p.buf p.ahead turn turn_is in
            let noted = ended_weight p.port p.buf p.ahead turn turn_is in
            let is : weight q.ahead ≡ weight (ahead_passed p.ahead) = ap (λ (x : PortEnds S K C). weight x.ahead) passed in
            let room = r.room in
            omega arith;
        capacity = let one = step.capacity in let before = r.capacity in omega arith;
        tells = λ window begun. rw (arrivals_more r.past turn) (step.tells plan window (arrivals_of r.past) (r.tells window begun));
        wrote = λ window begun. rw (arrivals_more r.past turn) (step.wrote plan window (arrivals_of r.past) (written out) (faults out) (r.tells window begun) (r.wrote window begun));
      }

    -- the ports behind the turn
    pub fewer_all : (now : List (PortEnds S K C)) → ((d : PortEnds S K C) → now ≡ set ports j (passed_of (get_or ports j d))) → left_of now < left_of ports
    fewer_all now is =
        let d = element ports j inside in
        subst (λ (l : List (PortEnds S K C)). left_of l < left_of ports) (sym (is d)) (fewer d (passed_of (get_or ports j d)) refl)

    pub passed_all : (now : List (PortEnds S K C)) (learned : Learning) (out_now : O) → ((d : PortEnds S K C) → now ≡ set ports j (passed_of (get_or ports j d))) → ((d : PortEnds S K C) → IfSome (turn_of (get_or ports j d)) (λ turn. IsTurnTaken written faults turn new learned out' out_now)) → Runs now learned out_now
    passed_all now learned out_now is took =
        let d = element ports j inside in
        subst (λ (l : List (PortEnds S K C)). Runs l learned out_now) (sym (is d)) (running_passed d (passed_of (get_or ports j d)) learned out_now refl (took d))

  -- behind the last turn
  module _ (ports : List (PortEnds S K C)) (new : Learning) (out' : O) (planned : ports_held first ≡ ports_planned plan) (r : Runs ports new out') (known : All (λ p. IsReadAhead p.ahead) ports) (none : All (λ n. n ≡ None) (None ∷ map turn_moment ports)) where
    done_at : (k : ℕ) (d : PortEnds S K C) → k < length ports → (get_or ports k d).ahead ≡ ahead.Done
    done_at k d within =
        let sizes = length-map ports turn_moment in
        done_at_none (get_or ports k d).ahead (known k d within) (sym (get_or-map turn_moment ports k d None within) ∙ none (suc k) None (omega arith))

    heads_done : (k : ℕ) → k < length (map head_of ports) → get_or (map head_of ports) k Done ≡ Done
    heads_done k within =
        let sizes = length-map ports head_of in
        let inside_ports : k < length ports = omega arith in
        let d = element ports k inside_ports in
        rw (head_at ports k d Done inside_ports, done_at k d inside_ports) refl

    count : length first ≡ length plan.ports
    count = count_is first plan planned

    port_is : (k : ℕ) (d : PortEnds S K C) (e : PortPlan) → k < length plan.ports → (get_or first k d).port ≡ (get_or plan.ports k e).number
    port_is k d e within =
        sym (get_or-map (λ (p : PortEnds S K C). p.port) first k d e.number (omega (arith, count)))
        ∙ ap (λ (l : List Port). get_or l k e.number) planned
        ∙ get_or-map (λ (p : PortPlan). p.number) plan.ports k e e.number within

    taken_at : (k : ℕ) (e : PortPlan) → k < length plan.ports → get_or r.taken k [] ≡ turns (get_or plan.ports k e).number (input_of (get_or r.taken k []))
    taken_at k e within =
        let size = r.size in
        let inside_first : k < length first = omega (arith, count) in
        let d = element first k inside_first in
        turns_are left source_faults (get_or first k d) (get_or ports k d) (get_or r.taken k []) (r.each k d inside_first) (done_at k d (omega arith))
        ∙ ap (λ (p : Port). turns p (input_of (get_or r.taken k []))) (port_is k d e within)

    abbrev inputs : List Input
    inputs = map input_of r.taken

    past_is : r.past ≡ turns_in_order plan inputs
    past_is =
        reaches_end (map head_of ports) r.taken r.past (r.taken_size ∙ sym r.size ∙ sym (length-map ports head_of)) heads_done r.reaches
        ∙ ap (merged turn_at) (sym (turns_again plan.ports r.taken (r.taken_size ∙ count) taken_at))

    heard_at : (place : ℕ) (i : Input) (d : PortEnds S K C) → place < length plan.ports → IsHeard left source_faults (Comes (get_or first place d).reader) (get_or inputs place i) (get_or first place d).ends (get_or ports place d).ends
    heard_at place i d within =
        let size = r.size in
        let taken_size = r.taken_size in
        let inside_first : place < length first = omega (arith, count) in
        subst (λ (input : Input). IsHeard left source_faults (Comes (get_or first place d).reader) input (get_or first place d).ends (get_or ports place d).ends)
        (sym (get_or-map input_of r.taken place [] i (omega arith)))
        (heard left source_faults (get_or first place d) (get_or ports place d) (get_or r.taken place []) (r.each place d inside_first) (done_at place d (omega arith)))

    pub running_end : (window : ℕ) (put : Put) (out_end : O) → ((arrivals : List PortArrival) (before : Option (List ℕ)) (from : ℕ) → HasReported plan window arrivals new.report
        → Wrote (advert_lines plan window (sightings_of plan arrivals)) new.report.put before (written out') from (faults out')
        → Wrote (printed plan window arrivals) put before (written out_end) from (faults out_end))
        → IsBegun plan window old → LearnsEnds left source_faults written faults plan window new.endings.items put first ports out out_end
    running_end window put out_end finish begun = record {
      inputs = inputs;
      size = length-map r.taken input_of ∙ r.taken_size ∙ count;
      text = subst (λ (l : List Turn). Wrote (printed plan window (arrivals_of l)) put (written out) (written out_end) (faults out) (faults out_end)) past_is
          (finish (arrivals_of r.past) (written out) (faults out) (r.tells window begun) (r.wrote window begun));
      ended = r.endings ∙ ap endings_of past_is;
      each = λ place i within d. heard_at place i d within;
    }

    pub same_ports : EachPair IsSamePort first ports
    same_ports = record { size = r.size; each = λ k d within. (r.each k d within).port }
