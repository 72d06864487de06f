-- Where learning answers that a read or a write failed, one did.
use Rattle.std.proofs.Common.{◌≡◌, ◌<◌, ◌||◌, ℕ, suc, ◌⊎◌, inl, inr, List, [], ◌∷◌, ◌++◌, Bool, true, false, not, if◌then◌else◌, nat_lt, length, map, filter_map, get_or, refl, sym, ◌∙◌, subst, arith, Option, Some, None}
use Rattle.std.specs.List.{cons_option, list_any}
use Rattle.std.specs.Prelude.{slice_index}
use Rattle.savi_kinds.specs.declared.entry.How.{How}
use Rattle.savi_kinds.specs.declared.entry.How.TheVariants as hows
use Rattle.savi_kinds.specs.declared.entry.Who.TheVariants.{Ingress}
use Rattle.savi_kinds.specs.declared.plan.Plan.{Plan}
use Rattle.savi_kinds.specs.declared.plan.PortPlan.{PortPlan}
use Rattle.savi_kinds.specs.declared.port.Port.{Port}
use Rattle.savi_kinds.specs.Arrivals.{Arrival, Input}
use Rattle.savi_kinds.specs.ValidPlan.{numbers_of}
use Rattle.savi_ends.specs.declared.world.Std.TheVariants.{Out}
use Rattle.savi_ends.specs.declared.world.Ends.{Ends}
use Rattle.savi_ends.specs.Places.{Book, Place, PortKey}
use Rattle.pcap_io.specs.Runs.{ended}
use Rattle.savi_history.specs.Endings.{is_failed_reason, is_malformed_reason}
use Rattle.savi_history.specs.Merges.{enter, merge, merged}
use Rattle.savi_history.specs.Turns.{Turn, Arrives, Ends as EndsTurn, turn_at, turns, port_turns}
use Rattle.run_config.specs.Configs.{EndHasFault}
use Rattle.learn_run.specs.declared.learning.Ending.{Ending}
use Rattle.learn_run.specs.Turns.{learned_text, turn_ending}
use Rattle.switch_ports.specs.Named.{key_among}
use Rattle.switch_run.specs.Causes.{HasReadFault, HasSomeReadFault, TookOrPart, ports_in}
use Rattle.switch_run.specs.Learnings.{IsLearning, IsLearningOf}
use Rattle.switch_run.specs.Session.{IsFileUnread}

or_split : (a b : Bool) → (a || b) ≡ true → (a ≡ true) ⊎ (b ≡ true)
or_split true b is = inl refl
or_split false b is = inr is

or_left : (a b : Bool) → a ≡ true → (a || b) ≡ true
or_left a b is = rw is refl

or_right : (a b : Bool) → b ≡ true → (a || b) ≡ true
or_right true b is = refl
or_right false b is = is

last_any : (a : Bool) → (a || false) ≡ true → a ≡ true
last_any true is = refl
last_any false is = is

kept_some : (a rest b : Bool) → (rest ≡ true → b ≡ true) → (a || rest) ≡ true → (a || b) ≡ true
kept_some true rest b later is = refl
kept_some false rest b later is = later is

-- an element of merged lists is one of one of them

module _ {A : Type 0} (at : A → ℕ) (p : A → Bool) where
  AnyOf : List A → List A → Type 0
  AnyOf xs ys = (list_any p xs ≡ true) ⊎ (list_any p ys ≡ true)

  front_any : (x : A) (xs zs : List A) → (p x ≡ true) ⊎ AnyOf xs zs → AnyOf (x ∷ xs) zs
  unfolding AnyOf
  front_any x xs zs (inl is) = inl (or_left (p x) (list_any p xs) is)
  front_any x xs zs (inr (inl is)) = inl (or_right (p x) (list_any p xs) is)
  front_any x xs zs (inr (inr is)) = inr is

  behind_any : (x y : A) (xs ys : List A) → (p y ≡ true) ⊎ AnyOf (x ∷ xs) ys → AnyOf (x ∷ xs) (y ∷ ys)
  unfolding AnyOf
  behind_any x y xs ys (inl is) = inr (or_left (p y) (list_any p ys) is)
  behind_any x y xs ys (inr (inl is)) = inl is
  behind_any x y xs ys (inr (inr is)) = inr (or_right (p y) (list_any p ys) is)

  either : {X Y Z : Type 0} → X ⊎ Y → (Y → Z) → X ⊎ Z
  either (inl x) f = inl x
  either (inr y) f = inr (f y)

  any_step : (x y : A) (xs ys : List A) (rest : List A → List A) (b : Bool) → ((zs : List A) → list_any p (rest zs) ≡ true → AnyOf xs zs) → (list_any p (enter at x rest ys) ≡ true → AnyOf (x ∷ xs) ys)
      → list_any p (if b then y ∷ enter at x rest ys else x ∷ rest (y ∷ ys)) ≡ true → AnyOf (x ∷ xs) (y ∷ ys)
  any_step x y xs ys rest true of_rest of_enter is = behind_any x y xs ys (either (or_split (p y) (list_any p (enter at x rest ys)) is) of_enter)
  any_step x y xs ys rest false of_rest of_enter is = front_any x xs (y ∷ ys) (either (or_split (p x) (list_any p (rest (y ∷ ys))) is) (of_rest (y ∷ ys)))

  any_enter : (x : A) (xs : List A) (rest : List A → List A) (ys : List A) → ((zs : List A) → list_any p (rest zs) ≡ true → AnyOf xs zs) → list_any p (enter at x rest ys) ≡ true → AnyOf (x ∷ xs) ys
  any_enter x xs rest [] of_rest is = front_any x xs [] (either (or_split (p x) (list_any p (rest [])) is) (of_rest []))
  any_enter x xs rest (y ∷ ys) of_rest is = any_step x y xs ys rest (nat_lt (at y) (at x)) of_rest (any_enter x xs rest ys of_rest) is

  any_merge : (xs ys : List A) → list_any p (merge at xs ys) ≡ true → AnyOf xs ys
  unfolding AnyOf
  any_merge [] ys is = inr is
  any_merge (x ∷ xs) ys is = any_enter x xs (merge at xs) ys (any_merge xs) is

-- the end of an input for a reason of these

module _ (reason : How → Bool) where
  abbrev fails_so : Option Ending → Bool
  fails_so None = false
  fails_so (Some e) = reason e.how

  abbrev fails_turn : Turn → Bool
  fails_turn turn = fails_so (turn_ending turn)

  -- one of the ends that are kept of turns is one of the turns
  kept_step : (o : Option Ending) (rest : List Ending) (b : Bool) → (list_any (λ (e : Ending). reason e.how) rest ≡ true → b ≡ true) → list_any (λ (e : Ending). reason e.how) (cons_option o rest) ≡ true → (fails_so o || b) ≡ true
  kept_step None rest b later is = later is
  kept_step (Some e) rest b later is = kept_some (reason e.how) (list_any (λ (x : Ending). reason x.how) rest) b later is

  kept_any : (xs : List Turn) → list_any (λ (e : Ending). reason e.how) (filter_map turn_ending xs) ≡ true → list_any fails_turn xs ≡ true
  kept_any [] is = is
  kept_any (x ∷ xs) is = kept_step (turn_ending x) (filter_map turn_ending xs) (list_any fails_turn xs) (kept_any xs) is

  turns_any : (port : Port) (arrivals : List Arrival) (ending : How) → list_any fails_turn (map (λ a. Arrives port a) arrivals ++ EndsTurn (Ingress port) ending ∷ []) ≡ true → reason ending ≡ true
  turns_any port [] ending is = last_any (reason ending) is
  turns_any port (a ∷ arrivals) ending is = turns_any port arrivals ending is

  -- an input among these, one for each of so many ports, ended so
  abbrev pub FailsAt : ℕ → List Input → Type 0
  FailsAt count inputs = (k : ℕ) × (k < count) × ((i : Input) → reason (get_or inputs k i).ending ≡ true)

  fails_more : (q : PortPlan) (plans : List PortPlan) (j : Input) (inputs : List Input) → AnyOf turn_at fails_turn (turns q.number j) (merged turn_at (port_turns plans inputs)) → (list_any fails_turn (merged turn_at (port_turns plans inputs)) ≡ true → FailsAt (length plans) inputs) → FailsAt (length (q ∷ plans)) (j ∷ inputs)
  unfolding AnyOf
  fails_more q plans j inputs (inl here) later = (0, omega arith, λ i. turns_any q.number j.arrivals j.ending here)
  fails_more q plans j inputs (inr behind) later =
      let more = later behind in
      let below = more.1 in
      (suc more.0, omega (arith, below), λ i. more.2 i)

  fails_among : (plans : List PortPlan) (inputs : List Input) → length inputs ≡ length plans → list_any fails_turn (merged turn_at (port_turns plans inputs)) ≡ true → FailsAt (length plans) inputs
  fails_among [] inputs size is = let t : false ≡ true = is in cc
  fails_among (q ∷ plans) [] size is = absurd (omega arith)
  fails_among (q ∷ plans) (j ∷ inputs) size is =
      fails_more q plans j inputs (any_merge turn_at fails_turn (turns q.number j) (merged turn_at (port_turns plans inputs)) is) (fails_among plans inputs (omega arith))

  -- inputs of ports of which one is among the endings hold one that ended so
  pub ends_among : (plans : List PortPlan) (inputs : List Input) (endings : List Ending) → length inputs ≡ length plans → endings ≡ filter_map turn_ending (merged turn_at (port_turns plans inputs))
      → list_any (λ (e : Ending). reason e.how) endings ≡ true → FailsAt (length plans) inputs
  ends_among plans inputs endings size are is =
      fails_among plans inputs size (kept_any (merged turn_at (port_turns plans inputs)) (subst (λ (es : List Ending). list_any (λ (e : Ending). reason e.how) es ≡ true) are is))

failed_is : (how : How) → is_failed_reason how ≡ true → how ≡ hows.Failed
failed_is hows.End is = let t : false ≡ true = is in cc
failed_is hows.Quit is = let t : false ≡ true = is in cc
failed_is (hows.Malformed at) is = let t : false ≡ true = is in cc
failed_is (hows.Overlong at) is = let t : false ≡ true = is in cc
failed_is hows.Failed is = refl
failed_is hows.Unwritten is = let t : false ≡ true = is in cc
failed_is hows.Paused is = let t : false ≡ true = is in cc

five_by : (f w m : Bool) → ◌≡◌ {A = ℕ} (if f then 5 else if w then 6 else if m then 4 else 0) 5 → f ≡ true
five_by true w m is = refl
five_by false true m is = let t : ◌≡◌ {A = ℕ} 6 5 = is in absurd (omega (arith, t))
five_by false false true is = let t : ◌≡◌ {A = ℕ} 4 5 = is in absurd (omega (arith, t))
five_by false false false is = let t : ◌≡◌ {A = ℕ} 0 5 = is in absurd (omega (arith, t))

six_by : (f w m : Bool) → ◌≡◌ {A = ℕ} (if f then 5 else if not w then 6 else if m then 4 else 0) 6 → w ≡ false
six_by true w m is = let t : ◌≡◌ {A = ℕ} 5 6 = is in absurd (omega (arith, t))
six_by false false m is = refl
six_by false true true is = let t : ◌≡◌ {A = ℕ} 4 6 = is in absurd (omega (arith, t))
six_by false true false is = let t : ◌≡◌ {A = ℕ} 0 6 = is in absurd (omega (arith, t))

kept_fault : {X : Type 0} (faults : X → ℕ) (place : Place X) (x : X) → place.stands ≡ Some x → 0 < faults x → EndHasFault faults place
kept_fault faults place x kept fault = rw kept fault

module _ {S K C : Type 0} (left : S → Option (List ℕ)) (written : K → Option (List ℕ)) (source_faults : S → ℕ) (sink_faults : K → ℕ) (window : ℕ) (Says : List ℕ → Type 0) (old new : Book S K C) (status : ℕ) where
  read_failed : (plan : Plan) → IsLearningOf left written source_faults sink_faults plan window Says old new status → status ≡ 5 → (port : PortKey) × HasReadFault source_faults new port
  read_failed plan l five =
      let failed : list_any (λ (e : Ending). is_failed_reason e.how) l.endings ≡ true = five_by (list_any (λ (e : Ending). is_failed_reason e.how) l.endings) (not l.text_written) (list_any (λ (e : Ending). is_malformed_reason e.how) l.endings) (sym l.cause ∙ five) in
      let among = ends_among is_failed_reason plan.ports l.learns.inputs l.endings l.learns.size l.learns.ended failed in
      let at = l.learns.each among.0 (ended hows.End) among.1 in
      let rose = at.holds.broken (failed_is _ (among.2 (ended hows.End))) in
      let number = slice_index (numbers_of plan.ports) among.0 in
      (key_among plan.ports number, kept_fault (λ (e : Ends S K C). source_faults e.source) (ports_in plan new number) at.back at.kept (omega (arith, rose)))

  pub learned_read : (file : List ℕ) → status ≡ 5 → IsFileUnread left source_faults file Says old new status ⊎ IsLearning left written source_faults sink_faults file window Says old new status → HasSomeReadFault source_faults file new
  learned_read file five (inl unread) = inl unread.fault
  learned_read file five (inr l) = inr (inl (read_failed l.plan l.learning five))

  write_failed : (plan : Plan) → IsLearningOf left written source_faults sink_faults plan window Says old new status → status ≡ 6 → EndHasFault sink_faults (new.std Out)
  write_failed plan l six =
      let unwritten : l.text_written ≡ false = six_by (list_any (λ (e : Ending). is_failed_reason e.how) l.endings) l.text_written (list_any (λ (e : Ending). is_malformed_reason e.how) l.endings) (sym l.cause ∙ six) in
      let at = l.learns.text in
      let part = subst (λ (b : Bool). TookOrPart sink_faults written b (learned_text plan window l.learns.inputs) at.handed at.back) unwritten at.holds in
      kept_fault sink_faults (new.std Out) at.back at.kept part.0

  pub learned_write : (file : List ℕ) → status ≡ 6 → IsFileUnread left source_faults file Says old new status ⊎ IsLearning left written source_faults sink_faults file window Says old new status → EndHasFault sink_faults (new.std Out)
  learned_write file six (inl unread) = let five : status ≡ 5 = unread.status_is in absurd (omega (arith, five, six))
  learned_write file six (inr l) = write_failed l.plan l.learning six
