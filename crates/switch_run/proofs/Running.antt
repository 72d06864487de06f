-- The books of a run, before and behind each of its steps.
use Rattle.std.proofs.Common.{◌≡◌, ◌≢◌, ℕ, ◌⊎◌, inl, inr, List, refl, sym, ap, ◌∙◌, subst, not, Bool, true, false, Option, Some, IfSome, IsSome}
use Rattle.std.specs.Prelude.{All}
use Rattle.savi_kinds.specs.declared.plan.Plan.{Plan}
use Rattle.savi_kinds.specs.ValidPlan.{numbers_of}
use Rattle.savi_ends.specs.declared.world.Std.TheVariants.{Out, Err}
use Rattle.savi_ends.specs.declared.world.Ends.{Ends}
use Rattle.savi_ends.specs.Faults.{Rose}
use Rattle.savi_ends.specs.Places.{Place, Book, PortKey, ControlKey, OthersStay}
use Rattle.run_config.specs.Configs.{EndHasFault, EndHasNoFault, IsConfigured, IsReadFrom, IsReadThrough, IsRefused}
use Rattle.switch_ports.specs.Named.{control_key, named_by}
use Rattle.switch_run.specs.Causes.{IsBack, IsControlBack, IsOffPlanSame, IsUnserved, IsUnused, IsUnusedOf, IsUntouched, Keeps, KeepsAll, KeepsControl}
use Rattle.switch_run.specs.Runs.{IsRunOf}
use Rattle.switch_run.specs.Live.{IsServeOf, IsServeSession}
use Rattle.switch_run.specs.Session.{IsNoPlan, IsPartUnopened, IsSession, IsSessionOf, IsUnopened, IsUnplayed, IsFileUnread, WasTold, ToldBy}
use Rattle.port_worker.specs.SentFrames.{TookMore}
use Rattle.port_worker.specs.Used.{IsUsed}
use Rattle.switch_run.proofs.Recast.{moved_serve, moved_session, told_at}

err≢out : Err ≢ Out
err≢out e = cc

pub out≢err : Out ≢ Err
out≢err e = cc

-- standard error is opened first and kept last
pub record Ran {S K C : Type 0} (b0 b1 b2 b3 : Book S K C) (e e' : K) : Type 0 where
  pub told : IfSome (b0.std Err).stands (λ t. e ≡ t)
  pub others1 : OthersStay b0.std b1.std Err
  pub rest1 : b1 ≡ record b0 { std = b1.std }
  pub others2 : OthersStay b1.std b2.std Out
  pub kept : (b3.std Err).stands ≡ Some e'
  pub others3 : OthersStay b2.std b3.std Err
  pub rest3 : b3 ≡ record b2 { std = b3.std }

pub ran_told : {S K C : Type 0} (faults : K → ℕ) (written : K → Option (List ℕ)) (b0 b1 b2 b3 : Book S K C) (e e' : K) (lines : List ℕ) → Ran b0 b1 b2 b3 e e' → ToldBy faults written e e' lines → WasTold faults written b0 b3 lines
ran_told faults written b0 b1 b2 b3 e e' lines ran says = told_at faults written b0 b3 e e' lines ran.told ran.kept says

pub ran_open : {S K C : Type 0} (b0 b1 b2 b3 : Book S K C) (e e' : K) → Ran b0 b1 b2 b3 e e' → Rose b1.faults b2.faults → Rose b0.faults b3.faults
ran_open {S} {K} {C} b0 b1 b2 b3 e e' ran rose =
    let first = ap (λ (b : Book S K C). b.faults) ran.rest1 in
    let last = ap (λ (b : Book S K C). b.faults) ran.rest3 in
    subst (λ (n : ℕ). Rose n b3.faults) first (subst (λ (n : ℕ). Rose b1.faults n) (sym last) rose)

pub ran_unfailed : {S K C : Type 0} (b0 b1 b2 b3 : Book S K C) (e e' : K) → Ran b0 b1 b2 b3 e e' → b2.faults ≡ b1.faults → b3.faults ≡ b0.faults
ran_unfailed {S} {K} {C} b0 b1 b2 b3 e e' ran same = ap (λ (b : Book S K C). b.faults) ran.rest3 ∙ same ∙ ap (λ (b : Book S K C). b.faults) ran.rest1

pub ran_quiet : {S K C : Type 0} (b0 b1 b2 b3 : Book S K C) (e e' : K) → Ran b0 b1 b2 b3 e e' → b2.std Out ≡ b1.std Out → b3.std Out ≡ b0.std Out
ran_quiet b0 b1 b2 b3 e e' ran same = ran.others3 Out out≢err ∙ same ∙ ran.others1 Out out≢err

pub ran_untouched : {S K C : Type 0} (b0 b1 b2 b3 : Book S K C) (e e' : K) → Ran b0 b1 b2 b3 e e' → b2 ≡ b1 → IsUntouched b0 b3
ran_untouched {S} {K} {C} b0 b1 b2 b3 e e' ran same = record {
  out = ran_quiet b0 b1 b2 b3 e e' ran (ap (λ (b : Book S K C). b.std Out) same);
  rest = ran.rest3 ∙ ap (λ (b : Book S K C). record b { std = b3.std }) same ∙ ap (λ (b : Book S K C). record b { std = b3.std }) ran.rest1;
}

-- the places of ports, of control, of the ticker and of outputs are the same
pub record SamePlaces {S K C : Type 0} (book book' : Book S K C) : Type 0 where
  pub ports : book'.ports ≡ book.ports
  pub control : book'.control ≡ book.control
  pub ticker : book'.ticker ≡ book.ticker
  pub outputs : book'.outputs ≡ book.outputs

pub same_places : {S K C : Type 0} (book : Book S K C) → SamePlaces book book
same_places book = record { ports = refl; control = refl; ticker = refl; outputs = refl }

ran_before : {S K C : Type 0} (b0 b1 b2 b3 : Book S K C) (e e' : K) → Ran b0 b1 b2 b3 e e' → SamePlaces b1 b0
ran_before {S} {K} {C} b0 b1 b2 b3 e e' ran = record {
  ports = sym (ap (λ (b : Book S K C). b.ports) ran.rest1);
  control = sym (ap (λ (b : Book S K C). b.control) ran.rest1);
  ticker = sym (ap (λ (b : Book S K C). b.ticker) ran.rest1);
  outputs = sym (ap (λ (b : Book S K C). b.outputs) ran.rest1);
}

ran_behind : {S K C : Type 0} (b0 b1 b2 b3 : Book S K C) (e e' : K) → Ran b0 b1 b2 b3 e e' → SamePlaces b2 b3
ran_behind {S} {K} {C} b0 b1 b2 b3 e e' ran = record {
  ports = ap (λ (b : Book S K C). b.ports) ran.rest3;
  control = ap (λ (b : Book S K C). b.control) ran.rest3;
  ticker = ap (λ (b : Book S K C). b.ticker) ran.rest3;
  outputs = ap (λ (b : Book S K C). b.outputs) ran.rest3;
}

-- the reading of a configuration touches none of them
pub read_before : {S K C : Type 0} (b0 b1 : Book S K C) → b1 ≡ record b0 { faults = b1.faults; inputs = b1.inputs } → SamePlaces b1 b0
read_before {S} {K} {C} b0 b1 rest = record {
  ports = sym (ap (λ (b : Book S K C). b.ports) rest);
  control = sym (ap (λ (b : Book S K C). b.control) rest);
  ticker = sym (ap (λ (b : Book S K C). b.ticker) rest);
  outputs = sym (ap (λ (b : Book S K C). b.outputs) rest);
}

pub moved_unused : {S K C : Type 0} (live : Bool) (plan : Plan) (old new old' new' : Book S K C) → SamePlaces old old' → SamePlaces new new' → IsUnusedOf live plan old new → IsUnusedOf live plan old' new'
moved_unused {S} {K} {C} live plan old new old' new' o n unused = record {
  ports = λ port. subst (λ (x : PortKey → Place (Ends S K C)). IsBack (named_by plan.ports old'.ports port) (named_by plan.ports x port)) (sym n.ports) (subst (λ (x : PortKey → Place (Ends S K C)). IsBack (named_by plan.ports x port) (named_by plan.ports new.ports port)) (sym o.ports) (unused.ports port));
  others = λ port away. ap (λ (x : PortKey → Place (Ends S K C)). x port) n.ports ∙ unused.others port away ∙ sym (ap (λ (x : PortKey → Place (Ends S K C)). x port) o.ports);
  control = subst (λ (x : ControlKey → Place (Ends S K C)). IsControlBack live plan.control old'.control x) (sym n.control) (subst (λ (x : ControlKey → Place (Ends S K C)). IsControlBack live plan.control x new.control) (sym o.control) unused.control);
  ticker = subst (λ (x : Place C). IsBack old'.ticker x) (sym n.ticker) (subst (λ (x : Place C). IsBack x new.ticker) (sym o.ticker) unused.ticker);
  outputs = λ name. subst (λ (x : List ℕ → Place K). IsBack (old'.outputs name) (x name)) (sym n.outputs) (subst (λ (x : List ℕ → Place K). IsBack (x name) (new.outputs name)) (sym o.outputs) (unused.outputs name));
}

pub ran_ticker : {S K C : Type 0} (b0 b1 b2 b3 : Book S K C) (e e' : K) → Ran b0 b1 b2 b3 e e' → b2.ticker ≡ b1.ticker → b3.ticker ≡ b0.ticker
ran_ticker {S} {K} {C} b0 b1 b2 b3 e e' ran same = ap (λ (b : Book S K C). b.ticker) ran.rest3 ∙ same ∙ ap (λ (b : Book S K C). b.ticker) ran.rest1

pub ran_inputs : {S K C : Type 0} (b0 b1 b2 b3 : Book S K C) (e e' : K) (file : List ℕ) → Ran b0 b1 b2 b3 e e' → OthersStay b1.inputs b2.inputs file → OthersStay b0.inputs b3.inputs file
ran_inputs {S} {K} {C} b0 b1 b2 b3 e e' file ran same = λ other apart. ap (λ (b : Book S K C). b.inputs other) ran.rest3 ∙ same other apart ∙ ap (λ (b : Book S K C). b.inputs other) ran.rest1

pub inputs_first : {S K C : Type 0} (b0 b1 b2 b3 : Book S K C) (e e' : K) (file : List ℕ) → Ran b0 b1 b2 b3 e e' → b1.inputs file ≡ b0.inputs file
inputs_first {S} {K} {C} b0 b1 b2 b3 e e' file ran = ap (λ (b : Book S K C). b.inputs file) ran.rest1

pub inputs_last : {S K C : Type 0} (b0 b1 b2 b3 : Book S K C) (e e' : K) (file : List ℕ) → Ran b0 b1 b2 b3 e e' → b3.inputs file ≡ b2.inputs file
inputs_last {S} {K} {C} b0 b1 b2 b3 e e' file ran = ap (λ (b : Book S K C). b.inputs file) ran.rest3

ran_input : {S K C : Type 0} (IsRead : Place S → Place S → Type 0) (b0 b1 b2 b3 : Book S K C) (e e' : K) (file : List ℕ) → Ran b0 b1 b2 b3 e e' → IsRead (b1.inputs file) (b2.inputs file) → IsRead (b0.inputs file) (b3.inputs file)
ran_input {S} {K} {C} IsRead b0 b1 b2 b3 e e' file ran read =
    subst (λ (p : Place S). IsRead p (b3.inputs file)) (inputs_first b0 b1 b2 b3 e e' file ran)
    (subst (λ (p : Place S). IsRead (b1.inputs file) p) (sym (inputs_last b0 b1 b2 b3 e e' file ran)) read)

ran_still : {S K C : Type 0} (source_faults : S → ℕ) (b0 b1 b2 b3 : Book S K C) (e e' : K) (file : List ℕ) → Ran b0 b1 b2 b3 e e' → EndHasNoFault source_faults (b2.inputs file) → EndHasNoFault source_faults (b3.inputs file)
ran_still {S} {K} {C} source_faults b0 b1 b2 b3 e e' file ran still = subst (λ (p : Place S). EndHasNoFault source_faults p) (sym (inputs_last b0 b1 b2 b3 e e' file ran)) still

moved_unserved : {S K C : Type 0} (old new old' new' : Book S K C) → SamePlaces old old' → SamePlaces new new' → IsUnserved old new → IsUnserved old' new'
moved_unserved old new old' new' o n unserved = record {
  ports = n.ports ∙ unserved.ports ∙ sym o.ports;
  control = n.control ∙ unserved.control ∙ sym o.control;
  ticker = n.ticker ∙ unserved.ticker ∙ sym o.ticker;
  outputs = n.outputs ∙ unserved.outputs ∙ sym o.outputs;
}

ran_unserved : {S K C : Type 0} (b0 b1 b2 b3 : Book S K C) (e e' : K) → Ran b0 b1 b2 b3 e e' → IsUnserved b1 b2 → IsUnserved b0 b3
ran_unserved b0 b1 b2 b3 e e' ran unserved = moved_unserved b1 b2 b0 b3 (ran_before b0 b1 b2 b3 e e' ran) (ran_behind b0 b1 b2 b3 e e' ran) unserved

pub ran_unused : {S K C : Type 0} (replay : Bool) (left : S → Option (List ℕ)) (b0 b1 b2 b3 : Book S K C) (e e' : K) (file : List ℕ) → Ran b0 b1 b2 b3 e e' → IsUnused replay left file b1 b2 → IsUnused replay left file b0 b3
ran_unused replay left b0 b1 b2 b3 e e' file ran (inl unserved) = inl (ran_unserved b0 b1 b2 b3 e e' ran unserved)
ran_unused {S} {K} {C} replay left b0 b1 b2 b3 e e' file ran (inr (plan, configured, unused)) =
    inr (
      plan,
      subst (λ (p : Place S). IsConfigured replay left p plan) (inputs_first b0 b1 b2 b3 e e' file ran) configured,
      moved_unused (not replay) plan b1 b2 b0 b3 (ran_before b0 b1 b2 b3 e e' ran) (ran_behind b0 b1 b2 b3 e e' ran) unused,
    )

pub ran_config : {S K C : Type 0} (replay : Bool) (left : S → Option (List ℕ)) (source_faults : S → ℕ) (Says Says' : List ℕ → Type 0) (b0 b1 b2 b3 : Book S K C) (e e' : K) (file : List ℕ) → Ran b0 b1 b2 b3 e e' → ((lines : List ℕ) → Says lines → Says' lines) → IsNoPlan replay left source_faults file Says b1 b2 → IsNoPlan replay left source_faults file Says' b0 b3
ran_config {S} {K} {C} replay left source_faults Says Says' b0 b1 b2 b3 e e' file ran says no_plan = record {
  fault = no_plan.fault;
  refused = subst (λ (p : Place S). IsRefused replay left p no_plan.fault) (inputs_first b0 b1 b2 b3 e e' file ran) no_plan.refused;
  input = ran_input (IsReadThrough left) b0 b1 b2 b3 e e' file ran no_plan.input;
  still = ran_still source_faults b0 b1 b2 b3 e e' file ran no_plan.still;
  unserved = ran_unserved b0 b1 b2 b3 e e' ran no_plan.unserved;
  errors = says _ no_plan.errors;
}

-- what is said of the places of a plan, between books of the same places

pub moved_off : {S K C : Type 0} (plan : Plan) (old new old' new' : Book S K C) → SamePlaces old old' → SamePlaces new new' → IsOffPlanSame plan old new → IsOffPlanSame plan old' new'
moved_off {S} {K} {C} plan old new old' new' o n off = record {
  ports = λ port away. ap (λ (x : PortKey → Place (Ends S K C)). x port) n.ports ∙ off.ports port away ∙ sym (ap (λ (x : PortKey → Place (Ends S K C)). x port) o.ports);
  control = λ none. n.control ∙ off.control none ∙ sym o.control;
  outputs = λ other apart. ap (λ (x : List ℕ → Place K). x other) n.outputs ∙ off.outputs other apart ∙ sym (ap (λ (x : List ℕ → Place K). x other) o.outputs);
}

pub moved_keeps : {S K C : Type 0} (live : Bool) (left : S → Option (List ℕ)) (written : K → Option (List ℕ)) (plan : Plan) (old new old' new' : Book S K C) → SamePlaces old old' → SamePlaces new new'
    → KeepsAll live left written plan old new → KeepsAll live left written plan old' new'
moved_keeps {S} {K} {C} live left written plan old new old' new' o n keeps = record {
  ports = subst (λ (x : PortKey → Place (Ends S K C)). All (λ port. Keeps (IsUsed left written) (named_by plan.ports old'.ports port) (named_by plan.ports x port)) (numbers_of plan.ports)) (sym n.ports)
      (subst (λ (x : PortKey → Place (Ends S K C)). All (λ port. Keeps (IsUsed left written) (named_by plan.ports x port) (named_by plan.ports new.ports port)) (numbers_of plan.ports)) (sym o.ports) keeps.ports);
  control = subst (λ (x : ControlKey → Place (Ends S K C)). KeepsControl (IsUsed left written) live plan.control old'.control x) (sym n.control)
      (subst (λ (x : ControlKey → Place (Ends S K C)). KeepsControl (IsUsed left written) live plan.control x new.control) (sym o.control) keeps.control);
  journal = subst (λ (x : List ℕ → Place K). Keeps (λ told kept. TookMore (written told) (written kept)) (old'.outputs plan.journal) (x plan.journal)) (sym n.outputs)
      (subst (λ (x : List ℕ → Place K). Keeps (λ told kept. TookMore (written told) (written kept)) (x plan.journal) (new.outputs plan.journal)) (sym o.outputs) keeps.journal);
}

-- a part of a plan that could not be opened
pub moved_part : {S K C : Type 0} (live : Bool) (plan : Plan) (Says Says' : List ℕ → Type 0) (old new old' new' : Book S K C) → SamePlaces old old' → SamePlaces new new' → ((lines : List ℕ) → Says lines → Says' lines)
    → IsPartUnopened live plan Says old new → IsPartUnopened live plan Says' old' new'
moved_part {S} {K} {C} live plan Says Says' old new old' new' o n says (inl part) = inl (record {
  before = part.before;
  port = part.port;
  later = part.later;
  all = part.all;
  kept = subst (λ (x : PortKey → Place (Ends S K C)). All (λ port. IsSome (named_by plan.ports x port).stands) part.before) (sym n.ports) part.kept;
  same = λ k d inside key is. ap (λ (x : PortKey → Place (Ends S K C)). x key) n.ports ∙ part.same k d inside key is ∙ sym (ap (λ (x : PortKey → Place (Ends S K C)). x key) o.ports);
  control = n.control ∙ part.control ∙ sym o.control;
  outputs = n.outputs ∙ part.outputs ∙ sym o.outputs;
  elsewhere = moved_off plan old new old' new' o n part.elsewhere;
  errors = says _ part.errors;
})
moved_part {S} {K} {C} live plan Says Says' old new old' new' o n says (inr (inl part)) = inr (inl (record {
  named = part.named;
  kept = subst (λ (x : PortKey → Place (Ends S K C)). All (λ port. IsSome (named_by plan.ports x port).stands) (numbers_of plan.ports)) (sym n.ports) part.kept;
  control = n.control ∙ part.control ∙ sym o.control;
  outputs = n.outputs ∙ part.outputs ∙ sym o.outputs;
  elsewhere = moved_off plan old new old' new' o n part.elsewhere;
  errors = says _ part.errors;
}))
moved_part {S} {K} {C} live plan Says Says' old new old' new' o n says (inr (inr part)) = inr (inr (record {
  kept = subst (λ (x : PortKey → Place (Ends S K C)). All (λ port. IsSome (named_by plan.ports x port).stands) (numbers_of plan.ports)) (sym n.ports) part.kept;
  control = subst (λ (x : ControlKey → Place (Ends S K C)). IfSome plan.control (λ names. IsSome (x (control_key live names)).stands)) (sym n.control) part.control;
  outputs = λ name. ap (λ (x : List ℕ → Place K). x name) n.outputs ∙ part.outputs name ∙ sym (ap (λ (x : List ℕ → Place K). x name) o.outputs);
  elsewhere = moved_off plan old new old' new' o n part.elsewhere;
  errors = says _ part.errors;
}))

pub ran_unopened : {S K C : Type 0} (replay : Bool) (left : S → Option (List ℕ)) (source_faults : S → ℕ) (Says Says' : List ℕ → Type 0) (b0 b1 b2 b3 : Book S K C) (e e' : K) (file : List ℕ) → Ran b0 b1 b2 b3 e e' → ((lines : List ℕ) → Says lines → Says' lines) → IsUnopened replay left source_faults file Says b1 b2 → IsUnopened replay left source_faults file Says' b0 b3
ran_unopened replay left source_faults Says Says' b0 b1 b2 b3 e e' file ran says (inl unopened) = inl (record {
  errors = says _ unopened.errors;
  place = inputs_last b0 b1 b2 b3 e e' file ran ∙ unopened.place ∙ inputs_first b0 b1 b2 b3 e e' file ran;
  unserved = ran_unserved b0 b1 b2 b3 e e' ran unopened.unserved;
})
ran_unopened {S} {K} {C} replay left source_faults Says Says' b0 b1 b2 b3 e e' file ran says (inr unopened) =
    inr (record {
      plan = unopened.plan;
      configured = subst (λ (p : Place S). IsConfigured replay left p unopened.plan) (inputs_first b0 b1 b2 b3 e e' file ran) unopened.configured;
      input = ran_input (IsReadThrough left) b0 b1 b2 b3 e e' file ran unopened.input;
      still = ran_still source_faults b0 b1 b2 b3 e e' file ran unopened.still;
      ticker = ran_ticker b0 b1 b2 b3 e e' ran unopened.ticker;
      part = moved_part (not replay) unopened.plan Says Says' b1 b2 b0 b3 (ran_before b0 b1 b2 b3 e e' ran) (ran_behind b0 b1 b2 b3 e e' ran) says unopened.part;
    })

pub ran_unread : {S K C : Type 0} (left : S → Option (List ℕ)) (source_faults : S → ℕ) (Says Says' : List ℕ → Type 0) (b0 b1 b2 b3 : Book S K C) (e e' : K) (file : List ℕ) (status : ℕ) → Ran b0 b1 b2 b3 e e' → ((lines : List ℕ) → Says lines → Says' lines)
    → IsFileUnread left source_faults file Says b1 b2 status → IsFileUnread left source_faults file Says' b0 b3 status
ran_unread {S} {K} {C} left source_faults Says Says' b0 b1 b2 b3 e e' file status ran says unread = record {
  status_is = unread.status_is;
  fault = subst (λ (p : Place S). EndHasFault source_faults p) (sym (ap (λ (b : Book S K C). b.inputs file) ran.rest3)) unread.fault;
  input = ran_input (IsReadFrom left) b0 b1 b2 b3 e e' file ran unread.input;
  errors = says _ unread.errors;
  out = ran_quiet b0 b1 b2 b3 e e' ran unread.out;
  unserved = ran_unserved b0 b1 b2 b3 e e' ran unread.unserved;
}

pub ran_session : {S K C : Type 0} (left : S → Option (List ℕ)) (written : K → Option (List ℕ)) (source_faults : S → ℕ) (sink_faults : K → ℕ) (Says Says' : List ℕ → Type 0) (b0 b1 b2 b3 : Book S K C) (e e' : K) (file : List ℕ) (status : ℕ) → Ran b0 b1 b2 b3 e e' → ((lines : List ℕ) → Says lines → Says' lines)
    → IsSession left written source_faults sink_faults file Says b1 b2 status → IsSession left written source_faults sink_faults file Says' b0 b3 status
ran_session {S} {K} {C} left written source_faults sink_faults Says Says' b0 b1 b2 b3 e e' file status ran says session = record {
  plan = session.plan;
  configured = subst (λ (p : Place S). IsConfigured true left p session.plan) (inputs_first b0 b1 b2 b3 e e' file ran) session.configured;
  input = ran_input (IsReadThrough left) b0 b1 b2 b3 e e' file ran session.input;
  still = ran_still source_faults b0 b1 b2 b3 e e' file ran session.still;
  session =
      subst (λ (b : Book S K C). IsSessionOf left written source_faults sink_faults session.plan Says' b0 b status) (sym ran.rest3)
      (subst (λ (b : Book S K C). IsSessionOf left written source_faults sink_faults session.plan Says' b (record b2 { std = b3.std }) status)
      (ap (λ (b : Book S K C). record b { faults = b0.faults; inputs = b0.inputs; std = b0.std }) ran.rest1)
      (moved_session left written source_faults sink_faults session.plan Says Says' b1 b2 b0.faults b2.faults b0.inputs b2.inputs b0.std b3.std status (sym (ran.others1 Out out≢err)) (ran.others3 Out out≢err) says session.session));
}

pub ran_served : {S K C : Type 0} (left : S → Option (List ℕ)) (written : K → Option (List ℕ)) (source_faults : S → ℕ) (sink_faults : K → ℕ) (readings : C → Option (List ℕ)) (Says Says' : List ℕ → Type 0) (b0 b1 b2 b3 : Book S K C) (e e' : K) (file : List ℕ) (status : ℕ) → Ran b0 b1 b2 b3 e e' → ((lines : List ℕ) → Says lines → Says' lines)
    → IsServeSession left written source_faults sink_faults readings file Says b1 b2 status → IsServeSession left written source_faults sink_faults readings file Says' b0 b3 status
ran_served {S} {K} {C} left written source_faults sink_faults readings Says Says' b0 b1 b2 b3 e e' file status ran says session = record {
  plan = session.plan;
  configured = subst (λ (p : Place S). IsConfigured false left p session.plan) (inputs_first b0 b1 b2 b3 e e' file ran) session.configured;
  input = ran_input (IsReadThrough left) b0 b1 b2 b3 e e' file ran session.input;
  still = ran_still source_faults b0 b1 b2 b3 e e' file ran session.still;
  session =
      subst (λ (b : Book S K C). IsServeOf left written source_faults sink_faults readings session.plan Says' b0 b status) (sym ran.rest3)
      (subst (λ (b : Book S K C). IsServeOf left written source_faults sink_faults readings session.plan Says' b (record b2 { std = b3.std }) status)
      (ap (λ (b : Book S K C). record b { faults = b0.faults; inputs = b0.inputs; std = b0.std }) ran.rest1)
      (moved_serve left written source_faults sink_faults readings session.plan Says Says' b1 b2 b0.faults b2.faults b0.inputs b2.inputs b0.std b3.std status (sym (ran.others1 Out out≢err)) (ran.others3 Out out≢err) says session.session));
}

-- a session behind the reading of its configuration
pub configured_session : {S K C : Type 0} (left : S → Option (List ℕ)) (written : K → Option (List ℕ)) (source_faults : S → ℕ) (sink_faults : K → ℕ) (plan : Plan) (Says : List ℕ → Type 0) (b0 b1 b2 : Book S K C) (status : ℕ) → b1 ≡ record b0 { faults = b1.faults; inputs = b1.inputs }
    → IsSessionOf left written source_faults sink_faults plan Says b1 b2 status → IsSessionOf left written source_faults sink_faults plan Says b0 b2 status
configured_session {S} {K} {C} left written source_faults sink_faults plan Says b0 b1 b2 status rest session =
    subst (λ (b : Book S K C). IsSessionOf left written source_faults sink_faults plan Says b b2 status) (ap (λ (b : Book S K C). record b { faults = b0.faults; inputs = b0.inputs }) rest)
    (moved_session left written source_faults sink_faults plan Says Says b1 b2 b0.faults b2.faults b0.inputs b2.inputs b1.std b2.std status refl refl (λ lines told. told) session)

-- the same of a live session
pub configured_serve : {S K C : Type 0} (left : S → Option (List ℕ)) (written : K → Option (List ℕ)) (source_faults : S → ℕ) (sink_faults : K → ℕ) (readings : C → Option (List ℕ)) (plan : Plan) (Says : List ℕ → Type 0) (b0 b1 b2 : Book S K C) (status : ℕ) → b1 ≡ record b0 { faults = b1.faults; inputs = b1.inputs }
    → IsServeOf left written source_faults sink_faults readings plan Says b1 b2 status → IsServeOf left written source_faults sink_faults readings plan Says b0 b2 status
configured_serve {S} {K} {C} left written source_faults sink_faults readings plan Says b0 b1 b2 status rest session =
    subst (λ (b : Book S K C). IsServeOf left written source_faults sink_faults readings plan Says b b2 status) (ap (λ (b : Book S K C). record b { faults = b0.faults; inputs = b0.inputs }) rest)
    (moved_serve left written source_faults sink_faults readings plan Says Says b1 b2 b0.faults b2.faults b0.inputs b2.inputs b1.std b2.std status refl refl (λ lines told. told) session)

-- there was no memory

moved_ends : {S K C : Type 0} (replay : Bool) (left : S → Option (List ℕ)) (written : K → Option (List ℕ)) (b0 b1 b2 b3 : Book S K C) (e e' : K) (file : List ℕ) → Ran b0 b1 b2 b3 e e'
    → IsUnserved b1 b2 ⊎ ((plan : Plan) × IsConfigured replay left (b1.inputs file) plan × KeepsAll (not replay) left written plan b1 b2 × IsOffPlanSame plan b1 b2)
    → IsUnserved b0 b3 ⊎ ((plan : Plan) × IsConfigured replay left (b0.inputs file) plan × KeepsAll (not replay) left written plan b0 b3 × IsOffPlanSame plan b0 b3)
moved_ends replay left written b0 b1 b2 b3 e e' file ran (inl unserved) = inl (ran_unserved b0 b1 b2 b3 e e' ran unserved)
moved_ends {S} {K} {C} replay left written b0 b1 b2 b3 e e' file ran (inr (plan, configured, keeps, off)) =
    inr (
      plan,
      subst (λ (p : Place S). IsConfigured replay left p plan) (inputs_first b0 b1 b2 b3 e e' file ran) configured,
      moved_keeps (not replay) left written plan b1 b2 b0 b3 (ran_before b0 b1 b2 b3 e e' ran) (ran_behind b0 b1 b2 b3 e e' ran) keeps,
      moved_off plan b1 b2 b0 b3 (ran_before b0 b1 b2 b3 e e' ran) (ran_behind b0 b1 b2 b3 e e' ran) off,
    )

moved_place : {S K C : Type 0} (left : S → Option (List ℕ)) (source_faults : S → ℕ) (b0 b1 b2 b3 : Book S K C) (e e' : K) (file : List ℕ) → Ran b0 b1 b2 b3 e e' → (b2.inputs file ≡ b1.inputs file) ⊎ (IsReadThrough left (b1.inputs file) (b2.inputs file) × EndHasNoFault source_faults (b2.inputs file))
    → (b3.inputs file ≡ b0.inputs file) ⊎ (IsReadThrough left (b0.inputs file) (b3.inputs file) × EndHasNoFault source_faults (b3.inputs file))
moved_place left source_faults b0 b1 b2 b3 e e' file ran (inl same) = inl (inputs_last b0 b1 b2 b3 e e' file ran ∙ same ∙ inputs_first b0 b1 b2 b3 e e' file ran)
moved_place left source_faults b0 b1 b2 b3 e e' file ran (inr (read, still)) = inr (ran_input (IsReadThrough left) b0 b1 b2 b3 e e' file ran read, ran_still source_faults b0 b1 b2 b3 e e' file ran still)

pub ran_unplayed : {S K C : Type 0} (replay : Bool) (left : S → Option (List ℕ)) (written : K → Option (List ℕ)) (source_faults : S → ℕ) (b0 b1 b2 b3 : Book S K C) (e e' : K) (file : List ℕ) → Ran b0 b1 b2 b3 e e' → IsUnplayed replay left written source_faults file b1 b2 → IsUnplayed replay left written source_faults file b0 b3
ran_unplayed replay left written source_faults b0 b1 b2 b3 e e' file ran unplayed = record {
  input = moved_place left source_faults b0 b1 b2 b3 e e' file ran unplayed.input;
  ends = moved_ends replay left written b0 b1 b2 b3 e e' file ran unplayed.ends;
}

-- a session without memory behind the reading of its configuration
pub configured_unplayed : {S K C : Type 0} (replay : Bool) (left : S → Option (List ℕ)) (written : K → Option (List ℕ)) (plan : Plan) (b0 b1 b2 : Book S K C) (file : List ℕ) → b1 ≡ record b0 { faults = b1.faults; inputs = b1.inputs } → IsConfigured replay left (b0.inputs file) plan
    → IsUnserved b1 b2 ⊎ (KeepsAll (not replay) left written plan b1 b2 × IsOffPlanSame plan b1 b2) → IsUnserved b0 b2 ⊎ ((p : Plan) × IsConfigured replay left (b0.inputs file) p × KeepsAll (not replay) left written p b0 b2 × IsOffPlanSame p b0 b2)
configured_unplayed {S} {K} {C} replay left written plan b0 b1 b2 file rest configured (inl unserved) =
    inl (moved_unserved b1 b2 b0 b2 (read_before b0 b1 rest) (same_places b2) unserved)
configured_unplayed {S} {K} {C} replay left written plan b0 b1 b2 file rest configured (inr (keeps, off)) =
    let before = read_before b0 b1 rest in
    inr (plan, configured, moved_keeps (not replay) left written plan b1 b2 b0 b2 before (same_places b2) keeps, moved_off plan b1 b2 b0 b2 before (same_places b2) off)

-- what was done with a configuration, once standard error is kept
ran_either : {S K C : Type 0} (left : S → Option (List ℕ)) (source_faults : S → ℕ) (Says Says' : List ℕ → Type 0) (Session Session' : Type 0) (b0 b1 b2 b3 : Book S K C) (e e' : K) (file : List ℕ) (status : ℕ) → Ran b0 b1 b2 b3 e e' → ((lines : List ℕ) → Says lines → Says' lines) → (Session → Session')
    → IsFileUnread left source_faults file Says b1 b2 status ⊎ Session → IsFileUnread left source_faults file Says' b0 b3 status ⊎ Session'
ran_either left source_faults Says Says' Session Session' b0 b1 b2 b3 e e' file status ran says session (inl unread) = inl (ran_unread left source_faults Says Says' b0 b1 b2 b3 e e' file status ran says unread)
ran_either left source_faults Says Says' Session Session' b0 b1 b2 b3 e e' file status ran says session (inr did) = inr (session did)

pub ran_run : {S K C : Type 0} (replay : Bool) (left : S → Option (List ℕ)) (written : K → Option (List ℕ)) (source_faults : S → ℕ) (Says Says' : List ℕ → Type 0) (Session Session' : Type 0) (b0 b1 b2 b3 : Book S K C) (e e' : K) (file : List ℕ) (status : ℕ) → Ran b0 b1 b2 b3 e e' → ((lines : List ℕ) → Says lines → Says' lines) → (Session → Session')
    → IsRunOf replay left written source_faults file Says Session b1 b2 status → IsRunOf replay left written source_faults file Says' Session' b0 b3 status
ran_run replay left written source_faults Says Says' Session Session' b0 b1 b2 b3 e e' file status ran says session r = record {
  one_of = r.one_of;
  usage = r.usage;
  memory = λ one. says _ (r.memory one);
  unplayed = λ one. ran_unplayed replay left written source_faults b0 b1 b2 b3 e e' file ran (r.unplayed one);
  config = λ three. ran_config replay left source_faults Says Says' b0 b1 b2 b3 e e' file ran says (r.config three);
  opening = λ seven. ran_open b0 b1 b2 b3 e e' ran (r.opening seven);
  still = λ other. ran_unfailed b0 b1 b2 b3 e e' ran (r.still other);
  unopened = λ seven. ran_unopened replay left source_faults Says Says' b0 b1 b2 b3 e e' file ran says (r.unopened seven);
  session = λ one_of. ran_either left source_faults Says Says' Session Session' b0 b1 b2 b3 e e' file status ran says session (r.session one_of);
  quiet = λ one_of. ran_quiet b0 b1 b2 b3 e e' ran (r.quiet one_of);
  unused = λ one_of. ran_unused replay left b0 b1 b2 b3 e e' file ran (r.unused one_of);
  inputs = ran_inputs b0 b1 b2 b3 e e' file ran r.inputs;
}
