-- Learning from the ends that were opened, as what stands in their places.
use Rattle.std.proofs.Common.{◌≡◌, ◌≢◌, ℕ, ◌+◌, ◌<◌, ◌++◌, List, [], ◌∷◌, Bool, true, false, not, length, get_or, flat_map, refl, sym, ap, ◌∙◌, subst, arith, Option, Some, IfSome, if◌then◌else◌, append-nil, inl, inr}
use Rattle.std.proofs.lemmas.Grind.{flat_map-append}
use Rattle.std.specs.List.{list_any}
use Rattle.std.specs.Prelude.{All}
use Rattle.savi_kinds.specs.declared.plan.Plan.{Plan}
use Rattle.savi_kinds.specs.declared.entry.Who.TheVariants.{Ingress}
use Rattle.savi_ends.specs.declared.sink.Put.{Put}
use Rattle.savi_ends.specs.declared.sink.Put.TheVariants as puts
use Rattle.savi_ends.specs.declared.world.Std.TheVariants.{Out}
use Rattle.savi_ends.specs.declared.world.Ends.{Ends}
use Rattle.savi_ends.specs.Faults.{Rose}
use Rattle.savi_ends.specs.Octets.{behind}
use Rattle.savi_ends.specs.Places.{Book, Place, PortKey}
use Rattle.savi_ends.proofs.Octets.{behind_again}
use Rattle.pcap_io.specs.Kinds.{classic_kinds}
use Rattle.pcap_io.specs.Readers.{State, Fresh, Comes}
use Rattle.pcap_io.specs.Runs.{Arrive}
use Rattle.savi_history.specs.Endings.{is_failed_reason, is_malformed_reason}
use Rattle.savi_history.specs.EndLines.{end_line}
use Rattle.port_worker.specs.declared.port_ends.PortEnds.{PortEnds}
use Rattle.port_worker.specs.Replays.{ports_held}
use Rattle.ra_learn.specs.Reports.{Wrote}
use Rattle.learn_run.specs.declared.learning.Ending.{Ending}
use Rattle.learn_run.specs.Learning.{IsHeard, LearnsPorts, LearnsEnds}
use Rattle.switch_ports.specs.Openings.{ports_of, IsOff, IsReadAnew}
use Rattle.switch_run.specs.Causes.{IsOneOf, Keeps, TookOrPart, ports_in, quiet_statuses, statuses}
use Rattle.switch_run.specs.Learnings.{IsLearningOf, ending_lines, is_done, learned_status}
use Rattle.switch_run.specs.Session.{ToldBy}
use Rattle.switch_run.proofs.Through.{Handled, element, keeps_at, keeps_of, number_at, ports_off, size_of}

-- what a sink took of a text, by whether a write failed
pub took_by : {K : Type 0} (written : K → Option (List ℕ)) (faults : K → ℕ) (put : Put) (text : List ℕ) (old new : K) → Wrote text put (written old) (written new) (faults old) (faults new) → TookOrPart faults written (is_done put) text old new
took_by written faults puts.Done text old new wrote = (wrote.took, wrote.still refl)
took_by written faults puts.Failed text old new wrote =
    let rose : Rose (faults old) (faults new) = wrote.cause refl in
    (omega (arith, rose), wrote.took)

-- what learning was to the ends is what it was to the places
pub learns_places : {S K C : Type 0} (left : S → Option (List ℕ)) (written : K → Option (List ℕ)) (source_faults : S → ℕ) (sink_faults : K → ℕ) (plan : Plan) (window : ℕ) (endings : List Ending) (put : Put) (held back : List (PortEnds S K C)) (sink sink' : K) (old new : ℕ → Place (Ends S K C)) (out out' : Place K)
    → ports_held held ≡ ports_of plan.ports → Handled held back old new → All IsReadAnew held → IfSome out.stands (λ t. sink ≡ t) → out'.stands ≡ Some sink'
    → LearnsEnds left source_faults written sink_faults plan window endings put held back sink sink'
    → LearnsPorts plan window endings (λ text. Keeps (TookOrPart sink_faults written (is_done put) text) out out') (λ place port input. Keeps (IsHeard left source_faults (Arrive classic_kinds) input) (old port) (new port))
learns_places {S} {K} {C} left written source_faults sink_faults plan window endings put held back sink sink' old new out out' ports handled anew told kept learns = record {
  inputs = learns.inputs;
  size = learns.size;
  text = keeps_of _ out out' sink sink' told kept (took_by written sink_faults put _ sink sink' learns.text);
  ended = learns.ended;
  each = λ k i within.
      let size = size_of held plan.ports ports in
      let inside : k < length held = omega (arith, size, within) in
      let d = element held k inside in
      let HeardLine : State → Ends S K C → Ends S K C → Type 0 = λ s. IsHeard left source_faults (Comes s) (get_or learns.inputs k i) in
      subst (λ (n : ℕ). Keeps (HeardLine (Fresh classic_kinds)) (old n) (new n)) (sym (number_at held plan.ports k d ports inside))
      (keeps_at (HeardLine (Fresh classic_kinds)) held back old new k d handled inside
      (subst (λ (s : State). HeardLine s (get_or held k d).ends (get_or back k d).ends) (anew k d inside) (learns.each k i within d)));
}

-- and it is what was done with the plan, where nothing was done elsewhere
pub learning_of : {S K C : Type 0} (left : S → Option (List ℕ)) (written : K → Option (List ℕ)) (source_faults : S → ℕ) (sink_faults : K → ℕ) (plan : Plan) (window : ℕ) (Says : List ℕ → Type 0) (endings : List Ending) (put : Put) (held back : List (PortEnds S K C)) (sink sink' : K) (old new : Book S K C) (status : ℕ)
    → ports_held held ≡ ports_of plan.ports → Handled held back (ports_in plan old) (ports_in plan new) → ((key : PortKey) → IsOff held key.number → new.ports key ≡ old.ports key) → All IsReadAnew held
    → IfSome (old.std Out).stands (λ t. sink ≡ t) → (new.std Out).stands ≡ Some sink' → LearnsEnds left source_faults written sink_faults plan window endings put held back sink sink'
    → Says (ending_lines endings) → status ≡ learned_status (is_done put) endings → IsLearningOf left written source_faults sink_faults plan window Says old new status
learning_of left written source_faults sink_faults plan window Says endings put held back sink sink' old new status ports handled others anew told kept learns says cause = record {
  endings = endings;
  text_written = is_done put;
  learns = learns_places left written source_faults sink_faults plan window endings put held back sink sink' (ports_in plan old) (ports_in plan new) (old.std Out) (new.std Out) ports handled anew told kept learns;
  errors = says;
  cause = cause;
  others = ports_off plan held old.ports new.ports ports others;
}

-- the statuses of learning

one_of_by : (f w m : Bool) → IsOneOf statuses (if f then 5 else if w then 6 else if m then 4 else 0)
one_of_by true w m = refl
one_of_by false true m = refl
one_of_by false false true = refl
one_of_by false false false = refl

quiet_by : (f w m : Bool) → IsOneOf quiet_statuses (if f then 5 else if w then 6 else if m then 4 else 0) → ⊥
quiet_by true w m e = let t : false ≡ true = e in cc
quiet_by false true m e = let t : false ≡ true = e in cc
quiet_by false false true e = let t : false ≡ true = e in cc
quiet_by false false false e = let t : false ≡ true = e in cc

pub learned_one_of : (written : Bool) (endings : List Ending) → IsOneOf statuses (learned_status written endings)
learned_one_of written endings = one_of_by (list_any (λ e. is_failed_reason e.how) endings) (not written) (list_any (λ e. is_malformed_reason e.how) endings)

pub learned_not_quiet : (written : Bool) (endings : List Ending) → IsOneOf quiet_statuses (learned_status written endings) → ⊥
learned_not_quiet written endings = quiet_by (list_any (λ e. is_failed_reason e.how) endings) (not written) (list_any (λ e. is_malformed_reason e.how) endings)

pub never_learned : (written : Bool) (endings : List Ending) (status n : ℕ) → status ≡ learned_status written endings → IsOneOf quiet_statuses n → status ≢ n
never_learned written endings status n is quiet e = learned_not_quiet written endings (subst (λ (m : ℕ). IsOneOf quiet_statuses m) (sym e ∙ is) quiet)

-- the status, by what is known of the inputs and of the text
pub status_is : (f w m : Bool) (written : Bool) (endings : List Ending) → list_any (λ e. is_failed_reason e.how) endings ≡ f → written ≡ w → list_any (λ e. is_malformed_reason e.how) endings ≡ m
    → (if f then 5 else if not w then 6 else if m then 4 else 0) ≡ learned_status written endings
status_is f w m written endings f_is w_is m_is =
    let failed : Bool = list_any (λ (e : Ending). is_failed_reason e.how) endings in
    ap (λ (b : Bool). if b then 5 else if not w then 6 else if m then 4 else 0) (sym f_is)
    ∙ ap (λ (b : Bool). if failed then 5 else if not b then 6 else if m then 4 else 0) (sym w_is)
    ∙ ap (λ (b : Bool). if failed then 5 else if not written then 6 else if b then 4 else 0) (sym m_is)

-- what standard error is told, line by line

lines_more : (endings : List Ending) (one : Ending) → ending_lines (endings ++ one ∷ []) ≡ ending_lines endings ++ end_line (Ingress one.port) one.how
lines_more endings one =
    flat_map-append (λ e. end_line (Ingress e.port) e.how) endings (one ∷ [])
    ∙ ap (λ (l : List ℕ). ending_lines endings ++ l) (append-nil (end_line (Ingress one.port) one.how))

pub told_more : {K : Type 0} (written : K → Option (List ℕ)) (first old new : K) (before now : List Ending) (one : Ending) → now ≡ before ++ one ∷ [] → written old ≡ behind (written first) (ending_lines before) → written new ≡ behind (written old) (end_line (Ingress one.port) one.how) → written new ≡ behind (written first) (ending_lines now)
told_more written first old new before now one is was more =
    more
    ∙ ap (λ (o : Option (List ℕ)). behind o (end_line (Ingress one.port) one.how)) was
    ∙ behind_again (written first) (ending_lines before) (end_line (Ingress one.port) one.how)
    ∙ ap (λ (l : List ℕ). behind (written first) l) (sym (lines_more before one))
    ∙ ap (λ (l : List Ending). behind (written first) (ending_lines l)) (sym is)

pub told_all : {K : Type 0} (faults : K → ℕ) (written : K → Option (List ℕ)) (first new : K) (some all : List Ending) → some ≡ all → written new ≡ behind (written first) (ending_lines some) → ToldBy faults written first new (ending_lines all)
told_all faults written first new some all is was = inl (was ∙ ap (λ (l : List Ending). behind (written first) (ending_lines l)) is)

pub told_failed : {K : Type 0} (faults : K → ℕ) (written : K → Option (List ℕ)) (first old new : K) (lines : List ℕ) → Rose (faults old) (faults new) → ToldBy faults written first new lines
told_failed faults written first old new lines rose = inr (omega (arith, rose))
