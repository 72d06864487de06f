-- From what a run has done to what it says of its world, learning among the rest.
use Rattle.std.proofs.Common.{◌≡◌, ◌<◌, ◌^◌, ℕ, ◌⊎◌, inl, inr, List, [], ◌∷◌, true, get_or, refl, sym, ap, ◌∙◌, subst, arith, codes, decimal, Option, IsSome}
use Rattle.std.proofs.lemmas.Fmt.{decimal_is_IsNumeral}
use Rattle.std.specs.Prelude.{All}
use Rattle.std.specs.Str.Parse.{digits_value}
use Rattle.savi_kinds.specs.declared.plan.Plan.{Plan}
use Rattle.savi_ends.specs.declared.world.Std.TheVariants.{Out}
use Rattle.savi_ends.specs.declared.world.Ends.{Ends}
use Rattle.savi_ends.specs.Places.{Book, Place, PortKey}
use Rattle.pcap_io.specs.Kinds.{classic_kinds}
use Rattle.pcap_io.specs.Runs.{Arrive}
use Rattle.run_config.specs.Configs.{EndHasFault, EndHasNoFault, IsConfigured, IsReadThrough}
use Rattle.run_config.specs.Words.{IsCheck, IsGen, IsLearn, IsReplay, IsServe, IsSplitWords}
use Rattle.learn_run.specs.Learning.{IsHeard, LearnsPorts}
use Rattle.switch_ports.specs.Named.{named_by}
use Rattle.switch_run.specs.Causes.{HasSomeReadFault, IsOneOf, Keeps, TookOrPart, session_statuses}
use Rattle.switch_run.specs.Learnings.{IsLearnRun, IsLearning, IsLearningOf, IsLearnedPortUnopened}
use Rattle.switch_run.specs.Session.{IsFileUnopened, IsPortUnopened, WasTold, ToldBy}
use Rattle.switch_run.proofs.Clauses.{Clauses, IsOtherRun, clauses_of}
use Rattle.switch_run.proofs.LearnFaults.{learned_read, learned_write}
use Rattle.switch_run.proofs.Running.{Ran, SamePlaces, inputs_first, inputs_last, moved_off, out≢err, ran_run, ran_told}

-- what the contract of a run says of words that don't ask for an audit
pub record AllClauses {S K C : Type 0} (left : S → Option (List ℕ)) (written : K → Option (List ℕ)) (source_faults : S → ℕ) (sink_faults : K → ℕ) (readings : C → Option (List ℕ)) (words : List (List ℕ)) (old new : Book S K C) (status : ℕ) : Type 0 where
  pub others : Clauses left written source_faults sink_faults readings words old new status
  pub learn : (file : List ℕ) (window : ℕ) → IsLearn file window words → IsLearnRun left written source_faults sink_faults file window (WasTold sink_faults written old new) old new status
  pub learned_read : (file : List ℕ) (window : ℕ) → IsLearn file window words → status ≡ 5 → HasSomeReadFault source_faults file new
  pub learned_write : (file : List ℕ) (window : ℕ) → IsLearn file window words → status ≡ 6 → EndHasFault sink_faults (new.std Out)

-- learning between books of the same ports and the same standard output
pub moved_learning : {S K C : Type 0} (left : S → Option (List ℕ)) (written : K → Option (List ℕ)) (source_faults : S → ℕ) (sink_faults : K → ℕ) (plan : Plan) (window : ℕ) (Says Says' : List ℕ → Type 0) (old new old' new' : Book S K C) (status : ℕ)
    → old'.ports ≡ old.ports → new'.ports ≡ new.ports → old'.std Out ≡ old.std Out → new'.std Out ≡ new.std Out → ((lines : List ℕ) → Says lines → Says' lines)
    → IsLearningOf left written source_faults sink_faults plan window Says old new status → IsLearningOf left written source_faults sink_faults plan window Says' old' new' status
moved_learning {S} {K} {C} left written source_faults sink_faults plan window Says Says' old new old' new' status ports ports' out out' says l =
    let Learns : (PortKey → Place (Ends S K C)) → (PortKey → Place (Ends S K C)) → Place K → Place K → Type 0 = λ p q o u.
    LearnsPorts plan window l.endings (λ text. Keeps (TookOrPart sink_faults written l.text_written text) o u) (λ place port input. Keeps (IsHeard left source_faults (Arrive classic_kinds) input) (named_by plan.ports p port) (named_by plan.ports q port)) in
    record {
      endings = l.endings;
      text_written = l.text_written;
      learns = subst (λ (p : PortKey → Place (Ends S K C)). Learns p new'.ports (old'.std Out) (new'.std Out)) (sym ports)
          (subst (λ (q : PortKey → Place (Ends S K C)). Learns old.ports q (old'.std Out) (new'.std Out)) (sym ports')
          (subst (λ (o : Place K). Learns old.ports new.ports o (new'.std Out)) (sym out)
          (subst (λ (u : Place K). Learns old.ports new.ports (old.std Out) u) (sym out') l.learns)));
      errors = says _ l.errors;
      cause = l.cause;
      others = λ key away. ap (λ (p : PortKey → Place (Ends S K C)). p key) ports' ∙ l.others key away ∙ sym (ap (λ (p : PortKey → Place (Ends S K C)). p key) ports);
    }

-- a port that could not be opened
pub moved_port : {S K C : Type 0} (plan : Plan) (Says Says' : List ℕ → Type 0) (old new old' new' : Book S K C) → SamePlaces old old' → SamePlaces new new' → ((lines : List ℕ) → Says lines → Says' lines) → IsPortUnopened plan Says old new → IsPortUnopened plan Says' old' new'
moved_port {S} {K} {C} plan Says Says' old new old' new' o n says part = record {
  before = part.before;
  port = part.port;
  later = part.later;
  all = part.all;
  kept = subst (λ (x : PortKey → Place (Ends S K C)). All (λ port. IsSome (named_by plan.ports x port).stands) part.before) (sym n.ports) part.kept;
  same = λ k d inside key is. ap (λ (x : PortKey → Place (Ends S K C)). x key) n.ports ∙ part.same k d inside key is ∙ sym (ap (λ (x : PortKey → Place (Ends S K C)). x key) o.ports);
  control = n.control ∙ part.control ∙ sym o.control;
  outputs = n.outputs ∙ part.outputs ∙ sym o.outputs;
  elsewhere = moved_off plan old new old' new' o n part.elsewhere;
  errors = says _ part.errors;
}

module _ {S K C : Type 0} (left : S → Option (List ℕ)) (written : K → Option (List ℕ)) (source_faults : S → ℕ) (sink_faults : K → ℕ) (file : List ℕ) (window : ℕ) (b0 b1 b2 b3 : Book S K C) (e e' : K) (status : ℕ) (ran : Ran b0 b1 b2 b3 e e') where
  says : (lines : List ℕ) → ToldBy sink_faults written e e' lines → WasTold sink_faults written b0 b3 lines
  says lines told = ran_told sink_faults written b0 b1 b2 b3 e e' lines ran told

  places_before : SamePlaces b1 b0
  places_before = record {
    ports = sym (ap (λ (b : Book S K C). b.ports) ran.rest1);
    control = sym (ap (λ (b : Book S K C). b.control) ran.rest1);
    ticker = sym (ap (λ (b : Book S K C). b.ticker) ran.rest1);
    outputs = sym (ap (λ (b : Book S K C). b.outputs) ran.rest1);
  }

  places_behind : SamePlaces b2 b3
  places_behind = record {
    ports = ap (λ (b : Book S K C). b.ports) ran.rest3;
    control = ap (λ (b : Book S K C). b.control) ran.rest3;
    ticker = ap (λ (b : Book S K C). b.ticker) ran.rest3;
    outputs = ap (λ (b : Book S K C). b.outputs) ran.rest3;
  }

  input_behind : IsReadThrough left (b1.inputs file) (b2.inputs file) → IsReadThrough left (b0.inputs file) (b3.inputs file)
  input_behind read =
      subst (λ (p : Place S). IsReadThrough left p (b3.inputs file)) (inputs_first b0 b1 b2 b3 e e' file ran)
      (subst (λ (p : Place S). IsReadThrough left (b1.inputs file) p) (sym (inputs_last b0 b1 b2 b3 e e' file ran)) read)

  still_behind : EndHasNoFault source_faults (b2.inputs file) → EndHasNoFault source_faults (b3.inputs file)
  still_behind still = subst (λ (p : Place S). EndHasNoFault source_faults p) (sym (inputs_last b0 b1 b2 b3 e e' file ran)) still

  configured_behind : (plan : Plan) → IsConfigured true left (b1.inputs file) plan → IsConfigured true left (b0.inputs file) plan
  configured_behind plan configured = subst (λ (p : Place S). IsConfigured true left p plan) (inputs_first b0 b1 b2 b3 e e' file ran) configured

  learning_behind : IsLearning left written source_faults sink_faults file window (ToldBy sink_faults written e e') b1 b2 status → IsLearning left written source_faults sink_faults file window (WasTold sink_faults written b0 b3) b0 b3 status
  learning_behind l = record {
    plan = l.plan;
    configured = configured_behind l.plan l.configured;
    input = input_behind l.input;
    still = still_behind l.still;
    learning = moved_learning left written source_faults sink_faults l.plan window (ToldBy sink_faults written e e') (WasTold sink_faults written b0 b3) b1 b2 b0 b3 status places_before.ports places_behind.ports (sym (ran.others1 Out out≢err)) (ran.others3 Out out≢err) says l.learning;
  }

  opened_behind : IsFileUnopened file (ToldBy sink_faults written e e') b1 b2 ⊎ IsLearnedPortUnopened left source_faults file (ToldBy sink_faults written e e') b1 b2 → IsFileUnopened file (WasTold sink_faults written b0 b3) b0 b3 ⊎ IsLearnedPortUnopened left source_faults file (WasTold sink_faults written b0 b3) b0 b3
  opened_behind (inl file_is) = inl (record {
    errors = says _ file_is.errors;
    place = inputs_last b0 b1 b2 b3 e e' file ran ∙ file_is.place ∙ inputs_first b0 b1 b2 b3 e e' file ran;
    unserved = record {
      ports = places_behind.ports ∙ file_is.unserved.ports ∙ sym places_before.ports;
      control = places_behind.control ∙ file_is.unserved.control ∙ sym places_before.control;
      ticker = places_behind.ticker ∙ file_is.unserved.ticker ∙ sym places_before.ticker;
      outputs = places_behind.outputs ∙ file_is.unserved.outputs ∙ sym places_before.outputs;
    };
  })
  opened_behind (inr port_is) = inr (record {
    plan = port_is.plan;
    configured = configured_behind port_is.plan port_is.configured;
    input = input_behind port_is.input;
    still = still_behind port_is.still;
    port = moved_port port_is.plan (ToldBy sink_faults written e e') (WasTold sink_faults written b0 b3) b1 b2 b0 b3 places_before places_behind says port_is.port;
  })

  pub ran_learn : IsLearnRun left written source_faults sink_faults file window (ToldBy sink_faults written e e') b1 b2 status → IsLearnRun left written source_faults sink_faults file window (WasTold sink_faults written b0 b3) b0 b3 status
  ran_learn r = record {
    run = ran_run true left written source_faults (ToldBy sink_faults written e e') (WasTold sink_faults written b0 b3) (IsLearning left written source_faults sink_faults file window (ToldBy sink_faults written e e') b1 b2 status) (IsLearning left written source_faults sink_faults file window (WasTold sink_faults written b0 b3) b0 b3 status) b0 b1 b2 b3 e e' file status ran says learning_behind r.run;
    opened = λ seven. opened_behind (r.opened seven);
    rest =
        let faults = ap (λ (b : Book S K C). b.faults) ran.rest3 in
        let inputs = ap (λ (b : Book S K C). b.inputs) ran.rest3 in
        let ports = ap (λ (b : Book S K C). b.ports) ran.rest3 in
        ran.rest3
        ∙ ap (λ (b : Book S K C). record b { std = b3.std }) r.rest
        ∙ ap (λ (b : Book S K C). record b { faults = b2.faults; inputs = b2.inputs; ports = b2.ports; std = b3.std }) ran.rest1
        ∙ ap (λ (n : ℕ). record b0 { faults = n; inputs = b2.inputs; ports = b2.ports; std = b3.std }) (sym faults)
        ∙ ap (λ (i : List ℕ → Place S). record b0 { faults = b3.faults; inputs = i; ports = b2.ports; std = b3.std }) (sym inputs)
        ∙ ap (λ (p : PortKey → Place (Ends S K C)). record b0 { faults = b3.faults; inputs = b3.inputs; ports = p; std = b3.std }) (sym ports);
  }

-- no words ask for learning and for anything else

first_is : (a b : List ℕ) (xs ys : List (List ℕ)) → a ∷ xs ≡ b ∷ ys → get_or a 0 0 ≡ get_or b 0 0
first_is a b xs ys same = ap (λ (ws : List (List ℕ)). get_or (get_or ws 0 []) 0 0) same

not_replayed : (words : List (List ℕ)) (file : List ℕ) (window : ℕ) (other : List ℕ) → IsLearn file window words → IsReplay other words → ⊥
not_replayed words file window other learn replay =
    let first : 108 ≡ 114 = first_is _ _ _ _ (sym learn.spelled ∙ replay) in
    omega (arith, first)

not_served : (words : List (List ℕ)) (file : List ℕ) (window : ℕ) (other : List ℕ) → IsLearn file window words → IsServe other words → ⊥
not_served words file window other learn serve =
    let first : 108 ≡ 115 = first_is _ _ _ _ (sym learn.spelled ∙ serve) in
    omega (arith, first)

not_checked : (words : List (List ℕ)) (file : List ℕ) (window : ℕ) (other : List ℕ) → IsLearn file window words → IsCheck other words → ⊥
not_checked words file window other learn check =
    let first : 108 ≡ 99 = first_is _ _ _ _ (sym learn.spelled ∙ check) in
    omega (arith, first)

not_loaded : (words : List (List ℕ)) (file : List ℕ) (window seed frames : ℕ) → IsLearn file window words → IsGen seed frames words → ⊥
not_loaded words file window seed frames learn gen =
    let first : 108 ≡ 103 = first_is _ _ _ _ (sym learn.spelled ∙ gen.spelled) in
    omega (arith, first)

not_split : (words : List (List ℕ)) (file : List ℕ) (window : ℕ) (other : List ℕ) → IsLearn file window words → IsSplitWords other words → ⊥
not_split words file window other learn split =
    let first : 108 ≡ 115 = first_is _ _ _ _ (sym learn.spelled ∙ split) in
    omega (arith, first)

-- a number has one text
same_number : (m n : ℕ) → m < 2 ^ 64 → n < 2 ^ 64 → decimal m ≡ decimal n → m ≡ n
same_number m n small few same =
    sym (decimal_is_IsNumeral m small).1 ∙ ap (λ (text : List ℕ). digits_value 10 text) same ∙ (decimal_is_IsNumeral n few).1

same_learning : (words : List (List ℕ)) (file other : List ℕ) (window window' : ℕ) → IsLearn file window words → IsLearn other window' words → (file ≡ other) × (window ≡ window')
same_learning words file other window window' one two =
    let both : codes "learn" ∷ file ∷ decimal window ∷ [] ≡ codes "learn" ∷ other ∷ decimal window' ∷ [] = sym one.spelled ∙ two.spelled in
    let files : file ≡ other = cc in
    let windows : decimal window ≡ decimal window' = cc in
    (files, same_number window window' (omega (arith, one.within)) (omega (arith, two.within)) windows)

-- words that ask for no learning
none_learned : {S K C : Type 0} (left : S → Option (List ℕ)) (written : K → Option (List ℕ)) (source_faults : S → ℕ) (sink_faults : K → ℕ) (readings : C → Option (List ℕ)) (words : List (List ℕ)) (Says : List ℕ → Type 0) (old new : Book S K C) (status : ℕ)
    → IsOtherRun left written source_faults sink_faults readings words Says old new status → (file : List ℕ) (window : ℕ) → IsLearn file window words → ⊥
none_learned left written source_faults sink_faults readings words Says old new status (inl (two, none, told, same)) file window is = none (inr (inr (inr (inr (inr (inl (file, window, is)))))))
none_learned left written source_faults sink_faults readings words Says old new status (inr (inl (other, form, r))) file window is = not_replayed words file window other is form
none_learned left written source_faults sink_faults readings words Says old new status (inr (inr (inl (other, form, r)))) file window is = not_served words file window other is form
none_learned left written source_faults sink_faults readings words Says old new status (inr (inr (inr (inl (other, form, r))))) file window is = not_checked words file window other is form
none_learned left written source_faults sink_faults readings words Says old new status (inr (inr (inr (inr (inl (seed, frames, form, r)))))) file window is = not_loaded words file window seed frames is form
none_learned left written source_faults sink_faults readings words Says old new status (inr (inr (inr (inr (inr (other, form, r)))))) file window is = not_split words file window other is form

-- what a run has done whose words don't ask for an audit
abbrev pub IsUnauditedRun : {S K C : Type 0} → (S → Option (List ℕ)) → (K → Option (List ℕ)) → (S → ℕ) → (K → ℕ) → (C → Option (List ℕ)) → List (List ℕ) → (List ℕ → Type 0) → Book S K C → Book S K C → ℕ → Type 0
IsUnauditedRun left written source_faults sink_faults readings words Says old new status =
    ((file : List ℕ) × (window : ℕ) × IsLearn file window words × IsLearnRun left written source_faults sink_faults file window Says old new status)
    ⊎ IsOtherRun left written source_faults sink_faults readings words Says old new status

pub all_clauses : {S K C : Type 0} (left : S → Option (List ℕ)) (written : K → Option (List ℕ)) (source_faults : S → ℕ) (sink_faults : K → ℕ) (readings : C → Option (List ℕ)) (words : List (List ℕ)) (b0 b1 b2 b3 : Book S K C) (e e' : K) (status : ℕ) → Ran b0 b1 b2 b3 e e'
    → IsUnauditedRun left written source_faults sink_faults readings words (ToldBy sink_faults written e e') b1 b2 status → AllClauses left written source_faults sink_faults readings words b0 b3 status
all_clauses left written source_faults sink_faults readings words b0 b1 b2 b3 e e' status ran (inr r) = record {
  others = clauses_of left written source_faults sink_faults readings words b0 b1 b2 b3 e e' status ran r;
  learn = λ file window is. absurd (none_learned left written source_faults sink_faults readings words (ToldBy sink_faults written e e') b1 b2 status r file window is);
  learned_read = λ file window is. absurd (none_learned left written source_faults sink_faults readings words (ToldBy sink_faults written e e') b1 b2 status r file window is);
  learned_write = λ file window is. absurd (none_learned left written source_faults sink_faults readings words (ToldBy sink_faults written e e') b1 b2 status r file window is);
}
all_clauses {S} {K} {C} left written source_faults sink_faults readings words b0 b1 b2 b3 e e' status ran (inl (file, window, form, r)) =
    let learned = ran_learn left written source_faults sink_faults file window b0 b1 b2 b3 e e' status ran r in
    let did = learned.run in
    record {
      others = record {
        one_of = did.one_of;
        usage = (λ two. absurd (did.usage two), λ none. absurd (none (inr (inr (inr (inr (inr (inl (file, window, form)))))))));
        untouched = λ two. absurd (did.usage two);
        memory = did.memory;
        unplayed = λ f is. absurd (not_replayed words file window f form is);
        config = λ f is. absurd (not_replayed words file window f form is);
        opening = did.opening;
        still = did.still;
        unopened = λ f is. absurd (not_replayed words file window f form is);
        session = λ f is. absurd (not_replayed words file window f form is);
        read = λ f is. absurd (not_replayed words file window f form is);
        write = λ f is. absurd (not_replayed words file window f form is);
        quiet = λ one_of. inl (did.quiet one_of);
        unused = λ f is. absurd (not_replayed words file window f form is);
        elsewhere = λ f is. absurd (not_replayed words file window f form is);
        serve = λ f is. absurd (not_served words file window f form is);
        served_read = λ f is. absurd (not_served words file window f form is);
        served_write = λ f is. absurd (not_served words file window f form is);
        check = λ f is. absurd (not_checked words file window f form is);
        load = λ seed frames is. absurd (not_loaded words file window seed frames form is);
        split = λ f is. absurd (not_split words file window f form is);
      };
      learn = λ f w is.
          let same = same_learning words f file w window is form in
          rw (same.0, same.1) learned;
      learned_read = λ f w is five. rw (same_learning words f file w window is form).0 (learned_read left written source_faults sink_faults window (WasTold sink_faults written b0 b3) b0 b3 status file five (did.session (subst (λ (n : ℕ). IsOneOf session_statuses n) (sym five) refl)));
      learned_write = λ f w is six. learned_write left written source_faults sink_faults window (WasTold sink_faults written b0 b3) b0 b3 status file six (did.session (subst (λ (n : ℕ). IsOneOf session_statuses n) (sym six) refl));
    }
