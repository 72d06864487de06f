-- From what learning with a plan has done to what its run has done.
use Rattle.std.proofs.Common.{◌≡◌, ◌≢◌, ℕ, inl, inr, List, true, false, refl, sym, ap, ◌∙◌, subst, arith, Option}
use Rattle.savi_kinds.specs.declared.plan.Plan.{Plan}
use Rattle.savi_ends.specs.declared.world.Std.TheVariants.{Out}
use Rattle.savi_ends.specs.declared.world.Ends.{Ends}
use Rattle.savi_ends.specs.Faults.{Rose}
use Rattle.savi_ends.specs.Places.{Book, Place, PortKey, OthersStay}
use Rattle.run_config.specs.declared.refusal.Refusal.{Refusal}
use Rattle.run_config.specs.declared.refusal.Refusal.TheVariants as refusal
use Rattle.run_config.specs.Configs.{EndHasNoFault, IsConfigured, IsReadThrough}
use Rattle.switch_report.specs.RunLines.{memory_line}
use Rattle.switch_run.specs.Causes.{IsOneOf, IsUnserved, IsUnusedOf, quiet_statuses, session_statuses, statuses, unused_statuses}
use Rattle.switch_run.specs.Concluded.{refusal_line, refusal_status}
use Rattle.switch_run.specs.Learnings.{IsLearnRun, IsLearning, IsLearningOf}
use Rattle.switch_run.specs.Runs.{IsRunOf}
use Rattle.switch_run.specs.Session.{IsFileUnopened, IsPortUnopened}
use Rattle.switch_run.proofs.LearnClauses.{moved_learning, moved_port}
use Rattle.switch_run.proofs.Running.{SamePlaces, moved_unused, read_before, same_places}

module _ {S K C : Type 0} (left : S → Option (List ℕ)) (written : K → Option (List ℕ)) (source_faults : S → ℕ) (sink_faults : K → ℕ) (file : List ℕ) (window : ℕ) (Says : List ℕ → Type 0) (b0 b1 b2 : Book S K C) (status : ℕ)
    (read : b1 ≡ record b0 { faults = b1.faults; inputs = b1.inputs }) (inputs : OthersStay b0.inputs b1.inputs file) where
  -- with a plan
  module _ (plan : Plan) (configured : IsConfigured true left (b0.inputs file) plan) (input : IsReadThrough left (b0.inputs file) (b1.inputs file)) (still : EndHasNoFault source_faults (b1.inputs file)) (world_still : b1.faults ≡ b0.faults)
      (one_of : IsOneOf statuses status) (usage : status ≢ 2) (config : status ≢ 3) (memory : status ≡ 1 → Says memory_line) (unplayed : status ≡ 1 → b2 ≡ b1) (rose : status ≡ 7 → Rose b1.faults b2.faults) (unfailed : status ≢ 7 → b2.faults ≡ b1.faults) (unopened : status ≡ 7 → IsPortUnopened plan Says b1 b2)
      (learning : IsOneOf session_statuses status → IsLearningOf left written source_faults sink_faults plan window Says b1 b2 status) (quiet : IsOneOf quiet_statuses status → b2.std Out ≡ b1.std Out)
      (unused : IsOneOf unused_statuses status → IsUnusedOf false plan b1 b2) (rest : b2 ≡ record b1 { faults = b2.faults; ports = b2.ports; std = b2.std }) where
    inputs_same : b2.inputs ≡ b1.inputs
    inputs_same = ap (λ (b : Book S K C). b.inputs) rest

    input_read : IsReadThrough left (b0.inputs file) (b2.inputs file)
    input_read = subst (λ (p : Place S). IsReadThrough left (b0.inputs file) p) (sym (ap (λ (i : List ℕ → Place S). i file) inputs_same)) input

    still_read : EndHasNoFault source_faults (b2.inputs file)
    still_read = subst (λ (p : Place S). EndHasNoFault source_faults p) (sym (ap (λ (i : List ℕ → Place S). i file) inputs_same)) still

    before : SamePlaces b1 b0
    before = read_before b0 b1 read

    port_failed : status ≡ 7 → IsPortUnopened plan Says b0 b2
    port_failed seven = moved_port plan Says Says b1 b2 b0 b2 before (same_places b2) (λ lines told. told) (unopened seven)

    unserved : status ≡ 1 → IsUnserved b0 b2
    unserved one = record {
      ports = ap (λ (b : Book S K C). b.ports) (unplayed one) ∙ ap (λ (b : Book S K C). b.ports) read;
      control = ap (λ (b : Book S K C). b.control) (unplayed one) ∙ ap (λ (b : Book S K C). b.control) read;
      ticker = ap (λ (b : Book S K C). b.ticker) (unplayed one) ∙ ap (λ (b : Book S K C). b.ticker) read;
      outputs = ap (λ (b : Book S K C). b.outputs) (unplayed one) ∙ ap (λ (b : Book S K C). b.outputs) read;
    }

    pub learned_run : IsLearnRun left written source_faults sink_faults file window Says b0 b2 status
    learned_run = record {
      run = record {
        one_of = one_of;
        usage = usage;
        memory = memory;
        unplayed = λ one. record { input = inr (input_read, still_read); ends = inl (unserved one) };
        config = λ three. absurd (config three);
        opening = λ seven. subst (λ (n : ℕ). Rose n b2.faults) world_still (rose seven);
        still = λ other. unfailed other ∙ world_still;
        unopened = λ seven. inr (record {
          plan = plan;
          configured = configured;
          input = input_read;
          still = still_read;
          ticker = ap (λ (b : Book S K C). b.ticker) rest ∙ ap (λ (b : Book S K C). b.ticker) read;
          part = inl (port_failed seven);
        });
        session = λ is. inr (record {
          plan = plan;
          configured = configured;
          input = input_read;
          still = still_read;
          learning = moved_learning left written source_faults sink_faults plan window Says Says b1 b2 b0 b2 status before.ports refl (sym (ap (λ (b : Book S K C). b.std Out) read)) refl (λ lines told. told) (learning is);
        });
        quiet = λ is. quiet is ∙ ap (λ (b : Book S K C). b.std Out) read;
        unused = λ is. inr (plan, configured, moved_unused false plan b1 b2 b0 b2 before (same_places b2) (unused is));
        inputs = λ other apart. ap (λ (i : List ℕ → Place S). i other) inputs_same ∙ inputs other apart;
      };
      opened = λ seven. inr (record { plan = plan; configured = configured; input = input_read; still = still_read; port = port_failed seven });
      rest = rest ∙ ap (λ (b : Book S K C). record b { faults = b2.faults; ports = b2.ports; std = b2.std }) read ∙ ap (λ (i : List ℕ → Place S). record b0 { faults = b2.faults; inputs = i; ports = b2.ports; std = b2.std }) (sym inputs_same);
    }

  -- without one

  file_failed : (r : Refusal) → status ≡ refusal_status r → Says (refusal_line file r) → (r ≡ refusal.CannotOpen → b1.inputs file ≡ b0.inputs file) → IsUnserved b0 b1 → status ≡ 7 → IsFileUnopened file Says b0 b1
  file_failed refusal.NoMemory is told place unserved_is seven = absurd (omega (arith, is, seven))
  file_failed refusal.CannotOpen is told place unserved_is seven = record { errors = told; place = place refl; unserved = unserved_is }
  file_failed refusal.ReadFailed is told place unserved_is seven = absurd (omega (arith, is, seven))
  file_failed (refusal.Refused fault) is told place unserved_is seven = absurd (omega (arith, is, seven))

  pub refused_run : (r : Refusal) → status ≡ refusal_status r → Says (refusal_line file r) → (r ≡ refusal.CannotOpen → b1.inputs file ≡ b0.inputs file) → IsUnserved b0 b1
      → IsRunOf true left written source_faults file Says (IsLearning left written source_faults sink_faults file window Says b0 b1 status) b0 b1 status → IsLearnRun left written source_faults sink_faults file window Says b0 b1 status
  refused_run r is told place unserved_is run = record {
    run = run;
    opened = λ seven. inl (file_failed r is told place unserved_is seven);
    rest =
        let ports = ap (λ (b : Book S K C). b.ports) read in
        let std = ap (λ (b : Book S K C). b.std) read in
        read
        ∙ ap (λ (p : PortKey → Place (Ends S K C)). record b0 { faults = b1.faults; inputs = b1.inputs; ports = p }) (sym ports)
        ∙ ap (λ (s : _ → Place K). record b0 { faults = b1.faults; inputs = b1.inputs; ports = b1.ports; std = s }) (sym std);
  }
