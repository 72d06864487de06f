use Rattle.std.proofs.Common.{◌≡◌, ◌≢◌, ℕ, suc, ◌+◌, ◌-◌, ◌<◌, List, [], ◌∷◌, map, refl, sym, ap, ◌∙◌, subst, arith, false, Option, None, IfSome}
use Rattle.savi_kinds.specs.declared.plan.Plan.{Plan}
use Rattle.savi_kinds.specs.declared.entry.Who.TheVariants.{Control}
use Rattle.savi_kinds.specs.ValidPlan.{IsValidPlan}
use Rattle.checkpoint.specs.Bases.{Base}
use Rattle.savi_history.specs.Legal.{IsOpen}
use Rattle.savi_history.specs.Passes.{control_pass, has_ended}
use Rattle.savi_history.specs.Picks.{IsPick, IsLeast}
use Rattle.savi_history.specs.Summary.{capped}
use Rattle.savi_segments.specs.Replay.{Run, room_made}
use Rattle.savi_core.specs.Machines.{Machine, base_of}
use Rattle.journal_write.specs.declared.journal.Journal.{Journal}
use Rattle.port_worker.specs.Inputs.{turn_moment}
use Rattle.port_worker.specs.Journalled.{IsJournalled}
use Rattle.port_worker.specs.LineInputs.{control_moment}
use Rattle.port_worker.specs.Steps.{HasRoomFor}
use Rattle.journal_write.specs.Told.{TellsOf, passes_over}
use Rattle.port_worker.specs.Turnings.{AreTurned, StandsAt, turn_next}
use Rattle.port_worker.proofs.Beginning.{begun_at}
use Rattle.port_worker.proofs.Fitting.{fits_started}
use Rattle.port_worker.proofs.Going.{at_machine, control_goes, control_less, control_next_here, control_open, control_turns, goes_base, goes_few, goes_looked, goes_over, goes_planned, goes_quiet, goes_serves, goes_ticker, goes_valid, looked_weighs, made_planned, made_quiet, made_so, made_sound, made_valid, next_at, port_goes, port_inside, port_known, port_less, port_next_here, port_open, port_room}
use Rattle.port_worker.proofs.Journalling.{none_if, room_kept}
use Rattle.port_worker.proofs.Later.{looked_later}
use Rattle.port_worker.proofs.RowsHeld.{rows_of}
use Rattle.port_worker.proofs.Starting.{control_open as control_opens, holds, opened, opened_base, opened_machine, opened_plan, start, started_empty}
use Rattle.port_worker.proofs.turns.replay.Goals as goal

none_told : (n : ℕ) → n ≡ 0 → n ≡ capped 0
none_told n is = omega (arith, is)

-- the place of a port among all inputs is behind control's
one_behind : (place : ℕ) → place ≢ 0 → place ≡ suc (place - 1)
one_behind place other = omega (arith, other)

behind_control : (numbers : List (Option ℕ)) (place : ℕ) → place ≢ 0 → IsLeast numbers place → IsLeast numbers (suc (place - 1))
behind_control numbers place other least = subst (λ (n : ℕ). IsLeast numbers n) (one_behind place other) least

at_control : (numbers : List (Option ℕ)) (place : ℕ) → place ≡ 0 → IsLeast numbers place → IsLeast numbers 0
at_control numbers place here least = subst (λ (n : ℕ). IsLeast numbers n) here least

pub begin_all-requires-clause-base : goal.begin_all-requires-clause-base
begin_all-requires-clause-base g c =
    ap base_of c.requires.start ∙ started_empty c.args.core.now.plan

pub end_unheard-requires : goal.end_unheard-requires
end_unheard-requires g c =
    let begun = c.begin_all.ensures.begun in
    record {
      «open» = subst (λ (b : Base). IsOpen c.begin_all.new.core.plan b c.begin_all.new.core.past Control) (sym c.begin_all.ensures.base)
          (control_opens g.S.Source.left g.K.Sink.written g.S.Source.faults g.K.Sink.faults c.args.core.now.plan c.args.control.now c.args.ports.now c.begin_all.new.ports c.requires.planned c.requires.valid.ports c.begin_all.new.core.past begun.0 c.requires.unread c.begin_all.ensures.sinks begun.1 begun.2 c.requires.unheard
          c.begin_all.new.core.plan c.begin_all.ensures.plan);
    }

pub turns-init : goal.turns-init
turns-init g c =
    let plan = c.args.core.now.plan in
    let first = c.args.ports.now in
    let ends = c.args.control.now in
    let ports = c.begin_all.new.ports in
    let before = c.begin_all.new.core.past in
    let begun = c.begin_all.ensures.begun in
    let made = c.end_unheard.ensures in
    let past_is : c.end_unheard.new.core.past ≡ opened plan before ends =
    ap (λ (m : Machine). m.past) made ∙ opened_machine c.begin_all.new.core c.begin_all.ensures.base ends ∙ ap (λ (p : Plan). opened p before ends) c.begin_all.ensures.plan in
    record {
      run = begun_at (opened plan before ends);
      plan_is = ap (λ (m : Machine). m.plan) made ∙ opened_plan c.begin_all.new.core ends ∙ c.begin_all.ensures.plan;
      at = record { base = ap base_of made ∙ opened_base c.begin_all.new.core ends ∙ c.begin_all.ensures.base; rows = past_is };
      runs = start g.S.Source.left g.K.Sink.written g.S.Source.faults g.K.Sink.faults plan ends first ports c.requires.planned c.requires.valid.ports before begun.0 c.requires.unread c.begin_all.ensures.sinks begun.1 begun.2 c.requires.unheard;
      fits = fits_started g.S.Source.left g.K.Sink.written g.S.Source.faults g.K.Sink.faults (rows_of (begun_at (opened plan before ends))) first ports
          (holds g.S.Source.left g.K.Sink.written g.S.Source.faults g.K.Sink.faults plan ends first ports c.requires.planned c.requires.valid.ports before begun.0 c.requires.unread c.begin_all.ensures.sinks begun.1 begun.2 c.requires.unheard)
          c.requires.unread c.begin_all.ensures.sinks;
      tells = record { entries_are = none_told c.new-told.result.entries c.new-told.ensures.entries; ends_are = c.new-told.ensures.ends };
      written_so = subst (λ (p : Plan). IsJournalled g.K.Sink.written g.K.Sink.faults p [] c.args.journal.now c.begin_journal.new.journal) c.plan.ensures c.begin_journal.ensures;
      turned = record { legal = tt; newest = tt; before = tt };
    }

pub finish-requires-clause-planned : goal.finish-requires-clause-planned
finish-requires-clause-planned g c =
    let plan = c.args.core.now.plan in
    let first = c.args.ports.now in
    let ends_first = c.args.control.now in
    let journal_first = c.args.journal.now in
    let ends = c.look_control.new.control in
    let ports = c.look_all.new.ports in
    let journal = c.turns.journal in
    let told = c.turns.told in
    let core = c.turns.core in
    let heard = c.look_control.ensures.known in
    let known = c.look_all.ensures.known in
    let goes = goes_looked g.S.Source.left g.K.Sink.written g.S.Source.faults g.K.Sink.faults plan ends_first first journal_first c.requires.planned c.requires.valid c.turns.control c.turns.ports journal told.entries told.ends.items core ends ports c.look_control.ensures.looked c.look_all.ensures.looked c.turns.invariant in
    goes_planned g.S.Source.left g.K.Sink.written g.S.Source.faults g.K.Sink.faults plan ends_first first journal_first c.requires.planned c.requires.valid ends ports journal told.entries told.ends.items core goes

pub finish-requires-clause-inputs : goal.finish-requires-clause-inputs
finish-requires-clause-inputs g c =
    let plan = c.args.core.now.plan in
    let first = c.args.ports.now in
    let ends_first = c.args.control.now in
    let journal_first = c.args.journal.now in
    let ends = c.look_control.new.control in
    let ports = c.look_all.new.ports in
    let journal = c.turns.journal in
    let told = c.turns.told in
    let core = c.turns.core in
    let heard = c.look_control.ensures.known in
    let known = c.look_all.ensures.known in
    let goes = goes_looked g.S.Source.left g.K.Sink.written g.S.Source.faults g.K.Sink.faults plan ends_first first journal_first c.requires.planned c.requires.valid c.turns.control c.turns.ports journal told.entries told.ends.items core ends ports c.look_control.ensures.looked c.look_all.ensures.looked c.turns.invariant in
    let none : IsPick (control_moment ends ∷ map turn_moment ports) None = subst (λ (o : Option ℕ). IsPick (control_moment ends ∷ map turn_moment ports) o) (none_if c.next_of.result c.in_default.not-Some) c.next_of.ensures in
    goes_over g.S.Source.left g.K.Sink.written g.S.Source.faults g.K.Sink.faults plan ends_first first journal_first c.requires.planned c.requires.valid ends ports journal told.entries told.ends.items core goes heard known none

pub finish-requires-clause-quiet : goal.finish-requires-clause-quiet
finish-requires-clause-quiet g c =
    let plan = c.args.core.now.plan in
    let first = c.args.ports.now in
    let ends_first = c.args.control.now in
    let journal_first = c.args.journal.now in
    let ends = c.look_control.new.control in
    let ports = c.look_all.new.ports in
    let journal = c.turns.journal in
    let told = c.turns.told in
    let core = c.turns.core in
    let heard = c.look_control.ensures.known in
    let known = c.look_all.ensures.known in
    let goes = goes_looked g.S.Source.left g.K.Sink.written g.S.Source.faults g.K.Sink.faults plan ends_first first journal_first c.requires.planned c.requires.valid c.turns.control c.turns.ports journal told.entries told.ends.items core ends ports c.look_control.ensures.looked c.look_all.ensures.looked c.turns.invariant in
    goes_quiet g.S.Source.left g.K.Sink.written g.S.Source.faults g.K.Sink.faults plan ends_first first journal_first c.requires.planned c.requires.valid ends ports journal told.entries told.ends.items core goes

pub finish-requires-clause-ticker : goal.finish-requires-clause-ticker
finish-requires-clause-ticker g c =
    let plan = c.args.core.now.plan in
    let first = c.args.ports.now in
    let ends_first = c.args.control.now in
    let journal_first = c.args.journal.now in
    let ends = c.look_control.new.control in
    let ports = c.look_all.new.ports in
    let journal = c.turns.journal in
    let told = c.turns.told in
    let core = c.turns.core in
    let heard = c.look_control.ensures.known in
    let known = c.look_all.ensures.known in
    let goes = goes_looked g.S.Source.left g.K.Sink.written g.S.Source.faults g.K.Sink.faults plan ends_first first journal_first c.requires.planned c.requires.valid c.turns.control c.turns.ports journal told.entries told.ends.items core ends ports c.look_control.ensures.looked c.look_all.ensures.looked c.turns.invariant in
    goes_ticker g.S.Source.left g.K.Sink.written g.S.Source.faults g.K.Sink.faults plan ends_first first journal_first c.requires.planned c.requires.valid ends ports journal told.entries told.ends.items core goes

pub close_segment-requires-clause-few : goal.close_segment-requires-clause-few
close_segment-requires-clause-few g c =
    let plan = c.args.core.now.plan in
    let first = c.args.ports.now in
    let ends_first = c.args.control.now in
    let journal_first = c.args.journal.now in
    let ends = c.look_control.new.control in
    let ports = c.look_all.new.ports in
    let journal = c.turns.journal in
    let told = c.turns.told in
    let core = c.turns.core in
    let heard = c.look_control.ensures.known in
    let known = c.look_all.ensures.known in
    let goes = goes_looked g.S.Source.left g.K.Sink.written g.S.Source.faults g.K.Sink.faults plan ends_first first journal_first c.requires.planned c.requires.valid c.turns.control c.turns.ports journal told.entries told.ends.items core ends ports c.look_control.ensures.looked c.look_all.ensures.looked c.turns.invariant in
    goes_few g.S.Source.left g.K.Sink.written g.S.Source.faults g.K.Sink.faults plan ends_first first journal_first c.requires.planned c.requires.valid ends ports journal told.entries told.ends.items core goes
    ∙ sym (ap (λ (x : Machine). passes_over x.plan (base_of x) []) c.finish.ensures.made)

pub close_segment-requires-clause-lines : goal.close_segment-requires-clause-lines
close_segment-requires-clause-lines g c =
    let plan = c.args.core.now.plan in
    let first = c.args.ports.now in
    let ends_first = c.args.control.now in
    let journal_first = c.args.journal.now in
    let ends = c.look_control.new.control in
    let ports = c.look_all.new.ports in
    let journal = c.turns.journal in
    let told = c.turns.told in
    let core = c.turns.core in
    let heard = c.look_control.ensures.known in
    let known = c.look_all.ensures.known in
    let goes = goes_looked g.S.Source.left g.K.Sink.written g.S.Source.faults g.K.Sink.faults plan ends_first first journal_first c.requires.planned c.requires.valid c.turns.control c.turns.ports journal told.entries told.ends.items core ends ports c.look_control.ensures.looked c.look_all.ensures.looked c.turns.invariant in
    room_kept g.K.Sink.written g.K.Sink.faults plan goes.run.closed journal_first journal c.requires.blank goes.written_so

pub make_room-requires-clause-valid : goal.make_room-requires-clause-valid
make_room-requires-clause-valid g c =
    let plan = c.args.core.now.plan in
    let first = c.args.ports.now in
    let ends_first = c.args.control.now in
    let journal_first = c.args.journal.now in
    let ends = c.look_control.new.control in
    let ports = c.look_all.new.ports in
    let journal = c.turns.journal in
    let told = c.turns.told in
    let core = c.turns.core in
    let heard = c.look_control.ensures.known in
    let known = c.look_all.ensures.known in
    let goes = goes_looked g.S.Source.left g.K.Sink.written g.S.Source.faults g.K.Sink.faults plan ends_first first journal_first c.requires.planned c.requires.valid c.turns.control c.turns.ports journal told.entries told.ends.items core ends ports c.look_control.ensures.looked c.look_all.ensures.looked c.turns.invariant in
    goes_valid g.S.Source.left g.K.Sink.written g.S.Source.faults g.K.Sink.faults plan ends_first first journal_first c.requires.planned c.requires.valid ends ports journal told.entries told.ends.items core goes

pub make_room-requires-clause-planned : goal.make_room-requires-clause-planned
make_room-requires-clause-planned g c =
    let plan = c.args.core.now.plan in
    let first = c.args.ports.now in
    let ends_first = c.args.control.now in
    let journal_first = c.args.journal.now in
    let ends = c.look_control.new.control in
    let ports = c.look_all.new.ports in
    let journal = c.turns.journal in
    let told = c.turns.told in
    let core = c.turns.core in
    let heard = c.look_control.ensures.known in
    let known = c.look_all.ensures.known in
    let goes = goes_looked g.S.Source.left g.K.Sink.written g.S.Source.faults g.K.Sink.faults plan ends_first first journal_first c.requires.planned c.requires.valid c.turns.control c.turns.ports journal told.entries told.ends.items core ends ports c.look_control.ensures.looked c.look_all.ensures.looked c.turns.invariant in
    goes_planned g.S.Source.left g.K.Sink.written g.S.Source.faults g.K.Sink.faults plan ends_first first journal_first c.requires.planned c.requires.valid ends ports journal told.entries told.ends.items core goes

pub make_room-requires-clause-known : goal.make_room-requires-clause-known
make_room-requires-clause-known g c =
    let plan = c.args.core.now.plan in
    let first = c.args.ports.now in
    let ends_first = c.args.control.now in
    let journal_first = c.args.journal.now in
    let ends = c.look_control.new.control in
    let ports = c.look_all.new.ports in
    let journal = c.turns.journal in
    let told = c.turns.told in
    let core = c.turns.core in
    let heard = c.look_control.ensures.known in
    let known = c.look_all.ensures.known in
    let goes = goes_looked g.S.Source.left g.K.Sink.written g.S.Source.faults g.K.Sink.faults plan ends_first first journal_first c.requires.planned c.requires.valid c.turns.control c.turns.ports journal told.entries told.ends.items core ends ports c.look_control.ensures.looked c.look_all.ensures.looked c.turns.invariant in
    let place = c.in-Some.place in
    let least = c.in-Some.ensures in
    let next = next_at g.S.Source.left g.K.Sink.written g.S.Source.faults g.K.Sink.faults plan ends_first first journal_first c.requires.planned c.requires.valid ends ports journal told.entries told.ends.items core goes heard known place least in
    rw next.turn_is refl

pub make_room-requires-clause-open : goal.make_room-requires-clause-open
make_room-requires-clause-open g c =
    let plan = c.args.core.now.plan in
    let first = c.args.ports.now in
    let ends_first = c.args.control.now in
    let journal_first = c.args.journal.now in
    let ends = c.look_control.new.control in
    let ports = c.look_all.new.ports in
    let journal = c.turns.journal in
    let told = c.turns.told in
    let core = c.turns.core in
    let heard = c.look_control.ensures.known in
    let known = c.look_all.ensures.known in
    let goes = goes_looked g.S.Source.left g.K.Sink.written g.S.Source.faults g.K.Sink.faults plan ends_first first journal_first c.requires.planned c.requires.valid c.turns.control c.turns.ports journal told.entries told.ends.items core ends ports c.look_control.ensures.looked c.look_all.ensures.looked c.turns.invariant in
    let place = c.in-Some.place in
    let least = c.in-Some.ensures in
    let next = next_at g.S.Source.left g.K.Sink.written g.S.Source.faults g.K.Sink.faults plan ends_first first journal_first c.requires.planned c.requires.valid ends ports journal told.entries told.ends.items core goes heard known place least in
    at_machine core plan goes.run (λ p b past. (pass : ℕ) × (pass < control_pass p + 1) × (has_ended b pass past ≡ false)) goes.plan_is goes.at (next.pass, next.below, next.open_now)

pub make_room-requires-clause-ticker : goal.make_room-requires-clause-ticker
make_room-requires-clause-ticker g c =
    let plan = c.args.core.now.plan in
    let first = c.args.ports.now in
    let ends_first = c.args.control.now in
    let journal_first = c.args.journal.now in
    let ends = c.look_control.new.control in
    let ports = c.look_all.new.ports in
    let journal = c.turns.journal in
    let told = c.turns.told in
    let core = c.turns.core in
    let heard = c.look_control.ensures.known in
    let known = c.look_all.ensures.known in
    let goes = goes_looked g.S.Source.left g.K.Sink.written g.S.Source.faults g.K.Sink.faults plan ends_first first journal_first c.requires.planned c.requires.valid c.turns.control c.turns.ports journal told.entries told.ends.items core ends ports c.look_control.ensures.looked c.look_all.ensures.looked c.turns.invariant in
    goes_ticker g.S.Source.left g.K.Sink.written g.S.Source.faults g.K.Sink.faults plan ends_first first journal_first c.requires.planned c.requires.valid ends ports journal told.entries told.ends.items core goes

pub make_room-requires-clause-quiet : goal.make_room-requires-clause-quiet
make_room-requires-clause-quiet g c =
    let plan = c.args.core.now.plan in
    let first = c.args.ports.now in
    let ends_first = c.args.control.now in
    let journal_first = c.args.journal.now in
    let ends = c.look_control.new.control in
    let ports = c.look_all.new.ports in
    let journal = c.turns.journal in
    let told = c.turns.told in
    let core = c.turns.core in
    let heard = c.look_control.ensures.known in
    let known = c.look_all.ensures.known in
    let goes = goes_looked g.S.Source.left g.K.Sink.written g.S.Source.faults g.K.Sink.faults plan ends_first first journal_first c.requires.planned c.requires.valid c.turns.control c.turns.ports journal told.entries told.ends.items core ends ports c.look_control.ensures.looked c.look_all.ensures.looked c.turns.invariant in
    goes_quiet g.S.Source.left g.K.Sink.written g.S.Source.faults g.K.Sink.faults plan ends_first first journal_first c.requires.planned c.requires.valid ends ports journal told.entries told.ends.items core goes

pub make_room-requires-clause-few : goal.make_room-requires-clause-few
make_room-requires-clause-few g c =
    let plan = c.args.core.now.plan in
    let first = c.args.ports.now in
    let ends_first = c.args.control.now in
    let journal_first = c.args.journal.now in
    let ends = c.look_control.new.control in
    let ports = c.look_all.new.ports in
    let journal = c.turns.journal in
    let told = c.turns.told in
    let core = c.turns.core in
    let heard = c.look_control.ensures.known in
    let known = c.look_all.ensures.known in
    let goes = goes_looked g.S.Source.left g.K.Sink.written g.S.Source.faults g.K.Sink.faults plan ends_first first journal_first c.requires.planned c.requires.valid c.turns.control c.turns.ports journal told.entries told.ends.items core ends ports c.look_control.ensures.looked c.look_all.ensures.looked c.turns.invariant in
    goes_few g.S.Source.left g.K.Sink.written g.S.Source.faults g.K.Sink.faults plan ends_first first journal_first c.requires.planned c.requires.valid ends ports journal told.entries told.ends.items core goes

pub make_room-requires-clause-lines : goal.make_room-requires-clause-lines
make_room-requires-clause-lines g c =
    let plan = c.args.core.now.plan in
    let first = c.args.ports.now in
    let ends_first = c.args.control.now in
    let journal_first = c.args.journal.now in
    let ends = c.look_control.new.control in
    let ports = c.look_all.new.ports in
    let journal = c.turns.journal in
    let told = c.turns.told in
    let core = c.turns.core in
    let heard = c.look_control.ensures.known in
    let known = c.look_all.ensures.known in
    let goes = goes_looked g.S.Source.left g.K.Sink.written g.S.Source.faults g.K.Sink.faults plan ends_first first journal_first c.requires.planned c.requires.valid c.turns.control c.turns.ports journal told.entries told.ends.items core ends ports c.look_control.ensures.looked c.look_all.ensures.looked c.turns.invariant in
    room_kept g.K.Sink.written g.K.Sink.faults plan goes.run.closed journal_first journal c.requires.blank goes.written_so

pub advance_control-requires-clause-planned : goal.advance_control-requires-clause-planned
advance_control-requires-clause-planned g c =
    let plan = c.args.core.now.plan in
    let first = c.args.ports.now in
    let ends_first = c.args.control.now in
    let journal_first = c.args.journal.now in
    let ends = c.look_control.new.control in
    let ports = c.look_all.new.ports in
    let journal = c.turns.journal in
    let told = c.turns.told in
    let core = c.turns.core in
    let heard = c.look_control.ensures.known in
    let known = c.look_all.ensures.known in
    let goes = goes_looked g.S.Source.left g.K.Sink.written g.S.Source.faults g.K.Sink.faults plan ends_first first journal_first c.requires.planned c.requires.valid c.turns.control c.turns.ports journal told.entries told.ends.items core ends ports c.look_control.ensures.looked c.look_all.ensures.looked c.turns.invariant in
    let place = c.in-Some.place in
    let least = c.in-Some.ensures in
    let next = next_at g.S.Source.left g.K.Sink.written g.S.Source.faults g.K.Sink.faults plan ends_first first journal_first c.requires.planned c.requires.valid ends ports journal told.entries told.ends.items core goes heard known place least in
    let mid = c.make_room.new.core in
    let journal_now = c.make_room.new.journal in
    let told_now = c.make_room.new.told in
    let made = made_so g.S.Source.left g.K.Sink.written g.S.Source.faults g.K.Sink.faults plan ends_first first journal_first c.requires.planned c.requires.valid ends ports journal told.entries told.ends.items core goes heard known place next journal_now told_now.entries told_now.ends.items mid c.make_room.ensures.plan c.make_room.ensures.made c.make_room.ensures.turned c.make_room.ensures.told c.make_room.ensures.journal in
    made_planned g.S.Source.left g.K.Sink.written g.S.Source.faults g.K.Sink.faults plan ends_first first journal_first c.requires.planned c.requires.valid ends ports journal told.entries told.ends.items core goes heard known place next journal_now told_now.entries told_now.ends.items mid made

pub advance_control-requires-clause-quiet : goal.advance_control-requires-clause-quiet
advance_control-requires-clause-quiet g c =
    let plan = c.args.core.now.plan in
    let first = c.args.ports.now in
    let ends_first = c.args.control.now in
    let journal_first = c.args.journal.now in
    let ends = c.look_control.new.control in
    let ports = c.look_all.new.ports in
    let journal = c.turns.journal in
    let told = c.turns.told in
    let core = c.turns.core in
    let heard = c.look_control.ensures.known in
    let known = c.look_all.ensures.known in
    let goes = goes_looked g.S.Source.left g.K.Sink.written g.S.Source.faults g.K.Sink.faults plan ends_first first journal_first c.requires.planned c.requires.valid c.turns.control c.turns.ports journal told.entries told.ends.items core ends ports c.look_control.ensures.looked c.look_all.ensures.looked c.turns.invariant in
    let place = c.in-Some.place in
    let least = c.in-Some.ensures in
    let next = next_at g.S.Source.left g.K.Sink.written g.S.Source.faults g.K.Sink.faults plan ends_first first journal_first c.requires.planned c.requires.valid ends ports journal told.entries told.ends.items core goes heard known place least in
    let mid = c.make_room.new.core in
    let journal_now = c.make_room.new.journal in
    let told_now = c.make_room.new.told in
    let made = made_so g.S.Source.left g.K.Sink.written g.S.Source.faults g.K.Sink.faults plan ends_first first journal_first c.requires.planned c.requires.valid ends ports journal told.entries told.ends.items core goes heard known place next journal_now told_now.entries told_now.ends.items mid c.make_room.ensures.plan c.make_room.ensures.made c.make_room.ensures.turned c.make_room.ensures.told c.make_room.ensures.journal in
    made_quiet g.S.Source.left g.K.Sink.written g.S.Source.faults g.K.Sink.faults plan ends_first first journal_first c.requires.planned c.requires.valid ends ports journal told.entries told.ends.items core goes heard known place next journal_now told_now.entries told_now.ends.items mid made

pub advance-requires-clause-planned : goal.advance-requires-clause-planned
advance-requires-clause-planned g c =
    let plan = c.args.core.now.plan in
    let first = c.args.ports.now in
    let ends_first = c.args.control.now in
    let journal_first = c.args.journal.now in
    let ends = c.look_control.new.control in
    let ports = c.look_all.new.ports in
    let journal = c.turns.journal in
    let told = c.turns.told in
    let core = c.turns.core in
    let heard = c.look_control.ensures.known in
    let known = c.look_all.ensures.known in
    let goes = goes_looked g.S.Source.left g.K.Sink.written g.S.Source.faults g.K.Sink.faults plan ends_first first journal_first c.requires.planned c.requires.valid c.turns.control c.turns.ports journal told.entries told.ends.items core ends ports c.look_control.ensures.looked c.look_all.ensures.looked c.turns.invariant in
    let place = c.in-Some.place in
    let least = c.in-Some.ensures in
    let next = next_at g.S.Source.left g.K.Sink.written g.S.Source.faults g.K.Sink.faults plan ends_first first journal_first c.requires.planned c.requires.valid ends ports journal told.entries told.ends.items core goes heard known place least in
    let mid = c.make_room.new.core in
    let journal_now = c.make_room.new.journal in
    let told_now = c.make_room.new.told in
    let made = made_so g.S.Source.left g.K.Sink.written g.S.Source.faults g.K.Sink.faults plan ends_first first journal_first c.requires.planned c.requires.valid ends ports journal told.entries told.ends.items core goes heard known place next journal_now told_now.entries told_now.ends.items mid c.make_room.ensures.plan c.make_room.ensures.made c.make_room.ensures.turned c.make_room.ensures.told c.make_room.ensures.journal in
    made_planned g.S.Source.left g.K.Sink.written g.S.Source.faults g.K.Sink.faults plan ends_first first journal_first c.requires.planned c.requires.valid ends ports journal told.entries told.ends.items core goes heard known place next journal_now told_now.entries told_now.ends.items mid made

pub advance-requires-clause-quiet : goal.advance-requires-clause-quiet
advance-requires-clause-quiet g c =
    let plan = c.args.core.now.plan in
    let first = c.args.ports.now in
    let ends_first = c.args.control.now in
    let journal_first = c.args.journal.now in
    let ends = c.look_control.new.control in
    let ports = c.look_all.new.ports in
    let journal = c.turns.journal in
    let told = c.turns.told in
    let core = c.turns.core in
    let heard = c.look_control.ensures.known in
    let known = c.look_all.ensures.known in
    let goes = goes_looked g.S.Source.left g.K.Sink.written g.S.Source.faults g.K.Sink.faults plan ends_first first journal_first c.requires.planned c.requires.valid c.turns.control c.turns.ports journal told.entries told.ends.items core ends ports c.look_control.ensures.looked c.look_all.ensures.looked c.turns.invariant in
    let place = c.in-Some.place in
    let least = c.in-Some.ensures in
    let next = next_at g.S.Source.left g.K.Sink.written g.S.Source.faults g.K.Sink.faults plan ends_first first journal_first c.requires.planned c.requires.valid ends ports journal told.entries told.ends.items core goes heard known place least in
    let mid = c.make_room.new.core in
    let journal_now = c.make_room.new.journal in
    let told_now = c.make_room.new.told in
    let made = made_so g.S.Source.left g.K.Sink.written g.S.Source.faults g.K.Sink.faults plan ends_first first journal_first c.requires.planned c.requires.valid ends ports journal told.entries told.ends.items core goes heard known place next journal_now told_now.entries told_now.ends.items mid c.make_room.ensures.plan c.make_room.ensures.made c.make_room.ensures.turned c.make_room.ensures.told c.make_room.ensures.journal in
    made_quiet g.S.Source.left g.K.Sink.written g.S.Source.faults g.K.Sink.faults plan ends_first first journal_first c.requires.planned c.requires.valid ends ports journal told.entries told.ends.items core goes heard known place next journal_now told_now.entries told_now.ends.items mid made

pub advance_control-requires-clause-turn : goal.advance_control-requires-clause-turn
advance_control-requires-clause-turn g c =
    let plan = c.args.core.now.plan in
    let first = c.args.ports.now in
    let ends_first = c.args.control.now in
    let journal_first = c.args.journal.now in
    let ends = c.look_control.new.control in
    let ports = c.look_all.new.ports in
    let journal = c.turns.journal in
    let told = c.turns.told in
    let core = c.turns.core in
    let heard = c.look_control.ensures.known in
    let known = c.look_all.ensures.known in
    let goes = goes_looked g.S.Source.left g.K.Sink.written g.S.Source.faults g.K.Sink.faults plan ends_first first journal_first c.requires.planned c.requires.valid c.turns.control c.turns.ports journal told.entries told.ends.items core ends ports c.look_control.ensures.looked c.look_all.ensures.looked c.turns.invariant in
    let least = at_control (control_moment ends ∷ map turn_moment ports) c.in-Some.place c.if-place-eq0.true c.in-Some.ensures in
    let next = control_next_here g.S.Source.left g.K.Sink.written g.S.Source.faults g.K.Sink.faults plan ends_first first journal_first c.requires.planned c.requires.valid ends ports journal told.entries told.ends.items core goes heard known least in
    let mid = c.make_room.new.core in
    let journal_now = c.make_room.new.journal in
    let told_now = c.make_room.new.told in
    let made = made_so g.S.Source.left g.K.Sink.written g.S.Source.faults g.K.Sink.faults plan ends_first first journal_first c.requires.planned c.requires.valid ends ports journal told.entries told.ends.items core goes heard known 0 next journal_now told_now.entries told_now.ends.items mid c.make_room.ensures.plan
    (subst (λ (k : ℕ). (run : Run) → StandsAt core run → IfSome (turn_next ends ports k) (λ turn. StandsAt mid (room_made core.plan turn run))) c.if-place-eq0.true c.make_room.ensures.made)
    (subst (λ (k : ℕ). (run : Run) → StandsAt core run → AreTurned core.plan run.closed → IfSome (turn_next ends ports k) (λ turn. AreTurned core.plan (room_made core.plan turn run).closed)) c.if-place-eq0.true c.make_room.ensures.turned)
    (subst (λ (k : ℕ). (run : Run) → StandsAt core run → TellsOf told.entries told.ends.items run.closed → IfSome (turn_next ends ports k) (λ turn. TellsOf told_now.entries told_now.ends.items (room_made core.plan turn run).closed)) c.if-place-eq0.true c.make_room.ensures.told)
    (subst (λ (k : ℕ). (run : Run) (began : Option (Journal g.row.K.Denot)) → StandsAt core run → IsJournalled g.K.Sink.written g.K.Sink.faults core.plan run.closed began journal → IfSome (turn_next ends ports k) (λ turn. IsJournalled g.K.Sink.written g.K.Sink.faults core.plan (room_made core.plan turn run).closed began journal_now)) c.if-place-eq0.true c.make_room.ensures.journal) in
    control_turns g.S.Source.left g.K.Sink.written g.S.Source.faults g.K.Sink.faults plan ends_first first journal_first c.requires.planned c.requires.valid ends ports journal told.entries told.ends.items core goes heard known least journal_now told_now.entries told_now.ends.items mid made

pub advance_control-requires-clause-open : goal.advance_control-requires-clause-open
advance_control-requires-clause-open g c =
    let plan = c.args.core.now.plan in
    let first = c.args.ports.now in
    let ends_first = c.args.control.now in
    let journal_first = c.args.journal.now in
    let ends = c.look_control.new.control in
    let ports = c.look_all.new.ports in
    let journal = c.turns.journal in
    let told = c.turns.told in
    let core = c.turns.core in
    let heard = c.look_control.ensures.known in
    let known = c.look_all.ensures.known in
    let goes = goes_looked g.S.Source.left g.K.Sink.written g.S.Source.faults g.K.Sink.faults plan ends_first first journal_first c.requires.planned c.requires.valid c.turns.control c.turns.ports journal told.entries told.ends.items core ends ports c.look_control.ensures.looked c.look_all.ensures.looked c.turns.invariant in
    let least = at_control (control_moment ends ∷ map turn_moment ports) c.in-Some.place c.if-place-eq0.true c.in-Some.ensures in
    let next = control_next_here g.S.Source.left g.K.Sink.written g.S.Source.faults g.K.Sink.faults plan ends_first first journal_first c.requires.planned c.requires.valid ends ports journal told.entries told.ends.items core goes heard known least in
    let mid = c.make_room.new.core in
    let journal_now = c.make_room.new.journal in
    let told_now = c.make_room.new.told in
    let made = made_so g.S.Source.left g.K.Sink.written g.S.Source.faults g.K.Sink.faults plan ends_first first journal_first c.requires.planned c.requires.valid ends ports journal told.entries told.ends.items core goes heard known 0 next journal_now told_now.entries told_now.ends.items mid c.make_room.ensures.plan
    (subst (λ (k : ℕ). (run : Run) → StandsAt core run → IfSome (turn_next ends ports k) (λ turn. StandsAt mid (room_made core.plan turn run))) c.if-place-eq0.true c.make_room.ensures.made)
    (subst (λ (k : ℕ). (run : Run) → StandsAt core run → AreTurned core.plan run.closed → IfSome (turn_next ends ports k) (λ turn. AreTurned core.plan (room_made core.plan turn run).closed)) c.if-place-eq0.true c.make_room.ensures.turned)
    (subst (λ (k : ℕ). (run : Run) → StandsAt core run → TellsOf told.entries told.ends.items run.closed → IfSome (turn_next ends ports k) (λ turn. TellsOf told_now.entries told_now.ends.items (room_made core.plan turn run).closed)) c.if-place-eq0.true c.make_room.ensures.told)
    (subst (λ (k : ℕ). (run : Run) (began : Option (Journal g.row.K.Denot)) → StandsAt core run → IsJournalled g.K.Sink.written g.K.Sink.faults core.plan run.closed began journal → IfSome (turn_next ends ports k) (λ turn. IsJournalled g.K.Sink.written g.K.Sink.faults core.plan (room_made core.plan turn run).closed began journal_now)) c.if-place-eq0.true c.make_room.ensures.journal) in
    control_open g.S.Source.left g.K.Sink.written g.S.Source.faults g.K.Sink.faults plan ends_first first journal_first c.requires.planned c.requires.valid ends ports journal told.entries told.ends.items core goes heard known least journal_now told_now.entries told_now.ends.items mid made

pub advance_control-requires-clause-room : goal.advance_control-requires-clause-room
advance_control-requires-clause-room g c =
    let plan = c.args.core.now.plan in
    let first = c.args.ports.now in
    let ends_first = c.args.control.now in
    let journal_first = c.args.journal.now in
    let ends = c.look_control.new.control in
    let ports = c.look_all.new.ports in
    let journal = c.turns.journal in
    let told = c.turns.told in
    let core = c.turns.core in
    let heard = c.look_control.ensures.known in
    let known = c.look_all.ensures.known in
    let goes = goes_looked g.S.Source.left g.K.Sink.written g.S.Source.faults g.K.Sink.faults plan ends_first first journal_first c.requires.planned c.requires.valid c.turns.control c.turns.ports journal told.entries told.ends.items core ends ports c.look_control.ensures.looked c.look_all.ensures.looked c.turns.invariant in
    let least = at_control (control_moment ends ∷ map turn_moment ports) c.in-Some.place c.if-place-eq0.true c.in-Some.ensures in
    let next = control_next_here g.S.Source.left g.K.Sink.written g.S.Source.faults g.K.Sink.faults plan ends_first first journal_first c.requires.planned c.requires.valid ends ports journal told.entries told.ends.items core goes heard known least in
    let mid = c.make_room.new.core in
    let journal_now = c.make_room.new.journal in
    let told_now = c.make_room.new.told in
    let made = made_so g.S.Source.left g.K.Sink.written g.S.Source.faults g.K.Sink.faults plan ends_first first journal_first c.requires.planned c.requires.valid ends ports journal told.entries told.ends.items core goes heard known 0 next journal_now told_now.entries told_now.ends.items mid c.make_room.ensures.plan
    (subst (λ (k : ℕ). (run : Run) → StandsAt core run → IfSome (turn_next ends ports k) (λ turn. StandsAt mid (room_made core.plan turn run))) c.if-place-eq0.true c.make_room.ensures.made)
    (subst (λ (k : ℕ). (run : Run) → StandsAt core run → AreTurned core.plan run.closed → IfSome (turn_next ends ports k) (λ turn. AreTurned core.plan (room_made core.plan turn run).closed)) c.if-place-eq0.true c.make_room.ensures.turned)
    (subst (λ (k : ℕ). (run : Run) → StandsAt core run → TellsOf told.entries told.ends.items run.closed → IfSome (turn_next ends ports k) (λ turn. TellsOf told_now.entries told_now.ends.items (room_made core.plan turn run).closed)) c.if-place-eq0.true c.make_room.ensures.told)
    (subst (λ (k : ℕ). (run : Run) (began : Option (Journal g.row.K.Denot)) → StandsAt core run → IsJournalled g.K.Sink.written g.K.Sink.faults core.plan run.closed began journal → IfSome (turn_next ends ports k) (λ turn. IsJournalled g.K.Sink.written g.K.Sink.faults core.plan (room_made core.plan turn run).closed began journal_now)) c.if-place-eq0.true c.make_room.ensures.journal) in
    subst (λ (k : ℕ). IfSome (turn_next ends ports k) (λ turn. HasRoomFor mid.plan mid.past turn)) c.if-place-eq0.true c.make_room.ensures.room

pub turns-smaller-then-place-eq0 : goal.turns-smaller-then-place-eq0
turns-smaller-then-place-eq0 g c =
    let plan = c.args.core.now.plan in
    let first = c.args.ports.now in
    let ends_first = c.args.control.now in
    let journal_first = c.args.journal.now in
    let ends = c.look_control.new.control in
    let ports = c.look_all.new.ports in
    let journal = c.turns.journal in
    let told = c.turns.told in
    let core = c.turns.core in
    let heard = c.look_control.ensures.known in
    let known = c.look_all.ensures.known in
    let goes = goes_looked g.S.Source.left g.K.Sink.written g.S.Source.faults g.K.Sink.faults plan ends_first first journal_first c.requires.planned c.requires.valid c.turns.control c.turns.ports journal told.entries told.ends.items core ends ports c.look_control.ensures.looked c.look_all.ensures.looked c.turns.invariant in
    let least = at_control (control_moment ends ∷ map turn_moment ports) c.in-Some.place c.if-place-eq0.true c.in-Some.ensures in
    let next = control_next_here g.S.Source.left g.K.Sink.written g.S.Source.faults g.K.Sink.faults plan ends_first first journal_first c.requires.planned c.requires.valid ends ports journal told.entries told.ends.items core goes heard known least in
    let mid = c.make_room.new.core in
    let journal_now = c.make_room.new.journal in
    let told_now = c.make_room.new.told in
    let made = made_so g.S.Source.left g.K.Sink.written g.S.Source.faults g.K.Sink.faults plan ends_first first journal_first c.requires.planned c.requires.valid ends ports journal told.entries told.ends.items core goes heard known 0 next journal_now told_now.entries told_now.ends.items mid c.make_room.ensures.plan
    (subst (λ (k : ℕ). (run : Run) → StandsAt core run → IfSome (turn_next ends ports k) (λ turn. StandsAt mid (room_made core.plan turn run))) c.if-place-eq0.true c.make_room.ensures.made)
    (subst (λ (k : ℕ). (run : Run) → StandsAt core run → AreTurned core.plan run.closed → IfSome (turn_next ends ports k) (λ turn. AreTurned core.plan (room_made core.plan turn run).closed)) c.if-place-eq0.true c.make_room.ensures.turned)
    (subst (λ (k : ℕ). (run : Run) → StandsAt core run → TellsOf told.entries told.ends.items run.closed → IfSome (turn_next ends ports k) (λ turn. TellsOf told_now.entries told_now.ends.items (room_made core.plan turn run).closed)) c.if-place-eq0.true c.make_room.ensures.told)
    (subst (λ (k : ℕ). (run : Run) (began : Option (Journal g.row.K.Denot)) → StandsAt core run → IsJournalled g.K.Sink.written g.K.Sink.faults core.plan run.closed began journal → IfSome (turn_next ends ports k) (λ turn. IsJournalled g.K.Sink.written g.K.Sink.faults core.plan (room_made core.plan turn run).closed began journal_now)) c.if-place-eq0.true c.make_room.ensures.journal) in
    let less = control_less g.S.Source.left g.K.Sink.written g.S.Source.faults g.K.Sink.faults plan ends_first first journal_first c.requires.planned c.requires.valid ends ports journal told.entries told.ends.items core goes heard known least journal_now told_now.entries told_now.ends.items mid made c.advance_control.new.control c.advance_control.new.ports c.advance_control.new.core c.advance_control.ensures.plan c.advance_control.ensures.base c.advance_control.ensures.sinks c.advance_control.ensures.stepped c.advance_control.ensures.ahead c.advance_control.ensures.outputs in
    let most = looked_weighs g.S.Source.left g.K.Sink.written g.S.Source.faults g.K.Sink.faults plan ends_first first journal_first c.requires.planned c.requires.valid c.turns.control c.turns.ports journal told.entries told.ends.items core ends ports c.look_control.ensures.looked c.look_all.ensures.looked in
    omega (arith, less, most)

pub turns-preserved-then-place-eq0 : goal.turns-preserved-then-place-eq0
turns-preserved-then-place-eq0 g c =
    let plan = c.args.core.now.plan in
    let first = c.args.ports.now in
    let ends_first = c.args.control.now in
    let journal_first = c.args.journal.now in
    let ends = c.look_control.new.control in
    let ports = c.look_all.new.ports in
    let journal = c.turns.journal in
    let told = c.turns.told in
    let core = c.turns.core in
    let heard = c.look_control.ensures.known in
    let known = c.look_all.ensures.known in
    let goes = goes_looked g.S.Source.left g.K.Sink.written g.S.Source.faults g.K.Sink.faults plan ends_first first journal_first c.requires.planned c.requires.valid c.turns.control c.turns.ports journal told.entries told.ends.items core ends ports c.look_control.ensures.looked c.look_all.ensures.looked c.turns.invariant in
    let least = at_control (control_moment ends ∷ map turn_moment ports) c.in-Some.place c.if-place-eq0.true c.in-Some.ensures in
    let next = control_next_here g.S.Source.left g.K.Sink.written g.S.Source.faults g.K.Sink.faults plan ends_first first journal_first c.requires.planned c.requires.valid ends ports journal told.entries told.ends.items core goes heard known least in
    let mid = c.make_room.new.core in
    let journal_now = c.make_room.new.journal in
    let told_now = c.make_room.new.told in
    let made = made_so g.S.Source.left g.K.Sink.written g.S.Source.faults g.K.Sink.faults plan ends_first first journal_first c.requires.planned c.requires.valid ends ports journal told.entries told.ends.items core goes heard known 0 next journal_now told_now.entries told_now.ends.items mid c.make_room.ensures.plan
    (subst (λ (k : ℕ). (run : Run) → StandsAt core run → IfSome (turn_next ends ports k) (λ turn. StandsAt mid (room_made core.plan turn run))) c.if-place-eq0.true c.make_room.ensures.made)
    (subst (λ (k : ℕ). (run : Run) → StandsAt core run → AreTurned core.plan run.closed → IfSome (turn_next ends ports k) (λ turn. AreTurned core.plan (room_made core.plan turn run).closed)) c.if-place-eq0.true c.make_room.ensures.turned)
    (subst (λ (k : ℕ). (run : Run) → StandsAt core run → TellsOf told.entries told.ends.items run.closed → IfSome (turn_next ends ports k) (λ turn. TellsOf told_now.entries told_now.ends.items (room_made core.plan turn run).closed)) c.if-place-eq0.true c.make_room.ensures.told)
    (subst (λ (k : ℕ). (run : Run) (began : Option (Journal g.row.K.Denot)) → StandsAt core run → IsJournalled g.K.Sink.written g.K.Sink.faults core.plan run.closed began journal → IfSome (turn_next ends ports k) (λ turn. IsJournalled g.K.Sink.written g.K.Sink.faults core.plan (room_made core.plan turn run).closed began journal_now)) c.if-place-eq0.true c.make_room.ensures.journal) in
    control_goes g.S.Source.left g.K.Sink.written g.S.Source.faults g.K.Sink.faults plan ends_first first journal_first c.requires.planned c.requires.valid ends ports journal told.entries told.ends.items core goes heard known least journal_now told_now.entries told_now.ends.items mid made c.advance_control.new.control c.advance_control.new.ports c.advance_control.new.core c.advance_control.ensures.plan c.advance_control.ensures.base c.advance_control.ensures.sinks c.advance_control.ensures.stepped c.advance_control.ensures.ahead c.advance_control.ensures.outputs

pub advance-requires-clause-inside : goal.advance-requires-clause-inside
advance-requires-clause-inside g c =
    let plan = c.args.core.now.plan in
    let first = c.args.ports.now in
    let ends_first = c.args.control.now in
    let journal_first = c.args.journal.now in
    let ends = c.look_control.new.control in
    let ports = c.look_all.new.ports in
    let journal = c.turns.journal in
    let told = c.turns.told in
    let core = c.turns.core in
    let heard = c.look_control.ensures.known in
    let known = c.look_all.ensures.known in
    let goes = goes_looked g.S.Source.left g.K.Sink.written g.S.Source.faults g.K.Sink.faults plan ends_first first journal_first c.requires.planned c.requires.valid c.turns.control c.turns.ports journal told.entries told.ends.items core ends ports c.look_control.ensures.looked c.look_all.ensures.looked c.turns.invariant in
    let least = behind_control (control_moment ends ∷ map turn_moment ports) c.in-Some.place c.if-place-eq0.false c.in-Some.ensures in
    let j = c.in-Some.place - 1 in
    let place_is = one_behind c.in-Some.place c.if-place-eq0.false in
    let next = port_next_here g.S.Source.left g.K.Sink.written g.S.Source.faults g.K.Sink.faults plan ends_first first journal_first c.requires.planned c.requires.valid ends ports journal told.entries told.ends.items core goes heard known j least in
    let mid = c.make_room.new.core in
    let journal_now = c.make_room.new.journal in
    let told_now = c.make_room.new.told in
    let made = made_so g.S.Source.left g.K.Sink.written g.S.Source.faults g.K.Sink.faults plan ends_first first journal_first c.requires.planned c.requires.valid ends ports journal told.entries told.ends.items core goes heard known (suc j) next journal_now told_now.entries told_now.ends.items mid c.make_room.ensures.plan
    (subst (λ (k : ℕ). (run : Run) → StandsAt core run → IfSome (turn_next ends ports k) (λ turn. StandsAt mid (room_made core.plan turn run))) place_is c.make_room.ensures.made)
    (subst (λ (k : ℕ). (run : Run) → StandsAt core run → AreTurned core.plan run.closed → IfSome (turn_next ends ports k) (λ turn. AreTurned core.plan (room_made core.plan turn run).closed)) place_is c.make_room.ensures.turned)
    (subst (λ (k : ℕ). (run : Run) → StandsAt core run → TellsOf told.entries told.ends.items run.closed → IfSome (turn_next ends ports k) (λ turn. TellsOf told_now.entries told_now.ends.items (room_made core.plan turn run).closed)) place_is c.make_room.ensures.told)
    (subst (λ (k : ℕ). (run : Run) (began : Option (Journal g.row.K.Denot)) → StandsAt core run → IsJournalled g.K.Sink.written g.K.Sink.faults core.plan run.closed began journal → IfSome (turn_next ends ports k) (λ turn. IsJournalled g.K.Sink.written g.K.Sink.faults core.plan (room_made core.plan turn run).closed began journal_now)) place_is c.make_room.ensures.journal) in
    port_inside g.S.Source.left g.K.Sink.written g.S.Source.faults g.K.Sink.faults plan ends_first first journal_first c.requires.planned c.requires.valid ends ports journal told.entries told.ends.items core goes heard known j least journal_now told_now.entries told_now.ends.items mid made

pub advance-requires-clause-sound : goal.advance-requires-clause-sound
advance-requires-clause-sound g c =
    let plan = c.args.core.now.plan in
    let first = c.args.ports.now in
    let ends_first = c.args.control.now in
    let journal_first = c.args.journal.now in
    let ends = c.look_control.new.control in
    let ports = c.look_all.new.ports in
    let journal = c.turns.journal in
    let told = c.turns.told in
    let core = c.turns.core in
    let heard = c.look_control.ensures.known in
    let known = c.look_all.ensures.known in
    let goes = goes_looked g.S.Source.left g.K.Sink.written g.S.Source.faults g.K.Sink.faults plan ends_first first journal_first c.requires.planned c.requires.valid c.turns.control c.turns.ports journal told.entries told.ends.items core ends ports c.look_control.ensures.looked c.look_all.ensures.looked c.turns.invariant in
    let place = c.in-Some.place in
    let least = c.in-Some.ensures in
    let next = next_at g.S.Source.left g.K.Sink.written g.S.Source.faults g.K.Sink.faults plan ends_first first journal_first c.requires.planned c.requires.valid ends ports journal told.entries told.ends.items core goes heard known place least in
    let mid = c.make_room.new.core in
    let journal_now = c.make_room.new.journal in
    let told_now = c.make_room.new.told in
    let made = made_so g.S.Source.left g.K.Sink.written g.S.Source.faults g.K.Sink.faults plan ends_first first journal_first c.requires.planned c.requires.valid ends ports journal told.entries told.ends.items core goes heard known place next journal_now told_now.entries told_now.ends.items mid c.make_room.ensures.plan c.make_room.ensures.made c.make_room.ensures.turned c.make_room.ensures.told c.make_room.ensures.journal in
    made_sound g.S.Source.left g.K.Sink.written g.S.Source.faults g.K.Sink.faults plan ends_first first journal_first c.requires.planned c.requires.valid ends ports journal told.entries told.ends.items core goes heard known place next journal_now told_now.entries told_now.ends.items mid made

pub advance-requires-clause-known : goal.advance-requires-clause-known
advance-requires-clause-known g c =
    let plan = c.args.core.now.plan in
    let first = c.args.ports.now in
    let ends_first = c.args.control.now in
    let journal_first = c.args.journal.now in
    let ends = c.look_control.new.control in
    let ports = c.look_all.new.ports in
    let journal = c.turns.journal in
    let told = c.turns.told in
    let core = c.turns.core in
    let heard = c.look_control.ensures.known in
    let known = c.look_all.ensures.known in
    let goes = goes_looked g.S.Source.left g.K.Sink.written g.S.Source.faults g.K.Sink.faults plan ends_first first journal_first c.requires.planned c.requires.valid c.turns.control c.turns.ports journal told.entries told.ends.items core ends ports c.look_control.ensures.looked c.look_all.ensures.looked c.turns.invariant in
    let least = behind_control (control_moment ends ∷ map turn_moment ports) c.in-Some.place c.if-place-eq0.false c.in-Some.ensures in
    let j = c.in-Some.place - 1 in
    let place_is = one_behind c.in-Some.place c.if-place-eq0.false in
    let next = port_next_here g.S.Source.left g.K.Sink.written g.S.Source.faults g.K.Sink.faults plan ends_first first journal_first c.requires.planned c.requires.valid ends ports journal told.entries told.ends.items core goes heard known j least in
    let mid = c.make_room.new.core in
    let journal_now = c.make_room.new.journal in
    let told_now = c.make_room.new.told in
    let made = made_so g.S.Source.left g.K.Sink.written g.S.Source.faults g.K.Sink.faults plan ends_first first journal_first c.requires.planned c.requires.valid ends ports journal told.entries told.ends.items core goes heard known (suc j) next journal_now told_now.entries told_now.ends.items mid c.make_room.ensures.plan
    (subst (λ (k : ℕ). (run : Run) → StandsAt core run → IfSome (turn_next ends ports k) (λ turn. StandsAt mid (room_made core.plan turn run))) place_is c.make_room.ensures.made)
    (subst (λ (k : ℕ). (run : Run) → StandsAt core run → AreTurned core.plan run.closed → IfSome (turn_next ends ports k) (λ turn. AreTurned core.plan (room_made core.plan turn run).closed)) place_is c.make_room.ensures.turned)
    (subst (λ (k : ℕ). (run : Run) → StandsAt core run → TellsOf told.entries told.ends.items run.closed → IfSome (turn_next ends ports k) (λ turn. TellsOf told_now.entries told_now.ends.items (room_made core.plan turn run).closed)) place_is c.make_room.ensures.told)
    (subst (λ (k : ℕ). (run : Run) (began : Option (Journal g.row.K.Denot)) → StandsAt core run → IsJournalled g.K.Sink.written g.K.Sink.faults core.plan run.closed began journal → IfSome (turn_next ends ports k) (λ turn. IsJournalled g.K.Sink.written g.K.Sink.faults core.plan (room_made core.plan turn run).closed began journal_now)) place_is c.make_room.ensures.journal) in
    port_known g.S.Source.left g.K.Sink.written g.S.Source.faults g.K.Sink.faults plan ends_first first journal_first c.requires.planned c.requires.valid ends ports journal told.entries told.ends.items core goes heard known j least journal_now told_now.entries told_now.ends.items mid made

pub advance-requires-clause-open : goal.advance-requires-clause-open
advance-requires-clause-open g c =
    let plan = c.args.core.now.plan in
    let first = c.args.ports.now in
    let ends_first = c.args.control.now in
    let journal_first = c.args.journal.now in
    let ends = c.look_control.new.control in
    let ports = c.look_all.new.ports in
    let journal = c.turns.journal in
    let told = c.turns.told in
    let core = c.turns.core in
    let heard = c.look_control.ensures.known in
    let known = c.look_all.ensures.known in
    let goes = goes_looked g.S.Source.left g.K.Sink.written g.S.Source.faults g.K.Sink.faults plan ends_first first journal_first c.requires.planned c.requires.valid c.turns.control c.turns.ports journal told.entries told.ends.items core ends ports c.look_control.ensures.looked c.look_all.ensures.looked c.turns.invariant in
    let least = behind_control (control_moment ends ∷ map turn_moment ports) c.in-Some.place c.if-place-eq0.false c.in-Some.ensures in
    let j = c.in-Some.place - 1 in
    let place_is = one_behind c.in-Some.place c.if-place-eq0.false in
    let next = port_next_here g.S.Source.left g.K.Sink.written g.S.Source.faults g.K.Sink.faults plan ends_first first journal_first c.requires.planned c.requires.valid ends ports journal told.entries told.ends.items core goes heard known j least in
    let mid = c.make_room.new.core in
    let journal_now = c.make_room.new.journal in
    let told_now = c.make_room.new.told in
    let made = made_so g.S.Source.left g.K.Sink.written g.S.Source.faults g.K.Sink.faults plan ends_first first journal_first c.requires.planned c.requires.valid ends ports journal told.entries told.ends.items core goes heard known (suc j) next journal_now told_now.entries told_now.ends.items mid c.make_room.ensures.plan
    (subst (λ (k : ℕ). (run : Run) → StandsAt core run → IfSome (turn_next ends ports k) (λ turn. StandsAt mid (room_made core.plan turn run))) place_is c.make_room.ensures.made)
    (subst (λ (k : ℕ). (run : Run) → StandsAt core run → AreTurned core.plan run.closed → IfSome (turn_next ends ports k) (λ turn. AreTurned core.plan (room_made core.plan turn run).closed)) place_is c.make_room.ensures.turned)
    (subst (λ (k : ℕ). (run : Run) → StandsAt core run → TellsOf told.entries told.ends.items run.closed → IfSome (turn_next ends ports k) (λ turn. TellsOf told_now.entries told_now.ends.items (room_made core.plan turn run).closed)) place_is c.make_room.ensures.told)
    (subst (λ (k : ℕ). (run : Run) (began : Option (Journal g.row.K.Denot)) → StandsAt core run → IsJournalled g.K.Sink.written g.K.Sink.faults core.plan run.closed began journal → IfSome (turn_next ends ports k) (λ turn. IsJournalled g.K.Sink.written g.K.Sink.faults core.plan (room_made core.plan turn run).closed began journal_now)) place_is c.make_room.ensures.journal) in
    port_open g.S.Source.left g.K.Sink.written g.S.Source.faults g.K.Sink.faults plan ends_first first journal_first c.requires.planned c.requires.valid ends ports journal told.entries told.ends.items core goes heard known j least journal_now told_now.entries told_now.ends.items mid made

pub advance-requires-clause-room : goal.advance-requires-clause-room
advance-requires-clause-room g c =
    let plan = c.args.core.now.plan in
    let first = c.args.ports.now in
    let ends_first = c.args.control.now in
    let journal_first = c.args.journal.now in
    let ends = c.look_control.new.control in
    let ports = c.look_all.new.ports in
    let journal = c.turns.journal in
    let told = c.turns.told in
    let core = c.turns.core in
    let heard = c.look_control.ensures.known in
    let known = c.look_all.ensures.known in
    let goes = goes_looked g.S.Source.left g.K.Sink.written g.S.Source.faults g.K.Sink.faults plan ends_first first journal_first c.requires.planned c.requires.valid c.turns.control c.turns.ports journal told.entries told.ends.items core ends ports c.look_control.ensures.looked c.look_all.ensures.looked c.turns.invariant in
    let least = behind_control (control_moment ends ∷ map turn_moment ports) c.in-Some.place c.if-place-eq0.false c.in-Some.ensures in
    let j = c.in-Some.place - 1 in
    let place_is = one_behind c.in-Some.place c.if-place-eq0.false in
    let next = port_next_here g.S.Source.left g.K.Sink.written g.S.Source.faults g.K.Sink.faults plan ends_first first journal_first c.requires.planned c.requires.valid ends ports journal told.entries told.ends.items core goes heard known j least in
    let mid = c.make_room.new.core in
    let journal_now = c.make_room.new.journal in
    let told_now = c.make_room.new.told in
    let made = made_so g.S.Source.left g.K.Sink.written g.S.Source.faults g.K.Sink.faults plan ends_first first journal_first c.requires.planned c.requires.valid ends ports journal told.entries told.ends.items core goes heard known (suc j) next journal_now told_now.entries told_now.ends.items mid c.make_room.ensures.plan
    (subst (λ (k : ℕ). (run : Run) → StandsAt core run → IfSome (turn_next ends ports k) (λ turn. StandsAt mid (room_made core.plan turn run))) place_is c.make_room.ensures.made)
    (subst (λ (k : ℕ). (run : Run) → StandsAt core run → AreTurned core.plan run.closed → IfSome (turn_next ends ports k) (λ turn. AreTurned core.plan (room_made core.plan turn run).closed)) place_is c.make_room.ensures.turned)
    (subst (λ (k : ℕ). (run : Run) → StandsAt core run → TellsOf told.entries told.ends.items run.closed → IfSome (turn_next ends ports k) (λ turn. TellsOf told_now.entries told_now.ends.items (room_made core.plan turn run).closed)) place_is c.make_room.ensures.told)
    (subst (λ (k : ℕ). (run : Run) (began : Option (Journal g.row.K.Denot)) → StandsAt core run → IsJournalled g.K.Sink.written g.K.Sink.faults core.plan run.closed began journal → IfSome (turn_next ends ports k) (λ turn. IsJournalled g.K.Sink.written g.K.Sink.faults core.plan (room_made core.plan turn run).closed began journal_now)) place_is c.make_room.ensures.journal) in
    λ d. port_room g.S.Source.left g.K.Sink.written g.S.Source.faults g.K.Sink.faults plan ends_first first journal_first c.requires.planned c.requires.valid ends ports journal told.entries told.ends.items core goes heard known j least journal_now told_now.entries told_now.ends.items mid made d (subst (λ (k : ℕ). IfSome (turn_next ends ports k) (λ turn. HasRoomFor mid.plan mid.past turn)) place_is c.make_room.ensures.room)

pub turns-smaller : goal.turns-smaller
turns-smaller g c =
    let plan = c.args.core.now.plan in
    let first = c.args.ports.now in
    let ends_first = c.args.control.now in
    let journal_first = c.args.journal.now in
    let ends = c.look_control.new.control in
    let ports = c.look_all.new.ports in
    let journal = c.turns.journal in
    let told = c.turns.told in
    let core = c.turns.core in
    let heard = c.look_control.ensures.known in
    let known = c.look_all.ensures.known in
    let goes = goes_looked g.S.Source.left g.K.Sink.written g.S.Source.faults g.K.Sink.faults plan ends_first first journal_first c.requires.planned c.requires.valid c.turns.control c.turns.ports journal told.entries told.ends.items core ends ports c.look_control.ensures.looked c.look_all.ensures.looked c.turns.invariant in
    let least = behind_control (control_moment ends ∷ map turn_moment ports) c.in-Some.place c.if-place-eq0.false c.in-Some.ensures in
    let j = c.in-Some.place - 1 in
    let place_is = one_behind c.in-Some.place c.if-place-eq0.false in
    let next = port_next_here g.S.Source.left g.K.Sink.written g.S.Source.faults g.K.Sink.faults plan ends_first first journal_first c.requires.planned c.requires.valid ends ports journal told.entries told.ends.items core goes heard known j least in
    let mid = c.make_room.new.core in
    let journal_now = c.make_room.new.journal in
    let told_now = c.make_room.new.told in
    let made = made_so g.S.Source.left g.K.Sink.written g.S.Source.faults g.K.Sink.faults plan ends_first first journal_first c.requires.planned c.requires.valid ends ports journal told.entries told.ends.items core goes heard known (suc j) next journal_now told_now.entries told_now.ends.items mid c.make_room.ensures.plan
    (subst (λ (k : ℕ). (run : Run) → StandsAt core run → IfSome (turn_next ends ports k) (λ turn. StandsAt mid (room_made core.plan turn run))) place_is c.make_room.ensures.made)
    (subst (λ (k : ℕ). (run : Run) → StandsAt core run → AreTurned core.plan run.closed → IfSome (turn_next ends ports k) (λ turn. AreTurned core.plan (room_made core.plan turn run).closed)) place_is c.make_room.ensures.turned)
    (subst (λ (k : ℕ). (run : Run) → StandsAt core run → TellsOf told.entries told.ends.items run.closed → IfSome (turn_next ends ports k) (λ turn. TellsOf told_now.entries told_now.ends.items (room_made core.plan turn run).closed)) place_is c.make_room.ensures.told)
    (subst (λ (k : ℕ). (run : Run) (began : Option (Journal g.row.K.Denot)) → StandsAt core run → IsJournalled g.K.Sink.written g.K.Sink.faults core.plan run.closed began journal → IfSome (turn_next ends ports k) (λ turn. IsJournalled g.K.Sink.written g.K.Sink.faults core.plan (room_made core.plan turn run).closed began journal_now)) place_is c.make_room.ensures.journal) in
    let less = port_less g.S.Source.left g.K.Sink.written g.S.Source.faults g.K.Sink.faults plan ends_first first journal_first c.requires.planned c.requires.valid ends ports journal told.entries told.ends.items core goes heard known j least journal_now told_now.entries told_now.ends.items mid made c.advance.new.ports c.advance.new.core c.advance.ensures.plan c.advance.ensures.base c.advance.ensures.stepped c.advance.ensures.others c.advance.ensures.ahead c.advance.ensures.outputs in
    let most = looked_weighs g.S.Source.left g.K.Sink.written g.S.Source.faults g.K.Sink.faults plan ends_first first journal_first c.requires.planned c.requires.valid c.turns.control c.turns.ports journal told.entries told.ends.items core ends ports c.look_control.ensures.looked c.look_all.ensures.looked in
    omega (arith, less, most)

pub turns-preserved : goal.turns-preserved
turns-preserved g c =
    let plan = c.args.core.now.plan in
    let first = c.args.ports.now in
    let ends_first = c.args.control.now in
    let journal_first = c.args.journal.now in
    let ends = c.look_control.new.control in
    let ports = c.look_all.new.ports in
    let journal = c.turns.journal in
    let told = c.turns.told in
    let core = c.turns.core in
    let heard = c.look_control.ensures.known in
    let known = c.look_all.ensures.known in
    let goes = goes_looked g.S.Source.left g.K.Sink.written g.S.Source.faults g.K.Sink.faults plan ends_first first journal_first c.requires.planned c.requires.valid c.turns.control c.turns.ports journal told.entries told.ends.items core ends ports c.look_control.ensures.looked c.look_all.ensures.looked c.turns.invariant in
    let least = behind_control (control_moment ends ∷ map turn_moment ports) c.in-Some.place c.if-place-eq0.false c.in-Some.ensures in
    let j = c.in-Some.place - 1 in
    let place_is = one_behind c.in-Some.place c.if-place-eq0.false in
    let next = port_next_here g.S.Source.left g.K.Sink.written g.S.Source.faults g.K.Sink.faults plan ends_first first journal_first c.requires.planned c.requires.valid ends ports journal told.entries told.ends.items core goes heard known j least in
    let mid = c.make_room.new.core in
    let journal_now = c.make_room.new.journal in
    let told_now = c.make_room.new.told in
    let made = made_so g.S.Source.left g.K.Sink.written g.S.Source.faults g.K.Sink.faults plan ends_first first journal_first c.requires.planned c.requires.valid ends ports journal told.entries told.ends.items core goes heard known (suc j) next journal_now told_now.entries told_now.ends.items mid c.make_room.ensures.plan
    (subst (λ (k : ℕ). (run : Run) → StandsAt core run → IfSome (turn_next ends ports k) (λ turn. StandsAt mid (room_made core.plan turn run))) place_is c.make_room.ensures.made)
    (subst (λ (k : ℕ). (run : Run) → StandsAt core run → AreTurned core.plan run.closed → IfSome (turn_next ends ports k) (λ turn. AreTurned core.plan (room_made core.plan turn run).closed)) place_is c.make_room.ensures.turned)
    (subst (λ (k : ℕ). (run : Run) → StandsAt core run → TellsOf told.entries told.ends.items run.closed → IfSome (turn_next ends ports k) (λ turn. TellsOf told_now.entries told_now.ends.items (room_made core.plan turn run).closed)) place_is c.make_room.ensures.told)
    (subst (λ (k : ℕ). (run : Run) (began : Option (Journal g.row.K.Denot)) → StandsAt core run → IsJournalled g.K.Sink.written g.K.Sink.faults core.plan run.closed began journal → IfSome (turn_next ends ports k) (λ turn. IsJournalled g.K.Sink.written g.K.Sink.faults core.plan (room_made core.plan turn run).closed began journal_now)) place_is c.make_room.ensures.journal) in
    port_goes g.S.Source.left g.K.Sink.written g.S.Source.faults g.K.Sink.faults plan ends_first first journal_first c.requires.planned c.requires.valid ends ports journal told.entries told.ends.items core goes heard known j least journal_now told_now.entries told_now.ends.items mid made c.advance.new.ports c.advance.new.core c.advance.ensures.plan c.advance.ensures.base c.advance.ensures.stepped c.advance.ensures.others c.advance.ensures.ahead c.advance.ensures.outputs

pub returns-in_default-clause-ports : goal.returns-in_default-clause-ports
returns-in_default-clause-ports g c =
    let plan = c.args.core.now.plan in
    let first = c.args.ports.now in
    let ends_first = c.args.control.now in
    let journal_first = c.args.journal.now in
    let ends = c.look_control.new.control in
    let ports = c.look_all.new.ports in
    let journal = c.turns.journal in
    let told = c.turns.told in
    let core = c.turns.core in
    let heard = c.look_control.ensures.known in
    let known = c.look_all.ensures.known in
    let goes = goes_looked g.S.Source.left g.K.Sink.written g.S.Source.faults g.K.Sink.faults plan ends_first first journal_first c.requires.planned c.requires.valid c.turns.control c.turns.ports journal told.entries told.ends.items core ends ports c.look_control.ensures.looked c.look_all.ensures.looked c.turns.invariant in
    let later = looked_later g.S.Source.left g.K.Sink.written g.S.Source.faults g.K.Sink.faults first c.turns.ports ports c.turns.invariant.runs.stands.later c.look_all.ensures.looked in
    record { size = later.size; each = λ k d within. (later.each k d within).port }

pub returns-in_default-clause-replayed : goal.returns-in_default-clause-replayed
returns-in_default-clause-replayed g c =
    let plan = c.args.core.now.plan in
    let first = c.args.ports.now in
    let ends_first = c.args.control.now in
    let journal_first = c.args.journal.now in
    let ends = c.look_control.new.control in
    let ports = c.look_all.new.ports in
    let journal = c.turns.journal in
    let told = c.turns.told in
    let core = c.turns.core in
    let heard = c.look_control.ensures.known in
    let known = c.look_all.ensures.known in
    let goes = goes_looked g.S.Source.left g.K.Sink.written g.S.Source.faults g.K.Sink.faults plan ends_first first journal_first c.requires.planned c.requires.valid c.turns.control c.turns.ports journal told.entries told.ends.items core ends ports c.look_control.ensures.looked c.look_all.ensures.looked c.turns.invariant in
    let none : IsPick (control_moment ends ∷ map turn_moment ports) None = subst (λ (o : Option ℕ). IsPick (control_moment ends ∷ map turn_moment ports) o) (none_if c.next_of.result c.in_default.not-Some) c.next_of.ensures in
    let now = c.finish.new.core in
    let before = goes.run.closed in
    let plan_now : now.plan ≡ plan = ap (λ (m : Machine). m.plan) c.finish.ensures.made ∙ goes.plan_is in
    let base_is = goes_base g.S.Source.left g.K.Sink.written g.S.Source.faults g.K.Sink.faults plan ends_first first journal_first c.requires.planned c.requires.valid ends ports journal told.entries told.ends.items core goes heard known none now c.finish.ensures.made c.finish.ensures.outputs c.finish.ensures.finished c.close_segment.ensures.legal c.close_segment.ensures.octets in
    record {
      before = before;
      base = base_is;
      all = (
        goes_serves g.S.Source.left g.K.Sink.written g.S.Source.faults g.K.Sink.faults plan ends_first first journal_first c.requires.planned c.requires.valid ends ports journal told.entries told.ends.items core goes heard known none now c.finish.ensures.made c.finish.ensures.outputs c.finish.ensures.finished c.close_segment.ensures.legal c.close_segment.ensures.octets,
        c.close_segment.ensures.told before goes.tells,
        subst (λ (p : Plan). IsJournalled g.K.Sink.written g.K.Sink.faults p (now.past ∷ before) journal_first c.close_segment.new.journal) plan_now
            (c.close_segment.ensures.journal before journal_first base_is (subst (λ (p : Plan). IsJournalled g.K.Sink.written g.K.Sink.faults p before journal_first journal) (sym plan_now) goes.written_so)),
      );
    }

pub finish-requires-clause-rising : goal.finish-requires-clause-rising
finish-requires-clause-rising g c =
    let plan = c.args.core.now.plan in
    let first = c.args.ports.now in
    let ends_first = c.args.control.now in
    let journal_first = c.args.journal.now in
    let ends = c.look_control.new.control in
    let ports = c.look_all.new.ports in
    let journal = c.turns.journal in
    let told = c.turns.told in
    let core = c.turns.core in
    let heard = c.look_control.ensures.known in
    let known = c.look_all.ensures.known in
    let goes = goes_looked g.S.Source.left g.K.Sink.written g.S.Source.faults g.K.Sink.faults plan ends_first first journal_first c.requires.planned c.requires.valid c.turns.control c.turns.ports journal told.entries told.ends.items core ends ports c.look_control.ensures.looked c.look_all.ensures.looked c.turns.invariant in
    (goes_valid g.S.Source.left g.K.Sink.written g.S.Source.faults g.K.Sink.faults plan ends_first first journal_first c.requires.planned c.requires.valid ends ports journal told.entries told.ends.items core goes).ports

pub advance_control-requires-clause-rising : goal.advance_control-requires-clause-rising
advance_control-requires-clause-rising g c =
    let plan = c.args.core.now.plan in
    let first = c.args.ports.now in
    let ends_first = c.args.control.now in
    let journal_first = c.args.journal.now in
    let ends = c.look_control.new.control in
    let ports = c.look_all.new.ports in
    let journal = c.turns.journal in
    let told = c.turns.told in
    let core = c.turns.core in
    let heard = c.look_control.ensures.known in
    let known = c.look_all.ensures.known in
    let goes = goes_looked g.S.Source.left g.K.Sink.written g.S.Source.faults g.K.Sink.faults plan ends_first first journal_first c.requires.planned c.requires.valid c.turns.control c.turns.ports journal told.entries told.ends.items core ends ports c.look_control.ensures.looked c.look_all.ensures.looked c.turns.invariant in
    let place = c.in-Some.place in
    let least = c.in-Some.ensures in
    let next = next_at g.S.Source.left g.K.Sink.written g.S.Source.faults g.K.Sink.faults plan ends_first first journal_first c.requires.planned c.requires.valid ends ports journal told.entries told.ends.items core goes heard known place least in
    let mid = c.make_room.new.core in
    let journal_now = c.make_room.new.journal in
    let told_now = c.make_room.new.told in
    let made = made_so g.S.Source.left g.K.Sink.written g.S.Source.faults g.K.Sink.faults plan ends_first first journal_first c.requires.planned c.requires.valid ends ports journal told.entries told.ends.items core goes heard known place next journal_now told_now.entries told_now.ends.items mid c.make_room.ensures.plan c.make_room.ensures.made c.make_room.ensures.turned c.make_room.ensures.told c.make_room.ensures.journal in
    (made_valid g.S.Source.left g.K.Sink.written g.S.Source.faults g.K.Sink.faults plan ends_first first journal_first c.requires.planned c.requires.valid ends ports journal told.entries told.ends.items core goes heard known place next journal_now told_now.entries told_now.ends.items mid made).ports

pub advance_control-requires-clause-depth : goal.advance_control-requires-clause-depth
advance_control-requires-clause-depth g c =
    let plan = c.args.core.now.plan in
    let first = c.args.ports.now in
    let ends_first = c.args.control.now in
    let journal_first = c.args.journal.now in
    let ends = c.look_control.new.control in
    let ports = c.look_all.new.ports in
    let journal = c.turns.journal in
    let told = c.turns.told in
    let core = c.turns.core in
    let heard = c.look_control.ensures.known in
    let known = c.look_all.ensures.known in
    let goes = goes_looked g.S.Source.left g.K.Sink.written g.S.Source.faults g.K.Sink.faults plan ends_first first journal_first c.requires.planned c.requires.valid c.turns.control c.turns.ports journal told.entries told.ends.items core ends ports c.look_control.ensures.looked c.look_all.ensures.looked c.turns.invariant in
    let place = c.in-Some.place in
    let least = c.in-Some.ensures in
    let next = next_at g.S.Source.left g.K.Sink.written g.S.Source.faults g.K.Sink.faults plan ends_first first journal_first c.requires.planned c.requires.valid ends ports journal told.entries told.ends.items core goes heard known place least in
    let mid = c.make_room.new.core in
    let journal_now = c.make_room.new.journal in
    let told_now = c.make_room.new.told in
    let made = made_so g.S.Source.left g.K.Sink.written g.S.Source.faults g.K.Sink.faults plan ends_first first journal_first c.requires.planned c.requires.valid ends ports journal told.entries told.ends.items core goes heard known place next journal_now told_now.entries told_now.ends.items mid c.make_room.ensures.plan c.make_room.ensures.made c.make_room.ensures.turned c.make_room.ensures.told c.make_room.ensures.journal in
    (made_valid g.S.Source.left g.K.Sink.written g.S.Source.faults g.K.Sink.faults plan ends_first first journal_first c.requires.planned c.requires.valid ends ports journal told.entries told.ends.items core goes heard known place next journal_now told_now.entries told_now.ends.items mid made).depth.1

pub advance-requires-clause-rising : goal.advance-requires-clause-rising
advance-requires-clause-rising g c =
    let plan = c.args.core.now.plan in
    let first = c.args.ports.now in
    let ends_first = c.args.control.now in
    let journal_first = c.args.journal.now in
    let ends = c.look_control.new.control in
    let ports = c.look_all.new.ports in
    let journal = c.turns.journal in
    let told = c.turns.told in
    let core = c.turns.core in
    let heard = c.look_control.ensures.known in
    let known = c.look_all.ensures.known in
    let goes = goes_looked g.S.Source.left g.K.Sink.written g.S.Source.faults g.K.Sink.faults plan ends_first first journal_first c.requires.planned c.requires.valid c.turns.control c.turns.ports journal told.entries told.ends.items core ends ports c.look_control.ensures.looked c.look_all.ensures.looked c.turns.invariant in
    let place = c.in-Some.place in
    let least = c.in-Some.ensures in
    let next = next_at g.S.Source.left g.K.Sink.written g.S.Source.faults g.K.Sink.faults plan ends_first first journal_first c.requires.planned c.requires.valid ends ports journal told.entries told.ends.items core goes heard known place least in
    let mid = c.make_room.new.core in
    let journal_now = c.make_room.new.journal in
    let told_now = c.make_room.new.told in
    let made = made_so g.S.Source.left g.K.Sink.written g.S.Source.faults g.K.Sink.faults plan ends_first first journal_first c.requires.planned c.requires.valid ends ports journal told.entries told.ends.items core goes heard known place next journal_now told_now.entries told_now.ends.items mid c.make_room.ensures.plan c.make_room.ensures.made c.make_room.ensures.turned c.make_room.ensures.told c.make_room.ensures.journal in
    (made_valid g.S.Source.left g.K.Sink.written g.S.Source.faults g.K.Sink.faults plan ends_first first journal_first c.requires.planned c.requires.valid ends ports journal told.entries told.ends.items core goes heard known place next journal_now told_now.entries told_now.ends.items mid made).ports

pub advance-requires-clause-depth : goal.advance-requires-clause-depth
advance-requires-clause-depth g c =
    let plan = c.args.core.now.plan in
    let first = c.args.ports.now in
    let ends_first = c.args.control.now in
    let journal_first = c.args.journal.now in
    let ends = c.look_control.new.control in
    let ports = c.look_all.new.ports in
    let journal = c.turns.journal in
    let told = c.turns.told in
    let core = c.turns.core in
    let heard = c.look_control.ensures.known in
    let known = c.look_all.ensures.known in
    let goes = goes_looked g.S.Source.left g.K.Sink.written g.S.Source.faults g.K.Sink.faults plan ends_first first journal_first c.requires.planned c.requires.valid c.turns.control c.turns.ports journal told.entries told.ends.items core ends ports c.look_control.ensures.looked c.look_all.ensures.looked c.turns.invariant in
    let place = c.in-Some.place in
    let least = c.in-Some.ensures in
    let next = next_at g.S.Source.left g.K.Sink.written g.S.Source.faults g.K.Sink.faults plan ends_first first journal_first c.requires.planned c.requires.valid ends ports journal told.entries told.ends.items core goes heard known place least in
    let mid = c.make_room.new.core in
    let journal_now = c.make_room.new.journal in
    let told_now = c.make_room.new.told in
    let made = made_so g.S.Source.left g.K.Sink.written g.S.Source.faults g.K.Sink.faults plan ends_first first journal_first c.requires.planned c.requires.valid ends ports journal told.entries told.ends.items core goes heard known place next journal_now told_now.entries told_now.ends.items mid c.make_room.ensures.plan c.make_room.ensures.made c.make_room.ensures.turned c.make_room.ensures.told c.make_room.ensures.journal in
    (made_valid g.S.Source.left g.K.Sink.written g.S.Source.faults g.K.Sink.faults plan ends_first first journal_first c.requires.planned c.requires.valid ends ports journal told.entries told.ends.items core goes heard known place next journal_now told_now.entries told_now.ends.items mid made).depth.1

pub returns-in_default-clause-plan : goal.returns-in_default-clause-plan
returns-in_default-clause-plan g c = ap (λ (m : Machine). m.plan) c.finish.ensures.made ∙ c.turns.invariant.plan_is

pub begin_journal-requires-clause-valid : goal.begin_journal-requires-clause-valid
begin_journal-requires-clause-valid g c = subst IsValidPlan (sym c.plan.ensures) c.requires.valid
