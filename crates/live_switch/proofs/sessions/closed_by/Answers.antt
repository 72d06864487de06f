use Rattle.std.proofs.Common.{List, length, refl, ap, subst, arith}
use Rattle.savi_ends.specs.declared.world.Ends.{Ends}
use Rattle.live_switch.specs.Sharing.{AreGathered}
use Rattle.live_switch.proofs.sessions.closed_by.Goals as goal

pub gather_ports-requires-clause-room : goal.gather_ports-requires-clause-room
gather_ports-requires-clause-room g c = omega (arith, c.requires.room, ap (λ l. length l) c.requires.empty, c.args.ports.ok.0)

pub returns : goal.returns
returns g c =
    let readers = c.args.readers.ports.items in
    let services = c.args.left.course.service.ports.items in
    record {
      core = c.into_core.ensures;
      ports = subst (λ (l : List (Ends g.row.S.Denot g.row.K.Denot g.row.C.Denot)). AreGathered readers services l c.gather_ports.new.ports.items) c.requires.empty c.gather_ports.ensures.gathered;
      control = c.gather_control-control.ensures;
      ticker = refl;
      journal = (c.into_parts-journal.ensures.sink, c.into_parts-journal.ensures.failed);
      told = (refl, refl);
    }
