use Rattle.std.proofs.Common.{List, [], length, sym, ap, subst, ◌∙◌, arith}
use Rattle.port_reader.specs.declared.reader.Reader.{Reader}
use Rattle.live_switch.specs.declared.services.PortService.{PortService}
use Rattle.live_switch.specs.declared.services.Service.{Service}
use Rattle.live_switch.specs.Sharing.{ArePorts, IsControlDealt}
use Rattle.live_switch.proofs.sessions.deal_ends.Goals as goal

pub deal_ports-requires-clause-seats : goal.deal_ports-requires-clause-seats
deal_ports-requires-clause-seats g c = omega (arith, c.requires.size, c.requires.seats.size, c.args.room.seats.ok.0)

pub deal_ports-requires-clause-readers : goal.deal_ports-requires-clause-readers
deal_ports-requires-clause-readers g c =
    omega (arith, c.requires.size, ap (λ l. length l) c.requires.readers.0, c.requires.readers.1, c.args.room.readers.ok.0)

pub deal_ports-requires-clause-services : goal.deal_ports-requires-clause-services
deal_ports-requires-clause-services g c =
    omega (arith, c.requires.size, ap (λ l. length l) c.requires.services.0, c.requires.services.1, c.args.room.services.ok.0)

pub returns : goal.returns
returns g c =
    let ready = c.args.ready in
    let room = c.args.room in
    let line = c.deal_control-line_reader.result in
    let service_is = c.start_of.ensures.service_is in
    record {
      emptied = c.deal_ports.ensures.emptied;
      capacity = c.deal_ports.ensures.room;
      ports = subst (λ (s : Service g.row.K.Denot g.row.C.Denot). ArePorts ready.ports.items room.seats.items [] c.deal_ports.new.readers.items [] s.ports.items) (sym service_is)
          (subst (λ (t : List (Reader g.row.S.Denot g.row.C.Denot) × List (PortService g.row.K.Denot)). ArePorts ready.ports.items room.seats.items t.0 c.deal_ports.new.readers.items t.1 c.deal_ports.new.services.items)
          (λ i. (c.requires.readers.0 i, c.requires.services.0 i)) c.deal_ports.ensures.dealt);
      control = subst (λ (s : Service g.row.K.Denot g.row.C.Denot). IsControlDealt ready.control room.line_seat line.0 s.control) (sym service_is) c.deal_control-line_reader.ensures;
      ticker = ap (λ s. s.ticker.clock) service_is;
      first = c.start_of.ensures.lock;
      journal = c.start_of.ensures.journal_is ∙ c.new.ensures;
      none = c.start_of.ensures.none;
      no_ends = c.start_of.ensures.no_ends;
    }
