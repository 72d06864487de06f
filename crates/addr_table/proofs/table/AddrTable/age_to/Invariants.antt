use Rattle.std.proofs.Common.{◌≡◌, fold, length}
use Rattle.savi_access.specs.Ages.{aged_rows}
use Rattle.savi_access.specs.Sends.{sends}
use Rattle.savi_access.specs.Keeps.{StaySound}
use Rattle.addr_table.proofs.table.AddrTable.age_to.Given as goal

abbrev pub invariant-loop-sent : goal.invariant-loop-sent
invariant-loop-sent g l = record {
  sink : fold (λ taker sent. g.S.ProbeSink.after taker l.vlan sent) l.sink (sends l.self.times l.t l.self.rows) ≡ fold (λ taker sent. g.S.ProbeSink.after taker l.vlan sent) l.initial.sink (sends l.initial.self.times l.t l.initial.self.rows);
  rows : aged_rows l.self.times l.t l.self.rows ≡ aged_rows l.initial.self.times l.t l.initial.self.rows;
  sound : StaySound l.initial.self.rows l.self.rows;
  rest : l.self ≡ record l.initial.self { rows = l.self.rows };
}

abbrev pub decreases-loop-sent : goal.decreases-loop-sent
decreases-loop-sent g l = length (sends l.self.times l.t l.self.rows)
