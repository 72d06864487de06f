use Rattle.std.proofs.Common.{◌≡◌}
use Rattle.savi_access.specs.Ages.{aged_rows}
use Rattle.savi_access.specs.Sends.{sends}
use Rattle.savi_access.specs.Keeps.{StaySound}
use Rattle.addr_table.specs.Turns.{turns_left}
use Rattle.addr_table.proofs.table.AddrTable.next_probe.Given as goal

abbrev pub invariant-loop-passed : goal.invariant-loop-passed
invariant-loop-passed l = record {
  sends : sends l.self.times l.t l.self.rows ≡ sends l.initial.self.times l.t l.initial.self.rows;
  rows : aged_rows l.self.times l.t l.self.rows ≡ aged_rows l.initial.self.times l.t l.initial.self.rows;
  sound : StaySound l.initial.self.rows l.self.rows;
  rest : l.self ≡ record l.initial.self { rows = l.self.rows };
}

abbrev pub decreases-loop-passed : goal.decreases-loop-passed
decreases-loop-passed l = turns_left l.self.rows
