use Rattle.std.proofs.Common.{◌≡◌, length, map, take, vec_capacity, vec_len}
use Rattle.savi_kinds.specs.Ports.{number_of}
use Rattle.savi_kinds.specs.ValidPlan.{numbers_of}
use Rattle.switch_run.proofs.serving.port_numbers.Given as goal

abbrev pub invariant-loop-port : goal.invariant-loop-port
invariant-loop-port l = record {
  numbers : map number_of l.numbers.items ≡ take l.port-index (numbers_of l.ports);
  len : vec_len l.numbers ≡ l.port-index;
  room : vec_capacity l.numbers ≡ length l.ports;
}
