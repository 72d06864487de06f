use Rattle.std.proofs.Common.{◌≡◌, ◌≤◌, vec_capacity, vec_len}
use Rattle.split_run.proofs.Apart.{AreFirst}
use Rattle.split_run.proofs.names.output_names.Given as goal

-- the names so far are those of the first interfaces
abbrev pub invariant-loop-interface : goal.invariant-loop-interface
invariant-loop-interface l = record {
  first : AreFirst l.file l.interface-counter l.names.items;
  len : vec_len l.names ≡ l.interface-counter;
  room : 16 ≤ vec_capacity l.names;
}
