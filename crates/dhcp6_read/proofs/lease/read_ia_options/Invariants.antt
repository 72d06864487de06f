use Rattle.std.proofs.Common.{◌+◌, ◌*◌, ◌≤◌, length}
use Rattle.arrayvec.specs.ArrayVec.{array_vec_len}
use Rattle.dhcp6_read.specs.Levels.{in_ia}
use Rattle.dhcp6_read.proofs.Tellings.{Continues}
use Rattle.dhcp6_read.proofs.lease.read_ia_options.Given as goal

abbrev pub invariant-option : goal.invariant-option
invariant-option l = record {
  room : 28 * array_vec_len l.leases + length l.rest ≤ 28 * array_vec_len l.initial.leases + length l.options;
  goes : Continues (λ row_of. in_ia row_of l.kind) l.options l.rest l.void l.initial.leases.items l.leases.items;
}

abbrev pub decreases-option : goal.decreases-option
decreases-option l = length l.rest
