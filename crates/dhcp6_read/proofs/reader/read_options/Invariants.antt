use Rattle.std.proofs.Common.{◌≡◌, ◌+◌, ◌*◌, ◌≤◌, length}
use Rattle.arrayvec.specs.ArrayVec.{array_vec_len}
use Rattle.dhcp6_read.specs.Levels.{in_message}
use Rattle.dhcp6_read.proofs.Heads.{KeepsEach}
use Rattle.dhcp6_read.proofs.Tellings.{Continues}
use Rattle.dhcp6_read.proofs.reader.read_options.Given as goal

abbrev pub invariant-option : goal.invariant-option
invariant-option l = record {
  room : 28 * array_vec_len l.dhcp.leases + length l.rest ≤ 28 * array_vec_len l.initial.dhcp.leases + length l.options;
  kind : l.dhcp.kind ≡ l.initial.dhcp.kind;
  tid : l.dhcp.tid ≡ l.initial.dhcp.tid;
  goes : Continues (λ row_of. in_message row_of l.initial.dhcp.kind) l.options l.rest l.void l.initial.dhcp.leases.items l.dhcp.leases.items;
  keeps : KeepsEach l.options l.rest l.initial.dhcp.duid l.dhcp.duid l.initial.dhcp.rapid l.dhcp.rapid;
}

abbrev pub decreases-option : goal.decreases-option
decreases-option l = length l.rest
