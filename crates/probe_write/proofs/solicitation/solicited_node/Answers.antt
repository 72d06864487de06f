use Rattle.std.proofs.Common.{◌≡◌, ◌+◌, ◌%◌, ℕ, ap, bit_and}
use Rattle.std.proofs.lemmas.Nat.{and_mask}
use Rattle.savi_kinds.specs.declared.address.Addr.{Addr}
use Rattle.probe_write.specs.ProbeFrame.{solicited_node_of}
use Rattle.probe_write.proofs.solicitation.solicited_node.Goals as goal

pub returns : goal.returns
unfolding solicited_node_of
returns c =
    let low : bit_and c.args.target.0 16777215 ≡ c.args.target.0 % 16777216 = and_mask c.args.target.0 24 in
    let address : ℕ → Addr = λ n. record { 0 = 338963523518870617245727861372719464448 + n } in
    ap address low
