use Rattle.std.proofs.Common.{◌≡◌, ◌==◌, ◌&&◌, not, ◌<◌, ◌^◌, ℕ, sym, subst, arith}
use Rattle.savi_kinds.specs.Ports.{number_of}
use Rattle.savi_kinds.specs.PortSets.{is_member}
use Rattle.savi_core.proofs.Members.{removed, member_removed, removed_less}
use Rattle.savi_core.proofs.port_sets.without.Goals as goal

pub returns-clause-members : goal.returns-clause-members
returns-clause-members c n least =
    let set = c.args.set in
    let small : c.args.set.0 < 2 ^ 16 = omega arith in
    subst (λ (m : ℕ). is_member (removed set m) n ≡ (is_member set n && not (n == number_of c.args.port))) (sym c.get.ensures.value)
    (member_removed set (number_of c.args.port) n small c.args.port.low c.args.port.high least)

pub returns-clause-fewer : goal.returns-clause-fewer
returns-clause-fewer c there =
    let set = c.args.set in
    let small : c.args.set.0 < 2 ^ 16 = omega arith in
    subst (λ (m : ℕ). (removed set m).0 < set.0) (sym c.get.ensures.value)
    (removed_less set (number_of c.args.port) small c.args.port.low c.args.port.high there)
