use Rattle.std.proofs.Common.{ℕ, ◌≡◌, ◌<◌, ◌^◌, arith}
use Rattle.std.proofs.lemmas.Option.{none-some}
use Rattle.savi_kinds.specs.Vlans.{IsVlan}
use Rattle.hist_store.proofs.read_vlans.read_vlan_number.Goals as goal

-- the number of a VLAN is one of 64 bits
fits : (vlan : ℕ) → IsVlan vlan → vlan < 2 ^ 64
fits vlan is = omega (arith, is.1)

pub returns-in_err-number-clause-whole : goal.returns-in_err-number-clause-whole
returns-in_err-number-clause-whole c = rw c.from_residual.ensures (λ vlan is_vlan is. absurd (none-some vlan (c.in_err-number.ensures.whole vlan (fits vlan is_vlan) is)))

pub returns-then-number-eq0-clause-whole : goal.returns-then-number-eq0-clause-whole
returns-then-number-eq0-clause-whole c = λ vlan is_vlan is.
    let same = c.in_ok-number.ensures.whole vlan (fits vlan is_vlan) is in
    let one : c.in_ok-number.number ≡ vlan = cc same in
    absurd (omega (arith, one, is_vlan.0, c.if-number-eq0.true))

pub returns-then-number-from-clause-whole : goal.returns-then-number-from-clause-whole
returns-then-number-from-clause-whole c = λ vlan is_vlan is.
    let same = c.in_ok-number.ensures.whole vlan (fits vlan is_vlan) is in
    let one : c.in_ok-number.number ≡ vlan = cc same in
    absurd (omega (arith, one, is_vlan.1, c.from.ensures, c.if-number-from.true))

pub returns-clause-whole : goal.returns-clause-whole
returns-clause-whole c = λ vlan is_vlan is. c.in_ok-number.ensures.whole vlan (fits vlan is_vlan) is
