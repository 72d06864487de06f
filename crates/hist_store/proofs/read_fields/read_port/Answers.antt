use Rattle.std.proofs.Common.{◌≡◌, ◌≤◌, ◌<◌, ◌^◌, arith}
use Rattle.std.proofs.lemmas.Option.{none-some}
use Rattle.savi_kinds.specs.declared.port.Port.{Port}
use Rattle.hist_store.proofs.FieldsRead.{port_is}
use Rattle.hist_store.proofs.read_fields.read_port.Goals as goal

-- a port's number is one of 64 bits
fits : (port : Port) → port.number < 2 ^ 64
fits port = let high : port.number ≤ 16 = port.high in omega arith

pub returns-in_err-number-clause-whole : goal.returns-in_err-number-clause-whole
returns-in_err-number-clause-whole c = rw c.from_residual.ensures (λ port is. absurd (none-some port.number (c.in_err-number.ensures.whole port.number (fits port) is)))

pub returns-then-number-clause-whole : goal.returns-then-number-clause-whole
returns-then-number-clause-whole c = λ port is.
    let same = c.in_ok-number.ensures.whole port.number (fits port) is in
    let one : c.in_ok-number.number ≡ port.number = cc same in
    let high : port.number ≤ 16 = port.high in
    absurd (omega (arith, one, high, c.if-number.true))

pub returns-clause-whole : goal.returns-clause-whole
returns-clause-whole c = λ port is.
    let same = c.in_ok-number.ensures.whole port.number (fits port) is in
    let one : c.in_ok-number.number ≡ port.number = cc same in
    port_is _ _ port c.new.ensures.some c.new.ensures.value one
