use Rattle.std.proofs.Common.{ℕ, ◌≡◌, true, length, decimal, Some, sym, ap, ◌∙◌, arith, inl, inr, length-drop, subst}
use Rattle.std.proofs.lemmas.Option.{none-some}
use Rattle.savi_kinds.specs.declared.port.Port.{Port}
use Rattle.savi_kinds.specs.Ports.{number_of}
use Rattle.savi_kinds.proofs.MacGrammar.{left_none}
use Rattle.hist_store.specs.PortTexts.{ListsMembersAbove}
use Rattle.hist_store.proofs.OnePort.{the_port}
use Rattle.hist_store.proofs.EndRead.{none_left}
use Rattle.hist_store.proofs.PortsRead.{comma_place, cut_of, IsGrown, ends, goes_on, ended, went_on, tail_cases, if_some, grown_above, whole_text}
use Rattle.hist_store.proofs.read_ports.+read_members.Goals as goal

port_of : (p q : Port) → Some p ≡ Some q → q.number ≡ p.number
port_of p q same = let one : p ≡ q = cc same in sym (ap number_of one)

pub read_members-requires : goal.read_members-requires
read_members-requires t c =
    let port = c.in_ok-port.port in
    let grown : IsGrown c.args.set c.with-grown.result c.args.last port.number = record {
      low = omega (arith, c.if-get-last.false, c.get.ensures.value);
      high = port.high;
      law = c.with-grown.ensures.members;
      above = c.requires;
      size = c.know_ports.ensures;
    } in
    let size = length-drop (comma_place c.args.text.now) c.args.text.now in
    let rest = ap length (sym c.cut_member.ensures.rest ∙ c.in_ok-more.ensures.read) in
    (omega (arith, c.decreases, size, rest), λ n low high. grown_above c.args.set c.with-grown.result c.args.last port.number grown n (omega (arith, low, c.get-2.ensures.value)) high)

pub returns-in_err-port-clause-whole : goal.returns-in_err-port-clause-whole
returns-in_err-port-clause-whole t c = rw c.from_residual.ensures (λ whole goes.
    let one = cut_of c.args.last c.args.set whole c.args.text.now goes in
    let low = one.low in
    let port = the_port one.port (omega arith) one.high in
    absurd (none-some port (c.in_err-port.ensures.whole port (c.cut_member.ensures.front ∙ one.front))))

pub returns-then-get-last-clause-whole : goal.returns-then-get-last-clause-whole
returns-then-get-last-clause-whole t c = λ whole goes.
    let one = cut_of c.args.last c.args.set whole c.args.text.now goes in
    let low = one.low in
    let port = the_port one.port (omega arith) one.high in
    let same : one.port ≡ c.in_ok-port.port.number = port_of c.in_ok-port.port port (c.in_ok-port.ensures.whole port (c.cut_member.ensures.front ∙ one.front)) in
    absurd (omega (arith, low, same, c.get.ensures.value, c.if-get-last.true))

pub returns-then-is_empty-clause-read : goal.returns-then-is_empty-clause-read
returns-then-is_empty-clause-read t c =
    let port = c.in_ok-port.port in
    let grown : IsGrown c.args.set c.with-grown.result c.args.last port.number = record {
      low = omega (arith, c.if-get-last.false, c.get.ensures.value);
      high = port.high;
      law = c.with-grown.ensures.members;
      above = c.requires;
      size = c.know_ports.ensures;
    } in
    ends c.args.set c.with-grown.result c.args.last port.number grown c.args.text.now c.cut_member.result.1.now (left_none _ c.is_empty.result c.is_empty.ensures c.if-is_empty.true)
    (whole_text c.args.text.now _ _ (decimal port.number) _ c.cut_member.ensures.front c.cut_member.ensures.rest c.in_ok-port.ensures.read)

pub returns-then-is_empty-clause-whole : goal.returns-then-is_empty-clause-whole
returns-then-is_empty-clause-whole t c = λ whole goes.
    let port = c.in_ok-port.port in
    let grown : IsGrown c.args.set c.with-grown.result c.args.last port.number = record {
      low = omega (arith, c.if-get-last.false, c.get.ensures.value);
      high = port.high;
      law = c.with-grown.ensures.members;
      above = c.requires;
      size = c.know_ports.ensures;
    } in
    let one = cut_of c.args.last c.args.set whole c.args.text.now goes in
    let low = one.low in
    let wanted = the_port one.port (omega arith) one.high in
    let port_is : one.port ≡ port.number = port_of port wanted (c.in_ok-port.ensures.whole wanted (c.cut_member.ensures.front ∙ one.front)) in
    ap Some (ended c.args.set c.with-grown.result c.args.last port.number grown whole c.args.text.now goes one port_is (sym c.cut_member.ensures.rest ∙ left_none _ c.is_empty.result c.is_empty.ensures c.if-is_empty.true))

pub returns-in_err-more-clause-whole : goal.returns-in_err-more-clause-whole
returns-in_err-more-clause-whole t c = rw c.from_residual-in_err-more.ensures (λ whole goes.
    let one = cut_of c.args.last c.args.set whole c.args.text.now goes in
    let rest = c.cut_member.ensures.rest ∙ one.rest in
    elim (tail_cases _) [
      | inl none ↦ absurd (none_left _ c.is_empty.result (rest ∙ none) c.is_empty.ensures c.if-is_empty.false)
      | inr some ↦ absurd (c.in_err-more.ensures.whole some.0 (rest ∙ some.1))
    ])

pub returns-clause-read : goal.returns-clause-read
returns-clause-read t c =
    let port = c.in_ok-port.port in
    let grown : IsGrown c.args.set c.with-grown.result c.args.last port.number = record {
      low = omega (arith, c.if-get-last.false, c.get.ensures.value);
      high = port.high;
      law = c.with-grown.ensures.members;
      above = c.requires;
      size = c.know_ports.ensures;
    } in
    if_some c.read_members.result _ _ (λ whole goes. goes_on c.args.set c.with-grown.result c.args.last port.number grown whole c.args.text.now c.cut_member.result.1.now c.in_ok-more.more.now c.in_ok-more.ensures.read
    (whole_text c.args.text.now _ _ (decimal port.number) _ c.cut_member.ensures.front c.cut_member.ensures.rest c.in_ok-port.ensures.read)
    (subst (λ (n : ℕ). ListsMembersAbove n c.with-grown.result whole c.in_ok-more.more.now) c.get-2.ensures.value goes)) c.read_members.ensures.read

pub returns-clause-whole : goal.returns-clause-whole
returns-clause-whole t c = λ whole goes.
    let port = c.in_ok-port.port in
    let grown : IsGrown c.args.set c.with-grown.result c.args.last port.number = record {
      low = omega (arith, c.if-get-last.false, c.get.ensures.value);
      high = port.high;
      law = c.with-grown.ensures.members;
      above = c.requires;
      size = c.know_ports.ensures;
    } in
    let one = cut_of c.args.last c.args.set whole c.args.text.now goes in
    let low = one.low in
    let wanted = the_port one.port (omega arith) one.high in
    let port_is : one.port ≡ port.number = port_of port wanted (c.in_ok-port.ensures.whole wanted (c.cut_member.ensures.front ∙ one.front)) in
    c.read_members.ensures.whole whole (subst (λ (n : ℕ). ListsMembersAbove n c.with-grown.result whole c.in_ok-more.more.now) (sym c.get-2.ensures.value)
    (went_on c.args.set c.with-grown.result c.args.last port.number grown whole c.args.text.now c.in_ok-more.more.now goes one port_is (sym c.cut_member.ensures.rest ∙ c.in_ok-more.ensures.read)))
