use Rattle.savi_kinds.proofs.key_text.read_sides.Goals as goal

pub returns-in_err-a-clause-only : goal.returns-in_err-a-clause-only
returns-in_err-a-clause-only c = rw c.from_residual.ensures (λ vlan a address vid. c.in_err-a.ensures.only a address)
