use Rattle.std.proofs.Common.{◌≡◌, sym, ◌∙◌}
use Rattle.mix_rules.specs.contracts.state.AddrStatePartialEq.TheImpl as state_eq
use Rattle.addr_table.proofs.SameStates.{state_is, state_self}
use Rattle.addr_table.proofs.stored.is_same_state.Goals as goal

pub returns : goal.returns
returns c =
    let value : c.eq.result ≡ (state_eq.ghosts).eq c.args.a.now c.args.b.now = c.eq.ensures in
    (λ same. state_is c.args.a.now c.args.b.now (sym value ∙ same), λ same. value ∙ state_self c.args.a.now c.args.b.now same)
