-- What an operator does to an address that is on-link.
use Rattle.std.proofs.Common.{◌≡◌, ℕ, true, Option, Some, None, IsSome, is_some, refl, sym, ap, ◌∙◌}
use Rattle.savi_kinds.specs.declared.port.Port.{Port}
use Rattle.savi_kinds.specs.declared.plan.Method.{Method}
use Rattle.fcfs_states.specs.declared.answer.Answer.{Answer}
use Rattle.fcfs_states.specs.declared.event.Ev.{Ev}
use Rattle.mix_rules.specs.declared.state.AddrState.{AddrState}
use Rattle.mix_rules.specs.States.{has_state}
use Rattle.savi_access.specs.Keeps.{IsSoundBy}
use Rattle.savi_access.specs.Rooms.{port_of}
use Rattle.savi_access.specs.Limits.{IsOfVlan}
use Rattle.savi_access.specs.Rules.{AccessRules}
use Rattle.savi_access.specs.Judged.{with_event}
use Rattle.savi_access.proofs.States.{none_some}
use Rattle.access_table.specs.Kept.{Kept}
use Rattle.access_table.specs.Steps.{Hears, Moves}

-- an event on it is told
pub told_on_link : (r : AccessRules) (t : ℕ) (old new : Kept) (a : ℕ) (event : Ev) (port : Port) (o : Option Answer)
    → IsSome (r.addresses.method_of old.vlan a) → IsOfVlan r.addresses old.vlan (port_of event) → Hears r t old new a event o
    → Moves r t old new (λ base past. with_event r base old.vlan port t a event past)
told_on_link r t old new a event port None on own heard = absurd (none_some (sym (ap is_some heard.0) ∙ on))
told_on_link r t old new a event port (Some answer) on own heard = λ base past is. (heard.1 base past port is own).kept

-- an address that has a state is on-link
pub on_link_by_state : (m : Option Method) (s : AddrState) → IsSoundBy m s → has_state s ≡ true → IsSome m
on_link_by_state None s sound has = absurd (none_some (sym (ap has_state sound) ∙ has))
on_link_by_state (Some m) s sound has = refl
