-- An address is live by its three lines where `mix_rules` says that it is.
use Rattle.std.proofs.Common.{Option, Some, None, ◌↔◌}
use Rattle.savi_kinds.specs.declared.port.Port.{Port}
use Rattle.fcfs_states.specs.declared.state.Fcfs.{Fcfs}
use Rattle.fcfs_states.specs.declared.state.Fcfs.TheVariants.{NoBind, Tentative, Valid, TestLt, TestVp}
use Rattle.fcfs_states.specs.States.{IsLive}
use Rattle.dhcp_states.specs.declared.bound.Bound.{Bound}
use Rattle.mix_rules.specs.declared.state.AddrState.{AddrState}
use Rattle.mix_rules.specs.States.{IsLiveBy, IsLiveAt, owner_of}
use Rattle.savi_access.specs.Access.{IsHolder, LivesBy, LivesAt}

holder_is : (fcfs : Fcfs) (port : Port) → (IsHolder fcfs port ↔ IsLive fcfs port)
holder_is NoBind port = (λ lives. lives, λ live. live)
holder_is (Tentative p since two) port = (λ lives. lives, λ live. live)
holder_is (Valid p until) port = (λ lives. lives, λ live. live)
holder_is (TestLt p since two) port = (λ lives. lives, λ live. live)
holder_is (TestVp p q since two) port = (λ lives. lives, λ live. live)

lives_by : (fixed : Option Port) (dhcp : Option Bound) (fcfs : Fcfs) (port : Port) → (LivesBy fixed dhcp fcfs port ↔ IsLiveBy (owner_of fixed dhcp) fcfs port)
lives_by (Some f) dhcp fcfs port = (λ lives. lives, λ live. live)
lives_by None (Some bound) fcfs port = (λ lives. lives, λ live. live)
lives_by None None fcfs port = holder_is fcfs port

pub lives_at : (s : AddrState) (port : Port) → (LivesAt s port ↔ IsLiveAt s port)
lives_at s port = lives_by s.fixed s.dhcp s.fcfs port

-- what holds where it is live holds where it lives
pub lives_where : (P : Type 0) (s : AddrState) (port : Port) → (P ↔ IsLiveAt s port) → (P ↔ LivesAt s port)
lives_where P s port is = (λ holds. (lives_at s port).1 (is.0 holds), λ lives. is.1 ((lives_at s port).0 lives))
