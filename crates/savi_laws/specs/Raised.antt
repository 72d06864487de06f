-- By what a frame of one port makes another port hold an address: by a lease of it that meets a request of that port.
use Rattle.std.specs.Prelude.{◌≡◌, ℕ, true, List, ◌++◌, Some}
use Rattle.savi_access.specs.Probes.{IsAmong}
use Rattle.savi_kinds.specs.declared.port.Port.{Port}
use Rattle.savi_kinds.specs.declared.plan.Plan.{Plan}
use Rattle.fcfs_states.specs.States.{Same}
use Rattle.fcfs_states.specs.declared.event.Ev.TheVariants.{Lease}
use Rattle.dhcp_states.specs.Requests.{asker}
use Rattle.mix_rules.specs.States.{IsHeldAt}
use Rattle.savi_access.specs.States.{state_at}
use Rattle.savi_access.specs.Tables.{held_at}
use Rattle.savi_access.specs.Rules.{AccessBase}
use Rattle.savi_access.specs.Marks.{Mark, Told, Met, told, open_requests}
use Rattle.savi_access.specs.Plans.{rules_of}
use Rattle.checkpoint.specs.Bases.{Base, access_of}

-- how many addresses the port of this number holds at t after these marks
abbrev pub held_after : Plan → Base → List Mark → ℕ → ℕ → ℕ
held_after plan base marks t number = held_at (rules_of plan).addresses (access_of base).addresses (told marks) t number

-- the port holds this address of this VLAN at t after these marks
abbrev pub HoldsAfter : Plan → Base → List Mark → ℕ → ℕ → ℕ → Port → Type 0
HoldsAfter plan base marks t vlan a port = IsHeldAt (state_at (rules_of plan).addresses (access_of base).addresses (told marks) t vlan a) port

-- Behind the past there are new marks, in which an open request of q in this VLAN was met, and q was given this address of
-- the VLAN, for which it had room (RFC 7513 section 6).
pub record GivesLease (base : AccessBase) (vlan t : ℕ) (q : Port) (a : ℕ) (past marks : List Mark) : Type 0 where
  pub new : List Mark
  pub is : marks ≡ new ++ past
  -- the port that asked, whose request was open
  pub port : Port
  pub same : Same port q
  pub tid : ℕ
  pub duid : List ℕ
  pub asked : asker tid duid (open_requests base vlan past t) ≡ Some port
  pub met : IsAmong (Met vlan t tid duid) new
  -- what it was given
  pub valid : ℕ
  pub told : IsAmong (Told (record { vlan = vlan; address = a; moment = t; event = Lease port valid; room = true })) new
