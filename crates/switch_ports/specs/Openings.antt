-- Ports that are open, each held beside its number, and the ends of control.
use Rattle.std.specs.Prelude.{◌≡◌, ◌≢◌, ℕ, true, false, List, ◌∷◌, ◌++◌, map, All, AllPairs, Option, None, Some, IfSome}
use Rattle.savi_kinds.specs.declared.plan.PortPlan.{PortPlan}
use Rattle.savi_kinds.specs.declared.port.Port.{Port}
use Rattle.savi_kinds.specs.Ports.{number_of}
use Rattle.savi_ends.specs.declared.world.Ends.{Ends}
use Rattle.savi_ends.specs.Places.{Place, ControlKey}
use Rattle.pcap_io.specs.Kinds.{classic_kinds}
use Rattle.pcap_io.specs.Readers.{Fresh}
use Rattle.port_worker.specs.declared.control_ends.ControlEnds.{ControlEnds}
use Rattle.port_worker.specs.declared.port_ends.PortEnds.{PortEnds}
use Rattle.switch_ports.specs.Named.{control_key}

-- the ports of these plans, in their order
abbrev pub ports_of : List PortPlan → List Port
ports_of plans = map (λ p. p.number) plans

-- none of these ports has this number
abbrev pub IsOff : {S K C : Type 0} → List (PortEnds S K C) → ℕ → Type 0
IsOff held n = All (λ p. number_of p.port ≢ n) held

-- no two of these ports have one number
abbrev pub HaveOwnNumbers : {S K C : Type 0} → List (PortEnds S K C) → Type 0
HaveOwnNumbers held = AllPairs (λ p q. number_of p.port ≢ number_of q.port) held

-- the input of this port is read from its header on, of any classic kind
abbrev pub IsReadAnew : {S K C : Type 0} → PortEnds S K C → Type 0
IsReadAnew p = p.reader ≡ Fresh classic_kinds

-- of all ports these are the first, and this port comes next
abbrev pub IsNextBehind : Port → List Port → List Port → Type 0
IsNextBehind port first all = (later : List Port) × (all ≡ first ++ port ∷ later)

-- what was told of a place is held, without a fault so far, and the place is handed out
pub record IsOpened {X : Type 0} (IsFresh : X → Type 0) (old new : Place X) (x : X) : Type 0 where
  pub out : new.is_out ≡ true
  pub told : IfSome old.stands (λ told. x ≡ told)
  pub fresh : IsFresh x

-- Where there are names of control's input and output, its ends are held, as what was told of their place by these names, in
-- a run that isn't live; where there are none, nothing is held, and no place was touched.
abbrev pub IsControlOpened : {S K C : Type 0} → (Ends S K C → Type 0) → Option (List ℕ × List ℕ) → (ControlKey → Place (Ends S K C)) → (ControlKey → Place (Ends S K C)) → Option (ControlEnds S K C) → Type 0
IsControlOpened IsFresh None old new None = new ≡ old
IsControlOpened IsFresh None old new (Some control) = ⊥
IsControlOpened IsFresh (Some names) old new None = ⊥
IsControlOpened IsFresh (Some names) old new (Some control) =
    IsOpened IsFresh (old (control_key false names)) (new (control_key false names)) control.ends
