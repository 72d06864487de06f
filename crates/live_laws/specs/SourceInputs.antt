-- What the sources of a live session have: the inputs that their octets are, all of them, and the room that suffices for
-- these.
use Rattle.std.specs.Prelude.{◌≡◌, ℕ, ◌+◌, ◌<◌, true, List, length, slice_index_or, Option, Some, None}
use Rattle.savi_kinds.specs.declared.plan.Plan.{Plan}
use Rattle.savi_kinds.specs.declared.plan.PortPlan.{PortPlan}
use Rattle.savi_kinds.specs.declared.plan.Format.{Format}
use Rattle.savi_kinds.specs.Arrivals.{Input}
use Rattle.savi_ends.specs.declared.world.Ends.{Ends}
use Rattle.port_reader.specs.Inputs.{AreArrivals}
use Rattle.cli_lang.specs.Arrivals as control
use Rattle.checkpoint.specs.Bases.{Base, empty}
use Rattle.control_reader.specs.LiveLines.{AreLiveLines}
use Rattle.savi_laws.specs.Budgets.{standing, given_count, given_octets, lines_of, arrivals_of, Suffices}

-- these octets, read to their end, are this input of a port, by the port's form; the stamps of a stream are free
abbrev pub IsGivenInput : Format → List ℕ → Input → Type 0
IsGivenInput format octets input = AreArrivals format true octets input.arrivals input.ending

-- a port's source tells all octets that it has, and they are this input
abbrev pub HasInput : {S : Type 0} → (S → Option (List ℕ)) → Format → S → Input → Type 0
HasInput left format source input = (octets : List ℕ) × (left source ≡ Some octets) × IsGivenInput format octets input

-- Control's source, where there is control, tells all octets that it has, and they are these lines.
abbrev pub HasLines : {S K C : Type 0} → (S → Option (List ℕ)) → Option (Ends S K C) → Option control.Input → Type 0
HasLines left None None = Unit {0}
HasLines left None (Some input) = ⊥
HasLines left (Some ends) None = ⊥
HasLines left (Some ends) (Some input) =
    (octets : List ℕ) × (left ends.source ≡ Some octets) × AreLiveLines true octets input.arrivals input.ending

-- Each port of the plan, in its order, has ends whose source has one of these inputs, and control has these lines.
pub record HaveInputs {S K C : Type 0} (left : S → Option (List ℕ)) (plan : Plan) (ports : List (Ends S K C))
    (control_ends : Option (Ends S K C)) (lines : Option control.Input) (inputs : List Input) : Type 0 where
  pub each_port : length ports ≡ length plan.ports
  pub each_input : length inputs ≡ length plan.ports
  pub have : (place : ℕ) (p : PortPlan) (d : Ends S K C) (i : Input) → place < length plan.ports → HasInput left (slice_index_or plan.ports place p).format (slice_index_or ports place d).source (slice_index_or inputs place i)
  pub commands : HasLines left control_ends lines

-- what may bring entries of a segment about: the frames, longer frames and lines of these inputs, and addresses that have a
-- state in what it goes on from
abbrev pub causes_in : Plan → Base → Option control.Input → List Input → ℕ
causes_in plan base lines inputs = given_count (lines_of lines) (arrivals_of inputs) + standing plan base

-- the plan has room for any session of these inputs in one segment
abbrev pub SufficesFor : Plan → Option control.Input → List Input → Type 0
SufficesFor plan lines inputs =
    Suffices plan (causes_in plan empty lines inputs) (given_octets (lines_of lines) (arrivals_of inputs))
