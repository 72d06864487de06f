-- When each status comes.
use Rattle.std.specs.Prelude.{◌≡◌, ◌<◌, ◌==◌, ◌≢◌, ◌⊎◌, ℕ, not, Bool, true, false, List, [], ◌∷◌, Option, None, Some, IfSome, IsSomeAnd, All}
use Rattle.std.specs.List.{list_any}
use Rattle.savi_kinds.specs.declared.plan.Plan.{Plan}
use Rattle.savi_kinds.specs.ValidPlan.{numbers_of}
use Rattle.savi_ends.specs.declared.world.Std.TheVariants.{Out}
use Rattle.savi_ends.specs.declared.world.Ends.{Ends}
use Rattle.savi_ends.specs.Octets.{behind, IsFront}
use Rattle.savi_ends.specs.Places.{Place, Book, PortKey, ControlKey, OthersStay}
use Rattle.run_config.specs.Configs.{EndHasFault, IsConfigured}
use Rattle.port_worker.specs.SentFrames.{TookMore}
use Rattle.port_worker.specs.Used.{IsUsed}
use Rattle.switch_ports.specs.Named.{named_by, control_key}

-- the place of each port of the plan, by its number, under the names and the format that the plan has for it
abbrev pub ports_in : {S K C : Type 0} → Plan → Book S K C → ℕ → Place (Ends S K C)
ports_in plan book = named_by plan.ports book.ports

-- a read of the source of this port has failed
abbrev pub HasReadFault : {S K C : Type 0} → (S → ℕ) → Book S K C → PortKey → Type 0
HasReadFault faults book port = EndHasFault (λ ends. faults ends.source) (book.ports port)

-- a write of the sink of this port has failed
abbrev pub HasWriteFault : {S K C : Type 0} → (K → ℕ) → Book S K C → PortKey → Type 0
HasWriteFault faults book port = EndHasFault (λ ends. faults ends.sink) (book.ports port)

-- a read has failed: of the configuration, of the source of a port, or of that of control
abbrev pub HasSomeReadFault : {S K C : Type 0} → (S → ℕ) → List ℕ → Book S K C → Type 0
HasSomeReadFault faults file book =
    EndHasFault faults (book.inputs file)
    ⊎ (((port : PortKey) × HasReadFault faults book port) ⊎ ((names : ControlKey) × EndHasFault (λ ends. faults ends.source) (book.control names)))

-- a write has failed: of the sink of a port or of that of control, of an output by name, or of standard output
abbrev pub HasSomeWriteFault : {S K C : Type 0} → (K → ℕ) → Book S K C → Type 0
HasSomeWriteFault faults book =
    ((port : PortKey) × HasWriteFault faults book port)
    ⊎ (((names : ControlKey) × EndHasFault (λ ends. faults ends.sink) (book.control names)) ⊎ (((name : List ℕ) × EndHasFault faults (book.outputs name)) ⊎ EndHasFault faults (book.std Out)))

-- the number is one of these
abbrev pub IsOneOf : List ℕ → ℕ → Type 0
IsOneOf ns n = list_any (λ m. m == n) ns ≡ true

-- the statuses of a run whose session began, but for the read of the configuration that failed
abbrev pub session_statuses : List ℕ
session_statuses = 0 ∷ 4 ∷ 5 ∷ 6 ∷ []

-- the statuses of a run that wrote nothing to standard output
abbrev pub quiet_statuses : List ℕ
quiet_statuses = 1 ∷ 2 ∷ 3 ∷ 7 ∷ []

-- the statuses of a run that read and wrote nothing at its ports and in its journal
abbrev pub unused_statuses : List ℕ
unused_statuses = 1 ∷ 2 ∷ 3 ∷ 7 ∷ []

-- all statuses
abbrev pub statuses : List ℕ
statuses = 0 ∷ 1 ∷ 2 ∷ 3 ∷ 4 ∷ 5 ∷ 6 ∷ 7 ∷ []

-- The end that was handed out of a place is the one that is told there, where one is; one is kept there again, and this
-- holds of both.
pub record Keeps {X : Type 0} (Holds : X → X → Type 0) (old new : Place X) : Type 0 where
  pub handed : X
  pub back : X
  pub told : IfSome old.stands (λ told. handed ≡ told)
  pub kept : new.stands ≡ Some back
  pub holds : Holds handed back

-- A sink took these octets, and no write of it failed meanwhile; or it took a front of them before a write of them failed.
abbrev pub TookOrPart : {K : Type 0} → (K → ℕ) → (K → Option (List ℕ)) → Bool → List ℕ → K → K → Type 0
TookOrPart faults written true octets old new = (written new ≡ behind (written old) octets) × (faults new ≡ faults old)
TookOrPart faults written false octets old new = (0 < faults new) × ((front : List ℕ) × IsFront front octets × (written new ≡ behind (written old) front))

-- The same of the place of control, live or not, where the plan names its input and output; where it doesn't, no place of
-- control was touched.
abbrev pub KeepsControl : {S K C : Type 0} → (Ends S K C → Ends S K C → Type 0) → Bool → Option (List ℕ × List ℕ) → (ControlKey → Place (Ends S K C)) → (ControlKey → Place (Ends S K C)) → Type 0
KeepsControl Holds live None old new = new ≡ old
KeepsControl Holds live (Some names) old new = Keeps Holds (old (control_key live names)) (new (control_key live names))

-- The ends of each port of the plan are kept, read and written in their own place, and so are those of control, live or not,
-- where the plan names them, and the journal's sink.
pub record KeepsAll {S K C : Type 0} (live : Bool) (left : S → Option (List ℕ)) (written : K → Option (List ℕ)) (plan : Plan) (old new : Book S K C) : Type 0 where
  pub ports : All (λ port. Keeps (IsUsed left written) (ports_in plan old port) (ports_in plan new port)) (numbers_of plan.ports)
  pub control : KeepsControl (IsUsed left written) live plan.control old.control new.control
  pub journal : Keeps (λ told kept. TookMore (written told) (written kept)) (old.outputs plan.journal) (new.outputs plan.journal)

-- the end that is told in this place is kept there as it was
abbrev pub IsBack : {X : Type 0} → Place X → Place X → Type 0
IsBack old new = IfSome old.stands (λ told. IsSomeAnd new.stands (λ kept. kept ≡ told))

-- neither control nor the ticker nor any port nor any output by name was touched
pub record IsUnserved {S K C : Type 0} (old new : Book S K C) : Type 0 where
  pub ports : new.ports ≡ old.ports
  pub control : new.control ≡ old.control
  pub ticker : new.ticker ≡ old.ticker
  pub outputs : new.outputs ≡ old.outputs

-- the same of the place of control, live or not, that the plan names; where it names none, no place of control was touched
abbrev pub IsControlBack : {S K C : Type 0} → Bool → Option (List ℕ × List ℕ) → (ControlKey → Place (Ends S K C)) → (ControlKey → Place (Ends S K C)) → Type 0
IsControlBack live None old new = new ≡ old
IsControlBack live (Some names) old new = IsBack (old (control_key live names)) (new (control_key live names))

-- with this plan the ends of each of its ports, of control and of every output, and the ticker's clock, where the world tells
-- them, are as they were, and no other port was touched
pub record IsUnusedOf {S K C : Type 0} (live : Bool) (plan : Plan) (old new : Book S K C) : Type 0 where
  pub ports : (port : ℕ) → IsBack (ports_in plan old port) (ports_in plan new port)
  pub others : (port : PortKey) → All (λ n. n ≢ port.number) (numbers_of plan.ports) → new.ports port ≡ old.ports port
  pub control : IsControlBack live plan.control old.control new.control
  pub ticker : IsBack old.ticker new.ticker
  pub outputs : (name : List ℕ) → IsBack (old.outputs name) (new.outputs name)

-- nothing was touched, or that is so of the plan that the configuration says
abbrev pub IsUnused : {S K C : Type 0} → Bool → (S → Option (List ℕ)) → List ℕ → Book S K C → Book S K C → Type 0
IsUnused replay left file old new =
    IsUnserved old new ⊎ ((plan : Plan) × IsConfigured replay left (old.inputs file) plan × IsUnusedOf (not replay) plan old new)

-- nothing was touched but standard error
pub record IsUntouched {S K C : Type 0} (old new : Book S K C) : Type 0 where
  pub out : new.std Out ≡ old.std Out
  pub rest : new ≡ record old { std = new.std }

-- the ticker wasn't touched, and no input by name but this one
pub record IsElsewhereSame {S K C : Type 0} (file : List ℕ) (old new : Book S K C) : Type 0 where
  pub ticker : new.ticker ≡ old.ticker
  pub inputs : OthersStay old.inputs new.inputs file

-- With this plan no port but those of the plan was touched, and no output by name but the journal, nor control where the
-- plan names none.
pub record IsOffPlanSame {S K C : Type 0} (plan : Plan) (old new : Book S K C) : Type 0 where
  pub ports : (port : PortKey) → All (λ n. n ≢ port.number) (numbers_of plan.ports) → new.ports port ≡ old.ports port
  pub control : plan.control ≡ None → new.control ≡ old.control
  pub outputs : OthersStay old.outputs new.outputs plan.journal
