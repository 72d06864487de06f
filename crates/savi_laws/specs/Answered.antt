-- What came into a switch, and what it answered: of each frame, longer frame and line what its entry says, without the queues.
use Rattle.std.specs.Prelude.{ℕ, Bool, true, false, List, map, filter, Option}
use Rattle.savi_kinds.specs.declared.port.PortSet.{PortSet}
use Rattle.savi_kinds.specs.declared.verdict.Verdict.{Verdict}
use Rattle.savi_kinds.specs.declared.entry.Act.{Act}
use Rattle.savi_kinds.specs.declared.entry.Act.TheVariants as acts
use Rattle.hist_store.specs.Rows.{Row}

-- the entry of a frame, of a longer frame, or of a line
abbrev pub is_input : Act → Bool
is_input (acts.Frame port stamp at len) = true
is_input (acts.Long port stamp len) = true
is_input (acts.Tick stamp) = false
is_input (acts.Command stamp at len) = true
is_input (acts.Drain port count) = false
is_input (acts.End who how) = false

-- the entries of inputs alone
abbrev pub inputs : List Row → List Row
inputs past = filter (λ r. is_input r.entry.act) past

-- what came in: by which pass, at which moment, with which octets
pub record Came : Type 0 where
  pub pass : ℕ
  pub moment : ℕ
  pub act : Act
  pub octets : List ℕ

abbrev pub came_of : Row → Came
came_of r = record { pass = r.entry.by; moment = r.entry.moment; act = r.entry.act; octets = r.octets }

-- what was answered: the verdict, and the ports to which it goes
pub record Answered : Type 0 where
  pub came : Came
  pub verdict : Option Verdict
  pub outs : PortSet

abbrev pub answered_of : Row → Answered
answered_of r = record { came = came_of r; verdict = r.entry.verdict; outs = r.entry.outs }

-- what came in, the newest first
abbrev pub came : List Row → List Came
came past = map came_of (inputs past)

-- what came in with its answers, the newest first
abbrev pub answered : List Row → List Answered
answered past = map answered_of (inputs past)
