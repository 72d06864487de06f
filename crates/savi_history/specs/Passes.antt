-- The passes of a switch, by number: one for the ingress of each port, in the order of the plan, then control and the
-- ticker, then one for the egress of each port.
use Rattle.std.specs.Prelude.{ℕ, suc, ◌+◌, ◌*◌, ◌<◌, ◌≡◌, ◌==◌, ◌&&◌, ◌||◌, Bool, true, false, if◌then◌else◌, List, [], ◌∷◌, length}
use Rattle.std.specs.List.{list_any}
use Rattle.savi_kinds.specs.declared.plan.Plan.{Plan}
use Rattle.savi_kinds.specs.declared.plan.Role.{Role}
use Rattle.savi_kinds.specs.declared.plan.Role.TheVariants as roles
use Rattle.savi_kinds.specs.declared.entry.Act.{Act}
use Rattle.savi_kinds.specs.declared.entry.Act.TheVariants.{Frame, Long, Tick, Command, Drain, End}
use Rattle.savi_kinds.specs.declared.entry.Who.{Who}
use Rattle.savi_kinds.specs.declared.entry.Who.TheVariants.{Ingress, Control, Ticker, Egress}
use Rattle.savi_kinds.specs.Ports.{number_of}
use Rattle.savi_kinds.specs.ValidPlan.{numbers_of}
use Rattle.hist_store.specs.Rows.{Row}
pub use Rattle.savi_access.specs.Plans.{has_port, role_among, role_of}
use Rattle.checkpoint.specs.Bases.{Base}

abbrev pub is_trusted : Role → Bool
is_trusted roles.Host = false
is_trusted roles.Server = false
is_trusted roles.Trusted = true

-- the place of a port among these
abbrev pub place_among : List ℕ → ℕ → ℕ
place_among [] number = 0
place_among (n ∷ ns) number = if n == number then 0 else suc (place_among ns number)

abbrev pub place_of : Plan → ℕ → ℕ
place_of plan number = place_among (numbers_of plan.ports) number

abbrev pub control_pass : Plan → ℕ
control_pass plan = length plan.ports

abbrev pub ticker_pass : Plan → ℕ
ticker_pass plan = length plan.ports + 1

abbrev pub egress_pass : Plan → ℕ → ℕ
egress_pass plan number = length plan.ports + 2 + place_of plan number

abbrev pub pass_count : Plan → ℕ
pass_count plan = 2 * length plan.ports + 2

abbrev pub pass_of : Plan → Who → ℕ
pass_of plan (Ingress p) = place_of plan (number_of p)
pass_of plan Control = control_pass plan
pass_of plan Ticker = ticker_pass plan
pass_of plan (Egress p) = egress_pass plan (number_of p)

-- the pass is one of the plan's
abbrev pub has_pass : Plan → Who → Bool
has_pass plan (Ingress p) = has_port plan (number_of p)
has_pass plan Control = true
has_pass plan Ticker = true
has_pass plan (Egress p) = has_port plan (number_of p)

-- an entry that ends the pass that made it
abbrev pub is_end : Act → Bool
is_end (Frame port stamp at len) = false
is_end (Long port stamp len) = false
is_end (Tick stamp) = false
is_end (Command stamp at len) = false
is_end (Drain port count) = false
is_end (End who how) = true

-- whether a pass has ended
abbrev pub has_ended : Base → ℕ → List Row → Bool
has_ended base pass [] = list_any (λ ended. ended.0 == pass) base.ended
has_ended base pass (r ∷ past) = (is_end r.entry.act && (r.entry.by == pass)) || has_ended base pass past

-- each pass up to a number has ended
abbrev pub AllEnded : Base → ℕ → List Row → Type 0
AllEnded base count past = (pass : ℕ) → pass < count → has_ended base pass past ≡ true
