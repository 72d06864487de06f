-- The segments of a load: the replay of what it sends, at a switch of its plan.
use Rattle.std.specs.Prelude.{ℕ, ◌≡◌, List, [], ◌∷◌, map, None}
use Rattle.savi_kinds.specs.declared.entry.Act.{Act}
use Rattle.savi_kinds.specs.declared.entry.Act.TheVariants as acts
use Rattle.savi_kinds.specs.declared.entry.How.TheVariants as how
use Rattle.savi_kinds.specs.declared.plan.Plan.{Plan}
use Rattle.savi_kinds.specs.Arrivals.{Input}
use Rattle.hist_store.specs.Rows.{Row}
use Rattle.load_gen.specs.Captures.{sent_at}
use Rattle.load_gen.specs.Inputs.{arrival_with}
use Rattle.load_gen.specs.Sendings.{Sending, sendings}
use Rattle.savi_history.specs.Replay.{Stops}
use Rattle.savi_segments.specs.Replay.{replayed}

-- what comes in at a port: the frames that are sent there, each with its moment as its stamp, and then the end
abbrev pub input_at : ℕ → List Sending → Input
input_at port all = record { arrivals = map arrival_with (sent_at port all); ending = how.End }

-- the inputs of ports 1 to 5, in order
unfoldable pub load_inputs : ℕ → ℕ → List Input
load_inputs seed frames = map (λ port. input_at port (sendings seed frames)) (1 ∷ 2 ∷ 3 ∷ 4 ∷ 5 ∷ [])

-- no sink fails
abbrev pub no_stops : Stops
no_stops = record { ports = λ port. None; control = None }

-- the replay of a load at a switch of this plan, without control
unfoldable pub load_segments : Plan → ℕ → ℕ → List (List Row)
load_segments plan seed frames = replayed plan None (load_inputs seed frames) no_stops

-- every end in a history is an ordinary one: no read and no write failed, no input was malformed, and none was paused
abbrev pub IsOrdinary : Act → Type 0
IsOrdinary (acts.Frame port stamp at len) = Unit {0}
IsOrdinary (acts.Long port stamp len) = Unit {0}
IsOrdinary (acts.Tick stamp) = Unit {0}
IsOrdinary (acts.Command stamp at len) = Unit {0}
IsOrdinary (acts.Drain port count) = Unit {0}
IsOrdinary (acts.End who ending) = ending ≡ how.End

abbrev pub AreOrdinary : List Row → Type 0
AreOrdinary [] = Unit {0}
AreOrdinary (r ∷ past) = IsOrdinary r.entry.act × AreOrdinary past
