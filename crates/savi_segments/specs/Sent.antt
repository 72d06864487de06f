-- What segments send: what the drains of each one took, one behind the other, and likewise the replies to its lines. What
-- waits is a matter of each segment alone: a segment that is left has nothing waiting.
use Rattle.std.specs.Prelude.{ℕ, ◌==◌, if◌then◌else◌, List, [], ◌∷◌, ◌++◌, Option}
use Rattle.savi_kinds.specs.declared.plan.Plan.{Plan}
use Rattle.savi_kinds.specs.declared.entry.Act.{Act}
use Rattle.savi_kinds.specs.declared.entry.Act.TheVariants.{Frame, Long, Tick, Command, Drain, End}
use Rattle.savi_kinds.specs.Ports.{number_of}
use Rattle.pcap_io.specs.Captures.{capture_text}
use Rattle.hist_store.specs.Rows.{Row}
use Rattle.checkpoint.specs.Bases.{Base}
use Rattle.savi_history.specs.ControlInputs.{control_end}
use Rattle.savi_history.specs.ControlOutputs.{replies, FitsReplies}
use Rattle.savi_history.specs.Outputs.{sent_items}
use Rattle.savi_history.specs.PortOutputs.{output_end, FitsOutput}
use Rattle.savi_history.specs.Queues.{Item, sent}
use Rattle.savi_segments.specs.Segments.{base_after}
use Rattle.savi_segments.specs.Unbroken.{unbroken}

-- the items that the drains of q took, the oldest first
abbrev pub sent_in : Plan → ℕ → List (List Row) → List Item
sent_in plan q [] = []
sent_in plan q (segment ∷ before) = sent_in plan q before ++ sent plan (base_after plan before) q segment

-- the replies to the lines that were entered, the oldest first
abbrev pub replies_in : Plan → List (List Row) → List (List ℕ)
replies_in plan [] = []
replies_in plan (segment ∷ before) = replies_in plan before ++ replies plan (base_after plan before) segment

-- The capture of what the drains of q before its last one took, behind a row with this act: where it is a drain of q, of all
-- that was taken by then, in earlier segments (`early`) and in this one.
abbrev pub taken_before : Plan → Base → ℕ → List Item → List Row → Act → List ℕ → List ℕ
taken_before plan base q early past (Frame port stamp at len) text = text
taken_before plan base q early past (Long port stamp len) text = text
taken_before plan base q early past (Tick stamp) text = text
taken_before plan base q early past (Command stamp at len) text = text
taken_before plan base q early past (Drain port count) text = if number_of port == q then capture_text (sent_items (early ++ sent plan base q past)) else text
taken_before plan base q early past (End who how) text = text

-- the same behind the rows of a segment, by the text before them
abbrev pub before_last_drain : Plan → Base → ℕ → List Item → List ℕ → List Row → List ℕ
before_last_drain plan base q early text [] = text
before_last_drain plan base q early text (r ∷ past) = taken_before plan base q early past r.entry.act (before_last_drain plan base q early text past)

-- the capture of what the drains of q before its last one took; nothing where there was none
abbrev pub before_last_drain_in : Plan → ℕ → List (List Row) → List ℕ
before_last_drain_in plan q [] = []
before_last_drain_in plan q (segment ∷ before) = before_last_drain plan (base_after plan before) q (sent_in plan q before) (before_last_drain_in plan q before) segment

-- What the sink of a port took is the output that segments send, by how that ended there.
abbrev pub FitsOutputIn : Plan → Option (List ℕ) → Option (List ℕ) → ℕ → List (List Row) → Type 0
FitsOutputIn plan before after q segments =
    FitsOutput before after (capture_text (sent_items (sent_in plan q segments))) (before_last_drain_in plan q segments) (output_end q (unbroken segments))

-- What control's sink took is the replies, by how control ended.
abbrev pub FitsRepliesIn : Plan → Option (List ℕ) → Option (List ℕ) → List (List Row) → Type 0
FitsRepliesIn plan before after segments = FitsReplies before after (replies_in plan segments) (control_end (unbroken segments))
