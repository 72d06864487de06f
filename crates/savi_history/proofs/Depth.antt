-- What an entry leaves waiting: no queue is longer than the plan's depth.
use Rattle.std.proofs.Common.{ℕ, ◌≤◌, ◌==◌, Bool, true, false, if◌then◌else◌, List, [], ◌∷◌, length, drop, arith, length-drop}
use Rattle.savi_kinds.specs.declared.plan.Plan.{Plan}
use Rattle.savi_kinds.specs.declared.entry.Act.{Act}
use Rattle.savi_kinds.specs.declared.entry.Act.TheVariants as acts
use Rattle.savi_kinds.specs.declared.entry.Who.{Who}
use Rattle.savi_kinds.specs.declared.entry.Who.TheVariants as passes
use Rattle.savi_kinds.specs.declared.entry.How.{How}
use Rattle.savi_kinds.specs.declared.entry.How.TheVariants as hows
use Rattle.savi_kinds.specs.Ports.{number_of}
use Rattle.savi_kinds.specs.PortSets.{is_member}
use Rattle.hist_store.specs.Rows.{Row}
use Rattle.checkpoint.specs.Bases.{Base}
use Rattle.savi_history.specs.Queues.{Item, item_of, room_at, joined_queue, offered_at, probed, waiting_after, queue}
use Rattle.savi_history.proofs.Joining.{joined_within, room_low}

pub length_dropped : (b : Bool) (count : ℕ) (items : List Item) → length (if b then drop count items else items) ≤ length items
length_dropped true count items = let size = length-drop count items in omega arith
length_dropped false count items = omega arith

pub length_emptied : (b : Bool) (items : List Item) → length (if b then [] else items) ≤ length items
length_emptied true items = omega arith
length_emptied false items = omega arith

-- an end leaves no more than there was
pub ended_fewer : (plan : Plan) (base : Base) (past : List Row) (q : ℕ) (r : Row) (who : Who) (how : How) (items : List Item) → length (waiting_after plan base past q r (acts.End who how) items) ≤ length items
ended_fewer plan base past q r (passes.Egress p) hows.Failed items = length_emptied (number_of p == q) items
ended_fewer plan base past q r (passes.Egress p) hows.End items = omega arith
ended_fewer plan base past q r (passes.Egress p) hows.Quit items = omega arith
ended_fewer plan base past q r (passes.Egress p) (hows.Malformed at) items = omega arith
ended_fewer plan base past q r (passes.Egress p) (hows.Overlong at) items = omega arith
ended_fewer plan base past q r (passes.Egress p) hows.Unwritten items = omega arith
ended_fewer plan base past q r (passes.Egress p) hows.Paused items = omega arith
ended_fewer plan base past q r (passes.Ingress p) how items = omega arith
ended_fewer plan base past q r passes.Control how items = omega arith
ended_fewer plan base past q r passes.Ticker how items = omega arith

framed_within : (b : Bool) (room most : ℕ) (item : Item) (waiting : List Item) → room ≤ most → length waiting ≤ most → length (if b then joined_queue room waiting item else waiting) ≤ most
framed_within true room most item waiting low before = joined_within room most waiting (item ∷ []) low before
framed_within false room most item waiting low before = before

module _ (plan : Plan) (base : Base) (past : List Row) (q : ℕ) where
  probed_within : (act : Act) (octets : List ℕ) (waiting : List Item) → length waiting ≤ plan.depth → length (probed plan base past act octets q waiting) ≤ plan.depth
  probed_within act octets waiting before =
      joined_within (room_at plan base past q) plan.depth waiting (offered_at plan base past act octets q) (room_low plan base past q) before

  pub after_within : (r : Row) (act : Act) (waiting : List Item) → length waiting ≤ plan.depth → length (waiting_after plan base past q r act waiting) ≤ plan.depth
  after_within r (acts.Frame port stamp at len) waiting before =
      framed_within (is_member r.entry.outs q) (room_at plan base past q) plan.depth (item_of plan q port r) (probed plan base past (acts.Frame port stamp at len) r.octets q waiting)
      (room_low plan base past q) (probed_within (acts.Frame port stamp at len) r.octets waiting before)
  after_within r (acts.Long port stamp len) waiting before = probed_within (acts.Long port stamp len) r.octets waiting before
  after_within r (acts.Tick stamp) waiting before = probed_within (acts.Tick stamp) r.octets waiting before
  after_within r (acts.Command stamp at len) waiting before = probed_within (acts.Command stamp at len) r.octets waiting before
  after_within r (acts.Drain port count) waiting before = omega (arith, before, length_dropped (number_of port == q) count waiting)
  after_within r (acts.End who how) waiting before = omega (arith, before, ended_fewer plan base past q r who how waiting)

-- of any rows, legal or not
pub queue_within : (plan : Plan) (base : Base) (q : ℕ) (past : List Row) → length (queue plan base q past) ≤ plan.depth
queue_within plan base q [] = omega arith
queue_within plan base q (r ∷ past) = after_within plan base past q r r.entry.act (queue plan base q past) (queue_within plan base q past)
