-- Nothing waits where an egress has ended.
use Rattle.std.proofs.Common.{◌≡◌, ℕ, zero, suc, ◌<◌, ◌==◌, ◌||◌, Bool, true, false, if◌then◌else◌, List, [], ◌∷◌, drop, get_or, length, inl, inr, refl, sym, ap, subst, ◌∙◌, arith}
use Rattle.std.proofs.lemmas.Bool.{cases_Bool, cases_eq, cond-true, eq-eqb, ne_eqb}
use Rattle.savi_kinds.specs.declared.plan.Plan.{Plan}
use Rattle.savi_kinds.specs.declared.port.Port.{Port}
use Rattle.savi_kinds.specs.declared.entry.Who.{Who}
use Rattle.savi_kinds.specs.declared.entry.Who.TheVariants.{Ingress, Control, Ticker, Egress}
use Rattle.savi_kinds.specs.declared.entry.How.{How}
use Rattle.savi_kinds.specs.declared.entry.How.TheVariants as hows
use Rattle.savi_kinds.specs.declared.entry.Act.{Act}
use Rattle.savi_kinds.specs.declared.entry.Act.TheVariants as acts
use Rattle.savi_kinds.specs.Ports.{number_of}
use Rattle.savi_kinds.specs.PortSets.{is_member}
use Rattle.savi_kinds.specs.ValidPlan.{numbers_of}
use Rattle.hist_store.specs.Rows.{Row}
use Rattle.checkpoint.specs.Bases.{Base}
use Rattle.savi_history.specs.Passes.{has_ended, has_port, pass_of, place_of, egress_pass}
use Rattle.savi_history.specs.Queues.{Item, item_of, room_at, joined_queue, all_joined, offered_at, probed, framed, waiting_after, queue}
use Rattle.savi_history.specs.Events as events
use Rattle.savi_history.specs.Events.{row_of}
use Rattle.savi_history.specs.Legal.{MayCome, MayEnd, IsLegal}
use Rattle.savi_history.proofs.PortPlaces.{placed, place_within}
use Rattle.savi_history.proofs.Joining.{room_ended, joined_closed}

abbrev no_items : List Item
no_items = []

drop_nothing : (count : ℕ) → drop count no_items ≡ []
drop_nothing zero = refl
drop_nothing (suc count) = refl

drop_none : (b : Bool) (count : ℕ) → (if b then drop count no_items else []) ≡ []
drop_none true count = drop_nothing count
drop_none false count = refl

failed_none : (b : Bool) → (if b then no_items else no_items) ≡ []
failed_none true = refl
failed_none false = refl

-- an end lets nothing wait where nothing waited
end_none : (plan : Plan) (base : Base) (past : List Row) (q : ℕ) (r : Row) (who : Who) (how : How) → waiting_after plan base past q r (acts.End who how) [] ≡ []
end_none plan base past q r (Egress port) hows.Failed = failed_none (number_of port == q)
end_none plan base past q r (Egress port) hows.End = refl
end_none plan base past q r (Egress port) hows.Quit = refl
end_none plan base past q r (Egress port) (hows.Malformed at) = refl
end_none plan base past q r (Egress port) (hows.Overlong at) = refl
end_none plan base past q r (Egress port) hows.Unwritten = refl
end_none plan base past q r (Egress port) hows.Paused = refl
end_none plan base past q r (Ingress port) how = refl
end_none plan base past q r Control how = refl
end_none plan base past q r Ticker how = refl

-- an end of this egress that might come leaves nothing there
egress_none : (plan : Plan) (base : Base) (past : List Row) (port : Port) (q : ℕ) (r : Row) (how : How) → number_of port ≡ q → MayEnd plan base past (Egress port) how → waiting_after plan base past q r (acts.End (Egress port) how) (queue plan base q past) ≡ []
egress_none plan base past port q r hows.End same may = subst (λ (n : ℕ). queue plan base n past ≡ []) same may.0.1
egress_none plan base past port q r hows.Quit same may = absurd may
egress_none plan base past port q r (hows.Malformed at) same may = absurd may
egress_none plan base past port q r (hows.Overlong at) same may = absurd may
egress_none plan base past port q r hows.Failed same may = cond-true (number_of port == q) [] (queue plan base q past) (eq-eqb (number_of port) q same)
egress_none plan base past port q r hows.Unwritten same may = absurd may
egress_none plan base past port q r hows.Paused same may = subst (λ (n : ℕ). queue plan base n past ≡ []) same may.0.1

-- the pass of an egress is that of its port alone
pub same_port : (plan : Plan) (port : Port) (q : ℕ) → has_port plan (number_of port) ≡ true → has_port plan q ≡ true → pass_of plan (Egress port) ≡ egress_pass plan q → number_of port ≡ q
same_port plan port q known known_q same =
    let one = placed plan (number_of port) known in
    let other = placed plan q known_q in
    let places : place_of plan (number_of port) ≡ place_of plan q = omega (arith, same) in
    sym one.number_is ∙ ap (λ (k : ℕ). get_or (numbers_of plan.ports) k 0) places ∙ other.number_is

-- the pass that ended is this egress
ended_here : (plan : Plan) (base : Base) (past : List Row) (q : ℕ) (r : Row) (who : Who) (how : How) → has_port plan q ≡ true → MayCome plan base past (events.End who how) → pass_of plan who ≡ egress_pass plan q → waiting_after plan base past q r (acts.End who how) (queue plan base q past) ≡ []
ended_here plan base past q r (Ingress port) how known may same = let within = place_within plan (number_of port) may.0.known in absurd (omega (arith, within, same))
ended_here plan base past q r Control how known may same = absurd (omega (arith, same))
ended_here plan base past q r Ticker how known may same = absurd (omega (arith, same))
ended_here plan base past q r (Egress port) how known may same = egress_none plan base past port q r how (same_port plan port q may.0.known known same) may.1

-- nothing that an entry offers joins where the egress has ended
probes_none : (plan : Plan) (base : Base) (past : List Row) (q : ℕ) (act : Act) (octets : List ℕ) (waiting : List Item) → has_ended base (egress_pass plan q) past ≡ true → probed plan base past act octets q waiting ≡ waiting
probes_none plan base past q act octets waiting is_ended =
    let items = offered_at plan base past act octets q in
    ap (λ (room : ℕ). all_joined room waiting items) (room_ended plan base past q is_ended) ∙ joined_closed waiting items

frame_at : (b : Bool) (item : Item) (waiting : List Item) → (if b then joined_queue 0 waiting item else waiting) ≡ waiting
frame_at true item waiting = joined_closed waiting (item ∷ [])
frame_at false item waiting = refl

frame_none : (plan : Plan) (base : Base) (past : List Row) (q : ℕ) (port : Port) (r : Row) (waiting : List Item) → has_ended base (egress_pass plan q) past ≡ true → framed plan (room_at plan base past q) q port r waiting ≡ waiting
frame_none plan base past q port r waiting is_ended =
    ap (λ (room : ℕ). framed plan room q port r waiting) (room_ended plan base past q is_ended) ∙ frame_at (is_member r.entry.outs q) (item_of plan q port r) waiting

-- nothing that a frame offers joins where the egress has ended, whatever the history is
pub nothing_joins_frame : (plan : Plan) (base : Base) (past : List Row) (q : ℕ) (port : Port) (stamp : ℕ) (octets : List ℕ) → has_ended base (egress_pass plan q) past ≡ true
    → queue plan base q (row_of plan base past (events.Frame port stamp octets) ∷ past) ≡ queue plan base q past
nothing_joins_frame plan base past q port stamp octets is_ended =
    let r = row_of plan base past (events.Frame port stamp octets) in
    let waiting = queue plan base q past in
    let act = events.frame_act past port stamp octets in
    frame_none plan base past q port r (probed plan base past act octets q waiting) is_ended ∙ probes_none plan base past q act octets waiting is_ended

pub nothing_joins_long : (plan : Plan) (base : Base) (past : List Row) (q : ℕ) (port : Port) (stamp len : ℕ) → has_ended base (egress_pass plan q) past ≡ true
    → queue plan base q (row_of plan base past (events.Long port stamp len) ∷ past) ≡ queue plan base q past
nothing_joins_long plan base past q port stamp len is_ended = probes_none plan base past q (acts.Long port stamp len) [] (queue plan base q past) is_ended

-- one row more
none_next : (plan : Plan) (base : Base) (past : List Row) (q : ℕ) (event : events.Event) → has_port plan q ≡ true → MayCome plan base past event
    → (has_ended base (egress_pass plan q) past ≡ true → queue plan base q past ≡ [])
    → has_ended base (egress_pass plan q) (row_of plan base past event ∷ past) ≡ true → queue plan base q (row_of plan base past event ∷ past) ≡ []
none_next plan base past q (events.Frame port stamp octets) known may before is_ended = nothing_joins_frame plan base past q port stamp octets is_ended ∙ before is_ended
none_next plan base past q (events.Long port stamp len) known may before is_ended = nothing_joins_long plan base past q port stamp len is_ended ∙ before is_ended
none_next plan base past q (events.Command stamp line) known may before is_ended = probes_none plan base past q (events.command_act past stamp line) line (queue plan base q past) is_ended ∙ before is_ended
none_next plan base past q (events.Tick stamp) known may before is_ended = probes_none plan base past q (acts.Tick stamp) [] (queue plan base q past) is_ended ∙ before is_ended
none_next plan base past q (events.Drain port count) known may before is_ended = rw (before is_ended) (drop_none (number_of port == q) count)
none_next plan base past q (events.End who how) known may before is_ended =
    let r = row_of plan base past (events.End who how) in
    elim (cases_eq (pass_of plan who) (egress_pass plan q)) [
      | inl same ↦ ended_here plan base past q r who how known may same
      | inr other ↦
          let still : has_ended base (egress_pass plan q) past ≡ true = sym (ap (λ (b : Bool). b || has_ended base (egress_pass plan q) past) (ne_eqb (pass_of plan who) (egress_pass plan q) other)) ∙ is_ended in
          rw (before still) (end_none plan base past q r who how)
    ]

pub closed_empty : (plan : Plan) (base : Base) (past : List Row) (q : ℕ) → IsLegal plan base past → has_port plan q ≡ true → has_ended base (egress_pass plan q) past ≡ true → queue plan base q past ≡ []
closed_empty plan base [] q legal known is_ended = refl
closed_empty plan base (r ∷ past) q legal known is_ended =
    let stands = legal.0 in
    let row_is : r ≡ row_of plan base past stands.0 = stands.2 in
    subst (λ (x : Row). queue plan base q (x ∷ past) ≡ []) (sym row_is)
    (none_next plan base past q stands.0 known stands.1 (closed_empty plan base past q legal.1 known) (subst (λ (x : Row). has_ended base (egress_pass plan q) (x ∷ past) ≡ true) row_is is_ended))

-- where something waits the egress is open
pub waits_open : (plan : Plan) (base : Base) (past : List Row) (q : ℕ) → IsLegal plan base past → has_port plan q ≡ true → 0 < length (queue plan base q past) → has_ended base (egress_pass plan q) past ≡ false
waits_open plan base past q legal known some =
    elim (cases_Bool (has_ended base (egress_pass plan q) past)) [
      | inr still ↦ still
      | inl is_ended ↦ absurd (omega (arith, some, ap (λ (l : List Item). length l) (closed_empty plan base past q legal known is_ended)))
    ]
