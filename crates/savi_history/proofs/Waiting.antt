-- What an entry does to what waits, to what was sent and to what has ended.
use Rattle.std.proofs.Common.{◌≡◌, ◌≢◌, ℕ, suc, zero, ◌<◌, ◌≤◌, ◌==◌, Bool, true, false, List, [], ◌∷◌, ◌++◌, take, drop, get_or, length, refl, ap, sym, ◌∙◌, arith, if◌then◌else◌, append-nil}
use Rattle.std.proofs.lemmas.Bool.Decides.{nat_tests}
use Rattle.std.proofs.lemmas.List.{drop_all, take_all, nil_from_length, length-drop}
use Rattle.savi_kinds.specs.declared.port.Port.{Port}
use Rattle.savi_kinds.specs.declared.plan.Plan.{Plan}
use Rattle.savi_kinds.specs.declared.plan.PortPlan.{PortPlan}
use Rattle.savi_kinds.specs.declared.entry.Who.{Who}
use Rattle.savi_kinds.specs.declared.entry.Who.TheVariants as passes
use Rattle.savi_kinds.specs.declared.entry.How.{How}
use Rattle.savi_kinds.specs.declared.entry.How.TheVariants as hows
use Rattle.savi_kinds.specs.Ports.{number_of}
use Rattle.savi_kinds.specs.ValidPlan.{numbers_of}
use Rattle.savi_kinds.specs.Arrivals.{Arrival}
use Rattle.savi_kinds.specs.Arrivals as arrivals
use Rattle.hist_store.specs.Rows.{Row}
use Rattle.checkpoint.specs.Bases.{Base}
use Rattle.savi_history.specs.Passes.{pass_of, has_ended, ticker_pass}
use Rattle.savi_history.specs.Queues.{Item, queue, sent}
use Rattle.savi_history.specs.Events.{Drain, End}
use Rattle.savi_history.specs.Replay.{PortStops, is_stopped, pieces_by, event_of, with_event, with_failure, begun, with_drain, drained}

-- ends

pub ended_arrival : (plan : Plan) (base : Base) (past : List Row) (port : Port) (arrival : Arrival) (pass : ℕ) → has_ended base pass (with_event plan base past (event_of port arrival)) ≡ has_ended base pass past
ended_arrival plan base past port (arrivals.Frame stamp octets) pass = refl
ended_arrival plan base past port (arrivals.Long stamp len) pass = refl

pub ended_now : (plan : Plan) (base : Base) (past : List Row) (who : Who) (how : How) → has_ended base (pass_of plan who) (with_event plan base past (End who how)) ≡ true
ended_now plan base past who how = let same : (pass_of plan who == pass_of plan who) ≡ true = grind (arith, nat_tests) in rw same refl

pub ended_other : (plan : Plan) (base : Base) (past : List Row) (who : Who) (how : How) (pass : ℕ) → pass_of plan who ≢ pass → has_ended base pass (with_event plan base past (End who how)) ≡ has_ended base pass past
ended_other plan base past who how pass other = let apart : (pass_of plan who == pass) ≡ false = grind (arith, nat_tests) in rw apart refl

ended_failure_at : (plan : Plan) (base : Base) (past : List Row) (port : Port) (pass : ℕ) (b : Bool) → pass_of plan (passes.Egress port) ≢ pass → has_ended base pass (if b then with_event plan base past (End (passes.Egress port) hows.Failed) else past) ≡ has_ended base pass past
ended_failure_at plan base past port pass true other = ended_other plan base past (passes.Egress port) hows.Failed pass other
ended_failure_at plan base past port pass false other = refl

-- a failed write ends no other pass
pub ended_failure : (plan : Plan) (base : Base) (stops : PortStops) (past : List Row) (port : Port) (pass : ℕ) → pass_of plan (passes.Egress port) ≢ pass → has_ended base pass (with_failure plan base stops port past) ≡ has_ended base pass past
ended_failure plan base stops past port pass other = ended_failure_at plan base past port pass (is_stopped (stops (number_of port)) (pieces_by plan base (number_of port) past)) other

ended_drain_at : (plan : Plan) (base : Base) (stops : PortStops) (past : List Row) (port : Port) (count pass : ℕ) (b : Bool) → pass_of plan (passes.Egress port) ≢ pass → has_ended base pass (if b then past else with_failure plan base stops port (with_event plan base past (Drain port count))) ≡ has_ended base pass past
ended_drain_at plan base stops past port count pass true other = refl
ended_drain_at plan base stops past port count pass false other = ended_failure plan base stops (with_event plan base past (Drain port count)) port pass other

pub ended_drain : (plan : Plan) (base : Base) (stops : PortStops) (past : List Row) (port : Port) (count pass : ℕ) → pass_of plan (passes.Egress port) ≢ pass → has_ended base pass (with_drain plan base stops port count past) ≡ has_ended base pass past
ended_drain plan base stops past port count pass other = ended_drain_at plan base stops past port count pass (count == 0) other

-- drains end no pass but those of outputs
pub ended_drained : (plan : Plan) (base : Base) (stops : PortStops) (ports : List PortPlan) (past : List Row) (pass : ℕ) → pass ≤ ticker_pass plan → has_ended base pass (drained plan base stops ports past) ≡ has_ended base pass past
ended_drained plan base stops [] past pass low = refl
ended_drained plan base stops (q ∷ qs) past pass low =
    let count = length (queue plan base (number_of q.number) past) in
    ended_drained plan base stops qs (with_drain plan base stops q.number count past) pass low ∙ ended_drain plan base stops past q.number count pass (λ same. absurd (omega arith))

-- nor do the beginnings of outputs
pub ended_begun : (plan : Plan) (base : Base) (stops : PortStops) (ports : List PortPlan) (past : List Row) (pass : ℕ) → pass ≤ ticker_pass plan → has_ended base pass (begun plan base stops ports past) ≡ has_ended base pass past
ended_begun plan base stops [] past pass low = refl
ended_begun plan base stops (q ∷ qs) past pass low =
    ended_begun plan base stops qs (with_failure plan base stops q.number past) pass low ∙ ended_failure plan base stops past q.number pass (λ same. absurd (omega arith))

-- what waits

abbrev no_items : List Item
no_items = []

drop_none : (n : ℕ) → drop n no_items ≡ []
drop_none zero = refl
drop_none (suc n) = refl

empty_failed : (b : Bool) → (if b then no_items else no_items) ≡ []
empty_failed true = refl
empty_failed false = refl

pub empty_end : (plan : Plan) (base : Base) (past : List Row) (who : Who) (how : How) (q : ℕ) → queue plan base q past ≡ [] → queue plan base q (with_event plan base past (End who how)) ≡ []
empty_end plan base past (passes.Ingress p) how q is = is
empty_end plan base past passes.Control how q is = is
empty_end plan base past passes.Ticker how q is = is
empty_end plan base past (passes.Egress p) hows.End q is = is
empty_end plan base past (passes.Egress p) hows.Quit q is = is
empty_end plan base past (passes.Egress p) (hows.Malformed at) q is = is
empty_end plan base past (passes.Egress p) (hows.Overlong at) q is = is
empty_end plan base past (passes.Egress p) hows.Failed q is = rw is (empty_failed (number_of p == q))
empty_end plan base past (passes.Egress p) hows.Unwritten q is = is
empty_end plan base past (passes.Egress p) hows.Paused q is = is

empty_failure_at : (plan : Plan) (base : Base) (past : List Row) (port : Port) (q : ℕ) (b : Bool) → queue plan base q past ≡ [] → queue plan base q (if b then with_event plan base past (End (passes.Egress port) hows.Failed) else past) ≡ []
empty_failure_at plan base past port q true is = empty_end plan base past (passes.Egress port) hows.Failed q is
empty_failure_at plan base past port q false is = is

pub empty_failure : (plan : Plan) (base : Base) (stops : PortStops) (past : List Row) (port : Port) (q : ℕ) → queue plan base q past ≡ [] → queue plan base q (with_failure plan base stops port past) ≡ []
empty_failure plan base stops past port q is = empty_failure_at plan base past port q (is_stopped (stops (number_of port)) (pieces_by plan base (number_of port) past)) is

pub empty_begun : (plan : Plan) (base : Base) (stops : PortStops) (ports : List PortPlan) (past : List Row) (q : ℕ) → queue plan base q past ≡ [] → queue plan base q (begun plan base stops ports past) ≡ []
empty_begun plan base stops [] past q is = is
empty_begun plan base stops (p ∷ ps) past q is = empty_begun plan base stops ps (with_failure plan base stops p.number past) q (empty_failure plan base stops past p.number q is)

empty_drop : (b : Bool) (count : ℕ) → (if b then drop count no_items else []) ≡ []
empty_drop true count = drop_none count
empty_drop false count = refl

empty_drain_at : (plan : Plan) (base : Base) (stops : PortStops) (past : List Row) (port : Port) (count q : ℕ) (b : Bool) → queue plan base q past ≡ [] → queue plan base q (if b then past else with_failure plan base stops port (with_event plan base past (Drain port count))) ≡ []
empty_drain_at plan base stops past port count q true is = is
empty_drain_at plan base stops past port count q false is =
    empty_failure plan base stops (with_event plan base past (Drain port count)) port q (rw is (empty_drop (number_of port == q) count))

pub empty_drain : (plan : Plan) (base : Base) (stops : PortStops) (past : List Row) (port : Port) (count q : ℕ) → queue plan base q past ≡ [] → queue plan base q (with_drain plan base stops port count past) ≡ []
empty_drain plan base stops past port count q is = empty_drain_at plan base stops past port count q (count == 0) is

pub empty_drained : (plan : Plan) (base : Base) (stops : PortStops) (ports : List PortPlan) (past : List Row) (q : ℕ) → queue plan base q past ≡ [] → queue plan base q (drained plan base stops ports past) ≡ []
empty_drained plan base stops [] past q is = is
empty_drained plan base stops (p ∷ ps) past q is =
    let count = length (queue plan base (number_of p.number) past) in
    empty_drained plan base stops ps (with_drain plan base stops p.number count past) q (empty_drain plan base stops past p.number count q is)

no_length : (items : List Item) → (length items == 0) ≡ true → items ≡ []
no_length items is = nil_from_length items (grind (arith, nat_tests))

emptied_at : (plan : Plan) (base : Base) (stops : PortStops) (past : List Row) (port : Port) (items : List Item) (b : Bool) → (length items == 0) ≡ b → queue plan base (number_of port) past ≡ items
    → queue plan base (number_of port) (if b then past else with_failure plan base stops port (with_event plan base past (Drain port (length items)))) ≡ []
emptied_at plan base stops past port items true none is = is ∙ no_length items none
emptied_at plan base stops past port items false none is =
    let same : (number_of port == number_of port) ≡ true = grind (arith, nat_tests) in
    empty_failure plan base stops (with_event plan base past (Drain port (length items))) port (number_of port) (rw (same, is) (drop_all (length items) items (omega arith)))

-- a whole drain leaves nothing
pub emptied : (plan : Plan) (base : Base) (stops : PortStops) (past : List Row) (port : Port) → queue plan base (number_of port) (with_drain plan base stops port (length (queue plan base (number_of port) past)) past) ≡ []
emptied plan base stops past port = let items = queue plan base (number_of port) past in emptied_at plan base stops past port items (length items == 0) refl refl

-- After the drains of a step nothing waits at any port of the plan.
pub drained_empty : (plan : Plan) (base : Base) (stops : PortStops) (ports : List PortPlan) (past : List Row) (k : ℕ) → k < length ports → queue plan base (get_or (numbers_of ports) k 0) (drained plan base stops ports past) ≡ []
drained_empty plan base stops [] past k inside = absurd (omega arith)
drained_empty plan base stops (p ∷ ps) past zero inside =
    let count = length (queue plan base (number_of p.number) past) in
    empty_drained plan base stops ps (with_drain plan base stops p.number count past) (number_of p.number) (emptied plan base stops past p.number)
drained_empty plan base stops (p ∷ ps) past (suc k) inside =
    drained_empty plan base stops ps (with_drain plan base stops p.number (length (queue plan base (number_of p.number) past)) past) k (omega arith)

-- what was sent

pub sent_arrival : (plan : Plan) (base : Base) (past : List Row) (port : Port) (arrival : Arrival) (q : ℕ) → sent plan base q (with_event plan base past (event_of port arrival)) ≡ sent plan base q past
sent_arrival plan base past port (arrivals.Frame stamp octets) q = append-nil (sent plan base q past)
sent_arrival plan base past port (arrivals.Long stamp len) q = append-nil (sent plan base q past)

pub sent_end : (plan : Plan) (base : Base) (past : List Row) (who : Who) (how : How) (q : ℕ) → sent plan base q (with_event plan base past (End who how)) ≡ sent plan base q past
sent_end plan base past who how q = append-nil (sent plan base q past)

sent_failure_at : (plan : Plan) (base : Base) (past : List Row) (port : Port) (q : ℕ) (b : Bool) → sent plan base q (if b then with_event plan base past (End (passes.Egress port) hows.Failed) else past) ≡ sent plan base q past
sent_failure_at plan base past port q true = sent_end plan base past (passes.Egress port) hows.Failed q
sent_failure_at plan base past port q false = refl

pub sent_failure : (plan : Plan) (base : Base) (stops : PortStops) (past : List Row) (port : Port) (q : ℕ) → sent plan base q (with_failure plan base stops port past) ≡ sent plan base q past
sent_failure plan base stops past port q = sent_failure_at plan base past port q (is_stopped (stops (number_of port)) (pieces_by plan base (number_of port) past))

pub sent_begun : (plan : Plan) (base : Base) (stops : PortStops) (ports : List PortPlan) (past : List Row) (q : ℕ) → sent plan base q (begun plan base stops ports past) ≡ sent plan base q past
sent_begun plan base stops [] past q = refl
sent_begun plan base stops (p ∷ ps) past q = sent_begun plan base stops ps (with_failure plan base stops p.number past) q ∙ sent_failure plan base stops past p.number q

-- a drain of the whole queue sends it
pub sent_here : (plan : Plan) (base : Base) (past : List Row) (port : Port) (count : ℕ) → sent plan base (number_of port) (with_event plan base past (Drain port count)) ≡ sent plan base (number_of port) past ++ take count (queue plan base (number_of port) past)
sent_here plan base past port count = let same : (number_of port == number_of port) ≡ true = grind (arith, nat_tests) in rw same refl

pub sent_elsewhere : (plan : Plan) (base : Base) (past : List Row) (port : Port) (count q : ℕ) → number_of port ≢ q → sent plan base q (with_event plan base past (Drain port count)) ≡ sent plan base q past
sent_elsewhere plan base past port count q other =
    let apart : (number_of port == q) ≡ false = grind (arith, nat_tests) in rw apart (append-nil (sent plan base q past))

sent_whole_at : (plan : Plan) (base : Base) (stops : PortStops) (past : List Row) (port : Port) (items : List Item) (b : Bool) → (length items == 0) ≡ b → queue plan base (number_of port) past ≡ items
    → sent plan base (number_of port) (if b then past else with_failure plan base stops port (with_event plan base past (Drain port (length items)))) ≡ sent plan base (number_of port) past ++ items
sent_whole_at plan base stops past port items true none is = sym (append-nil (sent plan base (number_of port) past)) ∙ ap (λ (l : List Item). sent plan base (number_of port) past ++ l) (sym (no_length items none))
sent_whole_at plan base stops past port items false none is =
    sent_failure plan base stops (with_event plan base past (Drain port (length items))) port (number_of port)
    ∙ sent_here plan base past port (length items)
    ∙ ap (λ (l : List Item). sent plan base (number_of port) past ++ take (length items) l) is
    ∙ ap (λ (l : List Item). sent plan base (number_of port) past ++ l) (take_all (length items) items (omega arith))

-- a whole drain sends all that waits
pub sent_whole : (plan : Plan) (base : Base) (stops : PortStops) (past : List Row) (port : Port)
    → sent plan base (number_of port) (with_drain plan base stops port (length (queue plan base (number_of port) past)) past) ≡ sent plan base (number_of port) past ++ queue plan base (number_of port) past
sent_whole plan base stops past port = let items = queue plan base (number_of port) past in sent_whole_at plan base stops past port items (length items == 0) refl refl

sent_other_at : (plan : Plan) (base : Base) (stops : PortStops) (past : List Row) (port : Port) (count q : ℕ) (b : Bool) → number_of port ≢ q → sent plan base q (if b then past else with_failure plan base stops port (with_event plan base past (Drain port count))) ≡ sent plan base q past
sent_other_at plan base stops past port count q true other = refl
sent_other_at plan base stops past port count q false other = sent_failure plan base stops (with_event plan base past (Drain port count)) port q ∙ sent_elsewhere plan base past port count q other

pub sent_other : (plan : Plan) (base : Base) (stops : PortStops) (past : List Row) (port : Port) (count q : ℕ) → number_of port ≢ q → sent plan base q (with_drain plan base stops port count past) ≡ sent plan base q past
sent_other plan base stops past port count q other = sent_other_at plan base stops past port count q (count == 0) other

fewer_items : (b : Bool) (count : ℕ) (items : List Item) → length (if b then drop count items else items) ≤ length items
fewer_items true count items = omega (arith, length-drop count items)
fewer_items false count items = omega arith

fewer_failed : (b : Bool) (items : List Item) → length (if b then no_items else items) ≤ length items
fewer_failed true items = omega arith
fewer_failed false items = omega arith

fewer_failure_at : (plan : Plan) (base : Base) (past : List Row) (port : Port) (q : ℕ) (b : Bool) → length (queue plan base q (if b then with_event plan base past (End (passes.Egress port) hows.Failed) else past)) ≤ length (queue plan base q past)
fewer_failure_at plan base past port q true = fewer_failed (number_of port == q) (queue plan base q past)
fewer_failure_at plan base past port q false = omega arith

pub fewer_failure : (plan : Plan) (base : Base) (stops : PortStops) (past : List Row) (port : Port) (q : ℕ) → length (queue plan base q (with_failure plan base stops port past)) ≤ length (queue plan base q past)
fewer_failure plan base stops past port q = fewer_failure_at plan base past port q (is_stopped (stops (number_of port)) (pieces_by plan base (number_of port) past))

fewer_at : (plan : Plan) (base : Base) (stops : PortStops) (past : List Row) (port : Port) (count q : ℕ) (b : Bool) → length (queue plan base q (if b then past else with_failure plan base stops port (with_event plan base past (Drain port count)))) ≤ length (queue plan base q past)
fewer_at plan base stops past port count q true = omega arith
fewer_at plan base stops past port count q false =
    omega (arith, fewer_failure plan base stops (with_event plan base past (Drain port count)) port q, fewer_items (number_of port == q) count (queue plan base q past))

-- a drain leaves no more than there was
pub fewer : (plan : Plan) (base : Base) (stops : PortStops) (past : List Row) (port : Port) (count q : ℕ) → length (queue plan base q (with_drain plan base stops port count past)) ≤ length (queue plan base q past)
fewer plan base stops past port count q = fewer_at plan base stops past port count q (count == 0)
