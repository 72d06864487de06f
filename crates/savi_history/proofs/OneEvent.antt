-- A line of a legal history tells the event.
use Rattle.std.proofs.Common.{◌≡◌, ℕ, ◌^◌, ◌<◌, List, [], ◌∷◌, decimal, codes, refl, sym, ◌∙◌, arith}
use Rattle.std.proofs.lemmas.Fmt.{decimal_injective}
use Rattle.hex.specs.Hex.{IsBytes}
use Rattle.savi_kinds.specs.declared.plan.Plan.{Plan}
use Rattle.savi_kinds.specs.declared.entry.Entry.{Entry}
use Rattle.savi_kinds.specs.declared.entry.Who.{Who}
use Rattle.savi_kinds.specs.declared.entry.Who.TheVariants as passes
use Rattle.savi_kinds.specs.declared.entry.How.{How}
use Rattle.savi_kinds.specs.declared.entry.How.TheVariants as hows
use Rattle.savi_kinds.specs.Ports.{number_of}
use Rattle.savi_kinds.specs.ValidPlan.{IsValidPlan}
use Rattle.hist_store.specs.Rows.{Row}
use Rattle.hist_store.specs.PortTexts.{port_text, members_text}
use Rattle.hist_store.specs.VerdictTexts.{entry_verdict_text}
use Rattle.hist_store.specs.EndTexts.{who_text, how_fields}
use Rattle.hist_store.specs.LineTexts.{hex_text, line_fields}
use Rattle.checkpoint.specs.Bases.{Base}
use Rattle.savi_history.specs.Events.{Event, Frame, Long, Command, Tick, Drain, End, row_of}
use Rattle.savi_history.specs.Legal.{MayEndIngress, MayEndControl, MayEndTicker, MayEndEgress, MayEnd, MayCome, IsLegal}
use Rattle.hist_store.proofs.OnePort.{first_apart, port_by_text, who_by_text}
use Rattle.savi_history.proofs.Depth.{queue_within}
use Rattle.savi_history.proofs.OneValue.{octets_by_text, how_by_text, IsReason}

-- events

-- the numbers of an event have 64 bits, and its octets are octets
abbrev IsWithin : Event → Type 0
IsWithin (Frame port stamp octets) = (stamp < 2 ^ 64) × IsBytes octets
IsWithin (Long port stamp len) = (stamp < 2 ^ 64) × (len < 2 ^ 64)
IsWithin (Command stamp line) = (stamp < 2 ^ 64) × IsBytes line
IsWithin (Tick stamp) = stamp < 2 ^ 64
IsWithin (Drain port count) = count < 2 ^ 64
IsWithin (End who how) = IsReason how

reason_ingress : (plan : Plan) (past : List Row) (how : How) → MayEndIngress plan past how → IsReason how
reason_ingress plan past hows.End may = tt
reason_ingress plan past hows.Quit may = tt
reason_ingress plan past (hows.Malformed at) may = may
reason_ingress plan past (hows.Overlong at) may = absurd may
reason_ingress plan past hows.Failed may = tt
reason_ingress plan past hows.Unwritten may = tt
reason_ingress plan past hows.Paused may = tt

reason_control : (plan : Plan) (past : List Row) (how : How) → MayEndControl plan past how → IsReason how
reason_control plan past hows.End may = tt
reason_control plan past hows.Quit may = tt
reason_control plan past (hows.Malformed at) may = may
reason_control plan past (hows.Overlong at) may = may
reason_control plan past hows.Failed may = tt
reason_control plan past hows.Unwritten may = tt
reason_control plan past hows.Paused may = tt

reason_ticker : (plan : Plan) (base : Base) (past : List Row) (how : How) → MayEndTicker plan base past how → IsReason how
reason_ticker plan base past hows.End may = tt
reason_ticker plan base past hows.Quit may = tt
reason_ticker plan base past (hows.Malformed at) may = absurd may
reason_ticker plan base past (hows.Overlong at) may = absurd may
reason_ticker plan base past hows.Failed may = tt
reason_ticker plan base past hows.Unwritten may = tt
reason_ticker plan base past hows.Paused may = tt

reason_egress : (plan : Plan) (base : Base) (past : List Row) (q : ℕ) (how : How) → MayEndEgress plan base past q how → IsReason how
reason_egress plan base past q hows.End may = tt
reason_egress plan base past q hows.Quit may = tt
reason_egress plan base past q (hows.Malformed at) may = absurd may
reason_egress plan base past q (hows.Overlong at) may = absurd may
reason_egress plan base past q hows.Failed may = tt
reason_egress plan base past q hows.Unwritten may = tt
reason_egress plan base past q hows.Paused may = tt

reason : (plan : Plan) (base : Base) (past : List Row) (who : Who) (how : How) → MayEnd plan base past who how → IsReason how
reason plan base past (passes.Ingress p) how may = reason_ingress plan past how may
reason plan base past passes.Control how may = reason_control plan past how may
reason plan base past passes.Ticker how may = reason_ticker plan base past how may
reason plan base past (passes.Egress p) how may = reason_egress plan base past (number_of p) how may

within : (plan : Plan) (base : Base) (past : List Row) (event : Event) → IsValidPlan plan → IsLegal plan base past → MayCome plan base past event
    → IsBytes (row_of plan base past event).octets → IsWithin event
within plan base past (Frame port stamp octets) valid legal may bytes = (may.0.fits, bytes)
within plan base past (Long port stamp len) valid legal may bytes = let small = may.2 in (may.0.fits, omega (arith, small))
within plan base past (Command stamp line) valid legal may bytes = (may.0.fits, bytes)
within plan base past (Tick stamp) valid legal may bytes = may.fits
within plan base past (Drain port count) valid legal may bytes =
    let few = queue_within plan base (number_of port) past in
    let low = may.2 in
    let depth = valid.depth.1 in
    omega (arith, few, low, depth)
within plan base past (End who how) valid legal may bytes = reason plan base past who how may.1

-- the fields of an event's line, behind its number, its pass and its moment: the texts of the verdict and the sets of
-- ports and the counts of probes are given
record Computed : Type 0 where
  verdict : List ℕ
  outs : List ℕ
  cuts : List ℕ
  probes : List ℕ
  lost : List ℕ

abbrev event_fields : Computed → Event → List (List ℕ)
event_fields c (Frame port stamp octets) = codes "F" ∷ port_text port ∷ decimal stamp ∷ hex_text octets ∷ c.verdict ∷ c.outs ∷ c.cuts ∷ c.probes ∷ c.lost ∷ []
event_fields c (Long port stamp len) = codes "L" ∷ port_text port ∷ decimal stamp ∷ decimal len ∷ c.verdict ∷ c.probes ∷ c.lost ∷ []
event_fields c (Command stamp line) = codes "C" ∷ decimal stamp ∷ hex_text line ∷ c.probes ∷ c.lost ∷ []
event_fields c (Tick stamp) = codes "T" ∷ decimal stamp ∷ c.probes ∷ c.lost ∷ []
event_fields c (Drain port count) = codes "D" ∷ port_text port ∷ decimal count ∷ []
event_fields c (End who how) = codes "E" ∷ who_text who ∷ how_fields how

-- those of an entry
abbrev computed : Entry → Computed
computed e = record {
  verdict = entry_verdict_text e.verdict;
  outs = members_text e.outs;
  cuts = members_text e.cuts;
  probes = decimal e.probes;
  lost = decimal e.lost;
}

abbrev line_of : ℕ → Row → Event → List (List ℕ)
line_of n r event = decimal n ∷ decimal r.entry.by ∷ decimal r.entry.moment ∷ event_fields (computed r.entry) event

fields_of_row : (n : ℕ) (plan : Plan) (base : Base) (past : List Row) (event : Event) → line_fields n (row_of plan base past event) ≡ line_of n (row_of plan base past event) event
fields_of_row n plan base past (Frame port stamp octets) = refl
fields_of_row n plan base past (Long port stamp len) = refl
fields_of_row n plan base past (Command stamp line) = refl
fields_of_row n plan base past (Tick stamp) = refl
fields_of_row n plan base past (Drain port count) = refl
fields_of_row n plan base past (End who how) = refl

second : {s t : List ℕ} {l m : List (List ℕ)} → s ∷ l ≡ t ∷ m → l ≡ m
second e = cc

first : {s t : List ℕ} {l m : List (List ℕ)} → s ∷ l ≡ t ∷ m → s ≡ t
first e = cc

event_same : (c c' : Computed) (a b : Event) → IsWithin a → IsWithin b → event_fields c a ≡ event_fields c' b → a ≡ b
event_same c c' (Frame p s xs) (Frame q t ys) fits fits' e =
    let port = port_by_text p q (first (second e)) in
    let stamp = decimal_injective s t fits.0 fits'.0 (first (second (second e))) in
    let octets = octets_by_text xs ys fits.1 fits'.1 (first (second (second (second e)))) in
    cc (port, stamp, octets)
event_same c c' (Long p s m) (Long q t n) fits fits' e =
    let port = port_by_text p q (first (second e)) in
    let stamp = decimal_injective s t fits.0 fits'.0 (first (second (second e))) in
    let len = decimal_injective m n fits.1 fits'.1 (first (second (second (second e)))) in
    cc (port, stamp, len)
event_same c c' (Command s xs) (Command t ys) fits fits' e =
    let stamp = decimal_injective s t fits.0 fits'.0 (first (second e)) in
    let line = octets_by_text xs ys fits.1 fits'.1 (first (second (second e))) in
    cc (stamp, line)
event_same c c' (Tick s) (Tick t) fits fits' e =
    let stamp = decimal_injective s t fits fits' (first (second e)) in
    cc stamp
event_same c c' (Drain p m) (Drain q n) fits fits' e =
    let port = port_by_text p q (first (second e)) in
    let count = decimal_injective m n fits fits' (first (second (second e))) in
    cc (port, count)
event_same c c' (End w h) (End w' h') fits fits' e =
    let who = who_by_text w w' (first (second e)) in
    let how = how_by_text h h' fits fits' (second (second e)) in
    cc (who, how)
event_same c c' a b fits fits' e = absurd (first_apart (first e) refl)

-- two events with the same line, after the same past
pub event_by_line : (plan plan' : Plan) (base : Base) (past : List Row) (n n' : ℕ) (a b : Event) → IsValidPlan plan → IsValidPlan plan' → IsLegal plan base past → IsLegal plan' base past
    → MayCome plan base past a → MayCome plan' base past b → IsBytes (row_of plan base past a).octets → IsBytes (row_of plan' base past b).octets
    → line_fields n (row_of plan base past a) ≡ line_fields n' (row_of plan' base past b) → a ≡ b
event_by_line plan plan' base past n n' a b valid valid' legal legal' may may' bytes bytes' e =
    let r = (row_of plan base past a).entry in
    let r' = (row_of plan' base past b).entry in
    let lines = sym (fields_of_row n plan base past a) ∙ e ∙ fields_of_row n' plan' base past b in
    event_same (computed r) (computed r') a b
    (within plan base past a valid legal may bytes) (within plan' base past b valid' legal' may' bytes') (second (second (second lines)))
