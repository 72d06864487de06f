-- What a core keeps of addresses and requests, after one more row.
use Rattle.std.proofs.Common.{◌≡◌, ℕ, ◌+◌, ◌<◌, ◌≤◌, ◌*◌, All, mul-suc, add_comm, mul-le-mul, List, [], ◌∷◌, ◌++◌, length, Option, Some, None, map, refl, sym, ap, subst, ◌∙◌, arith, length-append}
use Rattle.std.specs.Prelude.{reverse}
use Rattle.std.proofs.lemmas.List.{length-map}
use Rattle.std.proofs.lemmas.List.Elements.{All-head}
use Rattle.savi_kinds.specs.declared.plan.Plan.{Plan}
use Rattle.savi_kinds.specs.declared.port.Port.{Port}
use Rattle.savi_kinds.specs.Ports.{number_of}
use Rattle.savi_kinds.specs.Vlans.{vlans_of}
use Rattle.savi_kinds.proofs.VlanSets.{some_vlan}
use Rattle.savi_kinds.specs.declared.entry.Entry.{Entry}
use Rattle.savi_kinds.specs.declared.entry.Who.{Who}
use Rattle.savi_kinds.specs.declared.entry.How.{How}
use Rattle.savi_kinds.specs.declared.entry.Act.TheVariants as acts
use Rattle.savi_access.specs.declared.sent.SentProbe.{SentProbe}
use Rattle.savi_access.specs.Sends.{all_sends}
use Rattle.savi_access.specs.Bases.{AddrRules, AddrBase}
use Rattle.savi_access.specs.NamedMarks.{Named}
use Rattle.savi_access.specs.Tables.{rows_after, rows_at}
use Rattle.savi_access.specs.Probes.{probes_between}
use Rattle.savi_access.specs.Limits.{IsAddrBase}
use Rattle.savi_access.proofs.StatesKept.{base_times}
use Rattle.savi_access.proofs.Orders.{order-length}
use Rattle.savi_access.proofs.AllSends.{few_sends, sends-late}
use Rattle.savi_access.proofs.RowCounts.{few_rows}
use Rattle.savi_access.specs.Marks.{told}
use Rattle.savi_access.specs.Plans.{rules_of}
use Rattle.savi_access.proofs.States.{told_past, told_before}
use Rattle.access_table.specs.Kept.{Kept as Table, Represents, IsAgedTo}
use Rattle.hist_store.specs.Rows.{Row}
use Rattle.checkpoint.specs.Bases.{Base, access_of}
use Rattle.savi_history.specs.Vlans.{vlan_of_frame}
use Rattle.savi_segments.proofs.MergedLengths.{merged_length}
use Rattle.savi_history.specs.Merges.{merged}
use Rattle.savi_history.specs.Moments.{last_moment, moment_at}
use Rattle.cli_lang.specs.CommandOf.{command_of}
use Rattle.savi_history.specs.Commands.{commanded}
use Rattle.savi_history.specs.Marks.{marks}
use Rattle.savi_history.specs.Judged.{judged_of}
use Rattle.savi_history.specs.Offers.{Offer, due_by, due_in, in_answer, offer_of, offers}
use Rattle.savi_history.specs.Events as events
use Rattle.savi_history.specs.Events.{Event, row_of}
use Rattle.savi_core.specs.Remembers.{CoreState, Remembers}
use Rattle.savi_core.specs.declared.vlan_set.VlanSet.{VlanSet}
use Rattle.savi_core.specs.Tells.{Tells, TellOfAll}
use Rattle.savi_core.proofs.Remembering.{reverse_push}
use Rattle.savi_core.proofs.Stepping.{row}

-- probes of an entry, as they are offered
pub frame_offers : (plan : Plan) (base : Base) (past : List Row) (port : Port) (stamp at len : ℕ) (octets : List ℕ)
    → due_by plan base past (moment_at base past stamp) ++ in_answer (vlan_of_frame plan (number_of port) octets) (judged_of plan base past port stamp octets).probe ≡ offers plan base past (acts.Frame port stamp at len) octets
unfolding offers
frame_offers plan base past port stamp at len octets = refl

pub long_offers : (plan : Plan) (base : Base) (past : List Row) (port : Port) (stamp len : ℕ) (octets : List ℕ) → due_by plan base past (moment_at base past stamp) ≡ offers plan base past (acts.Long port stamp len) octets
unfolding offers
long_offers plan base past port stamp len octets = refl

pub tick_offers : (plan : Plan) (base : Base) (past : List Row) (stamp : ℕ) (octets : List ℕ) → due_by plan base past (moment_at base past stamp) ≡ offers plan base past (acts.Tick stamp) octets
unfolding offers
tick_offers plan base past stamp octets = refl

pub command_offers : (plan : Plan) (base : Base) (past : List Row) (stamp at len : ℕ) (octets : List ℕ) → due_by plan base past (moment_at base past stamp) ≡ offers plan base past (acts.Command stamp at len) octets
unfolding offers
command_offers plan base past stamp at len octets = refl

-- there are few of them
pub few_between : (r : AddrRules) (base : AddrBase) (past : List Named) (from t vlan : ℕ) → IsAddrBase r base → from ≤ t → length (probes_between r base past from t vlan) ≤ 3 * length (rows_at r base past from vlan)
few_between r base past from t vlan is after =
    let rows = rows_at r base past from vlan in
    let same : length (probes_between r base past from t vlan) ≡ length (all_sends r.times t rows) = ap length (sends-late r.times (base_times r base is) from t (rows_after r base past vlan) after) ∙ order-length (all_sends r.times t rows) in
    omega (arith, same, few_sends r.times (base_times r base is) t rows)

pub one_answer : (vlan : Option ℕ) (o : Option SentProbe) → length (in_answer vlan o) ≤ 1
one_answer None None = omega arith
one_answer None (Some sent) = omega arith
one_answer (Some v) None = omega arith
one_answer (Some v) (Some sent) = omega arith

-- how long lists are as one, where each is short
few_merged : {A : Type 0} (at : A → ℕ) (most : ℕ) (of : ℕ → List A) → ((v : ℕ) → length (of v) ≤ most) → (vs : List ℕ) → length (merged at (map of vs)) ≤ most * length vs
few_merged at most of few [] = omega arith
few_merged at most of few (v ∷ vs) =
    let one_more : most * length (v ∷ vs) ≡ most + most * length vs = mul-suc most (length vs) ∙ add_comm (most * length vs) most in
    omega (arith, merged_length at (of v) (merged at (map of vs)), few v, few_merged at most of few vs, one_more)

-- one of the sets: a plan has a VLAN at least
pub first_of : {P : VlanSet → Type 0} (sets : List VlanSet) → 1 ≤ length sets → All P sets → (set : VlanSet) × P set
first_of [] some all = absurd (omega (arith, some))
first_of {P} (set ∷ sets) some all = (set, All-head P set sets all)

-- what is kept of a VLAN stands for the last moment of the history
module _ {k : CoreState} (was : Remembers k) (table : Table) (tells : Tells k.plan k.base (reverse k.rows) k.moment table) where
  pub states_now : Represents (rules_of k.plan) (access_of k.base) (marks k.plan k.base (reverse k.rows)) (last_moment k.base (reverse k.rows)) table
  states_now = subst (λ (t : ℕ). Represents (rules_of k.plan) (access_of k.base) (marks k.plan k.base (reverse k.rows)) t table) was.last tells.states

  pub ready_now : IsAgedTo (rules_of k.plan) (last_moment k.base (reverse k.rows)) table
  ready_now = subst (λ (t : ℕ). IsAgedTo (rules_of k.plan) t table) was.last tells.ready

module _ {k : CoreState} (was : Remembers k) (sets : List VlanSet) (tells : TellOfAll k.plan k.base (reverse k.rows) k.moment sets) where
  few_in : (moment vlan : ℕ) → last_moment k.base (reverse k.rows) ≤ moment → length (map (offer_of vlan) (due_in k.plan k.base (reverse k.rows) moment vlan)) ≤ 48 * k.plan.per_port
  few_in moment vlan later =
      let all = marks k.plan k.base (reverse k.rows) in
      let r = rules_of k.plan in
      let base = access_of k.base in
      let from = last_moment k.base (reverse k.rows) in
      let some : 1 ≤ length sets = omega (arith, ap length tells.vlans, length-map sets (λ (set : VlanSet). set.access.vlan), some_vlan k.plan.ports was.valid.port_count.0 was.valid.port_vlans) in
      let one : (set : VlanSet) × Tells k.plan k.base (reverse k.rows) k.moment set.access = first_of sets some tells.tell in
      let now = states_now was one.0.access one.1 in
      omega (
        arith,
        length-map (due_in k.plan k.base (reverse k.rows) moment vlan) (offer_of vlan),
        few_between r.addresses base.addresses (told all) from moment vlan now.base_is.addresses later,
        few_rows r.addresses base.addresses (told all) from vlan now.base_is.addresses (told_past r base all now.marks) (told_before r base all from now.marks now.last),
      )

  pub few_due : (moment : ℕ) → last_moment k.base (reverse k.rows) ≤ moment → length (due_by k.plan k.base (reverse k.rows) moment) ≤ 48 * k.plan.per_port * length (vlans_of k.plan)
  few_due moment later =
      few_merged (λ (offer : Offer). offer.due) (48 * k.plan.per_port) (λ vlan. map (offer_of vlan) (due_in k.plan k.base (reverse k.rows) moment vlan)) (λ vlan. few_in moment vlan later) (vlans_of k.plan)

  few_at_all : (moment : ℕ) → last_moment k.base (reverse k.rows) ≤ moment → length (due_by k.plan k.base (reverse k.rows) moment) < 268435455
  few_at_all moment later =
      let low : 48 * k.plan.per_port ≤ 48 * 64 = omega (arith, was.valid.per_port.1) in
      let all : 48 * k.plan.per_port * length (vlans_of k.plan) ≤ 48 * 64 * 8 = mul-le-mul low was.valid.vlan_count in
      omega (arith, few_due moment later, all)

  pub few_due_by : (moment : ℕ) → last_moment k.base (reverse k.rows) ≤ moment → length (due_by k.plan k.base (reverse k.rows) moment) < 268435456
  few_due_by moment later = omega (arith, few_at_all moment later)

  pub few_frame : (moment : ℕ) (vlan : Option ℕ) (o : Option SentProbe) → last_moment k.base (reverse k.rows) ≤ moment → length (due_by k.plan k.base (reverse k.rows) moment ++ in_answer vlan o) < 268435456
  few_frame moment vlan o later =
      omega (
        arith,
        few_at_all moment later,
        one_answer vlan o,
        length-append (due_by k.plan k.base (reverse k.rows) moment) (in_answer vlan o),
      )

module _ {k : CoreState} (was : Remembers k) where
  abbrev TellsThen : List ℕ → Table → Entry → Type 0
  TellsThen octets table' e = Tells k.plan k.base (row e octets ∷ reverse k.rows) e.moment table'

  behind : (octets : List ℕ) (table' : Table) (event : Event) (e : Entry) → e ≡ (row_of k.plan k.base (reverse k.rows) event).entry → TellsThen octets table' (row_of k.plan k.base (reverse k.rows) event).entry → Tells k.plan k.base (reverse (k.rows ++ row e octets ∷ [])) e.moment table'
  behind octets table' event e e_is then = rw (reverse_push k.rows (row e octets)) (subst (TellsThen octets table') (sym e_is) then)

  pub tells_long : (port : Port) (stamp len : ℕ) (e : Entry) (table' : Table) → e ≡ (row_of k.plan k.base (reverse k.rows) (events.Long port stamp len)).entry
      → Represents (rules_of k.plan) (access_of k.base) (marks k.plan k.base (reverse k.rows)) (moment_at k.base (reverse k.rows) stamp) table' → IsAgedTo (rules_of k.plan) (moment_at k.base (reverse k.rows) stamp) table'
      → Tells k.plan k.base (reverse (k.rows ++ row e [] ∷ [])) e.moment table'
  tells_long port stamp len e table' e_is states ready = behind [] table' (events.Long port stamp len) e e_is (record { states = states; ready = ready })

  pub tells_command : (stamp : ℕ) (line : List ℕ) (e : Entry) (table' : Table) → e ≡ (row_of k.plan k.base (reverse k.rows) (events.Command stamp line)).entry
      → Represents (rules_of k.plan) (access_of k.base) (commanded k.plan (access_of k.base) (moment_at k.base (reverse k.rows) stamp) (command_of line) (marks k.plan k.base (reverse k.rows))) (moment_at k.base (reverse k.rows) stamp) table' → IsAgedTo (rules_of k.plan) (moment_at k.base (reverse k.rows) stamp) table'
      → Tells k.plan k.base (reverse (k.rows ++ row e line ∷ [])) e.moment table'
  tells_command stamp line e table' e_is states ready = behind line table' (events.Command stamp line) e e_is (record { states = states; ready = ready })

  pub tells_tick : (stamp : ℕ) (e : Entry) (table' : Table) → e ≡ (row_of k.plan k.base (reverse k.rows) (events.Tick stamp)).entry
      → Represents (rules_of k.plan) (access_of k.base) (marks k.plan k.base (reverse k.rows)) (moment_at k.base (reverse k.rows) stamp) table' → IsAgedTo (rules_of k.plan) (moment_at k.base (reverse k.rows) stamp) table'
      → Tells k.plan k.base (reverse (k.rows ++ row e [] ∷ [])) e.moment table'
  tells_tick stamp e table' e_is states ready = behind [] table' (events.Tick stamp) e e_is (record { states = states; ready = ready })

  pub tells_frame : (port : Port) (stamp : ℕ) (octets : List ℕ) (e : Entry) (table' : Table) → e ≡ (row_of k.plan k.base (reverse k.rows) (events.Frame port stamp octets)).entry
      → Represents (rules_of k.plan) (access_of k.base) (judged_of k.plan k.base (reverse k.rows) port stamp octets).marks (moment_at k.base (reverse k.rows) stamp) table' → IsAgedTo (rules_of k.plan) (moment_at k.base (reverse k.rows) stamp) table'
      → Tells k.plan k.base (reverse (k.rows ++ row e octets ∷ [])) e.moment table'
  tells_frame port stamp octets e table' e_is states ready = behind octets table' (events.Frame port stamp octets) e e_is (record { states = states; ready = ready })

-- an entry with which no time passes

module _ {k : CoreState} (was : Remembers k) (table : Table) (tells : Tells k.plan k.base (reverse k.rows) k.moment table) where
  pub tells_drain : (port : Port) (count : ℕ) (e : Entry) → e ≡ (row_of k.plan k.base (reverse k.rows) (events.Drain port count)).entry → Tells k.plan k.base (reverse (k.rows ++ row e [] ∷ [])) e.moment table
  tells_drain port count e e_is = behind was [] table (events.Drain port count) e e_is (record { states = states_now was table tells; ready = ready_now was table tells })

  pub tells_end : (who : Who) (how : How) (e : Entry) → e ≡ (row_of k.plan k.base (reverse k.rows) (events.End who how)).entry → Tells k.plan k.base (reverse (k.rows ++ row e [] ∷ [])) e.moment table
  tells_end who how e e_is = behind was [] table (events.End who how) e e_is (record { states = states_now was table tells; ready = ready_now was table tells })
