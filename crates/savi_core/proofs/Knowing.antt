-- The stations that a core keeps of each VLAN, after one more row.
use Rattle.std.proofs.Common.{◌≡◌, ℕ, zero, suc, ◌<◌, ◌≤◌, ◌==◌, ◌&&◌, Bool, if◌then◌else◌, true, false, List, [], ◌∷◌, ◌++◌, length, map, get_or, All, Option, Some, None, IfSome, refl, sym, ap, subst, ◌∙◌, inl, inr, arith}
use Rattle.std.specs.Prelude.{reverse}
use Rattle.std.proofs.lemmas.Bool.{ltb-true, lt-ltb, cases_eq, eq-eqb, ne_eqb}
use Rattle.std.proofs.lemmas.List.{length-map, get_or-map}
use Rattle.std.proofs.lemmas.List.Elements.{All-cons, All-head, All-map, All-nil, All-tail, All-weaker}
use Rattle.savi_kinds.specs.declared.plan.Plan.{Plan}
use Rattle.savi_kinds.specs.declared.port.Port.{Port}
use Rattle.savi_kinds.specs.declared.port.PortSet.{PortSet}
use Rattle.savi_kinds.specs.declared.entry.Act.{Act}
use Rattle.savi_kinds.specs.declared.entry.Entry.{Entry}
use Rattle.savi_kinds.specs.declared.entry.Who.{Who}
use Rattle.savi_kinds.specs.declared.entry.How.{How}
use Rattle.savi_kinds.specs.declared.verdict.Verdict.{Verdict}
use Rattle.savi_kinds.specs.Ports.{number_of}
use Rattle.savi_kinds.specs.PortSets.{is_member, set_of}
use Rattle.savi_kinds.specs.Vlans.{vlans_of}
use Rattle.savi_kinds.proofs.Filters.{filter-wider}
use Rattle.savi_kinds.proofs.VlanSets.{vlans_rise}
use Rattle.eth_frame.specs.declared.header.Eth.{Eth}
use Rattle.eth_frame.specs.Tags.{inner}
use Rattle.frame_class.specs.declared.classes.Class.{Class}
use Rattle.frame_class.specs.Reading.{IsClassOf}
use Rattle.frame_class.specs.Classes.{eth_of}
use Rattle.bridge_fdb.specs.declared.station.Station.{Station}
use Rattle.bridge_fdb.specs.Stations.{live_at, is_live, station_end}
use Rattle.hist_store.specs.Rows.{Row}
use Rattle.checkpoint.specs.Bases.{Base}
use Rattle.savi_history.specs.Vlans.{is_vlan, vlan_of_frame}
use Rattle.savi_history.specs.Summary.{is_pass}
use Rattle.savi_history.specs.Stations.{stations, after_entry, taught, teaches, port_among, known_port}
use Rattle.savi_history.specs.Outs.{directed}
use Rattle.savi_history.specs.Events as events
use Rattle.savi_history.specs.Events.{Event, row_of}
use Rattle.savi_history.proofs.Teaching.{row_moment, last_small}
use Rattle.savi_history.proofs.Individuals.{eth_is}
use Rattle.savi_history.proofs.Directing.{AreNumbers, member_filter}
use Rattle.savi_core.specs.declared.vlan_set.VlanSet.{VlanSet}
use Rattle.savi_core.specs.VlanSets.{vlans_of_sets, vlan_at_place, vlan_of_place, fdb_at, stations_of_sets}
use Rattle.savi_core.specs.Origins.{known_at, teaches_at}
use Rattle.savi_core.specs.Knows.{Knows}
use Rattle.savi_core.specs.Remembers.{CoreState, Remembers}
use Rattle.savi_core.proofs.Members.{same_members}
use Rattle.savi_core.proofs.Places.{apart}
use Rattle.savi_core.proofs.Remembering.{reverse_push}
use Rattle.savi_core.proofs.Stepping.{row}

-- a set of ports, and the one of them at which a destination is known

pub only_is : (set alone : PortSet) (port : Port) (numbers : List ℕ) → ((n : ℕ) → 1 ≤ n → is_member alone n ≡ (is_member set n && (n == number_of port))) → AreNumbers numbers → set ≡ set_of numbers → alone ≡ set_of (directed (Some port) numbers)
only_is set alone port numbers members low is =
    same_members alone (set_of (directed (Some port) numbers))
    (λ n least. members n least
    ∙ ap (λ (s : PortSet). is_member s n && (n == number_of port)) is
    ∙ sym (member_filter (λ m. m == number_of port) numbers n low least))

-- what is live later

earlier : (t u : ℕ) → t ≤ u → (s : Station) → is_live u s ≡ true → is_live t s ≡ true
earlier t u later s is = lt-ltb t (station_end s) (omega (arith, later, ltb-true u (station_end s) is))

pub live_later : (kept of : List Station) (moment later : ℕ) → moment ≤ later → live_at moment kept ≡ of → live_at later kept ≡ live_at later of
live_later kept of moment later order knows =
    sym (filter-wider (is_live moment) (is_live later) (earlier moment later order) kept) ∙ ap (live_at later) knows

-- what is known by the VLAN and the stations of each set alone

abbrev KnowsBy : Plan → Base → List Row → ℕ → ℕ × List Station → Type 0
KnowsBy plan base past moment p = live_at moment p.1 ≡ stations p.0 plan base past

pub from_map : {A B : Type 0} (f : A → B) (P : B → Type 0) (xs : List A) → All P (map f xs) → All (λ x. P (f x)) xs
from_map {A} f P [] all = All-nil (λ (x : A). P (f x))
from_map {A} f P (x ∷ xs) all = All-cons (λ (y : A). P (f y)) x xs (All-head P (f x) (map f xs) all) (from_map f P xs (All-tail P (f x) (map f xs) all))

abbrev by_vlan_of : VlanSet → ℕ × List Station
by_vlan_of set = (set.access.vlan, set.fdb)

pub same_known : (plan : Plan) (base : Base) (past : List Row) (moment : ℕ) (sets sets' : List VlanSet) → stations_of_sets sets' ≡ stations_of_sets sets → All (Knows plan base past moment) sets → All (Knows plan base past moment) sets'
same_known plan base past moment sets sets' same all =
    from_map by_vlan_of (KnowsBy plan base past moment) sets'
    (subst (λ (l : List (ℕ × List Station)). All (KnowsBy plan base past moment) l) (sym same) (All-map (KnowsBy plan base past moment) by_vlan_of sets all))

-- the stations of the VLAN at a place
at_place : (plan : Plan) (base : Base) (past : List Row) (moment : ℕ) (sets : List VlanSet) (place : ℕ) → place < length sets → All (Knows plan base past moment) sets
    → live_at moment (fdb_at sets place) ≡ stations (get_or (vlans_of_sets sets) place 0) plan base past
at_place plan base past moment [] place within all = absurd (omega (arith, within))
at_place plan base past moment (set ∷ sets) zero within all = All-head (Knows plan base past moment) set sets all
at_place plan base past moment (set ∷ sets) (suc place) within all = at_place plan base past moment sets place (omega (arith, within)) (All-tail (Knows plan base past moment) set sets all)

pub as_many : (plan : Plan) (sets : List VlanSet) → vlans_of_sets sets ≡ vlans_of plan → length sets ≡ length (vlans_of plan)
as_many plan sets vlans = sym (length-map sets (λ (set : VlanSet). set.access.vlan)) ∙ ap length vlans

pub within_sets : (plan : Plan) (sets : List VlanSet) → vlans_of_sets sets ≡ vlans_of plan → (set : Option ℕ) → IfSome set (λ s. s < length (vlans_of plan)) → IfSome set (λ s. s < length sets)
within_sets plan sets vlans None within = within
within_sets plan sets vlans (Some s) within = omega (arith, within, as_many plan sets vlans)

-- two places are the same where their VLANs are
same_place : (plan : Plan) (i j : ℕ) → i < length (vlans_of plan) → j < length (vlans_of plan) → (i == j) ≡ (vlan_at_place plan i == vlan_at_place plan j)
same_place plan i j here there =
    elim (cases_eq i j) [
      | inl same ↦ eq-eqb i j same ∙ sym (eq-eqb (vlan_at_place plan i) (vlan_at_place plan j) (ap (vlan_at_place plan) same))
      | inr other ↦ ne_eqb i j other ∙ sym (ne_eqb (vlan_at_place plan i) (vlan_at_place plan j) (apart (vlans_of plan) i j (vlans_rise plan.ports) here there other))
    ]

and_no : (b : Bool) → false ≡ (b && false)
and_no true = refl
and_no false = refl

-- what a frame teaches at a place, by its VLAN
teaches_by : (plan : Plan) (set : Option ℕ) (verdict : Verdict) (place : ℕ) → IfSome set (λ s. s < length (vlans_of plan)) → place < length (vlans_of plan)
    → teaches_at set verdict place ≡ (is_pass (Some verdict) && is_vlan (vlan_at_place plan place) (vlan_of_place plan set))
teaches_by plan None verdict place within inside = and_no (is_pass (Some verdict))
teaches_by plan (Some set) verdict place within inside = ap (λ (b : Bool). is_pass (Some verdict) && b) (same_place plan set place within inside)

-- what a frame with this header teaches where it does
abbrev pub taught_if : Bool → Port → ℕ → Option Eth → List Station → List Station
taught_if does port moment header live = if does then taught port moment header live else live

module _ {k : CoreState} (was : Remembers k) (sets : List VlanSet) (know : All (Knows k.plan k.base (reverse k.rows) k.moment) sets) where
  moment_later : (event : Event) (e : Entry) → e ≡ (row_of k.plan k.base (reverse k.rows) event).entry → k.moment ≤ e.moment
  moment_later event e e_is =
      let small = last_small k.plan k.base (reverse k.rows) was.within was.legal in
      omega (arith, was.last, (row_moment k.plan k.base (reverse k.rows) event small).0, ap (λ (x : Entry). x.moment) e_is)

  -- a row that teaches nothing in any VLAN
  still : (event : Event) (e : Entry) (octets : List ℕ) → e ≡ (row_of k.plan k.base (reverse k.rows) event).entry → ((vlan : ℕ) (live : List Station) → after_entry vlan k.plan (row e octets) e.act live ≡ live)
      → (sets' : List VlanSet) → stations_of_sets sets' ≡ stations_of_sets sets → All (Knows k.plan k.base (reverse (k.rows ++ row e octets ∷ [])) e.moment) sets'
  still event e octets e_is nothing sets' same =
      All-weaker (Knows k.plan k.base (reverse k.rows) k.moment) (Knows k.plan k.base (reverse (k.rows ++ row e octets ∷ [])) e.moment) one sets' (same_known k.plan k.base (reverse k.rows) k.moment sets sets' same know)
    where
      one : (set : VlanSet) → Knows k.plan k.base (reverse k.rows) k.moment set → Knows k.plan k.base (reverse (k.rows ++ row e octets ∷ [])) e.moment set
      one set knows =
          let of = stations set.access.vlan k.plan k.base (reverse k.rows) in
          rw (reverse_push k.rows (row e octets)) (live_later set.fdb of k.moment e.moment (moment_later event e e_is) knows ∙ sym (nothing set.access.vlan (live_at e.moment of)))

  pub knows_long : (port : Port) (stamp len : ℕ) (e : Entry) → e ≡ (row_of k.plan k.base (reverse k.rows) (events.Long port stamp len)).entry
      → (sets' : List VlanSet) → stations_of_sets sets' ≡ stations_of_sets sets → All (Knows k.plan k.base (reverse (k.rows ++ row e [] ∷ [])) e.moment) sets'
  knows_long port stamp len e e_is =
      still (events.Long port stamp len) e [] e_is (λ vlan live. ap (λ (x : Entry). after_entry vlan k.plan (row e []) x.act live) e_is)

  pub knows_command : (stamp : ℕ) (line : List ℕ) (e : Entry) → e ≡ (row_of k.plan k.base (reverse k.rows) (events.Command stamp line)).entry
      → (sets' : List VlanSet) → stations_of_sets sets' ≡ stations_of_sets sets → All (Knows k.plan k.base (reverse (k.rows ++ row e line ∷ [])) e.moment) sets'
  knows_command stamp line e e_is =
      still (events.Command stamp line) e line e_is (λ vlan live. ap (λ (x : Entry). after_entry vlan k.plan (row e line) x.act live) e_is)

  pub knows_tick : (stamp : ℕ) (e : Entry) → e ≡ (row_of k.plan k.base (reverse k.rows) (events.Tick stamp)).entry
      → (sets' : List VlanSet) → stations_of_sets sets' ≡ stations_of_sets sets → All (Knows k.plan k.base (reverse (k.rows ++ row e [] ∷ [])) e.moment) sets'
  knows_tick stamp e e_is =
      still (events.Tick stamp) e [] e_is (λ vlan live. ap (λ (x : Entry). after_entry vlan k.plan (row e []) x.act live) e_is)

  pub knows_drain : (port : Port) (count : ℕ) (e : Entry) → e ≡ (row_of k.plan k.base (reverse k.rows) (events.Drain port count)).entry
      → (sets' : List VlanSet) → stations_of_sets sets' ≡ stations_of_sets sets → All (Knows k.plan k.base (reverse (k.rows ++ row e [] ∷ [])) e.moment) sets'
  knows_drain port count e e_is =
      still (events.Drain port count) e [] e_is (λ vlan live. ap (λ (x : Entry). after_entry vlan k.plan (row e []) x.act live) e_is)

  pub knows_end : (who : Who) (how : How) (e : Entry) → e ≡ (row_of k.plan k.base (reverse k.rows) (events.End who how)).entry
      → (sets' : List VlanSet) → stations_of_sets sets' ≡ stations_of_sets sets → All (Knows k.plan k.base (reverse (k.rows ++ row e [] ∷ [])) e.moment) sets'
  knows_end who how e e_is =
      still (events.End who how) e [] e_is (λ vlan live. ap (λ (x : Entry). after_entry vlan k.plan (row e []) x.act live) e_is)

  module _ (vlans : vlans_of_sets sets ≡ vlans_of k.plan) where
    -- what is live of the VLAN at a place later
    live_at_place : (place : ℕ) → place < length (vlans_of k.plan) → (later : ℕ) → k.moment ≤ later
        → live_at later (fdb_at sets place) ≡ live_at later (stations (vlan_at_place k.plan place) k.plan k.base (reverse k.rows))
    live_at_place place inside later order =
        let of = stations (vlan_at_place k.plan place) k.plan k.base (reverse k.rows) in
        live_later (fdb_at sets place) of k.moment later order
        (at_place k.plan k.base (reverse k.rows) k.moment sets place (omega (arith, inside, as_many k.plan sets vlans)) know
        ∙ ap (λ (vs : List ℕ). stations (get_or vs place 0) k.plan k.base (reverse k.rows)) vlans)

    -- the port at which the destination of a frame of this class is known in the VLAN at a place
    pub place_is : (place : ℕ) → place < length (vlans_of k.plan) → (later : ℕ) (class : Class) (octets : List ℕ) → k.moment ≤ later → IsClassOf (inner octets) class
        → known_at sets (Some place) later (eth_of class) ≡ known_port (vlan_at_place k.plan place) k.plan k.base (reverse k.rows) later octets
    place_is place inside later class octets order is =
        ap (λ (live : List Station). port_among live (eth_of class)) (live_at_place place inside later order)
        ∙ ap (port_among (live_at later (stations (vlan_at_place k.plan place) k.plan k.base (reverse k.rows)))) (eth_is (inner octets) class is)

    -- a frame that has taught in its VLAN
    pub knows_frame : (port : Port) (stamp : ℕ) (octets : List ℕ) (class : Class) (verdict : Verdict) (set : Option ℕ) (e : Entry) (sets' : List VlanSet) → IsClassOf (inner octets) class
        → IfSome set (λ s. s < length (vlans_of k.plan)) → vlan_of_place k.plan set ≡ vlan_of_frame k.plan (number_of port) octets
        → e ≡ (row_of k.plan k.base (reverse k.rows) (events.Frame port stamp octets)).entry → e.verdict ≡ Some verdict → vlans_of_sets sets' ≡ vlans_of k.plan
        → ((place : ℕ) → place < length sets → live_at e.moment (fdb_at sets' place) ≡ taught_if (teaches_at set verdict place) port e.moment (eth_of class) (live_at e.moment (fdb_at sets place)))
        → All (Knows k.plan k.base (reverse (k.rows ++ row e octets ∷ [])) e.moment) sets'
    knows_frame port stamp octets class verdict set e sets' is within vlan_is e_is verdict_is vlans' taught_is = λ n d inside. known n d inside
      where
        act_is : e.act ≡ events.frame_act (reverse k.rows) port stamp octets
        act_is = ap (λ (x : Entry). x.act) e_is

        does_is : (place : ℕ) → place < length (vlans_of k.plan) → teaches_at set verdict place ≡ teaches (vlan_at_place k.plan place) k.plan port (row e octets)
        does_is place inside =
            teaches_by k.plan set verdict place within inside
            ∙ ap (λ (v : Option ℕ). is_pass (Some verdict) && is_vlan (vlan_at_place k.plan place) v) vlan_is
            ∙ ap (λ (v : Option Verdict). is_pass v && is_vlan (vlan_at_place k.plan place) (vlan_of_frame k.plan (number_of port) octets)) (sym verdict_is)

        at : (place : ℕ) → place < length (vlans_of k.plan) → live_at e.moment (fdb_at sets' place) ≡ stations (vlan_at_place k.plan place) k.plan k.base (row e octets ∷ reverse k.rows)
        at place inside =
            let vlan = vlan_at_place k.plan place in
            let live = live_at e.moment (stations vlan k.plan k.base (reverse k.rows)) in
            let does = teaches vlan k.plan port (row e octets) in
            taught_is place (omega (arith, inside, as_many k.plan sets vlans))
            ∙ ap (λ (l : List Station). taught_if (teaches_at set verdict place) port e.moment (eth_of class) l) (live_at_place place inside e.moment (moment_later (events.Frame port stamp octets) e e_is))
            ∙ ap (λ (b : Bool). taught_if b port e.moment (eth_of class) live) (does_is place inside)
            ∙ ap (λ (header : Option Eth). taught_if does port e.moment header live) (eth_is (inner octets) class is)
            ∙ sym (ap (λ (a : Act). after_entry vlan k.plan (row e octets) a live) act_is)

        known : (n : ℕ) (d : VlanSet) → n < length sets' → Knows k.plan k.base (reverse (k.rows ++ row e octets ∷ [])) e.moment (get_or sets' n d)
        known n d inside =
            let one = get_or sets' n d in
            let fdb_is : fdb_at sets' n ≡ one.fdb = get_or-map (λ (s : VlanSet). s.fdb) sets' n d [] inside in
            let one_vlan : vlan_at_place k.plan n ≡ one.access.vlan = ap (λ (vs : List ℕ). get_or vs n 0) (sym vlans') ∙ get_or-map (λ (s : VlanSet). s.access.vlan) sets' n d 0 inside in
            rw (reverse_push k.rows (row e octets))
            (ap (live_at e.moment) (sym fdb_is)
            ∙ at n (omega (arith, inside, as_many k.plan sets' vlans'))
            ∙ ap (λ (v : ℕ). stations v k.plan k.base (row e octets ∷ reverse k.rows)) one_vlan)
