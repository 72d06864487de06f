-- No two plans with what their histories go on from have the same code: each part can be read off the front.
use Rattle.std.proofs.Common.{◌≡◌, ℕ, ◌==◌, if◌then◌else◌, Bool, true, false, List, [], ◌∷◌, ◌++◌, length, Some, None, refl, ap, sym, ◌∙◌, append_assoc, arith}
use Rattle.savi_kinds.specs.declared.port.Port.{Port}
use Rattle.savi_kinds.specs.declared.plan.Plan.{Plan}
use Rattle.savi_kinds.specs.declared.entry.How.{How}
use Rattle.savi_kinds.specs.declared.entry.How.TheVariants as hows
use Rattle.savi_kinds.specs.Ports.{number_of}
use Rattle.fcfs_states.specs.declared.state.Fcfs.{Fcfs}
use Rattle.fcfs_states.specs.declared.state.Fcfs.TheVariants.{NoBind, Tentative, Valid, TestLt, TestVp}
use Rattle.checkpoint.specs.Columns.{Columns}
use Rattle.core_keep.specs.PortNumbers.{port_at}
use Rattle.core_keep.specs.RowCodes.{how_code, how_at}
use Rattle.core_keep.specs.PlanCodes.{bit_code, plan_code}
use Rattle.core_keep.specs.BaseCodes.{number_code, port_number_code, maybe_code, fcfs_code, bound_code, state_code, address_code, request_code, station_code, ended_code, counts_code, with_vlan, columns_code, fixed_code}
use Rattle.core_keep.proofs.RowsRead.{port_again, how_again}
use Rattle.core_keep.proofs.PlansApart.{IsCode, heads, apart, bit_read, same_fronts, text_read, list_read, both_read, one_by, one_plan}

-- where codes have one length, and a value is read again of its code
again_read : {X : Type 0} (n : ℕ) (code : X → List ℕ) (from : List ℕ → X) → ((x : X) → length (code x) ≡ n) → ((x : X) → from (code x) ≡ x) → IsCode code
again_read n code from size again a b r s e =
    let h = same_fronts (code a) (code b) r s (size a ∙ sym (size b)) e in
    (sym (again a) ∙ ap from h.0 ∙ again b, h.1)

number_read : IsCode number_code
number_read a b r s e = heads e

port_number_read : IsCode port_number_code
port_number_read a b r s e = let h = heads e in (one_by number_of port_at port_again a b h.0, h.1)

option_read : {X : Type 0} (code : X → List ℕ) → IsCode code → IsCode (maybe_code code)
option_read code is None None r s e = (refl, (heads e).1)
option_read code is None (Some b) r s e = absurd (apart e)
option_read code is (Some a) None r s e = absurd (apart (sym e))
option_read code is (Some a) (Some b) r s e = let t = is a b r s (heads e).1 in (ap Some t.0, t.1)

how_from : List ℕ → How
how_from (kind ∷ n ∷ others) = how_at kind n
how_from _ = hows.End

how_size : (how : How) → length (how_code how) ≡ 2
how_size how = ap length (how_again how).2

how_from_code : (how : How) → how_from (how_code how) ≡ how
unfolding how_from
how_from_code how = let h = how_again how in ap how_from h.2 ∙ h.3

fcfs_from : List ℕ → Fcfs
fcfs_from (kind ∷ p ∷ q ∷ moment ∷ two ∷ others) =
    if kind == 0 then NoBind else if kind == 1 then Tentative (port_at p) moment (two == 1) else if kind == 2 then Valid (port_at p) moment
    else if kind == 3 then TestLt (port_at p) moment (two == 1) else TestVp (port_at p) (port_at q) moment (two == 1)
fcfs_from _ = NoBind

bit_size : (bit : Bool) → length (bit_code bit) ≡ 1
bit_size false = refl
bit_size true = refl

fcfs_size : (state : Fcfs) → length (fcfs_code state) ≡ 5
fcfs_size NoBind = refl
fcfs_size (Tentative p since two) = omega (arith, bit_size two)
fcfs_size (Valid p until) = refl
fcfs_size (TestLt p since two) = omega (arith, bit_size two)
fcfs_size (TestVp p q since two) = omega (arith, bit_size two)

fcfs_from_code : (state : Fcfs) → fcfs_from (fcfs_code state) ≡ state
unfolding fcfs_from
fcfs_from_code NoBind = refl
fcfs_from_code (Tentative p since false) = ap (λ (port : Port). Tentative port since false) (port_again p)
fcfs_from_code (Tentative p since true) = ap (λ (port : Port). Tentative port since true) (port_again p)
fcfs_from_code (Valid p until) = ap (λ (port : Port). Valid port until) (port_again p)
fcfs_from_code (TestLt p since false) = ap (λ (port : Port). TestLt port since false) (port_again p)
fcfs_from_code (TestLt p since true) = ap (λ (port : Port). TestLt port since true) (port_again p)
fcfs_from_code (TestVp p q since false) = λ i. TestVp (port_again p i) (port_again q i) since false
fcfs_from_code (TestVp p q since true) = λ i. TestVp (port_again p i) (port_again q i) since true

bound_read : IsCode bound_code
bound_read a b r s e =
    let p = heads e in
    let port = one_by number_of port_at port_again a.p b.p p.0 in
    let until = option_read number_code number_read a.until b.until r s p.1 in
    (λ i. record { p = port i; until = until.0 i }, until.1)

state_read : IsCode state_code
state_read a b r s e =
    let fixed_a = maybe_code port_number_code a.fixed in let fixed_b = maybe_code port_number_code b.fixed in
    let dhcp_a = maybe_code bound_code a.dhcp in let dhcp_b = maybe_code bound_code b.dhcp in
    let two = both_read (maybe_code port_number_code) (maybe_code bound_code) (option_read port_number_code port_number_read) (option_read bound_code bound_read)
    a.fixed b.fixed a.dhcp b.dhcp (fcfs_code a.fcfs ++ r) (fcfs_code b.fcfs ++ s)
    (sym (append_assoc (fixed_a ++ dhcp_a) (fcfs_code a.fcfs) r) ∙ e ∙ append_assoc (fixed_b ++ dhcp_b) (fcfs_code b.fcfs) s) in
    let fcfs = again_read 5 fcfs_code fcfs_from fcfs_size fcfs_from_code a.fcfs b.fcfs r s two.2 in
    (λ i. record { fixed = two.0 i; fcfs = fcfs.0 i; dhcp = two.1 i }, fcfs.1)

address_read : IsCode address_code
address_read a b r s e =
    let address = heads e in
    let state = state_read a.state b.state r s address.1 in
    (λ i. record { address = record { 0 = address.0 i }; state = state.0 i }, state.1)

request_read : IsCode request_code
request_read a b r s e =
    let p = heads e in let tid = heads p.1 in let opened = heads tid.1 in
    let port = one_by number_of port_at port_again a.port b.port p.0 in
    let duid = text_read a.duid.items b.duid.items r s opened.1 in
    (λ i. record { port = port i; tid = tid.0 i; duid = record { items = duid.0 i }; opened = opened.0 i }, duid.1)

station_read : IsCode station_code
station_read a b r s e =
    let p = heads e in let last = heads p.1 in
    let port = one_by number_of port_at port_again a.port b.port p.0 in
    let mac = text_read a.mac.0 b.mac.0 r s last.1 in
    (λ i. record { mac = record { 0 = mac.0 i }; port = port i; last = last.0 i }, mac.1)

ended_read : IsCode ended_code
ended_read a b r s e =
    let pass = heads e in
    let how = again_read 2 how_code how_from how_size how_from_code a.1 b.1 r s pass.1 in
    (λ i. (pass.0 i, how.0 i), how.1)

counts_read : IsCode counts_code
counts_read a b r s e =
    let pass = heads e in let cut = heads pass.1 in let probes = heads cut.1 in let lost = heads probes.1 in
    let by_rule = text_read a.by_rule b.by_rule r s lost.1 in
    (λ i. record { by_rule = by_rule.0 i; pass = pass.0 i; cut = cut.0 i; probes = probes.0 i; lost = lost.0 i }, by_rule.1)

vlan_read : {X : Type 0} (code : X → List ℕ) → IsCode code → IsCode (with_vlan code)
vlan_read code is a b r s e =
    let vlan = heads e in
    let row = is a.1 b.1 r s vlan.1 in
    (λ i. (vlan.0 i, row.0 i), row.1)

one_checkpoint : (a b : Columns) → columns_code a ≡ columns_code b → a ≡ b
one_checkpoint a b e =
    let moment = heads e in let shut = heads moment.1 in let row_room = heads shut.1 in let station_room = heads row_room.1 in
    let start = bit_read a.is_start b.is_start _ _ station_room.1 in
    let ended = list_read ended_code ended_read a.ended b.ended _ _ start.1 in
    let counts = counts_read a.counts b.counts _ _ ended.1 in
    let rows = list_read (with_vlan address_code) (vlan_read address_code address_read) a.rows b.rows _ _ counts.1 in
    let requests = list_read (with_vlan request_code) (vlan_read request_code request_read) a.requests b.requests _ _ rows.1 in
    let stations = list_read (with_vlan station_code) (vlan_read station_code station_read) a.stations b.stations [] [] (ap (λ (xs : List ℕ). xs ++ []) requests.1) in
    λ i. record {
      is_start = start.0 i;
      moment = moment.0 i;
      ended = ended.0 i;
      shut = record { 0 = shut.0 i };
      counts = counts.0 i;
      rows = rows.0 i;
      requests = requests.0 i;
      stations = stations.0 i;
      row_room = row_room.0 i;
      station_room = station_room.0 i;
    }

-- a plan and its columns have one code
pub one_fixed : (plan other : Plan) (a b : Columns) → fixed_code plan a ≡ fixed_code other b → (plan ≡ other) × (a ≡ b)
one_fixed plan other a b e =
    let codes = text_read (plan_code plan) (plan_code other) (columns_code a) (columns_code b) e in
    (one_plan plan other codes.0, one_checkpoint a b codes.1)
