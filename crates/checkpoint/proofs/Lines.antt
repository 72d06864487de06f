-- The lines of columns, one column behind the other.
use Rattle.std.proofs.Common.{arith, ℕ, ◌≡◌, ◌+◌, ◌-◌, ◌≤◌, Bool, false, if◌then◌else◌, List, [], ◌∷◌, ◌++◌, length, map, Some, refl, sym, ap, ◌∙◌}
use Rattle.std.specs.Prelude.{slice_get}
use Rattle.std.specs.List.{flat_map}
use Rattle.std.proofs.lemmas.List.{map-append, length-append, length-map, append_assoc}
use Rattle.std.proofs.lemmas.List.Kept.{AllPairs-from_increasing}
use Rattle.std.proofs.lemmas.Option.{slice_get-map}
use Rattle.std.specs.Option.{option_map}
use Rattle.savi_kinds.specs.declared.plan.Plan.{Plan}
use Rattle.savi_kinds.specs.declared.entry.How.{How}
use Rattle.bridge_fdb.specs.declared.station.Station.{Station}
use Rattle.dhcp_states.specs.declared.request.Request.{Request}
use Rattle.savi_access.specs.declared.row.Row.{Row}
use Rattle.savi_kinds.specs.Characters.{space}
use Rattle.hist_store.specs.TextOfLines.{joined}
use Rattle.checkpoint.specs.declared.part.Part.{Part}
use Rattle.checkpoint.specs.Bases.{Base}
use Rattle.checkpoint.specs.Columns.{Columns, kept_base, by_vlan, of_vlan}
use Rattle.checkpoint.specs.Orders.{requests_in_order}
use Rattle.checkpoint.specs.Parts.{part_line}
use Rattle.checkpoint.specs.StateLines.{state_base_lines}
use Rattle.savi_kinds.specs.Vlans.{vlans_of}
use Rattle.checkpoint.specs.BaseLines.{HasNothingElsewhere, request_line, station_base_line, ended_line, head_lines, column_lines, base_texts}
use Rattle.checkpoint.specs.Kept.{IsKept}
use Rattle.savi_kinds.specs.Orders.{IsRising}
use Rattle.savi_kinds.proofs.Orders.{rising-head, rising-tail}
use Rattle.savi_kinds.proofs.VlanSets.{vlans_rise}
use Rattle.checkpoint.proofs.ByVlan.{Rising, read_by_vlan}
use Rattle.checkpoint.proofs.PartLines.{of_rows}
use Rattle.checkpoint.proofs.Places.{behind, at_front}

rise_each : (vs : List ℕ) → IsRising (λ (v : ℕ). v) vs → Rising vs
rise_each [] rise = tt
rise_each (v ∷ vs) rise = (rising-head (λ (w : ℕ). w) v vs rise, rise_each vs (rising-tail (λ (w : ℕ). w) v vs rise))

rising : (plan : Plan) → Rising (vlans_of plan)
rising plan = rise_each (vlans_of plan) (AllPairs-from_increasing (vlans_of plan) (vlans_rise plan.ports))

-- the texts of things that have a line each
abbrev pub texts : {X : Type 0} → (X → List (List ℕ)) → List X → List (List ℕ)
texts line xs = map joined (map line xs)

-- those of parts, requests, stations and passes, one column behind the other
abbrev pub all_texts : Plan → List Part → List (ℕ × Request) → List (ℕ × Station) → List (ℕ × How) → List (List ℕ)
all_texts plan parts requests stations ended =
    texts part_line parts ++ texts request_line requests ++ texts station_base_line stations ++ texts (ended_line plan) ended

map_four : (a b c d : List (List (List ℕ))) → map joined (a ++ b ++ c ++ d) ≡ map joined a ++ map joined b ++ map joined c ++ map joined d
map_four a b c d =
    map-append joined (a ++ b ++ c) d ∙ ap (λ (l : List (List ℕ)). l ++ map joined d) (map-append joined (a ++ b) c)
    ∙ ap (λ (l : List (List ℕ)). l ++ map joined c ++ map joined d) (map-append joined a b)

-- what is kept has the lines of the columns
pub kept_texts : (plan : Plan) (columns : Columns) (parts : List Part) (places : List ℕ)
    → IsKept columns.rows parts columns.requests places columns.stations → HasNothingElsewhere plan (kept_base columns)
    → map joined (column_lines plan (kept_base columns)) ≡ all_texts plan parts (requests_in_order columns.requests) columns.stations columns.ended
kept_texts plan columns parts places kept only =
    let rows : by_vlan (vlans_of plan) (λ vlan. of_vlan vlan columns.rows) ≡ columns.rows = read_by_vlan (vlans_of plan) columns.rows (rising plan) kept.rows_by only.rows in
    let requests : by_vlan (vlans_of plan) (λ vlan. of_vlan vlan columns.requests) ≡ columns.requests = read_by_vlan (vlans_of plan) columns.requests (rising plan) kept.requests_by only.requests in
    let stations : by_vlan (vlans_of plan) (λ vlan. of_vlan vlan columns.stations) ≡ columns.stations = read_by_vlan (vlans_of plan) columns.stations (rising plan) kept.stations_by only.stations in
    let as_parts : flat_map state_base_lines columns.rows ≡ map part_line parts = of_rows columns.rows ∙ ap (map part_line) (sym kept.parts_is) in
    map_four (flat_map state_base_lines (by_vlan (vlans_of plan) (kept_base columns).rows)) (map request_line (requests_in_order (by_vlan (vlans_of plan) (kept_base columns).requests)))
    (map station_base_line (by_vlan (vlans_of plan) (kept_base columns).stations)) (map (ended_line plan) columns.ended)
    ∙ ap (λ (l : List (ℕ × Row)). map joined (flat_map state_base_lines l) ++ texts request_line (requests_in_order (by_vlan (vlans_of plan) (kept_base columns).requests)) ++ texts station_base_line (by_vlan (vlans_of plan) (kept_base columns).stations) ++ texts (ended_line plan) columns.ended) rows
    ∙ ap (λ (l : List (List (List ℕ))). map joined l ++ texts request_line (requests_in_order (by_vlan (vlans_of plan) (kept_base columns).requests)) ++ texts station_base_line (by_vlan (vlans_of plan) (kept_base columns).stations) ++ texts (ended_line plan) columns.ended) as_parts
    ∙ ap (λ (l : List (ℕ × Request)). texts part_line parts ++ texts request_line (requests_in_order l) ++ texts station_base_line (by_vlan (vlans_of plan) (kept_base columns).stations) ++ texts (ended_line plan) columns.ended) requests
    ∙ ap (λ (l : List (ℕ × Station)). texts part_line parts ++ texts request_line (requests_in_order columns.requests) ++ texts station_base_line l ++ texts (ended_line plan) columns.ended) stations

-- the line of one of them
pub text_of : {X : Type 0} (line : X → List (List ℕ)) (xs : List X) (i : ℕ) (x : X) → slice_get xs i ≡ Some x → slice_get (texts line xs) i ≡ Some (joined (line x))
text_of line xs i x is = slice_get-map joined (map line xs) i ∙ ap (option_map joined) (slice_get-map line xs i ∙ ap (option_map line) is)

pub length_texts : {X : Type 0} (line : X → List (List ℕ)) (xs : List X) → length (texts line xs) ≡ length xs
length_texts line xs = length-map (map line xs) joined ∙ length-map xs line

module _ {A : Type 0} where
  pub in_first : (a b c d : List A) (i : ℕ) (t : A) → slice_get a i ≡ Some t → slice_get (a ++ b ++ c ++ d) i ≡ Some t
  in_first a b c d i t is = at_front (a ++ b ++ c) d i t (at_front (a ++ b) c i t (at_front a b i t is))

  pub in_second : (a b c d : List A) (i : ℕ) (t : A) → length a ≤ i → slice_get b (i - length a) ≡ Some t → slice_get (a ++ b ++ c ++ d) i ≡ Some t
  in_second a b c d i t past is = at_front (a ++ b ++ c) d i t (at_front (a ++ b) c i t (behind a b i past ∙ is))

  pub in_third : (a b c d : List A) (i : ℕ) (t : A) → length a ≤ i → length b ≤ i - length a → slice_get c (i - length a - length b) ≡ Some t → slice_get (a ++ b ++ c ++ d) i ≡ Some t
  in_third a b c d i t past second is =
      let size : length (a ++ b) ≡ length a + length b = length-append a b in
      let place : i - length (a ++ b) ≡ i - length a - length b = omega (arith, size) in
      at_front (a ++ b ++ c) d i t (behind (a ++ b) c i (omega (arith, size, past, second)) ∙ ap (slice_get c) place ∙ is)

  pub in_fourth : (a b c d : List A) (i : ℕ) (t : A) → length a ≤ i → length b ≤ i - length a → length c ≤ i - length a - length b → slice_get d (i - length a - length b - length c) ≡ Some t → slice_get (a ++ b ++ c ++ d) i ≡ Some t
  in_fourth a b c d i t past second third is =
      let two : length (a ++ b) ≡ length a + length b = length-append a b in
      let size : length (a ++ b ++ c) ≡ length a + length b + length c = length-append (a ++ b) c ∙ ap (λ (n : ℕ). n + length c) two in
      let place : i - length (a ++ b ++ c) ≡ i - length a - length b - length c = omega (arith, size) in
      behind (a ++ b ++ c) d i (omega (arith, size, past, second, third)) ∙ ap (slice_get d) place ∙ is

  pub length_four : (a b c d : List A) → length (a ++ b ++ c ++ d) ≡ length a + length b + length c + length d
  length_four a b c d =
      let two : length (a ++ b) ≡ length a + length b = length-append a b in
      let three : length (a ++ b ++ c) ≡ length a + length b + length c = length-append (a ++ b) c ∙ ap (λ (n : ℕ). n + length c) two in
      length-append (a ++ b ++ c) d ∙ ap (λ (n : ℕ). n + length d) three

-- a base that isn't the start has its first lines, and those of the columns behind them
pub texts_behind_head : (plan : Plan) (base : Base) → base.is_start ≡ false → base_texts plan base ≡ map joined (head_lines base) ++ map joined (column_lines plan base)
texts_behind_head plan base going =
    ap (λ (b : Bool). map joined (if b then [] else head_lines base ++ column_lines plan base)) going ∙ map-append joined (head_lines base) (column_lines plan base)

pub length_head : (base : Base) → length (map joined (head_lines base)) ≡ 29
length_head base = refl

-- a line with one more field
pub joined_more : (first : List ℕ) (fields : List (List ℕ)) (field : List ℕ) → joined (first ∷ fields) ++ space ∷ field ≡ joined (first ∷ fields ++ field ∷ [])
joined_more first [] field = refl
joined_more first (next ∷ fields) field =
    append_assoc first (space ∷ joined (next ∷ fields)) (space ∷ field) ∙ ap (λ (l : List ℕ). first ++ space ∷ l) (joined_more next fields field)
