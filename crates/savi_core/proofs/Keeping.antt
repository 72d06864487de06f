-- What is kept of tables at a turn, one by one.
use Rattle.std.proofs.Common.{◌≡◌, ℕ, zero, suc, ◌+◌, ◌<◌, ◌≤◌, Bool, true, false, cond, Option, Some, None, List, [], ◌∷◌, ◌++◌, length, map, take, drop, get_or, refl, sym, ap, subst, ◌∙◌, arith}
use Rattle.std.specs.Prelude.{slice_get}
use Rattle.std.specs.Option.{option_map}
use Rattle.std.specs.List.{filter, AllByRecursion}
use Rattle.std.specs.List.Sorted.{IsStrictlyIncreasing}
use Rattle.std.proofs.lemmas.Grind.{flat_map-append}
use Rattle.std.proofs.lemmas.List.{map-append, length-append, length-map, append-nil, append_assoc, take-append-drop, take_more, get_or-map}
use Rattle.std.proofs.lemmas.List.Elements.{filter-append, filter_more}
use Rattle.savi_kinds.specs.declared.address.Addr.{Addr}
use Rattle.savi_kinds.specs.declared.entry.How.{How}
use Rattle.mix_rules.specs.declared.state.AddrState.{AddrState}
use Rattle.bridge_fdb.specs.declared.station.Station.{Station}
use Rattle.dhcp_states.specs.declared.request.Request.{Request}
use Rattle.dhcp_states.specs.Requests.{is_open, open_at}
use Rattle.savi_access.specs.declared.row.Row.{Row}
use Rattle.savi_access.specs.Rows.{pair_of}
use Rattle.checkpoint.specs.Columns.{Columns, IsUpTo}
use Rattle.savi_segments.specs.Checkpoints.{up_to, with_pass_end, ends_of}
use Rattle.savi_core.specs.declared.vlan_set.VlanSet.{VlanSet}
use Rattle.savi_core.specs.VlanSets.{of_sets, vlans_of_sets}
use Rattle.savi_core.specs.Turns.{with_rows, with_requests, with_stations}
use Rattle.savi_core.proofs.Rising.{AreFrom, increasing_from}
use Rattle.savi_core.proofs.Shown.{row_more}

-- these of a VLAN, each with it
abbrev pub each_of : {A : Type 0} → ℕ → List A → List (ℕ × A)
each_of vlan all = map (λ a. (vlan, a)) all

-- none of them is of a VLAN above it

one_up : {A : Type 0} (vlan : ℕ) (all : List A) → IsUpTo vlan (each_of vlan all)
one_up vlan [] = tt
one_up vlan (a ∷ all) = (omega arith, one_up vlan all)

-- nor where they stand behind others of which none is
pub up_behind : {A : Type 0} (vlan : ℕ) (column : List (ℕ × A)) (all : List A) → IsUpTo vlan column → IsUpTo vlan (column ++ each_of vlan all)
up_behind vlan [] all up = one_up vlan all
up_behind vlan (a ∷ column) all up = (up.0, up_behind vlan column all up.1)

-- nor among the first of such
pub up_front : {A : Type 0} (vlan : ℕ) (first more : List (ℕ × A)) → IsUpTo vlan (first ++ more) → IsUpTo vlan first
up_front vlan [] more up = tt
up_front vlan (a ∷ first) more up = (up.0, up_front vlan first more up.1)

-- one more of the VLAN, behind others
pub one_more : {A : Type 0} (vlan : ℕ) (column : List (ℕ × A)) (all : List A) (a : A) → (column ++ each_of vlan all) ++ (vlan, a) ∷ [] ≡ column ++ each_of vlan (all ++ a ∷ [])
one_more {A} vlan column all a =
    append_assoc column (each_of vlan all) ((vlan, a) ∷ [])
    ∙ ap (λ (l : List (ℕ × A)). column ++ l) (sym (map-append (λ (x : A). (vlan, x)) all (a ∷ [])))

pub length_each : {A : Type 0} (vlan : ℕ) (column : List (ℕ × A)) (all : List A) → length (column ++ each_of vlan all) ≡ length column + length all
length_each {A} vlan column all = length-append column (each_of vlan all) ∙ ap (λ (n : ℕ). length column + n) (length-map all (λ (x : A). (vlan, x)))

-- those of a list that pass, up to the next one

module _ {A : Type 0} (p : A → Bool) (xs : List A) where
  pub passes_more : (i : ℕ) (x : A) → i < length xs → x ≡ get_or xs i x → p x ≡ true → filter p (take (i + 1) xs) ≡ filter p (take i xs) ++ x ∷ []
  passes_more i x within is passes =
      filter_more p xs i x within
      ∙ ap (λ (y : A). filter p (take i xs) ++ cond (p y) (y ∷ []) []) (sym is)
      ∙ ap (λ (b : Bool). filter p (take i xs) ++ cond b (x ∷ []) []) passes

  pub passes_same : (i : ℕ) (x : A) → i < length xs → x ≡ get_or xs i x → p x ≡ false → filter p (take (i + 1) xs) ≡ filter p (take i xs)
  passes_same i x within is stops =
      filter_more p xs i x within
      ∙ ap (λ (y : A). filter p (take i xs) ++ cond (p y) (y ∷ []) []) (sym is)
      ∙ ap (λ (b : Bool). filter p (take i xs) ++ cond b (x ∷ []) []) stops
      ∙ append-nil (filter p (take i xs))

  -- there are no more among the first than among all
  pub passes_few : (i : ℕ) → length (filter p (take i xs)) ≤ length (filter p xs)
  passes_few i =
      let parts : filter p xs ≡ filter p (take i xs) ++ filter p (drop i xs) = ap (λ (l : List A). filter p l) (sym (take-append-drop i xs)) ∙ filter-append p (take i xs) (drop i xs) in
      omega (arith, ap length parts, length-append (filter p (take i xs)) (filter p (drop i xs)))

-- one row more
pub row_kept : (vlan : ℕ) (rows : List Row) (i : ℕ) (address : Addr) (state : AddrState) (was now start : Columns) → i < length rows → Some (address, state) ≡ option_map pair_of (slice_get rows i)
    → was ≡ with_rows (each_of vlan (take i rows)) start → now ≡ record was { rows = was.rows ++ (vlan, record { address = address; state = state }) ∷ [] } → now ≡ with_rows (each_of vlan (take (i + 1) rows)) start
row_kept vlan rows i address state was now start within told was_is now_is =
    let row : Row = record { address = address; state = state } in
    let more : take (i + 1) rows ≡ take i rows ++ row ∷ [] = row_more rows i address state within told in
    now_is
    ∙ ap (λ (c : Columns). record c { rows = c.rows ++ (vlan, row) ∷ [] }) was_is
    ∙ ap (λ (kept : List (ℕ × Row)). record start { rows = kept }) (one_more vlan start.rows (take i rows) row ∙ sym (ap (λ (l : List Row). start.rows ++ each_of vlan l) more))

-- one request more that is open, or one that isn't

module _ (t vlan : ℕ) (requests : List Request) (i : ℕ) (request : Request) (was start : Columns) (within : i < length requests) (is : request ≡ get_or requests i request)
    (was_is : was ≡ with_requests (each_of vlan (open_at t (take i requests))) start) where
  pub request_kept : (now : Columns) → is_open t request ≡ true → now ≡ record was { requests = was.requests ++ (vlan, request) ∷ [] } → now ≡ with_requests (each_of vlan (open_at t (take (i + 1) requests))) start
  request_kept now opens now_is =
      now_is
      ∙ ap (λ (c : Columns). record c { requests = c.requests ++ (vlan, request) ∷ [] }) was_is
      ∙ ap (λ (kept : List (ℕ × Request)). record start { requests = kept }) (one_more vlan start.requests (open_at t (take i requests)) request)
      ∙ ap (λ (kept : List Request). with_requests (each_of vlan kept) start) (sym (passes_more (is_open t) requests i request within is opens))

  pub request_passed : is_open t request ≡ false → was ≡ with_requests (each_of vlan (open_at t (take (i + 1) requests))) start
  request_passed closed = was_is ∙ ap (λ (kept : List Request). with_requests (each_of vlan kept) start) (sym (passes_same (is_open t) requests i request within is closed))

  -- there is room for it
  pub request_fits : is_open t request ≡ true → length start.requests + length (open_at t requests) ≤ 256 → length was.requests < 256
  request_fits opens few =
      let more : length (open_at t (take (i + 1) requests)) ≡ length (open_at t (take i requests)) + 1 =
      ap length (passes_more (is_open t) requests i request within is opens) ∙ length-append (open_at t (take i requests)) (request ∷ []) in
      omega (arith, more, few, passes_few (is_open t) requests (i + 1), ap (λ (c : Columns). length c.requests) was_is, length_each vlan start.requests (open_at t (take i requests)))

  pub requests_up : IsUpTo vlan start.requests → IsUpTo vlan was.requests
  requests_up up = subst (λ (l : List (ℕ × Request)). IsUpTo vlan l) (sym (ap (λ (c : Columns). c.requests) was_is)) (up_behind vlan start.requests (open_at t (take i requests)) up)

-- one station more, where some are left

abbrev pub with_left : ℕ → List Station → Columns → Columns
with_left vlan left columns = with_stations (each_of vlan left) columns

module _ (vlan : ℕ) (was : Columns) (station : Station) (left rest all : List Station) (start : Columns) (left_is : left ≡ station ∷ rest) (was_is : with_left vlan left was ≡ with_stations (each_of vlan all) start) where
  pub station_kept : (now : Columns) → now ≡ record was { stations = was.stations ++ (vlan, station) ∷ [] } → with_left vlan rest now ≡ with_stations (each_of vlan all) start
  station_kept now now_is =
      ap (λ (c : Columns). with_left vlan rest c) now_is
      ∙ ap (λ (kept : List (ℕ × Station)). record was { stations = kept }) (append_assoc was.stations ((vlan, station) ∷ []) (each_of vlan rest))
      ∙ ap (λ (l : List Station). with_left vlan l was) (sym left_is)
      ∙ was_is

  -- there is room for it
  pub station_fits : length start.stations + length all ≤ start.station_room → length was.stations < was.station_room
  station_fits few =
      omega (
        arith,
        few,
        ap (λ (c : Columns). c.station_room) was_is,
        ap (λ (c : Columns). length c.stations) was_is,
        length_each vlan was.stations left,
        length_each vlan start.stations all,
        ap length left_is,
      )

  pub stations_up : IsUpTo vlan start.stations → IsUpTo vlan was.stations
  stations_up up =
      up_front vlan was.stations (each_of vlan left)
      (subst (λ (l : List (ℕ × Station)). IsUpTo vlan l) (sym (ap (λ (c : Columns). c.stations) was_is)) (up_behind vlan start.stations all up))

-- none is left
pub stations_kept : (vlan : ℕ) (was start : Columns) (left all : List Station) → left ≡ [] → with_left vlan left was ≡ with_stations (each_of vlan all) start → was ≡ with_stations (each_of vlan all) start
stations_kept vlan was start left all none was_is =
    ap (λ (kept : List (ℕ × Station)). record was { stations = kept }) (sym (append-nil was.stations))
    ∙ ap (λ (l : List Station). with_left vlan l was) (sym none)
    ∙ was_is

-- what the sets up to the next one have, and what that one has behind it

module _ {A : Type 0} (has : VlanSet → List A) (sets : List VlanSet) where
  pub sets_more : (i : ℕ) (set : VlanSet) → i < length sets → set ≡ get_or sets i set → of_sets has (take (i + 1) sets) ≡ of_sets has (take i sets) ++ each_of set.access.vlan (has set)
  sets_more i set within is =
      ap (of_sets has) (take_more sets i set within ∙ ap (λ (s : VlanSet). take i sets ++ s ∷ []) (sym is))
      ∙ flat_map-append (λ (s : VlanSet). each_of s.access.vlan (has s)) (take i sets) (set ∷ [])
      ∙ ap (λ (l : List (ℕ × A)). of_sets has (take i sets) ++ l) (append-nil (each_of set.access.vlan (has set)))

  -- there is room for them where there is for all
  pub sets_few : (i : ℕ) (set : VlanSet) → i < length sets → set ≡ get_or sets i set → length (of_sets has (take i sets)) + length (has set) ≤ length (of_sets has sets)
  sets_few i set within is =
      let parts : of_sets has sets ≡ of_sets has (take (i + 1) sets) ++ of_sets has (drop (i + 1) sets) =
      ap (of_sets has) (sym (take-append-drop (i + 1) sets)) ∙ flat_map-append (λ (s : VlanSet). each_of s.access.vlan (has s)) (take (i + 1) sets) (drop (i + 1) sets) in
      omega (
        arith,
        ap length parts,
        length-append (of_sets has (take (i + 1) sets)) (of_sets has (drop (i + 1) sets)),
        ap length (sets_more i set within is),
        length_each set.access.vlan (of_sets has (take i sets)) (has set),
      )

-- what the sets in front of one have is of no VLAN above that one's

none_above : {A : Type 0} (has : VlanSet → List A) (vlan : ℕ) (sets : List VlanSet) → AllByRecursion (λ n. n ≤ vlan) (vlans_of_sets sets) → IsUpTo vlan (of_sets has sets)
none_above has vlan [] below = tt
none_above {A} has vlan (set ∷ sets) below = each (has set) (none_above has vlan sets below.1)
  where
    each : (all : List A) → IsUpTo vlan (of_sets has sets) → IsUpTo vlan (each_of set.access.vlan all ++ of_sets has sets)
    each [] rest = rest
    each (a ∷ all) rest = (below.0, each all rest)

pub from_at : (from : ℕ) (ns : List ℕ) (i : ℕ) → AreFrom from ns → i < length ns → from ≤ get_or ns i 0
from_at from [] i are within = absurd (omega (arith, within))
from_at from (n ∷ ns) zero are within = are.0
from_at from (n ∷ ns) (suc i) are within = let more = from_at (n + 1) ns i are.1 (omega (arith, within)) in omega (arith, are.0, more)

in_front : (from : ℕ) (sets : List VlanSet) (i : ℕ) → AreFrom from (vlans_of_sets sets) → i < length (vlans_of_sets sets) → AllByRecursion (λ n. n ≤ get_or (vlans_of_sets sets) i 0) (vlans_of_sets (take i sets))
in_front from [] i are within = absurd (omega (arith, within))
in_front from (set ∷ sets) zero are within = tt
in_front from (set ∷ sets) (suc i) are within =
    let more = from_at (set.access.vlan + 1) (vlans_of_sets sets) i are.1 (omega (arith, within)) in
    (omega (arith, more), in_front (set.access.vlan + 1) sets i are.1 (omega (arith, within)))

pub sets_up : {A : Type 0} (has : VlanSet → List A) (sets : List VlanSet) (i : ℕ) (set : VlanSet) → IsStrictlyIncreasing (vlans_of_sets sets) → i < length sets → set ≡ get_or sets i set → IsUpTo set.access.vlan (of_sets has (take i sets))
sets_up has sets i set rising within is =
    let vlan : VlanSet → ℕ = λ (s : VlanSet). s.access.vlan in
    let at : get_or (vlans_of_sets sets) i 0 ≡ set.access.vlan = get_or-map vlan sets i set 0 within ∙ ap vlan (sym is) in
    let inside : i < length (vlans_of_sets sets) = omega (arith, within, length-map sets vlan) in
    none_above has set.access.vlan (take i sets)
    (subst (λ (m : ℕ). AllByRecursion (λ n. n ≤ m) (vlans_of_sets (take i sets))) at (in_front 0 sets i (increasing_from 0 (vlans_of_sets sets) rising (λ some. omega arith)) inside))

-- one pass more that ended, or one that didn't

end_put : (n : ℕ) (end : Option How) (ends : List (ℕ × How)) (last : ℕ × How) → with_pass_end n end (ends ++ last ∷ []) ≡ with_pass_end n end ends ++ last ∷ []
end_put n None ends last = refl
end_put n (Some how) ends last = refl

pub ends_more : (of : ℕ → Option How) (ns : List ℕ) (pass : ℕ) (how : How) → of pass ≡ Some how → ends_of of (ns ++ pass ∷ []) ≡ ends_of of ns ++ (pass, how) ∷ []
ends_more of [] pass how is = ap (λ (end : Option How). with_pass_end pass end []) is
ends_more of (n ∷ ns) pass how is =
    ap (λ (ends : List (ℕ × How)). with_pass_end n (of n) ends) (ends_more of ns pass how is) ∙ end_put n (of n) (ends_of of ns) (pass, how)

pub ends_none : (of : ℕ → Option How) (ns : List ℕ) (pass : ℕ) → of pass ≡ None → ends_of of (ns ++ pass ∷ []) ≡ ends_of of ns
ends_none of [] pass is = ap (λ (end : Option How). with_pass_end pass end []) is
ends_none of (n ∷ ns) pass is = ap (λ (ends : List (ℕ × How)). with_pass_end n (of n) ends) (ends_none of ns pass is)

-- there are at most as many ends as passes

end_few : (n : ℕ) (end : Option How) (ends : List (ℕ × How)) → length (with_pass_end n end ends) ≤ 1 + length ends
end_few n None ends = omega arith
end_few n (Some how) ends = omega arith

pub ends_few : (of : ℕ → Option How) (ns : List ℕ) → length (ends_of of ns) ≤ length ns
ends_few of [] = omega arith
ends_few of (n ∷ ns) = omega (arith, end_few n (of n) (ends_of of ns), ends_few of ns)

pub length_up_to : (n : ℕ) → length (up_to n) ≡ n
length_up_to zero = refl
length_up_to (suc n) = length-append (up_to n) (n ∷ []) ∙ ap (λ (k : ℕ). k + 1) (length_up_to n) ∙ (omega arith)
