-- How a search comes to its end, and how a gap is closed.
use Rattle.std.proofs.Common.{◌≡◌, ◌≢◌, ◌==◌, ◌<◌, ◌+◌, ◌⊎◌, ℕ, zero, suc, cond, List, [], ◌∷◌, length, find, Option, Some, None, refl, sym, ◌∙◌, ap, subst, arith, inl, inr, get_or-set_other, get_or-set_same}
use Rattle.std.proofs.Math.ListN.{set, length-set}
use Rattle.std.proofs.lemmas.Bool.{cases_Bool, cases_eq, eqb-true, eq-eqb}
use Rattle.addr_index.specs.declared.entry.Entry.{Entry}
use Rattle.addr_index.specs.Indexes.{is_of, HasOneEach}
use Rattle.addr_index.specs.Homes.{home_of}
use Rattle.addr_index.specs.Ways.{IsOnWay, IsOffWay, IsRound}
use Rattle.addr_index.specs.Places.{in_place, entries_of, IsReached, IsReachedBut, IsRoomFor, HasSameEntries}
use Rattle.addr_index.proofs.Gaps.{IsPassedPlace, IsAhead, IsOther, ClosesGap}
use Rattle.addr_index.proofs.Ways.{end_off, on_off, by_gap, shorter, further, beside, cases_passed, passed_ahead, way_passed, ahead_by, none_ahead, passed_at, passed_later, not_passed, ahead_more}
use Rattle.addr_index.proofs.Filling.{found_place, absent_places, find_filled, count_filled, length_filled, find_emptied, count_emptied, length_emptied, empty_place}

pub IsOther-some : (a : ℕ) (o : Option Entry) → IsOther a o → o ≢ None
IsOther-some a None other = absurd other
IsOther-some a (Some e) other = λ is. cc

-- a place that has no entry is empty
pub none_unless : (o : Option Entry) → ((e : Entry) → o ≡ Some e → ⊥) → o ≡ None
none_unless None never = refl
none_unless (Some e) never = absurd (never e refl)

-- a place that has an entry is one of the places
pub within_places : (places : List (Option Entry)) (p : ℕ) (e : Entry) → in_place places p ≡ Some e → p < length places
within_places [] p e there = cc
within_places (o ∷ places) zero e there = omega arith
within_places (o ∷ places) (suc p) e there = omega (arith, within_places places p e there)

-- a search that comes to an empty place has found none
pub room_for : (places : List (Option Entry)) (a from steps at : ℕ) → IsReached (length places) places → from ≡ home_of a (length places) → from < length places → steps < length places → IsRound (length places) (from + steps) at → ((p : ℕ) → p < length places → IsPassedPlace (length places) from steps p → IsOther a (in_place places p)) → in_place places at ≡ None → IsRoomFor a places at
room_for places a from steps at reached home fn sn round others empty = record {
  within = round.within;
  empty = empty;
  reached = λ p on within. IsOther-some a (in_place places p) (others p within (way_passed (length places) from steps at p round fn sn within (rw home on)));
  absent = absent_places places a (λ p e within there same. go p e within there same (cases_passed (length places) from steps p));
}
  where
    go : (p : ℕ) (e : Entry) → p < length places → in_place places p ≡ Some e → e.address ≡ a → IsPassedPlace (length places) from steps p ⊎ IsAhead (length places) from steps p → ⊥
    go p e within there same (inl passed) =
        let other : IsOther a (Some e) = subst (IsOther a) there (others p within passed) in
        other same
    go p e within there same (inr ahead) =
        let elsewhere : p ≢ at = λ (is : p ≡ at). (let no : in_place places p ≡ None = rw is empty in cc) in
        let on : IsOnWay from p at = ahead_by (length places) from steps at p round fn sn within ahead elsewhere in
        let home' : from ≡ home_of e.address (length places) = home ∙ ap (λ (x : ℕ). home_of x (length places)) (sym same) in
        reached p at e there (subst (λ (h : ℕ). IsOnWay h p at) home' on) round.within empty

-- a search that goes once round meets an empty place
pub room_met : (places : List (Option Entry)) (a from steps : ℕ) → from < length places → steps ≡ length places → length (entries_of places) < length places → ((p : ℕ) → p < length places → IsPassedPlace (length places) from steps p → IsOther a (in_place places p)) → ⊥
room_met places a from steps fn all sparse others =
    let (q, q_within, q_empty) = empty_place places sparse in
    elim (cases_passed (length places) from steps q) [
      | inl passed ↦ IsOther-some a (in_place places q) (others q q_within passed) q_empty
      | inr ahead ↦ none_ahead (length places) from q q_within fn (subst (λ (s : ℕ). IsAhead (length places) from s q) all ahead)
    ]

-- an entry moves from one place to an empty one
pub HasSameEntries-move : (initial places : List (Option Entry)) (at gap : ℕ) (e : Entry) → HasSameEntries initial places → in_place places at ≡ Some e → in_place places gap ≡ None → gap < length places → gap ≢ at → HasSameEntries initial (set (set places at None) gap (Some e))
HasSameEntries-move initial places at gap e same there empty within other = record {
  found = λ b. found b ∙ same.found b;
  count = omega (arith, length_filled (set places at None) gap e within' empty', length_emptied places at e there, same.count);
  distinct = λ b. omega (arith, count_filled (set places at None) gap e b within' empty', count_emptied places at e b there, same.distinct b);
}
  where
    within' : gap < length (set places at None)
    within' = rw length-set within

    empty' : in_place (set places at None) gap ≡ None
    empty' = get_or-set_other places at gap None None other ∙ empty

    gone : (b : ℕ) → find (is_of b) (entries_of (set places at None)) ≡ cond (e.address == b) None (find (is_of b) (entries_of places))
    gone b = find_emptied places at e b there same.distinct

    absent : find (is_of e.address) (entries_of (set places at None)) ≡ None
    absent = gone e.address ∙ rw (eq-eqb e.address e.address refl) refl

    found : (b : ℕ) → find (is_of b) (entries_of (set (set places at None) gap (Some e))) ≡ find (is_of b) (entries_of places)
    found b =
        elim (cases_Bool (e.address == b)) [
          | inl is ↦
              let back : find (is_of b) (entries_of places) ≡ Some e = subst (λ (x : ℕ). find (is_of x) (entries_of places) ≡ Some e) (eqb-true e.address b is) (found_place places at e same.distinct there) in
              find_filled (set places at None) gap e b within' empty' absent ∙ rw is (sym back)
          | inr isnt ↦ find_filled (set places at None) gap e b within' empty' absent ∙ rw isnt (gone b ∙ rw isnt refl)
        ]

pub HasSameEntries-refl : (places : List (Option Entry)) → HasOneEach (entries_of places) → HasSameEntries places places
HasSameEntries-refl places each = record { found = λ b. refl; count = refl; distinct = each }

-- a place that is empty although another one was filled
empty_yet : (places : List (Option Entry)) (p q : ℕ) (e : Entry) → p < length places → q < length (set places p (Some e)) → in_place (set places p (Some e)) q ≡ None → (q < length places) × (q ≢ p) × (in_place places q ≡ None)
empty_yet places p q e within q_within empty =
    let other : q ≢ p = λ (is : q ≡ p). (let filled : in_place (set places p (Some e)) p ≡ Some e = get_or-set_same places p (Some e) None within in let no : in_place (set places p (Some e)) p ≡ None = subst (λ (y : ℕ). in_place (set places p (Some e)) y ≡ None) is empty in cc) in
    (rw length-set at q_within, other, sym (get_or-set_other places p q (Some e) None other) ∙ empty)

-- another empty place than this one
pub other_empty : (places : List (Option Entry)) (p : ℕ) → p < length places → in_place places p ≡ None → length (entries_of places) + 1 < length places → (q : ℕ) × (q < length places) × (q ≢ p) × (in_place places q ≡ None)
other_empty places p within empty sparse = go (record { address = 0; key = 0 })
  where
    go : Entry → (q : ℕ) × (q < length places) × (q ≢ p) × (in_place places q ≡ None)
    go e =
        let less : length (entries_of (set places p (Some e))) < length (set places p (Some e)) = rw length-set (omega (arith, sparse, length_filled places p e within empty)) in
        let (q, q_within, q_empty) = empty_place (set places p (Some e)) less in
        let yet = empty_yet places p q e within q_within q_empty in
        (q, yet.0, yet.1, yet.2)

-- the first step from the emptied place
pub closing_begun : (places : List (Option Entry)) (emptied : ℕ) → emptied < length places → in_place places emptied ≡ None → HasOneEach (entries_of places) → ((next : ℕ) → IsRound (length places) (emptied + 1) next → IsReachedBut (length places) emptied next places) → length (entries_of places) + 1 < length places → ClosesGap (length places) places places emptied 1 emptied
closing_begun places emptied within empty each reached sparse =
    let (q, q_within, other, q_empty) = other_empty places emptied within empty sparse in
    record {
      size = refl;
      same = HasSameEntries-refl places each;
      within = within;
      empty = empty;
      passed = record { straight = λ h. omega arith; round = λ h. omega arith };
      reached = reached;
      ahead = (q, q_within, record { straight = λ h. omega (arith, other); round = λ h. omega (arith, within) }, q_empty);
    }

-- at an empty place the gap is closed
pub closing_done : (n : ℕ) (initial places : List (Option Entry)) (emptied steps gap at : ℕ) → ClosesGap n initial places emptied steps gap → emptied < n → steps < n → IsRound n (emptied + steps) at → in_place places at ≡ None → IsReached n places
closing_done n initial places emptied steps gap at closes en sn round none p x e there on within empty =
    let beyond = closes.reached at round p x e there on within empty in
    let to_gap : IsOnWay (home_of e.address n) p gap = subst (λ (y : ℕ). IsOnWay (home_of e.address n) p y) beyond.0 on in
    let away : at ≢ gap = not_passed n emptied steps at gap round en sn closes.within closes.passed in
    let not_gap : p ≢ gap = λ (is : p ≡ gap). (let no : in_place places p ≡ None = rw is closes.empty in cc) in
    let not_at : p ≢ at = λ (is : p ≡ at). (let no : in_place places p ≡ None = rw is none in cc) in
    let by : IsOnWay (home_of e.address n) p at = by_gap (home_of e.address n) gap at p to_gap beyond.1 not_gap away not_at in
    away (closes.reached at round p at e there by round.within none).0

-- an entry stays in its place
pub closing_kept : (n : ℕ) (initial places : List (Option Entry)) (emptied steps gap at : ℕ) (e : Entry) → ClosesGap n initial places emptied steps gap → emptied < n → steps < n → IsRound n (emptied + steps) at → in_place places at ≡ Some e → IsOffWay (home_of e.address n) at gap → ClosesGap n initial places emptied (steps + 1) gap
closing_kept n initial places emptied steps gap at e closes en sn round there off =
    let (q, q_within, q_ahead, q_empty) = closes.ahead in
    let q_other : q ≢ at = λ (is : q ≡ at). (let no : in_place places at ≡ None = rw (← is) q_empty in cc) in
    let away : at ≢ gap = not_passed n emptied steps at gap round en sn closes.within closes.passed in
    record {
      size = closes.size;
      same = closes.same;
      within = closes.within;
      empty = closes.empty;
      passed = passed_later n emptied steps gap closes.passed;
      reached = λ next round' p x f f_there on within empty.
          let beyond = closes.reached at round p x f f_there on within empty in
          let p_other : p ≢ at = λ (is : p ≡ at).
          (let same : f ≡ e = (let f_at : in_place places at ≡ Some f = rw (← is) f_there in cc) in
          let on_gap : IsOnWay (home_of e.address n) at gap = subst (λ (y : ℕ). IsOnWay (home_of e.address n) at y) beyond.0 (subst (λ (y : ℕ). IsOnWay (home_of e.address n) y x) is (subst (λ (g : Entry). IsOnWay (home_of g.address n) p x) same on)) in
          on_off (home_of e.address n) at gap on_gap off) in
          let p_within : p < n = omega (arith, within_places places p f f_there, closes.size) in
          let round'' : IsRound n (emptied + steps + 1) next = subst (λ (k : ℕ). IsRound n k next) (omega arith) round' in
          (beyond.0, further n (emptied + steps) gap at next p round round'' (omega (arith, en, sn)) beyond.1 p_other away p_within);
      ahead = (q, q_within, ahead_more n emptied steps at q round en sn q_within q_other q_ahead, q_empty);
    }

-- what is empty on a way, when an entry has moved to the gap
moved_reached : (n : ℕ) (places places' : List (Option Entry)) (k gap at next : ℕ) (e : Entry) → IsReachedBut n gap at places → length places' ≡ n → IsRound n k at → IsRound n (k + 1) next → in_place places at ≡ Some e → IsOnWay (home_of e.address n) at gap → in_place places' gap ≡ Some e → in_place places' at ≡ None → ((y : ℕ) → y ≢ gap → y ≢ at → in_place places' y ≡ in_place places y) → IsReachedBut n at next places'
moved_reached n places places' k gap at next e reached size round round' there to_gap filled emptied others p x f f_there on within empty =
    elim (cases_eq p gap) [
      | inl p_gap ↦
          let same : f ≡ e = (let f_gap : in_place places' gap ≡ Some f = rw (← p_gap) f_there in cc) in
          let on_gap : IsOnWay (home_of e.address n) gap x = subst (λ (y : ℕ). IsOnWay (home_of e.address n) y x) p_gap (subst (λ (g : Entry). IsOnWay (home_of g.address n) p x) same on) in
          let on_at : IsOnWay (home_of e.address n) at x = shorter (home_of e.address n) gap at x to_gap on_gap in
          let x_gap : x ≢ gap = λ (is : x ≡ gap). (let no : in_place places' gap ≡ None = rw (← is) empty in cc) in
          let x_at : x ≢ at = λ (is : x ≡ at). end_off (home_of e.address n) at (subst (λ (y : ℕ). IsOnWay (home_of e.address n) at y) is on_at) in
          absurd (x_gap (reached at x e there on_at within (sym (others x x_gap x_at) ∙ empty)).0)
      | inr p_gap ↦
          elim (cases_eq p at) [
            | inl p_at ↦ let no : in_place places' p ≡ None = rw p_at emptied in cc
            | inr p_at ↦
                let p_within : p < n = omega (arith, within_places places' p f f_there, size) in
                elim (cases_eq x at) [
                  | inl x_at ↦ (x_at, beside n k at next p round round' p_at p_within)
                  | inr x_at ↦
                      let x_gap : x ≢ gap = λ (is : x ≡ gap). (let no : in_place places' gap ≡ None = rw (← is) empty in cc) in
                      absurd (x_gap (reached p x f (sym (others p p_gap p_at) ∙ f_there) on within (sym (others x x_gap x_at) ∙ empty)).0)
                ]
          ]
    ]

-- an entry moves to the gap
pub closing_moved : (n : ℕ) (initial places : List (Option Entry)) (emptied steps gap at : ℕ) (e : Entry) → ClosesGap n initial places emptied steps gap → emptied < n → steps < n → IsRound n (emptied + steps) at → in_place places at ≡ Some e → IsOnWay (home_of e.address n) at gap → ClosesGap n initial (set (set places at None) gap (Some e)) emptied (steps + 1) at
closing_moved n initial places emptied steps gap at e closes en sn round there to_gap =
    let (q, q_within, q_ahead, q_empty) = closes.ahead in
    let q_at : q ≢ at = λ (is : q ≡ at). (let no : in_place places at ≡ None = rw (← is) q_empty in cc) in
    let q_gap : q ≢ gap = λ (is : q ≡ gap). passed_ahead n emptied steps gap closes.passed (subst (IsAhead n emptied steps) is q_ahead) in
    let away : at ≢ gap = not_passed n emptied steps at gap round en sn closes.within closes.passed in
    let away' : gap ≢ at = λ (is : gap ≡ at). away (sym is) in
    let gap_within : gap < length places = omega (arith, closes.within, closes.size) in
    let at_within : at < length places = omega (arith, round.within, closes.size) in
    let gap_within' : gap < length (set places at None) = rw length-set gap_within in
    let filled : in_place (set (set places at None) gap (Some e)) gap ≡ Some e = get_or-set_same (set places at None) gap (Some e) None gap_within' in
    let emptied' : in_place (set (set places at None) gap (Some e)) at ≡ None = get_or-set_other (set places at None) gap at (Some e) None away ∙ get_or-set_same places at None None at_within in
    let others : (y : ℕ) → y ≢ gap → y ≢ at → in_place (set (set places at None) gap (Some e)) y ≡ in_place places y = λ y y_gap y_at. get_or-set_other (set places at None) gap y (Some e) None y_gap ∙ get_or-set_other places at y None None y_at in
    let size : length (set (set places at None) gap (Some e)) ≡ n = rw (length-set, length-set) closes.size in
    record {
      size = size;
      same = HasSameEntries-move initial places at gap e closes.same there closes.empty gap_within away';
      within = round.within;
      empty = emptied';
      passed = passed_at n emptied steps at round en sn;
      reached = λ next round'. moved_reached n places (set (set places at None) gap (Some e)) (emptied + steps) gap at next e (closes.reached at round) size round (subst (λ (k : ℕ). IsRound n k next) (omega arith) round') there to_gap filled emptied' others;
      ahead = (q, q_within, ahead_more n emptied steps at q round en sn q_within q_at q_ahead, others q q_gap q_at ∙ q_empty);
    }
