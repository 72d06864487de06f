-- What a core keeps: how it begins, and after one more row.
use Rattle.std.proofs.Common.{◌-◌, nat_le, ℕ, zero, suc, replicate, ◌≡◌, ◌+◌, ◌*◌, ◌<◌, ◌≤◌, ◌==◌, ◌&&◌, ◌||◌, cond, Bool, true, false, Option, Some, List, [], ◌∷◌, ◌++◌, length, map, get_or, inl, inr, refl, sym, ap, subst, ◌∙◌, arith, length-append}
use Rattle.std.specs.Prelude.{All, reverse}
use Rattle.std.proofs.lemmas.List.{length-reverse, length-map, reverse-append, get_or-map}
use Rattle.std.proofs.lemmas.List.Elements.{All-nil, All-cons}
use Rattle.std.proofs.lemmas.Bool.{cases_lt, ltb-true, leb-true, and_parts, false≢true}
use Rattle.savi_kinds.specs.declared.plan.Plan.{Plan}
use Rattle.savi_kinds.specs.declared.plan.PortPlan.{PortPlan}
use Rattle.savi_kinds.specs.declared.plan.Role.{Role}
use Rattle.savi_kinds.specs.declared.entry.Who.{Who}
use Rattle.savi_kinds.specs.declared.plan.Vlan.{Vlan}
use Rattle.savi_kinds.specs.Ports.{number_of}
use Rattle.savi_kinds.specs.Vlans.{numbers_of_vlan, vlan_among}
use Rattle.savi_kinds.specs.ValidPlan.{IsValidPlan, numbers_of}
use Rattle.egress_ring.specs.declared.item.Item.{Item as Queued}
use Rattle.hist_store.specs.Rows.{Row, held}
use Rattle.hist_store.proofs.StoreLemmas.{held-append}
use Rattle.checkpoint.specs.Bases.{empty}
use Rattle.savi_history.specs.Passes.{has_ended, has_port, has_pass, pass_of, place_of, place_among, role_of, is_trusted, is_end, pass_count}
use Rattle.savi_history.specs.Limits.{has_room}
use Rattle.savi_history.specs.Queues.{Item, queue}
use Rattle.savi_history.specs.Events.{Event, row_of}
use Rattle.savi_history.specs.Legal.{MayCome}
use Rattle.savi_history.proofs.Depth.{queue_within}
use Rattle.savi_history.proofs.Starting.{empty_within}
use Rattle.savi_core.specs.Lanes.{Lane, empty_lane, lane_of, numbers_by}
use Rattle.savi_core.specs.Waits.{queued_item, shown_lane, IsThere, AreThere, Show}
use Rattle.savi_history.specs.ShutPorts.{shut_after, is_shut}
use Rattle.savi_history.proofs.Directing.{and-false}
use Rattle.savi_history.proofs.Shutting.{shut_inside as known_if_shut}
use Rattle.std.proofs.Math.Path.{fun_ext}
use Rattle.std.proofs.lemmas.Nat.Bits.{bit_at-zero}
use Rattle.savi_kinds.specs.declared.port.PortSet.{PortSet}
use Rattle.savi_kinds.specs.PortSets.{no_ports}
use Rattle.savi_core.specs.Rings.{shut_in}
use Rattle.savi_kinds.specs.declared.entry.Act.{Act}
use Rattle.savi_core.specs.Counts.{still_to_come, count_waiting, open_below}
use Rattle.savi_core.specs.PassMarks.{open_among}
use Rattle.savi_core.proofs.Ending.{none_ended}
use Rattle.savi_core.specs.Remembers.{CoreState, Remembers}
use Rattle.savi_core.proofs.Places.{length-numbers, place_at, pass_within}
use Rattle.savi_core.proofs.PlaceTable.{role_at, vlan_at}
use Rattle.savi_core.proofs.Lanes.{laned}
use Rattle.savi_core.proofs.Showing.{lane_at}
use Rattle.savi_core.proofs.Counting.{open_below-le, waiting_at-le}

pub reverse_push : (rows : List Row) (r : Row) → reverse (rows ++ r ∷ []) ≡ r ∷ reverse rows
reverse_push rows r = reverse-append rows (r ∷ [])

pub held-reverse : (rows : List Row) → held (reverse rows) ≡ held rows
held-reverse [] = refl
held-reverse (r ∷ rows) =
    let turned : held (reverse (r ∷ rows)) ≡ held (reverse rows ++ r ∷ []) = ap held (reverse-append (r ∷ []) rows) in
    omega (arith, turned, held-append (reverse rows) (r ∷ []), held-reverse rows)

-- at the start

-- the lane of a port is that of its part of the plan
start_role : (plan : Plan) (k : ℕ) (d : PortPlan) → IsValidPlan plan → k < length plan.ports → role_of plan (number_of (get_or plan.ports k d).number) ≡ (get_or plan.ports k d).role
start_role plan k d valid within =
    let in_numbers : k < length (numbers_of plan.ports) = omega (arith, within, length-numbers plan.ports) in
    let number : PortPlan → ℕ = λ p. number_of p.number in
    let number_is : get_or (numbers_of plan.ports) k 0 ≡ number_of (get_or plan.ports k d).number = get_or-map number plan.ports k d 0 within in
    let place_is : place_among (numbers_of plan.ports) (number_of (get_or plan.ports k d).number) ≡ k = ap (place_among (numbers_of plan.ports)) (sym number_is) ∙ place_at (numbers_of plan.ports) k valid.ports in_numbers in
    sym (role_at plan.ports (number_of (get_or plan.ports k d).number) d (omega (arith, place_is, within)))
    ∙ ap (λ (n : ℕ). (get_or plan.ports n d).role) place_is

-- so are its VLANs
start_vlan : (plan : Plan) (k : ℕ) (d : PortPlan) → IsValidPlan plan → k < length plan.ports → vlan_among plan.ports (number_of (get_or plan.ports k d).number) ≡ Some (get_or plan.ports k d).vlan
start_vlan plan k d valid within =
    let in_numbers : k < length (numbers_of plan.ports) = omega (arith, within, length-numbers plan.ports) in
    let number : PortPlan → ℕ = λ p. number_of p.number in
    let number_is : get_or (numbers_of plan.ports) k 0 ≡ number_of (get_or plan.ports k d).number = get_or-map number plan.ports k d 0 within in
    let place_is : place_among (numbers_of plan.ports) (number_of (get_or plan.ports k d).number) ≡ k = ap (place_among (numbers_of plan.ports)) (sym number_is) ∙ place_at (numbers_of plan.ports) k valid.ports in_numbers in
    sym (vlan_at plan.ports (number_of (get_or plan.ports k d).number) d (omega (arith, place_is, within)))
    ∙ ap (λ (n : ℕ). Some (get_or plan.ports n d).vlan) place_is

start_shown : (plan : Plan) (ports : List PortPlan) → ((k : ℕ) (d : PortPlan) → k < length ports → role_of plan (number_of (get_or ports k d).number) ≡ (get_or ports k d).role)
    → ((k : ℕ) (d : PortPlan) → k < length ports → vlan_among plan.ports (number_of (get_or ports k d).number) ≡ Some (get_or ports k d).vlan)
    → map (shown_lane plan []) (map (empty_lane plan.depth) ports) ≡ map (lane_of plan empty []) (numbers_of ports)
start_shown plan [] roles vlans = refl
start_shown plan (p ∷ ports) roles vlans =
    ap (λ (role : Role). laned plan.depth (number_of p.number) (is_trusted role) (numbers_of_vlan p.vlan) plan.depth [] ∷ map (shown_lane plan []) (map (empty_lane plan.depth) ports)) (sym (roles 0 p (omega arith)))
    ∙ ap (λ (vlan : Option Vlan). laned plan.depth (number_of p.number) (is_trusted (role_of plan (number_of p.number))) (numbers_by vlan) plan.depth [] ∷ map (shown_lane plan []) (map (empty_lane plan.depth) ports)) (sym (vlans 0 p (omega arith)))
    ∙ ap (λ lanes. lane_of plan empty [] (number_of p.number) ∷ lanes) (start_shown plan ports (λ k d within. roles (suc k) d (omega (arith, within))) (λ k d within. vlans (suc k) d (omega (arith, within))))

start_there : (depth : ℕ) (ports : List PortPlan) → All (AreThere []) (map (empty_lane depth) ports)
start_there depth [] = All-nil (AreThere [])
start_there depth (p ∷ ports) = All-cons (AreThere []) (empty_lane depth p) (map (empty_lane depth) ports) (All-nil (IsThere [])) (start_there depth ports)

-- no port is shut
pub none_shut : shut_in no_ports ≡ (λ number. false)
none_shut = fun_ext (λ number. rw (bit_at-zero (number - 1)) (and-false (nat_le 1 number)))

-- what a core keeps at its start
pub remembers_start : (plan : Plan) (lanes : List (Lane Queued)) → IsValidPlan plan → lanes ≡ map (empty_lane plan.depth) plan.ports
    → Remembers (record { plan = plan; base = empty; rows = []; moment = 0; ended = replicate 34 false; shut = no_ports; lanes = lanes })
remembers_start plan lanes valid are = record {
  valid = valid;
  within = empty_within plan valid;
  legal = tt;
  last = refl;
  passes = λ pass below. none_ended 34 pass;
  marks = refl;
  shut_ports = none_shut;
  shut_inside = λ number shut. absurd (false≢true (sym (ap (λ (f : ℕ → Bool). f number) none_shut) ∙ shut));
  queues = record {
    there = subst (λ (ls : List (Lane Queued)). All (AreThere []) ls) (sym are) (start_there plan.depth plan.ports);
    same = ap (map (shown_lane plan [])) are ∙ start_shown plan plan.ports (λ k d within. start_role plan k d valid within) (λ k d within. start_vlan plan k d valid within);
  };
  octets = omega arith;
  room = λ near. absurd (omega (arith, near, valid.entries.0));
}

-- one more row, by the event that it is of
pub record HasNext (k : CoreState) (r : Row) (ended' : List Bool) (shut' : PortSet) (lanes' : List (Lane Queued)) : Type 0 where
  pub passes : (pass : ℕ) → pass < pass_count k.plan → get_or ended' pass false ≡ ((is_end r.entry.act && (r.entry.by == pass)) || get_or k.ended pass false)
  pub marks : length ended' ≡ length k.ended
  pub shut_ports : shut_in shut' ≡ (λ number. is_shut k.plan k.base number (r ∷ reverse k.rows))
  pub queues : Show k.plan (k.rows ++ r ∷ []) lanes' (lane_of k.plan k.base (r ∷ reverse k.rows))
  pub octets : held k.rows + length r.octets ≤ k.plan.bytes
  pub room : k.plan.entries < length k.rows + 1 + 4130 → length k.rows + 1 + still_to_come k.plan k.base (r ∷ reverse k.rows) ≤ k.plan.entries

module _ {k : CoreState} (was : Remembers k) where
  abbrev pub past : List Row
  past = reverse k.rows

  pub remembers_next : (event : Event) (r : Row) (moment' : ℕ) (ended' : List Bool) (shut' : PortSet) (lanes' : List (Lane Queued)) → MayCome k.plan k.base (reverse k.rows) event → r ≡ row_of k.plan k.base (reverse k.rows) event → moment' ≡ r.entry.moment → HasNext k r ended' shut' lanes'
      → Remembers (record { plan = k.plan; base = k.base; rows = k.rows ++ r ∷ []; moment = moment'; ended = ended'; shut = shut'; lanes = lanes' })
  remembers_next event r moment' ended' shut' lanes' may is_row moment_is next =
      let at : reverse (k.rows ++ r ∷ []) ≡ r ∷ reverse k.rows = reverse_push k.rows r in
      let longer : length (k.rows ++ r ∷ []) ≡ length k.rows + 1 = omega (arith, length-append k.rows (r ∷ [])) in
      record {
        valid = was.valid;
        within = was.within;
        legal = rw at ((event, may, is_row), was.legal);
        last = rw at moment_is;
        passes = λ pass below. rw at (next.passes pass below ∙ ap (λ b. (is_end r.entry.act && (r.entry.by == pass)) || b) (was.passes pass below));
        marks = next.marks ∙ was.marks;
        shut_ports = rw at next.shut_ports;
        shut_inside = λ number shut. known_if_shut k.plan k.base (r ∷ reverse k.rows) number was.within (sym (ap (λ (f : ℕ → Bool). f number) next.shut_ports) ∙ shut);
        queues = rw at next.queues;
        octets = omega (arith, held-append k.rows (r ∷ []), next.octets);
        room = rw (at, longer) next.room;
      }

  -- an entry that is no command leaves the ports as they are
  pub shut_still : (r : Row) (act : Act) → r.entry.act ≡ act → ((number : ℕ) → shut_after k.plan number r.octets act (is_shut k.plan k.base number (reverse k.rows)) ≡ is_shut k.plan k.base number (reverse k.rows))
      → shut_in k.shut ≡ (λ number. is_shut k.plan k.base number (r ∷ reverse k.rows))
  shut_still r act is leaves =
      was.shut_ports
      ∙ fun_ext (λ number. sym (leaves number) ∙ ap (λ (a : Act). shut_after k.plan number r.octets a (is_shut k.plan k.base number (reverse k.rows))) (sym is))

  -- how many passes are open
  pub open_is : (n : ℕ) → n ≤ pass_count k.plan → open_among k.ended n ≡ open_below k.base (reverse k.rows) n
  open_is zero within = refl
  open_is (suc n) within =
      let here : ◌≡◌ {A = ℕ} (cond (get_or k.ended n false) 0 1) (cond (has_ended k.base n (reverse k.rows)) 0 1) = ap (λ (b : Bool). cond b 0 1) (was.passes n (omega (arith, within))) in
      omega (arith, open_is n (omega (arith, within)), here)

  -- how many items wait there
  pub waits_at : (number p : ℕ) (d : Lane Queued) → has_port k.plan number ≡ true → p ≡ place_of k.plan number → length (queue k.plan k.base number (reverse k.rows)) ≡ length (get_or k.lanes p d).items
  waits_at number p d known place_is =
      ap (λ (lane : Lane Item). length lane.items) (sym (lane_at was.queues number p d known place_is)) ∙ length-map (get_or k.lanes p d).items (queued_item k.plan k.rows (get_or k.lanes p d).number)

  pub few_to_come : still_to_come k.plan k.base (reverse k.rows) ≤ 4130
  few_to_come =
      let wait : count_waiting k.plan k.base (reverse k.rows) (numbers_of k.plan.ports) ≤ 256 * length (numbers_of k.plan.ports) =
      waiting_at-le k.plan k.base (reverse k.rows) 256 (numbers_of k.plan.ports) (λ n within. omega (arith, queue_within k.plan k.base (get_or (numbers_of k.plan.ports) n 0) (reverse k.rows), was.valid.depth.1)) in
      omega (arith, wait, length-numbers k.plan.ports, open_below-le k.base (reverse k.rows) (pass_count k.plan), was.valid.port_count.1)

  -- a drain or an end fits
  pub fits : 0 < still_to_come k.plan k.base (reverse k.rows) → length k.rows < k.plan.entries
  fits some =
      elim (cases_lt k.plan.entries (length k.rows + 4130)) [
        | inl near ↦ omega (arith, was.room near, some)
        | inr far ↦ omega (arith, far)
      ]

  -- a drain or an end leaves room for what is still to come
  pub room_less : (r : Row) → still_to_come k.plan k.base (r ∷ reverse k.rows) + 1 ≤ still_to_come k.plan k.base (reverse k.rows) → k.plan.entries < length k.rows + 1 + 4130 → length k.rows + 1 + still_to_come k.plan k.base (r ∷ reverse k.rows) ≤ k.plan.entries
  room_less r less near =
      elim (cases_lt k.plan.entries (length k.rows + 4130)) [
        | inl before ↦ omega (arith, was.room before, less)
        | inr at ↦ omega (arith, at, few_to_come, less)
      ]

  -- what room for an input means
  pub room_for : has_room k.plan (reverse k.rows) ≡ true → (length k.rows + 4130 < k.plan.entries) × (held k.rows + 1518 ≤ k.plan.bytes)
  room_for room =
      let both = and_parts _ _ room in
      let entries : length (reverse k.rows) + 4130 < k.plan.entries = ltb-true _ _ both.0 in
      let octets : held (reverse k.rows) + 1518 ≤ k.plan.bytes = leb-true _ _ both.1 in
      (omega (arith, entries, length-reverse k.rows), omega (arith, octets, held-reverse k.rows))

  pub pass_small : (who : Who) → has_pass k.plan who ≡ true → pass_of k.plan who < 34
  pass_small who known = omega (arith, pass_within k.plan who known, was.valid.port_count.1)
