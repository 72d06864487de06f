-- A frame is cut where its queue doesn't take it behind the probes of its entry.
use Rattle.std.proofs.Common.{◌≡◌, ℕ, ◌-◌, ◌<◌, ◌≤◌, ◌&&◌, nat_le, Bool, true, if◌then◌else◌, List, [], ◌∷◌, ◌++◌, length, take, refl, sym, ap, subst, ◌∙◌, arith, length-append}
use Rattle.std.proofs.lemmas.List.{length-take}
use Rattle.std.proofs.lemmas.Bool.{and_from, and_parts}
use Rattle.std.proofs.lemmas.Bool.Decides.{nat_tests}
use Rattle.savi_kinds.specs.declared.plan.Plan.{Plan}
use Rattle.savi_kinds.specs.declared.port.Port.{Port}
use Rattle.savi_kinds.specs.declared.port.PortSet.{PortSet}
use Rattle.savi_kinds.specs.declared.entry.Act.{Act}
use Rattle.savi_kinds.specs.PortSets.{is_member}
use Rattle.hist_store.specs.Rows.{Row}
use Rattle.checkpoint.specs.Bases.{Base}
use Rattle.savi_history.specs.Passes.{has_port, place_of}
use Rattle.savi_history.specs.Queues.{Item, item_of, room_at, all_joined, offered_at, queue, is_closed, cuts}
use Rattle.savi_history.specs.QueueLaws.{frame_to, IsLeftOut, AreCut}
use Rattle.savi_history.specs.Events.{Event, Frame, Long, Command, Tick, Drain, End, row_of, frame_act, outs_of}
use Rattle.savi_history.specs.Legal.{IsLegal}
use Rattle.savi_history.proofs.Joining.{length-all_joined}
use Rattle.savi_history.proofs.PortMembers.{member_is}
use Rattle.savi_history.proofs.PortPlaces.{placed, place_within}

-- no room behind some items is no room for all of them and one more
closed_left : (room : ℕ) (waiting first : List Item) (item : Item) → nat_le room (length (all_joined room waiting first)) ≡ true → length (take (room - length waiting) (first ++ item ∷ [])) < length (first ++ item ∷ [])
closed_left room waiting first item closed =
    let full : room ≤ length (all_joined room waiting first) = grind (arith, nat_tests) in
    omega (arith, full, length-all_joined room waiting first, length-take (room - length waiting) first, length-take (room - length waiting) (first ++ item ∷ []), length-append first (item ∷ []))

left_closed : (room : ℕ) (waiting first : List Item) (item : Item) → length (take (room - length waiting) (first ++ item ∷ [])) < length (first ++ item ∷ []) → nat_le room (length (all_joined room waiting first)) ≡ true
left_closed room waiting first item fewer =
    let full : room ≤ length (all_joined room waiting first) = omega (arith, fewer, length-all_joined room waiting first, length-take (room - length waiting) first, length-take (room - length waiting) (first ++ item ∷ []), length-append first (item ∷ [])) in
    grind (arith, nat_tests)

module _ (plan : Plan) (base : Base) (past : List Row) (act : Act) (octets : List ℕ) (out : PortSet) where
  pub cut_member : (q : ℕ) → has_port plan q ≡ true → is_member (cuts plan base past act octets out) q ≡ (is_member out q && is_closed plan base past act octets q)
  cut_member q has =
      subst (λ (n : ℕ). is_member (cuts plan base past act octets out) n ≡ (is_member out n && is_closed plan base past act octets n)) (placed plan q has).number_is
      (member_is (λ n. is_member out n && is_closed plan base past act octets n) plan.ports (place_of plan q) (place_within plan q has))

-- where a frame doesn't go, it isn't cut
frame_there : (plan : Plan) (q : ℕ) (port : Port) (r : Row) → is_member r.entry.outs q ≡ true → frame_to plan q port r ≡ item_of plan q port r ∷ []
frame_there plan q port r goes = ap (λ (b : Bool). if b then item_of plan q port r ∷ [] else []) goes

module _ (plan : Plan) (base : Base) (past : List Row) (port : Port) (stamp : ℕ) (octets : List ℕ) where
  abbrev first : ℕ → List Item
  first q = offered_at plan base past (frame_act past port stamp octets) octets q

  abbrev out : PortSet
  out = outs_of plan base past port stamp octets

  abbrev frame : ℕ → Item
  frame q = item_of plan q port (row_of plan base past (Frame port stamp octets))

  abbrev left : (q : ℕ) → List Item → Type 0
  left q offered = length (take (room_at plan base past q - length (queue plan base q past)) offered) < length offered

  there : (q : ℕ) → is_member out q ≡ true → first q ++ frame_to plan q port (row_of plan base past (Frame port stamp octets)) ≡ first q ++ frame q ∷ []
  there q goes = ap (λ (l : List Item). first q ++ l) (frame_there plan q port (row_of plan base past (Frame port stamp octets)) goes)

  pub frame_cut : IsLeftOut plan base past (row_of plan base past (Frame port stamp octets)) (frame_act past port stamp octets)
  frame_cut q has =
      let is = cut_member plan base past (frame_act past port stamp octets) octets out q has in (
        λ cut.
            let both = and_parts _ _ (sym is ∙ cut) in
            (both.0, subst (left q) (sym (there q both.0)) (closed_left (room_at plan base past q) (queue plan base q past) (first q) (frame q) both.1)),
        λ goes_left.
            is ∙ and_from _ _ goes_left.0 (left_closed (room_at plan base past q) (queue plan base q past) (first q) (frame q) (subst (left q) (there q goes_left.0) goes_left.1)),
      )

row_cut : (plan : Plan) (base : Base) (past : List Row) (event : Event) → IsLeftOut plan base past (row_of plan base past event) (row_of plan base past event).entry.act
row_cut plan base past (Frame port stamp octets) = frame_cut plan base past port stamp octets
row_cut plan base past (Long port stamp len) = refl
row_cut plan base past (Command stamp line) = refl
row_cut plan base past (Tick stamp) = refl
row_cut plan base past (Drain port count) = refl
row_cut plan base past (End who how) = refl

pub all_cut : (plan : Plan) (base : Base) (past : List Row) → IsLegal plan base past → AreCut plan base past
all_cut plan base [] legal = tt
all_cut plan base (r ∷ past) legal =
    (subst (λ (x : Row). IsLeftOut plan base past x x.entry.act) (sym legal.0.2) (row_cut plan base past legal.0.0), all_cut plan base past legal.1)
