-- What is offered to a queue joins it, in order, and is counted.
use Rattle.std.proofs.Common.{◌≡◌, ℕ, ◌-◌, ◌==◌, Bool, true, false, if◌then◌else◌, List, [], ◌∷◌, ◌++◌, length, take, drop, refl, sym, ap, subst, ◌∙◌, arith, append_assoc, append-nil, length-append}
use Rattle.std.proofs.lemmas.List.{take-append-drop}
use Rattle.savi_kinds.specs.declared.plan.Plan.{Plan}
use Rattle.savi_kinds.specs.declared.entry.Act.{Act}
use Rattle.savi_kinds.specs.declared.entry.Act.TheVariants as acts
use Rattle.savi_kinds.specs.declared.entry.Who.{Who}
use Rattle.savi_kinds.specs.declared.entry.Who.TheVariants as passes
use Rattle.savi_kinds.specs.declared.entry.How.{How}
use Rattle.savi_kinds.specs.declared.entry.How.TheVariants as hows
use Rattle.savi_kinds.specs.Ports.{number_of}
use Rattle.savi_kinds.specs.PortSets.{is_member}
use Rattle.savi_kinds.specs.ValidPlan.{numbers_of}
use Rattle.hist_store.specs.Rows.{Row}
use Rattle.checkpoint.specs.Bases.{Base}
use Rattle.savi_history.specs.Queues.{Item, item_of, room_at, joined_queue, all_joined, offered_at, waiting_after, taken_by, queue, sent, queued_at, lost_at, over_ports, probes, lost}
use Rattle.savi_history.specs.QueueLaws.{frame_to, all_offered, room_left, added, came, is_failure_at, NeverFailed, probes_taken, probes_left, IsCounted, AreCounted}
use Rattle.savi_history.specs.Events.{Event, Frame, Long, Command, Tick, Drain, End, row_of, command_act, frame_act}
use Rattle.savi_history.specs.Legal.{IsLegal}
use Rattle.savi_history.proofs.Joining.{no_items, take_none, all_joined-is, length-all_joined}

-- items one after the other are items joined to the first ones
pub joined_behind : (room : ℕ) (waiting first second : List Item) → all_joined room waiting (first ++ second) ≡ all_joined room (all_joined room waiting first) second
joined_behind room waiting [] second = refl
joined_behind room waiting (item ∷ first) second = joined_behind room (joined_queue room waiting item) first second

frame_joins : (b : Bool) (room : ℕ) (item : Item) (waiting : List Item) → (if b then joined_queue room waiting item else waiting) ≡ all_joined room waiting (if b then item ∷ [] else [])
frame_joins true room item waiting = refl
frame_joins false room item waiting = refl

drop_some : (b : Bool) (count : ℕ) (waiting : List Item) → (if b then take count waiting else no_items) ++ (if b then drop count waiting else waiting) ≡ waiting
drop_some true count waiting = take-append-drop count waiting
drop_some false count waiting = refl

nothing_added : (room : ℕ) (items : List Item) → items ≡ items ++ take room no_items
nothing_added room items = sym (append-nil items) ∙ ap (λ (l : List Item). items ++ l) (sym (take_none room))

-- an end that isn't for a failed write at q leaves what waits there
end_leaves : (plan : Plan) (base : Base) (past : List Row) (q : ℕ) (r : Row) (who : Who) (how : How) (waiting : List Item) → is_failure_at q (acts.End who how) ≡ false → waiting_after plan base past q r (acts.End who how) waiting ≡ waiting
end_leaves plan base past q r (passes.Egress p) hows.Failed waiting other = rw other refl
end_leaves plan base past q r (passes.Egress p) hows.End waiting other = refl
end_leaves plan base past q r (passes.Egress p) hows.Quit waiting other = refl
end_leaves plan base past q r (passes.Egress p) (hows.Malformed at) waiting other = refl
end_leaves plan base past q r (passes.Egress p) (hows.Overlong at) waiting other = refl
end_leaves plan base past q r (passes.Egress p) hows.Unwritten waiting other = refl
end_leaves plan base past q r (passes.Egress p) hows.Paused waiting other = refl
end_leaves plan base past q r (passes.Ingress p) how waiting other = refl
end_leaves plan base past q r passes.Control how waiting other = refl
end_leaves plan base past q r passes.Ticker how waiting other = refl

module _ (plan : Plan) (base : Base) (past : List Row) (q : ℕ) (r : Row) (waiting : List Item) where
  abbrev room : ℕ
  room = room_at plan base past q

  -- what an entry takes and what it leaves is what waited, and behind it what it adds
  one_entry : (act : Act) → is_failure_at q act ≡ false → taken_by q act waiting ++ waiting_after plan base past q r act waiting ≡ waiting ++ take (room - length waiting) (all_offered plan base past r act q)
  one_entry (acts.Frame port stamp at len) other =
      let first = offered_at plan base past (acts.Frame port stamp at len) r.octets q in
      frame_joins (is_member r.entry.outs q) room (item_of plan q port r) (all_joined room waiting first)
      ∙ sym (joined_behind room waiting first (frame_to plan q port r))
      ∙ all_joined-is room waiting (first ++ frame_to plan q port r)
  one_entry (acts.Long port stamp len) other = all_joined-is room waiting (offered_at plan base past (acts.Long port stamp len) r.octets q)
  one_entry (acts.Tick stamp) other = all_joined-is room waiting (offered_at plan base past (acts.Tick stamp) r.octets q)
  one_entry (acts.Command stamp at len) other = all_joined-is room waiting (offered_at plan base past (acts.Command stamp at len) r.octets q)
  one_entry (acts.Drain port count) other = drop_some (number_of port == q) count waiting ∙ nothing_added (room - length waiting) waiting
  one_entry (acts.End who how) other = end_leaves plan base past q r who how waiting other ∙ nothing_added (room - length waiting) waiting

pub in_order : (plan : Plan) (base : Base) (q : ℕ) (past : List Row) → NeverFailed q past → sent plan base q past ++ queue plan base q past ≡ came plan base q past
in_order plan base q [] never = refl
in_order plan base q (r ∷ past) never =
    let waiting = queue plan base q past in
    let before = sent plan base q past in
    let act = r.entry.act in
    append_assoc before (taken_by q act waiting) (waiting_after plan base past q r act waiting)
    ∙ ap (λ (l : List Item). before ++ l) (one_entry plan base past q r waiting act never.0)
    ∙ sym (append_assoc before waiting (added plan base past r q))
    ∙ ap (λ (l : List Item). l ++ added plan base past r q) (in_order plan base q past never.1)

-- counts

same_sum : (f g : ℕ → ℕ) → ((q : ℕ) → f q ≡ g q) → (qs : List ℕ) → over_ports qs f ≡ over_ports qs g
same_sum f g same [] = refl
same_sum f g same (q ∷ qs) = omega (arith, same q, same_sum f g same qs)

module _ (plan : Plan) (base : Base) (past : List Row) (act : Act) (octets : List ℕ) where
  queued_is : (q : ℕ) → queued_at plan base past act octets q ≡ length (probes_taken plan base past act octets q)
  queued_is q =
      let waiting = queue plan base q past in
      omega (arith, length-all_joined (room_at plan base past q) waiting (offered_at plan base past act octets q))

  lost_is : (q : ℕ) → lost_at plan base past act octets q ≡ length (probes_left plan base past act octets q)
  lost_is q =
      let items = offered_at plan base past act octets q in
      omega (arith, queued_is q, ap (λ (l : List Item). length l) (take-append-drop (room_left plan base past q) items), length-append (probes_taken plan base past act octets q) (probes_left plan base past act octets q))

  pub probes_counted : probes plan base past act octets ≡ over_ports (numbers_of plan.ports) (λ q. length (probes_taken plan base past act octets q))
  unfolding probes
  probes_counted = same_sum (queued_at plan base past act octets) (λ q. length (probes_taken plan base past act octets q)) queued_is (numbers_of plan.ports)

  pub lost_counted : lost plan base past act octets ≡ over_ports (numbers_of plan.ports) (λ q. length (probes_left plan base past act octets q))
  unfolding lost
  lost_counted = same_sum (lost_at plan base past act octets) (λ q. length (probes_left plan base past act octets q)) lost_is (numbers_of plan.ports)

row_counted : (plan : Plan) (base : Base) (past : List Row) (event : Event) → IsCounted plan base past (row_of plan base past event) (row_of plan base past event).entry.act
row_counted plan base past (Frame port stamp octets) =
    (probes_counted plan base past (frame_act past port stamp octets) octets, lost_counted plan base past (frame_act past port stamp octets) octets)
row_counted plan base past (Long port stamp len) =
    (probes_counted plan base past (acts.Long port stamp len) [], lost_counted plan base past (acts.Long port stamp len) [])
row_counted plan base past (Command stamp line) =
    (probes_counted plan base past (command_act past stamp line) line, lost_counted plan base past (command_act past stamp line) line)
row_counted plan base past (Tick stamp) =
    (probes_counted plan base past (acts.Tick stamp) [], lost_counted plan base past (acts.Tick stamp) [])
row_counted plan base past (Drain port count) = (refl, refl)
row_counted plan base past (End who how) = (refl, refl)

pub all_counted : (plan : Plan) (base : Base) (past : List Row) → IsLegal plan base past → AreCounted plan base past
all_counted plan base [] legal = tt
all_counted plan base (r ∷ past) legal =
    (subst (λ (x : Row). IsCounted plan base past x x.entry.act) (sym legal.0.2) (row_counted plan base past legal.0.0), all_counted plan base past legal.1)
