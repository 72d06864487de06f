-- Lanes that all change alike, or one of them, and what they show.
use Rattle.std.proofs.Common.{ℕ, zero, suc, ◌≡◌, ◌≢◌, ◌<◌, ◌==◌, ◌&&◌, ◌||◌, nat_lt, nat_le, Bool, true, false, if◌then◌else◌, List, [], ◌∷◌, ◌++◌, length, map, get_or, set, drop, refl, sym, ap, ◌∙◌, arith}
use Rattle.std.specs.Prelude.{All}
use Rattle.std.specs.List.{filter}
use Rattle.std.proofs.lemmas.Bool.{eq-eqb, ne_eqb}
use Rattle.std.proofs.lemmas.List.{map-append, length-map, drop-map}
use Rattle.std.proofs.lemmas.List.Elements.{All-nil, All-head, All-tail, All-push, All-drop}
use Rattle.savi_kinds.specs.declared.port.Port.{Port}
use Rattle.savi_kinds.specs.declared.port.PortSet.{PortSet}
use Rattle.savi_kinds.specs.declared.plan.Plan.{Plan}
use Rattle.savi_kinds.specs.declared.entry.Act.{Act}
use Rattle.savi_kinds.specs.declared.entry.Act.TheVariants as acts
use Rattle.savi_kinds.specs.declared.entry.Who.{Who}
use Rattle.savi_kinds.specs.declared.entry.Who.TheVariants.{Ingress, Control, Ticker, Egress}
use Rattle.savi_kinds.specs.declared.entry.How.{How}
use Rattle.savi_kinds.specs.declared.entry.How.TheVariants as hows
use Rattle.savi_kinds.specs.Ports.{number_of}
use Rattle.savi_kinds.specs.Vlans.{vlan_among}
use Rattle.savi_kinds.specs.PortSets.{is_member}
use Rattle.egress_ring.specs.declared.item.Item.{Item as Queued}
use Rattle.egress_ring.specs.declared.item.Item.TheVariants as queued
use Rattle.hist_store.specs.Rows.{Row}
use Rattle.checkpoint.specs.Bases.{Base}
use Rattle.savi_history.specs.Passes.{has_ended, has_port, has_pass, pass_of, egress_pass, is_end, role_of, is_trusted}
use Rattle.savi_history.specs.Queues.{Item, item_of, room_at, probed, framed, waiting_after, queue}
use Rattle.savi_history.proofs.Closed.{same_port}
use Rattle.savi_history.proofs.PortPlaces.{place_within}
use Rattle.savi_core.specs.Lanes.{Lane, with_frame, is_cut, with_drained, with_ended, lane_of, numbers_by}
use Rattle.savi_core.specs.Waits.{frame_item, queued_item, shown_lane, IsFrameRow, IsThere, AreThere}
use Rattle.savi_core.proofs.Frames.{frame_of-last, shown_all, there_more, is_there-last}

and_false : (b : Bool) → (b && false) ≡ false
and_false true = refl
and_false false = refl

-- lists

pub across : {A B : Type 0} (P : A → Type 0) (show later : A → B) (change : A → A) (change_shown : B → B) → ((x : A) → P x → later (change x) ≡ change_shown (show x)) → (xs : List A) → All P xs → map later (map change xs) ≡ map change_shown (map show xs)
across P show later change change_shown same [] all = refl
across P show later change change_shown same (x ∷ xs) all =
    ap (λ y. y ∷ map later (map change xs)) (same x (All-head P x xs all))
    ∙ ap (λ ys. change_shown (show x) ∷ ys) (across P show later change change_shown same xs (All-tail P x xs all))

pub same_at : {A B : Type 0} (P : A → Type 0) (show later : A → B) → ((x : A) → P x → later x ≡ show x) → (xs : List A) → All P xs → map later xs ≡ map show xs
same_at P show later same [] all = refl
same_at P show later same (x ∷ xs) all =
    ap (λ y. y ∷ map later xs) (same x (All-head P x xs all)) ∙ ap (λ ys. show x ∷ ys) (same_at P show later same xs (All-tail P x xs all))

pub map_all : {A : Type 0} (f g : ℕ → A) → (ns : List ℕ) → ((k : ℕ) → k < length ns → f (get_or ns k 0) ≡ g (get_or ns k 0)) → map f ns ≡ map g ns
map_all f g [] same = refl
map_all f g (n ∷ ns) same =
    ap (λ x. x ∷ map f ns) (same 0 (omega arith)) ∙ ap (λ xs. g n ∷ xs) (map_all f g ns (λ k within. same (suc k) (omega (arith, within))))

pub map_twice : {A B : Type 0} (f : A → B) (h : B → B) (g : A → B) → ((x : A) → h (f x) ≡ g x) → (xs : List A) → map h (map f xs) ≡ map g xs
map_twice f h g same [] = refl
map_twice f h g same (x ∷ xs) = ap (λ y. y ∷ map h (map f xs)) (same x) ∙ ap (λ ys. g x ∷ ys) (map_twice f h g same xs)

-- one element has changed
pub one_changed : {A : Type 0} (f g : ℕ → A) (ns : List ℕ) (p : ℕ) → p < length ns → ((k : ℕ) → k < length ns → k ≢ p → f (get_or ns k 0) ≡ g (get_or ns k 0)) → set (map f ns) p (g (get_or ns p 0)) ≡ map g ns
one_changed f g [] p within others = absurd (omega (arith, within))
one_changed f g (n ∷ ns) zero within others = ap (λ xs. g n ∷ xs) (map_all f g ns (λ k inside. others (suc k) (omega (arith, inside)) (omega arith)))
one_changed f g (n ∷ ns) (suc p) within others =
    ap (λ x. x ∷ set (map f ns) p (g (get_or ns p 0))) (others 0 (omega arith) (omega arith))
    ∙ ap (λ xs. g n ∷ xs) (one_changed f g ns p (omega (arith, within)) (λ k inside other. others (suc k) (omega (arith, inside)) (omega (arith, other))))

-- what lanes show

abbrev pub laned : {A : Type 0} → ℕ → ℕ → Bool → List ℕ → ℕ → List A → Lane A
laned depth number trusted vlans room items = record { number = number; trusted = trusted; vlans = vlans; depth = depth; room = room; items = items }

-- a lane shows the same in a longer history
pub shown_more : (plan : Plan) (rows : List Row) (r : Row) (lane : Lane Queued) → AreThere rows lane → shown_lane plan (rows ++ r ∷ []) lane ≡ shown_lane plan rows lane
shown_more plan rows r lane there = ap (λ (items : List Item). laned lane.depth lane.number lane.trusted lane.vlans lane.room items) (shown_all plan lane.number rows (r ∷ []) lane.items there)

pub there_still : (rows : List Row) (r : Row) (lane : Lane Queued) → AreThere rows lane → AreThere (rows ++ r ∷ []) lane
there_still rows r lane there = there_more rows (r ∷ []) lane.items there

module _ (plan : Plan) (rows : List Row) (r : Row) (outs : PortSet) (lane : Lane Queued) (there : AreThere rows lane) where
  pushed : map (queued_item plan (rows ++ r ∷ []) lane.number) (lane.items ++ queued.Frame (length rows) ∷ []) ≡ map (queued_item plan rows lane.number) lane.items ++ frame_item plan lane.number r r.entry.act ∷ []
  pushed =
      map-append (queued_item plan (rows ++ r ∷ []) lane.number) lane.items (queued.Frame (length rows) ∷ [])
      ∙ ap (λ front. front ++ queued_item plan (rows ++ r ∷ []) lane.number (queued.Frame (length rows)) ∷ []) (shown_all plan lane.number rows (r ∷ []) lane.items there)
      ∙ ap (λ last. map (queued_item plan rows lane.number) lane.items ++ last ∷ []) (frame_of-last plan lane.number rows r)

  framed_at : (b c : Bool) → shown_lane plan (rows ++ r ∷ []) (if b then (if c then record lane { items = lane.items ++ queued.Frame (length rows) ∷ [] } else lane) else lane)
      ≡ (if b then (if c then record (shown_lane plan rows lane) { items = map (queued_item plan rows lane.number) lane.items ++ frame_item plan lane.number r r.entry.act ∷ [] } else shown_lane plan rows lane) else shown_lane plan rows lane)
  framed_at true true = ap (λ (items : List Item). laned lane.depth lane.number lane.trusted lane.vlans lane.room items) pushed
  framed_at true false = shown_more plan rows r lane there
  framed_at false c = shown_more plan rows r lane there

  -- a frame of a new row, offered, shows as that frame offered
  pub shown_framed : shown_lane plan (rows ++ r ∷ []) (with_frame (queued.Frame (length rows)) outs lane) ≡ with_frame (frame_item plan lane.number r r.entry.act) outs (shown_lane plan rows lane)
  shown_framed =
      framed_at (is_member outs lane.number) (nat_lt (length lane.items) lane.room)
      ∙ ap (λ (n : ℕ). if is_member outs lane.number then (if nat_lt n lane.room then record (shown_lane plan rows lane) { items = map (queued_item plan rows lane.number) lane.items ++ frame_item plan lane.number r r.entry.act ∷ [] } else shown_lane plan rows lane) else shown_lane plan rows lane)
      (sym (length-map lane.items (queued_item plan rows lane.number)))

  there_at : (b c : Bool) → (b ≡ true → IsFrameRow r r.entry.act) → AreThere (rows ++ r ∷ []) (if b then (if c then record lane { items = lane.items ++ queued.Frame (length rows) ∷ [] } else lane) else lane)
  there_at true true is = All-push (IsThere (rows ++ r ∷ [])) lane.items (queued.Frame (length rows)) (there_more rows (r ∷ []) lane.items there) (is_there-last rows r (is refl))
  there_at true false is = there_still rows r lane there
  there_at false c is = there_still rows r lane there

  pub there_framed : (is_member outs lane.number ≡ true → IsFrameRow r r.entry.act) → AreThere (rows ++ r ∷ []) (with_frame (queued.Frame (length rows)) outs lane)
  there_framed is = there_at (is_member outs lane.number) (nat_lt (length lane.items) lane.room) is

pub shown_drained : (plan : Plan) (rows : List Row) (r : Row) (count : ℕ) (lane : Lane Queued) → AreThere rows lane → shown_lane plan (rows ++ r ∷ []) (with_drained count lane) ≡ with_drained count (shown_lane plan rows lane)
shown_drained plan rows r count lane there =
    ap (λ (items : List Item). laned lane.depth lane.number lane.trusted lane.vlans lane.room items)
    (sym (drop-map (queued_item plan (rows ++ r ∷ []) lane.number) count lane.items) ∙ ap (drop count) (shown_all plan lane.number rows (r ∷ []) lane.items there))

pub there_drained : (rows : List Row) (r : Row) (count : ℕ) (lane : Lane Queued) → AreThere rows lane → AreThere (rows ++ r ∷ []) (with_drained count lane)
there_drained rows r count lane there = All-drop (IsThere (rows ++ r ∷ [])) count lane.items (there_more rows (r ∷ []) lane.items there)

closed_shown : (plan : Plan) (rows : List Row) (r : Row) (lane : Lane Queued) → AreThere rows lane → shown_lane plan (rows ++ r ∷ []) (record lane { room = 0 }) ≡ record (shown_lane plan rows lane) { room = 0 }
closed_shown plan rows r lane there = ap (λ (items : List Item). laned lane.depth lane.number lane.trusted lane.vlans 0 items) (shown_all plan lane.number rows (r ∷ []) lane.items there)

pub shown_ended : (plan : Plan) (rows : List Row) (r : Row) (how : How) (lane : Lane Queued) → AreThere rows lane → shown_lane plan (rows ++ r ∷ []) (with_ended how lane) ≡ with_ended how (shown_lane plan rows lane)
shown_ended plan rows r hows.Failed lane there = refl
shown_ended plan rows r hows.End lane there = closed_shown plan rows r lane there
shown_ended plan rows r hows.Quit lane there = closed_shown plan rows r lane there
shown_ended plan rows r (hows.Malformed at) lane there = closed_shown plan rows r lane there
shown_ended plan rows r (hows.Overlong at) lane there = closed_shown plan rows r lane there
shown_ended plan rows r hows.Unwritten lane there = closed_shown plan rows r lane there
shown_ended plan rows r hows.Paused lane there = closed_shown plan rows r lane there

pub there_ended : (rows : List Row) (r : Row) (how : How) (lane : Lane Queued) → AreThere rows lane → AreThere (rows ++ r ∷ []) (with_ended how lane)
there_ended rows r hows.Failed lane there = All-nil (IsThere (rows ++ r ∷ []))
there_ended rows r hows.End lane there = there_still rows r lane there
there_ended rows r hows.Quit lane there = there_still rows r lane there
there_ended rows r (hows.Malformed at) lane there = there_still rows r lane there
there_ended rows r (hows.Overlong at) lane there = there_still rows r lane there
there_ended rows r hows.Unwritten lane there = there_still rows r lane there
there_ended rows r hows.Paused lane there = there_still rows r lane there

-- cuts

module _ (plan : Plan) (rows : List Row) (outs : PortSet) where
  cut_shown : (lane : Lane Queued) → is_cut outs (shown_lane plan rows lane) ≡ is_cut outs lane
  cut_shown lane = ap (λ (n : ℕ). is_member outs lane.number && nat_le lane.room n) (length-map lane.items (queued_item plan rows lane.number))

  cuts_at : (lane : Lane Queued) (lanes : List (Lane Queued)) (b : Bool) → map (λ (x : Lane Queued). x.number) (filter (is_cut outs) lanes) ≡ map (λ (x : Lane Item). x.number) (filter (is_cut outs) (map (shown_lane plan rows) lanes))
      → map (λ (x : Lane Queued). x.number) (if b then lane ∷ filter (is_cut outs) lanes else filter (is_cut outs) lanes)
      ≡ map (λ (x : Lane Item). x.number) (if b then shown_lane plan rows lane ∷ filter (is_cut outs) (map (shown_lane plan rows) lanes) else filter (is_cut outs) (map (shown_lane plan rows) lanes))
  cuts_at lane lanes true same = ap (λ ns. lane.number ∷ ns) same
  cuts_at lane lanes false same = same

  pub cuts_shown : (lanes : List (Lane Queued)) → map (λ (x : Lane Queued). x.number) (filter (is_cut outs) lanes) ≡ map (λ (x : Lane Item). x.number) (filter (is_cut outs) (map (shown_lane plan rows) lanes))
  cuts_shown [] = refl
  cuts_shown (lane ∷ lanes) = rw (cut_shown lane) (cuts_at lane lanes (is_cut outs lane) (cuts_shown lanes))

-- lanes made for ports
module _ (by : ℕ → Lane Item) (named : (q : ℕ) → (by q).number ≡ q) (outs : PortSet) where
  numbers_at : (n : ℕ) (ns : List ℕ) (b : Bool) → map (λ (x : Lane Item). x.number) (filter (is_cut outs) (map by ns)) ≡ filter (λ (q : ℕ). is_cut outs (by q)) ns
      → map (λ (x : Lane Item). x.number) (if b then by n ∷ filter (is_cut outs) (map by ns) else filter (is_cut outs) (map by ns))
      ≡ (if b then n ∷ filter (λ (q : ℕ). is_cut outs (by q)) ns else filter (λ (q : ℕ). is_cut outs (by q)) ns)
  numbers_at n ns true same = ap (λ m. m ∷ map (λ (x : Lane Item). x.number) (filter (is_cut outs) (map by ns))) (named n) ∙ ap (λ ms. n ∷ ms) same
  numbers_at n ns false same = same

  pub cuts_numbers : (ns : List ℕ) → map (λ (x : Lane Item). x.number) (filter (is_cut outs) (map by ns)) ≡ filter (λ (q : ℕ). is_cut outs (by q)) ns
  cuts_numbers [] = refl
  cuts_numbers (n ∷ ns) = numbers_at n ns (is_cut outs (by n)) (cuts_numbers ns)

-- lanes by the history

-- the lane of a port once the probes of an entry with this act and these octets were offered
abbrev pub probed_lane : Plan → Base → List Row → Act → List ℕ → ℕ → Lane Item
probed_lane plan base past act octets q = laned plan.depth q (is_trusted (role_of plan q)) (numbers_by (vlan_among plan.ports q)) (room_at plan base past q) (probed plan base past act octets q (queue plan base q past))

module _ (plan : Plan) (base : Base) (past : List Row) (r : Row) (q : ℕ) where
  -- an entry that ends no pass leaves the room as it is
  room_kept : is_end r.entry.act ≡ false → room_at plan base (r ∷ past) q ≡ room_at plan base past q
  room_kept none = rw none refl

  abbrev trust : Bool
  trust = is_trusted (role_of plan q)

  abbrev of_vlans : List ℕ
  of_vlans = numbers_by (vlan_among plan.ports q)

  lane_at : (b c : Bool) (waiting : List Item) (item : Item)
      → (if b then (if c then laned plan.depth q trust of_vlans (room_at plan base past q) (waiting ++ item ∷ []) else laned plan.depth q trust of_vlans (room_at plan base past q) waiting) else laned plan.depth q trust of_vlans (room_at plan base past q) waiting)
      ≡ laned plan.depth q trust of_vlans (room_at plan base past q) (if b then (if c then waiting ++ item ∷ [] else waiting) else waiting)
  lane_at true true waiting item = refl
  lane_at true false waiting item = refl
  lane_at false c waiting item = refl

  -- the lane of the new row, by what it lets wait and the room before it
  stamped : (waiting : List Item) → queue plan base q (r ∷ past) ≡ waiting → is_end r.entry.act ≡ false → laned plan.depth q trust of_vlans (room_at plan base past q) waiting ≡ lane_of plan base (r ∷ past) q
  stamped waiting items_are none =
      ap (λ (items : List Item). laned plan.depth q trust of_vlans (room_at plan base past q) items) (sym items_are)
      ∙ ap (λ (room : ℕ). laned plan.depth q trust of_vlans room (queue plan base q (r ∷ past))) (sym (room_kept none))

  -- a frame joins behind the probes of its entry
  pub lane_framed : (port : Port) (stamp at len : ℕ) → r.entry.act ≡ acts.Frame port stamp at len → with_frame (frame_item plan q r r.entry.act) r.entry.outs (probed_lane plan base past (acts.Frame port stamp at len) r.octets q) ≡ lane_of plan base (r ∷ past) q
  lane_framed port stamp at len act_is =
      let waiting = probed plan base past (acts.Frame port stamp at len) r.octets q (queue plan base q past) in
      ap (λ (item : Item). with_frame item r.entry.outs (probed_lane plan base past (acts.Frame port stamp at len) r.octets q)) (ap (frame_item plan q r) act_is)
      ∙ lane_at (is_member r.entry.outs q) (nat_lt (length waiting) (room_at plan base past q)) waiting (item_of plan q port r)
      ∙ stamped (framed plan (room_at plan base past q) q port r waiting) (ap (λ (a : Act). waiting_after plan base past q r a (queue plan base q past)) act_is) (ap is_end act_is)

  -- the other entries with a stamp offer their probes alone
  pub lane_long : (port : Port) (stamp len : ℕ) → r.entry.act ≡ acts.Long port stamp len → probed_lane plan base past (acts.Long port stamp len) r.octets q ≡ lane_of plan base (r ∷ past) q
  lane_long port stamp len act_is =
      stamped (probed plan base past (acts.Long port stamp len) r.octets q (queue plan base q past))
      (ap (λ (a : Act). waiting_after plan base past q r a (queue plan base q past)) act_is) (ap is_end act_is)

  pub lane_ticked : (stamp : ℕ) → r.entry.act ≡ acts.Tick stamp → probed_lane plan base past (acts.Tick stamp) r.octets q ≡ lane_of plan base (r ∷ past) q
  lane_ticked stamp act_is =
      stamped (probed plan base past (acts.Tick stamp) r.octets q (queue plan base q past))
      (ap (λ (a : Act). waiting_after plan base past q r a (queue plan base q past)) act_is) (ap is_end act_is)

  pub lane_commanded : (stamp at len : ℕ) → r.entry.act ≡ acts.Command stamp at len → probed_lane plan base past (acts.Command stamp at len) r.octets q ≡ lane_of plan base (r ∷ past) q
  lane_commanded stamp at len act_is =
      stamped (probed plan base past (acts.Command stamp at len) r.octets q (queue plan base q past))
      (ap (λ (a : Act). waiting_after plan base past q r a (queue plan base q past)) act_is) (ap is_end act_is)

  -- an entry that leaves what waits and the room leaves the lane
  pub lane_kept : queue plan base q (r ∷ past) ≡ queue plan base q past → room_at plan base (r ∷ past) q ≡ room_at plan base past q → lane_of plan base past q ≡ lane_of plan base (r ∷ past) q
  lane_kept items_are room_is =
      ap (λ (items : List Item). laned plan.depth q trust of_vlans (room_at plan base past q) items) (sym items_are) ∙ ap (λ (room : ℕ). laned plan.depth q trust of_vlans room (queue plan base q (r ∷ past))) (sym room_is)

  -- a drain

  pub lane_elsewhere : (port : Port) (count : ℕ) → r.entry.act ≡ acts.Drain port count → number_of port ≢ q → lane_of plan base past q ≡ lane_of plan base (r ∷ past) q
  lane_elsewhere port count act_is other =
      lane_kept
      (ap (λ (a : Act). waiting_after plan base past q r a (queue plan base q past)) act_is
      ∙ ap (λ (b : Bool). if b then drop count (queue plan base q past) else queue plan base q past) (ne_eqb (number_of port) q other))
      (room_kept (ap is_end act_is))

  -- an end of another pass

  pub room_apart : r.entry.by ≢ egress_pass plan q → room_at plan base (r ∷ past) q ≡ room_at plan base past q
  room_apart other =
      let parts : (is_end r.entry.act && (r.entry.by == egress_pass plan q)) ≡ false = ap (λ (b : Bool). is_end r.entry.act && b) (ne_eqb r.entry.by (egress_pass plan q) other) ∙ and_false (is_end r.entry.act) in
      ap (λ (b : Bool). if (b || has_ended base (egress_pass plan q) past) then 0 else plan.depth) parts

  pub room_now : r.entry.by ≡ egress_pass plan q → is_end r.entry.act ≡ true → room_at plan base (r ∷ past) q ≡ 0
  room_now here is =
      ap (λ (b : Bool). if ((b && (r.entry.by == egress_pass plan q)) || has_ended base (egress_pass plan q) past) then 0 else plan.depth) is
      ∙ ap (λ (b : Bool). if (b || has_ended base (egress_pass plan q) past) then 0 else plan.depth) (eq-eqb r.entry.by (egress_pass plan q) here)

abbrev pub IsNoEgress : Who → Type 0
IsNoEgress (Ingress port) = Unit {0}
IsNoEgress Control = Unit {0}
IsNoEgress Ticker = Unit {0}
IsNoEgress (Egress port) = ⊥

input_apart : (plan : Plan) (q : ℕ) (who : Who) → IsNoEgress who → has_pass plan who ≡ true → pass_of plan who ≢ egress_pass plan q
input_apart plan q (Ingress port) inward known = let within = place_within plan (number_of port) known in λ same. absurd (omega (arith, within, same))
input_apart plan q Control inward known = λ same. absurd (omega (arith, same))
input_apart plan q Ticker inward known = λ same. absurd (omega (arith, same))
input_apart plan q (Egress port) inward known = absurd inward

input_waits : (plan : Plan) (base : Base) (past : List Row) (q : ℕ) (r : Row) (who : Who) (how : How) (waiting : List Item) → IsNoEgress who → waiting_after plan base past q r (acts.End who how) waiting ≡ waiting
input_waits plan base past q r (Ingress port) how waiting inward = refl
input_waits plan base past q r Control how waiting inward = refl
input_waits plan base past q r Ticker how waiting inward = refl
input_waits plan base past q r (Egress port) how waiting inward = absurd inward

pub lane_behind_input : (plan : Plan) (base : Base) (past : List Row) (r : Row) (q : ℕ) (who : Who) (how : How) → r.entry.act ≡ acts.End who how → r.entry.by ≡ pass_of plan who → IsNoEgress who → has_pass plan who ≡ true → lane_of plan base past q ≡ lane_of plan base (r ∷ past) q
lane_behind_input plan base past r q who how act_is by_is inward known =
    lane_kept plan base past r q
    (ap (λ (a : Act). waiting_after plan base past q r a (queue plan base q past)) act_is ∙ input_waits plan base past q r who how (queue plan base q past) inward)
    (room_apart plan base past r q (λ same. input_apart plan q who inward known (sym by_is ∙ same)))

-- the lane of a drain's port
pub lane_drained : (plan : Plan) (base : Base) (past : List Row) (r : Row) (port : Port) (count : ℕ) → r.entry.act ≡ acts.Drain port count → with_drained count (lane_of plan base past (number_of port)) ≡ lane_of plan base (r ∷ past) (number_of port)
lane_drained plan base past r port count act_is =
    let q = number_of port in
    let items_are : queue plan base (number_of port) (r ∷ past) ≡ drop count (queue plan base (number_of port) past) =
    ap (λ (a : Act). waiting_after plan base past (number_of port) r a (queue plan base (number_of port) past)) act_is
    ∙ ap (λ (b : Bool). if b then drop count (queue plan base (number_of port) past) else queue plan base (number_of port) past) (eq-eqb (number_of port) (number_of port) refl) in
    let trusted = is_trusted (role_of plan (number_of port)) in
    let vlans = numbers_by (vlan_among plan.ports (number_of port)) in
    ap (λ (items : List Item). laned plan.depth (number_of port) trusted vlans (room_at plan base past (number_of port)) items) (sym items_are)
    ∙ ap (λ (room : ℕ). laned plan.depth (number_of port) trusted vlans room (queue plan base (number_of port) (r ∷ past))) (sym (room_kept plan base past r (number_of port) (ap is_end act_is)))

-- the lane of an egress that ended

failed_waits : (plan : Plan) (base : Base) (past : List Row) (r : Row) (port : Port) (waiting : List Item) → [] ≡ waiting_after plan base past (number_of port) r (acts.End (Egress port) hows.Failed) waiting
failed_waits plan base past r port waiting = sym (ap (λ (b : Bool). if b then [] else waiting) (eq-eqb (number_of port) (number_of port) refl))

ended_at : (plan : Plan) (base : Base) (past : List Row) (r : Row) (port : Port) (how : How) → with_ended how (lane_of plan base past (number_of port)) ≡ laned plan.depth (number_of port) (is_trusted (role_of plan (number_of port))) (numbers_by (vlan_among plan.ports (number_of port))) 0 (waiting_after plan base past (number_of port) r (acts.End (Egress port) how) (queue plan base (number_of port) past))
ended_at plan base past r port hows.Failed = ap (λ (items : List Item). laned plan.depth (number_of port) (is_trusted (role_of plan (number_of port))) (numbers_by (vlan_among plan.ports (number_of port))) 0 items) (failed_waits plan base past r port (queue plan base (number_of port) past))
ended_at plan base past r port hows.End = refl
ended_at plan base past r port hows.Quit = refl
ended_at plan base past r port (hows.Malformed at) = refl
ended_at plan base past r port (hows.Overlong at) = refl
ended_at plan base past r port hows.Unwritten = refl
ended_at plan base past r port hows.Paused = refl

pub lane_ended : (plan : Plan) (base : Base) (past : List Row) (r : Row) (port : Port) (how : How) → r.entry.act ≡ acts.End (Egress port) how → r.entry.by ≡ egress_pass plan (number_of port) → with_ended how (lane_of plan base past (number_of port)) ≡ lane_of plan base (r ∷ past) (number_of port)
lane_ended plan base past r port how act_is by_is =
    ended_at plan base past r port how
    ∙ ap (λ (a : Act). laned plan.depth (number_of port) (is_trusted (role_of plan (number_of port))) (numbers_by (vlan_among plan.ports (number_of port))) 0 (waiting_after plan base past (number_of port) r a (queue plan base (number_of port) past))) (sym act_is)
    ∙ ap (λ (room : ℕ). laned plan.depth (number_of port) (is_trusted (role_of plan (number_of port))) (numbers_by (vlan_among plan.ports (number_of port))) room (queue plan base (number_of port) (r ∷ past))) (sym (room_now plan base past r (number_of port) by_is (ap is_end act_is)))

apart_waits : (plan : Plan) (base : Base) (past : List Row) (q : ℕ) (r : Row) (port : Port) (how : How) (waiting : List Item) → number_of port ≢ q → waiting_after plan base past q r (acts.End (Egress port) how) waiting ≡ waiting
apart_waits plan base past q r port hows.Failed waiting other = ap (λ (b : Bool). if b then [] else waiting) (ne_eqb (number_of port) q other)
apart_waits plan base past q r port hows.End waiting other = refl
apart_waits plan base past q r port hows.Quit waiting other = refl
apart_waits plan base past q r port (hows.Malformed at) waiting other = refl
apart_waits plan base past q r port (hows.Overlong at) waiting other = refl
apart_waits plan base past q r port hows.Unwritten waiting other = refl
apart_waits plan base past q r port hows.Paused waiting other = refl

-- the lanes of the other ports
pub lane_apart : (plan : Plan) (base : Base) (past : List Row) (r : Row) (q : ℕ) (port : Port) (how : How) → r.entry.act ≡ acts.End (Egress port) how → r.entry.by ≡ egress_pass plan (number_of port) → has_port plan (number_of port) ≡ true → has_port plan q ≡ true → number_of port ≢ q → lane_of plan base past q ≡ lane_of plan base (r ∷ past) q
lane_apart plan base past r q port how act_is by_is known known_q other =
    lane_kept plan base past r q
    (ap (λ (a : Act). waiting_after plan base past q r a (queue plan base q past)) act_is ∙ apart_waits plan base past q r port how (queue plan base q past) other)
    (room_apart plan base past r q (λ same. other (same_port plan port q known known_q (sym by_is ∙ same))))
