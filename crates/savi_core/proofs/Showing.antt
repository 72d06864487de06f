-- What the lanes of a plan's ports show, through each change of a history.
use Rattle.std.proofs.Common.{ℕ, ◌≡◌, ◌≢◌, ◌<◌, ◌≤◌, true, List, [], ◌∷◌, ◌++◌, length, map, get_or, set, refl, sym, ap, subst, ◌∙◌, arith}
use Rattle.std.specs.Prelude.{All}
use Rattle.std.specs.List.{filter}
use Rattle.std.proofs.lemmas.List.{length-map, get_or-map, map-set}
use Rattle.std.proofs.lemmas.List.Elements.{All-weaker, All-map, All-set}
use Rattle.savi_kinds.specs.declared.plan.Plan.{Plan}
use Rattle.savi_kinds.specs.declared.port.Port.{Port}
use Rattle.savi_kinds.specs.declared.port.PortSet.{PortSet}
use Rattle.savi_kinds.specs.declared.entry.Act.{Act}
use Rattle.savi_kinds.specs.declared.entry.Act.TheVariants as acts
use Rattle.savi_kinds.specs.PortSets.{is_member, set_of}
use Rattle.savi_kinds.specs.ValidPlan.{IsValidPlan, numbers_of}
use Rattle.egress_ring.specs.declared.item.Item.{Item as Queued}
use Rattle.egress_ring.specs.declared.item.Item.TheVariants as queued
use Rattle.hist_store.specs.Rows.{Row}
use Rattle.checkpoint.specs.Bases.{Base}
use Rattle.savi_history.specs.Passes.{has_port, place_of}
use Rattle.savi_history.specs.Queues.{Item, cuts}
use Rattle.savi_history.proofs.PassNumbers.{known_at}
use Rattle.savi_core.specs.Machines.{port_number_at}
use Rattle.savi_core.specs.Lanes.{Lane, with_frame, is_cut, cut_at, lane_of}
use Rattle.savi_core.specs.Waits.{frame_item, shown_lane, IsFrameRow, AreThere, Show}
use Rattle.savi_core.proofs.Places.{placed, place_within, length-numbers, apart}
use Rattle.savi_core.proofs.Lanes.{across, same_at, map_all, map_twice, one_changed, probed_lane, shown_more, there_still, shown_framed, there_framed, lane_framed, cuts_shown, cuts_numbers}

numbers_shown : (plan : Plan) (rows : List Row) (lanes : List (Lane Queued)) → map (λ (x : Lane Item). x.number) (map (shown_lane plan rows) lanes) ≡ map (λ (x : Lane Queued). x.number) lanes
numbers_shown plan rows [] = refl
numbers_shown plan rows (lane ∷ lanes) = ap (λ ns. lane.number ∷ ns) (numbers_shown plan rows lanes)

numbers_by : (by : ℕ → Lane Item) → ((q : ℕ) → (by q).number ≡ q) → (ns : List ℕ) → map (λ (x : Lane Item). x.number) (map by ns) ≡ ns
numbers_by by named [] = refl
numbers_by by named (n ∷ ns) = ap (λ m. m ∷ map (λ (x : Lane Item). x.number) (map by ns)) (named n) ∙ ap (λ rest. n ∷ rest) (numbers_by by named ns)

module _ {plan : Plan} {rows : List Row} {lanes : List (Lane Queued)} {by : ℕ → Lane Item} (shows : Show plan rows lanes by) where
  pub lane_count : length lanes ≡ length plan.ports
  lane_count =
      omega (
        arith,
        ap (λ (all : List (Lane Item)). length all) shows.same,
        length-map lanes (shown_lane plan rows),
        length-map (numbers_of plan.ports) by,
        length-numbers plan.ports,
      )

  -- the lanes are those of the plan's ports
  pub lane_numbers : ((q : ℕ) → (by q).number ≡ q) → map (λ (lane : Lane Queued). lane.number) lanes ≡ numbers_of plan.ports
  lane_numbers named =
      sym (numbers_shown plan rows lanes) ∙ ap (map (λ (lane : Lane Item). lane.number)) shows.same ∙ numbers_by by named (numbers_of plan.ports)

  -- the lane at a place shows that of its port
  pub lane_is : (p : ℕ) (d : Lane Queued) → p < length plan.ports → shown_lane plan rows (get_or lanes p d) ≡ by (port_number_at plan p)
  lane_is p d within =
      let count = lane_count in
      let size = length-numbers plan.ports in
      let e : Lane Item = shown_lane plan rows d in
      sym (get_or-map (shown_lane plan rows) lanes p d e (omega (arith, within, count)))
      ∙ ap (λ (all : List (Lane Item)). get_or all p e) shows.same
      ∙ get_or-map by (numbers_of plan.ports) p 0 e (omega (arith, within, size))

  -- the same by the number of a port
  pub lane_at : (number p : ℕ) (d : Lane Queued) → has_port plan number ≡ true → p ≡ place_of plan number → shown_lane plan rows (get_or lanes p d) ≡ by number
  lane_at number p d known place_is =
      let place = placed plan number known in
      lane_is p d (omega (arith, place_is, place_within plan number known)) ∙ ap by (ap (port_number_at plan) place_is ∙ place.number_is)

  pub lane_in : (number p : ℕ) → has_port plan number ≡ true → p ≡ place_of plan number → p < length lanes
  lane_in number p known place_is = omega (arith, place_is, place_within plan number known, lane_count)

  pub there_in : (number p : ℕ) (d : Lane Queued) → has_port plan number ≡ true → p ≡ place_of plan number → AreThere rows (get_or lanes p d)
  there_in number p d known place_is = shows.there p d (lane_in number p known place_is)

  -- a longer history
  pub show_more : (r : Row) → Show plan (rows ++ r ∷ []) lanes by
  show_more r = record {
    there = All-weaker (AreThere rows) (AreThere (rows ++ r ∷ [])) (λ lane there. there_still rows r lane there) lanes shows.there;
    same = same_at (AreThere rows) (shown_lane plan rows) (shown_lane plan (rows ++ r ∷ [])) (λ lane there. shown_more plan rows r lane there) lanes shows.there ∙ shows.same;
  }

  -- the same lanes of the plan's ports, given otherwise
  pub show_by : (by' : ℕ → Lane Item) → ((q : ℕ) → has_port plan q ≡ true → by q ≡ by' q) → Show plan rows lanes by'
  show_by by' equal = record {
    there = shows.there;
    same = shows.same ∙ map_all by by' (numbers_of plan.ports) (λ n within. equal (get_or (numbers_of plan.ports) n 0) (known_at plan n (omega (arith, within, length-numbers plan.ports))));
  }

  -- one lane has changed to that of the new row, and the others are as they were
  pub show_set : (r : Row) (by' : ℕ → Lane Item) (number p : ℕ) (v : Lane Queued) → IsValidPlan plan → has_port plan number ≡ true → p ≡ place_of plan number
      → AreThere (rows ++ r ∷ []) v → shown_lane plan (rows ++ r ∷ []) v ≡ by' number → ((q : ℕ) → has_port plan q ≡ true → q ≢ number → by q ≡ by' q)
      → Show plan (rows ++ r ∷ []) (set lanes p v) by'
  show_set r by' number p v valid known place_is there here others =
      let place = placed plan number known in
      let within : p < length (numbers_of plan.ports) = omega (arith, place_is, place.within) in
      let at : get_or (numbers_of plan.ports) p 0 ≡ number = ap (λ n. get_or (numbers_of plan.ports) n 0) place_is ∙ place.number_is in
      let still = show_more r in
      record {
        there = All-set (AreThere (rows ++ r ∷ [])) lanes p v there still.there;
        same =
            map-set (shown_lane plan (rows ++ r ∷ [])) lanes p v
            ∙ ap (λ (all : List (Lane Item)). set all p (shown_lane plan (rows ++ r ∷ []) v)) still.same
            ∙ ap (λ (lane : Lane Item). set (map by (numbers_of plan.ports)) p lane) (here ∙ ap by' (sym at))
            ∙ one_changed by by' (numbers_of plan.ports) p within
            (λ n inside other. others (get_or (numbers_of plan.ports) n 0) (known_at plan n (omega (arith, inside, length-numbers plan.ports))) (λ same. apart (numbers_of plan.ports) n p valid.ports inside within other (same ∙ sym at)));
      }

-- the lane once the frame of a row was offered as it goes out at its port
abbrev framed_own : Plan → Row → Lane Item → Lane Item
framed_own plan r lane = with_frame (frame_item plan lane.number r r.entry.act) r.entry.outs lane

-- a frame was offered behind the probes of its entry
pub show_framed : (plan : Plan) (base : Base) (past rows : List Row) (r : Row) (lanes lanes' : List (Lane Queued)) (port : Port) (stamp at len : ℕ)
    → r.entry.act ≡ acts.Frame port stamp at len → length r.octets ≤ 1518 → ((n : ℕ) → is_member r.entry.outs n ≡ true → 14 ≤ length r.octets) → lanes' ≡ map (with_frame (queued.Frame (length rows)) r.entry.outs) lanes
    → Show plan rows lanes (probed_lane plan base past (acts.Frame port stamp at len) r.octets) → Show plan (rows ++ r ∷ []) lanes' (lane_of plan base (r ∷ past))
show_framed plan base past rows r lanes lanes' port stamp at len act_is short whole are shows =
    let outs = r.entry.outs in
    let act = acts.Frame port stamp at len in
    record {
      there =
          subst (λ (all : List (Lane Queued)). All (AreThere (rows ++ r ∷ [])) all) (sym are)
          (All-map (AreThere (rows ++ r ∷ [])) (with_frame (queued.Frame (length rows)) r.entry.outs) lanes
          (All-weaker (AreThere rows) (λ (lane : Lane Queued). AreThere (rows ++ r ∷ []) (with_frame (queued.Frame (length rows)) r.entry.outs lane)) (λ lane there. there_framed plan rows r outs lane there (λ goes. subst (λ (a : Act). IsFrameRow r a) (sym act_is) (whole lane.number goes, short))) lanes shows.there));
      same =
          ap (map (shown_lane plan (rows ++ r ∷ []))) are
          ∙ across (AreThere rows) (shown_lane plan rows) (shown_lane plan (rows ++ r ∷ [])) (with_frame (queued.Frame (length rows)) r.entry.outs) (framed_own plan r)
          (λ lane there. shown_framed plan rows r outs lane there) lanes shows.there
          ∙ ap (map (framed_own plan r)) shows.same
          ∙ map_twice (probed_lane plan base past act r.octets) (framed_own plan r) (lane_of plan base (r ∷ past)) (λ q. lane_framed plan base past r q port stamp at len act_is) (numbers_of plan.ports);
    }

-- the ports where a frame is left out behind the probes of its entry
pub cuts_are : (plan : Plan) (base : Base) (past rows : List Row) (act : Act) (octets : List ℕ) (outs : PortSet) (lanes : List (Lane Queued)) → Show plan rows lanes (probed_lane plan base past act octets) → cut_at outs lanes ≡ cuts plan base past act octets outs
cuts_are plan base past rows act octets outs lanes shows =
    ap set_of
    (cuts_shown plan rows outs lanes
    ∙ ap (λ (all : List (Lane Item)). map (λ (x : Lane Item). x.number) (filter (is_cut outs) all)) shows.same
    ∙ cuts_numbers (probed_lane plan base past act octets) (λ q. refl) outs (numbers_of plan.ports))
