-- Items taken from the front of a queue, one after another.
use Rattle.std.proofs.Common.{ℕ, ◌≡◌, ◌+◌, ◌<◌, ◌≤◌, List, [], ◌∷◌, ◌++◌, length, get_or, map, take, drop, All, sym, ap, subst, ◌∙◌, arith, drop-cons, add-one, length-append, length-drop}
use Rattle.std.proofs.lemmas.List.{take_more, length-map, get_or-map}
use Rattle.savi_kinds.specs.declared.plan.Plan.{Plan}
use Rattle.egress_ring.specs.declared.item.Item.{Item as Queued}
use Rattle.egress_ring.specs.Waiting.{Waiting, with_first}
use Rattle.hist_store.specs.Rows.{Row}
use Rattle.savi_history.specs.Queues.{Item}
use Rattle.savi_core.specs.Waits.{queued_item, IsThere}

module _ (plan : Plan) (q : ℕ) (rows : List Row) (all : List Queued) (there : All (IsThere rows) all) (done : ℕ) (item : Queued) (rest : List Queued) (within : done < length all) (split : drop done all ≡ item ∷ rest) where
  fronts : get_or all done item ∷ drop (done + 1) all ≡ item ∷ rest
  fronts = rw (add-one done) (sym (drop-cons all done item within) ∙ split)

  item_is : get_or all done item ≡ item
  item_is = ap (λ (its : List Queued). get_or its 0 item) fronts

  rest_is : rest ≡ drop (done + 1) all
  rest_is = sym (ap (λ (its : List Queued). drop 1 its) fronts)

  is_there : IsThere rows item
  is_there = subst (λ (it : Queued). IsThere rows it) item_is (there done item within)

  taken_more : take (done + 1) (map (queued_item plan rows q) all) ≡ take done (map (queued_item plan rows q) all) ++ queued_item plan rows q item ∷ []
  taken_more =
      let in_map : done < length (map (queued_item plan rows q) all) = omega (arith, within, length-map all (queued_item plan rows q)) in
      take_more (map (queued_item plan rows q) all) done (queued_item plan rows q item) in_map
      ∙ ap (λ it. take done (map (queued_item plan rows q) all) ++ it ∷ []) (get_or-map (queued_item plan rows q) all done item (queued_item plan rows q item) within ∙ ap (queued_item plan rows q) item_is)

-- where fewer than all were taken, one is left
none_left : (all : List Queued) (done : ℕ) → done < length all → drop done all ≡ [] → ⊥
none_left all done within gone = omega (arith, within, ap length gone, length-drop done all)

-- so many of the items that waited at the start stand in the batch, and the others still wait
pub record HasMoved (plan : Plan) (q : ℕ) (rows : List Row) (count : ℕ) (start now : Waiting) (into : List Item) : Type 0 where
  pub within : length into ≤ count
  pub left : now ≡ record start { items = drop (length into) start.items }
  pub taken : into ≡ take (length into) (map (queued_item plan rows q) start.items)

module _ {plan : Plan} {q : ℕ} {rows : List Row} {count : ℕ} {start now : Waiting} {into : List Item} (was : HasMoved plan q rows count start now into) (there : All (IsThere rows) start.items) (fewer : length into < count) (enough : count ≤ length start.items) where
  inside : length into < length start.items
  inside = omega (arith, fewer, enough)

  -- one is left
  pub never_none : now.items ≡ [] → ⊥
  never_none gone = none_left start.items (length into) inside (sym (ap (λ (w : Waiting). w.items) was.left) ∙ gone)

  module _ (item : Queued) (now' : Waiting) (front : now ≡ with_first item now') where
    split : drop (length into) start.items ≡ item ∷ now'.items
    split = sym (ap (λ (w : Waiting). w.items) was.left) ∙ ap (λ (w : Waiting). w.items) front

    -- the next one is there
    pub next_there : IsThere rows item
    next_there = is_there plan q rows start.items there (length into) item now'.items inside split

    -- and has moved
    pub moved_more : (read : Item) (into' : List Item) → queued_item plan rows q item ≡ read → into' ≡ into ++ read ∷ [] → HasMoved plan q rows count start now' into'
    moved_more read into' read_is are =
        let done = length into in
        let depth_is : start.depth ≡ now'.depth = sym (ap (λ (w : Waiting). w.depth) was.left) ∙ ap (λ (w : Waiting). w.depth) front in
        let more : length into' ≡ done + 1 = ap length are ∙ length-append into (read ∷ []) in
        let rest : now'.items ≡ drop (done + 1) start.items = rest_is plan q rows start.items there (length into) item now'.items inside split in
        record {
          within = omega (arith, more, fewer);
          left = rw more (ap (λ (its : List Queued). let w : Waiting = record { items = its; depth = now'.depth } in w) rest
              ∙ ap (λ (n : ℕ). let w : Waiting = record { items = drop (length into + 1) start.items; depth = n } in w) (sym depth_is));
          taken = rw more (are ∙ ap (λ (its : List Item). its ++ read ∷ []) was.taken
              ∙ ap (λ (i : Item). take (length into) (map (queued_item plan rows q) start.items) ++ i ∷ []) (sym read_is)
              ∙ sym (taken_more plan q rows start.items there (length into) item now'.items inside split));
        }
