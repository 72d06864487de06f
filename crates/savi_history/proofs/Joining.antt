-- What joins a queue: as many of the items that are offered, in order, as there is room for.
use Rattle.std.proofs.Common.{◌≡◌, ℕ, suc, zero, ◌+◌, ◌-◌, ◌<◌, ◌≤◌, nat_lt, Bool, true, false, if◌then◌else◌, List, [], ◌∷◌, ◌++◌, length, take, refl, sym, ap, ◌∙◌, arith, append_assoc, append-nil, length-append}
use Rattle.std.proofs.lemmas.List.{length-take}
use Rattle.std.proofs.lemmas.Bool.Decides.{nat_tests}
use Rattle.savi_kinds.specs.declared.plan.Plan.{Plan}
use Rattle.hist_store.specs.Rows.{Row}
use Rattle.checkpoint.specs.Bases.{Base}
use Rattle.savi_history.specs.Passes.{has_ended, egress_pass}
use Rattle.savi_history.specs.Queues.{Item, room_at, all_joined}

abbrev pub no_items : List Item
no_items = []

pub take_none : (n : ℕ) → take n no_items ≡ []
take_none zero = refl
take_none (suc n) = refl

joined_at : (b : Bool) (room : ℕ) (waiting : List Item) (item : Item) (items : List Item) → nat_lt (length waiting) room ≡ b
    → ((w : List Item) → all_joined room w items ≡ w ++ take (room - length w) items)
    → all_joined room (if b then waiting ++ item ∷ [] else waiting) items ≡ waiting ++ take (room - length waiting) (item ∷ items)
joined_at true room waiting item items fits more =
    let below : length waiting < room = grind (arith, nat_tests) in
    let size = length-append waiting (item ∷ []) in
    let rest : room - length (waiting ++ item ∷ []) ≡ room - suc (length waiting) = omega (arith, size) in
    let left : suc (room - suc (length waiting)) ≡ room - length waiting = omega (arith, below) in
    more (waiting ++ item ∷ [])
    ∙ ap (λ (n : ℕ). (waiting ++ item ∷ []) ++ take n items) rest
    ∙ append_assoc waiting (item ∷ []) (take (room - suc (length waiting)) items)
    ∙ ap (λ (n : ℕ). waiting ++ take n (item ∷ items)) left
joined_at false room waiting item items full more =
    let above : room ≤ length waiting = grind (arith, nat_tests) in
    let none : 0 ≡ room - length waiting = omega (arith, above) in
    more waiting
    ∙ ap (λ (n : ℕ). waiting ++ take n items) (sym none)
    ∙ ap (λ (n : ℕ). waiting ++ take n (item ∷ items)) none

-- as many join, from the front, as there is room for
pub all_joined-is : (room : ℕ) (waiting items : List Item) → all_joined room waiting items ≡ waiting ++ take (room - length waiting) items
all_joined-is room waiting [] = sym (append-nil waiting) ∙ ap (λ (l : List Item). waiting ++ l) (sym (take_none (room - length waiting)))
all_joined-is room waiting (item ∷ items) =
    joined_at (nat_lt (length waiting) room) room waiting item items refl (λ w. all_joined-is room w items)

-- how many wait then
pub length-all_joined : (room : ℕ) (waiting items : List Item) → length (all_joined room waiting items) ≡ length waiting + length (take (room - length waiting) items)
length-all_joined room waiting items =
    ap (λ (l : List Item). length l) (all_joined-is room waiting items) ∙ length-append waiting (take (room - length waiting) items)

-- none more than there is room for, but for those that waited
pub joined_within : (room most : ℕ) (waiting items : List Item) → room ≤ most → length waiting ≤ most → length (all_joined room waiting items) ≤ most
joined_within room most waiting items low before =
    omega (arith, low, before, length-all_joined room waiting items, length-take (room - length waiting) items)

-- none fewer than waited, and none more than waited and were offered
pub joined_more : (room : ℕ) (waiting items : List Item) → length waiting ≤ length (all_joined room waiting items)
joined_more room waiting items = omega (arith, length-all_joined room waiting items)

pub joined_few : (room : ℕ) (waiting items : List Item) → length (all_joined room waiting items) ≤ length waiting + length items
joined_few room waiting items = omega (arith, length-all_joined room waiting items, length-take (room - length waiting) items)

-- nothing joins where there is no room
pub joined_closed : (waiting items : List Item) → all_joined 0 waiting items ≡ waiting
joined_closed waiting items =
    let none : 0 - length waiting ≡ 0 = omega arith in
    all_joined-is 0 waiting items ∙ ap (λ (n : ℕ). waiting ++ take n items) none ∙ append-nil waiting

room_cases : (b : Bool) (depth : ℕ) → (if b then 0 else depth) ≤ depth
room_cases true depth = omega arith
room_cases false depth = omega arith

-- no queue has room for more than the plan's depth
pub room_low : (plan : Plan) (base : Base) (past : List Row) (q : ℕ) → room_at plan base past q ≤ plan.depth
room_low plan base past q = room_cases (has_ended base (egress_pass plan q) past) plan.depth

-- where the egress has ended there is no room
pub room_ended : (plan : Plan) (base : Base) (past : List Row) (q : ℕ) → has_ended base (egress_pass plan q) past ≡ true → room_at plan base past q ≡ 0
room_ended plan base past q is = ap (λ (b : Bool). if b then 0 else plan.depth) is
