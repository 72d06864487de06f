use Rattle.std.proofs.Common.{◌≡◌, ℕ, List, arith}
use Rattle.bridge_fdb.specs.Kept.{listed, mac_numbers}
use Rattle.bridge_fdb.proofs.Numbers.{IsNonDecreasing-numbers, sorted_length, stands_by_number, belongs_by_number}
use Rattle.bridge_fdb.proofs.Within.{length-le}
use Rattle.bridge_fdb.proofs.Counting.{room_of}
use Rattle.bridge_fdb.proofs.kept.Kept.search.Goals as goal

pub count_lower-at-requires-clause-order : goal.count_lower-at-requires-clause-order
count_lower-at-requires-clause-order c = rw (c.as_slice-numbers.ensures.value, c.requires.kept.tied.matching) (IsNonDecreasing-numbers (listed c.args.self.now) c.requires.rising)

pub count_lower-at-requires-clause-most : goal.count_lower-at-requires-clause-most
count_lower-at-requires-clause-most c =
    rw c.as_slice-numbers.ensures.value
    (omega (arith, sorted_length (listed c.args.self.now) c.args.self.now.numbers.items c.requires.kept.tied.matching, length-le (listed c.args.self.now) (room_of c.args.self.now.stations.items c.args.self.now.slots.items c.args.self.now.numbers.items (listed c.args.self.now) c.requires.kept.tied)))

pub returns-then-at-numbers : goal.returns-then-at-numbers
returns-then-at-numbers c =
    let numbers : List ℕ = c.as_slice-numbers.result.now in
    let matching : numbers ≡ mac_numbers (listed c.args.self.now) = rw c.as_slice-numbers.ensures.value c.requires.kept.tied.matching in
    rw (← c.number-wanted.ensures)
    (belongs_by_number c.number-wanted.result (listed c.args.self.now) numbers c.count_lower-at.result c.requires.rising matching c.count_lower-at.ensures.bound c.count_lower-at.ensures.lower c.count_lower-at.ensures.others
    (λ inside. absurd (omega (arith, inside, c.if-at-numbers.true))))

pub returns-then-numbers-at : goal.returns-then-numbers-at
returns-then-numbers-at c =
    let numbers : List ℕ = c.as_slice-numbers.result.now in
    let matching : numbers ≡ mac_numbers (listed c.args.self.now) = rw c.as_slice-numbers.ensures.value c.requires.kept.tied.matching in
    rw (← c.number-wanted.ensures)
    (stands_by_number c.number-wanted.result (listed c.args.self.now) numbers c.count_lower-at.result c.requires.rising matching
    (omega (arith, c.count_lower-at.ensures.bound, c.if-at-numbers.false)) c.if-numbers-at.true)

pub returns-else-numbers-at : goal.returns-else-numbers-at
returns-else-numbers-at c =
    let numbers : List ℕ = c.as_slice-numbers.result.now in
    let matching : numbers ≡ mac_numbers (listed c.args.self.now) = rw c.as_slice-numbers.ensures.value c.requires.kept.tied.matching in
    rw (← c.number-wanted.ensures)
    (belongs_by_number c.number-wanted.result (listed c.args.self.now) numbers c.count_lower-at.result c.requires.rising matching c.count_lower-at.ensures.bound c.count_lower-at.ensures.lower c.count_lower-at.ensures.others
    (λ inside. c.if-numbers-at.false))
