use Rattle.std.proofs.Common.{ℕ, ◌≡◌, ◌<◌, ◌≤◌, ◌==◌, Bool, true, false, length, decimal, Some, refl, sym, ap, ◌∙◌, arith, inl, inr, length-drop, true≢false, eq-eqb}
use Rattle.std.proofs.lemmas.Bool.{eqb-true, cases_lt}
use Rattle.std.proofs.lemmas.Option.{none-some}
use Rattle.savi_kinds.proofs.MacGrammar.{left_none}
use Rattle.hist_store.specs.VlanTexts.{BeginTrunk}
use Rattle.hist_store.proofs.EndRead.{none_left}
use Rattle.hist_store.proofs.PortsRead.{comma_place, if_some, tail_cases, whole_text}
use Rattle.hist_store.proofs.VlanLines.{last_listed, list_cut, list_ended, list_went_on, more_begun, more_listed}
use Rattle.hist_store.proofs.read_vlans.+read_numbers.Goals as goal

number_of : (n m : ℕ) → Some n ≡ Some m → m ≡ n
number_of n m same = let one : n ≡ m = cc same in sym one

-- there is room for one more
not_full : (n : ℕ) (b : Bool) → n ≤ 8 → b ≡ (n == 8) → b ≡ false → n < 8
not_full n b most is fails =
    elim (cases_lt n 8) [
      | inl less ↦ less
      | inr more ↦ absurd (true≢false (sym (eq-eqb n 8 (omega (arith, most, more))) ∙ sym is ∙ fails))
    ]

full : (n : ℕ) (b : Bool) → b ≡ (n == 8) → b ≡ true → n ≡ 8
full n b is holds = eqb-true n 8 (sym is ∙ holds)

pub read_numbers-requires : goal.read_numbers-requires
read_numbers-requires t c =
    let size = length-drop (comma_place c.args.text.now) c.args.text.now in
    let rest = ap length (sym c.cut_member.ensures.rest ∙ c.in_ok-more.ensures.read) in (
      omega (arith, c.decreases, size, rest),
      more_begun c.args.before.items c.push.new.self.items c.in_ok-vlan.vlan c.requires c.in_ok-vlan.ensures.read.1 (rw c.as_slice.ensures.value at c.if-not-is_above_all.ensures.0 refl)
          (not_full (length c.args.before.items) c.is_full.result c.is_full.ensures.fits c.is_full.ensures.value c.if-is_full.false) c.push.ensures.items,
    )

pub returns-in_err-vlan-clause-whole : goal.returns-in_err-vlan-clause-whole
returns-in_err-vlan-clause-whole t c = rw c.from_residual.ensures (λ whole lists.
    let one = list_cut c.args.before.items whole c.args.text.now lists in
    absurd (none-some one.number (c.in_err-vlan.ensures.whole one.number one.vlan (c.cut_member.ensures.front ∙ one.front))))

pub returns-then-is_full-clause-whole : goal.returns-then-is_full-clause-whole
returns-then-is_full-clause-whole t c = λ whole lists.
    let one = list_cut c.args.before.items whole c.args.text.now lists in
    let few = one.few in
    absurd (omega (arith, few, full (length c.args.before.items) c.is_full.result c.is_full.ensures.value c.if-is_full.true))

pub returns-then-not-is_above_all-clause-whole : goal.returns-then-not-is_above_all-clause-whole
returns-then-not-is_above_all-clause-whole t c = λ whole lists.
    let one = list_cut c.args.before.items whole c.args.text.now lists in
    let same : one.number ≡ c.in_ok-vlan.vlan = number_of c.in_ok-vlan.vlan one.number (c.in_ok-vlan.ensures.whole one.number one.vlan (c.cut_member.ensures.front ∙ one.front)) in
    absurd (true≢false (sym (c.if-not-is_above_all.ensures.1 (rw (c.as_slice.ensures.value, sym same) one.above))))

pub returns-then-is_empty-clause-read : goal.returns-then-is_empty-clause-read
returns-then-is_empty-clause-read t c =
    let begun : BeginTrunk c.push.new.self.items = more_begun c.args.before.items c.push.new.self.items c.in_ok-vlan.vlan c.requires c.in_ok-vlan.ensures.read.1 (rw c.as_slice.ensures.value at c.if-not-is_above_all.ensures.0 refl)
    (not_full (length c.args.before.items) c.is_full.result c.is_full.ensures.fits c.is_full.ensures.value c.if-is_full.false) c.push.ensures.items in
    last_listed c.args.before.items c.push.new.self.items c.args.text.now c.cut_member.result.1.now c.in_ok-vlan.vlan begun c.push.ensures.items (left_none _ c.is_empty.result c.is_empty.ensures c.if-is_empty.true)
    (whole_text c.args.text.now _ _ (decimal c.in_ok-vlan.vlan) _ c.cut_member.ensures.front c.cut_member.ensures.rest c.in_ok-vlan.ensures.read.0)

pub returns-then-is_empty-clause-whole : goal.returns-then-is_empty-clause-whole
returns-then-is_empty-clause-whole t c = λ whole lists.
    let one = list_cut c.args.before.items whole c.args.text.now lists in
    let same : one.number ≡ c.in_ok-vlan.vlan = number_of c.in_ok-vlan.vlan one.number (c.in_ok-vlan.ensures.whole one.number one.vlan (c.cut_member.ensures.front ∙ one.front)) in
    list_ended c.args.before.items c.push.new.self.items whole c.args.text.now c.in_ok-vlan.vlan one same c.push.ensures.items
    (sym c.cut_member.ensures.rest ∙ left_none _ c.is_empty.result c.is_empty.ensures c.if-is_empty.true)

pub returns-in_err-more-clause-whole : goal.returns-in_err-more-clause-whole
returns-in_err-more-clause-whole t c = rw c.from_residual-in_err-more.ensures (λ whole lists.
    let one = list_cut c.args.before.items whole c.args.text.now lists in
    let rest = c.cut_member.ensures.rest ∙ one.rest in
    elim (tail_cases one.later) [
      | inl none ↦ absurd (none_left _ c.is_empty.result (rest ∙ none) c.is_empty.ensures c.if-is_empty.false)
      | inr some ↦ absurd (c.in_err-more.ensures.whole some.0 (rest ∙ some.1))
    ])

pub returns-clause-read : goal.returns-clause-read
returns-clause-read t c =
    if_some c.read_numbers.result _ _ (λ whole lists. more_listed c.args.before.items c.push.new.self.items whole.items c.args.text.now c.cut_member.result.1.now c.in_ok-more.more.now c.in_ok-vlan.vlan c.push.ensures.items c.in_ok-more.ensures.read
    (whole_text c.args.text.now _ _ (decimal c.in_ok-vlan.vlan) _ c.cut_member.ensures.front c.cut_member.ensures.rest c.in_ok-vlan.ensures.read.0) lists) c.read_numbers.ensures.read

pub returns-clause-whole : goal.returns-clause-whole
returns-clause-whole t c = λ whole lists.
    let one = list_cut c.args.before.items whole c.args.text.now lists in
    let same : one.number ≡ c.in_ok-vlan.vlan = number_of c.in_ok-vlan.vlan one.number (c.in_ok-vlan.ensures.whole one.number one.vlan (c.cut_member.ensures.front ∙ one.front)) in
    c.read_numbers.ensures.whole whole (list_went_on c.args.before.items c.push.new.self.items whole c.args.text.now c.in_ok-more.more.now c.in_ok-vlan.vlan one same c.push.ensures.items
    (sym c.cut_member.ensures.rest ∙ c.in_ok-more.ensures.read))
