use Rattle.std.proofs.Common.{ℕ, ◌≡◌, ◌<◌, ◌≤◌, List, length, take, get_or, fold, refl, sym, ap, ◌∙◌, subst, true≢false, arith, inl, inr}
use Rattle.std.specs.BTreeSet.{insert_key}
use Rattle.std.specs.Ordering.{nat_cmp}
use Rattle.std.proofs.lemmas.Bool.{cases_lt}
use Rattle.savi_kinds.specs.Vlans.{numbers_of_vlan, vlans_of_ports}
use Rattle.journal_check.proofs.FewVlans.{put_more, too_many}
use Rattle.journal_check.proofs.vlans.have_room.Goals as goal

pub loop-number-preserved : goal.loop-number-preserved
loop-number-preserved c =
    let numbers = numbers_of_vlan c.args.vlan.now in
    let items : c.numbers-number-items.result.now ≡ numbers = c.numbers-number-items.ensures in
    let i = c.loop-number.number-index in
    let within : i < length numbers = subst (λ (ns : List ℕ). i < length ns) items c.loop-number-test.true in
    let put : c.add_vlan.new.vlans.items ≡ insert_key nat_cmp c.loop-number.vlans.items (get_or numbers i 0) =
    c.if-not-add_vlan.ensures.vlans ∙ ap (λ (ns : List ℕ). insert_key nat_cmp c.loop-number.vlans.items (get_or ns i 0)) items in
    record {
      vlans = put ∙ ap (λ (vlans : List ℕ). insert_key nat_cmp vlans (get_or numbers i 0)) c.loop-number.invariant.vlans ∙ sym (put_more numbers i (vlans_of_ports c.args.ports.now) within);
      few = subst (λ (vlans : List ℕ). length vlans ≤ 8) (sym c.if-not-add_vlan.ensures.vlans) (c.if-not-add_vlan.ensures.added.0 refl);
    }

pub returns-then-not-add_vlan : goal.returns-then-not-add_vlan
returns-then-not-add_vlan c =
    let numbers = numbers_of_vlan c.args.vlan.now in
    let items : c.numbers-number-items.result.now ≡ numbers = c.numbers-number-items.ensures in
    let i = c.loop-number.number-index in
    let within : i < length numbers = subst (λ (ns : List ℕ). i < length ns) items c.loop-number-test.true in
    let start = vlans_of_ports c.args.ports.now in
    let so_far = ap (λ (vlans : List ℕ). length (insert_key nat_cmp vlans (get_or numbers i 0))) c.loop-number.invariant.vlans in
    let same = ap (λ (ns : List ℕ). length (insert_key nat_cmp c.loop-number.vlans.items (get_or ns i 0))) items in (
      λ yes. absurd (true≢false (sym yes)),
      λ few. elim (cases_lt 8 (length (insert_key nat_cmp (fold (insert_key nat_cmp) start (take i numbers)) (get_or numbers i 0)))) [
        | inl more ↦ absurd (omega (arith, few, too_many numbers i start within more))
        | inr less ↦ absurd (true≢false (sym (c.if-not-add_vlan.ensures.added.1 (omega (arith, so_far, same, less)))))
      ],
    )
