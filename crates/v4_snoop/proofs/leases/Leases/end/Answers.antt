use Rattle.std.proofs.Common.{◌≡◌, ◌&&◌, ℕ, not, Bool, true, false, Some, refl, sym, ◌∙◌, ap, inl, inr}
use Rattle.std.proofs.lemmas.Bool.{eq-eqb, ne_eqb, cases_eq}
use Rattle.savi_kinds.specs.Ports.{number_of}
use Rattle.v4_snoop.specs.declared.lease.Lease.{Lease}
use Rattle.v4_snoop.specs.Leased.{is_lease_of, is_lease_at}
use Rattle.v4_snoop.specs.KeptLeases.{lease_in}
use Rattle.v4_snoop.proofs.Slots.{all_stay, one_goes}
use Rattle.v4_snoop.proofs.leases.Leases.end.Goals as goal

both : (a b : Bool) → a ≡ true → b ≡ true → not (a && b) ≡ false
both true b so also = ap not also
both false b so also = ap (λ d. not (d && b)) so ∙ ap not also

first_not : (a b : Bool) → a ≡ false → not (a && b) ≡ true
first_not a b fails = ap (λ d. not (d && b)) fails

second_not : (a b : Bool) → b ≡ false → not (a && b) ≡ true
second_not true b fails = ap not fails
second_not false b fails = refl

pub returns-then-is_at-clause-slots : goal.returns-then-is_at-clause-slots
returns-then-is_at-clause-slots c =
    one_goes c.clear.new.self.slots.items (λ lease. not (is_lease_of c.args.key lease && is_lease_at (number_of c.args.p) lease)) c.in-Some.ensures c.clear.ensures.slots
    (both (is_lease_of c.args.key c.in-Some.found.lease) (is_lease_at (number_of c.args.p) c.in-Some.found.lease) (eq-eqb c.in-Some.found.lease.key c.args.key c.in-Some.ensures.of) (sym c.is_at.ensures ∙ c.if-is_at.true))
    (λ other differs. first_not (is_lease_of c.args.key other) (is_lease_at (number_of c.args.p) other) (ne_eqb other.key c.args.key differs))

pub returns-else-is_at-clause-slots : goal.returns-else-is_at-clause-slots
returns-else-is_at-clause-slots c =
    all_stay c.args.self.now.slots.items (λ lease. not (is_lease_of c.args.key lease && is_lease_at (number_of c.args.p) lease))
    (λ k lease is. elim (cases_eq lease.key c.args.key) [
      | inl same ↦
          second_not (is_lease_of c.args.key lease) (is_lease_at (number_of c.args.p) lease)
          (ap (is_lease_at (number_of c.args.p)) (the_one k lease is same) ∙ sym c.is_at.ensures ∙ c.if-is_at.false)
      | inr differs ↦ first_not (is_lease_of c.args.key lease) (is_lease_at (number_of c.args.p) lease) (ne_eqb lease.key c.args.key differs)
    ])
  where
    the_one : (k : ℕ) (lease : Lease) → lease_in c.args.self.now.slots.items k ≡ Some lease → lease.key ≡ c.args.key → lease ≡ c.in-Some.found.lease
    the_one k lease is same =
        let here : k ≡ c.in-Some.found.slot = c.in-Some.ensures.only k lease is same in
        let both : Some lease ≡ Some c.in-Some.found.lease = sym is ∙ ap (lease_in c.args.self.now.slots.items) here ∙ c.in-Some.ensures.there in
        cc

pub returns-in-None-clause-slots : goal.returns-in-None-clause-slots
returns-in-None-clause-slots c =
    all_stay c.args.self.now.slots.items (λ lease. not (is_lease_of c.args.key lease && is_lease_at (number_of c.args.p) lease))
    (λ k lease is. first_not (is_lease_of c.args.key lease) (is_lease_at (number_of c.args.p) lease) (ne_eqb lease.key c.args.key (c.in-None.ensures k lease is)))
