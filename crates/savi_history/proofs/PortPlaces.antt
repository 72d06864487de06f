-- The place of a port in its plan.
use Rattle.std.proofs.Common.{ℕ, suc, ◌≡◌, ◌<◌, ◌==◌, ◌||◌, true, List, [], ◌∷◌, length, get_or, inl, inr, sym, ap, subst, ◌∙◌, arith}
use Rattle.std.specs.List.{list_any}
use Rattle.std.proofs.lemmas.List.{length-map}
use Rattle.std.proofs.lemmas.Bool.{cases_eq, eq-eqb, ne_eqb, cond-true, cond-false}
use Rattle.savi_kinds.specs.declared.plan.Plan.{Plan}
use Rattle.savi_kinds.specs.declared.plan.PortPlan.{PortPlan}
use Rattle.savi_kinds.specs.Ports.{number_of}
use Rattle.savi_kinds.specs.ValidPlan.{numbers_of}
use Rattle.savi_history.specs.Passes.{has_port, place_among, place_of}

-- a number that is among these has its place there
pub record IsPlace (ns : List ℕ) (number place : ℕ) : Type 0 where
  pub within : place < length ns
  pub number_is : get_or ns place 0 ≡ number

place_next : (n : ℕ) (ns : List ℕ) (number place : ℕ) → IsPlace ns number place → IsPlace (n ∷ ns) number (suc place)
place_next n ns number place was = record { within = omega (arith, was.within); number_is = was.number_is }

pub placed_among : (ns : List ℕ) (number : ℕ) → list_any (λ n. n == number) ns ≡ true → IsPlace ns number (place_among ns number)
placed_among [] number any = cc
placed_among (n ∷ ns) number any =
    elim (cases_eq n number) [
      | inl same ↦ subst (λ (k : ℕ). IsPlace (n ∷ ns) number k) (sym (cond-true _ 0 (suc (place_among ns number)) (eq-eqb n number same))) (record { within = omega arith; number_is = same })
      | inr other ↦
          let later : list_any (λ m. m == number) ns ≡ true = ap (λ b. b || list_any (λ m. m == number) ns) (sym (ne_eqb n number other)) ∙ any in
          subst (λ (k : ℕ). IsPlace (n ∷ ns) number k) (sym (cond-false _ 0 (suc (place_among ns number)) (ne_eqb n number other)))
          (place_next n ns number (place_among ns number) (placed_among ns number later))
    ]

pub placed : (plan : Plan) (number : ℕ) → has_port plan number ≡ true → IsPlace (numbers_of plan.ports) number (place_of plan number)
placed plan number known = placed_among (numbers_of plan.ports) number known

pub length-numbers : (ports : List PortPlan) → length (numbers_of ports) ≡ length ports
length-numbers ports = length-map ports (λ p. number_of p.number)

-- the place of a port of a plan
pub place_within : (plan : Plan) (number : ℕ) → has_port plan number ≡ true → place_of plan number < length plan.ports
place_within plan number known = omega (arith, (placed plan number known).within, length-numbers plan.ports)
