-- Each step keeps the rule of a ring.
use Rattle.std.proofs.Common.{◌≡◌, ◌≢◌, ℕ, zero, suc, true, false, true≢false, List, [], ◌∷◌, ◌++◌, length, set, sym, refl, ap, ◌∙◌, subst, ⊎_elim, append_assoc}
use mathlib.Core.Option.{some, some-ne-none}
use lib.ListN.{get_elem?}
use Rattle.crossbeam_queue.specs.Fifo.{Pushes, Pops, Forks, Merges, Learns}
use Rattle.crossbeam_queue.proofs.Lists.{at_set, at_snoc}
use Rattle.intake_ring.specs.declared.rule.Log.{Log}
use Rattle.intake_ring.specs.Order.{log, with_put, with_taken, Fits, Keeps, WerePut}

module _ {T : Type 0} where
  at_end : (l : List (Log T)) (a b : Log T) (j : ℕ) → get_elem? l j ≢ some b → get_elem? (l ++ a ∷ []) j ≡ some b → j ≡ length l
  at_end [] a b zero n e = refl
  at_end [] a b (suc j) n e = absurd (some-ne-none b (sym e))
  at_end (x ∷ xs) a b zero n e = absurd (n e)
  at_end (x ∷ xs) a b (suc j) n e = ap suc (at_end xs a b j n e)

  -- of each end
  abbrev All : (ℕ → Log T → Type 0) → List (Log T) → Type 0
  All F views = (number : ℕ) (v : Log T) → get_elem? views number ≡ some v → F number v

  all_set : (F : ℕ → Log T → Type 0) (views : List (Log T)) (number : ℕ) (w : Log T) → F number w
      → ((j : ℕ) (u : Log T) → j ≢ number → get_elem? views j ≡ some u → F j u) → All F (set views number w)
  all_set F views number w mine others j u e =
      ⊎_elim (λ (x : (j ≡ number) × (w ≡ u)). subst (λ (y : ℕ × Log T). F y.0 y.1) (λ i. (sym x.0 i, x.1 i)) mine)
      (λ (x : (j ≢ number) × (get_elem? views j ≡ some u)). others j u x.0 x.1) (at_set views number j w u e)

  pub begins : Keeps {T = T} [] (log true true [] [] ∷ [])
  begins =
      let first : Log T = log true true [] [] in (
        0,
        0,
        [],
        [],
        refl,
        all_set (Fits 0 0 [] []) (first ∷ []) 0 first ((λ _. (refl, refl)), λ _. (refl, refl))
            (λ j u other e. absurd (other (at_end [] first u j (λ x. some-ne-none u (sym x)) e))),
      )

  pub pushes : (n number : ℕ) (v : Log T) (x : T) → v.puts ≡ true → Pushes Keeps n number v x (λ w. w ≡ with_put v x)
  pushes n number v x may items views _ h at =
      let w : Log T = with_put v x in
      let mine = h.5 number v at in
      let put = h.2 ++ x ∷ [] in (
        w,
        (
          h.0,
          h.1,
          put,
          h.3,
          ap (λ l. l ++ x ∷ []) h.4 ∙ append_assoc h.3 items (x ∷ []),
          all_set (Fits h.0 h.1 put h.3) views number w ((λ _. ((mine.0 may).0, ap (λ l. l ++ x ∷ []) (mine.0 may).1)), mine.1)
              (λ j u other e. ((λ p. absurd (other (((h.5 j u e).0 p).0 ∙ sym (mine.0 may).0))), (h.5 j u e).1)),
        ),
        refl,
      )

  pub pops : (number : ℕ) (v : Log T) → v.takes ≡ true → Pops Keeps number v (λ x w. w ≡ with_taken v x)
  pops number v may x items views h at =
      let w : Log T = with_taken v x in
      let mine = h.5 number v at in
      let taken = h.3 ++ x ∷ [] in (
        w,
        (
          h.0,
          h.1,
          h.2,
          taken,
          h.4 ∙ sym (append_assoc h.3 (x ∷ []) items),
          all_set (Fits h.0 h.1 h.2 taken) views number w (mine.0, λ _. ((mine.1 may).0, ap (λ l. l ++ x ∷ []) (mine.1 may).1))
              (λ j u other e. ((h.5 j u e).0, λ p. absurd (other (((h.5 j u e).1 p).0 ∙ sym (mine.1 may).0)))),
        ),
        refl,
      )

  pub forks : (number : ℕ) (v : Log T) → v.puts ≡ true → v.takes ≡ true
      → Forks Keeps number v (log true false v.put []) (log false true [] v.taken)
  forks number v a b items views h at =
      let l : Log T = log true false v.put [] in
      let r : Log T = log false true [] v.taken in
      let mine = h.5 number v at in
      let vs : List (Log T) = set views number l in
      let Old : ℕ → Log T → Type 0 = λ j u. (u.puts ≡ true → (j ≡ h.0) × (u.put ≡ h.2)) × (u.takes ≢ true) in
      let old : All Old vs =
      all_set Old views number l ((λ _. mine.0 a), λ p. true≢false (sym p))
      (λ j u other e. ((h.5 j u e).0, λ p. other (((h.5 j u e).1 p).0 ∙ sym (mine.1 b).0))) in (
        h.0,
        length vs,
        h.2,
        h.3,
        h.4,
        λ j u e. ⊎_elim (λ x. ((old j u x).0, λ p. absurd ((old j u x).1 p)))
            (λ (is : r ≡ u). (
              (λ p. absurd (true≢false (sym (ap (λ (y : Log T). y.puts) is ∙ p)))),
              λ p. (at_end vs r u j (λ x. (old j u x).1 p) e, ap (λ (y : Log T). y.taken) (sym is) ∙ (mine.1 b).1),
            ))
            (at_snoc vs r u j e),
      )

  pub merges : (number : ℕ) (v : Log T) (other : ℕ) (u : Log T) → v.puts ≡ true → u.takes ≡ true
      → Merges Keeps number v other u (log true true v.put u.taken) (log false false [] [])
  merges number v other u a b items views h at two at' =
      let both : Log T = log true true v.put u.taken in
      let spent : Log T = log false false [] [] in
      let mine = h.5 number v at in
      let vs : List (Log T) = set views number both in
      let was : get_elem? views other ≡ some u = ⊎_elim (λ x. absurd (two x.0)) (λ x. x.1) (at_set views number other both u at') in
      let theirs = (h.5 other u was).1 b in
      let Now : ℕ → Log T → Type 0 = λ j y. j ≢ other → Fits h.0 number h.2 h.3 j y in
      let now : All Now vs =
      all_set Now views number both (λ _. ((λ _. mine.0 a), λ _. (refl, theirs.1)))
      (λ j y _ e apart. ((h.5 j y e).0, λ p. absurd (apart (((h.5 j y e).1 p).0 ∙ sym theirs.0)))) in (
        h.0,
        number,
        h.2,
        h.3,
        h.4,
        all_set (Fits h.0 number h.2 h.3) vs other spent ((λ p. absurd (true≢false (sym p))), λ p. absurd (true≢false (sym p)))
            (λ j y apart e. now j y e apart),
      )

  pub totals : (number : ℕ) (v : Log T) → v.puts ≡ true → v.takes ≡ true → Learns Keeps number v (λ items. v.put ≡ v.taken ++ items)
  totals number v a b items views h at =
      let mine = h.5 number v at in (mine.0 a).1 ∙ h.4 ∙ ap (λ l. l ++ items) (sym (mine.1 b).1)

  pub seen : (number : ℕ) (v : Log T) → v.takes ≡ true → Learns Keeps number v (WerePut v.taken)
  seen number v may items views h at = (h.2, h.4 ∙ ap (λ l. l ++ items) (sym ((h.5 number v at).1 may).1))
