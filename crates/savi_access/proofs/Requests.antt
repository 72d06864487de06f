-- Open requests stay within their limits.
use Rattle.std.proofs.Common.{◌≡◌, ℕ, ◌+◌, ◌≤◌, ◌==◌, Bool, true, false, not, is_some, Some, None, if◌then◌else◌, List, [], ◌∷◌, ◌++◌, refl, sym, ap, ◌∙◌, subst, inl, inr, arith}
use Rattle.std.specs.List.{filter}
use Rattle.std.proofs.lemmas.Bool.{cases_Bool, eqb-true, lt-ltb}
use Rattle.std.proofs.lemmas.List.Elements.{filter-append}
use Rattle.savi_kinds.specs.declared.verdict.Rule.TheVariants.{PendingFull, DhcpContested}
use Rattle.savi_kinds.specs.Ports.{number_of}
use Rattle.dhcp_states.specs.declared.request.Request.{Request}
use Rattle.dhcp_states.specs.Requests.{is_open, open_at, has_pair, is_full, is_contested, refusal, without_pair, with_request}
use Rattle.dhcp_states.specs.Limits.{IsWithinLimits}
use Rattle.dhcp_states.proofs.Counts.{open_at-later, IsWithinLimits-open_at, IsWithinLimits-without_pair, IsWithinLimits-with_request}
use Rattle.savi_access.specs.Rules.{AccessRules, AccessBase, IsAccessBase}
use Rattle.savi_access.specs.Marks.{Mark, Told, Asked, Met, newest_moment, requests_after, open_requests}
use Rattle.savi_access.specs.Legal.{AreMarks}
use Rattle.savi_access.proofs.States.{true_not_false}

swapped : {X : Type 0} (p q : X → Bool) (xs : List X) → filter p (filter q xs) ≡ filter q (filter p xs)
swapped p q [] = refl
swapped p q (x ∷ xs) =
    let behind = swapped p q xs in
    elim (cases_Bool (p x)) [
      | inl p_is ↦ elim (cases_Bool (q x)) [
        | inl q_is ↦ rw (q_is, p_is) (rw q_is (ap (λ l. x ∷ l) behind))
        | inr q_not ↦ rw (q_not, p_is) (rw q_not behind)
      ]
      | inr p_not ↦ elim (cases_Bool (q x)) [
        | inl q_is ↦ rw (q_is, p_not) behind
        | inr q_not ↦ rw (q_not, p_not) behind
      ]
    ]

-- what is open of the requests once one is met
pub open_without : (t tid : ℕ) (duid : List ℕ) (requests : List Request) → open_at t (without_pair tid duid requests) ≡ without_pair tid duid (open_at t requests)
open_without t tid duid requests = swapped (is_open t) (λ request. not (has_pair tid duid request)) requests

-- a request is open when it is asked
pub open_with : (request : Request) (requests : List Request) → open_at request.opened (with_request request requests) ≡ with_request request (open_at request.opened requests)
open_with request requests =
    let t : ℕ = request.opened in
    let now : is_open t request ≡ true = lt-ltb t (t + 120000) (omega arith) in
    let last : open_at t (request ∷ []) ≡ request ∷ [] = rw now refl in
    filter-append (is_open t) (without_pair request.tid request.duid.items requests) (request ∷ [])
    ∙ ap (λ l. l ++ open_at t (request ∷ [])) (open_without t request.tid request.duid.items requests)
    ∙ ap (λ l. without_pair request.tid request.duid.items (open_at t requests) ++ l) last

not_full : (port tid : ℕ) (duid : List ℕ) (requests : List Request) → refusal port tid duid requests ≡ None → is_full port tid duid requests ≡ false
not_full port tid duid requests none =
    elim (cases_Bool (is_full port tid duid requests)) [
      | inr not ↦ not
      | inl full ↦ absurd (true_not_false true refl (ap is_some (sym (ap (λ b. if b then Some PendingFull else (if is_contested port tid duid requests then Some DhcpContested else None)) full) ∙ none)))
    ]

module _ (r : AccessRules) (base : AccessBase) (is : IsAccessBase r base) (vlan : ℕ) where
  pub within_limits : (past : List Mark) (t : ℕ) → AreMarks r base past → newest_moment base past ≤ t → IsWithinLimits (open_requests base vlan past t)
  within_limits [] t right after = IsWithinLimits-open_at t (is.limits vlan)
  within_limits (Told named ∷ past) t right after = within_limits past t right.1 (omega (arith, right.0.order, after))
  within_limits (Asked of request ∷ past) t right after =
      elim (cases_Bool (of == vlan)) [
        | inr other ↦ subst (λ b. IsWithinLimits (open_at t (if b then with_request request (requests_after base vlan past) else requests_after base vlan past))) (sym other) (within_limits past t right.1 (omega (arith, right.0.order, after)))
        | inl same ↦
            subst (λ b. IsWithinLimits (open_at t (if b then with_request request (requests_after base vlan past) else requests_after base vlan past))) (sym same)
            (subst IsWithinLimits (ap (open_at t) (sym (open_with request (requests_after base vlan past))) ∙ open_at-later request.opened t (with_request request (requests_after base vlan past)) after)
            (IsWithinLimits-open_at t (IsWithinLimits-with_request request (within_limits past request.opened right.1 right.0.order)
            (not_full (number_of request.port) request.tid request.duid.items (open_requests base vlan past request.opened) (subst (λ v. refusal (number_of request.port) request.tid request.duid.items (open_requests base v past request.opened) ≡ None) (eqb-true of vlan same) right.0.kind.1)))))
      ]
  within_limits (Met of moment tid duid ∷ past) t right after =
      let before : IsWithinLimits (open_requests base vlan past t) = within_limits past t right.1 (omega (arith, right.0.order, after)) in
      elim (cases_Bool (of == vlan)) [
        | inr other ↦ subst (λ b. IsWithinLimits (open_at t (if b then without_pair tid duid (requests_after base vlan past) else requests_after base vlan past))) (sym other) before
        | inl same ↦
            subst (λ b. IsWithinLimits (open_at t (if b then without_pair tid duid (requests_after base vlan past) else requests_after base vlan past))) (sym same)
            (subst IsWithinLimits (sym (open_without t tid duid (requests_after base vlan past))) (IsWithinLimits-without_pair tid duid before))
      ]
