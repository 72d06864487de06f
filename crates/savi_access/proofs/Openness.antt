-- Requests that are open are recent, and at ports of their VLAN.
use Rattle.std.proofs.Common.{ℕ, ◌≤◌, ◌==◌, not, if◌then◌else◌, List, [], ◌∷◌, All, sym, subst, inl, inr, arith}
use Rattle.std.proofs.lemmas.Bool.{cases_Bool, ltb-true}
use Rattle.std.proofs.lemmas.List.Elements.{All-filter, All-push, All-weaker, filter_passes}
use Rattle.dhcp_states.specs.declared.request.Request.{Request}
use Rattle.dhcp_states.specs.Requests.{is_open, has_pair, without_pair, with_request}
use Rattle.savi_access.specs.Rules.{AccessRules, AccessBase, IsRequestOf, IsAccessBase}
use Rattle.savi_access.specs.Marks.{Mark, Told, Asked, Met, newest_moment, requests_after, open_requests}
use Rattle.savi_access.specs.Legal.{AreMarks}
use Rattle.savi_access.proofs.Keeping.{open_at_port}

module _ (r : AccessRules) (base : AccessBase) (is : IsAccessBase r base) (vlan : ℕ) where
  -- opened by t
  abbrev IsBy : ℕ → Request → Type 0
  IsBy t request = request.opened ≤ t

  by_later : (t u : ℕ) → t ≤ u → (requests : List Request) → All (IsBy t) requests → All (IsBy u) requests
  by_later t u after requests all = All-weaker (IsBy t) (IsBy u) (λ request by. omega (arith, by, after)) requests all

  opened_by : (past : List Mark) (t : ℕ) → AreMarks r base past → newest_moment base past ≤ t → All (IsBy t) (requests_after base vlan past)
  opened_by [] t right after = All-weaker (IsRequestOf r vlan base.addresses.moment) (IsBy t) (λ request of. omega (arith, of.opened, after)) (base.requests vlan) (is.requests vlan)
  opened_by (Told named ∷ past) t right after = opened_by past t right.1 (omega (arith, right.0.order, after))
  opened_by (Asked of request ∷ past) t right after =
      let before : All (IsBy t) (requests_after base vlan past) = opened_by past t right.1 (omega (arith, right.0.order, after)) in
      elim (cases_Bool (of == vlan)) [
        | inl same ↦
            subst (λ b. All (IsBy t) (if b then with_request request (requests_after base vlan past) else requests_after base vlan past)) (sym same)
            (All-push (IsBy t) (without_pair request.tid request.duid.items (requests_after base vlan past)) request
            (All-filter (λ other. not (has_pair request.tid request.duid.items other)) (IsBy t) (requests_after base vlan past) before) after)
        | inr other ↦ subst (λ b. All (IsBy t) (if b then with_request request (requests_after base vlan past) else requests_after base vlan past)) (sym other) before
      ]
  opened_by (Met of moment tid duid ∷ past) t right after =
      let before : All (IsBy t) (requests_after base vlan past) = opened_by past t right.1 (omega (arith, right.0.order, after)) in
      elim (cases_Bool (of == vlan)) [
        | inl same ↦
            subst (λ b. All (IsBy t) (if b then without_pair tid duid (requests_after base vlan past) else requests_after base vlan past)) (sym same)
            (All-filter (λ other. not (has_pair tid duid other)) (IsBy t) (requests_after base vlan past) before)
        | inr other ↦ subst (λ b. All (IsBy t) (if b then without_pair tid duid (requests_after base vlan past) else requests_after base vlan past)) (sym other) before
      ]

  pub still_of : (past : List Mark) (t : ℕ) → AreMarks r base past → newest_moment base past ≤ t → All (IsRequestOf r vlan t) (open_requests base vlan past t)
  still_of past t right after = λ k d inside. record {
    port = open_at_port r base is vlan past t right k d inside;
    opened = All-filter (is_open t) (IsBy t) (requests_after base vlan past) (opened_by past t right after) k d inside;
    recent = ltb-true t _ (filter_passes (is_open t) (requests_after base vlan past) k d inside);
  }
