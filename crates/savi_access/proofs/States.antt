-- The states of addresses after marks that may come, at the moment of a frame.
use Rattle.std.proofs.Common.{◌≡◌, ℕ, ◌≤◌, ◌^◌, Bool, true, false, Option, Some, None, List, [], ◌∷◌, refl, sym, ap, ◌∙◌, subst, inl, inr, ◌⊎◌, ◌↔◌, arith, rules, unwrap_or, T}
use Rattle.std.proofs.lemmas.Bool.{cases_Bool, eq-eqb}
use Rattle.savi_kinds.specs.declared.port.Port.{Port}
use Rattle.savi_kinds.specs.declared.plan.Method.{Method}
use Rattle.savi_kinds.specs.declared.verdict.Rule.TheVariants.{Unverified}
use Rattle.savi_kinds.specs.declared.verdict.Verdict.TheVariants.{Drop}
use Rattle.fcfs_states.specs.declared.event.Ev.{Ev}
use Rattle.fcfs_states.specs.declared.event.Ev.TheVariants.{Sent, Dad, Na}
use Rattle.fcfs_states.specs.declared.times.Times.{Times}
use Rattle.fcfs_states.specs.Premises.{AreTimes}
use Rattle.mix_rules.specs.declared.state.AddrState.{AddrState}
use Rattle.mix_rules.specs.States.{nobody, IsLiveAt, IsSoundFor}
use Rattle.mix_rules.specs.Next.{next_state, IsPass, IsPassing}
use Rattle.mix_rules.specs.Ageing.{aged_state}
use Rattle.mix_rules.proofs.EventLemmas.{next-still, sent-stays}
use Rattle.savi_access.specs.Keeps.{IsSoundBy}
use Rattle.savi_access.specs.NamedMarks.{Named, mark_of, names, last_moment}
use Rattle.savi_access.specs.States.{outcome_by, state_of, state_at}
use Rattle.savi_access.specs.Limits.{IsPast}
use Rattle.savi_access.proofs.Aged.{still-state}
use Rattle.savi_access.proofs.MarksOn.{state_of-own, state_of-other}
use Rattle.savi_access.proofs.StatesKept.{IsStateAt, base_times, states_kept}
use Rattle.savi_access.specs.Rules.{AccessRules, AccessBase, IsAccessBase}
use Rattle.savi_access.specs.Marks.{Mark, Told, Asked, Met, told, newest_moment, named_for}
use Rattle.savi_access.specs.Legal.{AreMarks}
use Rattle.savi_access.specs.Judged.{answer_to, with_event}
use Rattle.savi_access.specs.Access.{LivesAt, IsLiveHere}
use Rattle.savi_access.proofs.Living.{lives_at, lives_where}

-- what is said of a verdict in place of the answer's own, where there is one
pub sent-verdict : (m : Method) (k : Times) (t : ℕ) (room : Bool) (s : AddrState) (p : Port) → IsSoundFor m s → (IsPass (Some (unwrap_or (next_state m k t room s (Sent p)).0.verdict (Drop Unverified))) ↔ IsLiveAt s p)
sent-verdict m k t room s p sound = search rules

pub na-verdict : (m : Method) (k : Times) (t : ℕ) (room : Bool) (s : AddrState) (p : Port) → IsSoundFor m s → (IsPass (Some (unwrap_or (next_state m k t room s (Na p)).0.verdict (Drop Unverified))) ↔ IsLiveAt s p)
na-verdict m k t room s p sound = search rules

pub dad-verdict : (m : Method) (k : Times) (t : ℕ) (room : Bool) (s : AddrState) (p : Port) → (IsPass (Some (unwrap_or (next_state m k t room s (Dad p)).0.verdict (Drop Unverified))) ↔ IsPassing (next_state m k t room s (Dad p)).0)
dad-verdict m k t room s p = search rules

pub true_not_false : (b : Bool) → b ≡ true → b ≡ false → ⊥
true_not_false b is not = subst T (sym is ∙ not) tt

pub none_some : false ≡ true → ⊥
none_some some = true_not_false false some refl

nobody-lives : (p : Port) → ¬ LivesAt nobody p
nobody-lives p live = live

live_or_not : (s : AddrState) (p : Port) → IsLiveAt s p ⊎ ¬ IsLiveAt s p
live_or_not s p = search rules

pub alive_or_not : (s : AddrState) (p : Port) → LivesAt s p ⊎ ¬ LivesAt s p
alive_or_not s p =
    elim (live_or_not s p) [
      | inl live ↦ inl ((lives_at s p).1 live)
      | inr dead ↦ inr (λ lives. dead ((lives_at s p).0 lives))
    ]

module _ (r : AccessRules) (base : AccessBase) where
  pub told_past : (past : List Mark) → AreMarks r base past → IsPast r.addresses base.addresses (told past)
  told_past [] right = tt
  told_past (Told named ∷ past) right = (right.0.kind, told_past past right.1)
  told_past (Asked vlan request ∷ past) right = told_past past right.1
  told_past (Met vlan moment tid duid ∷ past) right = told_past past right.1

  pub told_before : (past : List Mark) (t : ℕ) → AreMarks r base past → newest_moment base past ≤ t → last_moment base.addresses (told past) ≤ t
  told_before [] t right after = after
  told_before (Told named ∷ past) t right after = after
  told_before (Asked vlan request ∷ past) t right after = told_before past t right.1 (omega (arith, right.0.order, after))
  told_before (Met vlan moment tid duid ∷ past) t right after = told_before past t right.1 (omega (arith, right.0.order, after))

  module _ (is : IsAccessBase r base) (vlan : ℕ) (port : Port) (t : ℕ) (early : t ≤ 2 ^ 62) where
    abbrev pub state_now : List Mark → ℕ → AddrState
    state_now past a = state_at r.addresses base.addresses (told past) t vlan a

    pub times : AreTimes r.addresses.times
    times = base_times r.addresses base.addresses is.addresses

    pub stands : (past : List Mark) → AreMarks r base past → newest_moment base past ≤ t → (a : ℕ) → IsStateAt (r.addresses.method_of vlan a) r.addresses.times t (state_now past a)
    stands past right after a = states_kept r.addresses base.addresses is.addresses (told past) t vlan a (told_past past right) (told_before past t right after) early

    sound_by : (method : Option Method) (m : Method) (s : AddrState) → method ≡ Some m → IsSoundBy method s → IsSoundFor m s
    sound_by method m s found sound = subst (λ o. IsSoundBy o s) found sound

    -- an address that isn't on-link is live nowhere
    pub off_link : (past : List Mark) → AreMarks r base past → newest_moment base past ≤ t → (a : ℕ) → r.addresses.method_of vlan a ≡ None → ¬ IsLiveHere r base vlan port t past a
    off_link past right after a none live = nobody-lives port (subst (λ s. LivesAt s port) (subst (λ o. IsSoundBy o (state_now past a)) none (stands past right after a).sound) live)

    answer_is : (past : List Mark) (a : ℕ) (m : Method) (event : Ev) → r.addresses.method_of vlan a ≡ Some m → answer_to r base vlan port t past a event ≡ (next_state m r.addresses.times t (named_for r base vlan t past a event).room (state_now past a) event).0
    answer_is past a m event found = ap (λ method. (outcome_by method r.addresses.times (mark_of (named_for r base vlan t past a event)) (state_of r.addresses base.addresses (told past) vlan a)).0) found

    pub sent_passes : (past : List Mark) → AreMarks r base past → newest_moment base past ≤ t → (a : ℕ) (m : Method) → r.addresses.method_of vlan a ≡ Some m → (IsPass (Some (unwrap_or (answer_to r base vlan port t past a (Sent port)).verdict (Drop Unverified))) ↔ IsLiveHere r base vlan port t past a)
    sent_passes past right after a m found =
        subst (λ answer. IsPass (Some (unwrap_or answer.verdict (Drop Unverified))) ↔ IsLiveHere r base vlan port t past a) (sym (answer_is past a m (Sent port) found))
        (lives_where (IsPass (Some (unwrap_or (next_state m r.addresses.times t (named_for r base vlan t past a (Sent port)).room (state_now past a) (Sent port)).0.verdict (Drop Unverified)))) (state_now past a) port
        (sent-verdict m r.addresses.times t (named_for r base vlan t past a (Sent port)).room (state_now past a) port (sound_by (r.addresses.method_of vlan a) m (state_now past a) found (stands past right after a).sound)))

    pub na_passes : (past : List Mark) → AreMarks r base past → newest_moment base past ≤ t → (a : ℕ) (m : Method) → r.addresses.method_of vlan a ≡ Some m → (IsPass (Some (unwrap_or (answer_to r base vlan port t past a (Na port)).verdict (Drop Unverified))) ↔ IsLiveHere r base vlan port t past a)
    na_passes past right after a m found =
        subst (λ answer. IsPass (Some (unwrap_or answer.verdict (Drop Unverified))) ↔ IsLiveHere r base vlan port t past a) (sym (answer_is past a m (Na port) found))
        (lives_where (IsPass (Some (unwrap_or (next_state m r.addresses.times t (named_for r base vlan t past a (Na port)).room (state_now past a) (Na port)).0.verdict (Drop Unverified)))) (state_now past a) port
        (na-verdict m r.addresses.times t (named_for r base vlan t past a (Na port)).room (state_now past a) port (sound_by (r.addresses.method_of vlan a) m (state_now past a) found (stands past right after a).sound)))

    pub dad_passes : (past : List Mark) (a : ℕ) (m : Method) → r.addresses.method_of vlan a ≡ Some m → (IsPass (Some (unwrap_or (answer_to r base vlan port t past a (Dad port)).verdict (Drop Unverified))) ↔ IsPassing (answer_to r base vlan port t past a (Dad port)))
    dad_passes past a m found =
        subst (λ answer. IsPass (Some (unwrap_or answer.verdict (Drop Unverified))) ↔ IsPassing answer) (sym (answer_is past a m (Dad port) found))
        (dad-verdict m r.addresses.times t (named_for r base vlan t past a (Dad port)).room (state_now past a) port)

    module _ (past : List Mark) (right : AreMarks r base past) (after : newest_moment base past ≤ t) (a : ℕ) (m : Method) (found : r.addresses.method_of vlan a ≡ Some m) (live : IsLiveHere r base vlan port t past a) where
      abbrev pub named : Named
      named = named_for r base vlan t past a (Sent port)

      names_own : names vlan a named ≡ true
      names_own = rw (eq-eqb vlan vlan refl) (eq-eqb a a refl)

      abbrev pub moved : AddrState
      moved = (next_state m r.addresses.times t named.room (state_now past a) (Sent port)).1

      own_state : state_at r.addresses base.addresses (named ∷ told past) t vlan a ≡ moved
      own_state =
          ap (λ s. (aged_state r.addresses.times t s).state)
          (state_of-own r.addresses base.addresses vlan a named (told past) names_own
          ∙ ap (λ method. (outcome_by method r.addresses.times (mark_of named) (state_of r.addresses base.addresses (told past) vlan a)).1) found)
          ∙ still-state r.addresses.times times t moved (next-still m r.addresses.times t named.room (state_now past a) (Sent port) times (stands past right after a).still)

      own_live : IsLiveHere r base vlan port t (with_event r base vlan port t a (Sent port) past) a
      own_live = subst (λ s. LivesAt s port) (sym own_state) ((lives_at moved port).1 (sent-stays m r.addresses.times t named.room (state_now past a) port ((lives_at (state_now past a) port).0 live)))

      -- what the source of a packet is told leaves each address that is live at the port live there, and makes none live
      -- there
      pub same_target : (b : ℕ) → (IsLiveHere r base vlan port t (with_event r base vlan port t a (Sent port) past) b ↔ IsLiveHere r base vlan port t past b)
      same_target b =
          elim (cases_Bool (names vlan b named)) [
            | inr not ↦ same (ap (λ s. (aged_state r.addresses.times t s).state) (state_of-other r.addresses base.addresses vlan b named (told past) not))
            | inl own ↦ subst (λ n. IsLiveHere r base vlan port t (with_event r base vlan port t a (Sent port) past) n ↔ IsLiveHere r base vlan port t past n) (is_own own) (λ _. live, λ _. own_live)
          ]
        where
          is_own : names vlan b named ≡ true → a ≡ b
          is_own own = grind arith

          same : state_at r.addresses base.addresses (named ∷ told past) t vlan b ≡ state_now past b → (IsLiveHere r base vlan port t (with_event r base vlan port t a (Sent port) past) b ↔ IsLiveHere r base vlan port t past b)
          same is = (λ live. subst (λ s. LivesAt s port) is live, λ live. subst (λ s. LivesAt s port) (sym is) live)
