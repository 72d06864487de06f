-- Which ports are shut, through each change of the queues, and where frames go then.
use Rattle.std.proofs.Common.{ℕ, ◌≡◌, ◌≤◌, ◌==◌, ◌&&◌, ◌||◌, not, nat_le, if◌then◌else◌, Bool, true, false, Option, Some, None, List, [], ◌∷◌, ◌++◌, fold, refl, sym, ap, subst, ◌∙◌, inl, inr}
use Rattle.std.proofs.Math.Path.{fun_ext}
use Rattle.std.proofs.lemmas.Bool.{cases_Bool, cases_eq, eq-eqb, ne_eqb, leb-true, le-leb, false≢true}
use Rattle.savi_kinds.specs.declared.plan.Plan.{Plan}
use Rattle.savi_kinds.specs.declared.port.Port.{Port}
use Rattle.savi_kinds.specs.declared.port.PortSet.{PortSet}
use Rattle.savi_kinds.specs.Ports.{number_of}
use Rattle.savi_kinds.specs.PortSets.{is_member, set_of}
use Rattle.savi_kinds.specs.ValidPlan.{numbers_of}
use Rattle.control_replies.specs.declared.refusal.Refusal.TheVariants as refusals
use Rattle.hist_store.specs.Rows.{Row}
use Rattle.checkpoint.specs.Bases.{Base}
use Rattle.savi_history.specs.Passes.{has_port}
use Rattle.savi_history.specs.Commands.{port_refusal}
use Rattle.savi_history.specs.ShutPorts.{is_heard_at, is_shut}
use Rattle.savi_history.specs.Outs.{without_shut}
use Rattle.savi_history.proofs.Directing.{member_filter, all_numbers, known_member, and-false}
use Rattle.savi_core.specs.Rings.{Rings, uncounted, shut_in, with_shut, rings_after_probe}
use Rattle.savi_kinds.specs.declared.verdict.Verdict.{Verdict}
use Rattle.frame_class.specs.declared.classes.Class.{Class}
use Rattle.savi_access.specs.Rules.{AccessRules, AccessBase}
use Rattle.savi_access.specs.Marks.{Mark}
use Rattle.savi_history.specs.Marks.{judged_at}
use Rattle.savi_history.specs.Offers.{Offer, in_answer}
use Rattle.savi_core.specs.Judges.{Judges, Ages, due_between}
use Rattle.savi_core.specs.declared.vlan_set.VlanSet.{VlanSet}
use Rattle.savi_core.specs.VlanSets.{vlans_of_sets}
use Rattle.savi_core.specs.Remembers.{CoreState, Remembers}
use Rattle.savi_core.proofs.Members.{same_members}

-- probes leave the ports as they are
pub shut_probed : (sents : List Offer) (rings : Rings) → (fold rings_after_probe rings sents).shut ≡ rings.shut
shut_probed [] rings = refl
shut_probed (sent ∷ sents) rings = shut_probed sents (rings_after_probe rings sent)

-- so do ageing and judging
pub shut_aged : (r : AccessRules) (from t : ℕ) (sets : List VlanSet) (old new : Rings) (base : AccessBase) (past : List Mark) → Ages r from t sets old new base past → new.shut ≡ old.shut
shut_aged r from t sets old new base past fact =
    ap (λ (rings : Rings). rings.shut) fact.probes ∙ shut_probed (due_between r base past from t (vlans_of_sets sets)) (uncounted old)

pub shut_judged : (r : AccessRules) (from t : ℕ) (shut : Bool) (port : Port) (vlan : Option ℕ) (class : Class) (sets : List VlanSet) (old new : Rings) (verdict : Verdict) (base : AccessBase) (past : List Mark)
    → Judges r from t shut port vlan class sets old new verdict base past → new.shut ≡ old.shut
shut_judged r from t shut port vlan class sets old new verdict base past fact =
    ap (λ (rings : Rings). rings.shut) fact.probes
    ∙ shut_probed (due_between r base past from t (vlans_of_sets sets) ++ in_answer vlan (judged_at r base shut past port t vlan class).probe) (uncounted old)

-- what is remembered, with the same shut ports given otherwise
pub shut_as : {k : CoreState} {shut : PortSet} → k.shut ≡ shut → Remembers k → Remembers (record k { shut = shut })
shut_as {k} same was = subst (λ (s : PortSet). Remembers (record k { shut = s })) same was

-- of a set of ports those that aren't shut, where all members are of the plan
pub open_outs : (plan : Plan) (base : Base) (past : List Row) (set left : PortSet) → ((n : ℕ) → 1 ≤ n → is_member left n ≡ true → has_port plan n ≡ true)
    → ((n : ℕ) → 1 ≤ n → is_member left n ≡ (is_member set n && not (is_shut plan base n past))) → left ≡ without_shut plan base past set
open_outs plan base past set left known members =
    same_members left (without_shut plan base past set)
    (λ n least.
    let all = is_member (set_of (numbers_of plan.ports)) n in
    let both : is_member (without_shut plan base past set) n ≡ (all && is_member left n) =
    member_filter (λ q. is_member set q && not (is_shut plan base q past)) (numbers_of plan.ports) n (all_numbers plan.ports) least ∙ ap (λ (b : Bool). all && b) (sym (members n least)) in
    elim (cases_Bool (is_member left n)) [
      | inl there ↦ there ∙ sym (both ∙ ap (λ (b : Bool). all && b) there ∙ ap (λ (b : Bool). b && true) (known_member plan.ports n least (known n least there)))
      | inr none ↦ none ∙ sym (both ∙ ap (λ (b : Bool). all && b) none ∙ and-false all)
    ])

-- a port has a number
member_at : (set : PortSet) (number : ℕ) → 1 ≤ number → shut_in set number ≡ is_member set number
member_at set number least = ap (λ (b : Bool). b && is_member set number) (le-leb 1 number least)

pub port_at : (set : PortSet) (port : Port) → shut_in set (number_of port) ≡ is_member set (number_of port)
port_at set port = member_at set (number_of port) port.low

with_by : (e m : Bool) → (e || m) ≡ (if e then true else m)
with_by true m = refl
with_by false m = refl

without_by : (e m : Bool) → (m && not e) ≡ (if e then false else m)
without_by true true = refl
without_by true false = refl
without_by false true = refl
without_by false false = refl

flip_eq : (a b : ℕ) → (a == b) ≡ (b == a)
flip_eq a b =
    elim (cases_eq a b) [
      | inl same ↦ eq-eqb a b same ∙ sym (eq-eqb b a (sym same))
      | inr other ↦ ne_eqb a b other ∙ sym (ne_eqb b a (λ same. other (sym same)))
    ]

none_at : (b : Bool) → (false && b) ≡ false
none_at b = refl

-- a port more, or one fewer
module _ (set new : PortSet) (port : Port) where
  pub with_port : ((n : ℕ) → 1 ≤ n → is_member new n ≡ (n == number_of port || is_member set n)) → shut_in new ≡ with_shut (number_of port) true (shut_in set)
  with_port members = fun_ext (λ n. at n (nat_le 1 n) refl)
    where
      at : (n : ℕ) (b : Bool) → nat_le 1 n ≡ b → shut_in new n ≡ with_shut (number_of port) true (shut_in set) n
      at n true is =
          let least : 1 ≤ n = leb-true 1 n is in
          member_at new n least ∙ members n least ∙ with_by (n == number_of port) (is_member set n)
          ∙ ap (λ (b : Bool). if b then true else is_member set n) (flip_eq n (number_of port))
          ∙ ap (λ (m : Bool). if number_of port == n then true else m) (sym (member_at set n least))
      at n false is =
          ap (λ (b : Bool). b && is_member new n) is
          ∙ ap (λ (b : Bool). if b then true else false) (sym (ne_eqb (number_of port) n (λ same. absurd (false≢true (sym is ∙ le-leb 1 n (subst (λ (m : ℕ). 1 ≤ m) same port.low))))))
          ∙ ap (λ (m : Bool). if number_of port == n then true else m) (sym (ap (λ (b : Bool). b && is_member set n) is))

  pub without_port : ((n : ℕ) → 1 ≤ n → is_member new n ≡ (is_member set n && not (n == number_of port))) → shut_in new ≡ with_shut (number_of port) false (shut_in set)
  without_port members = fun_ext (λ n. at n (nat_le 1 n) refl)
    where
      at : (n : ℕ) (b : Bool) → nat_le 1 n ≡ b → shut_in new n ≡ with_shut (number_of port) false (shut_in set) n
      at n true is =
          let least : 1 ≤ n = leb-true 1 n is in
          member_at new n least ∙ members n least ∙ without_by (n == number_of port) (is_member set n)
          ∙ ap (λ (b : Bool). if b then false else is_member set n) (flip_eq n (number_of port))
          ∙ ap (λ (m : Bool). if number_of port == n then false else m) (sym (member_at set n least))
      at n false is =
          ap (λ (b : Bool). b && is_member new n) is
          ∙ sym (either (number_of port == n))
          ∙ ap (λ (m : Bool). if number_of port == n then false else m) (sym (ap (λ (b : Bool). b && is_member set n) is))
        where
          either : (b : Bool) → (if b then false else false) ≡ false
          either true = refl
          either false = refl

-- a `shut` or an `open` that is answered `ok` is heard at its port
pub heard : (plan : Plan) (port : Port) (now : Bool) (shut : ℕ → Bool) → port_refusal plan port ≡ None → with_shut (number_of port) now shut ≡ (λ number. if is_heard_at plan port number then now else shut number)
heard plan port now shut granted =
    let known : has_port plan (number_of port) ≡ true =
    elim (cases_Bool (has_port plan (number_of port))) [
      | inl is ↦ is
      | inr unknown ↦ absurd cc (sym (ap (λ (b : Bool). if b then None else Some refusals.NoSuchPort) unknown) ∙ granted)
    ] in
    fun_ext (λ number. ap (λ (b : Bool). if b && number_of port == number then now else shut number) (sym known))
