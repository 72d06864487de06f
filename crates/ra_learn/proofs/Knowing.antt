-- What one more sighting adds to what is known.
use Rattle.std.proofs.Common.{◌≡◌, ℕ, ◌≤◌, ◌==◌, ◌&&◌, not, Bool, true, false, cond, List, [], ◌∷◌, filter, Some, None, is_some, refl, sym, ◌∙◌, ap, inl, inr}
use Rattle.std.specs.List.{filter_map, list_all, slice_get, flat_map}
use Rattle.std.specs.Option.{unwrap_or}
use Rattle.std.proofs.lemmas.Bool.{cases_Bool, eqb-true, eqb-false, eq-eqb, ne_eqb}
use Rattle.savi_kinds.specs.declared.plan.Plan.{Plan}
use Rattle.savi_kinds.specs.declared.plan.PortPlan.{PortPlan}
use Rattle.savi_kinds.specs.declared.port.PortSet.{PortSet}
use Rattle.savi_kinds.specs.Ports.{number_of}
use Rattle.savi_kinds.specs.PortSets.{is_member, with_member}
use Rattle.savi_kinds.proofs.Members.{is_member-with}
use Rattle.ra_learn.specs.Carried.{Carried, carried}
use Rattle.ra_learn.specs.Link.{link_nets, link_ports}
use Rattle.ra_learn.specs.Sightings.{Sighting, Heard, first_moment, good_advert}
use Rattle.ra_learn.specs.Guarding.{trusts, is_acceptable, is_window_open, is_early_at, early_adverts, guard_at, is_forwarding, passed, answer}
use Rattle.ra_learn.specs.Printed.{guard_line, port_state_line, learned_port_line, learned_lines, known_lines}
use Rattle.ra_learn.specs.Tables.{Tables, told_at, told_by, learned_tables}
use Rattle.ra_learn.specs.Learned.{Learned, HasLearned, accepts, state_of, lets_pass, with_if, after_noting, told_if_passed, begun_at}

first_more : (one : Sighting) (past : List Sighting) → first_moment (one ∷ past) ≡ Some (unwrap_or (first_moment past) one.moment)
first_more one [] = refl
first_more one (x ∷ rest) =
    let same : first_moment (x ∷ rest) ≡ Some (unwrap_or (first_moment rest) x.moment) = first_more x rest in
    rw same refl

early_more : (window : ℕ) (one : Sighting) (past : List Sighting) (n : ℕ) → early_adverts window (one ∷ past) n ≡ filter_map good_advert (cond (is_early_at window (first_moment (one ∷ past)) n one) (one ∷ filter (is_early_at window (first_moment past) n) past) (filter (is_early_at window (first_moment past) n) past))
early_more window one [] n = refl
early_more window one (x ∷ rest) n = refl

early_none : (window : ℕ) (one : Sighting) (past : List Sighting) (n : ℕ) → good_advert one ≡ None → early_adverts window (one ∷ past) n ≡ early_adverts window past n
early_none window one past n none =
    early_more window one past n
    ∙ elim (cases_Bool (is_early_at window (first_moment (one ∷ past)) n one)) [ inl is ↦ rw (is, none) refl | inr late ↦ rw late refl ]

early_some : (window : ℕ) (one : Sighting) (past : List Sighting) (n : ℕ) (heard : Heard) → good_advert one ≡ Some heard → early_adverts window (one ∷ past) n ≡ cond (is_early_at window (first_moment (one ∷ past)) n one) (heard ∷ early_adverts window past n) (early_adverts window past n)
early_some window one past n heard some =
    early_more window one past n
    ∙ elim (cases_Bool (is_early_at window (first_moment (one ∷ past)) n one)) [ inl is ↦ rw (is, some) refl | inr late ↦ rw late refl ]

-- the same, where nothing is told yet
pub record KnowsPorts (plan : Plan) (window : ℕ) (past : List Sighting) (learned : Learned) : Type 0 where
  pub trusted : (n : ℕ) → 1 ≤ n → is_member learned.trusted n ≡ trusts plan n
  pub nets : learned.nets ≡ link_nets plan.prefixes
  pub length : learned.window ≡ window
  pub first : learned.first ≡ first_moment past
  pub heard : (n : ℕ) → 1 ≤ n → is_member learned.heard n ≡ is_some (slice_get (early_adverts window past n) 0)
  pub refused : (n : ℕ) → 1 ≤ n → is_member learned.refused n ≡ not (list_all (is_acceptable plan n) (early_adverts window past n))

member_same : (set : PortSet) (p n : ℕ) → 1 ≤ p → 1 ≤ n → (p == n) ≡ true → is_member (with_member set p) n ≡ true
member_same set p n low least same = is_member-with set p n low least ∙ rw (eq-eqb n p (sym (eqb-true p n same))) refl

member_other : (set : PortSet) (p n : ℕ) → 1 ≤ p → 1 ≤ n → (p == n) ≡ false → is_member (with_member set p) n ≡ is_member set n
member_other set p n low least other = is_member-with set p n low least ∙ rw (ne_eqb n p (λ e. eqb-false p n other (sym e))) refl

heard_more : (early : Bool) (set : PortSet) (p n : ℕ) → 1 ≤ p → 1 ≤ n → (heard : Heard) (es : List Heard) → is_member set n ≡ is_some (slice_get es 0) → is_member (with_if early set p) n ≡ is_some (slice_get (cond ((p == n) && early) (heard ∷ es) es) 0)
heard_more false set p n low least heard es known = elim (cases_Bool (p == n)) [ inl same ↦ rw same known | inr other ↦ rw other known ]
heard_more true set p n low least heard es known =
    elim (cases_Bool (p == n)) [
      | inl same ↦ rw same (member_same set p n low least same)
      | inr other ↦ rw other (member_other set p n low least other ∙ known)
    ]

refused_more : (early acceptable : Bool) (set : PortSet) (p n : ℕ) → 1 ≤ p → 1 ≤ n → (test : Heard → Bool) (heard : Heard) (es : List Heard) → (p ≡ n → acceptable ≡ test heard) → is_member set n ≡ not (list_all test es) → is_member (with_if (early && not acceptable) set p) n ≡ not (list_all test (cond ((p == n) && early) (heard ∷ es) es))
refused_more false acceptable set p n low least test heard es tests known = elim (cases_Bool (p == n)) [ inl same ↦ rw same known | inr other ↦ rw other known ]
refused_more true true set p n low least test heard es tests known =
    elim (cases_Bool (p == n)) [
      | inl same ↦ rw (same, ← tests (eqb-true p n same)) known
      | inr other ↦ rw other known
    ]
refused_more true false set p n low least test heard es tests known =
    elim (cases_Bool (p == n)) [
      | inl same ↦ rw (same, ← tests (eqb-true p n same)) (member_same set p n low least same)
      | inr other ↦ rw other (member_other set p n low least other ∙ known)
    ]

accepts_is : {plan : Plan} {window : ℕ} {past : List Sighting} {learned : Learned} → KnowsPorts plan window past learned → (n : ℕ) → 1 ≤ n → (heard : Heard) → accepts learned n heard.ra ≡ is_acceptable plan n heard
accepts_is knows n low heard = rw (knows.trusted n low, knows.nets) refl

not_not : (b : Bool) → not (not b) ≡ b
not_not true = refl
not_not false = refl

pub state_is : {plan : Plan} {window : ℕ} {past : List Sighting} {learned : Learned} → KnowsPorts plan window past learned → (n t : ℕ) → 1 ≤ n → state_of learned n t ≡ guard_at plan window past n t
state_is knows n t low = rw (knows.trusted n low, knows.length, knows.first, knows.heard n low, knows.refused n low, not_not) refl

ports_of : {plan : Plan} {window : ℕ} {past : List Sighting} {learned : Learned} → HasLearned plan window past learned → KnowsPorts plan window past learned
ports_of knows = record { trusted = knows.trusted; nets = knows.nets; length = knows.length; first = knows.first; heard = knows.heard; refused = knows.refused }

-- where what was seen isn't a good advertisement
pub knows_none : (plan : Plan) (window : ℕ) (past : List Sighting) (learned : Learned) (one : Sighting) → good_advert one ≡ None → HasLearned plan window past learned → HasLearned plan window (one ∷ past) (begun_at one.moment learned)
knows_none plan window past learned one none knows = record {
  trusted = knows.trusted;
  nets = knows.nets;
  length = knows.length;
  first = ap (λ first. Some (unwrap_or first one.moment)) knows.first ∙ sym (first_more one past);
  heard = λ n low. knows.heard n low ∙ ap (λ es. is_some (slice_get es 0)) (sym (early_none window one past n none));
  refused = λ n low. knows.refused n low ∙ ap (λ es. not (list_all (is_acceptable plan n) es)) (sym (early_none window one past n none));
  tables = knows.tables ∙ rw none refl;
}

-- where it is a good one, of the ports
ports_some : (plan : Plan) (window : ℕ) (past : List Sighting) (learned : Learned) (one : Sighting) (heard : Heard) → 1 ≤ number_of one.port → good_advert one ≡ Some heard → KnowsPorts plan window past learned → KnowsPorts plan window (one ∷ past) (after_noting (begun_at one.moment learned) (number_of one.port) one.moment heard.ra)
ports_some plan window past learned one heard low some knows =
    let first : Some (unwrap_or learned.first one.moment) ≡ first_moment (one ∷ past) = ap (λ first. Some (unwrap_or first one.moment)) knows.first ∙ sym (first_more one past) in
    let early : is_window_open learned.window (Some (unwrap_or learned.first one.moment)) one.moment ≡ is_window_open window (first_moment (one ∷ past)) one.moment =
    ap (λ w. is_window_open w (Some (unwrap_or learned.first one.moment)) one.moment) knows.length ∙ ap (λ f. is_window_open window f one.moment) first in
    record {
      trusted = knows.trusted;
      nets = knows.nets;
      length = knows.length;
      first = first;
      heard = λ n least. rw (early, early_some window one past n heard some) (heard_more (is_window_open window (first_moment (one ∷ past)) one.moment) learned.heard (number_of one.port) n low least heard (early_adverts window past n) (knows.heard n least));
      refused = λ n least. rw (early, early_some window one past n heard some) (refused_more (is_window_open window (first_moment (one ∷ past)) one.moment) (accepts learned (number_of one.port) heard.ra) learned.refused (number_of one.port) n low least (is_acceptable plan n) heard (early_adverts window past n) (λ same. accepts_is knows (number_of one.port) low heard ∙ ap (λ m. is_acceptable plan m heard) same) (knows.refused n least));
    }

lets_pass_is : {plan : Plan} {window : ℕ} {past : List Sighting} {learned : Learned} → KnowsPorts plan window past learned → (n t : ℕ) → 1 ≤ n → (heard : Heard) → lets_pass learned n t heard.ra ≡ (is_forwarding (guard_at plan window past n t) && is_acceptable plan n heard)
lets_pass_is knows n t low heard = rw (state_is knows n t low, accepts_is knows n low heard) refl

told_by_if : (b : Bool) (one : Sighting) (heard : Heard) (tables : Tables) → cond b (told_at one.port one.moment heard tables) tables ≡ told_by one (cond b (Some heard) None) tables
told_by_if true one heard tables = refl
told_by_if false one heard tables = refl

pub knows_some : (plan : Plan) (window : ℕ) (past : List Sighting) (learned : Learned) (one : Sighting) (heard : Heard) → 1 ≤ number_of one.port → good_advert one ≡ Some heard → HasLearned plan window past learned → HasLearned plan window (one ∷ past) (told_if_passed (after_noting (begun_at one.moment learned) (number_of one.port) one.moment heard.ra) one.port one.moment heard)
knows_some plan window past learned one heard low some knows =
    let ports = ports_some plan window past learned one heard low some (ports_of knows) in
    let passes = lets_pass_is ports (number_of one.port) one.moment low heard in
    record {
      trusted = ports.trusted;
      nets = ports.nets;
      length = ports.length;
      first = ports.first;
      heard = ports.heard;
      refused = ports.refused;
      tables = rw (passes, knows.tables, some) (told_by_if (is_forwarding (guard_at plan window (one ∷ past) (number_of one.port) one.moment) && is_acceptable plan (number_of one.port) heard) one heard (learned_tables plan window past));
    }

is_some_if : (b : Bool) (heard : Heard) → is_some (cond b (Some heard) None) ≡ b
is_some_if true heard = refl
is_some_if false heard = refl

pub answer_some : (plan : Plan) (window : ℕ) (past : List Sighting) (learned : Learned) (one : Sighting) (found : Carried) (heard : Heard) → 1 ≤ number_of one.port → carried one.octets ≡ Some found → good_advert one ≡ Some heard → HasLearned plan window past learned → Some (lets_pass (after_noting (begun_at one.moment learned) (number_of one.port) one.moment heard.ra) (number_of one.port) one.moment heard.ra) ≡ answer plan window past one
answer_some plan window past learned one found heard low carries some knows =
    let ports = ports_some plan window past learned one heard low some (ports_of knows) in
    let passes = lets_pass_is ports (number_of one.port) one.moment low heard in
    let good : is_some (passed plan window past one) ≡ (is_forwarding (guard_at plan window (one ∷ past) (number_of one.port) one.moment) && is_acceptable plan (number_of one.port) heard) =
    rw some (is_some_if (is_forwarding (guard_at plan window (one ∷ past) (number_of one.port) one.moment) && is_acceptable plan (number_of one.port) heard) heard) in
    ap Some (passes ∙ sym good) ∙ rw carries refl

flat_map_agree : {A : Type 0} (f g : A → List ℕ) → ((x : A) → f x ≡ g x) → (xs : List A) → flat_map f xs ≡ flat_map g xs
flat_map_agree f g same [] = refl
flat_map_agree f g same (x ∷ xs) = rw (same x, flat_map_agree f g same xs) refl

-- what is put of a learner is what is known
pub lines_known : (plan : Plan) (window : ℕ) (past : List Sighting) (learned : Learned) (moment : ℕ) → HasLearned plan window past learned → learned_lines learned plan.ports moment ≡ known_lines plan window past moment
lines_known plan window past learned moment knows =
    let ports : flat_map (learned_port_line learned moment) (link_ports plan.ports) ≡ flat_map (port_state_line plan window past moment) (link_ports plan.ports) =
    flat_map_agree (learned_port_line learned moment) (port_state_line plan window past moment) (λ (p : PortPlan). ap (guard_line (number_of p.number)) (state_is (ports_of knows) (number_of p.number) moment p.number.low)) (link_ports plan.ports) in
    rw (ports, knows.tables) refl
