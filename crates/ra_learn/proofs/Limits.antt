-- What passes, what it tells, and that the tables stay within their limits.
use Rattle.std.proofs.Common.{◌≡◌, ◌≢◌, ℕ, ◌≤◌, ◌<◌, ◌&&◌, nat_lt, Bool, true, false, List, [], ◌∷◌, length, Option, Some, None, is_some, refl, ap, arith, inl, inr}
use Rattle.std.specs.Option.{option_and_then}
use Rattle.std.proofs.lemmas.Bool.{false≢true, cases_Bool, and_parts, ltb-true, cond_both}
use Rattle.savi_kinds.specs.Ports.{number_of}
use Rattle.savi_kinds.specs.declared.plan.Plan.{Plan}
use Rattle.ra_learn.specs.declared.advert.AdvertPrefix.{AdvertPrefix}
use Rattle.ra_learn.specs.declared.guard.Guard.{Guard}
use Rattle.ra_learn.specs.declared.guard.Guard.TheVariants.{Learning, Blocking, Forwarding}
use Rattle.ra_learn.specs.declared.routers.Router.{Router}
use Rattle.ra_learn.specs.declared.prefixes.LinkPrefix.{LinkPrefix}
use Rattle.ra_learn.specs.Ordered.{IsOrdered, left_beside, placed, with_set_entry}
use Rattle.ra_learn.specs.Carried.{Carried, carried}
use Rattle.ra_learn.specs.Sightings.{Sighting, Heard, heard_of, good_advert}
use Rattle.ra_learn.specs.Guarding.{guard_at, is_forwarding, is_acceptable, if_let_pass, passed, answer}
use Rattle.ra_learn.specs.Tables.{Tables, router_before, router_stands, prefix_before, prefix_stands, with_router, with_prefix, with_prefixes, link_prefix_of, router_of, told_by, learned_tables}
use Rattle.ra_learn.specs.Laws.{MayPass, AreWithinLimits}
use Rattle.ra_learn.proofs.Placing.{IsOrder, left_ordered, left_fewer, placed_ordered, placed_length}
use Rattle.ra_learn.proofs.Orders.{routers_ordered, prefixes_ordered}

forwarding_is : (guard : Guard) → is_forwarding guard ≡ true → guard ≡ Forwarding
forwarding_is Learning is = absurd (false≢true is)
forwarding_is Blocking is = absurd (false≢true is)
forwarding_is Forwarding is = refl

not_forwarding : (guard : Guard) → guard ≢ Forwarding → is_forwarding guard ≡ false
not_forwarding Learning other = refl
not_forwarding Blocking other = refl
not_forwarding Forwarding other = absurd (other refl)

-- what passes, by what was heard
passes_some : (plan : Plan) (window : ℕ) (past : List Sighting) (one : Sighting) (heard : Option Heard) → good_advert one ≡ heard → is_some (option_and_then (if_let_pass plan window past one) heard) ≡ true → MayPass plan window past one
passes_some plan window past one None good some = absurd (false≢true some)
passes_some plan window past one (Some heard) good some =
    elim (cases_Bool (is_forwarding (guard_at plan window (one ∷ past) (number_of one.port) one.moment) && is_acceptable plan (number_of one.port) heard)) [
      | inl both ↦
          let parts = and_parts (is_forwarding (guard_at plan window (one ∷ past) (number_of one.port) one.moment)) (is_acceptable plan (number_of one.port) heard) both in
          record { forwards = forwarding_is (guard_at plan window (one ∷ past) (number_of one.port) one.moment) parts.0; heard = heard; good = good; acceptable = parts.1 }
      | inr fails ↦ absurd (false≢true (rw fails at some))
    ]

answer_true : (plan : Plan) (window : ℕ) (past : List Sighting) (one : Sighting) → answer plan window past one ≡ Some true → is_some (passed plan window past one) ≡ true
answer_true plan window past one says =
    elim (cases_Bool (is_some (carried one.octets))) [
      | inl some ↦ let said : Some (is_some (passed plan window past one)) ≡ Some true = rw some at says in cc
      | inr none ↦ let said : None ≡ Some true = rw none at says in cc
    ]

carries : (one : Sighting) (found : Option Carried) (heard : Heard) → option_and_then heard_of found ≡ Some heard → is_some found ≡ true
carries one None heard good = cc
carries one (Some found) heard good = refl

pub passes_where_it_may : (plan : Plan) (window : ℕ) (past : List Sighting) (one : Sighting) → (answer plan window past one ≡ Some true → MayPass plan window past one) × (MayPass plan window past one → answer plan window past one ≡ Some true)
passes_where_it_may plan window past one = (
  λ says. passes_some plan window past one (good_advert one) refl (answer_true plan window past one says),
  λ may. rw (carries one (carried one.octets) may.heard may.good, may.good, may.forwards, may.acceptable) refl,
)

-- nothing passes where the port doesn't forward
passed_none : (plan : Plan) (window : ℕ) (past : List Sighting) (one : Sighting) (heard : Option Heard) → is_forwarding (guard_at plan window (one ∷ past) (number_of one.port) one.moment) ≡ false → option_and_then (if_let_pass plan window past one) heard ≡ None
passed_none plan window past one None stops = refl
passed_none plan window past one (Some heard) stops = rw stops refl

pub others_tell_nothing : (plan : Plan) (window : ℕ) (past : List Sighting) (one : Sighting) → guard_at plan window (one ∷ past) (number_of one.port) one.moment ≢ Forwarding → learned_tables plan window (one ∷ past) ≡ learned_tables plan window past
others_tell_nothing plan window past one other =
    ap (λ heard. told_by one heard (learned_tables plan window past)) (passed_none plan window past one (good_advert one) (not_forwarding (guard_at plan window (one ∷ past) (number_of one.port) one.moment) other))

-- entries in order, and at most so many
pub record AreFew {A : Type 0} (most : ℕ) (before : A → A → Bool) (entries : List A) : Type 0 where
  pub ordered : IsOrdered before entries
  pub few : length entries ≤ most

set_few : {A : Type 0} (most : ℕ) (before : A → A → Bool) → IsOrder before → (stands : A → Bool) (new : A) (entries : List A) → AreFew most before entries → AreFew most before (with_set_entry most before stands new entries)
set_few most before order stands new entries within =
    let left = left_beside before stands new entries in
    let ordered = left_ordered before stands new entries within.ordered in
    let fewer = left_fewer before stands new entries in
    cond_both (stands new && nat_lt (length left) most) (placed before new left) left (AreFew most before)
    (λ both.
    let room : length left < most = ltb-true (length left) most (and_parts (stands new) (nat_lt (length left) most) both).1 in
    record { ordered = placed_ordered before order new left ordered; few = omega (arith, room, placed_length before stands new entries order within.ordered) })
    (λ _. record { ordered = ordered; few = omega (arith, fewer, within.few) })

with_router_within : (t : ℕ) (router : Router) (tables : Tables) → AreWithinLimits tables → AreWithinLimits (with_router t router tables)
with_router_within t router tables within =
    let set = set_few 64 router_before routers_ordered (router_stands t) router tables.routers (record { ordered = within.routers; few = within.few_routers }) in
    record { routers = set.ordered; few_routers = set.few; prefixes = within.prefixes; few_prefixes = within.few_prefixes }

with_prefix_within : (t : ℕ) (prefix : LinkPrefix) (tables : Tables) → AreWithinLimits tables → AreWithinLimits (with_prefix t prefix tables)
with_prefix_within t prefix tables within =
    let set = set_few 32 prefix_before prefixes_ordered (prefix_stands t) prefix tables.prefixes (record { ordered = within.prefixes; few = within.few_prefixes }) in
    record { routers = within.routers; few_routers = within.few_routers; prefixes = set.ordered; few_prefixes = set.few }

with_prefixes_within : (t : ℕ) (advertised : List AdvertPrefix) (tables : Tables) → AreWithinLimits tables → AreWithinLimits (with_prefixes t advertised tables)
with_prefixes_within t [] tables within = within
with_prefixes_within t (a ∷ more) tables within = with_prefixes_within t more (with_prefix t (link_prefix_of t a) tables) (with_prefix_within t (link_prefix_of t a) tables within)

told_within : (one : Sighting) (heard : Option Heard) (tables : Tables) → AreWithinLimits tables → AreWithinLimits (told_by one heard tables)
told_within one None tables within = within
told_within one (Some heard) tables within =
    with_prefixes_within one.moment heard.ra.prefixes.items (with_router one.moment (router_of one.port one.moment heard) tables) (with_router_within one.moment (router_of one.port one.moment heard) tables within)

pub tables_within : (plan : Plan) (window : ℕ) (past : List Sighting) → AreWithinLimits (learned_tables plan window past)
tables_within plan window [] = record {
  routers = λ i j d before below. absurd (omega (arith, below));
  few_routers = omega arith;
  prefixes = λ i j d before below. absurd (omega (arith, below));
  few_prefixes = omega arith;
}
tables_within plan window (one ∷ past) = told_within one (passed plan window past one) (learned_tables plan window past) (tables_within plan window past)
