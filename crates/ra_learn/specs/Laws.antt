-- What stateful RA-Guard and its tables come to, whatever was seen.
use Rattle.std.specs.Prelude.{◌≡◌, ◌≢◌, ℕ, ◌≤◌, ◌↔◌, true, Some, List, ◌∷◌, length}
use Rattle.savi_kinds.specs.Ports.{number_of}
use Rattle.savi_kinds.specs.declared.plan.Plan.{Plan}
use Rattle.ra_learn.specs.declared.guard.Guard.TheVariants.{Forwarding}
use Rattle.ra_learn.specs.Ordered.{IsOrdered}
use Rattle.ra_learn.specs.Sightings.{Sighting, Heard, good_advert}
use Rattle.ra_learn.specs.Guarding.{guard_at, is_acceptable, answer}
use Rattle.ra_learn.specs.Tables.{Tables, router_before, prefix_before, learned_tables}

-- what was seen is a good advertisement that is acceptable at its port, and the port forwards
pub record MayPass (plan : Plan) (window : ℕ) (past : List Sighting) (one : Sighting) : Type 0 where
  pub forwards : guard_at plan window (one ∷ past) (number_of one.port) one.moment ≡ Forwarding
  pub heard : Heard
  pub good : good_advert one ≡ Some heard
  pub acceptable : is_acceptable plan (number_of one.port) heard ≡ true

-- routers and prefixes are in order, so each has one entry, and there are at most 64 and 32
pub record AreWithinLimits (tables : Tables) : Type 0 where
  pub routers : IsOrdered router_before tables.routers
  pub few_routers : length tables.routers ≤ 64
  pub prefixes : IsOrdered prefix_before tables.prefixes
  pub few_prefixes : length tables.prefixes ≤ 32

-- an advertisement passes exactly where its port forwards and it is good and acceptable
abbrev pub PassesWhereItMay : Type 0
PassesWhereItMay =
    (plan : Plan) (window : ℕ) (past : List Sighting) (one : Sighting) → (answer plan window past one ≡ Some true) ↔ MayPass plan window past one

-- what is seen at a port that doesn't forward changes no router and no prefix
abbrev pub OthersTellNothing : Type 0
OthersTellNothing =
    (plan : Plan) (window : ℕ) (past : List Sighting) (one : Sighting) → guard_at plan window (one ∷ past) (number_of one.port) one.moment ≢ Forwarding
    → learned_tables plan window (one ∷ past) ≡ learned_tables plan window past

abbrev pub TablesStayWithinLimits : Type 0
TablesStayWithinLimits = (plan : Plan) (window : ℕ) (past : List Sighting) → AreWithinLimits (learned_tables plan window past)
