-- What a learner keeps, and how it stands with what was seen.
use Rattle.std.specs.Prelude.{◌≡◌, ℕ, ◌≤◌, ◌&&◌, ◌||◌, not, Bool, if◌then◌else◌, is_some, slice_get, unwrap_or, List, Option, Some}
use Rattle.std.specs.List.{list_all}
use Rattle.savi_kinds.specs.declared.address.Prefix.{Prefix}
use Rattle.savi_kinds.specs.declared.plan.Plan.{Plan}
use Rattle.savi_kinds.specs.declared.port.Port.{Port}
use Rattle.savi_kinds.specs.declared.port.PortSet.{PortSet}
use Rattle.savi_kinds.specs.Ports.{number_of}
use Rattle.savi_kinds.specs.PortSets.{is_member, with_member}
use Rattle.ra_learn.specs.declared.advert.Ra.{Ra}
use Rattle.ra_learn.specs.declared.guard.Guard.{Guard}
use Rattle.ra_learn.specs.declared.guard.Guard.TheVariants.{Learning, Blocking, Forwarding}
use Rattle.ra_learn.specs.Link.{link_nets}
use Rattle.ra_learn.specs.Sightings.{Sighting, Heard, first_moment}
use Rattle.ra_learn.specs.Guarding.{trusts, names_known, is_acceptable, is_window_open, early_adverts, is_forwarding}
use Rattle.ra_learn.specs.Tables.{Tables, told_at, learned_tables}

pub record Learned : Type 0 where
  -- the trusted ports, the prefixes of the link, and the length of the window (ms)
  pub trusted : PortSet
  pub nets : List Prefix
  pub window : ℕ
  -- when the first frame was seen
  pub first : Option ℕ
  -- the ports at which a good advertisement was seen in the window, and those at which one wasn't acceptable
  pub heard : PortSet
  pub refused : PortSet
  pub tables : Tables

-- The steps of a learner, by what it keeps.

abbrev pub accepts : Learned → ℕ → Ra → Bool
accepts learned number ra = is_member learned.trusted number || names_known learned.nets ra

-- the state of a port
abbrev pub state_of : Learned → ℕ → ℕ → Guard
state_of learned number t =
    if is_member learned.trusted number then Forwarding
    else if is_window_open learned.window learned.first t then Learning
    else if is_member learned.heard number && not (is_member learned.refused number) then Forwarding
    else Blocking

-- a good advertisement passes
abbrev pub lets_pass : Learned → ℕ → ℕ → Ra → Bool
lets_pass learned number t ra = is_forwarding (state_of learned number t) && accepts learned number ra

-- the set with this port as a member too, where that is so
abbrev pub with_if : Bool → PortSet → ℕ → PortSet
with_if so set number = if so then with_member set number else set

-- once a good advertisement was noted
abbrev pub after_noting : Learned → ℕ → ℕ → Ra → Learned
after_noting learned number t ra = record learned {
  heard = with_if (is_window_open learned.window learned.first t) learned.heard number;
  refused = with_if (is_window_open learned.window learned.first t && not (accepts learned number ra)) learned.refused number;
}

-- once what it tells is told, where it passes
abbrev pub told_if_passed : Learned → Port → ℕ → Heard → Learned
told_if_passed learned port t heard = record learned {
  tables = if lets_pass learned (number_of port) t heard.ra then told_at port t heard learned.tables else learned.tables;
}

-- once a frame was seen at t: the window began then, unless it began before
abbrev pub begun_at : ℕ → Learned → Learned
begun_at t learned = record learned { first = Some (unwrap_or learned.first t) }

-- what is kept is what this plan, this window and all that was seen come to
pub record HasLearned (plan : Plan) (window : ℕ) (past : List Sighting) (learned : Learned) : Type 0 where
  pub trusted : (n : ℕ) → 1 ≤ n → is_member learned.trusted n ≡ trusts plan n
  pub nets : learned.nets ≡ link_nets plan.prefixes
  pub length : learned.window ≡ window
  pub first : learned.first ≡ first_moment past
  pub heard : (n : ℕ) → 1 ≤ n → is_member learned.heard n ≡ is_some (slice_get (early_adverts window past n) 0)
  pub refused : (n : ℕ) → 1 ≤ n → is_member learned.refused n ≡ not (list_all (is_acceptable plan n) (early_adverts window past n))
  pub tables : learned.tables ≡ learned_tables plan window past
