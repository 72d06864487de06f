-- What a contract sees of the machine that judges the frames of a VLAN, and what that says of the past.
use Rattle.std.specs.Prelude.{◌≡◌, ℕ, ◌≤◌, List}
use Rattle.dhcp_states.specs.declared.request.Request.{Request}
use Rattle.dhcp_states.specs.Requests.{open_at}
use Rattle.addr_table.specs.Addresses.{Addresses}
use Rattle.savi_access.specs.Ages.{AllStill}
use Rattle.savi_access.specs.Keeps.{AreSound}
use Rattle.savi_access.specs.Tables.{rows_at}
use Rattle.savi_access.specs.Rules.{AccessRules, AccessBase, IsAccessBase}
use Rattle.savi_access.specs.Marks.{Mark, told, newest_moment, open_requests}
use Rattle.savi_access.specs.Legal.{AreMarks}

pub record Kept : Type 0 where
  -- the VLAN whose addresses and requests these are
  pub vlan : ℕ
  -- the states of addresses
  pub addresses : Addresses
  -- the requests, the one that was asked last at the end
  pub requests : List Request

-- all that was told since a base within the limits, by these rules: the states are those that the marks leave at t in the
-- VLAN, and the open requests are those that are open there then
pub record Represents (r : AccessRules) (base : AccessBase) (past : List Mark) (t : ℕ) (kept : Kept) : Type 0 where
  pub base_is : IsAccessBase r base
  pub marks : AreMarks r base past
  pub last : newest_moment base past ≤ t
  pub rows : kept.addresses.rows ≡ rows_at r.addresses base.addresses (told past) t kept.vlan
  pub requests : open_at t kept.requests ≡ open_requests base kept.vlan past t
  pub times : kept.addresses.times ≡ r.addresses.times
  pub per_port : kept.addresses.per_port ≡ r.addresses.per_port

-- it was made with these rules: states age by their times, and a port may hold as many addresses as they say
pub record IsMadeWith (r : AccessRules) (kept : Kept) : Type 0 where
  pub times : kept.addresses.times ≡ r.addresses.times
  pub per_port : kept.addresses.per_port ≡ r.addresses.per_port

-- it was made with these rules, all states are aged to t, and each is sound for the method of its address in the VLAN
pub record IsAgedTo (r : AccessRules) (t : ℕ) (kept : Kept) : Type 0 where
  pub made : IsMadeWith r kept
  pub still : AllStill kept.addresses.times t kept.addresses.rows
  pub sound : AreSound (r.addresses.method_of kept.vlan) kept.addresses.rows
