-- Which marks may come after others.
use Rattle.std.specs.Prelude.{ℕ, ◌≡◌, ◌≤◌, ◌^◌, IsSome, Some, None, List, [], ◌∷◌, ◌++◌, All}
use Rattle.savi_kinds.specs.Ports.{number_of}
use Rattle.dhcp_states.specs.Requests.{refusal, asker}
use Rattle.savi_access.specs.Limits.{MayFollow as MayBeTold}
use Rattle.savi_access.specs.Rules.{AccessRules, AccessBase}
use Rattle.savi_access.specs.Marks.{Mark, Told, Asked, Met, told, moment_of, newest_moment, open_requests}

-- what the kind of a mark asks: an event on an address may come; a request is one at a port of its VLAN that isn't refused;
-- what is met is an open request
abbrev pub MayBe : AccessRules → AccessBase → List Mark → Mark → Type 0
MayBe r base past (Told named) = MayBeTold r.addresses base.addresses (told past) named
MayBe r base past (Asked vlan request) =
    (r.addresses.vlan_of (number_of request.port) ≡ Some vlan)
    × (refusal (number_of request.port) request.tid request.duid.items (open_requests base vlan past request.opened) ≡ None)
MayBe r base past (Met vlan moment tid duid) = IsSome (asker tid duid (open_requests base vlan past moment))

-- a mark that may come after these: at no earlier moment than theirs, and as its kind asks
pub record Follows (r : AccessRules) (base : AccessBase) (past : List Mark) (mark : Mark) : Type 0 where
  pub order : newest_moment base past ≤ moment_of mark
  pub early : moment_of mark ≤ 2 ^ 62
  pub kind : MayBe r base past mark

-- each mark followed those before it
abbrev pub AreMarks : AccessRules → AccessBase → List Mark → Type 0
AreMarks r base [] = Unit {0}
AreMarks r base (mark ∷ past) = Follows r base past mark × AreMarks r base past

-- the marks are these, and new ones in front of them, all of the moment t
pub record HasFront (t : ℕ) (past marks : List Mark) : Type 0 where
  pub new : List Mark
  pub is : marks ≡ new ++ past
  pub moments : All (λ mark. moment_of mark ≡ t) new
