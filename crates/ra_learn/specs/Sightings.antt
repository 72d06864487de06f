-- What is seen at the ports of a link, the newest first: a frame of at most 1,518 octets, however short, its port and its
-- moment (ms).
use Rattle.std.specs.Prelude.{ℕ, List, [], ◌∷◌, Option, Some, None}
use Rattle.std.specs.Option.{option_map, option_and_then}
use Rattle.savi_kinds.specs.declared.address.Addr.{Addr}
use Rattle.savi_kinds.specs.declared.port.Port.{Port}
use Rattle.ra_learn.specs.declared.advert.Ra.{Ra}
use Rattle.ra_learn.specs.RouterAdverts.{advert_of}
use Rattle.ra_learn.specs.Carried.{Carried, carried}

pub record Sighting : Type 0 where
  pub port : Port
  pub moment : ℕ
  pub octets : List ℕ

-- the moment of the first frame, if there is one
abbrev pub first_moment : List Sighting → Option ℕ
first_moment [] = None
first_moment (one ∷ []) = Some one.moment
first_moment (one ∷ earlier ∷ past) = first_moment (earlier ∷ past)

-- a good advertisement, and the address of the router that sent it
pub record Heard : Type 0 where
  pub source : Addr
  pub ra : Ra

-- what is heard of a carried message, where it is a good advertisement
abbrev pub heard_of : Carried → Option Heard
heard_of found = option_map (λ ra. record { source = found.ip.src; ra = ra }) (advert_of found.ip found.message)

-- the good advertisement that was seen, if it was one
abbrev pub good_advert : Sighting → Option Heard
good_advert one = option_and_then heard_of (carried one.octets)
