-- The routers and prefixes of a link, as the advertisements that passed tell them: each stands before its moment. At most
-- 64 routers and 32 prefixes stand; each further one is counted.
use Rattle.std.specs.Prelude.{ℕ, ◌+◌, ◌-◌, ◌*◌, ◌^◌, ◌==◌, ◌&&◌, ◌||◌, min, nat_lt, Bool, true, if◌then◌else◌, List, [], ◌∷◌, filter, fold, Option, Some, None}
use Rattle.savi_kinds.specs.Ports.{number_of}
use Rattle.savi_kinds.specs.declared.address.Addr.{Addr}
use Rattle.savi_kinds.specs.declared.address.Prefix.{Prefix}
use Rattle.savi_kinds.specs.declared.plan.Plan.{Plan}
use Rattle.savi_kinds.specs.declared.port.Port.{Port}
use Rattle.ra_learn.specs.declared.advert.AdvertPrefix.{AdvertPrefix}
use Rattle.ra_learn.specs.declared.routers.Router.{Router}
use Rattle.ra_learn.specs.declared.prefixes.LinkPrefix.{LinkPrefix}
use Rattle.ra_learn.specs.Ordered.{with_set_entry, is_one_too_many}
use Rattle.ra_learn.specs.Sightings.{Sighting, Heard}
use Rattle.ra_learn.specs.Guarding.{passed}

-- routers come by address, and those of one address by port
abbrev pub router_before : Router → Router → Bool
router_before one other =
    nat_lt one.source.0 other.source.0 || ((one.source.0 == other.source.0) && nat_lt (number_of one.port) (number_of other.port))

-- prefixes come by address, and those of one address by length
abbrev pub prefix_before : LinkPrefix → LinkPrefix → Bool
prefix_before one other =
    nat_lt one.prefix.net.0 other.prefix.net.0 || ((one.prefix.net.0 == other.prefix.net.0) && nat_lt one.prefix.len other.prefix.len)

-- a router stands strictly before its moment
abbrev pub router_stands : ℕ → Router → Bool
router_stands t router = nat_lt t router.until

-- so does a prefix, and one without a moment always
abbrev pub stands_before : ℕ → Option ℕ → Bool
stands_before t None = true
stands_before t (Some until) = nat_lt t until

abbrev pub prefix_stands : ℕ → LinkPrefix → Bool
prefix_stands t prefix = stands_before t prefix.until

-- the moment at which a prefix ends that is valid for so many seconds: none for 0xffffffff, which stands for infinity
-- (RFC 4861 section 4.6.2)
abbrev pub valid_until : ℕ → ℕ → Option ℕ
valid_until t valid = if valid == 0xffffffff then None else Some (t + 1000 * valid)

-- the routers, the prefixes, and how many found no place
pub record Tables : Type 0 where
  pub routers : List Router
  pub prefixes : List LinkPrefix
  pub lost : ℕ

abbrev pub no_entries : Tables
no_entries = record { routers = []; prefixes = []; lost = 0 }

-- one more where it is lost, up to the largest u64
abbrev pub count_lost : Bool → ℕ → ℕ
count_lost lost n = if lost then min (n + 1) (2 ^ 64 - 1) else n

-- a router is set at t; one without a lifetime doesn't stand at t, and so is removed
abbrev pub with_router : ℕ → Router → Tables → Tables
with_router t router tables = record tables {
  routers = with_set_entry 64 router_before (router_stands t) router tables.routers;
  lost = count_lost (is_one_too_many 64 router_before (router_stands t) router tables.routers) tables.lost;
}

-- a prefix is set at t, or removed, in the same way
abbrev pub with_prefix : ℕ → LinkPrefix → Tables → Tables
with_prefix t prefix tables = record tables {
  prefixes = with_set_entry 32 prefix_before (prefix_stands t) prefix tables.prefixes;
  lost = count_lost (is_one_too_many 32 prefix_before (prefix_stands t) prefix tables.prefixes) tables.lost;
}

-- the entry of an advertised prefix
abbrev pub link_prefix_of : ℕ → AdvertPrefix → LinkPrefix
link_prefix_of t a = record { prefix = a.prefix; until = valid_until t a.valid }

-- advertised prefixes are set in their order
abbrev pub with_prefixes : ℕ → List AdvertPrefix → Tables → Tables
with_prefixes t advertised tables = fold (λ before a. with_prefix t (link_prefix_of t a) before) tables advertised

-- the router of a heard advertisement
abbrev pub router_of : Port → ℕ → Heard → Router
router_of port t heard = record { source = heard.source; port = port; until = t + 1000 * heard.ra.life }

-- what an advertisement that passed at a port at t tells: its router, and then its prefixes
abbrev pub told_at : Port → ℕ → Heard → Tables → Tables
told_at port t heard tables = with_prefixes t heard.ra.prefixes.items (with_router t (router_of port t heard) tables)

-- what was seen tells that, where an advertisement passed
abbrev pub told_by : Sighting → Option Heard → Tables → Tables
told_by one None tables = tables
told_by one (Some heard) tables = told_at one.port one.moment heard tables

-- the routers and prefixes that were told, all in all
abbrev pub learned_tables : Plan → ℕ → List Sighting → Tables
learned_tables plan window [] = no_entries
learned_tables plan window (one ∷ past) = told_by one (passed plan window past one) (learned_tables plan window past)

-- the routers that stand at a moment, in their order
abbrev pub routers_at : ℕ → List Router → List Router
routers_at t routers = filter (router_stands t) routers

abbrev pub prefixes_at : ℕ → List LinkPrefix → List LinkPrefix
prefixes_at t prefixes = filter (prefix_stands t) prefixes

-- what is shown of an entry
abbrev pub router_parts : Router → Addr × Port × ℕ
router_parts router = (router.source, router.port, router.until)

abbrev pub prefix_parts : LinkPrefix → Prefix × Option ℕ
prefix_parts prefix = (prefix.prefix, prefix.until)
