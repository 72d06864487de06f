-- What learning from captures prints: a line for each advertisement, and then what is known at the last moment. It is a
-- function of the plan, the window and all arrivals, the newest first, each at its port.
use Rattle.std.specs.Prelude.{ℕ, ◌^◌, min, max, Bool, true, false, if◌then◌else◌, List, [], ◌∷◌, ◌++◌, flat_map, Option, Some, None, codes, decimal}
use Rattle.savi_kinds.specs.declared.port.Port.{Port}
use Rattle.savi_kinds.specs.declared.plan.Plan.{Plan}
use Rattle.savi_kinds.specs.declared.plan.PortPlan.{PortPlan}
use Rattle.savi_kinds.specs.Arrivals.{Arrival, Frame, Long}
use Rattle.savi_kinds.specs.Ports.{number_of}
use Rattle.savi_kinds.specs.AddrText.{addr_text}
use Rattle.savi_kinds.specs.PrefixText.{prefix_text}
use Rattle.ra_learn.specs.declared.guard.Guard.{Guard}
use Rattle.ra_learn.specs.declared.guard.Guard.TheVariants.{Learning, Blocking, Forwarding}
use Rattle.ra_learn.specs.declared.routers.Router.{Router}
use Rattle.ra_learn.specs.declared.prefixes.LinkPrefix.{LinkPrefix}
use Rattle.ra_learn.specs.Link.{link_ports, is_on_link}
use Rattle.ra_learn.specs.Sightings.{Sighting}
use Rattle.ra_learn.specs.Guarding.{guard_at, answer}
use Rattle.ra_learn.specs.Learned.{Learned, state_of}
use Rattle.ra_learn.specs.Tables.{Tables, learned_tables, routers_at, prefixes_at}

-- an arrival, and the port at which it came
pub record PortArrival : Type 0 where
  pub port : Port
  pub arrival : Arrival

abbrev pub stamp_of : Arrival → ℕ
stamp_of (Frame stamp octets) = stamp
stamp_of (Long stamp len) = stamp

-- the moment of an arrival behind this one: its stamp, at most 2^62, unless that is before it
abbrev pub moment_at : ℕ → ℕ → ℕ
moment_at previous stamp = max previous (min stamp (2 ^ 62))

-- the moment of the newest arrival; 0 without an arrival
abbrev pub last_moment : List PortArrival → ℕ
last_moment [] = 0
last_moment (newest ∷ past) = moment_at (last_moment past) (stamp_of newest.arrival)

-- what is seen of an arrival at this moment, at a port of the link or at another one: a frame of at most 1,518 octets
abbrev pub with_seen : Bool → Port → ℕ → Arrival → List Sighting → List Sighting
with_seen on_link port moment (Frame stamp octets) seen =
    if on_link then record { port = port; moment = moment; octets = octets } ∷ seen else seen
with_seen on_link port moment (Long stamp len) seen = seen

-- what is seen of all arrivals at the ports of a plan
abbrev pub sightings_of : Plan → List PortArrival → List Sighting
sightings_of plan [] = []
sightings_of plan (newest ∷ past) =
    with_seen (is_on_link plan (number_of newest.port)) newest.port (last_moment (newest ∷ past)) newest.arrival (sightings_of plan past)

-- words with a space between each two, and a line feed behind them
abbrev pub words_line : List (List ℕ) → List ℕ
words_line [] = 10 ∷ []
words_line (word ∷ []) = word ++ 10 ∷ []
words_line (word ∷ next ∷ words) = word ++ 32 ∷ words_line (next ∷ words)

abbrev pub answer_word : Bool → List ℕ
answer_word true = codes "pass"
answer_word false = codes "drop"

-- the line of a router advertisement: its moment, the number of its port, and whether it passes
abbrev pub advert_line : ℕ → ℕ → Bool → List ℕ
advert_line moment number passes = words_line (codes "advert" ∷ decimal moment ∷ decimal number ∷ answer_word passes ∷ [])

-- the line of what was seen, where that is a router advertisement
abbrev pub sighting_line : Sighting → Option Bool → List ℕ
sighting_line one None = []
sighting_line one (Some passes) = advert_line one.moment (number_of one.port) passes

-- the lines of all advertisements, in the order in which they came
abbrev pub advert_lines : Plan → ℕ → List Sighting → List ℕ
advert_lines plan window [] = []
advert_lines plan window (one ∷ past) = advert_lines plan window past ++ sighting_line one (answer plan window past one)

abbrev pub guard_word : Guard → List ℕ
guard_word Learning = codes "learning"
guard_word Blocking = codes "blocking"
guard_word Forwarding = codes "forwarding"

-- the line of a port, by its number: its state
abbrev pub guard_line : ℕ → Guard → List ℕ
guard_line number guard = words_line (codes "port" ∷ decimal number ∷ guard_word guard ∷ [])

abbrev pub port_state_line : Plan → ℕ → List Sighting → ℕ → PortPlan → List ℕ
port_state_line plan window past moment p = guard_line (number_of p.number) (guard_at plan window past (number_of p.number) moment)

-- a moment at which something ends, or '-' where it doesn't end
abbrev pub until_text : Option ℕ → List ℕ
until_text None = codes "-"
until_text (Some until) = decimal until

abbrev pub router_line : Router → List ℕ
router_line router = words_line (codes "router" ∷ addr_text router.source ∷ decimal (number_of router.port) ∷ decimal router.until ∷ [])

abbrev pub link_prefix_line : LinkPrefix → List ℕ
link_prefix_line prefix = words_line (codes "prefix" ∷ prefix_text prefix.prefix ∷ until_text prefix.until ∷ [])

abbrev pub lost_line : ℕ → List ℕ
lost_line n = words_line (codes "lost" ∷ decimal n ∷ [])

abbrev pub last_line : List ℕ
last_line = words_line (codes "end" ∷ [])

-- the lines of routers and prefixes
abbrev pub table_lines : ℕ → Tables → List ℕ
table_lines moment tables =
    flat_map router_line (routers_at moment tables.routers) ++ flat_map link_prefix_line (prefixes_at moment tables.prefixes)

-- what is known at a moment: the states of the ports of the link, the routers, the prefixes, and how many found no place
abbrev pub known_lines : Plan → ℕ → List Sighting → ℕ → List ℕ
known_lines plan window past moment =
    flat_map (port_state_line plan window past moment) (link_ports plan.ports)
    ++ table_lines moment (learned_tables plan window past)
    ++ lost_line (learned_tables plan window past).lost
    ++ last_line

-- what is printed of these arrivals
abbrev pub printed : Plan → ℕ → List PortArrival → List ℕ
printed plan window arrivals =
    advert_lines plan window (sightings_of plan arrivals) ++ known_lines plan window (sightings_of plan arrivals) (last_moment arrivals)

-- The same, by what a learner keeps.

abbrev pub learned_port_line : Learned → ℕ → PortPlan → List ℕ
learned_port_line learned moment p = guard_line (number_of p.number) (state_of learned (number_of p.number) moment)

abbrev pub learned_lines : Learned → List PortPlan → ℕ → List ℕ
learned_lines learned ports moment =
    flat_map (learned_port_line learned moment) (link_ports ports) ++ table_lines moment learned.tables ++ lost_line learned.tables.lost ++ last_line
