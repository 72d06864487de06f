-- More worked histories, computed: what an address comes to beside other ones, what a lease gives, which commands are
-- refused, and what a history costs.
use Rattle.std.proofs.Common.{◌≡◌, ℕ, ◌+◌, ◌*◌, ◌^◌, inl, inr, List, [], ◌∷◌, codes, refl, ap, lit≤, true, false, Some, None, arith}
use Rattle.std.specs.Fmt.{digits}
use Rattle.savi_kinds.specs.AddrOf.{addr_of}
use Rattle.savi_kinds.specs.KeyOf.{key_of}
use Rattle.savi_kinds.specs.declared.plan.Plan.{Plan}
use Rattle.savi_kinds.specs.declared.plan.Role.TheVariants as roles
use Rattle.savi_kinds.specs.declared.plan.Method.TheVariants.{Dhcp}
use Rattle.v6_chain.specs.Kinds.{kind_of}
use Rattle.v6_chain.specs.declared.packet.Ip.{Ip}
use Rattle.nd_read.specs.Messages.{named}
use Rattle.nd_read.specs.NdOf.{nd_of, passes as message_passes}
use Rattle.dhcp6_read.specs.Levels.{lease_of}
use Rattle.dhcp6_read.specs.Message.{tid_of}
use Rattle.dhcp6_read.specs.DhcpOf.{option_row, dhcp_of}
use Rattle.eth_frame.specs.Tags.{tag_of}
use Rattle.frame_class.specs.ClassOf.{class_of}
use Rattle.frame_class.specs.declared.classes.Read.TheVariants.{Plain}
use Rattle.ra_guard.specs.GuardOf.{guard_of}
use Rattle.fcfs_states.specs.declared.event.Ev.TheVariants.{Sent}
use Rattle.fcfs_states.specs.declared.state.Fcfs.TheVariants.{Tentative}
use Rattle.fcfs_states.specs.Aged.{aged, aged_by}
use Rattle.fcfs_states.proofs.AgeingLemmas.{rank}
use Rattle.mix_rules.specs.declared.state.AddrState.{AddrState}
use Rattle.mix_rules.specs.States.{nobody}
use Rattle.cli_lang.specs.CommandOf.{port_of_text, command_of}
use Rattle.control_replies.specs.declared.refusal.Refusal.TheVariants.{TrustedPort, NoBinding}
use Rattle.hist_store.specs.Rows.{Row, held}
use Rattle.savi_access.specs.Judged.{judged}
use Rattle.savi_access.specs.Marks.{Met}
use Rattle.checkpoint.specs.Bases.{empty}
use Rattle.savi_history.specs.Marks.{marks}
use Rattle.savi_history.specs.Judged.{judged_of}
use Rattle.savi_history.specs.ControlInputs.{entered_lines}
use Rattle.savi_history.specs.Offers.{offers}
use Rattle.savi_history.specs.Queues.{probes, lost}
use Rattle.savi_history.specs.Legal.{IsLegal}
use Rattle.savi_history.specs.Events.{Frame, Tick, Drain}
use Rattle.savi_history.proofs.Example.{port_one, port_two, packet, inputs, no_failure, plan as guarding}
use Rattle.savi_segments.specs.Segments.{joined}
use Rattle.savi_segments.specs.Replay.{replayed}
use Rattle.savi_laws.specs.Rebuilt.{rows_by}
use Rattle.savi_laws.specs.Addresses.{told_on, address_at, ComesToSource}
use Rattle.savi_laws.specs.Raised.{held_after, HoldsAfter}
use Rattle.savi_access.specs.VlanMarks.{in_vlan}
use Rattle.savi_laws.specs.Refusals.{refusal_at}
use Rattle.savi_laws.specs.Budgets.{input_count, given_count, given_octets, lines_of, arrivals_of, all_arrived, SufficesForReplay, causes, Suffices}
use Rattle.savi_laws.proofs.Example.{plan, first_address, claimed}

-- a packet from fe80::12
abbrev other_packet : List ℕ
other_packet = 2 ∷ 0 ∷ 0 ∷ 0 ∷ 0 ∷ 254 ∷ 2 ∷ 0 ∷ 0 ∷ 0 ∷ 0 ∷ 18 ∷ 134 ∷ 221 ∷ 96 ∷ 0 ∷ 0 ∷ 0 ∷ 0 ∷ 0 ∷ 59 ∷ 64 ∷ 254 ∷ 128 ∷ 0 ∷ 0 ∷ 0 ∷ 0 ∷ 0 ∷ 0 ∷ 0 ∷ 0 ∷ 0 ∷ 0 ∷ 0 ∷ 0 ∷ 0 ∷ 18 ∷ 254 ∷ 128 ∷ 0 ∷ 0 ∷ 0 ∷ 0 ∷ 0 ∷ 0 ∷ 0 ∷ 0 ∷ 0 ∷ 0 ∷ 0 ∷ 0 ∷ 0 ∷ 254 ∷ []

-- fe80::12 is claimed at the same port before fe80::11 is
abbrev both_claimed : Plan → List Row
both_claimed plan = rows_by plan empty [] (Frame port_one 1000 packet ∷ Frame port_one 900 other_packet ∷ [])

-- the same is told of fe80::11
pub same_told : told_on plan empty (both_claimed plan) 1 first_address ≡ told_on plan empty claimed 1 first_address
unfolding tag_of class_of nd_of named message_passes kind_of guard_of judged aged aged_by
same_told = refl

-- the second packet from fe80::11 comes to the rules on its source
abbrev packet_header : Ip
packet_header = record { src = record { 0 = first_address }; dst = record { 0 = 0xfe80 * 2 ^ 112 + 254 }; next = 59; hop = 64; len = 0 }

pub packet_comes : ComesToSource plan empty claimed port_one 1 packet packet_header Plain
unfolding tag_of class_of nd_of named message_passes kind_of guard_of
packet_comes = record {
  up = refl;
  vlan_is = refl;
  clear = refl;
  validates = refl;
  role = λ same. let none : roles.Host ≡ roles.Trusted = same in cc;
  eth = record { dst = record { 0 = 2 ∷ 0 ∷ 0 ∷ 0 ∷ 0 ∷ 254 ∷ [] }; src = record { 0 = 2 ∷ 0 ∷ 0 ∷ 0 ∷ 0 ∷ 17 ∷ [] }; kind = 0x86dd };
  packet = refl;
  source = λ none. absurd (omega (arith, none));
}

-- where a port may hold one address alone, its room is told otherwise, and so is its state another one
abbrev narrow : Plan
narrow = record plan { per_port = 1 }

pub no_room_told : told_on narrow empty (both_claimed narrow) 1 first_address ≡ record { moment = 1000; event = Sent port_one; room = false } ∷ []
unfolding tag_of class_of nd_of named message_passes kind_of guard_of judged aged aged_by
no_room_told = refl

pub no_state : address_at narrow empty (both_claimed narrow) 1000 1 first_address ≡ nobody
unfolding tag_of class_of nd_of named message_passes kind_of guard_of judged aged aged_by
no_state = refl

pub a_state : address_at narrow empty (rows_by narrow empty [] (Frame port_one 1000 packet ∷ [])) 1000 1 first_address ≡ record { fixed = None; fcfs = Tentative port_one 1000 true; dhcp = None }
unfolding tag_of class_of nd_of named message_passes kind_of guard_of judged aged aged_by
a_state = refl

-- addresses of 2001:db8::/64 are assigned by DHCP
abbrev assigning : Plan
assigning = record plan { prefixes = record { prefix = record { net = record { 0 = 0x20010db8 * 2 ^ 96 }; len = 64 }; method = Dhcp; vlan = 1 } ∷ [] }

-- the client at fe80::11 requests, and is given 2001:db8::5 for 100 s (RFC 8415 sections 16.4, 16.10)
abbrev request : List ℕ
request = 2 ∷ 0 ∷ 0 ∷ 0 ∷ 0 ∷ 254 ∷ 2 ∷ 0 ∷ 0 ∷ 0 ∷ 0 ∷ 17 ∷ 134 ∷ 221 ∷ 96 ∷ 0 ∷ 0 ∷ 0 ∷ 0 ∷ 19 ∷ 17 ∷ 64 ∷ 254 ∷ 128 ∷ 0 ∷ 0 ∷ 0 ∷ 0 ∷ 0 ∷ 0 ∷ 0 ∷ 0 ∷ 0 ∷ 0 ∷ 0 ∷ 0 ∷ 0 ∷ 17 ∷ 254 ∷ 128 ∷ 0 ∷ 0 ∷ 0 ∷ 0 ∷ 0 ∷ 0 ∷ 0 ∷ 0 ∷ 0 ∷ 0 ∷ 0 ∷ 0 ∷ 0 ∷ 254 ∷ 2 ∷ 34 ∷ 2 ∷ 35 ∷ 0 ∷ 19 ∷ 0 ∷ 0 ∷ 3 ∷ 1 ∷ 2 ∷ 3 ∷ 0 ∷ 1 ∷ 0 ∷ 3 ∷ 7 ∷ 7 ∷ 7 ∷ []

abbrev reply : List ℕ
reply = 2 ∷ 0 ∷ 0 ∷ 0 ∷ 0 ∷ 17 ∷ 2 ∷ 0 ∷ 0 ∷ 0 ∷ 0 ∷ 254 ∷ 134 ∷ 221 ∷ 96 ∷ 0 ∷ 0 ∷ 0 ∷ 0 ∷ 63 ∷ 17 ∷ 64 ∷ 254 ∷ 128 ∷ 0 ∷ 0 ∷ 0 ∷ 0 ∷ 0 ∷ 0 ∷ 0 ∷ 0 ∷ 0 ∷ 0 ∷ 0 ∷ 0 ∷ 0 ∷ 254 ∷ 254 ∷ 128 ∷ 0 ∷ 0 ∷ 0 ∷ 0 ∷ 0 ∷ 0 ∷ 0 ∷ 0 ∷ 0 ∷ 0 ∷ 0 ∷ 0 ∷ 0 ∷ 17 ∷ 2 ∷ 35 ∷ 2 ∷ 34 ∷ 0 ∷ 63 ∷ 0 ∷ 0 ∷ 7 ∷ 1 ∷ 2 ∷ 3 ∷ 0 ∷ 1 ∷ 0 ∷ 3 ∷ 7 ∷ 7 ∷ 7 ∷ 0 ∷ 3 ∷ 0 ∷ 40 ∷ 0 ∷ 0 ∷ 0 ∷ 1 ∷ 0 ∷ 0 ∷ 0 ∷ 0 ∷ 0 ∷ 0 ∷ 0 ∷ 0 ∷ 0 ∷ 5 ∷ 0 ∷ 24 ∷ 32 ∷ 1 ∷ 13 ∷ 184 ∷ 0 ∷ 0 ∷ 0 ∷ 0 ∷ 0 ∷ 0 ∷ 0 ∷ 0 ∷ 0 ∷ 0 ∷ 0 ∷ 5 ∷ 0 ∷ 0 ∷ 0 ∷ 60 ∷ 0 ∷ 0 ∷ 0 ∷ 100 ∷ []

-- the address is claimed at 1000, and once its test has ended its client requests
abbrev requested : List Row
requested = rows_by assigning empty [] (Frame port_one 2000 request ∷ Frame port_one 1000 packet ∷ [])

-- the reply comes in at port 2: port 1 holds two addresses then, in place of one
pub one_before : held_after assigning empty (marks assigning empty requested) 2100 1 ≡ 1
unfolding tag_of class_of nd_of named message_passes kind_of guard_of judged aged aged_by dhcp_of option_row lease_of tid_of
one_before = refl

pub two_behind_it : held_after assigning empty (judged_of assigning empty requested port_two 2100 reply).marks 2100 1 ≡ 2
unfolding tag_of class_of nd_of named message_passes kind_of guard_of judged aged aged_by dhcp_of option_row lease_of tid_of
two_behind_it = refl

-- it holds the address that the reply gives, and didn't before
abbrev leased_address : ℕ
leased_address = 0x20010db8 * 2 ^ 96 + 5

pub not_before : ¬ HoldsAfter assigning empty (marks assigning empty requested) 2100 1 leased_address port_one
unfolding tag_of class_of nd_of named message_passes kind_of guard_of judged aged aged_by dhcp_of option_row lease_of tid_of
not_before (inl held) = held
not_before (inr (inl held)) = held
not_before (inr (inr held)) = held

pub held_behind_it : HoldsAfter assigning empty (judged_of assigning empty requested port_two 2100 reply).marks 2100 1 leased_address port_one
unfolding tag_of class_of nd_of named message_passes kind_of guard_of judged aged aged_by dhcp_of option_row lease_of tid_of
held_behind_it = inr (inl refl)

-- without a request it gives nothing
pub none_unasked : held_after assigning empty (judged_of assigning empty claimed port_two 2100 reply).marks 2100 1 ≡ 1
unfolding tag_of class_of nd_of named message_passes kind_of guard_of judged aged aged_by dhcp_of option_row lease_of tid_of
none_unasked = refl

-- what was told of VLAN 2 is nothing to VLAN 1
pub other_vlan_aside : in_vlan 1 (Met 2 500 7 [] ∷ marks plan empty claimed) ≡ in_vlan 1 (marks plan empty claimed)
unfolding tag_of class_of nd_of named message_passes kind_of guard_of judged aged aged_by
other_vlan_aside = refl

-- port 2 is trusted, and fe80::12 has no state: commands on them are refused, and one that clears fe80::11 isn't
pub static_is_refused : refusal_at plan empty claimed 1600 (codes "static fe80::11 2") ≡ Some TrustedPort
unfolding command_of addr_of port_of_text digits
static_is_refused = refl

pub clear_is_refused : refusal_at plan empty claimed 1600 (codes "clear fe80::12") ≡ Some NoBinding
unfolding command_of addr_of key_of tag_of class_of nd_of named message_passes kind_of guard_of judged aged aged_by
clear_is_refused = refl

pub clear_is_obeyed : refusal_at plan empty claimed 1600 (codes "clear fe80::11") ≡ None
unfolding command_of addr_of key_of tag_of class_of nd_of named message_passes kind_of guard_of judged aged aged_by
clear_is_obeyed = refl

-- the probe of the first packet is taken out, a tick comes, and the second probe is taken out
abbrev ticked : List Row
ticked = rows_by plan empty [] (Drain port_two 1 ∷ Tick 1500 ∷ Drain port_two 1 ∷ Frame port_one 1000 packet ∷ [])

-- one frame has brought all of it about
pub one_cause : causes plan empty ticked ≡ 1
one_cause = refl

pub one_arrival : given_count (entered_lines ticked) (all_arrived plan ticked) ≡ 1
one_arrival = refl

-- and it is legal
pub ticked_is_legal : IsLegal plan empty ticked
unfolding tag_of class_of nd_of named message_passes kind_of guard_of judged aged aged_by offers
ticked_is_legal = (
  (Drain port_two 1, (record { known = refl; running = refl }, lit≤ tt, lit≤ tt), refl),
  (
    (Tick 1500, record { open_pass = record { known = refl; running = refl }; room = refl; fits = lit≤ tt; changed = (1, (first_address, λ same. let ranks : 3 ≡ 5 = ap (λ (s : AddrState). rank s.fcfs) same in absurd (omega (arith, ranks)))) }, refl),
    (
      (Drain port_two 1, (record { known = refl; running = refl }, lit≤ tt, lit≤ tt), refl),
      ((Frame port_one 1000 packet, (record { open_pass = record { known = refl; running = refl }; room = refl; fits = lit≤ tt }, lit≤ tt), refl), tt),
    ),
  ),
)

pub room_enough : Suffices plan (causes plan empty ticked) (held ticked)
room_enough = record { entries = lit≤ tt; bytes = lit≤ tt }

-- the replay of two captures has three inputs, for which its plan has room
pub three_inputs : input_count (joined (replayed guarding None inputs no_failure)) ≡ 3
unfolding tag_of class_of nd_of named message_passes kind_of guard_of judged offers probes lost
three_inputs = refl

pub room_for_three : SufficesForReplay guarding (input_count (joined (replayed guarding None inputs no_failure))) (held (joined (replayed guarding None inputs no_failure)))
unfolding tag_of class_of nd_of named message_passes kind_of guard_of judged offers probes lost
room_for_three = record { entries = lit≤ tt; bytes = lit≤ tt }

-- its captures have these three, of 194 octets
pub three_given : given_count (lines_of None) (arrivals_of inputs) ≡ 3
three_given = refl

pub octets_given : given_octets (lines_of None) (arrivals_of inputs) ≡ 194
octets_given = refl

pub room_for_given : SufficesForReplay guarding (given_count (lines_of None) (arrivals_of inputs)) (given_octets (lines_of None) (arrivals_of inputs))
room_for_given = record { entries = lit≤ tt; bytes = lit≤ tt }
