-- Which packets of a host pass: those that come in at a port that isn't shut, that no rule on messages stops, and whose
-- source is live at the port or which a named exception permits. All of it is read before what the packet itself tells.
use Rattle.std.specs.Prelude.{ℕ, ◌≡◌, ◌⊎◌, Bool, false, Option, Some, None, IsSome, IsSomeAnd, IsTrue, List}
use Rattle.savi_kinds.specs.declared.port.Port.{Port}
use Rattle.savi_kinds.specs.Ports.{number_of}
use Rattle.eth_frame.specs.declared.header.Eth.{Eth}
use Rattle.v6_chain.specs.declared.packet.Ip.{Ip}
use Rattle.frame_class.specs.declared.classes.Class.{Class}
use Rattle.frame_class.specs.declared.classes.Class.TheVariants.{BadIp, Ip6}
use Rattle.frame_class.specs.declared.classes.Read.{Read}
use Rattle.ra_guard.specs.GuardOf.{guard_of}
use Rattle.fcfs_states.specs.declared.event.Ev.TheVariants.{Dad}
use Rattle.fcfs_states.specs.declared.state.Fcfs.{Fcfs}
use Rattle.fcfs_states.specs.declared.state.Fcfs.TheVariants.{NoBind, Tentative, Valid, TestLt, TestVp}
use Rattle.fcfs_states.specs.States.{Same}
use Rattle.dhcp_states.specs.declared.bound.Bound.{Bound}
use Rattle.dhcp_states.specs.Requests.{refusal}
use Rattle.mix_rules.specs.declared.state.AddrState.{AddrState}
use Rattle.mix_rules.specs.Next.{IsPassing}
use Rattle.savi_access.specs.Rules.{AccessRules, AccessBase}
use Rattle.savi_access.specs.Marks.{Mark, told, open_requests}
use Rattle.savi_access.specs.States.{state_at}
use Rattle.savi_access.specs.Frames.{dad_target, advertised, is_router_solicitation, is_listener_message, dhcp_to, asking_duid}
use Rattle.savi_access.specs.Judged.{answer_to}

-- the frame should carry a packet of IPv6, by its EtherType
abbrev pub IsIpv6 : Class → Type 0
IsIpv6 (BadIp eth) = Unit {0}
IsIpv6 (Ip6 eth ip read) = Unit {0}
IsIpv6 _ = ⊥

-- by first come the port is the holder: the address is bound to it, or under a test as bound to it (RFC 6620 section 3.2)
abbrev pub IsHolder : Fcfs → Port → Type 0
IsHolder (Valid holder until) port = Same holder port
IsHolder (TestLt holder since two) port = Same holder port
IsHolder (TestVp holder claimant since two) port = Same holder port
IsHolder (Tentative claimant since two) port = ⊥
IsHolder NoBind port = ⊥

-- an address is live at the port: it is fixed there; or it isn't fixed, and is bound there by DHCP; or it is neither, and
-- the port is its holder by first come
abbrev pub LivesBy : Option Port → Option Bound → Fcfs → Port → Type 0
LivesBy (Some fixed) dhcp fcfs port = Same fixed port
LivesBy None (Some bound) fcfs port = Same bound.p port
LivesBy None None fcfs port = IsHolder fcfs port

abbrev pub LivesAt : AddrState → Port → Type 0
LivesAt state port = LivesBy state.fixed state.dhcp state.fcfs port

-- at this port in this VLAN, at moment t, after these marks
module _ (r : AccessRules) (base : AccessBase) (vlan : ℕ) (port : Port) (t : ℕ) (past : List Mark) where
  -- the address is live here
  abbrev pub IsLiveHere : ℕ → Type 0
  IsLiveHere a = LivesAt (state_at r.addresses base.addresses (told past) t vlan a) port

  -- the packet advertises an address that isn't live here
  abbrev pub AdvertisesOther : Read → Type 0
  AdvertisesOther read = IsSomeAnd (advertised read) (λ target. ¬ IsLiveHere target)

  -- it asks for addresses by DHCPv6, and is refused: the port has 16 open requests and none of them is this one, or another
  -- port has one with the same transaction id and DUID
  abbrev pub IsRefusedRequest : Read → Type 0
  IsRefusedRequest read =
      IsSomeAnd (dhcp_to 547 read) (λ dhcp.
      IsSomeAnd (asking_duid dhcp) (λ duid.
      IsSome (refusal (number_of port) dhcp.tid duid.items (open_requests base vlan past t))))

  -- a rule on messages stops it
  abbrev pub IsStopped : Eth → Ip → Read → Type 0
  IsStopped eth ip read =
      IsSome (guard_of (r.role_of (number_of port)) r.drop_unknown (Ip6 eth ip read))
      ⊎ (AdvertisesOther read ⊎ IsRefusedRequest read)

  -- duplicate address detection of an on-link address, which its row of the state tables lets pass
  abbrev pub MayDetect : Read → Type 0
  MayDetect read =
      IsSomeAnd (dad_target read) (λ target.
      IsSome (r.addresses.method_of vlan target) × IsPassing (answer_to r base vlan port t past target (Dad port)))

  -- An exception permits it: it has no source address yet (RFC 4861 section 4.1, RFC 4862 section 5.4, RFC 3590), and is a
  -- solicitation for duplicate address detection, a router solicitation, or a message of a multicast listener.
  abbrev pub IsPermitted : Ip → Read → Type 0
  IsPermitted ip read =
      (ip.src.0 ≡ 0) × (MayDetect read ⊎ (IsTrue (is_router_solicitation read) ⊎ IsTrue (is_listener_message ip read)))

  -- a packet of IPv6 that may pass, at the port that is shut or not
  abbrev pub HasAccess : Bool → Class → Type 0
  HasAccess shut (Ip6 eth ip read) =
      (shut ≡ false) × ((¬ IsStopped eth ip read) × (IsLiveHere ip.src.0 ⊎ IsPermitted ip read))
  HasAccess shut _ = ⊥
