-- What the parts of the guard give, where the rules on the Ethernet header, which are those up to number 4, don't apply.
use Rattle.std.specs.Prelude.{◌≢◌, Bool, Option}
use Rattle.savi_kinds.specs.declared.plan.Role.{Role}
use Rattle.savi_kinds.specs.declared.plan.Role.TheVariants.{Trusted}
use Rattle.savi_kinds.specs.declared.verdict.Rule.{Rule}
use Rattle.eth_frame.specs.declared.header.Eth.{Eth}
use Rattle.v6_chain.specs.declared.packet.Ip.{Ip}
use Rattle.frame_class.specs.declared.classes.Class.TheVariants.{Ip6}
use Rattle.frame_class.specs.declared.classes.Read.{Read}
use Rattle.ra_guard.specs.Guard.{Applies, NoneBefore, IsFirst}

-- the rule for a packet, whatever the Ethernet header that those rules let through
abbrev pub IsPacketRule : Role → Bool → Ip → Read → Option Rule → Type 0
IsPacketRule role drop_unknown ip read rule =
    (eth : Eth) → NoneBefore (Applies role drop_unknown (Ip6 eth ip read)) 5 → IsFirst (Applies role drop_unknown (Ip6 eth ip read)) rule

-- the rule for what a packet shows, at each port whose sources are validated
abbrev pub IsMessageRule : Ip → Read → Option Rule → Type 0
IsMessageRule ip read rule = (role : Role) (drop_unknown : Bool) → role ≢ Trusted → IsPacketRule role drop_unknown ip read rule
