use Rattle.std.proofs.Common.{sym, subst}
use Rattle.frame_class.specs.declared.classes.Read.{Read}
use Rattle.ra_guard.specs.Parts.{IsPacketRule}
use Rattle.ra_guard.proofs.frame_guard.packet_rule.Goals as goal

pub returns-in-Icmp : goal.returns-in-Icmp
returns-in-Icmp c =
    let Given : Read → Type 0 = λ read. IsPacketRule c.args.role c.args.drop_unknown c.args.ip.now read c.message_rule.result in
    subst Given (sym c.in-Icmp.is) (c.message_rule.ensures c.args.role c.args.drop_unknown c.requires)
