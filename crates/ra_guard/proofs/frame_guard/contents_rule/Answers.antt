use Rattle.std.proofs.Common.{sym, subst}
use Rattle.frame_class.specs.declared.classes.Class.{Class}
use Rattle.ra_guard.specs.Guard.{Applies, NoneBefore, IsFirst}
use Rattle.ra_guard.proofs.frame_guard.contents_rule.Goals as goal

pub returns-in-Ip6 : goal.returns-in-Ip6
returns-in-Ip6 c =
    let Applied : Class → Type 0 = λ class. NoneBefore (Applies c.args.role c.args.drop_unknown class) 5 → IsFirst (Applies c.args.role c.args.drop_unknown class) c.packet_rule.result in
    subst Applied (sym c.in-Ip6.is) (c.packet_rule.ensures c.in-Ip6.eth) c.requires.header
