use Rattle.std.proofs.Common.{ℕ, sym, subst}
use Rattle.frame_class.specs.Reading.{IsUpperClass}
use Rattle.frame_class.proofs.LeastOctets.{icmpv6_least, udp_least}
use Rattle.frame_class.proofs.reader.put_upper.Goals as goal

pub put_icmp-requires-clause-least : goal.put_icmp-requires-clause-least
put_icmp-requires-clause-least c = icmpv6_least c.args.proto c.args.message.now c.in-58.is c.requires.whole

pub put_udp-requires-clause-least : goal.put_udp-requires-clause-least
put_udp-requires-clause-least c = udp_least c.args.proto c.args.message.now c.in-17.is c.requires.whole

pub returns-in-58 : goal.returns-in-58
returns-in-58 c =
    let P : ℕ → Type 0 = λ n. IsUpperClass c.args.eth c.args.ip n c.args.message.now c.args.fragmented c.put_icmp.new.class in
    subst P (sym c.in-58.is) c.put_icmp.ensures

pub returns-in-17 : goal.returns-in-17
returns-in-17 c =
    let P : ℕ → Type 0 = λ n. IsUpperClass c.args.eth c.args.ip n c.args.message.now c.args.fragmented c.put_udp.new.class in
    subst P (sym c.in-17.is) c.put_udp.ensures
