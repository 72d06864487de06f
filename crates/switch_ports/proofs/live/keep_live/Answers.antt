use Rattle.std.proofs.Common.{◌≡◌, ℕ, arith, length, map, subst, sym, true, Some}
use Rattle.savi_kinds.specs.Ports.{number_of}
use Rattle.savi_ends.specs.Places.{OtherPortsStay, IsPortOut, IsPortKept}
use Rattle.switch_ports.proofs.LiveKeeps.{live_keep_step, live_keeps_none, live_next_number, live_next_out}
use Rattle.switch_ports.proofs.live.keep_live.Goals as goal

pub loop-ends-init : goal.loop-ends-init
loop-ends-init g c = live_keeps_none (map number_of c.args.numbers.now) c.args.held.items (g.W.World.book c.args.world.now)

pub keep_port-requires : goal.keep_port-requires
keep_port-requires g c =
    let so_far = rw c.in-Some.ensures.items at c.loop-ends.invariant in
    let last : c.len.result ≡ length c.pop.new.self.items = omega (arith, c.len.ensures, c.pop.new.self.ok.0) in
    subst (λ (n : ℕ). IsPortOut (g.W.World.book c.loop-ends.world).ports n)
    (sym (live_next_number c.args.numbers.now c.pop.new.self.items c.in-Some.ends c.args.held.items _ _ c.requires.rising c.requires.few so_far c.len.result c.index-numbers-len.result c.index-numbers-len.is last))
    (live_next_out c.args.numbers.now c.pop.new.self.items c.in-Some.ends c.args.held.items _ _ c.requires.rising c.requires.few so_far c.requires.out)

pub loop-ends-preserved : goal.loop-ends-preserved
loop-ends-preserved g c =
    let so_far = rw c.in-Some.ensures.items at c.loop-ends.invariant in
    let last : c.len.result ≡ length c.pop.new.self.items = omega (arith, c.len.ensures, c.pop.new.self.ok.0) in
    let here = live_next_number c.args.numbers.now c.pop.new.self.items c.in-Some.ends c.args.held.items _ _ c.requires.rising c.requires.few so_far c.len.result c.index-numbers-len.result c.index-numbers-len.is last in
    live_keep_step c.args.numbers.now c.pop.new.self.items c.in-Some.ends c.args.held.items _ _ c.requires.rising c.requires.few so_far (g.W.World.book c.keep_port.new.self)
    (subst (λ (n : ℕ). IsPortKept (g.W.World.book c.loop-ends.world).ports (g.W.World.book c.keep_port.new.self).ports n c.in-Some.ends) here c.keep_port.ensures.kept)
    (subst (λ (n : ℕ). OtherPortsStay (g.W.World.book c.loop-ends.world).ports (g.W.World.book c.keep_port.new.self).ports n) here c.keep_port.ensures.others)
    c.keep_port.ensures.rest
