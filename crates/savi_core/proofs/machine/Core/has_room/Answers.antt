use Rattle.std.proofs.Common.{◌+◌, ◌<◌, ◌&&◌, length, ap, ◌∙◌, sym, arith}
use Rattle.std.specs.Prelude.{nat_le, reverse}
use Rattle.std.proofs.lemmas.Bool.{lt-ltb}
use Rattle.std.proofs.lemmas.List.{length-reverse}
use Rattle.savi_kinds.specs.declared.plan.Plan.{Plan}
use Rattle.hist_store.specs.Rows.{held}
use Rattle.savi_core.proofs.Remembering.{held-reverse}
use Rattle.savi_core.proofs.machine.Core.has_room.Goals as goal

pub returns-then-len-plan : goal.returns-then-len-plan
returns-then-len-plan c =
    let inside = c.self.inside in
    let rows = inside.hist.rows in
    let few : length (reverse rows) + 4130 < inside.ports.entries = omega (arith, length-reverse rows, c.len.ensures.len, c.if-len-plan.true, ap (λ (p : Plan). p.entries) c.plan-plan.ensures.plan) in
    rw (← c.self.view_is) (
    ap (λ (p : Plan). nat_le (c.held.result + 1518) p.bytes) c.plan-plan.ensures.plan
    ∙ ap (λ n. nat_le (n + 1518) inside.ports.bytes) (c.held.ensures ∙ sym (held-reverse rows))
    ∙ sym (ap (λ b. b && nat_le (held (reverse rows) + 1518) inside.ports.bytes) (lt-ltb (length (reverse rows) + 4130) inside.ports.entries few)))
