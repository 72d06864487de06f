use Rattle.std.proofs.Common.{◌≡◌, subst, sym, ap, ◌∙◌}
use Rattle.std.specs.Prelude.{reverse}
use Rattle.checkpoint.specs.Columns.{kept_base as base_kept}
use Rattle.savi_history.specs.Moments.{last_moment}
use Rattle.savi_history.specs.Shown.{reply_to, shown}
use Rattle.savi_core.specs.Machines.{Machine, base_of}
use Rattle.savi_core.specs.Refused.{EndsWithCommand}
use Rattle.savi_core.proofs.Answering.{told_all, refused_all}
use Rattle.savi_core.proofs.machine.Core.reply.Goals as goal

pub returns-in-Some : goal.returns-in-Some
returns-in-Some c =
    let inside = c.self.inside in
    let ends : EndsWithCommand (reverse inside.hist.rows) = subst (λ (m : Machine). EndsWithCommand m.past) (sym c.self.view_is) c.requires.command in
    refused_all inside.ports (base_kept c.self.inside.checkpoint) (reverse inside.hist.rows) inside.refused c.in-Some.refusal c.clear.new.self c.put_refusal.new.self ends c.self.invariant.5 c.in-Some.is c.clear.ensures.text c.put_refusal.ensures.text
    ∙ ap (λ (m : Machine). shown m.plan (base_of m) m.past) c.self.view_is

pub returns-in-None : goal.returns-in-None
returns-in-None c =
    let inside = c.self.inside in
    let ends : EndsWithCommand (reverse inside.hist.rows) = subst (λ (m : Machine). EndsWithCommand m.past) (sym c.self.view_is) c.requires.command in
    told_all inside.ports (base_kept c.self.inside.checkpoint) inside.hist.rows inside.refused c.len.result c.octets.result.now c.command.result c.tell.new.into ends c.self.invariant.5 c.in-None.is c.len.ensures.len c.octets.ensures c.command.ensures.value
    (subst (λ (m : Machine). c.tell.new.into ≡ reply_to m.plan (base_of m) m.past (last_moment (base_of m) m.past) c.command.result) (sym c.self.view_is) c.tell.ensures)
    ∙ ap (λ (m : Machine). shown m.plan (base_of m) m.past) c.self.view_is
