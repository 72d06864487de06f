use Rattle.std.proofs.Common.{ap, sym, ◌∙◌}
use Rattle.savi_kinds.specs.Ports.{number_of}
use Rattle.savi_core.specs.Shows.{held_by, pending_by}
use Rattle.savi_core.proofs.SetPlaces.{held_there, pending_there}
use Rattle.savi_core.proofs.shows.held_and_pending.Goals as goal

pub returns-clause-held : goal.returns-clause-held
returns-clause-held c =
    c.from-held.ensures
    ∙ c.count.ensures.value
    ∙ sym (held_there c.args.ports.now c.args.sets.now c.requires c.in-Some.set c.in-Some.ensures.within c.index-sets-set.result (number_of c.args.port))
    ∙ ap (held_by c.args.sets.now (number_of c.args.port)) c.in-Some.ensures.vlan

pub returns-clause-pending : goal.returns-clause-pending
returns-clause-pending c =
    c.from-pending.ensures
    ∙ c.open_requests.ensures.value
    ∙ sym (pending_there c.args.ports.now c.args.sets.now c.requires c.in-Some.set c.in-Some.ensures.within c.index-sets-set.result (number_of c.args.port) c.args.t)
    ∙ ap (pending_by c.args.sets.now c.args.t (number_of c.args.port)) c.in-Some.ensures.vlan
