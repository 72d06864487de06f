use Rattle.hist_store.proofs.MemberLemmas.{IsListed}
use Rattle.hist_store.proofs.port_fields.put_ports.Given as goal

abbrev pub invariant-loop-index : goal.invariant-loop-index
invariant-loop-index l = IsListed l.set l.index l.any l.initial.into.items l.into.items
