use Rattle.std.proofs.Common.{◌∙◌}
use Rattle.savi_conf.proofs.PartsLemmas.{vlans_seen}
use Rattle.savi_conf.proofs.read.plan_in.Goals as goal

pub first_fault-requires : goal.first_fault-requires
first_fault-requires c = record {
  ports = rw c.as_slice-2.ensures.value c.in-Ok.ensures;
  prefixes = rw c.as_slice-3.ensures.value c.in-Ok-tables_at.ensures;
  vlans = rw c.as_slice-4.ensures.value ((rw c.as_slice.ensures.value at c.in-Ok-vlans_of_each.ensures) ∙ vlans_seen c.in-Ok.ports.items _ c.in-Ok.ensures);
}

pub plan_of-requires-clause-parts : goal.plan_of-requires-clause-parts
plan_of-requires-clause-parts c = record {
  ports = rw c.as_slice-2.ensures.value c.in-Ok.ensures;
  prefixes = rw c.as_slice-3.ensures.value c.in-Ok-tables_at.ensures;
  vlans = rw c.as_slice-4.ensures.value ((rw c.as_slice.ensures.value at c.in-Ok-vlans_of_each.ensures) ∙ vlans_seen c.in-Ok.ports.items _ c.in-Ok.ensures);
}
