use Rattle.std.proofs.Common.{refl, ◌∙◌}
use Rattle.load_gen.proofs.PlanHolds.{load_plan_holds}
use Rattle.load_gen.proofs.plan.load_plan.Goals as goal

pub returns-clause-load : goal.returns-clause-load
returns-clause-load c = record {
  mac = refl;
  savi = refl;
  drop_unknown = refl;
  per_port = refl;
  depth = refl;
  entries = refl;
  bytes = refl;
  gap = refl;
  test = refl;
  life = refl;
  control = refl;
  journal = c.new.ensures ∙ c.in_ok-from_str.ensures.ok;
  ports = c.in_ok-ports.ensures;
  prefixes = c.in_ok-prefixes.ensures;
}

pub returns-clause-valid : goal.returns-clause-valid
returns-clause-valid c = load_plan_holds _ (returns-clause-load c)
