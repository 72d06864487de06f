use Rattle.load_gen.proofs.Wholes.{loads_are_inputs}
use Rattle.load_gen.proofs.laws.loads_arrive.Goals as goal

pub returns : goal.returns
returns c = loads_are_inputs
