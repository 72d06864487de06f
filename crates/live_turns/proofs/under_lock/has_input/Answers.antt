use Rattle.savi_core.specs.Machines.{base_of}
use Rattle.live_turns.proofs.OpenInputs.{input_open}
use Rattle.live_turns.proofs.under_lock.has_input.Goals as goal

pub returns : goal.returns
returns c = input_open c.args.core.now.plan (base_of c.args.core.now) c.args.core.now.past c.inputs_left.result c.inputs_left.ensures
