use Rattle.frame_class.proofs.OneClass.{one_class}
use Rattle.frame_class.proofs.reader.class.Goals as goal

pub returns-clause-only : goal.returns-clause-only
returns-clause-only c = λ other is. one_class c.args.frame.now other c.put_class.new.class is c.put_class.ensures
