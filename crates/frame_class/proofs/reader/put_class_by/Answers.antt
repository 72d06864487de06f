use Rattle.frame_class.proofs.Layers.{typed_packet}
use Rattle.frame_class.proofs.reader.put_class_by.Goals as goal

pub returns-in-34525 : goal.returns-in-34525
returns-in-34525 c = typed_packet c.args.eth c.args.payload.now c.put_packet.new.class c.in-34525.is c.put_packet.ensures
