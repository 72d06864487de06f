use Rattle.eth_frame.proofs.TagIs.{short_has_none}
use Rattle.frame_class.proofs.reader.tag_if_whole.Goals as goal

pub returns-then-frame-lt-FRAME_OCTETS_LEAST : goal.returns-then-frame-lt-FRAME_OCTETS_LEAST
returns-then-frame-lt-FRAME_OCTETS_LEAST c = short_has_none c.args.frame.now c.if-frame-lt-FRAME_OCTETS_LEAST.true
