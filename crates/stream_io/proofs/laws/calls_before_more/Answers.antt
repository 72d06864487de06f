use Rattle.stream_io.proofs.BeforeMore.{calls_before_more}
use Rattle.stream_io.proofs.laws.calls_before_more.Goals as goal

pub returns : goal.returns
returns c = calls_before_more
