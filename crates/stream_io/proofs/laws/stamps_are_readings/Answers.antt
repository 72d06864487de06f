use Rattle.stream_io.proofs.WholeRuns.{stamps_are_readings}
use Rattle.stream_io.proofs.laws.stamps_are_readings.Goals as goal

pub returns : goal.returns
returns c = stamps_are_readings
