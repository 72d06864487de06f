use Rattle.ra_guard.proofs.Stopping.{advert_frames}
use Rattle.ra_guard.proofs.laws.adverts_are_refused.Goals as goal

pub returns : goal.returns
returns c = advert_frames
