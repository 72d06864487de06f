use Rattle.ra_learn.proofs.Adverts.{advert_is, advert_only}
use Rattle.ra_learn.proofs.laws.an_advert_has_its_reading.Goals as goal

pub returns-clause-reading : goal.returns-clause-reading
returns-clause-reading c = advert_is

pub returns-clause-only : goal.returns-clause-only
returns-clause-only c = advert_only
