use Rattle.ra_learn.proofs.coming.take.Goals as goal

pub returns-in-Frame-clause-wrote : goal.returns-in-Frame-clause-wrote
returns-in-Frame-clause-wrote g c = λ plan window arrivals before faults tells wrote. rw c.in-Frame.is (c.frame.ensures.wrote plan window arrivals before faults tells wrote)
