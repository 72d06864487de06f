use Rattle.live_session.proofs.StandsOn.{ticker_later, ticker_next, ticker_over, ticker_starts}
use Rattle.live_session.proofs.laws.the_ticker_stands_on.Goals as goal

pub returns-clause-start : goal.returns-clause-start
returns-clause-start g c plan clock = ticker_starts g.C.Clock.readings plan clock

pub returns-clause-later : goal.returns-clause-later
returns-clause-later g c plan before found now old new legal later stands = ticker_later plan before found now legal g.C.Clock.readings old new later stands

pub returns-clause-next : goal.returns-clause-next
returns-clause-next g c plan before old new stands = ticker_next plan before g.C.Clock.readings old new stands

pub returns-clause-over : goal.returns-clause-over
returns-clause-over g c plan before segment old new legal ended stands = ticker_over plan before segment legal g.C.Clock.readings old new ended stands
