-- What control's source gave up fits the lines that a replay enters.
use Rattle.std.proofs.Common.{◌≢◌, ℕ, true, false, List, sym, subst, Option, Some, None, IfSome}
use Rattle.savi_kinds.specs.declared.entry.How.{How}
use Rattle.savi_kinds.specs.declared.entry.How.TheVariants as hows
use Rattle.cli_lang.specs.Arrivals.{Line, Input}
use Rattle.savi_history.specs.ControlFits.{FitsControl}
use Rattle.savi_history.specs.ControlFits as fits
use Rattle.savi_history.specs.EnteredLines.{AreEntered, AreAll}
use Rattle.savi_history.specs.EnteredLines as entered
use Rattle.savi_history.specs.Fits.{IsWhole}
use Rattle.port_worker.specs.ControlServed.{AreLines, IsControlInputOf}

-- the whole input is all that was left at first
whole_of : (first after : Option (List ℕ)) (ended_so : Option How) (lines : List Line) (ending : How) → ended_so ≢ Some hows.Failed → IsControlInputOf first after ended_so lines ending → IfSome first (λ octets. AreLines true octets lines ending)
whole_of first after ended_so lines hows.End other came = came
whole_of first after ended_so lines (hows.Malformed at) other came = came
whole_of first after ended_so lines (hows.Overlong at) other came = came
whole_of first after ended_so lines hows.Failed other came = absurd (other came.0)
whole_of first after ended_so lines hows.Quit other came = absurd came
whole_of first after ended_so lines hows.Unwritten other came = absurd came
whole_of first after ended_so lines hows.Paused other came = absurd came

begins : (first : Option (List ℕ)) (input : Input) (lines : List Line) → entered.AreFirst input lines → IfSome first (λ octets. AreLines true octets input.arrivals input.ending) → fits.AreFirst (AreLines true) first lines
begins None input lines front whole = tt
begins (Some octets) input lines front whole = record { behind = front.0; ending = input.ending; read = subst (λ (ls : List Line). AreLines true octets ls input.ending) front.1 whole }

all_of : (first : Option (List ℕ)) (input : Input) (lines : List Line) (how : How) → AreAll input lines how → IfSome first (λ octets. AreLines true octets input.arrivals input.ending) → IsWhole (AreLines true) first lines how
all_of first input lines how all whole =
    subst (λ (ls : List Line). IfSome first (λ octets. AreLines true octets ls how)) (sym all.all) (subst (λ (h : How). IfSome first (λ octets. AreLines true octets input.arrivals h)) all.ending whole)

pub fits_control : (first left : Option (List ℕ)) (input : Input) (lines : List Line) (ended_so : Option How) → AreEntered input lines ended_so → IsControlInputOf first left ended_so input.arrivals input.ending
    → FitsControl AreLines first left lines ended_so
fits_control first left input lines (Some hows.End) are came =
    (all_of first input lines hows.End are (whole_of first left (Some hows.End) input.arrivals input.ending (λ same. cc) came), are.none)
fits_control first left input lines (Some (hows.Malformed at)) are came =
    (all_of first input lines (hows.Malformed at) are (whole_of first left (Some (hows.Malformed at)) input.arrivals input.ending (λ same. cc) came), are.none)
fits_control first left input lines (Some (hows.Overlong at)) are came =
    (all_of first input lines (hows.Overlong at) are (whole_of first left (Some (hows.Overlong at)) input.arrivals input.ending (λ same. cc) came), are.none)
fits_control first left input lines (Some hows.Failed) are came =
    let here : IsControlInputOf first left (Some hows.Failed) input.arrivals hows.Failed = subst (λ (h : How). IsControlInputOf first left (Some hows.Failed) input.arrivals h) are.ending came in (
      record {
        gave = here.1;
        takes = here.2;
        read = subst (λ (ls : List Line). AreLines false here.1 ls hows.Failed) (sym are.all) here.3;
      },
      are.none,
    )
fits_control first left input lines (Some hows.Paused) are came = absurd are
fits_control first left input lines (Some hows.Quit) are came =
    (begins first input lines are.0 (whole_of first left (Some hows.Quit) input.arrivals input.ending (λ same. cc) came), are.1)
fits_control first left input lines (Some hows.Unwritten) are came =
    (begins first input lines are.0 (whole_of first left (Some hows.Unwritten) input.arrivals input.ending (λ same. cc) came), are.1)
fits_control first left input lines None are came = absurd are
