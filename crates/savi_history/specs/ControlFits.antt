-- What the octets of control's source are to the history, by how control ended. `Arrives` says which lines some octets are,
-- and how they end, where the input was seen to end behind them and where it wasn't; `before` and `after` are what the
-- source had left, where it tells that.
use Rattle.std.specs.Prelude.{◌≡◌, ℕ, Bool, true, false, IsTrue, List, [], ◌∷◌, ◌++◌, All, Option, Some, None, IfSome}
use Rattle.savi_kinds.specs.declared.entry.How.{How}
use Rattle.savi_kinds.specs.declared.entry.How.TheVariants as hows
use Rattle.savi_ends.specs.Octets.{Takes}
use Rattle.cli_lang.specs.Arrivals.{Line}
use Rattle.savi_history.specs.ControlInputs.{is_quit}
use Rattle.savi_history.specs.Fits.{IsWhole}

-- none of these lines is `quit`
abbrev pub HasNoQuit : List Line → Type 0
HasNoQuit lines = All (λ line. is_quit line ≡ false) lines

-- some octets are these lines and what comes behind them, if anything does
pub record Begins (Arrives : List ℕ → List Line → How → Type 0) (octets : List ℕ) (lines : List Line) : Type 0 where
  pub behind : List Line
  pub ending : How
  pub read : Arrives octets (lines ++ behind) ending

-- there is a last line, and no line before it is `quit`
pub record HasNoQuitBefore (lines : List Line) : Type 0 where
  pub front : List Line
  pub last : Line
  pub all : lines ≡ front ++ last ∷ []
  pub none : HasNoQuit front

-- the last line is `quit`, and no line before it
pub record EndsAtQuit (lines : List Line) : Type 0 where
  pub front : List Line
  pub last : Line
  pub all : lines ≡ front ++ last ∷ []
  pub none : HasNoQuit front
  pub quit : is_quit last ≡ true

-- what the source had left is these lines, and perhaps more behind them
abbrev pub AreFirst : (List ℕ → List Line → How → Type 0) → Option (List ℕ) → List Line → Type 0
AreFirst Arrives before lines = IfSome before (λ octets. Begins Arrives octets lines)

-- what the source gave up before a read failed is these lines, and no whole line behind them
pub record AreBeforeFault (Arrives : Bool → List ℕ → List Line → How → Type 0)
    (before after : Option (List ℕ)) (lines : List Line) : Type 0 where
  pub gave : List ℕ
  pub takes : Takes before after gave
  pub read : Arrives false gave lines hows.Failed

-- what the source gave up is these lines, one for which there was no room, and perhaps more that was read ahead
pub record AreBeforeRefusal (Arrives : Bool → List ℕ → List Line → How → Type 0)
    (before after : Option (List ℕ)) (lines : List Line) : Type 0 where
  pub gave : List ℕ
  pub takes : Takes before after gave
  -- whether the input was seen to end, behind all that was left
  pub seen : Bool
  pub all : IsTrue seen → IfSome before (λ octets. octets ≡ gave)
  pub refused : Line
  pub behind : List Line
  pub ending : How
  pub read : Arrives seen gave (lines ++ refused ∷ behind) ending

-- All that was left are the lines, none of which is `quit`; or those in front of a failed read, or of a line for which there
-- was no room. Behind `quit`, and behind a line whose reply could not be written, more may have been left.
abbrev pub FitsControl : (Bool → List ℕ → List Line → How → Type 0)
    → Option (List ℕ) → Option (List ℕ) → List Line → Option How → Type 0
FitsControl Arrives before after lines (Some hows.End) = IsWhole (Arrives true) before lines hows.End × HasNoQuit lines
FitsControl Arrives before after lines (Some (hows.Malformed at)) =
    IsWhole (Arrives true) before lines (hows.Malformed at) × HasNoQuit lines
FitsControl Arrives before after lines (Some (hows.Overlong at)) =
    IsWhole (Arrives true) before lines (hows.Overlong at) × HasNoQuit lines
FitsControl Arrives before after lines (Some hows.Failed) = AreBeforeFault Arrives before after lines × HasNoQuit lines
FitsControl Arrives before after lines (Some hows.Paused) = AreBeforeRefusal Arrives before after lines × HasNoQuit lines
FitsControl Arrives before after lines (Some hows.Quit) = AreFirst (Arrives true) before lines × EndsAtQuit lines
FitsControl Arrives before after lines (Some hows.Unwritten) = AreFirst (Arrives true) before lines × HasNoQuitBefore lines
FitsControl Arrives before after lines None = ⊥
