-- The lines that a header has for the settings of a plan, and which settings a plan may have.
use Rattle.std.specs.Prelude.{◌≡◌, ◌≢◌, ◌+◌, ◌<◌, ℕ, false, List, [], ◌∷◌, ◌++◌, take, codes}
use Rattle.savi_kinds.specs.MacText.{HasSixOctets}
use Rattle.savi_kinds.specs.Macs.{is_group}
use Rattle.savi_kinds.specs.ValidPlan.{IsWithin, IsSeconds}
use Rattle.hist_store.specs.TextOfLines.{joined}
use Rattle.hist_store.specs.JournalTexts.{version_line, mac_line, savi_line, unknown_line, setting}
use Rattle.journal_check.specs.declared.settings.Settings.{Settings}
use Rattle.journal_check.specs.Headers.{LineFields, ComesNext}

abbrev pub setting_lines : Settings → List LineFields
setting_lines settings =
    version_line settings.version
    ∷ mac_line settings.mac
    ∷ savi_line settings.savi
    ∷ unknown_line settings.drop_unknown
    ∷ setting (codes "per_port") settings.per_port
    ∷ setting (codes "depth") settings.depth
    ∷ setting (codes "entries") settings.entries
    ∷ setting (codes "bytes") settings.bytes
    ∷ setting (codes "gap") settings.gap
    ∷ setting (codes "test") settings.test
    ∷ setting (codes "binding") settings.life
    ∷ []

-- settings of a plan within the limits
pub record AreSettings (settings : Settings) : Type 0 where
  pub six : HasSixOctets settings.mac
  pub unicast : is_group settings.mac ≡ false
  pub per_port : IsWithin 1 64 settings.per_port
  pub depth : IsWithin 1 256 settings.depth
  pub entries : IsWithin 4131 1000000 settings.entries
  pub bytes : IsWithin 1518 1073741824 settings.bytes
  pub gap : IsWithin 1 59999 settings.gap
  pub test : IsWithin 2 60000 settings.test
  pub gap_first : settings.gap < settings.test
  pub life : IsSeconds 1 86400 settings.life

-- the lines of settings in front of the one with this number, counted from 0
abbrev pub before : ℕ → Settings → List LineFields
before number settings = take number (setting_lines settings)

-- the line with this number was read: it comes behind the lines before it, which stay
pub record IsRead (number : ℕ) (line : List ℕ) (old new : Settings) : Type 0 where
  pub settings : AreSettings new
  pub same : before number new ≡ before number old
  pub next : LineFields
  pub one_more : before (number + 1) new ≡ before number old ++ next ∷ []
  pub text : line ≡ joined next

-- the line is none that may come behind the lines before it
abbrev pub IsNotNext : ℕ → List ℕ → Settings → Type 0
IsNotNext number line settings = (next : LineFields) → ComesNext (before number settings) next → line ≢ joined next
