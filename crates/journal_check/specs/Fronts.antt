-- The lines of a journal in front of the entries of a segment.
use Rattle.std.specs.Prelude.{◌≡◌, ◌≢◌, ℕ, List, [], ◌∷◌, ◌++◌, length}
use Rattle.savi_kinds.specs.declared.plan.Plan.{Plan}
use Rattle.savi_kinds.specs.Characters.{line_feed}
use Rattle.hist_store.specs.Rows.{Row}
use Rattle.hist_store.specs.TextOfLines.{joined, lines_text}
use Rattle.hist_store.specs.declared.version.Version.{Version}
use Rattle.hist_store.specs.JournalTexts.{address_text, begin_line, header_lines, segments_lines}
use Rattle.checkpoint.specs.Bases.{Base}
use Rattle.checkpoint.specs.BaseLines.{base_lines}
use Rattle.savi_segments.specs.Segments.{base_after}
use Rattle.savi_segments.specs.Journals.{journal_segments}
use Rattle.journal_check.specs.Headers.{LineFields}

-- of the segment alone: what it goes on from, and `begin`
abbrev pub opening_lines : Plan → Base → List LineFields
opening_lines plan base = base_lines plan base ++ begin_line ∷ []

-- of the whole text: the header, the segments that are closed, the newest first, and the front of the next one
abbrev pub front_lines : Version → Plan → List (List Row) → List LineFields
front_lines version plan closed = header_lines version address_text plan ++ (segments_lines (journal_segments plan closed) ++ opening_lines plan (base_after plan closed))

-- The octets begin with so many of the lines that should stand there, and the next one of those doesn't come behind them.
pub record DepartsAfter (wanted : List LineFields) (octets : List ℕ) (count : ℕ) : Type 0 where
  pub lines : List LineFields
  pub next : LineFields
  pub later : List LineFields
  pub all : wanted ≡ lines ++ next ∷ later
  pub behind : List ℕ
  pub text : octets ≡ lines_text lines ++ behind
  pub none : (more : List ℕ) → behind ≢ joined next ++ line_feed ∷ more
  pub count_is : count ≡ length lines
