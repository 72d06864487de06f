-- How the lines of a journal's header go on.
use Rattle.std.specs.Prelude.{◌≡◌, ◌≢◌, ◌+◌, ℕ, List, [], ◌∷◌, ◌++◌, length, All}
use Rattle.savi_kinds.specs.declared.plan.Plan.{Plan}
use Rattle.savi_kinds.specs.MacText.{HasSixOctets}
use Rattle.savi_kinds.specs.Prefixes.{first_of}
use Rattle.savi_kinds.specs.ValidPlan.{IsValidPlan, nets_of}
use Rattle.savi_kinds.specs.Characters.{line_feed}
use Rattle.hist_store.specs.TextOfLines.{joined, lines_text}
use Rattle.hist_store.specs.declared.version.Version.{Version}
use Rattle.hist_store.specs.JournalTexts.{address_text, begin_line, header_lines}
use Rattle.savi_history.specs.Journals.{IsAddress, without_names}

-- the fields of a line
abbrev pub LineFields : Type 0
LineFields = List (List ℕ)

-- A plan that a switch may have: it is within the limits, and its addresses have as many bits as the types of addresses
-- keep. The names of inputs and outputs stand in no journal, so it has none.
pub record IsPlan (plan : Plan) : Type 0 where
  pub valid : IsValidPlan plan
  pub mac : HasSixOctets plan.mac
  pub addresses : All (λ net. IsAddress (first_of net)) (nets_of plan.prefixes)
  pub nameless : without_names plan ≡ plan

-- the lines of a plan in a version of the text, and the `begin` of the first segment
abbrev pub plan_lines : Version → Plan → List LineFields
plan_lines version plan = header_lines version address_text plan ++ begin_line ∷ []

abbrev pub head_text : Version → Plan → List ℕ
head_text version plan = lines_text (plan_lines version plan)

-- a header begins with these lines, and this line comes next
pub record ComesNext (lines : List LineFields) (next : LineFields) : Type 0 where
  pub version : Version
  pub plan : Plan
  pub is_plan : IsPlan plan
  pub more : List LineFields
  pub header : plan_lines version plan ≡ lines ++ next ∷ more

-- no line that comes next in a header begins the rest
abbrev pub HasNoNext : List LineFields → List ℕ → Type 0
HasNoNext lines rest = (next : LineFields) (more : List ℕ) → ComesNext lines next → rest ≢ joined next ++ line_feed ∷ more

-- The octets begin with lines of a header that isn't whole, and no line that comes next there begins the rest: line n is the
-- first bad one.
pub record HasBadHeader (octets : List ℕ) (n : ℕ) : Type 0 where
  pub lines : List LineFields
  pub rest : List ℕ
  pub next : LineFields
  pub begins : ComesNext lines next
  pub text : octets ≡ lines_text lines ++ rest
  pub none : HasNoNext lines rest
  pub number : n ≡ length lines + 1
