-- The lines of settings, as they are read.
use Rattle.std.proofs.Common.{◌≡◌, ◌/◌, ◌%◌, ◌^◌, ◌<◌, ◌≤◌, ℕ, zero, suc, false, List, [], ◌∷◌, ◌++◌, length, take, get_or, codes, decimal, Option, Some, None, refl, ap, sym, ◌∙◌, arith, lit≤}
use Rattle.std.proofs.lemmas.Fmt.{decimal_injective}
use Rattle.savi_kinds.specs.declared.plan.Plan.{Plan}
use Rattle.savi_kinds.specs.declared.address.Mac.{Mac}
use Rattle.savi_kinds.specs.MacText.{HasSixOctets}
use Rattle.savi_kinds.specs.Macs.{is_group}
use Rattle.savi_kinds.specs.ValidPlan.{IsValidPlan, IsWithin, IsSeconds}
use Rattle.hist_store.specs.TextOfLines.{joined}
use Rattle.hist_store.specs.declared.version.Version.{Version}
use Rattle.hist_store.specs.JournalTexts.{setting, version_line}
use Rattle.journal_check.specs.declared.settings.Settings.{Settings}
use Rattle.journal_check.specs.Headers.{LineFields, ComesNext, plan_lines}
use Rattle.journal_check.specs.SettingLines.{setting_lines, AreSettings, before, IsNotNext}

-- the line behind the first k lines
nth_at : (ys : List LineFields) (next : LineFields) (more : List LineFields) (k : ℕ) → k ≤ length ys → get_or (take k ys ++ next ∷ more) k [] ≡ next
nth_at ys next more zero low = refl
nth_at [] next more (suc k) low = absurd (omega (arith, low))
nth_at (y ∷ ys) next more (suc k) low = nth_at ys next more k (omega (arith, low))

-- what comes next is the line of the plan with that number
pub next_is : (settings : Settings) (k : ℕ) (next : LineFields) (comes : ComesNext (before k settings) next) → k ≤ 11 → get_or (plan_lines comes.version comes.plan) k [] ≡ next
next_is settings k next comes low = ap (λ (lines : List LineFields). get_or lines k []) comes.header ∙ nth_at (setting_lines settings) next comes.more k low

-- what was read can't be none
pub no_value : (o : Option ℕ) (value : ℕ) → o ≡ None → o ≡ Some value → ⊥
no_value o value none some = cc

value_same : {name a b : List ℕ} → name ∷ a ∷ [] ≡ name ∷ b ∷ [] → a ≡ b
value_same e = cc

-- a line that is none in the place of line k
pub line_not : (settings : Settings) (k : ℕ) (line : List ℕ) → k ≤ 11 → ((next : LineFields) (comes : ComesNext (before k settings) next) → line ≡ joined (get_or (plan_lines comes.version comes.plan) k []) → ⊥) → IsNotNext k line settings
line_not settings k line low none = λ next comes e. none next comes (e ∙ ap joined (sym (next_is settings k next comes low)))

-- the gap of a plan that begins with these settings
gap_is : (settings : Settings) (next : LineFields) (comes : ComesNext (before 9 settings) next) → AreSettings settings → comes.plan.gap ≡ settings.gap
gap_is settings next comes are =
    let lines : setting (codes "gap") comes.plan.gap ≡ setting (codes "gap") settings.gap = ap (λ (lines : List LineFields). get_or lines 8 []) comes.header in
    let text : decimal comes.plan.gap ≡ decimal settings.gap = value_same lines in
    let high = comes.is_plan.valid.gap.1 in
    let high' = are.gap.1 in
    decimal_injective comes.plan.gap settings.gap (omega (arith, high)) (omega (arith, high')) text

some_same : (o : Option ℕ) (m n : ℕ) → o ≡ Some m → o ≡ Some n → m ≡ n
some_same o m n first second = cc

-- a test that the gap isn't below
pub test_not : (settings : Settings) (line : List ℕ) (read : Option ℕ) (test : ℕ) → AreSettings settings → read ≡ Some test → test ≤ settings.gap
    → ((value : ℕ) → value < 2 ^ 64 → IsWithin 2 60000 value → line ≡ joined (setting (codes "test") value) → read ≡ Some value) → IsNotNext 9 line settings
test_not settings line read test are is low whole =
    line_not settings 9 line (lit≤ tt) (λ next comes e.
    let valid = comes.is_plan.valid in
    let high = valid.test.1 in
    let same : test ≡ comes.plan.test = some_same read test comes.plan.test is (whole comes.plan.test (omega (arith, high)) valid.test e) in
    let gap = gap_is settings next comes are in
    let less = valid.gap_first in
    omega (arith, same, gap, less, low))

-- a setting that is none
pub setting_not : (settings : Settings) (k : ℕ) (name : List ℕ) (value_of : Plan → ℕ) (least most : ℕ) (line : List ℕ) → k ≤ 11 → most < 2 ^ 64
    → ((version : Version) (plan : Plan) → get_or (plan_lines version plan) k [] ≡ setting name (value_of plan)) → ((plan : Plan) → IsValidPlan plan → IsWithin least most (value_of plan))
    → ((value : ℕ) → value < 2 ^ 64 → IsWithin least most value → line ≡ joined (setting name value) → ⊥) → IsNotNext k line settings
setting_not settings k name value_of least most line low fits at within none = λ next comes e.
    let is = next_is settings k next comes low in
    let inside = within comes.plan comes.is_plan.valid in
    let high = inside.1 in
    none (value_of comes.plan) (omega (arith, high, fits)) inside (e ∙ ap joined (sym is ∙ at comes.version comes.plan))

pub with_per_port : (s : Settings) (v : ℕ) → AreSettings s → IsWithin 1 64 v → AreSettings (record s { per_port = v })
with_per_port s v a w = record { six = a.six; unicast = a.unicast; per_port = w; depth = a.depth; entries = a.entries; bytes = a.bytes; gap = a.gap; test = a.test; gap_first = a.gap_first; life = a.life }

pub with_depth : (s : Settings) (v : ℕ) → AreSettings s → IsWithin 1 256 v → AreSettings (record s { depth = v })
with_depth s v a w = record { six = a.six; unicast = a.unicast; per_port = a.per_port; depth = w; entries = a.entries; bytes = a.bytes; gap = a.gap; test = a.test; gap_first = a.gap_first; life = a.life }

pub with_entries : (s : Settings) (v : ℕ) → AreSettings s → IsWithin 4131 1000000 v → AreSettings (record s { entries = v })
with_entries s v a w = record { six = a.six; unicast = a.unicast; per_port = a.per_port; depth = a.depth; entries = w; bytes = a.bytes; gap = a.gap; test = a.test; gap_first = a.gap_first; life = a.life }

pub with_bytes : (s : Settings) (v : ℕ) → AreSettings s → IsWithin 1518 1073741824 v → AreSettings (record s { bytes = v })
with_bytes s v a w = record { six = a.six; unicast = a.unicast; per_port = a.per_port; depth = a.depth; entries = a.entries; bytes = w; gap = a.gap; test = a.test; gap_first = a.gap_first; life = a.life }

pub with_gap : (s : Settings) (v : ℕ) → AreSettings s → IsWithin 1 59999 v → AreSettings (record s { gap = v; test = 60000 })
with_gap s v a w = let high = w.1 in record { six = a.six; unicast = a.unicast; per_port = a.per_port; depth = a.depth; entries = a.entries; bytes = a.bytes; gap = w; test = (lit≤ tt, lit≤ tt); gap_first = omega (arith, high); life = a.life }

pub with_test : (s : Settings) (v : ℕ) → AreSettings s → IsWithin 2 60000 v → s.gap < v → AreSettings (record s { test = v })
with_test s v a w less = record { six = a.six; unicast = a.unicast; per_port = a.per_port; depth = a.depth; entries = a.entries; bytes = a.bytes; gap = a.gap; test = w; gap_first = less; life = a.life }

pub with_mac : (s : Settings) (mac : Mac) → AreSettings s → HasSixOctets mac → is_group mac ≡ false → AreSettings (record s { mac = mac })
with_mac s mac a six unicast = record { six = six; unicast = unicast; per_port = a.per_port; depth = a.depth; entries = a.entries; bytes = a.bytes; gap = a.gap; test = a.test; gap_first = a.gap_first; life = a.life }

seconds : (v : ℕ) → IsWithin 1000 86400000 v → v % 1000 ≡ 0 → IsSeconds 1 86400 v
seconds v w whole = let low = w.0 in let high = w.1 in (v / 1000, omega (arith, whole), (omega (arith, low, whole), omega (arith, high, whole)))

pub with_life : (s : Settings) (v : ℕ) → AreSettings s → IsWithin 1000 86400000 v → v % 1000 ≡ 0 → AreSettings (record s { life = v })
with_life s v a w whole = record { six = a.six; unicast = a.unicast; per_port = a.per_port; depth = a.depth; entries = a.entries; bytes = a.bytes; gap = a.gap; test = a.test; gap_first = a.gap_first; life = seconds v w whole }

pub with_version : (s : Settings) (version : Version) → AreSettings s → AreSettings (record s { version = version })
with_version s version a = record { six = a.six; unicast = a.unicast; per_port = a.per_port; depth = a.depth; entries = a.entries; bytes = a.bytes; gap = a.gap; test = a.test; gap_first = a.gap_first; life = a.life }

-- a first line of no version
pub version_not : (settings : Settings) (line : List ℕ) → ((version : Version) → line ≡ joined (version_line version) → ⊥) → IsNotNext 0 line settings
version_not settings line none = λ next comes e. none comes.version (e ∙ ap joined (sym (next_is settings 0 next comes (lit≤ tt))))

-- what was read can't be none
pub no_version : (o : Option Version) (version : Version) → o ≡ None → o ≡ Some version → ⊥
no_version o version none some = cc
