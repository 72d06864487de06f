-- The header, line by line.
use Rattle.std.proofs.Common.{◌≡◌, ◌≢◌, ◌+◌, ◌<◌, ℕ, zero, suc, List, [], ◌∷◌, ◌++◌, length, map, take, Option, Some, None, IfSome, refl, ap, sym, ◌∙◌, subst, arith, lit≤, lit<, true≢false, append_assoc, length-append, length-take-le}
use Rattle.std.proofs.lemmas.List.{length-map}
use Rattle.std.proofs.lemmas.List.Elements.{All-nil, All-push}
use Rattle.savi_kinds.specs.declared.plan.PortPlan.{PortPlan}
use Rattle.savi_kinds.specs.declared.plan.PrefixPlan.{PrefixPlan}
use Rattle.savi_kinds.specs.declared.plan.Role.TheVariants.{Host}
use Rattle.savi_kinds.specs.declared.plan.Format.TheVariants.{Pcap}
use Rattle.savi_kinds.specs.declared.plan.Vlan.TheVariants.{Access}
use Rattle.savi_kinds.specs.declared.address.Prefix.{Prefix}
use Rattle.savi_kinds.specs.Prefixes.{first_of}
use Rattle.savi_kinds.specs.ValidPlan.{HasPlanVlans, IsPlanPrefix}
use Rattle.savi_kinds.specs.Vlans.{IsVlan}
use Rattle.hist_store.specs.TextOfLines.{joined, lines_text}
use Rattle.hist_store.specs.JournalTexts.{address_text, journal_port_fields, prefix_fields, begin_line}
use Rattle.hist_store.proofs.LineLemmas.{lines_text-append}
use Rattle.hist_store.proofs.OnePort.{the_port}
use Rattle.hist_store.proofs.Words.{IsLine, IsLines, parted}
use Rattle.savi_ends.specs.Octets.{in_front}
use Rattle.savi_ends.proofs.Octets.{in_front_again}
use Rattle.savi_history.specs.Journals.{IsAddress}
use Rattle.journal_check.specs.declared.answer.Checked.{Checked}
use Rattle.journal_check.specs.declared.answer.Checked.TheVariants.{Good, Wrong, BadLine, Failed, NoMemory}
use Rattle.journal_check.specs.declared.settings.Settings.{Settings}
use Rattle.journal_check.specs.Feeds.{HasNoFeed, BeginsWithNoLine}
use Rattle.journal_check.specs.Headers.{LineFields, IsPlan, ComesNext, HasNoNext, plan_lines, head_text}
use Rattle.journal_check.specs.SettingLines.{setting_lines, AreSettings, IsRead, IsNotNext, before}
use Rattle.journal_check.specs.ListLines.{list_lines, plan_by, port_by, AreLists, IsNotListed, IsListed}
use Rattle.journal_check.specs.Answers.{IfRead, IsBadHeader}
use Rattle.journal_check.proofs.LineFronts.{line_avoids, avoids_plain, plain_avoids}
use Rattle.journal_check.proofs.FeedPlaces.{in_front_none}
use Rattle.journal_check.proofs.HeaderSizes.{next_short}
use Rattle.journal_check.proofs.OneHeader.{head_is}
use Rattle.journal_check.proofs.NextListed.{not_listed}

-- one more line was taken
one_line_more : (line : List ℕ) (lines : List LineFields) (next : LineFields) (whole mid after : Option (List ℕ)) → whole ≡ in_front (lines_text lines) mid → mid ≡ in_front (line ++ 10 ∷ []) after
    → line ≡ joined next → whole ≡ in_front (lines_text (lines ++ next ∷ [])) after
one_line_more line lines next whole mid after told taken text =
    let front = lines_text lines in
    told ∙ ap (in_front front) taken ∙ in_front_again front (line ++ 10 ∷ []) after
    ∙ ap (λ (l : List ℕ). in_front (front ++ (l ++ 10 ∷ [])) after) text
    ∙ ap (λ (t : List ℕ). in_front t after) (sym (lines_text-append lines (next ∷ [])))

-- one more line of the settings was read
pub read_more : (k : ℕ) (line : List ℕ) (old new : Settings) (whole mid after : Option (List ℕ)) → whole ≡ in_front (lines_text (before k old)) mid → mid ≡ in_front (line ++ 10 ∷ []) after
    → IsRead k line old new → whole ≡ in_front (lines_text (before (k + 1) new)) after
read_more k line old new whole mid after told taken read =
    one_line_more line (before k old) read.next whole mid after told taken read.text ∙ ap (λ (ls : List LineFields). in_front (lines_text ls) after) (sym read.one_more)

-- plans of settings and lists

pub plan_is : (s : Settings) (ports : List PortPlan) (prefixes : List PrefixPlan) → AreSettings s → AreLists ports prefixes → 0 < length ports → IsPlan (plan_by s ports prefixes)
plan_is s ports prefixes a l some = record {
  valid = record {
    unicast = a.unicast;
    per_port = a.per_port;
    depth = a.depth;
    entries = a.entries;
    bytes = a.bytes;
    gap = a.gap;
    test = a.test;
    gap_first = a.gap_first;
    life = a.life;
    port_count = (omega (arith, some), l.port_count);
    ports = l.ports_rise;
    port_vlans = l.port_vlans;
    vlan_count = l.vlan_count;
    prefix_count = l.prefix_count;
    plan_prefixes = l.plan_prefixes;
    prefix_vlans = l.prefix_vlans;
    prefixes = l.prefixes_part;
  };
  mac = a.six;
  addresses = l.addresses;
  nameless = ap (λ (ps : List PortPlan). plan_by s ps prefixes) l.nameless;
}

header_by : (s : Settings) (ports : List PortPlan) (prefixes : List PrefixPlan) → plan_lines s.version (plan_by s ports prefixes) ≡ setting_lines s ++ (list_lines ports prefixes ++ begin_line ∷ [])
header_by s ports prefixes = refl

abbrev the_first : PortPlan
the_first = port_by (the_port 1 (lit≤ tt) (lit≤ tt)) Host Pcap (Access 1)

first_vlans : HasPlanVlans the_first
first_vlans = record {
  numbers = All-push IsVlan [] 1 (All-nil IsVlan) (lit≤ tt, lit≤ tt);
  some = lit≤ tt;
  rising = λ k within. absurd (omega (arith, within));
  trusted = λ trunk. absurd (true≢false (sym trunk));
}

first_listed : AreLists (the_first ∷ []) []
first_listed = record {
  port_count = lit≤ tt;
  ports_rise = λ k within. absurd (omega (arith, within));
  port_vlans = All-push HasPlanVlans [] the_first (All-nil HasPlanVlans) first_vlans;
  vlan_count = lit≤ tt;
  nameless = refl;
  prefix_count = lit≤ tt;
  behind_port = λ some. lit< tt;
  plan_prefixes = All-nil IsPlanPrefix;
  prefix_vlans = All-nil (λ (p : PrefixPlan). IsVlan p.vlan);
  prefixes_part = λ i j d less within. absurd (omega (arith, within));
  addresses = All-nil (λ (net : Prefix). IsAddress (first_of net));
}

settings_valid : (s : Settings) → AreSettings s → IsPlan (plan_by s (the_first ∷ []) [])
settings_valid s a = plan_is s (the_first ∷ []) [] a first_listed (lit< tt)

-- the line of the first port, and `begin`
abbrev last_lines : List LineFields
last_lines = journal_port_fields the_first ∷ begin_line ∷ []

settings_header : (s : Settings) → plan_lines s.version (plan_by s (the_first ∷ []) []) ≡ setting_lines s ++ last_lines
settings_header s = refl

-- lines, cut in front of one
record CutAt (lines : List LineFields) (k : ℕ) : Type 0 where
  next : LineFields
  more : List LineFields
  is : lines ≡ take k lines ++ next ∷ more

cut_at : (lines : List LineFields) (k : ℕ) → k < length lines → CutAt lines k
cut_at [] k low = absurd (omega (arith, low))
cut_at (line ∷ lines) zero low = record { next = line; more = lines; is = refl }
cut_at (line ∷ lines) (suc k) low =
    let cut = cut_at lines k (omega (arith, low)) in
    record { next = cut.next; more = cut.more; is = ap (λ (l : List LineFields). line ∷ l) cut.is }

-- some line comes next behind the lines that were read
comes_some : (k : ℕ) (s : Settings) → AreSettings s → k < 11 → (next : LineFields) × ComesNext (before k s) next
comes_some k s a low =
    let cut = cut_at (setting_lines s) k low in (
      cut.next,
      record {
        version = s.version;
        plan = plan_by s (the_first ∷ []) [];
        is_plan = settings_valid s a;
        more = cut.more ++ last_lines;
        header = settings_header s ∙ ap (λ (l : List LineFields). l ++ last_lines) cut.is ∙ append_assoc (before k s) (cut.next ∷ cut.more) last_lines;
      },
    )

-- no line that comes next begins the rest
pub bad_header : (k : ℕ) (s : Settings) (whole mid : Option (List ℕ)) → AreSettings s → k < 11 → whole ≡ in_front (lines_text (before k s)) mid → IfSome mid (λ rest. HasNoNext (before k s) rest)
    → IfSome whole (λ octets. IsBadHeader octets (BadLine (k + 1)))
bad_header k s whole None a low told none = rw told tt
bad_header k s whole (Some rest) a low told none =
    let some = comes_some k s a low in
    let size : length (before k s) ≡ k = length-take-le k (setting_lines s) (omega (arith, low)) in
    rw told (k + 1, record { lines = before k s; rest = rest; next = some.0; begins = some.1; text = refl; none = none; number = omega (arith, size) }, refl)

behind_lines : (ls ms : List LineFields) → IsLines (ls ++ ms) → IsLines ms
behind_lines [] ms is = is
behind_lines (l ∷ ls) ms is = behind_lines ls ms is.1

next_line_is : (lines : List LineFields) (next : LineFields) → ComesNext lines next → IsLine next
next_line_is lines next comes =
    let all = behind_lines lines (next ∷ comes.more) (subst IsLines comes.header (head_is comes.version comes.plan)) in
    all.0

-- the line that was taken is none that comes next
taken_not : (lines : List LineFields) (line : List ℕ) (mid after : Option (List ℕ)) → HasNoFeed line → ((next : LineFields) → ComesNext lines next → line ≢ joined next) → mid ≡ in_front (line ++ 10 ∷ []) after
    → IfSome mid (λ rest. HasNoNext lines rest)
taken_not lines line mid None plain not taken = rw taken tt
taken_not lines line mid (Some rest) plain not taken =
    rw taken (λ next more comes e.
    let parts = parted 10 line (joined next) rest more (avoids_plain line plain) (line_avoids next (next_line_is lines next comes)) (sym (append_assoc line (10 ∷ []) rest) ∙ e) in
    not next comes parts.0)

pub none_next : (k : ℕ) (s : Settings) (line : List ℕ) (mid after : Option (List ℕ)) → HasNoFeed line → IsNotNext k line s → mid ≡ in_front (line ++ 10 ∷ []) after → IfSome mid (λ rest. HasNoNext (before k s) rest)
none_next k s line mid after plain not taken = taken_not (before k s) line mid after plain not taken

-- no line was taken
pub broken_next : (lines : List LineFields) (mid : Option (List ℕ)) → IfSome mid BeginsWithNoLine → IfSome mid (λ rest. HasNoNext lines rest)
broken_next lines None none = tt
broken_next lines (Some rest) none = λ next more comes e.
    none (joined next) more (plain_avoids (joined next) (line_avoids next (next_line_is lines next comes))) (next_short lines next comes) e

-- the same behind lines of lists

-- the lines of settings and of lists
abbrev front : Settings → List PortPlan → List PrefixPlan → List LineFields
front s ports prefixes = setting_lines s ++ list_lines ports prefixes

-- some line comes next behind them
list_comes : (s : Settings) (ports : List PortPlan) (prefixes : List PrefixPlan) → AreSettings s → AreLists ports prefixes → (next : LineFields) × ComesNext (front s ports prefixes) next
list_comes s [] [] a l = (
  journal_port_fields the_first,
  record { version = s.version; plan = plan_by s (the_first ∷ []) []; is_plan = settings_valid s a; more = begin_line ∷ []; header = refl },
)
list_comes s [] (x ∷ prefixes) a l = let none = l.behind_port (omega arith) in absurd (omega (arith, none))
list_comes s (p ∷ ports) prefixes a l = (
  begin_line,
  record { version = s.version; plan = plan_by s (p ∷ ports) prefixes; is_plan = plan_is s (p ∷ ports) prefixes a l (omega arith); more = []; header = refl },
)

front_size : (s : Settings) (ports : List PortPlan) (prefixes : List PrefixPlan) → length (front s ports prefixes) ≡ length ports + length prefixes + 11
front_size s ports prefixes =
    let parts = length-append (map journal_port_fields ports) (map (prefix_fields address_text) prefixes) in
    let first = length-map ports journal_port_fields in
    let second = length-map prefixes (prefix_fields address_text) in
    omega (arith, parts, first, second)

-- the lines of the settings and those of the lists, one behind the other
fronts_join : (s : Settings) (ports : List PortPlan) (prefixes : List PrefixPlan) (mid : Option (List ℕ)) → in_front (lines_text (setting_lines s)) (in_front (lines_text (list_lines ports prefixes)) mid) ≡ in_front (lines_text (front s ports prefixes)) mid
fronts_join s ports prefixes mid =
    in_front_again (lines_text (setting_lines s)) (lines_text (list_lines ports prefixes)) mid
    ∙ ap (λ (t : List ℕ). in_front t mid) (sym (lines_text-append (setting_lines s) (list_lines ports prefixes)))

bad_front : (s : Settings) (ports : List PortPlan) (prefixes : List PrefixPlan) (whole mid : Option (List ℕ)) → AreSettings s → AreLists ports prefixes → whole ≡ in_front (lines_text (front s ports prefixes)) mid
    → IfSome mid (λ rest. HasNoNext (front s ports prefixes) rest) → IfSome whole (λ octets. IsBadHeader octets (BadLine (length ports + length prefixes + 12)))
bad_front s ports prefixes whole None a l told none = rw told tt
bad_front s ports prefixes whole (Some rest) a l told none =
    let some = list_comes s ports prefixes a l in
    let size = front_size s ports prefixes in
    rw told (
      length ports + length prefixes + 12,
      record { lines = front s ports prefixes; rest = rest; next = some.0; begins = some.1; text = refl; none = none; number = omega (arith, size) },
      refl,
    )

-- the line behind those of the lists is bad, whatever the settings in front are
pub bad_list : (ports : List PortPlan) (prefixes : List PrefixPlan) (before mid : Option (List ℕ)) → AreLists ports prefixes → before ≡ in_front (lines_text (list_lines ports prefixes)) mid
    → ((s : Settings) → IfSome mid (λ rest. HasNoNext (front s ports prefixes) rest))
    → (s : Settings) → AreSettings s → IfSome (in_front (lines_text (setting_lines s)) before) (λ octets. IsBadHeader octets (BadLine (length ports + length prefixes + 12)))
bad_list ports prefixes before mid l told none s a =
    bad_front s ports prefixes (in_front (lines_text (setting_lines s)) before) mid a l (ap (in_front (lines_text (setting_lines s))) told ∙ fronts_join s ports prefixes mid) (none s)

-- the line that was taken is none that comes next
pub none_listed : (s : Settings) (ports : List PortPlan) (prefixes : List PrefixPlan) (line : List ℕ) (mid after : Option (List ℕ)) → HasNoFeed line → AreLists ports prefixes → IsNotListed ports prefixes line
    → mid ≡ in_front (line ++ 10 ∷ []) after → IfSome mid (λ rest. HasNoNext (front s ports prefixes) rest)
none_listed s ports prefixes line mid after plain l not taken = taken_not (front s ports prefixes) line mid after plain (not_listed s ports prefixes line l not) taken

-- one line more of the lists was taken
pub list_more : (line : List ℕ) (ports : List PortPlan) (prefixes : List PrefixPlan) (ports' : List PortPlan) (prefixes' : List PrefixPlan) (whole mid after : Option (List ℕ))
    → whole ≡ in_front (lines_text (list_lines ports prefixes)) mid → mid ≡ in_front (line ++ 10 ∷ []) after → IsListed line ports prefixes ports' prefixes'
    → whole ≡ in_front (lines_text (list_lines ports' prefixes')) after
list_more line ports prefixes ports' prefixes' whole mid after told taken listed =
    one_line_more line (list_lines ports prefixes) listed.next whole mid after told taken listed.text
    ∙ ap (λ (ls : List LineFields). in_front (lines_text ls) after) (sym listed.one_more)

-- the whole header was taken
pub told_header : (s : Settings) (ports : List PortPlan) (prefixes : List PrefixPlan) (whole mid after : Option (List ℕ)) → whole ≡ in_front (lines_text (setting_lines s)) mid
    → mid ≡ in_front (lines_text (list_lines ports prefixes ++ begin_line ∷ [])) after → whole ≡ in_front (head_text s.version (plan_by s ports prefixes)) after
told_header s ports prefixes whole mid after first second =
    let lists = list_lines ports prefixes ++ begin_line ∷ [] in
    first ∙ ap (in_front (lines_text (setting_lines s))) second ∙ in_front_again (lines_text (setting_lines s)) (lines_text lists) after
    ∙ ap (λ (t : List ℕ). in_front t after) (sym (lines_text-append (setting_lines s) lists))

-- nothing of the lists was taken yet
pub none_told : (ports : List PortPlan) (prefixes : List PrefixPlan) (o : Option (List ℕ)) → ports ≡ [] → prefixes ≡ [] → o ≡ in_front (lines_text (list_lines ports prefixes)) o
none_told ports prefixes o none none' =
    sym (ap (λ (ps : List PortPlan). in_front (lines_text (list_lines ps prefixes)) o) none ∙ ap (λ (xs : List PrefixPlan). in_front (lines_text (list_lines [] xs)) o) none' ∙ in_front_none o)

-- what was read when `begin` was taken
abbrev IsWhole : List PortPlan → List PrefixPlan → Option (List ℕ) → Option (List ℕ) → Type 0
IsWhole ports prefixes whole after =
    AreLists ports prefixes × (0 < length ports) × (whole ≡ in_front (lines_text (list_lines ports prefixes ++ begin_line ∷ [])) after)

pub all_taken : (line : List ℕ) (ports : List PortPlan) (prefixes : List PrefixPlan) (ports' : List PortPlan) (prefixes' : List PrefixPlan) (whole mid after : Option (List ℕ)) → AreLists ports prefixes
    → whole ≡ in_front (lines_text (list_lines ports prefixes)) mid → mid ≡ in_front (line ++ 10 ∷ []) after
    → (0 < length ports) × (line ≡ joined begin_line) × (ports' ≡ ports) × (prefixes' ≡ prefixes)
    → AreLists ports' prefixes' × (0 < length ports') × (whole ≡ in_front (lines_text (list_lines ports' prefixes' ++ begin_line ∷ [])) after)
all_taken line ports prefixes ports' prefixes' whole mid after are told taken begun =
    subst (λ (ps : List PortPlan). IsWhole ps prefixes' whole after) (sym begun.2)
    (subst (λ (xs : List PrefixPlan). IsWhole ports xs whole after) (sym begun.3) (are, begun.0, one_line_more line (list_lines ports prefixes) begin_line whole mid after told taken begun.1))

-- the number of the line behind lists that are the same
pub same_number : (ports : List PortPlan) (prefixes : List PrefixPlan) (ports' : List PortPlan) (prefixes' : List PrefixPlan) → ports' ≡ ports → prefixes' ≡ prefixes
    → length ports' + length prefixes' + 12 ≡ length ports + length prefixes + 12
same_number ports prefixes ports' prefixes' same same' =
    ap (λ (ps : List PortPlan). length ps + length prefixes' + 12) same ∙ ap (λ (xs : List PrefixPlan). length ports + length xs + 12) same'

told_bad : (answer : Checked) (s : Settings) (whole mid : Option (List ℕ)) → AreSettings s → whole ≡ in_front (lines_text (setting_lines s)) mid
    → ((s' : Settings) → AreSettings s' → IfSome (in_front (lines_text (setting_lines s')) mid) (λ octets. IsBadHeader octets answer)) → IfSome whole (λ octets. IsBadHeader octets answer)
told_bad answer s whole mid a told bad = subst (λ (o : Option (List ℕ)). IfSome o (λ octets. IsBadHeader octets answer)) (sym told) (bad s a)

-- what is bad behind any settings is bad behind these
pub bad_lists : (answer : Checked) (s : Settings) (whole mid : Option (List ℕ)) → AreSettings s → whole ≡ in_front (lines_text (setting_lines s)) mid
    → IfRead answer ((s' : Settings) → AreSettings s' → IfSome (in_front (lines_text (setting_lines s')) mid) (λ octets. IsBadHeader octets answer)) → IfRead answer (IfSome whole (λ octets. IsBadHeader octets answer))
bad_lists (Good entries) s whole mid a told bad = told_bad (Good entries) s whole mid a told bad
bad_lists (Wrong entry want have) s whole mid a told bad = told_bad (Wrong entry want have) s whole mid a told bad
bad_lists (BadLine n) s whole mid a told bad = told_bad (BadLine n) s whole mid a told bad
bad_lists Failed s whole mid a told bad = tt
bad_lists NoMemory s whole mid a told bad = tt
