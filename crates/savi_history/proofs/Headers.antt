-- The header of a journal tells the plan but for its names.
use Rattle.std.proofs.Common.{◌≡◌, ◌==◌, ℕ, ◌^◌, ◌<◌, ◌≤◌, Bool, false, List, [], ◌∷◌, ◌++◌, map, decimal, codes, None, refl, ap, sym, ◌∙◌, arith, append_assoc, All}
use Rattle.std.proofs.lemmas.Fmt.{decimal_injective}
use Rattle.std.proofs.lemmas.List.Elements.{All-head, All-tail}
use Rattle.savi_kinds.specs.declared.port.Port.{Port}
use Rattle.savi_kinds.specs.declared.plan.Plan.{Plan}
use Rattle.savi_kinds.specs.declared.plan.PortPlan.{PortPlan}
use Rattle.savi_kinds.specs.declared.plan.PrefixPlan.{PrefixPlan}
use Rattle.savi_kinds.specs.declared.plan.Role.{Role}
use Rattle.savi_kinds.specs.declared.plan.Method.{Method}
use Rattle.savi_kinds.specs.declared.plan.Format.{Format}
use Rattle.savi_kinds.specs.declared.plan.Vlan.{Vlan}
use Rattle.savi_kinds.specs.declared.address.Mac.{Mac}
use Rattle.savi_kinds.specs.declared.address.Prefix.{Prefix}
use Rattle.savi_kinds.specs.MacText.{mac_text}
use Rattle.savi_kinds.specs.Prefixes.{first_of}
use Rattle.savi_kinds.specs.ValidPlan.{IsValidPlan, HasPlanVlans, IsPlanPrefix, nets_of}
use Rattle.savi_kinds.specs.Vlans.{IsVlan}
use Rattle.hist_store.specs.PortTexts.{port_text}
use Rattle.savi_kinds.specs.PlanWords.{role_word, method_word, format_word}
use Rattle.hist_store.specs.declared.version.Version.{Version}
use Rattle.hist_store.specs.JournalTexts.{prefix_text_by, journal_port_fields, prefix_fields, word_lines, limit_lines, time_lines, begin_line, header_lines}
use Rattle.hist_store.specs.VlanTexts.{port_vlan_fields, vlan_fields}
use Rattle.savi_history.specs.Journals.{without_port_names, without_names, IsAddress, IsAddressText}
use Rattle.hist_store.proofs.Words.{avoids_all, parted}
use Rattle.hist_store.proofs.HeaderSizes.{seconds_bound}
use Rattle.hist_store.proofs.OnePort.{first_apart, port_by_text}
use Rattle.hist_store.proofs.VlanLines.{vlan_once, port_vlans_by}
use Rattle.savi_history.proofs.OneValue.{mac_by_text, role_by_text, method_by_text, format_by_text, switch_by_text}

abbrev Line : Type 0
Line = List (List ℕ)

-- lines of which the first ones are the same in form

value_line : {name a b : List ℕ} {ls ms : List Line} → (name ∷ a ∷ []) ∷ ls ≡ (name ∷ b ∷ []) ∷ ms → (a ≡ b) × (ls ≡ ms)
value_line {name} {a} {b} {ls} {ms} e = let value : a ≡ b = cc in let rest : ls ≡ ms = cc in (value, rest)

-- the same of a line of a port, with its VLANs behind the other fields
record IsSamePort (a b c a' b' c' : List ℕ) (vlans vlans' : Line) (ls ms : List Line) : Type 0 where
  first : a ≡ a'
  second : b ≡ b'
  third : c ≡ c'
  vlans_are : vlans ≡ vlans'
  rest : ls ≡ ms

port_line : {name a b c a' b' c' : List ℕ} {vlans vlans' : Line} {ls ms : List Line} → (name ∷ a ∷ b ∷ c ∷ vlans) ∷ ls ≡ (name ∷ a' ∷ b' ∷ c' ∷ vlans') ∷ ms → IsSamePort a b c a' b' c' vlans vlans' ls ms
port_line e = record { first = cc; second = cc; third = cc; vlans_are = cc; rest = cc }

-- and of a line of a prefix
record IsSamePrefix (a b a' b' : List ℕ) (vlan vlan' : Line) (ls ms : List Line) : Type 0 where
  first : a ≡ a'
  second : b ≡ b'
  vlan_is : vlan ≡ vlan'
  rest : ls ≡ ms

prefix_line : {name a b a' b' : List ℕ} {vlan vlan' : Line} {ls ms : List Line} → (name ∷ a ∷ b ∷ vlan) ∷ ls ≡ (name ∷ a' ∷ b' ∷ vlan') ∷ ms → IsSamePrefix a b a' b' vlan vlan' ls ms
prefix_line e = record { first = cc; second = cc; vlan_is = cc; rest = cc }

field_apart : {s t : List ℕ} {l m : Line} {ls ms : List Line} → (s ∷ l) ∷ ls ≡ (t ∷ m) ∷ ms → s ≡ t
field_apart e = cc

pub second_apart : {z x y : ℕ} {s t : List ℕ} → z ∷ x ∷ s ≡ z ∷ y ∷ t → (x == y) ≡ false → ⊥
second_apart {z} {x} {y} {s} {t} e other = let tails : x ∷ s ≡ y ∷ t = cc in first_apart tails other

-- ports

abbrev the_port_plan : Port → Role → Format → Vlan → PortPlan
the_port_plan number role format vlan = record { number = number; role = role; format = format; input = []; output = []; vlan = vlan }

port_plan_same : (p q : PortPlan) → HasPlanVlans p → HasPlanVlans q → port_text p.number ≡ port_text q.number → role_word p.role ≡ role_word q.role → format_word p.format ≡ format_word q.format → port_vlan_fields p.vlan ≡ port_vlan_fields q.vlan
    → without_port_names p ≡ without_port_names q
port_plan_same p q vp vq number role format vlans =
    ap (λ (n : Port). the_port_plan n p.role p.format p.vlan) (port_by_text p.number q.number number)
    ∙ ap (λ (r : Role). the_port_plan q.number r p.format p.vlan) (role_by_text p.role q.role role)
    ∙ ap (λ (f : Format). the_port_plan q.number q.role f p.vlan) (format_by_text p.format q.format format)
    ∙ ap (λ (v : Vlan). the_port_plan q.number q.role q.format v) (port_vlans_by p.vlan q.vlan vp.numbers vq.numbers (omega (arith, vp.some)) (omega (arith, vq.some)) vlans)

module _ (address_text : ℕ → List ℕ) (is : IsAddressText address_text) where
  -- the lines behind the ports
  abbrev behind : List PrefixPlan → List Line → List Line
  behind xs es = map (prefix_fields address_text) xs ++ (begin_line ∷ es)

  no_port : (q : PortPlan) (xs : List PrefixPlan) (es ls : List Line) → behind xs es ≡ journal_port_fields q ∷ ls → ⊥
  no_port q [] es ls e = first_apart (field_apart e) refl
  no_port q (x ∷ xs) es ls e = second_apart (field_apart e) refl

  same_ports : (ps qs : List PortPlan) (xs ys : List PrefixPlan) (es fs : List Line) → All HasPlanVlans ps → All HasPlanVlans qs → map journal_port_fields ps ++ behind xs es ≡ map journal_port_fields qs ++ behind ys fs
      → (map without_port_names ps ≡ map without_port_names qs) × (behind xs es ≡ behind ys fs)
  same_ports [] [] xs ys es fs vp vq e = (refl, e)
  same_ports [] (q ∷ qs) xs ys es fs vp vq e = absurd (no_port q xs es (map journal_port_fields qs ++ behind ys fs) e)
  same_ports (p ∷ ps) [] xs ys es fs vp vq e = absurd (no_port p ys fs (map journal_port_fields ps ++ behind xs es) (sym e))
  same_ports (p ∷ ps) (q ∷ qs) xs ys es fs vp vq e =
      let line = port_line e in
      let first : without_port_names p ≡ without_port_names q = port_plan_same p q (All-head HasPlanVlans p ps vp) (All-head HasPlanVlans q qs vq) line.first line.second line.third line.vlans_are in
      let more = same_ports ps qs xs ys es fs (All-tail HasPlanVlans p ps vp) (All-tail HasPlanVlans q qs vq) line.rest in
      (cc (first, more.0), more.1)

  -- prefixes

  abbrev the_prefix_plan : ℕ → ℕ → Method → ℕ → PrefixPlan
  the_prefix_plan net len method vlan = record { prefix = record { net = record { 0 = net }; len = len }; method = method; vlan = vlan }

  prefix_same : (x y : PrefixPlan) → IsPlanPrefix x.prefix → IsPlanPrefix y.prefix → IsAddress (first_of x.prefix) → IsAddress (first_of y.prefix) → IsVlan x.vlan → IsVlan y.vlan
      → prefix_text_by address_text x.prefix ≡ prefix_text_by address_text y.prefix → method_word x.method ≡ method_word y.method → vlan_fields x.vlan ≡ vlan_fields y.vlan → x ≡ y
  prefix_same x y hx hy ax ay vx vy text method vlan =
      let net = x.prefix.net.0 in
      let net' = y.prefix.net.0 in
      let moved : address_text net ++ 47 ∷ decimal x.prefix.len ≡ address_text net' ++ 47 ∷ decimal y.prefix.len =
      sym (append_assoc (address_text net) (47 ∷ []) (decimal x.prefix.len)) ∙ text ∙ append_assoc (address_text net') (47 ∷ []) (decimal y.prefix.len) in
      let parts = parted 47 (address_text net) (address_text net') (decimal x.prefix.len) (decimal y.prefix.len)
      (avoids_all 47 (address_text net) (is.no_slash net)) (avoids_all 47 (address_text net') (is.no_slash net')) moved in
      let nets : net ≡ net' = is.one_address net net' ax ay parts.0 in
      let low : x.prefix.len ≤ 128 = hx.prefix.long in
      let low' : y.prefix.len ≤ 128 = hy.prefix.long in
      let lens : x.prefix.len ≡ y.prefix.len = decimal_injective x.prefix.len y.prefix.len (omega (arith, low)) (omega (arith, low')) parts.1 in
      ap (λ (n : ℕ). the_prefix_plan n x.prefix.len x.method x.vlan) nets
      ∙ ap (λ (n : ℕ). the_prefix_plan net' n x.method x.vlan) lens
      ∙ ap (λ (m : Method). the_prefix_plan net' y.prefix.len m x.vlan) (method_by_text x.method y.method method)
      ∙ ap (λ (v : ℕ). the_prefix_plan net' y.prefix.len y.method v) (vlan_once x.vlan y.vlan vx vy vlan)

  same_prefixes : (xs ys : List PrefixPlan) (es fs : List Line) → All IsPlanPrefix (nets_of xs) → All IsPlanPrefix (nets_of ys)
      → All (λ net. IsAddress (first_of net)) (nets_of xs) → All (λ net. IsAddress (first_of net)) (nets_of ys)
      → All (λ (p : PrefixPlan). IsVlan p.vlan) xs → All (λ (p : PrefixPlan). IsVlan p.vlan) ys
      → behind xs es ≡ behind ys fs → (xs ≡ ys) × (es ≡ fs)
  same_prefixes [] [] es fs hx hy ax ay vx vy e = let rest : es ≡ fs = cc in (refl, rest)
  same_prefixes [] (y ∷ ys) es fs hx hy ax ay vx vy e = absurd (first_apart (field_apart e) refl)
  same_prefixes (x ∷ xs) [] es fs hx hy ax ay vx vy e = absurd (first_apart (field_apart e) refl)
  same_prefixes (x ∷ xs) (y ∷ ys) es fs hx hy ax ay vx vy e =
      let within = λ (net : Prefix). IsAddress (first_of net) in
      let in_vlan = λ (p : PrefixPlan). IsVlan p.vlan in
      let line = prefix_line e in
      let first : x ≡ y = prefix_same x y (All-head IsPlanPrefix x.prefix (nets_of xs) hx) (All-head IsPlanPrefix y.prefix (nets_of ys) hy)
      (All-head within x.prefix (nets_of xs) ax) (All-head within y.prefix (nets_of ys) ay) (All-head in_vlan x xs vx) (All-head in_vlan y ys vy) line.first line.second line.vlan_is in
      let more = same_prefixes xs ys es fs (All-tail IsPlanPrefix x.prefix (nets_of xs) hx) (All-tail IsPlanPrefix y.prefix (nets_of ys) hy)
      (All-tail within x.prefix (nets_of xs) ax) (All-tail within y.prefix (nets_of ys) ay) (All-tail in_vlan x xs vx) (All-tail in_vlan y ys vy) line.rest in
      (cc (first, more.0), more.1)

  -- the whole header

  -- what is behind the header's lines of one value each
  abbrev behind_settings : Plan → List Line → List Line
  behind_settings plan es = map journal_port_fields plan.ports ++ behind plan.prefixes es

  regrouped : (w l t p x e : List Line) → w ++ l ++ t ++ p ++ x ++ e ≡ w ++ (l ++ (t ++ (p ++ (x ++ e))))
  regrouped w l t p x e = simp append_assoc

  in_order : (version : Version) (plan : Plan) (es : List Line) → header_lines version address_text plan ++ begin_line ∷ es ≡ word_lines version plan ++ (limit_lines plan ++ (time_lines plan ++ behind_settings plan es))
  in_order version plan es = regrouped (word_lines version plan) (limit_lines plan) (time_lines plan) (map journal_port_fields plan.ports) (map (prefix_fields address_text) plan.prefixes) (begin_line ∷ es)

  -- the values of the settings are the same
  record IsSameSettings (plan plan' : Plan) (es fs : List Line) : Type 0 where
    mac : mac_text plan.mac ≡ mac_text plan'.mac
    savi : plan.savi ≡ plan'.savi
    unknown : plan.drop_unknown ≡ plan'.drop_unknown
    per_port : decimal plan.per_port ≡ decimal plan'.per_port
    depth : decimal plan.depth ≡ decimal plan'.depth
    entries : decimal plan.entries ≡ decimal plan'.entries
    bytes : decimal plan.bytes ≡ decimal plan'.bytes
    gap : decimal plan.gap ≡ decimal plan'.gap
    test : decimal plan.test ≡ decimal plan'.test
    life : decimal plan.life ≡ decimal plan'.life
    rest : behind_settings plan es ≡ behind_settings plan' fs

  same_settings : (version version' : Version) (plan plan' : Plan) (es fs : List Line) → header_lines version address_text plan ++ begin_line ∷ es ≡ header_lines version' address_text plan' ++ begin_line ∷ fs
      → IsSameSettings plan plan' es fs
  same_settings version version' plan plan' es fs e =
      let lines = sym (in_order version plan es) ∙ e ∙ in_order version' plan' fs in
      let first = value_line lines in
      let mac = value_line first.1 in
      let savi = value_line mac.1 in
      let unknown = value_line savi.1 in
      let per_port = value_line unknown.1 in
      let depth = value_line per_port.1 in
      let entries = value_line depth.1 in
      let bytes = value_line entries.1 in
      let gap = value_line bytes.1 in
      let test = value_line gap.1 in
      let life = value_line test.1 in
      record {
        mac = mac.0;
        savi = switch_by_text plan.savi plan'.savi (codes "on") (codes "off") (λ same. second_apart same refl) savi.0;
        unknown = switch_by_text plan.drop_unknown plan'.drop_unknown (codes "drop") (codes "pass") (λ same. first_apart same refl) unknown.0;
        per_port = per_port.0;
        depth = depth.0;
        entries = entries.0;
        bytes = bytes.0;
        gap = gap.0;
        test = test.0;
        life = life.0;
        rest = life.1;
      }

number_same : (m n bound : ℕ) → m ≤ bound → n ≤ bound → bound < 2 ^ 64 → decimal m ≡ decimal n → m ≡ n
number_same m n bound low low' small text = decimal_injective m n (omega (arith, low, low', small)) (omega (arith, low, low', small)) text

life_bound : (plan : Plan) → IsValidPlan plan → plan.life ≤ 86400000
life_bound plan valid = seconds_bound plan.life valid.life.0 valid.life.1 valid.life.2.1

-- the numbers of a plan
record IsSameNumbers (plan plan' : Plan) : Type 0 where
  per_port : plan.per_port ≡ plan'.per_port
  depth : plan.depth ≡ plan'.depth
  entries : plan.entries ≡ plan'.entries
  bytes : plan.bytes ≡ plan'.bytes
  gap : plan.gap ≡ plan'.gap
  test : plan.test ≡ plan'.test
  life : plan.life ≡ plan'.life

abbrev the_plan : Mac → Bool → Bool → ℕ → ℕ → ℕ → ℕ → ℕ → ℕ → ℕ → List PortPlan → List PrefixPlan → Plan
the_plan mac savi unknown per_port depth entries bytes gap test life ports prefixes = record {
  mac = mac;
  savi = savi;
  drop_unknown = unknown;
  per_port = per_port;
  depth = depth;
  entries = entries;
  bytes = bytes;
  gap = gap;
  test = test;
  life = life;
  control = None;
  journal = [];
  ports = ports;
  prefixes = prefixes;
}

same_plan : (plan plan' : Plan) → plan.mac ≡ plan'.mac → plan.savi ≡ plan'.savi → plan.drop_unknown ≡ plan'.drop_unknown → IsSameNumbers plan plan'
    → map without_port_names plan.ports ≡ map without_port_names plan'.ports → plan.prefixes ≡ plan'.prefixes → without_names plan ≡ without_names plan'
same_plan plan plan' mac savi unknown numbers ports prefixes =
    let ps = map without_port_names plan.ports in
    let xs = plan.prefixes in
    ap (λ (v : Mac). the_plan v plan.savi plan.drop_unknown plan.per_port plan.depth plan.entries plan.bytes plan.gap plan.test plan.life ps xs) mac
    ∙ ap (λ (v : Bool). the_plan plan'.mac v plan.drop_unknown plan.per_port plan.depth plan.entries plan.bytes plan.gap plan.test plan.life ps xs) savi
    ∙ ap (λ (v : Bool). the_plan plan'.mac plan'.savi v plan.per_port plan.depth plan.entries plan.bytes plan.gap plan.test plan.life ps xs) unknown
    ∙ ap (λ (v : ℕ). the_plan plan'.mac plan'.savi plan'.drop_unknown v plan.depth plan.entries plan.bytes plan.gap plan.test plan.life ps xs) numbers.per_port
    ∙ ap (λ (v : ℕ). the_plan plan'.mac plan'.savi plan'.drop_unknown plan'.per_port v plan.entries plan.bytes plan.gap plan.test plan.life ps xs) numbers.depth
    ∙ ap (λ (v : ℕ). the_plan plan'.mac plan'.savi plan'.drop_unknown plan'.per_port plan'.depth v plan.bytes plan.gap plan.test plan.life ps xs) numbers.entries
    ∙ ap (λ (v : ℕ). the_plan plan'.mac plan'.savi plan'.drop_unknown plan'.per_port plan'.depth plan'.entries v plan.gap plan.test plan.life ps xs) numbers.bytes
    ∙ ap (λ (v : ℕ). the_plan plan'.mac plan'.savi plan'.drop_unknown plan'.per_port plan'.depth plan'.entries plan'.bytes v plan.test plan.life ps xs) numbers.gap
    ∙ ap (λ (v : ℕ). the_plan plan'.mac plan'.savi plan'.drop_unknown plan'.per_port plan'.depth plan'.entries plan'.bytes plan'.gap v plan.life ps xs) numbers.test
    ∙ ap (λ (v : ℕ). the_plan plan'.mac plan'.savi plan'.drop_unknown plan'.per_port plan'.depth plan'.entries plan'.bytes plan'.gap plan'.test v ps xs) numbers.life
    ∙ ap (λ (v : List PortPlan). the_plan plan'.mac plan'.savi plan'.drop_unknown plan'.per_port plan'.depth plan'.entries plan'.bytes plan'.gap plan'.test plan'.life v xs) ports
    ∙ ap (λ (v : List PrefixPlan). the_plan plan'.mac plan'.savi plan'.drop_unknown plan'.per_port plan'.depth plan'.entries plan'.bytes plan'.gap plan'.test plan'.life (map without_port_names plan'.ports) v) prefixes

same_numbers : (address_text : ℕ → List ℕ) (is : IsAddressText address_text) (plan plan' : Plan) (es fs : List Line) → IsValidPlan plan → IsValidPlan plan' → IsSameSettings address_text is plan plan' es fs → IsSameNumbers plan plan'
same_numbers address_text is plan plan' es fs valid valid' same = record {
  per_port = number_same plan.per_port plan'.per_port 64 valid.per_port.1 valid'.per_port.1 (omega arith) same.per_port;
  depth = number_same plan.depth plan'.depth 256 valid.depth.1 valid'.depth.1 (omega arith) same.depth;
  entries = number_same plan.entries plan'.entries 1000000 valid.entries.1 valid'.entries.1 (omega arith) same.entries;
  bytes = number_same plan.bytes plan'.bytes 1073741824 valid.bytes.1 valid'.bytes.1 (omega arith) same.bytes;
  gap = number_same plan.gap plan'.gap 59999 valid.gap.1 valid'.gap.1 (omega arith) same.gap;
  test = number_same plan.test plan'.test 60000 valid.test.1 valid'.test.1 (omega arith) same.test;
  life = number_same plan.life plan'.life 86400000 (life_bound plan valid) (life_bound plan' valid') (omega arith) same.life;
}

-- two headers with what follows them, `begin` first, in whichever versions: the plans are the same but for names, and so is
-- what follows
pub header_by_lines : (address_text : ℕ → List ℕ) → IsAddressText address_text → (version version' : Version) (plan plan' : Plan) (es fs : List Line) → IsValidPlan plan → IsValidPlan plan'
    → All (λ net. IsAddress (first_of net)) (nets_of plan.prefixes) → All (λ net. IsAddress (first_of net)) (nets_of plan'.prefixes)
    → header_lines version address_text plan ++ begin_line ∷ es ≡ header_lines version' address_text plan' ++ begin_line ∷ fs → (without_names plan ≡ without_names plan') × (es ≡ fs)
header_by_lines address_text is version version' plan plan' es fs valid valid' within within' e =
    let same = same_settings address_text is version version' plan plan' es fs e in
    let ports = same_ports address_text is plan.ports plan'.ports plan.prefixes plan'.prefixes es fs valid.port_vlans valid'.port_vlans same.rest in
    let prefixes = same_prefixes address_text is plan.prefixes plan'.prefixes es fs valid.plan_prefixes valid'.plan_prefixes within within' valid.prefix_vlans valid'.prefix_vlans ports.1 in
    let numbers = same_numbers address_text is plan plan' es fs valid valid' same in
    (same_plan plan plan' (mac_by_text plan.mac plan'.mac same.mac) same.savi same.unknown numbers ports.0 prefixes.0, prefixes.1)
