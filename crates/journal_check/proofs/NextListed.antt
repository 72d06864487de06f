-- Which line comes next behind those of ports and prefixes, in the header of a plan.
use Rattle.std.proofs.Common.{◌≡◌, ◌≢◌, ◌⊎◌, ◌<◌, ◌≤◌, ℕ, List, [], ◌∷◌, ◌++◌, length, map, drop, All, refl, ap, ap₂, sym, ◌∙◌, inl, inr, subst, arith, append_assoc, length-append}
use Rattle.std.specs.BTreeSet.{insert_key}
use Rattle.std.specs.List.{AllPairs, flat_map, fold}
use Rattle.std.specs.Ordering.{nat_cmp}
use Rattle.std.specs.List.Sorted.{IsStrictlyIncreasing}
use Rattle.std.proofs.lemmas.List.{get_or_at, map-append}
use Rattle.std.proofs.lemmas.List.Elements.{All-head, All-tail}
use Rattle.savi_kinds.specs.declared.plan.Plan.{Plan}
use Rattle.savi_kinds.specs.declared.plan.PortPlan.{PortPlan}
use Rattle.savi_kinds.specs.declared.plan.PrefixPlan.{PrefixPlan}
use Rattle.savi_kinds.specs.declared.plan.Method.{Method}
use Rattle.savi_kinds.specs.declared.plan.Vlan.{Vlan}
use Rattle.savi_kinds.specs.declared.address.Prefix.{Prefix}
use Rattle.savi_kinds.specs.Ports.{number_of}
use Rattle.savi_kinds.specs.Prefixes.{IsPrefix, first_of}
use Rattle.savi_kinds.specs.ValidPlan.{HasPlanVlans, IsPlanPrefix, StandsBefore, nets_of, numbers_of}
use Rattle.savi_kinds.specs.Vlans.{IsVlan, numbers_of_vlan, vlans_of_ports}
use Rattle.savi_kinds.proofs.AddrWritten.{written_prefix}
use Rattle.savi_kinds.proofs.VlanSets.{vlans_by}
use Rattle.hist_store.specs.TextOfLines.{joined}
use Rattle.hist_store.specs.JournalTexts.{address_text, begin_line, journal_port_fields, prefix_fields, prefix_text_by}
use Rattle.hist_store.specs.VlanTexts.{vlan_fields}
use Rattle.hist_store.proofs.HeaderRead.{prefix_read, the_plan}
use Rattle.hist_store.proofs.OnePort.{first_apart, port_by_text}
use Rattle.hist_store.proofs.Rising.{above_of}
use Rattle.hist_store.proofs.VlanLines.{port_vlans_by, vlan_once}
use Rattle.savi_history.specs.Journals.{IsAddress}
use Rattle.savi_history.proofs.Headers.{second_apart}
use Rattle.savi_history.proofs.OneValue.{method_by_text}
use Rattle.savi_history.proofs.PortPlaces.{length-numbers}
use Rattle.journal_check.specs.declared.settings.Settings.{Settings}
use Rattle.journal_check.specs.Headers.{LineFields, ComesNext}
use Rattle.journal_check.specs.SettingLines.{setting_lines}
use Rattle.journal_check.specs.ListLines.{list_lines, AreLists, MayAddPort, MayAddPrefix, IsNotListed}
use Rattle.journal_check.proofs.FewVlans.{few_front}
use Rattle.journal_check.proofs.ListsRead.{past_at}

-- lines of which the first ones are the same in form

record AreSameFour (a b c a' b' c' : List ℕ) (l m : LineFields) (ls ms : List LineFields) : Type 0 where
  first : a ≡ a'
  last : l ≡ m
  rest : ls ≡ ms

four_same : {name a b c a' b' c' : List ℕ} {l m : LineFields} {ls ms : List LineFields} → (name ∷ a ∷ b ∷ c ∷ l) ∷ ls ≡ (name ∷ a' ∷ b' ∷ c' ∷ m) ∷ ms → AreSameFour a b c a' b' c' l m ls ms
four_same e = record { first = cc; last = cc; rest = cc }

record AreSameTwo (a b a' b' : List ℕ) (l m : LineFields) (ls ms : List LineFields) : Type 0 where
  first : a ≡ a'
  second : b ≡ b'
  last : l ≡ m
  rest : ls ≡ ms

three_same : {name a b a' b' : List ℕ} {l m : LineFields} {ls ms : List LineFields} → (name ∷ a ∷ b ∷ l) ∷ ls ≡ (name ∷ a' ∷ b' ∷ m) ∷ ms → AreSameTwo a b a' b' l m ls ms
three_same e = record { first = cc; second = cc; last = cc; rest = cc }

field_same : {s t : List ℕ} {l m : LineFields} {ls ms : List LineFields} → (s ∷ l) ∷ ls ≡ (t ∷ m) ∷ ms → s ≡ t
field_same e = cc

-- ports

abbrev vlans_in : List PortPlan → List Vlan
vlans_in ports = map (λ p. p.vlan) ports

-- the VLANs of ports go by the VLANs of each alone: those of a front and of one port more are no more than those of all
few_with : (qs ps later : List PortPlan) (next : PortPlan) → length (vlans_of_ports qs) ≤ 8 → vlans_in qs ≡ vlans_in ps ++ next.vlan ∷ vlans_in later → length (vlans_of_ports (ps ++ next ∷ [])) ≤ 8
few_with qs ps later next few same =
    let whole : List PortPlan = ps ++ next ∷ later in
    let vlans : vlans_in qs ≡ vlans_in whole = same ∙ sym (map-append (λ (p : PortPlan). p.vlan) ps (next ∷ later)) in
    let all : vlans_of_ports qs ≡ vlans_of_ports whole =
    vlans_by qs ∙ ap (λ (vs : List Vlan). fold (insert_key nat_cmp) [] (flat_map numbers_of_vlan vs)) vlans ∙ sym (vlans_by whole) in
    let parted : (ps ++ next ∷ []) ++ later ≡ whole = append_assoc ps (next ∷ []) later in
    let front = few_front (ps ++ next ∷ []) later in
    omega (arith, few, ap length all, front, ap (λ (ports : List PortPlan). length (vlans_of_ports ports)) parted)

-- no line of a port comes first
abbrev HasNoPort : List LineFields → Type 0
HasNoPort rest = (p : PortPlan) (ls : List LineFields) → rest ≡ journal_port_fields p ∷ ls → ⊥

-- the ports of the plan have the numbers and VLANs of these
record ArePorts (qs ps : List PortPlan) (rest mid : List LineFields) : Type 0 where
  numbers : numbers_of qs ≡ numbers_of ps
  vlans : vlans_in qs ≡ vlans_in ps
  rest_is : rest ≡ mid

-- the plan has more ports than these
record AreMorePorts (qs ps : List PortPlan) (rest mid : List LineFields) : Type 0 where
  next : PortPlan
  later : List PortPlan
  numbers : numbers_of qs ≡ numbers_of ps ++ number_of next.number ∷ numbers_of later
  vlans : vlans_in qs ≡ vlans_in ps ++ next.vlan ∷ vlans_in later
  has : HasPlanVlans next
  mid_is : mid ≡ journal_port_fields next ∷ (map journal_port_fields later ++ rest)

ports_more : (q p : PortPlan) (qs ps : List PortPlan) (rest mid : List LineFields) → number_of q.number ≡ number_of p.number → q.vlan ≡ p.vlan
    → ArePorts qs ps rest mid ⊎ AreMorePorts qs ps rest mid → ArePorts (q ∷ qs) (p ∷ ps) rest mid ⊎ AreMorePorts (q ∷ qs) (p ∷ ps) rest mid
ports_more q p qs ps rest mid same same' (inl all) =
    inl (record {
      numbers = ap₂ (λ (n : ℕ) (ns : List ℕ). n ∷ ns) same all.numbers;
      vlans = ap₂ (λ (v : Vlan) (vs : List Vlan). v ∷ vs) same' all.vlans;
      rest_is = all.rest_is;
    })
ports_more q p qs ps rest mid same same' (inr more) =
    inr (record {
      next = more.next;
      later = more.later;
      numbers = ap₂ (λ (n : ℕ) (ns : List ℕ). n ∷ ns) same more.numbers;
      vlans = ap₂ (λ (v : Vlan) (vs : List Vlan). v ∷ vs) same' more.vlans;
      has = more.has;
      mid_is = more.mid_is;
    })

ports_behind : (qs ps : List PortPlan) (rest mid : List LineFields) → HasNoPort rest → All HasPlanVlans qs → All HasPlanVlans ps → map journal_port_fields qs ++ rest ≡ map journal_port_fields ps ++ mid
    → ArePorts qs ps rest mid ⊎ AreMorePorts qs ps rest mid
ports_behind [] [] rest mid none has has' e = inl (record { numbers = refl; vlans = refl; rest_is = e })
ports_behind [] (p ∷ ps) rest mid none has has' e = absurd (none p (map journal_port_fields ps ++ mid) e)
ports_behind (q ∷ qs) [] rest mid none has has' e = inr (record { next = q; later = qs; numbers = refl; vlans = refl; has = All-head HasPlanVlans q qs has; mid_is = sym e })
ports_behind (q ∷ qs) (p ∷ ps) rest mid none has has' e =
    let line = four_same e in
    let first = All-head HasPlanVlans q qs has in
    let second = All-head HasPlanVlans p ps has' in
    let vlan : q.vlan ≡ p.vlan = port_vlans_by q.vlan p.vlan first.numbers second.numbers (omega (arith, first.some)) (omega (arith, second.some)) line.last in
    ports_more q p qs ps rest mid (ap number_of (port_by_text q.number p.number line.first)) vlan
    (ports_behind qs ps rest mid none (All-tail HasPlanVlans q qs has) (All-tail HasPlanVlans p ps has') line.rest)

-- prefixes

prefix_once : (x y : Prefix) → IsAddress (first_of x) → IsPrefix x → IsAddress (first_of y) → IsPrefix y → prefix_text_by address_text x ≡ prefix_text_by address_text y → x ≡ y
prefix_once x y small valid small' valid' text = prefix_read (prefix_text_by address_text x) x y small' valid' text (written_prefix x small valid)

-- prefixes that a plan may name, of 128 bits
record AreWritten (xs : List PrefixPlan) : Type 0 where
  plan_prefixes : All IsPlanPrefix (nets_of xs)
  addresses : All (λ net. IsAddress (first_of net)) (nets_of xs)
  vlans : All (λ p. IsVlan p.vlan) xs

rest_written : (x : PrefixPlan) (xs : List PrefixPlan) → AreWritten (x ∷ xs) → AreWritten xs
rest_written x xs are = record {
  plan_prefixes = All-tail IsPlanPrefix x.prefix (nets_of xs) are.plan_prefixes;
  addresses = All-tail (λ (net : Prefix). IsAddress (first_of net)) x.prefix (nets_of xs) are.addresses;
  vlans = All-tail (λ (p : PrefixPlan). IsVlan p.vlan) x xs are.vlans;
}

vlan_same : (x y : PrefixPlan) (xs ys : List PrefixPlan) → AreWritten (x ∷ xs) → AreWritten (y ∷ ys) → vlan_fields x.vlan ≡ vlan_fields y.vlan → x.vlan ≡ y.vlan
vlan_same x y xs ys are are' fields =
    let in_range : PrefixPlan → Type 0 = λ p. IsVlan p.vlan in
    vlan_once x.vlan y.vlan (All-head in_range x xs are.vlans) (All-head in_range y ys are'.vlans) fields

first_same : (x y : PrefixPlan) (xs ys : List PrefixPlan) → AreWritten (x ∷ xs) → AreWritten (y ∷ ys) → prefix_text_by address_text x.prefix ≡ prefix_text_by address_text y.prefix → x.prefix ≡ y.prefix
first_same x y xs ys are are' text =
    let within = λ (net : Prefix). IsAddress (first_of net) in
    let valid = All-head IsPlanPrefix x.prefix (nets_of xs) are.plan_prefixes in
    let valid' = All-head IsPlanPrefix y.prefix (nets_of ys) are'.plan_prefixes in
    prefix_once x.prefix y.prefix (All-head within x.prefix (nets_of xs) are.addresses) valid.prefix (All-head within y.prefix (nets_of ys) are'.addresses) valid'.prefix text

abbrev HasNoPrefix : List LineFields → Type 0
HasNoPrefix rest = (x : PrefixPlan) (ls : List LineFields) → rest ≡ prefix_fields address_text x ∷ ls → ⊥

record ArePrefixes (ys xs : List PrefixPlan) (rest mid : List LineFields) : Type 0 where
  same : ys ≡ xs
  rest_is : rest ≡ mid

record AreMorePrefixes (ys xs : List PrefixPlan) (rest mid : List LineFields) : Type 0 where
  next : PrefixPlan
  later : List PrefixPlan
  same : ys ≡ xs ++ next ∷ later
  mid_is : mid ≡ prefix_fields address_text next ∷ (map (prefix_fields address_text) later ++ rest)

prefixes_more : (y x : PrefixPlan) (ys xs : List PrefixPlan) (rest mid : List LineFields) → y ≡ x
    → ArePrefixes ys xs rest mid ⊎ AreMorePrefixes ys xs rest mid → ArePrefixes (y ∷ ys) (x ∷ xs) rest mid ⊎ AreMorePrefixes (y ∷ ys) (x ∷ xs) rest mid
prefixes_more y x ys xs rest mid same (inl all) = inl (record { same = ap₂ (λ (p : PrefixPlan) (ps : List PrefixPlan). p ∷ ps) same all.same; rest_is = all.rest_is })
prefixes_more y x ys xs rest mid same (inr more) =
    inr (record { next = more.next; later = more.later; same = ap₂ (λ (p : PrefixPlan) (ps : List PrefixPlan). p ∷ ps) same more.same; mid_is = more.mid_is })

prefixes_behind : (ys xs : List PrefixPlan) (rest mid : List LineFields) → HasNoPrefix rest → AreWritten ys → AreWritten xs
    → map (prefix_fields address_text) ys ++ rest ≡ map (prefix_fields address_text) xs ++ mid → ArePrefixes ys xs rest mid ⊎ AreMorePrefixes ys xs rest mid
prefixes_behind [] [] rest mid none are are' e = inl (record { same = refl; rest_is = e })
prefixes_behind [] (x ∷ xs) rest mid none are are' e = absurd (none x (map (prefix_fields address_text) xs ++ mid) e)
prefixes_behind (y ∷ ys) [] rest mid none are are' e = inr (record { next = y; later = ys; same = refl; mid_is = sym e })
prefixes_behind (y ∷ ys) (x ∷ xs) rest mid none are are' e =
    let line = three_same e in
    let same : y ≡ x =
    ap (λ (p : Prefix). the_plan p y.method y.vlan) (first_same y x ys xs are are' line.first)
    ∙ ap (λ (m : Method). the_plan x.prefix m y.vlan) (method_by_text y.method x.method line.second)
    ∙ ap (λ (v : ℕ). the_plan x.prefix x.method v) (vlan_same y x ys xs are are' line.last) in
    prefixes_more y x ys xs rest mid same (prefixes_behind ys xs rest mid none (rest_written y ys are) (rest_written x xs are') line.rest)

-- the line that comes next

begin_no_prefix : HasNoPrefix (begin_line ∷ [])
begin_no_prefix x ls e = first_apart (field_same e) refl

prefixes_no_port : (ys : List PrefixPlan) → HasNoPort (map (prefix_fields address_text) ys ++ begin_line ∷ [])
prefixes_no_port [] p ls e = first_apart (field_same e) refl
prefixes_no_port (y ∷ ys) p ls e = second_apart (field_same e) refl

head_line : {l m : LineFields} {ls ms : List LineFields} → l ∷ ls ≡ m ∷ ms → l ≡ m
head_line e = cc

-- a port comes next only where there is no prefix yet
port_next : (xs : List PrefixPlan) (next : LineFields) (more later : List LineFields) (q : PortPlan) → map (prefix_fields address_text) xs ++ next ∷ more ≡ journal_port_fields q ∷ later → (xs ≡ []) × (next ≡ journal_port_fields q)
port_next [] next more later q e = (refl, head_line e)
port_next (x ∷ xs) next more later q e = absurd (second_apart (field_same e) refl)

All-middle : {A : Type 0} (P : A → Type 0) (xs : List A) (x : A) (ys : List A) → All P (xs ++ x ∷ ys) → P x
All-middle P xs x ys all =
    let size = length-append xs (x ∷ ys) in
    subst P (get_or_at xs x ys x (length xs) refl) (all (length xs) x (omega (arith, size)))

-- the lines of the plan's lists
abbrev plan_lists : Plan → List LineFields
plan_lists plan = map journal_port_fields plan.ports ++ (map (prefix_fields address_text) plan.prefixes ++ begin_line ∷ [])

lists_behind : (s : Settings) (ports : List PortPlan) (prefixes : List PrefixPlan) (next : LineFields) (comes : ComesNext (setting_lines s ++ list_lines ports prefixes) next)
    → plan_lists comes.plan ≡ map journal_port_fields ports ++ (map (prefix_fields address_text) prefixes ++ next ∷ comes.more)
lists_behind s ports prefixes next comes =
    let plan = comes.plan in
    sym (append_assoc (map journal_port_fields plan.ports) (map (prefix_fields address_text) plan.prefixes) (begin_line ∷ []))
    ∙ ap (λ (lines : List LineFields). drop 11 lines) comes.header
    ∙ append_assoc (map journal_port_fields ports) (map (prefix_fields address_text) prefixes) (next ∷ comes.more)

module _ (s : Settings) (ports : List PortPlan) (prefixes : List PrefixPlan) (line : List ℕ) (next : LineFields) (comes : ComesNext (setting_lines s ++ list_lines ports prefixes) next) where
  abbrev rest : List LineFields
  rest = map (prefix_fields address_text) comes.plan.prefixes ++ begin_line ∷ []

  abbrev mid : List LineFields
  mid = map (prefix_fields address_text) prefixes ++ next ∷ comes.more

  not_port : IsNotListed ports prefixes line → AreMorePorts comes.plan.ports ports rest mid → line ≡ joined next → ⊥
  not_port none more e =
      let valid = comes.is_plan.valid in
      let port = port_next prefixes next comes.more (map journal_port_fields more.later ++ rest) more.next more.mid_is in
      let sizes = ap length more.numbers in
      let whole = length-numbers comes.plan.ports in
      let these = length-numbers ports in
      let parts = length-append (numbers_of ports) (number_of more.next.number ∷ numbers_of more.later) in
      let most = valid.port_count.1 in
      let may : MayAddPort ports prefixes more.next = record {
        few = omega (arith, sizes, whole, these, parts, most);
        no_prefix = port.0;
        above = above_of (numbers_of ports) (number_of more.next.number) (numbers_of more.later) (subst IsStrictlyIncreasing more.numbers valid.ports);
        vlans = more.has;
        vlan_count = few_with comes.plan.ports ports more.later more.next valid.vlan_count more.vlans;
      } in
      none.port more.next may (e ∙ ap joined port.1)

  not_prefix : IsNotListed ports prefixes line → 0 < length ports → AreMorePrefixes comes.plan.prefixes prefixes (begin_line ∷ []) (next ∷ comes.more) → line ≡ joined next → ⊥
  not_prefix none some more e =
      let valid = comes.is_plan.valid in
      let nets : nets_of comes.plan.prefixes ≡ nets_of prefixes ++ more.next.prefix ∷ nets_of more.later =
      ap nets_of more.same ∙ map-append (λ (p : PrefixPlan). p.prefix) prefixes (more.next ∷ more.later) in
      let sizes = ap length more.same in
      let parts = length-append prefixes (more.next ∷ more.later) in
      let most = valid.prefix_count in
      let within : Prefix → Type 0 = λ net. IsAddress (first_of net) in
      let in_range : PrefixPlan → Type 0 = λ p. IsVlan p.vlan in
      let plan_prefixes = subst (λ (ns : List Prefix). All IsPlanPrefix ns) nets valid.plan_prefixes in
      let addresses = subst (λ (ns : List Prefix). All within ns) nets comes.is_plan.addresses in
      let may : MayAddPrefix ports prefixes more.next = record {
        some_port = some;
        few = omega (arith, sizes, parts, most);
        plan_prefix = All-middle IsPlanPrefix (nets_of prefixes) more.next.prefix (nets_of more.later) plan_prefixes;
        address = All-middle within (nets_of prefixes) more.next.prefix (nets_of more.later) addresses;
        vlan = All-middle in_range prefixes more.next more.later (subst (λ (ps : List PrefixPlan). All in_range ps) more.same valid.prefix_vlans);
        past = past_at prefixes more.next more.later (subst (λ (ps : List PrefixPlan). AllPairs StandsBefore ps) more.same valid.prefixes);
      } in
      none.prefix more.next may (e ∙ ap joined (head_line more.mid_is))

  not_last : IsNotListed ports prefixes line → 0 < length ports → ArePrefixes comes.plan.prefixes prefixes (begin_line ∷ []) (next ∷ comes.more) ⊎ AreMorePrefixes comes.plan.prefixes prefixes (begin_line ∷ []) (next ∷ comes.more)
      → line ≡ joined next → ⊥
  not_last none some (inl all) e = none.begin some (e ∙ ap joined (sym (head_line all.rest_is)))
  not_last none some (inr more) e = not_prefix none some more e

  not_behind : AreLists ports prefixes → IsNotListed ports prefixes line → ArePorts comes.plan.ports ports rest mid ⊎ AreMorePorts comes.plan.ports ports rest mid → line ≡ joined next → ⊥
  not_behind are none (inr more) = not_port none more
  not_behind are none (inl all) =
      let sizes = ap length all.numbers in
      let whole = length-numbers comes.plan.ports in
      let these = length-numbers ports in
      let least = comes.is_plan.valid.port_count.0 in
      let some : 0 < length ports = omega (arith, sizes, whole, these, least) in
      let valid = comes.is_plan.valid in
      let written : AreWritten comes.plan.prefixes = record { plan_prefixes = valid.plan_prefixes; addresses = comes.is_plan.addresses; vlans = valid.prefix_vlans } in
      let written' : AreWritten prefixes = record { plan_prefixes = are.plan_prefixes; addresses = are.addresses; vlans = are.prefix_vlans } in
      not_last none some (prefixes_behind comes.plan.prefixes prefixes (begin_line ∷ []) (next ∷ comes.more) begin_no_prefix written written' all.rest_is)

-- a line that is none of those that may come next in the lists is none that comes next in a header
pub not_listed : (s : Settings) (ports : List PortPlan) (prefixes : List PrefixPlan) (line : List ℕ) → AreLists ports prefixes → IsNotListed ports prefixes line
    → (next : LineFields) → ComesNext (setting_lines s ++ list_lines ports prefixes) next → line ≢ joined next
not_listed s ports prefixes line are none next comes =
    not_behind s ports prefixes line next comes are none
    (ports_behind comes.plan.ports ports (map (prefix_fields address_text) comes.plan.prefixes ++ begin_line ∷ []) (map (prefix_fields address_text) prefixes ++ next ∷ comes.more)
    (prefixes_no_port comes.plan.prefixes) comes.is_plan.valid.port_vlans are.port_vlans (lists_behind s ports prefixes next comes))
