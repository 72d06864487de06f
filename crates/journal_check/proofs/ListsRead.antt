-- The lists of a plan, one line more.
use Rattle.std.proofs.Common.{◌≡◌, ◌+◌, ◌-◌, ◌<◌, ℕ, List, [], ◌∷◌, ◌++◌, length, map, get_or, All, refl, ap, sym, ◌∙◌, inl, inr, subst, arith, append_assoc, append-nil, length-append}
use Rattle.std.specs.List.{AllPairs}
use Rattle.std.specs.List.Sorted.{IsStrictlyIncreasing}
use Rattle.std.proofs.lemmas.Bool.{cases_lt}
use Rattle.std.proofs.lemmas.List.{get_or_append_left, get_or_at, map-append}
use Rattle.std.proofs.lemmas.List.Elements.{All-push, All-nil}
use Rattle.savi_kinds.specs.declared.plan.PortPlan.{PortPlan}
use Rattle.savi_kinds.specs.declared.plan.PrefixPlan.{PrefixPlan}
use Rattle.savi_kinds.specs.declared.plan.Role.{Role}
use Rattle.savi_kinds.specs.declared.plan.Format.{Format}
use Rattle.savi_kinds.specs.declared.plan.Vlan.{Vlan}
use Rattle.savi_kinds.specs.declared.port.Port.{Port}
use Rattle.savi_kinds.specs.declared.address.Prefix.{Prefix}
use Rattle.savi_kinds.specs.Ports.{number_of}
use Rattle.savi_kinds.specs.Prefixes.{first_of}
use Rattle.savi_kinds.specs.ValidPlan.{HasPlanVlans, IsPlanPrefix, StandsBefore, nets_of, numbers_of}
use Rattle.savi_kinds.specs.Vlans.{IsVlan}
use Rattle.hist_store.specs.TextOfLines.{joined}
use Rattle.hist_store.specs.JournalTexts.{address_text, journal_port_fields, prefix_fields}
use Rattle.hist_store.proofs.Rising.{rise_more}
use Rattle.savi_history.specs.Journals.{IsAddress, without_port_names}
use Rattle.journal_check.specs.Headers.{LineFields}
use Rattle.journal_check.specs.ListLines.{list_lines, port_by, IsBehindLast, AreLists, MayAddPort, MayAddPrefix, IsListed}

-- prefixes, each of which stands before those behind it

pub past_at : (xs : List PrefixPlan) (x : PrefixPlan) (more : List PrefixPlan) → AllPairs StandsBefore (xs ++ x ∷ more) → IsBehindLast xs x
past_at xs x more pairs = λ d some.
    let last = length xs - 1 in
    let size = length-append xs (x ∷ more) in
    let stands = pairs last (length xs) d (omega (arith, some)) (omega (arith, size)) in
    let left : get_or (xs ++ x ∷ more) last d ≡ get_or xs last d = get_or_append_left xs (x ∷ more) d last (omega (arith, some)) in
    let right : get_or (xs ++ x ∷ more) (length xs) d ≡ x = get_or_at xs x more d (length xs) refl in
    subst (λ (p : PrefixPlan). StandsBefore p x) left (subst (λ (q : PrefixPlan). StandsBefore (get_or (xs ++ x ∷ more) last d) q) right stands)

pub through : (p q x : PrefixPlan) → StandsBefore p q → StandsBefore q x → StandsBefore p x
through p q x (inl lower) (inl lower') = inl (omega (arith, lower, lower'))
through p q x (inl lower) (inr same) = inl (omega (arith, lower, same.0))
through p q x (inr same) (inl lower) = inl (omega (arith, lower, same.0))
through p q x (inr same) (inr same') = inr (same.0 ∙ same'.0, omega (arith, same.1, same'.1))

-- each of them stands before one that stands behind the last
all_past : (xs : List PrefixPlan) (x : PrefixPlan) (i : ℕ) (d : PrefixPlan) → AllPairs StandsBefore xs → IsBehindLast xs x → i < length xs → StandsBefore (get_or xs i d) x
all_past xs x i d pairs past within =
    let last = length xs - 1 in
    let end = past d (omega (arith, within)) in
    elim (cases_lt i last) [
      | inl before ↦ through (get_or xs i d) (get_or xs last d) x (pairs i last d before (omega (arith, within))) end
      | inr over ↦ let place : last ≡ i = omega (arith, over, within) in subst (λ (k : ℕ). StandsBefore (get_or xs k d) x) place end
    ]

pub pairs_more : (xs : List PrefixPlan) (x : PrefixPlan) → AllPairs StandsBefore xs → IsBehindLast xs x → AllPairs StandsBefore (xs ++ x ∷ [])
pairs_more xs x pairs past = λ i j d less within.
    let size = length-append xs (x ∷ []) in
    let first : i < length xs = omega (arith, size, less, within) in
    let left : get_or (xs ++ x ∷ []) i d ≡ get_or xs i d = get_or_append_left xs (x ∷ []) d i first in
    elim (cases_lt j (length xs)) [
      | inl inside ↦
          let right : get_or (xs ++ x ∷ []) j d ≡ get_or xs j d = get_or_append_left xs (x ∷ []) d j inside in
          subst (λ (p : PrefixPlan). StandsBefore p (get_or (xs ++ x ∷ []) j d)) (sym left) (subst (λ (q : PrefixPlan). StandsBefore (get_or xs i d) q) (sym right) (pairs i j d less inside))
      | inr over ↦
          let right : get_or (xs ++ x ∷ []) j d ≡ x = get_or_at xs x [] d j (omega (arith, size, over, within)) in
          subst (λ (p : PrefixPlan). StandsBefore p (get_or (xs ++ x ∷ []) j d)) (sym left) (subst (λ (q : PrefixPlan). StandsBefore (get_or xs i d) q) (sym right) (all_past xs x i d pairs past first))
    ]

-- empty lists

empty_lists : AreLists [] []
empty_lists = record {
  port_count = omega arith;
  ports_rise = λ k within. absurd (omega (arith, within));
  port_vlans = All-nil HasPlanVlans;
  vlan_count = omega arith;
  nameless = refl;
  prefix_count = omega arith;
  behind_port = λ some. some;
  plan_prefixes = All-nil IsPlanPrefix;
  prefix_vlans = All-nil (λ (p : PrefixPlan). IsVlan p.vlan);
  prefixes_part = λ i j d less within. absurd (omega (arith, within));
  addresses = All-nil (λ (net : Prefix). IsAddress (first_of net));
}

pub same_lists : (ports : List PortPlan) (prefixes : List PrefixPlan) (ports' : List PortPlan) (prefixes' : List PrefixPlan) → ports' ≡ ports → prefixes' ≡ prefixes → AreLists ports prefixes → AreLists ports' prefixes'
same_lists ports prefixes ports' prefixes' same same' are =
    subst (λ (ps : List PortPlan). AreLists ps prefixes') (sym same) (subst (λ (xs : List PrefixPlan). AreLists ports xs) (sym same') are)

pub are_empty : (ports : List PortPlan) (prefixes : List PrefixPlan) → ports ≡ [] → prefixes ≡ [] → AreLists ports prefixes
are_empty ports prefixes none none' = same_lists [] [] ports prefixes none none' empty_lists

-- lists that are the same
pub listed_as : (line : List ℕ) (ports : List PortPlan) (prefixes : List PrefixPlan) (ports' : List PortPlan) (prefixes' : List PrefixPlan) (ports'' : List PortPlan) (prefixes'' : List PrefixPlan)
    → ports'' ≡ ports' → prefixes'' ≡ prefixes' → IsListed line ports prefixes ports' prefixes' → IsListed line ports prefixes ports'' prefixes''
listed_as line ports prefixes ports' prefixes' ports'' prefixes'' same same' listed =
    subst (λ (ps : List PortPlan). IsListed line ports prefixes ps prefixes'') (sym same) (subst (λ (xs : List PrefixPlan). IsListed line ports prefixes ports' xs) (sym same') listed)

-- one port more

module _ (ports : List PortPlan) (prefixes : List PrefixPlan) (port : Port) (role : Role) (format : Format) (vlan : Vlan) where
  abbrev the_port : PortPlan
  the_port = port_by port role format vlan

  abbrev more_ports : List PortPlan
  more_ports = ports ++ the_port ∷ []

  numbers_more : numbers_of more_ports ≡ numbers_of ports ++ number_of port ∷ []
  numbers_more = map-append (λ (p : PortPlan). number_of p.number) ports (the_port ∷ [])

  ports_count : length more_ports ≡ length ports + 1
  ports_count = let size = length-append ports (the_port ∷ []) in omega (arith, size)

  port_lists : AreLists ports prefixes → MayAddPort ports prefixes the_port → AreLists more_ports prefixes
  port_lists are may =
      let size = ports_count in
      let few = may.few in
      record {
        port_count = omega (arith, size, few);
        ports_rise = subst IsStrictlyIncreasing (sym numbers_more) (rise_more (numbers_of ports) (number_of port) are.ports_rise may.above);
        port_vlans = All-push HasPlanVlans ports the_port are.port_vlans may.vlans;
        vlan_count = may.vlan_count;
        nameless = map-append without_port_names ports (the_port ∷ []) ∙ ap (λ (ps : List PortPlan). ps ++ the_port ∷ []) are.nameless;
        prefix_count = are.prefix_count;
        behind_port = λ some. omega (arith, size);
        plan_prefixes = are.plan_prefixes;
        prefix_vlans = are.prefix_vlans;
        prefixes_part = are.prefixes_part;
        addresses = are.addresses;
      }

  port_line_more : prefixes ≡ [] → list_lines more_ports prefixes ≡ list_lines ports prefixes ++ journal_port_fields the_port ∷ []
  port_line_more none =
      let line = journal_port_fields the_port in
      ap (λ (xs : List PrefixPlan). map journal_port_fields more_ports ++ map (prefix_fields address_text) xs) none
      ∙ append-nil (map journal_port_fields more_ports)
      ∙ map-append journal_port_fields ports (the_port ∷ [])
      ∙ sym (ap (λ (ls : List LineFields). ls ++ line ∷ []) (ap (λ (xs : List PrefixPlan). map journal_port_fields ports ++ map (prefix_fields address_text) xs) none ∙ append-nil (map journal_port_fields ports)))

  pub port_listed : (line : List ℕ) → AreLists ports prefixes → MayAddPort ports prefixes the_port → line ≡ joined (journal_port_fields the_port) → IsListed line ports prefixes more_ports prefixes
  port_listed line are may text =
      let size = ports_count in
      record {
        lists = port_lists are may;
        next = journal_port_fields the_port;
        one_more = port_line_more may.no_prefix;
        count = omega (arith, size);
        text = text;
      }

-- one prefix more

module _ (ports : List PortPlan) (prefixes : List PrefixPlan) (one : PrefixPlan) where
  abbrev more_prefixes : List PrefixPlan
  more_prefixes = prefixes ++ one ∷ []

  nets_more : nets_of more_prefixes ≡ nets_of prefixes ++ one.prefix ∷ []
  nets_more = map-append (λ (p : PrefixPlan). p.prefix) prefixes (one ∷ [])

  prefixes_count : length more_prefixes ≡ length prefixes + 1
  prefixes_count = let size = length-append prefixes (one ∷ []) in omega (arith, size)

  prefix_lists : AreLists ports prefixes → MayAddPrefix ports prefixes one → AreLists ports more_prefixes
  prefix_lists are may =
      let size = prefixes_count in
      let few = may.few in
      let some = may.some_port in
      record {
        port_count = are.port_count;
        ports_rise = are.ports_rise;
        port_vlans = are.port_vlans;
        vlan_count = are.vlan_count;
        nameless = are.nameless;
        prefix_count = omega (arith, size, few);
        behind_port = λ any. some;
        plan_prefixes = subst (λ (nets : List Prefix). All IsPlanPrefix nets) (sym nets_more) (All-push IsPlanPrefix (nets_of prefixes) one.prefix are.plan_prefixes may.plan_prefix);
        prefix_vlans = All-push (λ (p : PrefixPlan). IsVlan p.vlan) prefixes one are.prefix_vlans may.vlan;
        prefixes_part = pairs_more prefixes one are.prefixes_part may.past;
        addresses = subst (λ (nets : List Prefix). All (λ net. IsAddress (first_of net)) nets) (sym nets_more)
            (All-push (λ (net : Prefix). IsAddress (first_of net)) (nets_of prefixes) one.prefix are.addresses may.address);
      }

  prefix_line_more : list_lines ports more_prefixes ≡ list_lines ports prefixes ++ prefix_fields address_text one ∷ []
  prefix_line_more =
      let line = prefix_fields address_text one in
      ap (λ (ls : List LineFields). map journal_port_fields ports ++ ls) (map-append (prefix_fields address_text) prefixes (one ∷ []))
      ∙ sym (append_assoc (map journal_port_fields ports) (map (prefix_fields address_text) prefixes) (line ∷ []))

  pub prefix_listed : (line : List ℕ) → AreLists ports prefixes → MayAddPrefix ports prefixes one → line ≡ joined (prefix_fields address_text one) → IsListed line ports prefixes ports more_prefixes
  prefix_listed line are may text =
      let size = prefixes_count in
      record {
        lists = prefix_lists are may;
        next = prefix_fields address_text one;
        one_more = prefix_line_more;
        count = omega (arith, size);
        text = text;
      }
