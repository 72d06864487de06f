-- What a document that meets every requirement has.
use Rattle.std.proofs.Common.{◌≡◌, ◌≤◌, ◌<◌, ◌≤ℤ◌, ◌<ℤ◌, ◌*◌, ℕ, ℤ, pos, [], Bool, Option, Some, None, IsSome, IfSome, IsSomeAnd, option_and_then, codes, get_or, length, map, refl, arith}
use Rattle.std.specs.List.{All, Contains}
use Rattle.std.proofs.lemmas.Bool.{false≢true}
use Rattle.std.proofs.lemmas.Int.{ints}
use Rattle.toml.specs.Data.{Data, Members, get_member, as_str, as_integer}
use Rattle.savi_kinds.specs.ValidPlan.{IsWithin, IsSeconds}
use Rattle.savi_conf.specs.declared.fault.Fault.{Fault}
use Rattle.savi_conf.specs.declared.fault.Fault.TheVariants.{WrongKind, MissingKey, SwitchMac, PortNumbers, RoleWord, FormatWord, PrefixTexts, MethodWord, VlanNumbers, VlanCount}
use Rattle.savi_conf.specs.Documents.{text_at}
use Rattle.savi_conf.specs.Keys.{IsText, IsInteger}
use Rattle.savi_conf.specs.Requirements.{Meets, AreFewVlans, AreVlanNumbers, IsBetween, IsSwitchMac, port_tables, prefix_tables, vlans_in}
use Rattle.savi_conf.specs.Told.{CanSayPort, CanSayPrefix}
use Rattle.savi_conf.proofs.Distinct.{different_among}
use Rattle.savi_conf.proofs.Listed.{All-unmap}

abbrev pub AllMet : Bool → Members → Type 0
AllMet replay document = (fault : Fault) → Meets replay document fault

-- what is there, and is a text, is a text there
text_there : (value : Option Data) → IsSome value → IfSome value IsText → IsSome (option_and_then as_str value)
text_there None some kind = absurd (false≢true some)
text_there (Some d) some kind = kind

integer_there : (value : Option Data) → IsSome value → IfSome value IsInteger → IsSome (option_and_then as_integer value)
integer_there None some kind = absurd (false≢true some)
integer_there (Some d) some kind = kind

some_and : {A : Type 0} (o : Option A) (P : A → Type 0) → IsSome o → IfSome o P → IsSomeAnd o P
some_and None P some if = absurd (false≢true some)
some_and (Some x) P some if = if

pub mac_there : (replay : Bool) (document : Members) → AllMet replay document → IsSomeAnd (text_at (codes "mac") document) IsSwitchMac
mac_there replay document met =
    some_and (text_at (codes "mac") document) IsSwitchMac (text_there (get_member (codes "mac") document) ((met MissingKey).0.top.each 0 [] (omega arith)) ((met WrongKind).top.texts 0 [] (omega arith))) (met SwitchMac)

pub journal_there : (replay : Bool) (document : Members) → AllMet replay document → IsSome (text_at (codes "journal") document)
journal_there replay document met =
    text_there (get_member (codes "journal") document) ((met MissingKey).0.top.each 1 [] (omega arith)) ((met WrongKind).top.texts 1 [] (omega arith))

numbers_there : (replay : Bool) (document : Members) → AllMet replay document → All (λ t. AreVlanNumbers (vlans_in t)) (port_tables document)
numbers_there replay document met = All-unmap AreVlanNumbers vlans_in (port_tables document) (met VlanNumbers).ports

-- a port has no more VLANs than all ports have
few_there : (replay : Bool) (document : Members) → AllMet replay document → All (λ t. length (vlans_in t) ≤ 8) (port_tables document)
few_there replay document met = λ k t within.
    let few : AreFewVlans (map vlans_in (port_tables document)) = met VlanCount in
    let port = get_or (port_tables document) k t in
    let among : All (Contains few.vlans) (vlans_in port) = All-unmap (λ zs. All (Contains few.vlans) zs) vlans_in (port_tables document) few.among k t within in
    omega (arith, few.few, different_among (vlans_in port) few.vlans (numbers_there replay document met k t within).different among)

pub ports_said : (replay : Bool) (document : Members) → AllMet replay document → All CanSayPort (port_tables document)
ports_said replay document met = λ k t within.
    let kinds = (met WrongKind).ports k t within in
    let required = (met MissingKey).0.ports k t within in
    record {
      number = some_and _ (IsBetween 1 16) (integer_there _ (required.each 0 [] (omega arith)) (kinds.integers 0 [] (omega arith))) ((met PortNumbers).range k t within);
      role = text_there _ (required.each 1 [] (omega arith)) (kinds.texts 0 [] (omega arith));
      role_word = met RoleWord k t within;
      format_word = met FormatWord k t within;
      input = text_there _ (required.each 2 [] (omega arith)) (kinds.texts 2 [] (omega arith));
      output = text_there _ (required.each 3 [] (omega arith)) (kinds.texts 3 [] (omega arith));
      vlans = numbers_there replay document met k t within;
      few = few_there replay document met k t within;
    }

pub prefixes_said : (replay : Bool) (document : Members) → AllMet replay document → All CanSayPrefix (prefix_tables document)
prefixes_said replay document met = λ k t within.
    let kinds = (met WrongKind).prefixes k t within in
    let required = (met MissingKey).0.prefixes k t within in
    record {
      prefix = text_there _ (required.each 0 [] (omega arith)) (kinds.texts 0 [] (omega arith));
      spelled = (met PrefixTexts).texts k t within;
      method = text_there _ (required.each 1 [] (omega arith)) (kinds.texts 1 [] (omega arith));
      method_word = met MethodWord k t within;
      vlan = (met VlanNumbers).prefixes k t within;
    }

-- ---- numbers

pub not_negative : (least most : ℕ) (z : ℤ) → IsBetween least most z → pos 0 ≤ℤ z
not_negative least most z between = omega (arith, ints, between.0)

pub at_most : (least most n : ℕ) (z : ℤ) → most ≤ n → IsBetween least most z → z ≤ℤ pos n
at_most least most n z few between = omega (arith, ints, between.1)

pub within_from : (least most n : ℕ) (z : ℤ) → pos n ≡ z → IsBetween least most z → IsWithin least most n
within_from least most n z is between = (omega (arith, ints, is, between.0), omega (arith, ints, is, between.1))

pub below_from : (m n : ℕ) (y z : ℤ) → pos m ≡ y → pos n ≡ z → y <ℤ z → m < n
below_from m n y z is is' less = omega (arith, ints, is, is', less)

pub seconds_from : (least most n : ℕ) (z : ℤ) → pos n ≡ z → IsBetween least most z → IsSeconds least most (1000 * n)
seconds_from least most n z is between = (n, refl, within_from least most n z is between)
