-- The faults in the order of their numbers, among which 21 is none.
use Rattle.std.proofs.Common.{◌≡◌, ℕ, ◌+◌, ◌<◌, nat_lt, List, [], ◌∷◌, get_or, map, refl, sym, ap, ◌∙◌, inl, inr, arith, subst, subst₂, lt-ltb, if◌then◌else◌}
use Rattle.std.specs.List.{range_with_len}
use Rattle.std.proofs.lemmas.List.{get_or-map}
use Rattle.std.proofs.lemmas.List.FromFn.{get_or-range_with_len}
use Rattle.std.proofs.lemmas.Bool.{cases_lt, le-ltb}
use Rattle.savi_conf.specs.declared.fault.Fault.{Fault}
use Rattle.savi_conf.specs.declared.fault.Fault.TheVariants.{UnknownKey, WrongKind, MissingKey, SwitchMac, SaviWord, NextHeaderWord, PerPort, Depth, Entries, Bytes, Times, PortCount, PortNumbers, RoleWord, FormatWord, PrefixTexts, PrefixRanges, MethodWord, StreamInReplay, VlanNumbers, TrunkRole, VlanCount}
use Rattle.savi_conf.specs.Faults.{fault_number}

abbrev pub faults : List Fault
faults = UnknownKey ∷ WrongKind ∷ MissingKey ∷ SwitchMac ∷ SaviWord ∷ NextHeaderWord ∷ PerPort ∷ Depth ∷ Entries ∷ Bytes ∷ Times ∷ PortCount ∷ PortNumbers ∷ RoleWord ∷ FormatWord ∷ PrefixTexts ∷ PrefixRanges ∷ MethodWord ∷ StreamInReplay ∷ VlanNumbers ∷ TrunkRole ∷ VlanCount ∷ []

-- the place of a fault among them
abbrev pub place_of : Fault → ℕ
place_of UnknownKey = 0
place_of WrongKind = 1
place_of MissingKey = 2
place_of SwitchMac = 3
place_of SaviWord = 4
place_of NextHeaderWord = 5
place_of PerPort = 6
place_of Depth = 7
place_of Entries = 8
place_of Bytes = 9
place_of Times = 10
place_of PortCount = 11
place_of PortNumbers = 12
place_of RoleWord = 13
place_of FormatWord = 14
place_of PrefixTexts = 15
place_of PrefixRanges = 16
place_of MethodWord = 17
place_of StreamInReplay = 18
place_of VlanNumbers = 19
place_of TrunkRole = 20
place_of VlanCount = 21

at_place : (fault : Fault) → get_or faults (place_of fault) UnknownKey ≡ fault
at_place UnknownKey = refl
at_place WrongKind = refl
at_place MissingKey = refl
at_place SwitchMac = refl
at_place SaviWord = refl
at_place NextHeaderWord = refl
at_place PerPort = refl
at_place Depth = refl
at_place Entries = refl
at_place Bytes = refl
at_place Times = refl
at_place PortCount = refl
at_place PortNumbers = refl
at_place RoleWord = refl
at_place FormatWord = refl
at_place PrefixTexts = refl
at_place PrefixRanges = refl
at_place MethodWord = refl
at_place StreamInReplay = refl
at_place VlanNumbers = refl
at_place TrunkRole = refl
at_place VlanCount = refl

pub below_22 : (fault : Fault) → place_of fault < 22
below_22 UnknownKey = omega arith
below_22 WrongKind = omega arith
below_22 MissingKey = omega arith
below_22 SwitchMac = omega arith
below_22 SaviWord = omega arith
below_22 NextHeaderWord = omega arith
below_22 PerPort = omega arith
below_22 Depth = omega arith
below_22 Entries = omega arith
below_22 Bytes = omega arith
below_22 Times = omega arith
below_22 PortCount = omega arith
below_22 PortNumbers = omega arith
below_22 RoleWord = omega arith
below_22 FormatWord = omega arith
below_22 PrefixTexts = omega arith
below_22 PrefixRanges = omega arith
below_22 MethodWord = omega arith
below_22 StreamInReplay = omega arith
below_22 VlanNumbers = omega arith
below_22 TrunkRole = omega arith
below_22 VlanCount = omega arith

-- numbers from 2 on without 21, by place
abbrev number_by : ℕ → ℕ
number_by m = if nat_lt m 21 then m else m + 1

number_of_place : (fault : Fault) → fault_number fault ≡ number_by (2 + place_of fault)
number_of_place UnknownKey = refl
number_of_place WrongKind = refl
number_of_place MissingKey = refl
number_of_place SwitchMac = refl
number_of_place SaviWord = refl
number_of_place NextHeaderWord = refl
number_of_place PerPort = refl
number_of_place Depth = refl
number_of_place Entries = refl
number_of_place Bytes = refl
number_of_place Times = refl
number_of_place PortCount = refl
number_of_place PortNumbers = refl
number_of_place RoleWord = refl
number_of_place FormatWord = refl
number_of_place PrefixTexts = refl
number_of_place PrefixRanges = refl
number_of_place MethodWord = refl
number_of_place StreamInReplay = refl
number_of_place VlanNumbers = refl
number_of_place TrunkRole = refl
number_of_place VlanCount = refl

number_at : (i : ℕ) → i < 22 → fault_number (get_or faults i UnknownKey) ≡ number_by (2 + i)
number_at i within =
    let numbers : map fault_number faults ≡ map number_by (range_with_len 2 22) = refl in
    sym (get_or-map fault_number faults i UnknownKey 0 within) ∙ ap (λ (ns : List ℕ). get_or ns i 0) numbers
    ∙ get_or-map number_by (range_with_len 2 22) i 0 0 within ∙ ap number_by (get_or-range_with_len 2 22 i 0 within)

number_less : (m n : ℕ) → number_by m < number_by n → m < n
number_less m n less =
    elim (cases_lt m 21) [
      | inl low ↦ elim (cases_lt n 21) [
        | inl low' ↦ let both : m < n = rw (lt-ltb m 21 low, lt-ltb n 21 low') at less in both
        | inr high' ↦ omega (arith, low, high')
      ]
      | inr high ↦ elim (cases_lt n 21) [
        | inl low' ↦ let both : m + 1 < n = rw (le-ltb m 21 high, lt-ltb n 21 low') at less in omega (arith, both)
        | inr high' ↦ let both : m + 1 < n + 1 = rw (le-ltb m 21 high, le-ltb n 21 high') at less in omega (arith, both)
      ]
    ]

-- a fault with a lower number than the one at a place stands before it
pub earlier_at : (i : ℕ) → i < 22 → (other : Fault) → fault_number other < fault_number (get_or faults i UnknownKey) → place_of other < i
earlier_at i within other less =
    let numbers : number_by (2 + place_of other) < number_by (2 + i) = subst₂ (λ (m n : ℕ). m < n) (number_of_place other) (number_at i within) less in
    let places : 2 + place_of other < 2 + i = number_less (2 + place_of other) (2 + i) numbers in
    omega (arith, places)

-- what holds of each fault before a place, and of the one there, holds of each before the next place
pub one_more : (P : Fault → Type 0) (i : ℕ) → i < 22 → ((fault : Fault) → place_of fault < i → P fault) → P (get_or faults i UnknownKey) → (fault : Fault) → place_of fault < i + 1 → P fault
one_more P i within below here fault less =
    elim (cases_lt (place_of fault) i) [
      | inl lower ↦ below fault lower
      | inr last ↦
          let at : place_of fault ≡ i = omega arith in
          let is : get_or faults i UnknownKey ≡ fault = ap (λ k. get_or faults k UnknownKey) (sym at) ∙ at_place fault in
          subst P is here
    ]
