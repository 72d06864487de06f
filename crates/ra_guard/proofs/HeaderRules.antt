-- The rules on the Ethernet header.
use Rattle.std.proofs.Common.{◌≡◌, ◌<◌, Bool, true, false, Some, None, refl, sym, ap, ◌∙◌, subst, arith}
use Rattle.std.proofs.lemmas.Bool.{false≢true}
use Rattle.savi_kinds.specs.declared.plan.Role.{Role}
use Rattle.savi_kinds.specs.declared.verdict.Rule.{Rule}
use Rattle.savi_kinds.specs.declared.verdict.Rule.TheVariants as rules
use Rattle.savi_kinds.specs.Rules.{rule_number}
use Rattle.savi_kinds.specs.Macs.{is_group}
use Rattle.eth_frame.specs.declared.header.Eth.{Eth}
use Rattle.frame_class.specs.declared.classes.Class.{Class}
use Rattle.frame_class.specs.declared.classes.Class.TheVariants.{Runt, Tagged, Other, BadIp, Ip6}
use Rattle.frame_class.specs.Classes.{eth_of}
use Rattle.ra_guard.specs.Guard.{Applies, HasEth, NoneBefore, IsFirst, is_reserved}
use Rattle.ra_guard.proofs.RuleOrder.{none_more}

-- what is said of the header is said of the one header
eth_has : (Is : Eth → Type 0) (class : Class) (eth : Eth) → eth_of class ≡ Some eth → HasEth Is class → Is eth
eth_has Is Runt eth is has = absurd has
eth_has Is (Tagged other) eth is has = let same : other ≡ eth = cc in subst Is same has
eth_has Is (Other other) eth is has = let same : other ≡ eth = cc in subst Is same has
eth_has Is (BadIp other) eth is has = let same : other ≡ eth = cc in subst Is same has
eth_has Is (Ip6 other ip read) eth is has = let same : other ≡ eth = cc in subst Is same has

has_eth : (Is : Eth → Type 0) (class : Class) (eth : Eth) → eth_of class ≡ Some eth → Is eth → HasEth Is class
has_eth Is Runt eth is has = let different : None ≡ Some eth = is in cc
has_eth Is (Tagged other) eth is has = let same : eth ≡ other = cc in subst Is same has
has_eth Is (Other other) eth is has = let same : eth ≡ other = cc in subst Is same has
has_eth Is (BadIp other) eth is has = let same : eth ≡ other = cc in subst Is same has
has_eth Is (Ip6 other ip read) eth is has = let same : eth ≡ other = cc in subst Is same has

before_two : (role : Role) (drop_unknown : Bool) (class : Class) (rule : Rule) → rule_number rule < 2 → Applies role drop_unknown class rule → ⊥
before_two role drop_unknown class rules.PortDown less = λ applies. applies
before_two role drop_unknown class _ less = absurd (omega (arith, less))

pub malformed_first : (role : Role) (drop_unknown : Bool) (class : Class) → eth_of class ≡ None → IsFirst (Applies role drop_unknown class) (Some rules.Malformed)
malformed_first role drop_unknown Runt is = (refl, before_two role drop_unknown Runt)
malformed_first role drop_unknown (Tagged eth) is = cc
malformed_first role drop_unknown (Other eth) is = cc
malformed_first role drop_unknown (BadIp eth) is = cc
malformed_first role drop_unknown (Ip6 eth ip read) is = cc

module _ (role : Role) (drop_unknown : Bool) (class : Class) (eth : Eth) (is : eth_of class ≡ Some eth) where
  before_three : NoneBefore (Applies role drop_unknown class) 3
  before_three =
      none_more (Applies role drop_unknown class) rules.Malformed (before_two role drop_unknown class)
      (λ runt. let none : eth_of class ≡ None = ap eth_of runt in cc)

  pub reserved_first : is_reserved eth.dst ≡ true → IsFirst (Applies role drop_unknown class) (Some rules.ReservedGroup)
  reserved_first reserved = (has_eth (λ e. is_reserved e.dst ≡ true) class eth is reserved, before_three)

  before_four : is_reserved eth.dst ≡ false → NoneBefore (Applies role drop_unknown class) 4
  before_four free =
      none_more (Applies role drop_unknown class) rules.ReservedGroup before_three
      (λ has. false≢true (sym free ∙ eth_has (λ e. is_reserved e.dst ≡ true) class eth is has))

  pub group_first : is_reserved eth.dst ≡ false → is_group eth.src ≡ true → IsFirst (Applies role drop_unknown class) (Some rules.SourceMac)
  group_first free group = (has_eth (λ e. is_group e.src ≡ true) class eth is group, before_four free)
