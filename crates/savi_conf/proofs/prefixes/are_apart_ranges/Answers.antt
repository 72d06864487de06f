use Rattle.savi_conf.proofs.Both.{refuted}
use Rattle.savi_conf.proofs.prefixes.are_apart_ranges.Goals as goal

pub returns-then-not-are_of_one_vlan : goal.returns-then-not-are_of_one_vlan
returns-then-not-are_of_one_vlan c = (
  λ _. record { each = λ same. absurd (refuted c.are_of_one_vlan.result c.if-not-are_of_one_vlan.true c.are_of_one_vlan.ensures same) },
  λ _. cc,
)

pub returns-else-not-are_of_one_vlan : goal.returns-else-not-are_of_one_vlan
returns-else-not-are_of_one_vlan c = (
  λ yes. record { each = λ same. c.tell_apart_ranges.ensures.0 yes },
  λ ranges. c.tell_apart_ranges.ensures.1 (ranges.each (c.are_of_one_vlan.ensures.0 c.if-not-are_of_one_vlan.false)),
)
