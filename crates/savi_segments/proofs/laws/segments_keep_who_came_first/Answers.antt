use Rattle.savi_segments.proofs.CameFirst.{all_keep, kept_first}
use Rattle.savi_segments.proofs.laws.segments_keep_who_came_first.Goals as goal

pub returns-clause-all : goal.returns-clause-all
returns-clause-all c = λ plan segments valid on legal. all_keep c.histories_tell_rightly.ensures.limits plan valid segments on legal

pub returns-clause-next : goal.returns-clause-next
returns-clause-next c = λ plan first steps p q stamp octets vlan eth ip read valid on legal known host vlan_is class_is live apart passed.
    kept_first c.histories_tell_rightly.ensures.limits plan valid first steps on legal p q stamp octets vlan eth ip read known vlan_is host class_is live apart passed
