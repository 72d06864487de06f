-- What a table has to have, so that it says a port or a prefix.
use Rattle.std.specs.Prelude.{◌≤◌, length, codes, IsSome, IsSomeAnd, IfSome}
use Rattle.toml.specs.Data.{Members}
use Rattle.savi_conf.specs.Documents.{text_at}
use Rattle.savi_conf.specs.Requirements.{AreVlanNumbers, IsBetween, IsSomePrefix, number_in, vlan_in, vlans_in}
use Rattle.savi_kinds.specs.PlanWords.{role_word, format_word, method_word}
use Rattle.savi_conf.specs.Words.{HasWord}

pub record CanSayPort (t : Members) : Type 0 where
  pub number : IsSomeAnd (number_in t) (IsBetween 1 16)
  pub role : IsSome (text_at (codes "role") t)
  pub role_word : HasWord (codes "role") role_word t
  pub format_word : HasWord (codes "format") format_word t
  pub input : IsSome (text_at (codes "input") t)
  pub output : IsSome (text_at (codes "output") t)
  pub vlans : AreVlanNumbers (vlans_in t)
  pub few : length (vlans_in t) ≤ 8

pub record CanSayPrefix (t : Members) : Type 0 where
  pub prefix : IsSome (text_at (codes "prefix") t)
  pub spelled : IfSome (text_at (codes "prefix") t) IsSomePrefix
  pub method : IsSome (text_at (codes "method") t)
  pub method_word : HasWord (codes "method") method_word t
  pub vlan : IsBetween 1 4094 (vlan_in t)
