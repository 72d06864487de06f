-- The marks of one VLAN, and what is the same of two results in it.
use Rattle.std.specs.Prelude.{◌≡◌, ℕ, ◌==◌, Bool, List, filter}
use Rattle.savi_access.specs.Marks.{Mark, Told, Asked, Met}
use Rattle.savi_access.specs.Judged.{Judged}

-- whether a mark is of this VLAN
abbrev pub is_of : ℕ → Mark → Bool
is_of vlan (Told named) = named.vlan == vlan
is_of vlan (Asked of request) = of == vlan
is_of vlan (Met of moment tid duid) = of == vlan

-- the marks of this VLAN, in order
abbrev pub in_vlan : ℕ → List Mark → List Mark
in_vlan vlan marks = filter (is_of vlan) marks

-- two results with one verdict and one probe, that tell the same of this VLAN
pub record IsSameIn (vlan : ℕ) (one other : Judged) : Type 0 where
  pub verdict : one.verdict ≡ other.verdict
  pub probe : one.probe ≡ other.probe
  pub marks : in_vlan vlan one.marks ≡ in_vlan vlan other.marks
