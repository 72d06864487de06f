-- The probes that ageing sends, and whether it changes anything.
use Rattle.std.specs.Prelude.{ℕ, ◌≡◌, ◌≢◌, ◌⊎◌, true, List, [], ◌∷◌}
use Rattle.std.specs.List.{AllByRecursion}
use Rattle.savi_access.specs.declared.sent.SentProbe.{SentProbe}
use Rattle.savi_access.specs.Sends.{is_before, sends_after}
use Rattle.savi_access.specs.Bases.{AddrRules, AddrBase}
use Rattle.savi_access.specs.NamedMarks.{Named}
use Rattle.savi_access.specs.States.{state_at}
use Rattle.savi_access.specs.Tables.{rows_after}

-- the probes that ageing to t sends for the addresses of this one VLAN, of those the ones that are due after `from`: in
-- order of the moment at which each is due, and then of address. Those of several VLANs go by moment, VLAN and address.
abbrev pub probes_between : AddrRules → AddrBase → List Named → ℕ → ℕ → ℕ → List SentProbe
probes_between r base past from t vlan = sends_after r.times from t (rows_after r base past vlan)

-- some address of the VLAN has another state at t than at `from`
abbrev pub HasChanged : AddrRules → AddrBase → List Named → ℕ → ℕ → ℕ → Type 0
HasChanged r base past from t vlan = (a : ℕ) × (state_at r base past t vlan a ≢ state_at r base past from vlan a)

-- x is one of these
abbrev pub IsAmong : {X : Type 0} → X → List X → Type 0
IsAmong x [] = ⊥
IsAmong x (y ∷ ys) = (x ≡ y) ⊎ IsAmong x ys

-- each comes before all that stand behind it: by the moment at which it is due, then by address, and no two alike
abbrev pub AreInOrder : List SentProbe → Type 0
AreInOrder [] = Unit {0}
AreInOrder (x ∷ xs) = AllByRecursion (λ later. is_before x later ≡ true) xs × AreInOrder xs
