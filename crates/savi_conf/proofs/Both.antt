-- Two and three tests as one.
use Rattle.std.proofs.Common.{◌≡◌, ◌↔◌, Bool, false, IsTrue, sym, ◌∙◌}
use Rattle.std.proofs.lemmas.Bool.{false≢true}

-- a test that tells what another one does, where the value is the same
pub told : {P : Type 0} (a r : Bool) → r ≡ a → (IsTrue a ↔ P) → IsTrue r ↔ P
told a r same tells = (λ yes. tells.0 (sym same ∙ yes), λ p. same ∙ tells.1 p)

-- a test that fails refutes
pub refuted : {P : Type 0} (a : Bool) → a ≡ false → (IsTrue a ↔ P) → P → ⊥
refuted a fails tells p = false≢true (sym fails ∙ tells.1 p)
