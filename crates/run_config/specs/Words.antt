-- The forms of the command line.
use Rattle.std.specs.Prelude.{◌≡◌, ◌≤◌, ℕ, List, [], ◌∷◌, codes, decimal, ◌⊎◌}
use Rattle.run_config.specs.declared.asked.Asked.{Asked}
use Rattle.run_config.specs.declared.asked.Asked.TheVariants.{Replay, Serve, Check, Audit, Generate, Split, Learn, NoForm}

-- `replay FILE`, where FILE is this word
abbrev pub IsReplay : List ℕ → List (List ℕ) → Type 0
IsReplay file words = words ≡ codes "replay" ∷ file ∷ []

-- `serve FILE`
abbrev pub IsServe : List ℕ → List (List ℕ) → Type 0
IsServe file words = words ≡ codes "serve" ∷ file ∷ []

-- `check FILE`
abbrev pub IsCheck : List ℕ → List (List ℕ) → Type 0
IsCheck file words = words ≡ codes "check" ∷ file ∷ []

-- `gen SEED FRAMES`: a seed up to 2,147,483,647 and up to 100,000 packets, both in decimal without a leading zero
pub record IsGen (seed frames : ℕ) (words : List (List ℕ)) : Type 0 where
  pub spelled : words ≡ codes "gen" ∷ decimal seed ∷ decimal frames ∷ []
  pub seed_within : seed ≤ 2147483647
  pub frames_within : frames ≤ 100000

-- `split FILE`
abbrev pub IsSplitWords : List ℕ → List (List ℕ) → Type 0
IsSplitWords file words = words ≡ codes "split" ∷ file ∷ []

-- `learn FILE MS`: a window of up to 3,600,000 ms, in decimal without a leading zero
pub record IsLearn (file : List ℕ) (window : ℕ) (words : List (List ℕ)) : Type 0 where
  pub spelled : words ≡ codes "learn" ∷ file ∷ decimal window ∷ []
  pub within : window ≤ 3600000

-- `audit FILE`
abbrev pub IsAudit : List ℕ → List (List ℕ) → Type 0
IsAudit file words = words ≡ codes "audit" ∷ file ∷ []

-- one of the forms
abbrev pub IsForm : List (List ℕ) → Type 0
IsForm words =
    ((file : List ℕ) × IsReplay file words)
    ⊎ (((file : List ℕ) × IsServe file words)
    ⊎ (((file : List ℕ) × IsCheck file words)
    ⊎ (((seed : ℕ) × (frames : ℕ) × IsGen seed frames words)
    ⊎ (((file : List ℕ) × IsSplitWords file words)
    ⊎ (((file : List ℕ) × (window : ℕ) × IsLearn file window words)
    ⊎ ((file : List ℕ) × IsAudit file words))))))

-- the words ask for this
abbrev pub Asks : List (List ℕ) → Asked → Type 0
Asks words (Replay file) = IsReplay file.now words
Asks words (Serve file) = IsServe file.now words
Asks words (Check file) = IsCheck file.now words
Asks words (Audit file) = IsAudit file.now words
Asks words (Generate seed frames) = IsGen seed frames words
Asks words (Split file) = IsSplitWords file.now words
Asks words (Learn file window) = IsLearn file.now window words
Asks words NoForm = IsForm words → ⊥
