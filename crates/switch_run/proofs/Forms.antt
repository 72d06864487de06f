-- The words of the command line name one file to be replayed, served, checked or split, or one load.
use Rattle.std.proofs.Common.{◌≡◌, ◌<◌, ◌^◌, ℕ, List, [], ◌∷◌, get_or, sym, ap, ◌∙◌, codes, decimal, arith}
use Rattle.std.proofs.lemmas.Fmt.{decimal_is_IsNumeral}
use Rattle.std.specs.Str.Parse.{digits_value}
use Rattle.run_config.specs.Words.{IsCheck, IsGen, IsReplay, IsServe, IsSplitWords}

pub same_file : (words : List (List ℕ)) (a b : List ℕ) → IsReplay a words → IsReplay b words → a ≡ b
same_file words a b first second =
    let both : codes "replay" ∷ a ∷ [] ≡ codes "replay" ∷ b ∷ [] = sym first ∙ second in
    cc

pub same_served : (words : List (List ℕ)) (a b : List ℕ) → IsServe a words → IsServe b words → a ≡ b
same_served words a b first second =
    let both : codes "serve" ∷ a ∷ [] ≡ codes "serve" ∷ b ∷ [] = sym first ∙ second in
    cc

pub same_journal : (words : List (List ℕ)) (a b : List ℕ) → IsCheck a words → IsCheck b words → a ≡ b
same_journal words a b first second =
    let both : codes "check" ∷ a ∷ [] ≡ codes "check" ∷ b ∷ [] = sym first ∙ second in
    cc

-- a number has one text
same_number : (m n : ℕ) → m < 2 ^ 64 → n < 2 ^ 64 → decimal m ≡ decimal n → m ≡ n
same_number m n small few same =
    sym (decimal_is_IsNumeral m small).1 ∙ ap (λ (text : List ℕ). digits_value 10 text) same ∙ (decimal_is_IsNumeral n few).1

pub same_load : (words : List (List ℕ)) (seed frames seed' frames' : ℕ) → IsGen seed frames words → IsGen seed' frames' words → (seed ≡ seed') × (frames ≡ frames')
same_load words seed frames seed' frames' one other =
    let both : codes "gen" ∷ decimal seed ∷ decimal frames ∷ [] ≡ codes "gen" ∷ decimal seed' ∷ decimal frames' ∷ [] = sym one.spelled ∙ other.spelled in
    let seeds : decimal seed ≡ decimal seed' = cc in
    let counts : decimal frames ≡ decimal frames' = cc in (
      same_number seed seed' (omega (arith, one.seed_within)) (omega (arith, other.seed_within)) seeds,
      same_number frames frames' (omega (arith, one.frames_within)) (omega (arith, other.frames_within)) counts,
    )

-- no words ask for a replay of a file and for a live session
pub not_served : (words : List (List ℕ)) (a b : List ℕ) → IsReplay a words → IsServe b words → ⊥
not_served words a b replay serve =
    let both : codes "replay" ∷ a ∷ [] ≡ codes "serve" ∷ b ∷ [] = sym replay ∙ serve in
    cc

-- nor for a live session and for the check of a file
pub not_live : (words : List (List ℕ)) (a b : List ℕ) → IsServe a words → IsCheck b words → ⊥
not_live words a b serve check =
    let both : codes "serve" ∷ a ∷ [] ≡ codes "check" ∷ b ∷ [] = sym serve ∙ check in
    let first : 115 ≡ 99 = ap (λ (ws : List (List ℕ)). get_or (get_or ws 0 []) 0 0) both in
    omega (arith, first)

-- nor for a live session and for a load: there are two or three
pub not_loaded : (words : List (List ℕ)) (file : List ℕ) (seed frames : ℕ) → IsServe file words → IsGen seed frames words → ⊥
not_loaded words file seed frames serve gen =
    let both : codes "serve" ∷ file ∷ [] ≡ codes "gen" ∷ decimal seed ∷ decimal frames ∷ [] = sym serve ∙ gen.spelled in
    cc

-- no words ask for a replay of a file and for the check of one
pub not_checked : (words : List (List ℕ)) (a b : List ℕ) → IsReplay a words → IsCheck b words → ⊥
not_checked words a b replay check =
    let both : codes "replay" ∷ a ∷ [] ≡ codes "check" ∷ b ∷ [] = sym replay ∙ check in
    cc

-- nor for the check of a file and for a load: there are two or three
pub not_judged : (words : List (List ℕ)) (file : List ℕ) (seed frames : ℕ) → IsCheck file words → IsGen seed frames words → ⊥
not_judged words file seed frames check gen =
    let both : codes "check" ∷ file ∷ [] ≡ codes "gen" ∷ decimal seed ∷ decimal frames ∷ [] = sym check ∙ gen.spelled in
    cc

-- no words ask for a replay of a file and for a load: there are two or three
pub not_both : (words : List (List ℕ)) (file : List ℕ) (seed frames : ℕ) → IsReplay file words → IsGen seed frames words → ⊥
not_both words file seed frames replay gen =
    let both : codes "replay" ∷ file ∷ [] ≡ codes "gen" ∷ decimal seed ∷ decimal frames ∷ [] = sym replay ∙ gen.spelled in
    cc

pub same_capture : (words : List (List ℕ)) (a b : List ℕ) → IsSplitWords a words → IsSplitWords b words → a ≡ b
same_capture words a b first second =
    let both : codes "split" ∷ a ∷ [] ≡ codes "split" ∷ b ∷ [] = sym first ∙ second in
    cc

-- what is to be split isn't to be replayed, served or checked
pub not_split_replay : (words : List (List ℕ)) (a b : List ℕ) → IsReplay a words → IsSplitWords b words → ⊥
not_split_replay words a b replay split =
    let both : codes "replay" ∷ a ∷ [] ≡ codes "split" ∷ b ∷ [] = sym replay ∙ split in
    let first : 114 ≡ 115 = ap (λ (ws : List (List ℕ)). get_or (get_or ws 0 []) 0 0) both in
    omega (arith, first)

pub not_split_serve : (words : List (List ℕ)) (a b : List ℕ) → IsServe a words → IsSplitWords b words → ⊥
not_split_serve words a b serve split =
    let both : codes "serve" ∷ a ∷ [] ≡ codes "split" ∷ b ∷ [] = sym serve ∙ split in
    let second : 101 ≡ 112 = ap (λ (ws : List (List ℕ)). get_or (get_or ws 0 []) 1 0) both in
    omega (arith, second)

pub not_split_check : (words : List (List ℕ)) (a b : List ℕ) → IsCheck a words → IsSplitWords b words → ⊥
not_split_check words a b check split =
    let both : codes "check" ∷ a ∷ [] ≡ codes "split" ∷ b ∷ [] = sym check ∙ split in
    let first : 99 ≡ 115 = ap (λ (ws : List (List ℕ)). get_or (get_or ws 0 []) 0 0) both in
    omega (arith, first)

-- nor is it a load: there are two or three words
pub not_split_load : (words : List (List ℕ)) (file : List ℕ) (seed frames : ℕ) → IsGen seed frames words → IsSplitWords file words → ⊥
not_split_load words file seed frames gen split =
    let both : codes "split" ∷ file ∷ [] ≡ codes "gen" ∷ decimal seed ∷ decimal frames ∷ [] = sym split ∙ gen.spelled in
    cc
