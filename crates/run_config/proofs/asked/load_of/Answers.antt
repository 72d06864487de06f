use Rattle.std.proofs.Common.{◌≡◌, map, length, arith, ◌∙◌, sym, List, ℕ, [], ◌∷◌, codes, decimal, Decides, refl}
use Rattle.std.specs.String.{string_bytes}
use Rattle.std.proofs.lemmas.Bool.Decides.{Decides-eqb}
use Rattle.std.proofs.lemmas.Slice.Eq.{slice_eq-Decides}
use Rattle.run_config.proofs.WordLists.{map-three}
use Rattle.run_config.proofs.asked.load_of.Goals as goal

pub returns-in_ok-frames-in-len3-clause-some : goal.returns-in_ok-frames-in-len3-clause-some
returns-in_ok-frames-in-len3-clause-some c =
    let words : List (List ℕ) = map string_bytes c.args.words.now in
    let form : List ℕ = string_bytes c.form-item.result in
    let first : List ℕ = string_bytes c.seed-item.result in
    let second : List ℕ = string_bytes c.frames-item.result in
    let three : length c.args.words.now ≡ 3 = omega (arith, c.in-len3.len_at_least, c.in-len3.len_below) in
    let is : words ≡ form ∷ first ∷ second ∷ [] =
    map-three string_bytes c.args.words.now c.form-item.result c.seed-item.result c.frames-item.result three c.form-item.is c.seed-item.is c.frames-item.is in
    let decides : Decides c.eq.result (c.as_str.result.now ≡ codes "gen") = slice_eq-Decides Decides-eqb _ _ _ c.eq.ensures in
    let gen : form ≡ codes "gen" = sym c.as_str.ensures.value ∙ decides.0 c.if-eq.true in
    let seed_is : first ≡ decimal c.in_ok-seed-in-len3.seed = sym c.as_bytes.ensures.value ∙ c.in_ok-seed-in-len3.ensures.read.0 in
    let frames_is : second ≡ decimal c.in_ok-frames-in-len3.frames = sym c.as_bytes-in-len3.ensures.value ∙ c.in_ok-frames-in-len3.ensures.read.0 in
    record {
      spelled = is ∙ rw (gen, seed_is, frames_is) refl;
      seed_within = c.in_ok-seed-in-len3.ensures.read.1;
      frames_within = c.in_ok-frames-in-len3.ensures.read.1;
    }
