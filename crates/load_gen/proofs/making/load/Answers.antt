use Rattle.std.proofs.Common.{ℕ, List, map, All, Vec, Global, ap, sym, subst, ◌∙◌, arith}
use Rattle.std.proofs.lemmas.List.{length-map, get_or-map}
use Rattle.std.proofs.lemmas.Simd.{map-map}
use Rattle.load_gen.specs.declared.capture.Capture.{Capture}
use Rattle.load_gen.specs.Inputs.{IsWhole}
use Rattle.load_gen.proofs.Wholes.{all_whole}
use Rattle.load_gen.proofs.making.load.Goals as goal

abbrev items_of : Vec ℕ Global → List ℕ
items_of v = v.items

-- what is true of each list of octets is true of the vector that has it
all_vectors : (P : List ℕ → Type 0) (vs : List (Vec ℕ Global)) → All P (map items_of vs) → All (λ (v : Vec ℕ Global). P v.items) vs
all_vectors P vs all k d within =
    subst P (get_or-map items_of vs k d (items_of d) within) (all k (items_of d) (omega (arith, within, length-map vs items_of)))

pub returns-clause-captures : goal.returns-clause-captures
returns-clause-captures c =
    ap (map items_of) c.in_ok-captures.ensures
    ∙ map-map items_of (λ (c : Capture). c.octets) c.in_ok-written.field-0.items
    ∙ c.in_ok-written.ensures

pub returns-clause-whole : goal.returns-clause-whole
returns-clause-whole c =
    all_vectors IsWhole c.in_ok-captures.captures.items
    (subst (All IsWhole) (sym (returns-clause-captures c)) (all_whole c.args.seed c.args.frames (omega arith)))
