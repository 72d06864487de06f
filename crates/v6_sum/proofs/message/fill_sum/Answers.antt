use Rattle.std.proofs.Common.{◌≡◌, ℕ, ◌+◌, ◌/◌, ◌%◌, ◌≤◌, List, [], ◌∷◌, length, get_or, set, ap, ◌∙◌, arith}
use Rattle.std.proofs.lemmas.List.{length-set}
use Rattle.v6_sum.specs.InternetChecksum.{with_word_at}
use Rattle.v6_sum.proofs.Checksums.{with_word_at-set, with_word_at-again}
use Rattle.v6_sum.proofs.message.fill_sum.Goals as goal

zeroed : (xs : List ℕ) (place : ℕ) → place + 2 ≤ length xs → set (set xs place 0) (place + 1) 0 ≡ with_word_at xs place 0
zeroed xs place within = with_word_at-set place xs 0 within

zeroed-length : (xs : List ℕ) (place : ℕ) → length (set (set xs place 0) (place + 1) 0) ≡ length xs
zeroed-length xs place = length-set (set xs place 0) (place + 1) 0 ∙ length-set xs place 0

-- the octets of a word written over the zeros
written : (xs bytes : List ℕ) (place word : ℕ) → place + 2 ≤ length xs → bytes ≡ word / 256 % 256 ∷ word % 256 ∷ []
    → set (set (set (set xs place 0) (place + 1) 0) place (get_or bytes 0 0)) (place + 1) (get_or bytes 1 0) ≡ with_word_at (set (set xs place 0) (place + 1) 0) place word
written xs bytes place word within e =
    rw e (with_word_at-set place (set (set xs place 0) (place + 1) 0) word (omega (arith, zeroed-length xs place)))

pub field_sum-requires-clause-zero : goal.field_sum-requires-clause-zero
field_sum-requires-clause-zero c =
    let xs = c.args.message.now in
    rw (zeroed xs c.args.place c.requires.within) (with_word_at-again c.args.place xs 0 0 c.requires.within)

pub returns-clause-ok : goal.returns-clause-ok
returns-clause-ok c =
    let e = written c.args.message.now c.to_be_bytes.result c.args.place c.field_sum.result c.requires.within c.to_be_bytes.ensures in
    rw e c.field_sum.ensures.ok

pub returns-clause-field : goal.returns-clause-field
returns-clause-field c =
    let xs = c.args.message.now in
    let place = c.args.place in
    let e = written xs c.to_be_bytes.result place c.field_sum.result c.requires.within c.to_be_bytes.ensures in
    let z = zeroed xs place c.requires.within in
    let value = rw z at c.field_sum.ensures.value in
    e ∙ ap (λ (l : List ℕ). with_word_at l place c.field_sum.result) z ∙ with_word_at-again place xs 0 c.field_sum.result c.requires.within ∙ ap (with_word_at xs place) value
