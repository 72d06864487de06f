-- No file comes to be open both to be read and to be written.
use Rattle.std.proofs.Common.{◌≡◌, true, false, ◌&&◌, ◌||◌, ◌==◌, List, [], ◌∷◌, ◌++◌, refl, sym, ◌∙◌, ap, ◌⊎◌, inl, inr}
use Rattle.std.specs.List.{list_any}
use Rattle.std.proofs.lemmas.Bool.{cases_Bool, both_ways, and_parts, or_cases, or_from, eqb-true, false≢true}
use Rattle.std.proofs.lemmas.List.Folds.{list_any-append}
use Rattle.file_ends.specs.declared.file_id.FileId.{FileId}
use Rattle.file_ends.specs.Opened.{is_same, is_among}

among_same : (files : List FileId) (a b : FileId) → is_same a b ≡ true → is_among files b ≡ is_among files a
among_same files a b same =
    let parts : ((a.device == b.device) ≡ true) × ((a.inode == b.inode) ≡ true) = and_parts (a.device == b.device) (a.inode == b.inode) same in
    ap (λ n. list_any (λ other. other.device == n && other.inode == b.inode) files) (sym (eqb-true a.device b.device parts.0))
    ∙ ap (λ n. list_any (λ other. other.device == a.device && other.inode == n) files) (sym (eqb-true a.inode b.inode parts.1))

among_push : (files : List FileId) (new file : FileId) → is_among (files ++ new ∷ []) file ≡ true → (is_among files file ≡ true) ⊎ (is_same new file ≡ true)
among_push files new file is =
    let either : (is_among files file || (is_same new file || false)) ≡ true = sym (list_any-append (λ other. is_same other file) files (new ∷ [])) ∙ is in
    elim (or_cases (is_among files file) (is_same new file || false) either) [
      | inl before ↦ inl before
      | inr now ↦ elim (or_cases (is_same new file) false now) [
        | inl same ↦ inr same
        | inr never ↦ absurd (false≢true never)
      ]
    ]

pub apart_with_read : (read written : List FileId) (new : FileId) → ((file : FileId) → is_among read file ≡ true → is_among written file ≡ false) → is_among written new ≡ false
    → (file : FileId) → is_among (read ++ new ∷ []) file ≡ true → is_among written file ≡ false
apart_with_read read written new apart free file is =
    elim (among_push read new file is) [
      | inl before ↦ apart file before
      | inr same ↦ among_same written new file same ∙ free
    ]

pub apart_with_written : (read written : List FileId) (new : FileId) → ((file : FileId) → is_among read file ≡ true → is_among written file ≡ false) → is_among read new ≡ false
    → (file : FileId) → is_among read file ≡ true → is_among (written ++ new ∷ []) file ≡ false
apart_with_written read written new apart free file is =
    let other : is_same new file ≡ false =
    elim (cases_Bool (is_same new file)) [
      | inl same ↦ absurd (both_ways (is_among read new) free (sym (among_same read new file same) ∙ is))
      | inr differs ↦ differs
    ] in
    list_any-append (λ o. is_same o file) written (new ∷ []) ∙ or_from (is_among written file) (is_same new file || false) (apart file is) (or_from (is_same new file) false other refl)
