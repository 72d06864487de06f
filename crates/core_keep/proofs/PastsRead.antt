-- A history is read again of its code.
use Rattle.std.proofs.Common.{◌≡◌, List, [], ◌∷◌, ◌++◌, length, refl, ap, sym, ◌∙◌, append_assoc, append-nil, length-append, arith}
use Rattle.hist_store.specs.Rows.{Row}
use Rattle.table_lock.specs.Entries.{EntryList}
use Rattle.core_keep.specs.RowCodes.{row_code, row_by_code}
use Rattle.core_keep.specs.Pasts.{coded, decoded}
use Rattle.core_keep.proofs.RowsRead.{row_again}

-- what came later is in front of what came before
pub decoded_behind : (a b : EntryList) → decoded (a ++ b) ≡ decoded b ++ decoded a
decoded_behind [] b = sym (append-nil (decoded b))
decoded_behind (code ∷ a) b =
    ap (λ (xs : List Row). xs ++ row_by_code code ∷ []) (decoded_behind a b) ∙ append_assoc (decoded b) (decoded a) (row_by_code code ∷ [])

pub past_again : (past : List Row) → decoded (coded past) ≡ past
past_again [] = refl
past_again (row ∷ past) =
    decoded_behind (coded past) (row_code row ∷ [])
    ∙ ap (λ (r : Row). r ∷ decoded (coded past)) (row_again row)
    ∙ ap (λ (rows : List Row). row ∷ rows) (past_again past)

pub size_coded : (past : List Row) → length (coded past) ≡ length past
size_coded [] = refl
size_coded (row ∷ past) = let h = size_coded past in omega (arith, length-append (coded past) (row_code row ∷ []))

pub one_past : (past other : List Row) → coded past ≡ coded other → past ≡ other
one_past past other same = sym (past_again past) ∙ ap decoded same ∙ past_again other
