-- The names of outputs tell their interfaces apart.
use Rattle.std.proofs.Common.{◌≡◌, ℕ, ◌+◌, ◌<◌, List, [], ◌∷◌, ◌++◌, length, codes, decimal, refl, sym, ap, ◌∙◌, arith, inl, inr, length-append}
use Rattle.std.proofs.lemmas.Bool.{cases_lt}
use Rattle.std.proofs.lemmas.Fmt.{decimal_injective}
use Rattle.std.proofs.lemmas.List.{append_cancel_left, append_cancel_right, get_or_append_left, get_or_at}
use Rattle.split_run.specs.Names.{output_name, name_in, AreNames, AreNamesApart}

pub output_names_differ : (file : List ℕ) (j k : ℕ) → j < 16 → k < 16 → output_name file j ≡ output_name file k → j ≡ k
output_names_differ file j k low_j low_k same =
    let behind_file = append_cancel_left file (codes "." ++ (decimal j ++ codes ".pcap")) (codes "." ++ (decimal k ++ codes ".pcap")) same in
    let behind_point = append_cancel_left (codes ".") (decimal j ++ codes ".pcap") (decimal k ++ codes ".pcap") behind_file in
    decimal_injective j k (omega (arith, low_j)) (omega (arith, low_k)) (append_cancel_right (decimal j) (decimal k) (codes ".pcap") behind_point)

pub names_apart : (file : List ℕ) (names : List (List ℕ)) → AreNames file names → AreNamesApart names
names_apart file names are j k inside_j inside_k same =
    let low_j : j < 16 = omega (arith, inside_j, are.count) in
    let low_k : k < 16 = omega (arith, inside_k, are.count) in
    output_names_differ file j k low_j low_k (sym (are.each j low_j) ∙ same ∙ are.each k low_k)

-- the first names are those of the first interfaces
pub record AreFirst (file : List ℕ) (count : ℕ) (names : List (List ℕ)) : Type 0 where
  pub size : length names ≡ count
  pub each : (k : ℕ) → k < count → name_in names k ≡ output_name file k

pub first_more : (file : List ℕ) (count : ℕ) (names names' : List (List ℕ)) (name : List ℕ) → AreFirst file count names → names' ≡ names ++ name ∷ [] → name ≡ output_name file count → AreFirst file (count + 1) names'
first_more file count names names' name are pushed is = rw pushed (record {
  size = omega (arith, are.size, length-append names (name ∷ []));
  each = λ k below. elim (cases_lt k count) [
    | inl front ↦ get_or_append_left names (name ∷ []) [] k (omega (arith, front, are.size)) ∙ are.each k front
    | inr last ↦
        let at : k ≡ count = omega (arith, last, below) in
        get_or_at names name [] [] k (omega (arith, at, are.size)) ∙ is ∙ ap (output_name file) (sym at)
  ];
})

pub first_none : (file : List ℕ) (names : List (List ℕ)) → names ≡ [] → AreFirst file 0 names
first_none file names none = rw none (record { size = refl; each = λ k below. absurd (omega (arith, below)) })

pub first_all : (file : List ℕ) (names : List (List ℕ)) → AreFirst file 16 names → AreNames file names
first_all file names are = record { count = are.size; each = are.each }
