-- The octets that are held: what was taken of them, and that nothing is read while there are enough.
use Rattle.std.proofs.Common.{ℕ, ◌≡◌, ◌≢◌, ◌+◌, ◌-◌, ◌<◌, ◌≤◌, List, [], ◌∷◌, ◌++◌, length, take, drop, slice_range, refl, sym, ap, ◌∙◌, arith, length-append, append_assoc, append-nil, length-drop, ◌⊎◌, inl, inr, Option, Some, None}
use Rattle.std.proofs.lemmas.List.{drop-take, take-take, take_at, length-take}
use Rattle.std.proofs.lemmas.List.Folds.{drop_split}
use Rattle.savi_ends.specs.Octets.{Takes}

-- a piece of a front of the buffer is that piece of the buffer
range_of_front : (at n end : ℕ) (buffer : List ℕ) → at + n ≤ end → slice_range (take end buffer) at (at + n) ≡ slice_range buffer at (at + n)
range_of_front at n end buffer within =
    let more : end ≡ at + (end - at) = omega (arith, within) in
    ap (λ (e : ℕ). take (at + n - at) (drop at (take e buffer))) more
    ∙ ap (λ (l : List ℕ). take (at + n - at) l) (drop-take at (end - at) buffer)
    ∙ take-take (at + n - at) (end - at) (drop at buffer) (omega (arith, within))

-- what is held is the piece that was copied, and what is held behind it
pub moved : (at n end : ℕ) (buffer post : List ℕ) → at + n ≤ end → end ≤ length buffer → drop at (take end buffer) ≡ take n (slice_range buffer at (at + n) ++ post) ++ drop (at + n) (take end buffer)
moved at n end buffer post within fits =
    let size : length (slice_range buffer at (at + n)) ≡ n = omega (arith, within, fits, length-take (at + n - at) (drop at buffer), length-drop at buffer) in
    drop_split (take end buffer) at (at + n) (omega arith)
    ∙ ap (λ (l : List ℕ). l ++ drop (at + n) (take end buffer)) (range_of_front at n end buffer within ∙ sym (take_at (slice_range buffer at (at + n)) post n size))

-- a call that read nothing took nothing
pub takes_none : (left : Option (List ℕ)) → Takes left left []
takes_none None = refl
takes_none (Some rest) = refl

-- what was held at first and taken since is what was used and what is held
pub used_more : (initial gave more front held now part later : List ℕ) → initial ++ gave ≡ front ++ held → now ≡ held ++ more → now ≡ part ++ later → initial ++ (gave ++ more) ≡ (front ++ part) ++ later
used_more initial gave more front held now part later was took used =
    sym (append_assoc initial gave more)
    ∙ ap (λ (l : List ℕ). l ++ more) was
    ∙ append_assoc front held more
    ∙ ap (λ (l : List ℕ). front ++ l) (sym took ∙ used)
    ∙ sym (append_assoc front part later)

-- where nothing is held then, it was all used
pub used_all : (initial gave more front held now : List ℕ) → initial ++ gave ≡ front ++ held → now ≡ held ++ more → now ≡ [] → initial ++ (gave ++ more) ≡ front
used_all initial gave more front held now was took none =
    used_more initial gave more front held now [] [] was took none ∙ append-nil (front ++ []) ∙ append-nil front

-- The source wasn't read, and what was held at first is what was used and what is held; or more was used than was held.
abbrev pub Unread : {S : Type 0} → S → S → List ℕ → List ℕ → List ℕ → Type 0
Unread now first initial front held = ((now ≡ first) × (initial ≡ front ++ held)) ⊎ (length initial < length front)

pub unread_more : {S : Type 0} (next now first : S) (initial front held hold part later : List ℕ) → Unread now first initial front held → (held ≢ [] → (next ≡ now) × (hold ≡ held)) → hold ≡ part ++ later → 1 ≤ length part → Unread next first initial (front ++ part) later
unread_more next now first initial front held hold part later (inr past) same used some =
    inr (omega (arith, past, length-append front part))
unread_more next now first initial front [] hold part later (inl so) same used some =
    inr (omega (arith, some, ap length so.1, length-append front [], length-append front part))
unread_more next now first initial front (x ∷ held) hold part later (inl so) same used some =
    let is = same (λ none. cc) in
    inl (is.0 ∙ so.0, so.1 ∙ ap (λ (l : List ℕ). front ++ l) (sym is.1 ∙ used) ∙ sym (append_assoc front part later))
