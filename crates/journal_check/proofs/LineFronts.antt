-- Two fronts of one text, each made of lines: they are the same, or one goes on where the other ends.
use Rattle.std.proofs.Common.{◌≡◌, ◌⊎◌, ℕ, List, [], ◌∷◌, ◌++◌, refl, ap₂, sym, ◌∙◌, inl, inr, arith, append_assoc}
use Rattle.hist_store.specs.TextOfLines.{joined, lines_text}
use Rattle.hist_store.proofs.Words.{Avoids, IsLine, IsLines, avoids_append, word_avoids, parted, joined_same}
use Rattle.journal_check.specs.Feeds.{HasNoFeed}
use Rattle.journal_check.specs.Headers.{LineFields}

-- no line has a line feed
pub line_avoids : (ws : LineFields) → IsLine ws → Avoids 10 (joined ws)
line_avoids [] is = absurd is
line_avoids (w ∷ []) is = word_avoids 10 w (omega arith) is.0
line_avoids (w ∷ v ∷ ws) is =
    avoids_append 10 w (32 ∷ joined (v ∷ ws)) (word_avoids 10 w (omega arith) is.0) (λ same. omega arith, line_avoids (v ∷ ws) is.1)

-- no line feed, in either word
pub avoids_plain : (t : List ℕ) → HasNoFeed t → Avoids 10 t
avoids_plain [] plain = tt
avoids_plain (x ∷ t) plain = (plain.0, avoids_plain t plain.1)

pub plain_avoids : (t : List ℕ) → Avoids 10 t → HasNoFeed t
plain_avoids [] avoids = tt
plain_avoids (x ∷ t) avoids = (avoids.0, plain_avoids t avoids.1)

pub front_lines : (ls ms : List LineFields) → IsLines (ls ++ ms) → IsLines ls
front_lines [] ms is = tt
front_lines (l ∷ ls) ms is = (is.0, front_lines ls ms is.1)

pub record AreSame (ls : List LineFields) (s : List ℕ) (ms : List LineFields) (t : List ℕ) : Type 0 where
  pub lines : ls ≡ ms
  pub rest : s ≡ t

-- the second goes on where the first ends
pub record GoesOn (ls : List LineFields) (s : List ℕ) (ms : List LineFields) (t : List ℕ) : Type 0 where
  pub next : LineFields
  pub more : List LineFields
  pub lines : ms ≡ ls ++ next ∷ more
  pub rest : s ≡ joined next ++ 10 ∷ (lines_text more ++ t)

abbrev pub AreFronts : List LineFields → List ℕ → List LineFields → List ℕ → Type 0
AreFronts ls s ms t = AreSame ls s ms t ⊎ GoesOn ls s ms t ⊎ GoesOn ms t ls s

-- the same line in front of both
longer : (l m : LineFields) (ls ms : List LineFields) (s t : List ℕ) → l ≡ m → AreFronts ls s ms t → AreFronts (l ∷ ls) s (m ∷ ms) t
longer l m ls ms s t first (inl same) = inl (record { lines = ap₂ (λ (x : LineFields) (xs : List LineFields). x ∷ xs) first same.lines; rest = same.rest })
longer l m ls ms s t first (inr (inl on)) =
    inr (inl (record { next = on.next; more = on.more; lines = ap₂ (λ (x : LineFields) (xs : List LineFields). x ∷ xs) (sym first) on.lines; rest = on.rest }))
longer l m ls ms s t first (inr (inr on)) =
    inr (inr (record { next = on.next; more = on.more; lines = ap₂ (λ (x : LineFields) (xs : List LineFields). x ∷ xs) first on.lines; rest = on.rest }))

-- the first line, with its line feed, in front of what is behind
opened : (l : LineFields) (ls : List LineFields) (s : List ℕ) → lines_text (l ∷ ls) ++ s ≡ joined l ++ 10 ∷ (lines_text ls ++ s)
opened l ls s = append_assoc (joined l) (10 ∷ lines_text ls) s

pub fronts : (ls ms : List LineFields) (s t : List ℕ) → IsLines ls → IsLines ms → lines_text ls ++ s ≡ lines_text ms ++ t → AreFronts ls s ms t
fronts [] [] s t p q e = inl (record { lines = refl; rest = e })
fronts [] (m ∷ ms) s t p q e = inr (inl (record { next = m; more = ms; lines = refl; rest = e ∙ opened m ms t }))
fronts (l ∷ ls) [] s t p q e = inr (inr (record { next = l; more = ls; lines = refl; rest = sym e ∙ opened l ls s }))
fronts (l ∷ ls) (m ∷ ms) s t p q e =
    let both : joined l ++ 10 ∷ (lines_text ls ++ s) ≡ joined m ++ 10 ∷ (lines_text ms ++ t) = sym (opened l ls s) ∙ e ∙ opened m ms t in
    let parts = parted 10 (joined l) (joined m) (lines_text ls ++ s) (lines_text ms ++ t) (line_avoids l p.0) (line_avoids m q.0) both in
    longer l m ls ms s t (joined_same l m p.0 q.0 parts.0) (fronts ls ms s t p.1 q.1 parts.1)
