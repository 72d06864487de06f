use Rattle.std.proofs.Common.{◌≡◌, ◌++◌, ◌∷◌, [], ℕ, List, Decides, true≢false, refl, sym, ap, ◌∙◌}
use Rattle.std.proofs.lemmas.Bool.Decides.{Decides-eqb}
use Rattle.std.proofs.lemmas.Slice.Eq.{slice_eq-Decides}
use Rattle.savi_ends.specs.Octets.{in_front}
use Rattle.journal_check.specs.Pieces.{to_come}
use Rattle.journal_check.proofs.OpeningLines.{broken_not, other_not}
use Rattle.journal_check.proofs.openings.read_wanted.Goals as goal

pub returns-in-Broken-clause-bad : goal.returns-in-Broken-clause-bad
returns-in-Broken-clause-bad g c =
    (refl, broken_not c.args.wanted.now (to_come c.args.lines.now (g.S.Source.left c.args.source.now)) c.requires.plain c.requires.short c.in-Broken.ensures.taken)

pub returns-then-eq-clause-read : goal.returns-then-eq-clause-read
returns-then-eq-clause-read g c =
    let behind = to_come c.next.new.self (g.S.Source.left c.next.new.source) in
    let decides : Decides c.eq.result (c.as_slice.result.now ≡ c.args.wanted.now) = slice_eq-Decides Decides-eqb _ _ _ c.eq.ensures in
    let same : c.next.new.line.items ≡ c.args.wanted.now = sym c.as_slice.ensures.value ∙ decides.0 c.if-eq.true in
    c.in-Line.ensures.taken.1 ∙ ap (λ (l : List ℕ). in_front (l ++ 10 ∷ []) behind) same

pub returns-then-eq-clause-further : goal.returns-then-eq-clause-further
returns-then-eq-clause-further g c = c.in-Line.ensures.further refl

pub returns-else-eq-clause-bad : goal.returns-else-eq-clause-bad
returns-else-eq-clause-bad g c =
    let ahead = to_come c.args.lines.now (g.S.Source.left c.args.source.now) in
    let behind = to_come c.next.new.self (g.S.Source.left c.next.new.source) in
    let decides : Decides c.eq.result (c.as_slice.result.now ≡ c.args.wanted.now) = slice_eq-Decides Decides-eqb _ _ _ c.eq.ensures in
    let apart : c.next.new.line.items ≡ c.args.wanted.now → ⊥ = λ same. true≢false (sym (decides.1 (c.as_slice.ensures.value ∙ same)) ∙ c.if-eq.false) in
    (refl, other_not c.args.wanted.now c.next.new.line.items ahead behind c.requires.plain c.in-Line.ensures.taken.0 apart c.in-Line.ensures.taken.1)
