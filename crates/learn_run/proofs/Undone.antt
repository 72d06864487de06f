-- How many inputs aren't done.
use Rattle.std.proofs.Common.{◌≡◌, ℕ, suc, ◌+◌, ◌<◌, List, [], ◌∷◌, length, get_or, refl, arith}
use Rattle.port_worker.specs.declared.port_ends.Ahead.{Ahead}
use Rattle.port_worker.specs.declared.port_ends.Ahead.TheVariants as ahead
use Rattle.port_worker.specs.declared.port_ends.PortEnds.{PortEnds}

-- one for an input that isn't done
abbrev pub weight : Ahead → ℕ
weight ahead.Unread = 1
weight (ahead.Frame stamp len) = 1
weight (ahead.Long stamp len) = 1
weight ahead.End = 1
weight (ahead.Malformed at) = 1
weight ahead.Failed = 1
weight ahead.Done = 0

abbrev pub undone : {S K C : Type 0} → List (PortEnds S K C) → ℕ
undone [] = 0
undone (p ∷ ports) = weight p.ahead + undone ports

pub undone_same : {S K C : Type 0} (old new : List (PortEnds S K C)) → length new ≡ length old → ((k : ℕ) (d : PortEnds S K C) → k < length old → weight (get_or new k d).ahead ≡ weight (get_or old k d).ahead) → undone new ≡ undone old
undone_same [] [] size same = refl
undone_same [] (q ∷ new) size same = absurd (omega arith)
undone_same (p ∷ old) [] size same = absurd (omega arith)
undone_same (p ∷ old) (q ∷ new) size same =
    let first : weight q.ahead ≡ weight p.ahead = same 0 p (omega arith) in
    let later : undone new ≡ undone old = undone_same old new (omega arith) (λ k d inside. same (suc k) d (omega arith)) in
    omega arith
