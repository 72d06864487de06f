use Rattle.std.proofs.Common.{ℕ, refl, arith, length-drop}
use Rattle.savi_kinds.proofs.MacGrammar.{octets_of, after_first, after_next, no_first, no_next, nothing_left, left_none, left_some, from_octets}
use Rattle.savi_kinds.proofs.mac_text.read_mac.Goals as goal

pub returns-in_err-first-clause-only : goal.returns-in_err-first-clause-only
returns-in_err-first-clause-only c = rw c.from_residual.ensures (λ m h. no_first _ _ (octets_of _ m h).1 c.in_err-first.ensures.only)

pub returns-in_err-second-clause-only : goal.returns-in_err-second-clause-only
returns-in_err-second-clause-only c = rw c.from_residual-in_err-second.ensures (λ m h.
    let o = octets_of _ m h in
    no_next _ _ (omega (arith, o.2, length-drop {A = ℕ})) (after_first _ _ _ _ o.1 c.in_ok-first.ensures.read) c.in_err-second.ensures.only)

pub returns-in_err-third-clause-only : goal.returns-in_err-third-clause-only
returns-in_err-third-clause-only c = rw c.from_residual-in_err-third.ensures (λ m h.
    let o = octets_of _ m h in
    no_next _ _ (omega (arith, o.2, length-drop {A = ℕ})) (after_next _ _ _ _ (after_first _ _ _ _ o.1 c.in_ok-first.ensures.read) c.in_ok-second.ensures.read) c.in_err-third.ensures.only)

pub returns-in_err-fourth-clause-only : goal.returns-in_err-fourth-clause-only
returns-in_err-fourth-clause-only c = rw c.from_residual-in_err-fourth.ensures (λ m h.
    let o = octets_of _ m h in
    no_next _ _ (omega (arith, o.2, length-drop {A = ℕ})) (after_next _ _ _ _ (after_next _ _ _ _ (after_first _ _ _ _ o.1 c.in_ok-first.ensures.read) c.in_ok-second.ensures.read) c.in_ok-third.ensures.read) c.in_err-fourth.ensures.only)

pub returns-in_err-fifth-clause-only : goal.returns-in_err-fifth-clause-only
returns-in_err-fifth-clause-only c = rw c.from_residual-in_err-fifth.ensures (λ m h.
    let o = octets_of _ m h in
    no_next _ _ (omega (arith, o.2, length-drop {A = ℕ})) (after_next _ _ _ _ (after_next _ _ _ _ (after_next _ _ _ _ (after_first _ _ _ _ o.1 c.in_ok-first.ensures.read) c.in_ok-second.ensures.read) c.in_ok-third.ensures.read) c.in_ok-fourth.ensures.read) c.in_err-fifth.ensures.only)

pub returns-in_err-sixth-clause-only : goal.returns-in_err-sixth-clause-only
returns-in_err-sixth-clause-only c = rw c.from_residual-in_err-sixth.ensures (λ m h.
    let o = octets_of _ m h in
    no_next _ _ (omega (arith, o.2, length-drop {A = ℕ})) (after_next _ _ _ _ (after_next _ _ _ _ (after_next _ _ _ _ (after_next _ _ _ _ (after_first _ _ _ _ o.1 c.in_ok-first.ensures.read) c.in_ok-second.ensures.read) c.in_ok-third.ensures.read) c.in_ok-fourth.ensures.read) c.in_ok-fifth.ensures.read) c.in_err-sixth.ensures.only)

pub returns-then-is_empty-clause-read : goal.returns-then-is_empty-clause-read
returns-then-is_empty-clause-read c =
    let none = left_none c.in_ok-sixth.rest.now c.is_empty.result c.is_empty.ensures c.if-is_empty.true in
    from_octets _ _ refl (_, c.in_ok-first.ensures.read, (_, c.in_ok-second.ensures.read, (_, c.in_ok-third.ensures.read, (_, c.in_ok-fourth.ensures.read, (_, c.in_ok-fifth.ensures.read, (_, c.in_ok-sixth.ensures.read, none))))))

pub returns-else-is_empty-clause-only : goal.returns-else-is_empty-clause-only
returns-else-is_empty-clause-only c = λ m h.
    let o = octets_of _ m h in
    let none = nothing_left _ _ (omega (arith, o.2, length-drop {A = ℕ})) (after_next _ _ _ _ (after_next _ _ _ _ (after_next _ _ _ _ (after_next _ _ _ _ (after_next _ _ _ _ (after_first _ _ _ _ o.1 c.in_ok-first.ensures.read) c.in_ok-second.ensures.read) c.in_ok-third.ensures.read) c.in_ok-fourth.ensures.read) c.in_ok-fifth.ensures.read) c.in_ok-sixth.ensures.read) in
    left_some c.in_ok-sixth.rest.now c.is_empty.result c.is_empty.ensures c.if-is_empty.false none
