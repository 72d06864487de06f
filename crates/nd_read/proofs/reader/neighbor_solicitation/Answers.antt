use Rattle.std.proofs.Common.{◌≡◌, List, ℕ, sym, ◌∙◌, subst, inl, inr}
use Rattle.std.proofs.lemmas.Bool.{false≢true, eqb-true, eq-eqb, not-true, not-false}
use Rattle.std.proofs.lemmas.Result.{err_from_is_err_and}
use Rattle.savi_kinds.specs.declared.address.Addr.{Addr}
use Rattle.savi_kinds.specs.Prefixes.{LiesIn, multicast, unspecified}
use Rattle.nd_read.specs.Messages.{target_of}
use Rattle.nd_read.proofs.Readings.{target_passed, target_failed, options_passed, options_failed, unspecified_failed, ns_reads}
use Rattle.nd_read.proofs.reader.neighbor_solicitation.Goals as goal
use Rattle.nd_read.proofs.reader.neighbor_solicitation.Goals.{else-dad-via-then-dad+else-not-is_solicited_node, then-named, else-named, else-dad-via-else-dad}

-- the target that was read is the message's
single : (message : List ℕ) (target : Addr) → target ≡ target_of message → (LiesIn target.0 multicast → ⊥) → LiesIn (target_of message).0 multicast → ⊥
single message target e h = let P : Addr → Type 0 = λ a. LiesIn a.0 multicast → ⊥ in subst P e h

pub returns-in_err-target : goal.returns-in_err-target
returns-in_err-target c =
    let ip = c.args.ip.now in
    let message = c.args.message.now in
    let p = err_from_is_err_and c.from_residual-in_err-target.result c.from_residual-in_err-target.ensures.1 in
    rw (p.1, p.2, c.in_err-target.ensures.err.0) (target_failed ip message (inl c.requires.kind) c.in_ok-test_header.ensures.ok c.in_err-target.ensures.err.1)

pub returns-in_err-named : goal.returns-in_err-named
returns-in_err-named c =
    let ip = c.args.ip.now in
    let message = c.args.message.now in
    let p = err_from_is_err_and c.from_residual-in_err-named.result c.from_residual-in_err-named.ensures.1 in
    let five = target_passed ip message c.in_ok-test_header.ensures.ok (single message c.in_ok-target.target c.in_ok-target.ensures.ok.0 c.in_ok-target.ensures.ok.1) in
    rw (p.1, p.2, c.in_err-named.ensures.err.0) (options_failed ip message (inr (inl c.requires.kind)) five c.in_err-named.ensures.err.1)

pub returns-then-not-is_solicited_node : goal.returns-then-not-is_solicited_node
returns-then-not-is_solicited_node c =
    let ip = c.args.ip.now in
    let message = c.args.message.now in
    let five = target_passed ip message c.in_ok-test_header.ensures.ok (single message c.in_ok-target.target c.in_ok-target.ensures.ok.0 c.in_ok-target.ensures.ok.1) in
    let six = options_passed ip message five c.in_ok-named.ensures.ok.0 in
    let here = eqb-true ip.src.0 unspecified (sym c.is_unspecified-dad.ensures ∙ c.if-dad.true) in
    unspecified_failed ip message (inr (inl c.requires.kind)) six here (elim c.if-named.branch [
      | then-named w ↦ inl (inr c.requires.kind, c.in_ok-named.ensures.ok.1.0 w.if-named.true)
      | else-named w ↦
          let away = not-true w.is_solicited_node.result (sym w.value-is ∙ c.if-not-is_solicited_node.true) in
          inr (c.requires.kind, λ lies. false≢true (sym away ∙ w.is_solicited_node.ensures.1 lies))
    ])

pub returns : goal.returns
returns c =
    let ip = c.args.ip.now in
    let message = c.args.message.now in
    let five = target_passed ip message c.in_ok-test_header.ensures.ok (single message c.in_ok-target.target c.in_ok-target.ensures.ok.0 c.in_ok-target.ensures.ok.1) in
    let six = options_passed ip message five c.in_ok-named.ensures.ok.0 in
    rw (c.in_ok-target.ensures.ok.0, c.is_unspecified-dad.ensures) (ns_reads ip message c.requires.kind six (λ here. elim c.else-dad.branch [
      | else-dad-via-then-dad+else-not-is_solicited_node w ↦ elim w.if-named.branch [
        | then-named v ↦ absurd (false≢true (sym w.if-not-is_solicited_node.false ∙ v.value-is ∙ v.if-named.true))
        | else-named v ↦
            let near = not-false v.is_solicited_node.result (sym v.value-is ∙ w.if-not-is_solicited_node.false) in
            ((λ names. false≢true (sym v.if-named.false ∙ c.in_ok-named.ensures.ok.1.1 names)), v.is_solicited_node.ensures.0 near)
      ]
      | else-dad-via-else-dad w ↦ absurd (false≢true (sym w.if-dad.false ∙ c.is_unspecified-dad.ensures ∙ eq-eqb ip.src.0 unspecified here))
    ]))
