use Rattle.std.proofs.Common.{◌≡◌, List, ℕ, sym, ◌∙◌, subst, inr}
use Rattle.std.proofs.lemmas.Bool.{false≢true}
use Rattle.std.proofs.lemmas.Result.{err_from_is_err_and}
use Rattle.savi_kinds.specs.declared.address.Addr.{Addr}
use Rattle.savi_kinds.specs.Prefixes.{LiesIn, multicast}
use Rattle.nd_read.specs.Messages.{target_of}
use Rattle.nd_read.proofs.Readings.{target_passed, target_failed, options_passed, options_failed, solicited_failed, na_reads}
use Rattle.nd_read.proofs.reader.neighbor_advertisement.Goals as goal
use Rattle.nd_read.proofs.reader.neighbor_advertisement.Goals.{else-is_multicast-via-then-is_multicast+else-flags-ne0, else-is_multicast-via-else-is_multicast}

-- the target that was read is the message's
single : (message : List ℕ) (target : Addr) → target ≡ target_of message → (LiesIn target.0 multicast → ⊥) → LiesIn (target_of message).0 multicast → ⊥
single message target e h = let P : Addr → Type 0 = λ a. LiesIn a.0 multicast → ⊥ in subst P e h

pub returns-in_err-target : goal.returns-in_err-target
returns-in_err-target c =
    let ip = c.args.ip.now in
    let message = c.args.message.now in
    let p = err_from_is_err_and c.from_residual-in_err-target.result c.from_residual-in_err-target.ensures.1 in
    rw (p.1, p.2, c.in_err-target.ensures.err.0) (target_failed ip message (inr c.requires.kind) c.in_ok-test_header.ensures.ok c.in_err-target.ensures.err.1)

pub returns-in_err-test_options : goal.returns-in_err-test_options
returns-in_err-test_options c =
    let ip = c.args.ip.now in
    let message = c.args.message.now in
    let p = err_from_is_err_and c.from_residual-in_err-test_options.result c.from_residual-in_err-test_options.ensures.1 in
    let five = target_passed ip message c.in_ok-test_header.ensures.ok (single message c.in_ok-target.target c.in_ok-target.ensures.ok.0 c.in_ok-target.ensures.ok.1) in
    rw (p.1, p.2, c.in_err-test_options.ensures.err.0) (options_failed ip message (inr (inr c.requires.kind)) five c.in_err-test_options.ensures.err.1)

pub returns-then-flags-ne0 : goal.returns-then-flags-ne0
returns-then-flags-ne0 c =
    let ip = c.args.ip.now in
    let message = c.args.message.now in
    let five = target_passed ip message c.in_ok-test_header.ensures.ok (single message c.in_ok-target.target c.in_ok-target.ensures.ok.0 c.in_ok-target.ensures.ok.1) in
    let six = options_passed ip message five c.in_ok-test_options.ensures.ok.0 in
    solicited_failed ip message c.requires.kind six (c.is_multicast.ensures.0 c.if-is_multicast.true) c.if-flags-ne0.true

pub returns : goal.returns
returns c =
    let ip = c.args.ip.now in
    let message = c.args.message.now in
    let five = target_passed ip message c.in_ok-test_header.ensures.ok (single message c.in_ok-target.target c.in_ok-target.ensures.ok.0 c.in_ok-target.ensures.ok.1) in
    let six = options_passed ip message five c.in_ok-test_options.ensures.ok.0 in
    rw c.in_ok-target.ensures.ok.0 (na_reads ip message c.requires.kind six (λ group. elim c.else-is_multicast.branch [
      | else-is_multicast-via-then-is_multicast+else-flags-ne0 w ↦ w.if-flags-ne0.false
      | else-is_multicast-via-else-is_multicast w ↦ absurd (false≢true (sym w.if-is_multicast.false ∙ c.is_multicast.ensures.1 group))
    ]))
