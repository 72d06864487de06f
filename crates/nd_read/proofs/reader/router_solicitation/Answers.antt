use Rattle.std.proofs.Common.{sym, ◌∙◌, inl, inr}
use Rattle.std.proofs.lemmas.Bool.{false≢true, eqb-true, eq-eqb}
use Rattle.std.proofs.lemmas.Result.{err_from_is_err_and}
use Rattle.savi_kinds.specs.Prefixes.{unspecified}
use Rattle.nd_read.proofs.Readings.{rs_options, options_passed, options_failed, unspecified_failed, rs_reads}
use Rattle.nd_read.proofs.reader.router_solicitation.Goals as goal

pub returns-in_err-named : goal.returns-in_err-named
returns-in_err-named c =
    let ip = c.args.ip.now in
    let message = c.args.message.now in
    let p = err_from_is_err_and c.from_residual-in_err-named.result c.from_residual-in_err-named.ensures.1 in
    let five = rs_options ip message c.requires.kind c.in_ok-test_header.ensures.ok in
    rw (p.1, p.2, c.in_err-named.ensures.err.0) (options_failed ip message (inl c.requires.kind) five c.in_err-named.ensures.err.1)

pub returns-then-named : goal.returns-then-named
returns-then-named c =
    let ip = c.args.ip.now in
    let message = c.args.message.now in
    let five = rs_options ip message c.requires.kind c.in_ok-test_header.ensures.ok in
    let six = options_passed ip message five c.in_ok-named.ensures.ok.0 in
    let here = eqb-true ip.src.0 unspecified (sym c.is_unspecified.ensures ∙ c.if-is_unspecified.true) in
    unspecified_failed ip message (inl c.requires.kind) six here (inl (inl c.requires.kind, c.in_ok-named.ensures.ok.1.0 c.if-named.true))

pub returns : goal.returns
returns c =
    let ip = c.args.ip.now in
    let message = c.args.message.now in
    let five = rs_options ip message c.requires.kind c.in_ok-test_header.ensures.ok in
    let six = options_passed ip message five c.in_ok-named.ensures.ok.0 in
    rs_reads ip message c.requires.kind six (λ here names. elim c.else-is_unspecified.either [
      | inl w ↦ false≢true (sym w.1 ∙ c.in_ok-named.ensures.ok.1.1 names)
      | inr w ↦ false≢true (sym w ∙ c.is_unspecified.ensures ∙ eq-eqb ip.src.0 unspecified here)
    ])
