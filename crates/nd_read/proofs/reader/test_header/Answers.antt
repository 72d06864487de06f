use Rattle.std.proofs.Common.{sym, ◌∙◌, arith}
use Rattle.std.proofs.lemmas.Bool.{false≢true}
use Rattle.nd_read.specs.declared.message.NdFault.TheVariants.{HopLimit, Code, Short, Checksum}
use Rattle.nd_read.specs.Tests.{Passes}
use Rattle.nd_read.proofs.TestOrder.{before_none, before_more, first_failed}
use Rattle.nd_read.proofs.reader.test_header.Goals as goal

pub returns-then-ip-clause-err : goal.returns-then-ip-clause-err
unfolding Passes
returns-then-ip-clause-err c = first_failed _ _ HopLimit (before_none c.args.ip.now c.args.message.now) c.if-ip.true

pub returns-then-message-ne0-clause-err : goal.returns-then-message-ne0-clause-err
unfolding Passes
returns-then-message-ne0-clause-err c =
    let ip = c.args.ip.now in
    let message = c.args.message.now in
    let one = before_more ip message HopLimit (before_none ip message) c.if-ip.false in
    first_failed ip message Code one c.if-message-ne0.true

pub returns-then-message-fixed-clause-err : goal.returns-then-message-fixed-clause-err
unfolding Passes
returns-then-message-fixed-clause-err c =
    let ip = c.args.ip.now in
    let message = c.args.message.now in
    let one = before_more ip message HopLimit (before_none ip message) c.if-ip.false in
    let two = before_more ip message Code one c.if-message-ne0.false in
    first_failed ip message Short two (λ p. omega (arith, c.if-message-fixed.true, c.requires.fixed, p))

pub returns-then-not-sum_ok-clause-err : goal.returns-then-not-sum_ok-clause-err
unfolding Passes
returns-then-not-sum_ok-clause-err c =
    let ip = c.args.ip.now in
    let message = c.args.message.now in
    let one = before_more ip message HopLimit (before_none ip message) c.if-ip.false in
    let two = before_more ip message Code one c.if-message-ne0.false in
    let three = before_more ip message Short two (omega (arith, c.if-message-fixed.false, c.requires.fixed)) in
    first_failed ip message Checksum three (λ p. false≢true (sym c.if-not-sum_ok.true ∙ c.sum_ok.ensures.1 p))

pub returns-clause-ok : goal.returns-clause-ok
unfolding Passes
returns-clause-ok c =
    let ip = c.args.ip.now in
    let message = c.args.message.now in
    let one = before_more ip message HopLimit (before_none ip message) c.if-ip.false in
    let two = before_more ip message Code one c.if-message-ne0.false in
    let three = before_more ip message Short two (omega (arith, c.if-message-fixed.false, c.requires.fixed)) in
    before_more ip message Checksum three (c.sum_ok.ensures.0 c.if-not-sum_ok.false)
