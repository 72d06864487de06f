use Rattle.std.proofs.Common.{◌≡◌, ℕ, ◌-◌, List, length, take, drop, refl, sym, ap, ◌∙◌}
use Rattle.std.proofs.lemmas.Bool.{false≢true}
use Rattle.std.proofs.lemmas.List.{take_rest}
use Rattle.byteorder.specs.Endian.{big_number}
use Rattle.nd_read.specs.Messages.{target_of}
use Rattle.nd_read.proofs.reader.unicast_target.Goals as goal

-- the number read from the target's place on
target_is : (message : List ℕ) (number : ℕ) → number ≡ big_number 16 (take (length message - 8) (drop 8 message)) → (target_of message).0 ≡ number
unfolding target_of
target_is message number e = sym (e ∙ ap (big_number 16) (take_rest message 8))

pub returns-then-is_multicast-clause-err : goal.returns-then-is_multicast-clause-err
returns-then-is_multicast-clause-err c =
    let e = target_is c.args.message.now c.read_u128.result c.read_u128.ensures in
    (refl, rw e (c.is_multicast.ensures.0 c.if-is_multicast.true))

pub returns-clause-ok : goal.returns-clause-ok
unfolding target_of
returns-clause-ok c =
    let e = target_is c.args.message.now c.read_u128.result c.read_u128.ensures in
    let same : c.read_u128.result ≡ (target_of c.args.message.now).0 = sym e in
    (ap (λ (n : ℕ). record { 0 = n }) same, λ lies. false≢true (sym c.if-is_multicast.false ∙ c.is_multicast.ensures.1 lies))
