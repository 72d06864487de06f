use Rattle.std.proofs.Common.{◌≤◌, length, inr, arith}
use Rattle.cli_lang.proofs.TextSays.{one_word_says, no_stamp_says, command_short, stamp_says}
use Rattle.cli_lang.proofs.text.read_text.Goals as goal

pub returns-in_err-digits-clause-none : goal.returns-in_err-digits-clause-none
returns-in_err-digits-clause-none g c = rw c.from_residual.ensures (inr (one_word_says c.args.live c.args.text.now c.if-live.false c.in_err-digits.ensures))

pub returns-in_err-stamp-clause-none : goal.returns-in_err-stamp-clause-none
returns-in_err-stamp-clause-none g c =
    rw c.from_residual-in_err-stamp.ensures (inr (no_stamp_says c.args.live c.args.text.now c.in_ok-digits.digits.now c.in_ok-digits.command.now c.if-live.false c.in_ok-digits.ensures (λ n small. c.in_err-stamp.ensures.only n (omega (arith, small)))))

pub put_command-len-requires-2 : goal.put_command-len-requires-2
put_command-len-requires-2 g c =
    omega (arith, c.requires, command_short c.args.text.now c.in_ok-digits.digits.now c.in_ok-digits.command.now c.in_ok-digits.ensures)

pub returns-clause-some : goal.returns-clause-some
returns-clause-some g c =
    let short : length c.in_ok-digits.command.now ≤ 120 = omega (arith, c.requires, command_short c.args.text.now c.in_ok-digits.digits.now c.in_ok-digits.command.now c.in_ok-digits.ensures) in
    (omega arith, omega (arith, short, c.put_command-len-2.ensures.len), stamp_says c.args.live c.args.text.now c.in_ok-digits.digits.now c.in_ok-digits.command.now _ c.in_ok-stamp.stamp c.if-live.false c.in_ok-digits.ensures c.in_ok-stamp.ensures.read.0 (omega (arith, c.in_ok-stamp.ensures.read.1)) c.put_command-len-2.ensures.octets)
