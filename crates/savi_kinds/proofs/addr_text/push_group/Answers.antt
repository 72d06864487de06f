use Rattle.std.proofs.Common.{◌≡◌, ◌/◌, ◌++◌, bit_and, ap}
use Rattle.savi_kinds.proofs.AddrSpelling.{digit_from, step_some, step_none, four_steps}
use Rattle.savi_kinds.proofs.addr_text.push_group.Goals as goal
use Rattle.savi_kinds.proofs.addr_text.push_group.Goals.{then-group-ge-FOUR_DIGITS, else-group-ge-FOUR_DIGITS, then-group-ge-THREE_DIGITS, else-group-ge-THREE_DIGITS, then-group-ge-TWO_DIGITS, else-group-ge-TWO_DIGITS}

pub returns-clause-bytes : goal.returns-clause-bytes
returns-clause-bytes c =
    let n = c.args.group in
    let first : c.if-group-ge-FOUR_DIGITS.text.bytes ≡ c.args.text.now.bytes ++ digit_from 0x1000 n (n / 0x1000) = elim c.if-group-ge-FOUR_DIGITS.branch [
      | then-group-ge-FOUR_DIGITS w ↦ step_some 0x1000 n (n / 0x1000) w.put_digit.result _ _ w.push.new.self.bytes w.if-group-ge-FOUR_DIGITS.true (ap (λ t. t.bytes) w.text-is) (w.push.ensures.ascii w.put_digit.ensures.ascii) w.put_digit.ensures.digit
      | else-group-ge-FOUR_DIGITS w ↦ step_none 0x1000 n (n / 0x1000) _ _ w.if-group-ge-FOUR_DIGITS.false (ap (λ t. t.bytes) w.text-is)
    ] in
    let second : c.if-group-ge-THREE_DIGITS.text.bytes ≡ c.if-group-ge-FOUR_DIGITS.text.bytes ++ digit_from 0x100 n (bit_and (n / 0x100) 15) = elim c.if-group-ge-THREE_DIGITS.branch [
      | then-group-ge-THREE_DIGITS w ↦ step_some 0x100 n (bit_and (n / 0x100) 15) w.put_digit-then-group-ge-THREE_DIGITS.result _ _ w.push-then-group-ge-THREE_DIGITS.new.self.bytes w.if-group-ge-THREE_DIGITS.true (ap (λ t. t.bytes) w.text-is) (w.push-then-group-ge-THREE_DIGITS.ensures.ascii w.put_digit-then-group-ge-THREE_DIGITS.ensures.ascii) w.put_digit-then-group-ge-THREE_DIGITS.ensures.digit
      | else-group-ge-THREE_DIGITS w ↦ step_none 0x100 n (bit_and (n / 0x100) 15) _ _ w.if-group-ge-THREE_DIGITS.false (ap (λ t. t.bytes) w.text-is)
    ] in
    let third : c.if-group-ge-TWO_DIGITS.text.bytes ≡ c.if-group-ge-THREE_DIGITS.text.bytes ++ digit_from 0x10 n (bit_and (n / 0x10) 15) = elim c.if-group-ge-TWO_DIGITS.branch [
      | then-group-ge-TWO_DIGITS w ↦ step_some 0x10 n (bit_and (n / 0x10) 15) w.put_digit-then-group-ge-TWO_DIGITS.result _ _ w.push-then-group-ge-TWO_DIGITS.new.self.bytes w.if-group-ge-TWO_DIGITS.true (ap (λ t. t.bytes) w.text-is) (w.push-then-group-ge-TWO_DIGITS.ensures.ascii w.put_digit-then-group-ge-TWO_DIGITS.ensures.ascii) w.put_digit-then-group-ge-TWO_DIGITS.ensures.digit
      | else-group-ge-TWO_DIGITS w ↦ step_none 0x10 n (bit_and (n / 0x10) 15) _ _ w.if-group-ge-TWO_DIGITS.false (ap (λ t. t.bytes) w.text-is)
    ] in
    four_steps n _ _ _ _ _ first second third (rw c.put_digit-2.ensures.digit at (c.push-2.ensures.ascii c.put_digit-2.ensures.ascii))
