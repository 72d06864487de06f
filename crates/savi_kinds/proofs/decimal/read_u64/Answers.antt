use Rattle.std.proofs.Common.{◌≡◌, refl, sym, arith, true≢false}
use Rattle.savi_kinds.proofs.DecimalGrammar.{of_ok, not_err, decimal_begins, decimal_utf8, digit_text, some_read, none_read}
use Rattle.savi_kinds.proofs.decimal.read_u64.Goals as goal

pub returns-then-is_digit-clause-read : goal.returns-then-is_digit-clause-read
returns-then-is_digit-clause-read c =
    let is = c.if-is_digit.ensures.0 refl in
    let read = digit_text c.args.text.now is.0 is.1 is.2 in
    rw c.from.ensures (read.0, omega (arith, read.1))

pub returns-then-not-begins_with_one_to_nine-clause-only :
    goal.returns-then-not-begins_with_one_to_nine-clause-only
returns-then-not-begins_with_one_to_nine-clause-only c = λ n small spelled.
    true≢false (sym (c.if-not-begins_with_one_to_nine.ensures.1
    (decimal_begins _ n small spelled (λ zero_is. true≢false (sym (c.if-is_digit.ensures.1 (rw zero_is (refl, omega arith, omega arith))))))))

pub returns-in_err-digits-clause-only : goal.returns-in_err-digits-clause-only
returns-in_err-digits-clause-only c = rw c.from_residual.ensures (λ n small spelled. not_err _ _ c.from_utf8.result c.ok.result c.ok.ensures.value c.in_err-digits.was c.from_utf8.ensures.cases (λ e fault. fault.0 (decimal_utf8 _ n small spelled)))

pub returns-clause-read : goal.returns-clause-read
returns-clause-read c =
    let text : c.in_ok-digits.digits.now ≡ c.args.text.now = (of_ok _ _ c.from_utf8.result c.ok.result c.in_ok-digits.digits c.ok.ensures.value c.in_ok-digits.was c.from_utf8.ensures.cases).0 in
    some_read _ c.parse.result c.ok-2.result (c.if-not-begins_with_one_to_nine.ensures.0 refl).0 (rw text at c.parse.ensures.value.0) c.ok-2.ensures.value

pub returns-clause-only : goal.returns-clause-only
returns-clause-only c =
    let text : c.in_ok-digits.digits.now ≡ c.args.text.now = (of_ok _ _ c.from_utf8.result c.ok.result c.in_ok-digits.digits c.ok.ensures.value c.in_ok-digits.was c.from_utf8.ensures.cases).0 in
    none_read _ c.parse.result c.ok-2.result (rw text at c.parse.ensures.value.0) c.ok-2.ensures.value
