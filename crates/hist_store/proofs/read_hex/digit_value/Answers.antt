use Rattle.std.proofs.Common.{◌≡◌, ℕ, ◌-◌, ◌<◌, ◌&&◌, nat_lt, nat_le, if◌then◌else◌, map, get_or, refl, ap, ◌∙◌, arith}
use Rattle.std.proofs.lemmas.Bool.Decides.{nat_tests}
use Rattle.std.proofs.lemmas.List.FromFn.{get_or-map-range_with_len}
use Rattle.std.specs.List.{range_with_len}
use Rattle.hist_store.specs.declared.read_hex.TheConstants.{DIGIT_VALUES}
use Rattle.hist_store.proofs.read_hex.digit_value.Goals as goal

abbrev value_of : ℕ → ℕ
value_of c = if nat_le 48 c && nat_lt c 58 then c - 48 else (if nat_le 97 c && nat_lt c 103 then c - 87 else 16)

-- the table has the value of each octet
table_is : DIGIT_VALUES ≡ map value_of (range_with_len 0 256)
table_is = refl

read : (c : ℕ) → c < 256 → get_or DIGIT_VALUES c 0 ≡ value_of c
read c small = ap (λ t. get_or t c 0) table_is ∙ get_or-map-range_with_len value_of 0 256 c c 0 small (omega arith)

pub returns-clause-most : goal.returns-clause-most
returns-clause-most c = rw c.from.ensures (rw (read c.args.c (omega arith)) (grind (arith, nat_tests)))

pub returns-clause-digit : goal.returns-clause-digit
returns-clause-digit c = rw c.from.ensures (rw (read c.args.c (omega arith)) (grind (arith, nat_tests)))

pub returns-clause-only : goal.returns-clause-only
returns-clause-only c = rw c.from.ensures (rw (read c.args.c (omega arith)) (λ value low is. grind (arith, nat_tests)))
