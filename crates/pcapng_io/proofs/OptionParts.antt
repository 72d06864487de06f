-- What stands at the front of so many octets of options.
use Rattle.std.proofs.Common.{◌≡◌, ◌≢◌, ℕ, zero, suc, ◌+◌, ◌<◌, ◌≤◌, ◌-◌, ◌^◌, nat_lt, if◌then◌else◌, lit<, Bool, true, false, IsTrue, List, [], ◌∷◌, ◌++◌, length, take, drop, get_or, Option, inl, inr, refl, sym, ap, subst, ◌∙◌, arith, length-append}
use Rattle.std.proofs.lemmas.List.{length-take}
use Rattle.std.proofs.lemmas.List.Elements.{All-head}
use Rattle.std.proofs.Math.Nat.{one-le-pow}
use Rattle.std.proofs.lemmas.Bool.Decides.{nat_tests}
use Rattle.pcap_io.specs.declared.kind.ByteOrder.{ByteOrder}
use Rattle.pcap_io.proofs.Fronts.{drop_front}
use Rattle.pcapng_io.specs.declared.stop.Stop.{Stop}
use Rattle.pcapng_io.specs.declared.stop.Stop.TheVariants as stop
use Rattle.pcapng_io.specs.declared.options.OptionRead.TheVariants as option
use Rattle.pcapng_io.specs.Numbers.{half_at}
use Rattle.pcapng_io.specs.Options.{padded, units_of, BlockOption, IsOption, IsResolution, AreOptions, IsSettled, resolved, Settle}
use Rattle.pcapng_io.specs.Pieces.{Stops, AreFront, IsOptionRead, IsResolutionRead}
use Rattle.pcapng_io.proofs.Fronts.{half_front}
use Rattle.pcapng_io.proofs.Parts.{fronts, stops_behind, wrong_stops}

-- there are some units in a second
pub units_positive : (v : ℕ) → 0 < units_of v
units_positive v = either (nat_lt v 128)
  where
    either : (b : Bool) → 0 < (if b then 10 ^ v else 2 ^ (v - 128))
    either true = one-le-pow v 10 (lit< tt)
    either false = one-le-pow (v - 128) 2 (lit< tt)

settled_head : (b : Bool) (o : BlockOption) (options : List BlockOption) (units : ℕ) → Settle b (o ∷ options) units → IsTrue b → IsSettled o
settled_head true o options units settle is = All-head IsSettled o options settle.0
settled_head false o options units settle is = absurd (cc)

-- an option begins with this head: its value with the padding, and the rest
pub record BeginsOption (order : ByteOrder) (is_interface : Bool) (head x : List ℕ) : Type 0 where
  pub body : List ℕ
  pub rest : List ℕ
  pub split : x ≡ body ++ rest
  pub one : BlockOption
  pub is : IsOption order (head ++ body) one
  pub settled : IsTrue is_interface → IsSettled one

begins : (order : ByteOrder) (is_interface : Bool) (units : ℕ) (head x : List ℕ) (options : List BlockOption) → length head ≡ 4 → half_at order 0 head ≢ 0 → AreOptions order options (head ++ x) → Settle is_interface options units → BeginsOption order is_interface head x
begins order is_interface units head x [] size some (inl none) settle = absurd (omega (arith, size, ap length none, length-append head x))
begins order is_interface units head x [] size some (inr code) settle = absurd (some (sym (half_front order 0 head x (omega (arith, size))) ∙ code.1))
begins order is_interface units head x (o ∷ options) size some are settle =
    let f = fronts head x are.0 are.1 are.2 (omega (arith, size, are.3.size)) in
    record {
      body = f.0;
      rest = are.1;
      split = f.2;
      one = o;
      is = subst (λ (l : List ℕ). IsOption order l o) f.1 are.3;
      settled = settled_head is_interface o options units settle;
    }

pub begins_option : (order : ByteOrder) (is_interface : Bool) (len : ℕ) (head x : List ℕ) → length head ≡ 4 → half_at order 0 head ≢ 0 → AreFront order is_interface len (head ++ x) → BeginsOption order is_interface head x
begins_option order is_interface len head x size some front = begins order is_interface front.1.0 head x front.1.1.0 size some front.1.1.1 front.1.1.2

body_size : (order : ByteOrder) (is_interface : Bool) (head x : List ℕ) → length head ≡ 4 → (b : BeginsOption order is_interface head x) → length b.body ≡ padded (half_at order 2 head)
body_size order is_interface head x size b =
    let named : half_at order 2 (head ++ b.body) ≡ half_at order 2 head = half_front order 2 head b.body (omega (arith, size)) in
    omega (arith, size, b.is.size, ap padded named, length-append head b.body)

-- an option that doesn't fit
pub option_too_long : (order : ByteOrder) (is_interface : Bool) (len : ℕ) (head : List ℕ) (left : Option (List ℕ)) → length head ≡ 4 → 4 ≤ len → half_at order 0 head ≢ 0 → len < 4 + padded (half_at order 2 head) → Stops (AreFront order is_interface len) stop.Malformed head left
option_too_long order is_interface len head left size least some long =
    wrong_stops (AreFront order is_interface len) head left
    (λ first front. omega (arith, size, least, front.0))
    (λ x front.
    let b = begins_option order is_interface len head x size some front in
    omega (arith, long, size, front.0, body_size order is_interface head x size b, length-append head x, ap length b.split, length-append b.body b.rest))

value_behind : (head body : List ℕ) (n : ℕ) → length head ≡ 4 → take n (drop 4 (head ++ body)) ≡ take n body
value_behind head body n size = ap (take n) (drop_front head body 4 size)

-- a resolution that is none, or is cut short
pub option_no_resolution : (order : ByteOrder) (is_interface : Bool) (len vl : ℕ) (head g : List ℕ) (why : Stop) (left : Option (List ℕ)) → length head ≡ 4 → 4 ≤ len → IsTrue is_interface → half_at order 0 head ≡ 9 → vl ≡ half_at order 2 head
    → Stops (λ x. (units : ℕ) × IsResolutionRead vl units x) why g left → Stops (AreFront order is_interface len) why (head ++ g) left
option_no_resolution order is_interface len vl head g why left size least is nine same stops =
    stops_behind (AreFront order is_interface len) (λ x. (units : ℕ) × IsResolutionRead vl units x) head g why left
    (λ first front. omega (arith, size, least, front.0))
    (λ x front.
    let b = begins_option order is_interface len head x size (omega (arith, nine)) front in
    let code : b.one.code ≡ 9 = b.is.code_is ∙ half_front order 0 head b.body (omega (arith, size)) ∙ nine in
    let named : half_at order 2 (head ++ b.body) ≡ vl = half_front order 2 head b.body (omega (arith, size)) ∙ sym same in
    let value : b.one.value ≡ take vl b.body = b.is.value_is ∙ ap (λ (n : ℕ). take n (drop 4 (head ++ b.body))) named ∙ value_behind head b.body vl size in
    let resolution : IsResolution (take vl b.body) = subst IsResolution value (b.settled is code) in
    let long : length b.body ≡ padded vl = body_size order is_interface head x size b ∙ ap padded (sym same) in
    (b.body, b.rest, b.split, (units_of (get_or b.body 0 0), (long, resolution, refl, units_positive (get_or b.body 0 0)))))
    stops

pub resolved_nine : (o : BlockOption) (units : ℕ) → o.code ≡ 9 → resolved units (o ∷ []) ≡ units_of (get_or o.value 0 0)
resolved_nine o units nine = grind (arith, nat_tests)

pub resolved_other : (o : BlockOption) (units : ℕ) → o.code ≢ 9 → resolved units (o ∷ []) ≡ units
resolved_other o units other = grind (arith, nat_tests)

-- an option that isn't the resolution of an interface was read
pub option_read : (order : ByteOrder) (is_interface : Bool) (len size units : ℕ) (head body : List ℕ) → length head ≡ 4 → half_at order 0 head ≢ 0 → length body ≡ padded (half_at order 2 head) → size ≡ 4 + padded (half_at order 2 head) → size ≤ len
    → (IsTrue is_interface → half_at order 0 head ≢ 9) → IsOptionRead order is_interface len units (option.Next size units) (head ++ body)
option_read order is_interface len size units head body head_size some body_size size_is fits other =
    let octets = head ++ body in
    let code : half_at order 0 octets ≡ half_at order 0 head = half_front order 0 head body (omega (arith, head_size)) in
    let named : half_at order 2 octets ≡ half_at order 2 head = half_front order 2 head body (omega (arith, head_size)) in
    let o : BlockOption = record { code = half_at order 0 octets; value = take (half_at order 2 octets) (drop 4 octets) } in
    let whole : length octets ≡ size = omega (arith, head_size, body_size, size_is, length-append head body) in (
      whole,
      fits,
      λ positive. positive,
      (
        o,
        record { size = whole ∙ size_is ∙ ap (λ (n : ℕ). 4 + padded n) (sym named); code_is = refl; some = λ none. some (sym code ∙ none); value_is = refl },
        λ is.
            let no : o.code ≢ 9 = λ nine. other is (sym code ∙ nine) in
            ((λ nine. absurd (no nine)), sym (resolved_other o units no)),
      ),
    )

-- the resolution of an interface was read
pub option_resolution_read : (order : ByteOrder) (is_interface : Bool) (len vl size units behind : ℕ) (head body : List ℕ) → length head ≡ 4 → half_at order 0 head ≡ 9 → vl ≡ half_at order 2 head → size ≡ 4 + padded vl → size ≤ len → IsResolutionRead vl behind body
    → IsOptionRead order is_interface len units (option.Next size behind) (head ++ body)
option_resolution_read order is_interface len vl size units behind head body head_size nine vl_is size_is fits read =
    let octets = head ++ body in
    let code : half_at order 0 octets ≡ 9 = half_front order 0 head body (omega (arith, head_size)) ∙ nine in
    let named : half_at order 2 octets ≡ vl = half_front order 2 head body (omega (arith, head_size)) ∙ sym vl_is in
    let o : BlockOption = record { code = half_at order 0 octets; value = take (half_at order 2 octets) (drop 4 octets) } in
    let value : o.value ≡ take vl body = ap (λ (n : ℕ). take n (drop 4 octets)) named ∙ value_behind head body vl head_size in
    let whole : length octets ≡ size = omega (arith, head_size, read.0, size_is, length-append head body) in
    let first : get_or (take vl body) 0 0 ≡ get_or body 0 0 = first_of vl body read.1.0 in (
      whole,
      fits,
      (λ positive. read.3),
      (
        o,
        record { size = whole ∙ size_is ∙ ap (λ (n : ℕ). 4 + padded n) (sym named); code_is = refl; some = omega (arith, code); value_is = refl },
        λ is. (
          (λ nine'. subst IsResolution (sym value) read.1),
          read.2 ∙ ap units_of (sym first ∙ ap (λ (l : List ℕ). get_or l 0 0) (sym value)) ∙ sym (resolved_nine o units code),
        ),
      ),
    )
  where
    first_of : (vl : ℕ) (body : List ℕ) → length (take vl body) ≡ 1 → get_or (take vl body) 0 0 ≡ get_or body 0 0
    first_of vl [] size = absurd (omega (arith, size, length-take {A = ℕ} vl []))
    first_of zero (x ∷ body) size = absurd (omega (arith, size))
    first_of (suc vl) (x ∷ body) size = refl
