use Rattle.std.proofs.Common.{◌≡◌, ◌+◌, ◌-◌, ◌*◌, ◌<◌, ◌≤◌, ◌++◌, ◌⊎◌, [], ◌∷◌, length, get_or, take, drop, inl, inr, arith, sym, ◌∙◌, ap}
use Rattle.std.specs.Option.{option_to_list}
use Rattle.std.proofs.lemmas.List.{take_rest, length-append, length-drop, length-take-le}
use Rattle.arrayvec.specs.ArrayVec.{ArrayVec}
use Rattle.ra_learn.specs.declared.advert.AdvertPrefix.{AdvertPrefix}
use Rattle.ra_learn.specs.PrefixOptions.{prefix_if_counts, option_in}
use Rattle.ra_learn.proofs.Rows.{prefixes_more, append_none, rows_none, row_none}
use Rattle.ra_learn.proofs.options.read_prefixes.Goals as goal
use Rattle.ra_learn.proofs.options.read_prefixes.Goals.{in-Some, in_default-prefix_if_counts}

pub option-preserved : goal.option-preserved
option-preserved c =
    let rest = c.option.rest.now in
    let found = c.option.prefixes.items in
    let units = c.from-len.ensures in
    let known : (c.match-prefix_if_counts.prefixes.items ≡ found ++ option_to_list (prefix_if_counts (option_in (take (8 * get_or rest 1 0) rest)))) × (32 * length c.match-prefix_if_counts.prefixes.items + length (drop (8 * get_or rest 1 0) rest) ≤ length c.args.octets.now) =
    let within : 8 * c.from-len.result ≤ length rest = c.if-rest-len.false in
    let less : length (drop (8 * get_or rest 1 0) rest) ≡ length rest - 8 * get_or rest 1 0 = length-drop (8 * get_or rest 1 0) rest in
    let room : 32 * length found + length rest ≤ length c.args.octets.now = c.option.invariant.room in
    elim c.match-prefix_if_counts.branch [
      | in-Some w ↦
          let items : c.match-prefix_if_counts.prefixes.items ≡ found ++ w.in-Some.prefix ∷ [] = ap (λ (v : ArrayVec AdvertPrefix). v.items) w.prefixes-is ∙ w.push.ensures.items in
          let long : length (take (8 * c.from-len.result) rest) ≡ 32 = w.in-Some.ensures.long in
          let all : length (take (8 * c.from-len.result) rest) ≡ 8 * c.from-len.result = length-take-le (8 * c.from-len.result) rest within in
          let one : length (found ++ w.in-Some.prefix ∷ []) ≡ length found + 1 = length-append found (w.in-Some.prefix ∷ []) in (
            items ∙ ap (λ o. found ++ option_to_list o) (w.in-Some.ensures.value ∙ ap (λ n. prefix_if_counts (option_in (take (8 * n) rest))) units),
            omega (arith, less, room, long, all, one, ap length items, units),
          )
      | in_default-prefix_if_counts w ↦
          let items : c.match-prefix_if_counts.prefixes.items ≡ found = ap (λ (v : ArrayVec AdvertPrefix). v.items) w.prefixes-is in
          let none : option_to_list (prefix_if_counts (option_in (take (8 * c.from-len.result) rest))) ≡ [] = ap option_to_list (sym w.in_default-prefix_if_counts.ensures.value) in (
            items ∙ sym (append_none found) ∙ ap (λ more. found ++ more) (sym none ∙ ap (λ n. option_to_list (prefix_if_counts (option_in (take (8 * n) rest)))) units),
            omega (arith, less, room, ap length items),
          )
    ] in
    rw (take_rest rest (8 * c.from-len.result), units) (record {
      told = prefixes_more c.args.octets.now rest found c.match-prefix_if_counts.prefixes.items c.option.invariant.told (omega (arith, c.if-len-eq0.false, units)) (omega (arith, c.if-rest-len.false, units)) known.0;
      room = known.1;
    })

pub returns-then-len-eq0 : goal.returns-then-len-eq0
returns-then-len-eq0 c =
    let rest = c.option.rest.now in
    let stops : (get_or rest 1 0 ≡ 0) ⊎ (length rest < 8 * get_or rest 1 0) =
    elim c.then-len-eq0.either [
      | inl none ↦ inl (omega (arith, none, c.from-len.ensures))
      | inr short ↦ inr (omega (arith, short.1, c.from-len.ensures))
    ] in
    rows_none c.args.octets.now rest c.option.prefixes.items c.option.invariant.told (row_none rest c.in-len2-up.len_at_least stops)
