use Rattle.std.proofs.Common.{ℕ, ◌≡◌, ◌∷◌, ◌+◌, ◌≤◌, List, [], length, lit<, sym, ap, ◌∙◌, subst, arith, length-append}
use Rattle.std.proofs.lemmas.Fmt.{length-decimal-le}
use Rattle.savi_kinds.proofs.key_text.put_vlan.Goals as goal

pub push_str-requires : goal.push_str-requires
push_str-requires c =
    let sign : length c.push.new.self.bytes ≡ length c.new-text.result.bytes + 1 = ap length (c.push.ensures.ascii (lit< tt)) ∙ length-append c.new-text.result.bytes (64 ∷ []) in
    let digits : length c.format.result.now ≤ 4 = subst (λ (t : List ℕ). length t ≤ 4) (sym c.format.ensures.text) (length-decimal-le 4 c.args.vlan (omega arith) (omega (arith, c.requires)) (omega (arith, c.requires))) in
    omega (arith, sign, digits, ap length c.new-text.ensures)
