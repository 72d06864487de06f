use Rattle.std.proofs.Common.{◌≡◌, ◌++◌, ◌∷◌, [], List, ℕ, sym, ap, ◌∙◌, append_assoc, rules, arith}
use Rattle.savi_kinds.specs.declared.address.Mac.{Mac}
use Rattle.savi_kinds.specs.declared.port.Port.{Port}
use Rattle.bridge_fdb.specs.Stations.{rows_from}
use Rattle.state_rows.proofs.bridge_fdb_rows.rows.Goals as goal

pub loop-next-smaller : goal.loop-next-smaller
loop-next-smaller c = omega (arith, c.in-Some.ensures.behind)

pub loop-next-preserved : goal.loop-next-preserved
loop-next-preserved c =
    let told : List (Mac × Port × ℕ) = c.loop-next.rows.items in
    let later : List (Mac × Port × ℕ) = rows_from c.args.t c.in-Some.next.behind c.args.fdb.now in
    let pushed : c.push.new.self.items ≡ told ++ c.in-Some.next.row ∷ [] = search rules in
    ap (λ (items : List (Mac × Port × ℕ)). items ++ later) pushed
    ∙ append_assoc told (c.in-Some.next.row ∷ []) later
    ∙ ap (λ (rows : List (Mac × Port × ℕ)). told ++ rows) (sym c.in-Some.ensures.rows)
    ∙ c.loop-next.invariant
