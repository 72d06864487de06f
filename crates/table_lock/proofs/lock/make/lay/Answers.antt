use Rattle.std.proofs.Common.{◌≡◌, List, [], ◌∷◌, ◌++◌, sym, ap, ◌∙◌, subst, Option, Some}
use Rattle.atomic_table.specs.Table.{opening}
use Rattle.table_lock.specs.Rule.{Keeps, opening_view}
use Rattle.table_lock.proofs.Seats.{opens}
use Rattle.table_lock.proofs.lock.make.lay.Goals as goal

pub new-requires : goal.new-requires
new-requires g c =
    let one : c.push_reserved.new.self.items ≡ Some c.args.v ∷ [] = c.push_reserved.ensures.items ∙ ap (λ (l : List (Option g.row.V.Denot)). l ++ Some c.args.v ∷ []) c.in-Ok-with_capacity.ensures.items in
    let F = g.V.Kept.fixed c.of.result.value in
    subst (λ (xs : List (Option g.row.V.Denot)). Keeps g.V.Kept.history g.V.Kept.fixed (g.V.Kept.fixed c.of.result.value) c.args.n (opening (0 ∷ 0 ∷ 0 ∷ []) xs (opening_view (g.V.Kept.fixed c.of.result.value)))) (sym one)
    (opens g.V.Kept.history g.V.Kept.fixed (g.V.Kept.fixed c.of.result.value) c.args.n c.args.v c.requires.empty (ap g.V.Kept.fixed (sym c.of.ensures)) c.requires.number.0 c.requires.number.1)
