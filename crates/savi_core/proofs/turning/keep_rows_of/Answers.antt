use Rattle.std.proofs.Common.{ℕ, ◌<◌, List, [], ◌∷◌, length, take, sym, ap, subst, ◌∙◌, arith}
use Rattle.std.proofs.lemmas.List.{append-nil, length-take, take_all}
use Rattle.savi_access.specs.declared.row.Row.{Row}
use Rattle.checkpoint.specs.Columns.{Columns, IsUpTo}
use Rattle.savi_core.specs.Turns.{with_rows}
use Rattle.savi_core.proofs.Shown.{some_row}
use Rattle.savi_core.proofs.Keeping.{each_of, up_behind, length_each, row_kept}
use Rattle.savi_core.proofs.turning.keep_rows_of.Goals.{in-Some, in_default}
use Rattle.savi_core.proofs.turning.keep_rows_of.Goals as goal

pub loop-i-init : goal.loop-i-init
loop-i-init c = ap (λ (rows : List (ℕ × Row)). record c.args.into.now { rows = rows }) (sym (append-nil c.args.into.now.rows))

pub put_row-requires : goal.put_row-requires
put_row-requires c =
    let rows = c.args.access.now.addresses.rows in
    let vlan : ℕ = c.args.access.now.vlan in
    let up : IsUpTo vlan c.loop-i.into.rows =
    subst (λ (l : List (ℕ × Row)). IsUpTo vlan l) (sym (ap (λ (k : Columns). k.rows) c.loop-i.invariant)) (up_behind vlan c.args.into.now.rows (take c.loop-i.i rows) c.requires.order) in
    record {
      room =
          omega (
            arith,
            ap (λ (k : Columns). length k.rows) c.loop-i.invariant,
            ap (λ (k : Columns). k.row_room) c.loop-i.invariant,
            length_each vlan c.args.into.now.rows (take c.loop-i.i rows),
            length-take c.loop-i.i rows,
            c.loop-i-test.true,
            c.size-i-end.ensures.size,
            c.requires.room,
          );
      order = subst (λ (v : ℕ). IsUpTo v c.loop-i.into.rows) (sym c.vlan.ensures) up;
    }

pub loop-i-preserved : goal.loop-i-preserved
loop-i-preserved c =
    let rows = c.args.access.now.addresses.rows in
    let vlan : ℕ = c.args.access.now.vlan in
    let within : c.loop-i.i < length rows = omega (arith, c.loop-i-test.true, c.size-i-end.ensures.size) in
    elim c.match-row.branch [
      | in-Some w ↦
          w.into-is
          ∙ row_kept vlan rows c.loop-i.i w.in-Some.address w.in-Some.state c.loop-i.into w.put_row.new.self c.args.into.now within w.in-Some.ensures c.loop-i.invariant
          (w.put_row.ensures ∙ ap (λ (v : ℕ). with_rows ((v, record { address = w.in-Some.address; state = w.in-Some.state }) ∷ []) c.loop-i.into) w.vlan.ensures)
      | in_default w ↦ absurd (some_row rows c.loop-i.i within (sym w.in_default.is ∙ c.row.ensures))
    ]

pub returns : goal.returns
returns c =
    let rows = c.args.access.now.addresses.rows in
    c.loop-i.invariant ∙ ap (λ (l : List Row). with_rows (each_of c.args.access.now.vlan l) c.args.into.now) (take_all c.loop-i.i rows (omega (arith, c.loop-i-test.false, c.size-i-end.ensures.size)))
