use Rattle.std.proofs.Common.{ℕ, ◌++◌, length, Vec, Global, vec_capacity, arith, sym, ◌∙◌, ap}
use Rattle.ra_learn.specs.Printed.{link_prefix_line}
use Rattle.ra_learn.specs.Tables.{prefix_stands}
use Rattle.ra_learn.proofs.Kept.{line_kept, line_left_out}
use Rattle.ra_learn.proofs.prefixes.put_lines.Goals as goal
use Rattle.ra_learn.proofs.prefixes.put_lines.Goals.{then-stands, else-stands}

pub loop-prefix-preserved : goal.loop-prefix-preserved
loop-prefix-preserved c =
    let i : ℕ = c.loop-prefix.prefix-index in
    elim c.if-stands.branch [
      | then-stands w ↦ record {
        items =
            ap (λ (v : Vec ℕ Global). v.items) w.text-is
            ∙ w.push_line.ensures.items
            ∙ ap (λ line. c.loop-prefix.text.items ++ line) w.put_prefix.ensures
            ∙ line_kept link_prefix_line (prefix_stands c.args.t) c.args.prefixes.now i _ c.loop-prefix-test.true (sym c.stands.ensures ∙ w.if-stands.true) c.args.text.now.items c.loop-prefix.text.items c.loop-prefix.invariant.items;
        len = omega (arith, ap (λ (v : Vec ℕ Global). length v.items) w.text-is, w.push_line.ensures.len, c.loop-prefix.invariant.len);
        capacity = omega (arith, ap vec_capacity w.text-is, w.push_line.ensures.capacity, c.loop-prefix.invariant.capacity);
      }
      | else-stands w ↦ record {
        items =
            ap (λ (v : Vec ℕ Global). v.items) w.text-is
            ∙ line_left_out link_prefix_line (prefix_stands c.args.t) c.args.prefixes.now i _ c.loop-prefix-test.true (sym c.stands.ensures ∙ w.if-stands.false) c.args.text.now.items c.loop-prefix.text.items c.loop-prefix.invariant.items;
        len = omega (arith, ap (λ (v : Vec ℕ Global). length v.items) w.text-is, c.loop-prefix.invariant.len);
        capacity = omega (arith, ap vec_capacity w.text-is, c.loop-prefix.invariant.capacity);
      }
    ]
