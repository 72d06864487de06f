use Rattle.std.proofs.Common.{◌≡◌, ℕ, ◌++◌, length, get_or, Vec, Global, vec_capacity, arith, sym, ◌∙◌, ap}
use Rattle.ra_learn.specs.declared.routers.Router.{Router}
use Rattle.ra_learn.specs.Printed.{router_line}
use Rattle.ra_learn.specs.Tables.{router_stands}
use Rattle.ra_learn.proofs.Kept.{line_kept, line_left_out}
use Rattle.ra_learn.proofs.routers.put_lines.Goals as goal
use Rattle.ra_learn.proofs.routers.put_lines.Goals.{then-stands, else-stands}

pub loop-router-preserved : goal.loop-router-preserved
loop-router-preserved c =
    let i : ℕ = c.loop-router.router-index in
    let one : Router = c.router-item.result in
    let stands : router_stands c.args.t (get_or c.args.routers.now i one) ≡ c.stands.result = ap (router_stands c.args.t) (sym c.router-item.is) ∙ sym c.stands.ensures in
    elim c.if-stands.branch [
      | then-stands w ↦ record {
        items =
            ap (λ (v : Vec ℕ Global). v.items) w.text-is
            ∙ w.push_line.ensures.items
            ∙ ap (λ line. c.loop-router.text.items ++ line) (w.put_router.ensures ∙ ap router_line c.router-item.is)
            ∙ line_kept router_line (router_stands c.args.t) c.args.routers.now i one c.loop-router-test.true (stands ∙ w.if-stands.true) c.args.text.now.items c.loop-router.text.items c.loop-router.invariant.items;
        len = omega (arith, ap (λ (v : Vec ℕ Global). length v.items) w.text-is, w.push_line.ensures.len, c.loop-router.invariant.len);
        capacity = omega (arith, ap vec_capacity w.text-is, w.push_line.ensures.capacity, c.loop-router.invariant.capacity);
      }
      | else-stands w ↦ record {
        items =
            ap (λ (v : Vec ℕ Global). v.items) w.text-is
            ∙ line_left_out router_line (router_stands c.args.t) c.args.routers.now i one c.loop-router-test.true (stands ∙ w.if-stands.false) c.args.text.now.items c.loop-router.text.items c.loop-router.invariant.items;
        len = omega (arith, ap (λ (v : Vec ℕ Global). length v.items) w.text-is, c.loop-router.invariant.len);
        capacity = omega (arith, ap vec_capacity w.text-is, c.loop-router.invariant.capacity);
      }
    ]
