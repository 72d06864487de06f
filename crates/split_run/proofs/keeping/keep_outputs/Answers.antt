use Rattle.std.proofs.Common.{◌≡◌, List, ℕ, true, ◌∷◌, Some, sym, subst}
use Rattle.savi_ends.specs.Places.{OthersStay}
use Rattle.split_run.proofs.Keeps.{keep_step, next_low, next_out, text_at}
use Rattle.split_run.proofs.keeping.keep_outputs.Goals as goal

pub keep_output-requires : goal.keep_output-requires
keep_output-requires g c =
    let so_far = rw c.in-Some.ensures.items at c.loop-interface.invariant.1 in
    let low = next_low c.args.names.now c.loop-interface.invariant.0 c.pop.new.self.items c.args.held.items c.in-Some.field-0 _ _ c.requires.apart c.requires.own c.requires.named so_far in
    let name = text_at c.args.names.now c.in-Some.field-0.interface c.index-names-interface.result c.as_str.result.now low c.index-names-interface.is c.as_str.ensures in
    subst (λ (n : List ℕ). ((g.W.World.book c.loop-interface.world).outputs n).is_out ≡ true) (sym name)
    (next_out c.args.names.now c.loop-interface.invariant.0 c.pop.new.self.items c.args.held.items c.in-Some.field-0 _ _ c.requires.apart c.requires.own c.requires.named so_far c.requires.out)

pub loop-interface-preserved : goal.loop-interface-preserved
loop-interface-preserved g c =
    let so_far = rw c.in-Some.ensures.items at c.loop-interface.invariant.1 in
    let low = next_low c.args.names.now c.loop-interface.invariant.0 c.pop.new.self.items c.args.held.items c.in-Some.field-0 _ _ c.requires.apart c.requires.own c.requires.named so_far in
    let name = text_at c.args.names.now c.in-Some.field-0.interface c.index-names-interface.result c.as_str.result.now low c.index-names-interface.is c.as_str.ensures in (
      c.in-Some.field-0 ∷ c.loop-interface.invariant.0,
      keep_step c.args.names.now c.loop-interface.invariant.0 c.pop.new.self.items c.args.held.items c.in-Some.field-0 _ _ c.requires.apart c.requires.own c.requires.named so_far (g.W.World.book c.keep_output.new.self)
          (subst (λ (n : List ℕ). ((g.W.World.book c.keep_output.new.self).outputs n).stands ≡ Some c.in-Some.field-0.sink) name c.keep_output.ensures.kept)
          (subst (λ (n : List ℕ). OthersStay (g.W.World.book c.loop-interface.world).outputs (g.W.World.book c.keep_output.new.self).outputs n) name c.keep_output.ensures.others)
          c.keep_output.ensures.rest,
    )
