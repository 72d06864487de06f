use Rattle.std.proofs.Common.{◌≡◌, ℕ, ◌+◌, ◌∙◌, vec_len, List, slice_index_or, refl, subst, arith}
use Rattle.std.specs.List.{SameBelow, ShiftedDown}
use Rattle.table_lock.specs.declared.pass.Pass.{Pass}
use Rattle.live_switch.proofs.Popped.{popped, popped_len}
use Rattle.live_switch.proofs.workers.take_port.Goals as goal

pub returns : goal.returns
returns g c =
    let most : List Pass = c.pop-2.new.self.items in
    let few : List Pass = c.remove-input.new.self.items in
    let passes_len : vec_len c.pop-2.new.self + 1 ≡ vec_len c.args.shift.passes = popped_len (vec_len c.pop-2.new.self) (vec_len c.args.shift.passes) c.pop-2.result c.unwrap-output.result c.pop-2.ensures.len c.unwrap-output.ensures in
    record {
      ports = popped c.args.shift.service.ports.items c.pop.new.self.items c.pop.result c.unwrap-judge.result c.pop.ensures.items c.unwrap-judge.ensures;
      ports_len = popped_len (vec_len c.pop.new.self) (vec_len c.args.shift.service.ports) c.pop.result c.unwrap-judge.result c.pop.ensures.len c.unwrap-judge.ensures;
      ports_room = c.pop.ensures.capacity;
      most = most;
      last = popped c.args.shift.passes.items most c.pop-2.result c.unwrap-output.result c.pop-2.ensures.items c.unwrap-output.ensures;
      here = subst (λ (n : ℕ). c.remove-input.result ≡ slice_index_or most n c.remove-input.result) c.len.ensures c.remove-input.ensures.value;
      below = subst (λ (n : ℕ). SameBelow most few n) c.len.ensures c.remove-input.ensures.by_index.0;
      above = subst (λ (n : ℕ). ShiftedDown most few n) c.len.ensures c.remove-input.ensures.by_index.1;
      size = omega (arith, c.pop-2.new.self.ok.0, c.remove-input.new.self.ok.0, c.remove-input.ensures.len);
      passes_len = omega (arith, passes_len, c.remove-input.ensures.len);
      passes_room = c.remove-input.ensures.capacity ∙ c.pop-2.ensures.capacity;
      control = refl;
      ticker = refl;
    }
