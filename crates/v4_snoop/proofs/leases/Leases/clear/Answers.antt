use Rattle.std.proofs.Common.{◌≡◌, ℕ, cond, ◌==◌, is_some, Some, None, refl, ◌∙◌, ap, arith}
use Rattle.addr_index.specs.Indexes.{key_in}
use Rattle.v4_snoop.proofs.Slots.{Keeps-cleared, slot_inside}
use Rattle.v4_snoop.proofs.leases.Leases.clear.Goals as goal

pub index_mut-requires : goal.index_mut-requires
index_mut-requires c = omega (arith, slot_inside c.args.self.now.slots.items c.args.slot c.args.lease c.requires.there, c.args.self.now.slots.ok.0)

pub returns-clause-kept : goal.returns-clause-kept
returns-clause-kept c =
    let had : key_in c.args.self.now.index c.place_of.result.0 ≡ Some c.args.slot = ap (key_in c.args.self.now.index) c.place_of.ensures ∙ c.requires.kept.indexed c.args.slot c.args.lease c.requires.there in
    let one : ◌≡◌ {A = ℕ} (cond (is_some (key_in c.args.self.now.index c.place_of.result.0)) 1 0) 1 = ap (λ o. cond (is_some o) 1 0) had in
    Keeps-cleared c.args.self.now c.args.slot c.args.lease c.requires.kept c.requires.there refl
    (λ key. c.remove.ensures.keys key ∙ ap (λ k. cond (k == key) None (key_in c.args.self.now.index key)) c.place_of.ensures)
    (omega (arith, c.remove.ensures.len, one)) c.remove.ensures.most refl
