use Rattle.std.proofs.Common.{SFits, w64, rules, ◌≡◌, ◌↔◌, IsTrue, sym, to_z-of_z, ◌∙◌}
use Rattle.std.proofs.lemmas.Bool.{false≢true}
use Rattle.std.specs.List.{Any}
use Rattle.savi_conf.proofs.Gathered.{stays, tried}
use Rattle.savi_conf.proofs.vlans.is_gathered.Goals as goal

pub returns-then-is_among : goal.returns-then-is_among
returns-then-is_among c =
    let fits : SFits w64 c.args.number = search rules in
    let told : IsTrue c.is_among.result ↔ Any (λ n. n ≡ c.args.number) c.args.gathered.now.items = rw c.as_slice.ensures.value at (simp to_z-of_z at c.is_among.ensures) in
    rw c.if-is_among.true (stays c.args.gathered.now.items c.args.number (told.0 c.if-is_among.true))

pub returns-else-is_among : goal.returns-else-is_among
returns-else-is_among c =
    let fits : SFits w64 c.args.number = search rules in
    let told : IsTrue c.is_among.result ↔ Any (λ n. n ≡ c.args.number) c.args.gathered.now.items = rw c.as_slice.ensures.value at (simp to_z-of_z at c.is_among.ensures) in
    let none : Any (λ n. n ≡ c.args.number) c.args.gathered.now.items → ⊥ = λ any. false≢true (sym c.if-is_among.false ∙ told.1 any) in
    let few = rw c.as_slice.ensures.value at c.as_slice.ensures.fits in
    rw c.is_ok.ensures.value (tried c.args.gathered.now c.try_push.new.self c.args.number c.try_push.result none few c.try_push.ensures.variant (simp to_z-of_z at c.try_push.ensures.ok) c.try_push.ensures.err)
