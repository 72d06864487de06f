use Rattle.std.proofs.Common.{SFits, w64, rules, ℤ, ◌≡◌, ◌≢◌, ◌↔◌, IsTrue, get_or, pos, take, refl, sym, to_z-of_z, ◌∙◌}
use Rattle.std.proofs.lemmas.Bool.{false≢true}
use Rattle.std.proofs.lemmas.List.{get_or_default}
use Rattle.std.specs.List.{Any}
use Rattle.savi_conf.proofs.Listed.{AllPairs-fails, AllPairs-more, AllPairs-whole, none_is, one_is}
use Rattle.savi_conf.proofs.vlans.are_different.Goals as goal

abbrev Apart : ℤ → ℤ → Type 0
Apart v w = v ≢ w

pub returns-then-is_among : goal.returns-then-is_among
returns-then-is_among c =
    let before = take c.loop-i.i c.args.numbers.now in
    let number : ℤ = get_or c.args.numbers.now c.loop-i.i (pos 0) in
    let is : number ≡ get_or c.args.numbers.now c.loop-i.i number = get_or_default c.args.numbers.now c.loop-i.i (pos 0) number c.loop-i-test.true in
    let fits : SFits w64 number = search rules in
    let told : IsTrue c.is_among.result ↔ Any (λ v. v ≡ number) before = simp to_z-of_z at c.is_among.ensures in (
      λ no. absurd (false≢true no),
      λ all.
          let apart = AllPairs-fails Apart c.args.numbers.now c.loop-i.i number c.loop-i-test.true is all in
          absurd (one_is (λ v. v ≡ number) before (told.0 c.if-is_among.true) apart),
    )

pub loop-i-preserved : goal.loop-i-preserved
loop-i-preserved c =
    let before = take c.loop-i.i c.args.numbers.now in
    let number : ℤ = get_or c.args.numbers.now c.loop-i.i (pos 0) in
    let is : number ≡ get_or c.args.numbers.now c.loop-i.i number = get_or_default c.args.numbers.now c.loop-i.i (pos 0) number c.loop-i-test.true in
    let fits : SFits w64 number = search rules in
    let told : IsTrue c.is_among.result ↔ Any (λ v. v ≡ number) before = simp to_z-of_z at c.is_among.ensures in
    let none = none_is (λ v. v ≡ number) before (λ any. false≢true (sym c.if-is_among.false ∙ told.1 any)) in
    AllPairs-more Apart c.args.numbers.now c.loop-i.i number c.loop-i-test.true is c.loop-i.invariant none

pub returns : goal.returns
returns c = (λ _. AllPairs-whole Apart c.args.numbers.now c.loop-i.i c.loop-i-test.false c.loop-i.invariant, λ _. refl)
