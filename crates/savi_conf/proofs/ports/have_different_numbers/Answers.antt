use Rattle.std.proofs.Common.{◌≡◌, ◌≢◌, take, Bor, BTreeMap, String, Global, Option, ℤ, sym, ◌∙◌}
use Rattle.std.proofs.lemmas.Bool.{false≢true}
use Rattle.toml.specs.declared.value.Value.{Value}
use Rattle.toml.specs.View.{table_view}
use Rattle.savi_conf.specs.Requirements.{number_in}
use Rattle.savi_conf.proofs.Listed.{AllPairs-more, AllPairs-fails, none_is, one_is}
use Rattle.savi_conf.proofs.ports.have_different_numbers.Goals as goal

abbrev Seen : Type 0
Seen = Bor (BTreeMap (String Global) Value)

abbrev number : Seen → Option ℤ
number t = number_in (table_view t.now)

pub returns-then-has_port_with : goal.returns-then-has_port_with
returns-then-has_port_with c =
    let before = take c.loop-i.i c.args.ports.now in (
      λ no. absurd (false≢true no),
      λ all.
          let R : Seen → Seen → Type 0 = λ p q. number p ≢ number q in
          let apart = AllPairs-fails R c.args.ports.now c.loop-i.i c.index-ports-i.result c.loop-i-test.true c.index-ports-i.is all in
          let P : Seen → Type 0 = λ p. number p ≡ number c.index-ports-i.result in
          absurd (one_is P before (rw (c.number.ensures) at (c.has_port_with.ensures.0 c.if-has_port_with.true)) apart),
    )

pub loop-i-preserved : goal.loop-i-preserved
loop-i-preserved c =
    let before = take c.loop-i.i c.args.ports.now in
    let R : Seen → Seen → Type 0 = λ p q. number p ≢ number q in
    let P : Seen → Type 0 = λ p. number p ≡ c.number.result in
    let none = none_is P before (λ any. false≢true (sym c.if-has_port_with.false ∙ c.has_port_with.ensures.1 any)) in
    AllPairs-more R c.args.ports.now c.loop-i.i c.index-ports-i.result c.loop-i-test.true c.index-ports-i.is c.loop-i.invariant (rw c.number.ensures at none)
