use Rattle.std.proofs.Common.{refl, sym, ◌∙◌}
use Rattle.std.proofs.lemmas.Bool.{false≢true}
use Rattle.savi_conf.specs.Keys.{Keys, HasKinds}
use Rattle.savi_conf.specs.KeyNames.{keys_of}
use Rattle.savi_conf.proofs.Listed.{All-at, All-next, All-whole}
use Rattle.savi_conf.proofs.PartsLemmas.{Seen, view_of}
use Rattle.savi_conf.proofs.parts.have_kinds.Goals as goal

abbrev Meets : Keys → Seen → Type 0
Meets keys t = HasKinds keys (view_of t)

pub returns-then-not-has_kinds : goal.returns-then-not-has_kinds
returns-then-not-has_kinds c = (
  λ never. absurd (false≢true never),
  λ all. sym c.if-not-has_kinds.true ∙ c.has_kinds.ensures.1 (All-at (Meets (keys_of c.args.keys.now)) c.args.tables.now c.loop-table.table-index c.table-item.result c.loop-table-test.true c.table-item.is all),
)

pub loop-table-preserved : goal.loop-table-preserved
loop-table-preserved c =
    All-next (Meets (keys_of c.args.keys.now)) c.args.tables.now c.loop-table.table-index c.table-item.result c.loop-table-test.true c.table-item.is c.loop-table.invariant (c.has_kinds.ensures.0 c.if-not-has_kinds.false)

pub returns : goal.returns
returns c = (λ _. All-whole (Meets (keys_of c.args.keys.now)) c.args.tables.now c.loop-table.table-index c.loop-table-test.false c.loop-table.invariant, λ _. refl)
