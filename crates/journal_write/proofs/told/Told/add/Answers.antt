use Rattle.std.proofs.Common.{◌≤◌, ◌+◌, List, ◌++◌, length, reverse, refl, sym, ap, ◌∙◌, subst, arith}
use Rattle.std.proofs.lemmas.List.{append-nil, take_all}
use Rattle.savi_kinds.specs.declared.entry.Who.{Who}
use Rattle.savi_kinds.specs.declared.entry.How.{How}
use Rattle.hist_store.specs.Rows.{Row}
use Rattle.savi_history.specs.Endings.{end_told, ends_told}
use Rattle.journal_write.specs.declared.told.Told.{Told}
use Rattle.journal_write.proofs.Telling.{few_next, octets_reversed, told_next}
use Rattle.journal_write.proofs.told.Told.add.Goals as goal

pub loop-n-init : goal.loop-n-init
loop-n-init c = record { entries = refl; ends = sym (append-nil c.args.self.now.ends.items) }

pub add_end-requires : goal.add_end-requires
add_end-requires c =
    subst (λ (l : List (Who × How)). length l + length (end_told c.entry.result.act) ≤ 34) (sym c.loop-n.invariant.ends)
    (few_next c.args.hist.now.rows c.loop-n.n c.entry.result c.args.self.now.ends.items c.entry.ensures c.requires)

pub loop-n-preserved : goal.loop-n-preserved
loop-n-preserved c = record {
  entries = ap (λ (t : Told). t.entries) c.add_end.ensures ∙ c.loop-n.invariant.entries;
  ends = ap (λ (t : Told). t.ends.items) c.add_end.ensures
      ∙ ap (λ (l : List (Who × How)). l ++ end_told c.entry.result.act) c.loop-n.invariant.ends
      ∙ told_next c.args.hist.now.rows c.loop-n.n c.entry.result c.args.self.now.ends.items c.entry.ensures;
}

pub returns-clause-ends : goal.returns-clause-ends
returns-clause-ends c =
    c.loop-n.invariant.ends
    ∙ ap (λ (l : List Row). c.args.self.now.ends.items ++ ends_told (reverse l)) (take_all c.loop-n.n c.args.hist.now.rows (omega (arith, c.loop-n-test.false, c.len.ensures.len)))

pub returns-clause-octets : goal.returns-clause-octets
returns-clause-octets c = octets_reversed c.args.hist.now.rows c.len.ensures.octets
