use Rattle.std.proofs.Common.{true≢false, sym, ◌∙◌, subst}
use Rattle.hist_store.specs.EntryLines.{IsActInRange, IsInRange, entry_said}
use Rattle.journal_check.proofs.ShortFields.{the_row, both_same, lines_told}
use Rattle.journal_check.proofs.turns.compare.Goals as goal

pub returns-else-is_same : goal.returns-else-is_same
returns-else-is_same c =
    let want = c.args.want in
    let have = c.args.have.now in
    let octets = c.args.octets.now in
    let fit = c.know_fits.ensures in
    let range : IsInRange (entry_said want) = record {
      by = fit.by;
      moment = fit.moment;
      act = subst IsActInRange (sym c.requires.act) c.requires.says.numbers.act;
      outs = fit.outs;
      cuts = fit.cuts;
      probes = fit.probes;
      lost = fit.lost;
    } in
    let told = lines_told c.args.n c.args.line.now want have octets c.requires.says c.requires.fits range c.requires.act (λ same. true≢false (sym (c.is_same.ensures.1 same) ∙ c.if-is_same.false)) in
    let apart = c.fields_apart.ensures (the_row have octets) told.field told.other c.requires.says told.apart told.field_is told.other_is in
    record { same = tt; apart = told.apart ∙ both_same told.field told.other c.fields_apart.result.want c.fields_apart.result.have (sym apart.0) (sym apart.1) }
