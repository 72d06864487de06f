use Rattle.std.proofs.Common.{ℕ, sym, subst}
use Rattle.hist_store.specs.EntryLines.{SaysEntry}
use Rattle.journal_check.proofs.ShortFields.{the_row}
use Rattle.journal_check.proofs.Judging.{entered_fits, entered_act, judged_stands, judged_apart, judged_never, judged_other}
use Rattle.journal_check.specs.Differing.{first_apart}
use Rattle.hist_store.specs.LineTexts.{line_fields}
use Rattle.std.proofs.Common.{◌≡◌, Some}
use Rattle.journal_check.proofs.turns.judge.Goals as goal

pub put_event-requires-clause-numbers : goal.put_event-requires-clause-numbers
put_event-requires-clause-numbers c = c.requires.numbers.act

pub put_event-requires-clause-fits : goal.put_event-requires-clause-fits
put_event-requires-clause-fits c = c.requires.fits

pub compare-requires-clause-fits : goal.compare-requires-clause-fits
compare-requires-clause-fits c = entered_fits c.args.core.now c.put_event.new.core c.args.entry.now c.in-Entered.want c.args.octets.now c.requires.fits c.in-Entered.ensures

pub compare-requires-clause-says : goal.compare-requires-clause-says
compare-requires-clause-says c = subst (λ (n : ℕ). SaysEntry c.args.line.now n (the_row c.args.entry.now c.args.octets.now)) (sym c.len-n.ensures.len) c.requires

pub compare-requires-clause-act : goal.compare-requires-clause-act
compare-requires-clause-act c = entered_act c.args.core.now c.put_event.new.core c.args.entry.now c.in-Entered.want c.args.octets.now c.requires.numbers.act c.requires.fits c.in-Entered.ensures

pub returns-in-None : goal.returns-in-None
returns-in-None c =
    judged_stands c.args.core.now c.put_event.new.core c.args.line.now c.args.entry.now c.in-Entered.want c.args.octets.now c.requires c.in-Entered.ensures c.in-None.ensures.same

pub returns-in-Some : goal.returns-in-Some
returns-in-Some c =
    let want = the_row c.in-Entered.want c.args.octets.now in
    let have = the_row c.args.entry.now c.args.octets.now in
    let apart = c.in-Some.apart in
    let differs = subst (λ (n : ℕ). first_apart (line_fields n want) (line_fields n have) ≡ Some (apart.want, apart.have)) c.len-n.ensures.len c.in-Some.ensures.apart in
    judged_apart c.args.core.now c.put_event.new.core c.args.line.now c.args.entry.now c.in-Entered.want c.args.octets.now apart.want apart.have c.requires c.in-Entered.ensures differs

pub returns-in-Never : goal.returns-in-Never
returns-in-Never c =
    judged_never c.args.core.now c.put_event.new.core c.args.line.now c.args.entry.now c.args.octets.now _ _ c.requires c.in-Never.ensures c.none_wanted.ensures.want c.none_wanted.ensures.have

pub returns-in-Other : goal.returns-in-Other
returns-in-Other c =
    judged_other c.args.core.now c.put_event.new.core c.args.line.now c.args.entry.now c.args.octets.now _ _ c.in-Other.want c.in-Other.have c.requires c.in-Other.ensures c.numbers_apart.ensures.want c.numbers_apart.ensures.have
