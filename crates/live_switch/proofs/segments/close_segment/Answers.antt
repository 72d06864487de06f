use Rattle.std.proofs.Common.{◌≤◌, ◌+◌, List, length, ap, ◌∙◌, sym, subst}
use Rattle.std.proofs.lemmas.List.{length-reverse}
use Rattle.hist_store.specs.Rows.{Row}
use Rattle.savi_core.specs.Machines.{base_of}
use Rattle.savi_history.specs.Endings.{ends_told}
use Rattle.savi_segments.specs.Segments.{AreOctets}
use Rattle.journal_write.proofs.FewEnds.{few_more}
use Rattle.journal_write.proofs.Telling.{tells_more}
use Rattle.live_switch.proofs.segments.close_segment.Goals as goal

pub add-requires : goal.add-requires
add-requires g c =
    let core = c.args.core.now in
    let told = length c.args.told.now.ends.items in
    subst (λ (past : List Row). told + length (ends_told past) ≤ 34) (sym c.history.ensures.rows)
    (few_more core.plan (base_of core) core.past told c.history.ensures.valid c.history.ensures.legal c.requires.few)

pub returns-clause-octets : goal.returns-clause-octets
returns-clause-octets g c = subst AreOctets c.history.ensures.rows c.add.ensures.octets

pub returns-clause-told : goal.returns-clause-told
returns-clause-told g c = λ before was.
    let told = c.args.told.now in
    let now = c.add.new.self in
    let rows : List Row = c.history.result.now.rows in
    let past = c.args.core.now.past in
    tells_more told.entries now.entries told.ends.items now.ends.items before rows past c.history.ensures.rows (sym (length-reverse rows) ∙ ap (λ (l : List Row). length l) c.history.ensures.rows)
    c.add.ensures.entries c.add.ensures.ends was
