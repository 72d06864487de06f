use Rattle.std.proofs.Common.{◌≡◌, ◌∙◌}
use Rattle.hist_store.specs.JournalTexts.{address_text, journal_header_text}
use Rattle.journal_write.proofs.Giving.{header_alone}
use Rattle.journal_write.proofs.journal.Journal.begin.Goals as goal

pub returns-clause-begun : goal.returns-clause-begun
returns-clause-begun g c = λ first was.
    let text : c.as_slice.result.now ≡ journal_header_text address_text c.args.plan.now = c.as_slice.ensures.value ∙ c.put_header.ensures in
    c.begin_with.ensures.begun first c.args.plan.now (text ∙ header_alone c.args.plan.now) was
