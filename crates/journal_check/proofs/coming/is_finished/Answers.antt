use Rattle.std.proofs.Common.{true≢false, sym, ◌∙◌}
use Rattle.savi_core.specs.Machines.{base_of}
use Rattle.journal_check.proofs.OpenPasses.{egress_ended, finished, finished_through}
use Rattle.journal_check.proofs.coming.is_finished.Goals as goal

pub returns-then-not-is_ticker_through : goal.returns-then-not-is_ticker_through
returns-then-not-is_ticker_through c =
    let m = c.args.core.now in (
      λ no. absurd (true≢false (sym no)),
      λ all. absurd (true≢false (sym (c.is_ticker_through.ensures.1 (finished_through m.plan (base_of m) m.past all)) ∙ c.if-not-is_ticker_through.true)),
    )

pub returns : goal.returns
returns c =
    let m = c.args.core.now in (
      λ yes. finished m.plan (base_of m) m.past (c.is_ticker_through.ensures.0 c.if-not-is_ticker_through.false) (c.have_ended.ensures.0 yes),
      λ all. c.have_ended.ensures.1 (egress_ended m.plan (base_of m) m.past all),
    )
