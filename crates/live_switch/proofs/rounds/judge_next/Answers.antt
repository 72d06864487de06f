use Rattle.live_switch.proofs.Roundwise.{input_both, input_fetched}
use Rattle.live_switch.proofs.rounds.judge_next.Goals as goal

pub returns-then-not-full : goal.returns-then-not-full
returns-then-not-full g c =
    let fetched = c.fetch_arrival-has_arrival in
    input_fetched c.args.kept.now c.args.judge.now fetched.new.judge c.requires fetched.ensures.port fetched.ensures.rings fetched.ensures.stands

pub returns : goal.returns
returns g c =
    let kept = c.args.kept.now in
    let judge = c.args.judge.now in
    let fetched = c.fetch_arrival-has_arrival in
    input_both kept judge c.round.new.core fetched.new.judge c.round.new.self
    (input_fetched kept judge fetched.new.judge c.requires fetched.ensures.port fetched.ensures.rings fetched.ensures.stands)
    (record {
      port = c.round.ensures.port;
      rings = c.round.ensures.rings;
      goes = record {
        plan_is = c.round.ensures.plan;
        checkpoint_is = c.round.ensures.checkpoint;
        made = c.round.ensures.made;
        stands = λ before legals base legal stands. c.round.ensures.stands before legals base stands;
      };
    })
