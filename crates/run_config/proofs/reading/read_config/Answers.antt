use Rattle.std.proofs.Common.{take, List, ℕ, Ok}
use Rattle.savi_conf.specs.Answers.{IsAnswer}
use Rattle.run_config.specs.Configs.{IsWholeOrLong}
use Rattle.run_config.proofs.Plans.{built, of_whole}
use Rattle.run_config.proofs.Configured.{if_text}
use Rattle.run_config.proofs.reading.read_config.Goals as goal

pub returns-in-Ok-clause-built : goal.returns-in-Ok-clause-built
returns-in-Ok-clause-built g c = built (take c.in-Some.count c.read_text.new.buffer) c.args.replay c.in-Ok.plan c.in-Ok.ensures

pub returns-in-Ok-clause-says : goal.returns-in-Ok-clause-says
returns-in-Ok-clause-says g c =
    let read : List ℕ = take c.in-Some.count c.read_text.new.buffer in
    if_text _ (IsWholeOrLong read) (λ text. IsAnswer text c.args.replay (Ok c.in-Ok.plan)) (λ text whole. of_whole read text c.args.replay (Ok c.in-Ok.plan) whole c.in-Ok.ensures) c.in-Some.ensures.text
