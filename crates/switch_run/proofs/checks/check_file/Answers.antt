use Rattle.std.proofs.Common.{◌≡◌, ap, ◌∙◌, inr, refl, ℕ, List}
use Rattle.savi_ends.specs.declared.world.Std.TheVariants.{Out}
use Rattle.savi_ends.specs.Places.{Book}
use Rattle.savi_ends.proofs.Ready.{opened_alone}
use Rattle.journal_check.specs.declared.answer.Checked.TheVariants.{Good, Wrong, BadLine}
use Rattle.switch_report.specs.CheckLines.{wrong_line}
use Rattle.switch_run.proofs.Checking.{answered_with, check_rest}
use Rattle.switch_run.proofs.checks.check_file.Goals as goal

pub keep_input-requires : goal.keep_input-requires
keep_input-requires g c = (
  c.args.file.now,
  opened_alone (λ (s : g.row.W-S.Denot). g.W.S.Source.faults s ≡ 0) (g.W.World.book c.args.world.now).inputs (g.W.World.book c.input.new.self).inputs c.args.file.now c.requires.inputs c.in-Ok.ensures.others c.in-Ok.ensures.opens.out,
)

pub returns-in-Good-clause-ran : goal.returns-in-Good-clause-ran
returns-in-Good-clause-ran g c =
    let S = g.row.W-S.Denot in
    let K = g.row.W-K.Denot in
    let C = g.row.W-C.Denot in
    let file = c.args.file.now in
    let b0 = g.W.World.book c.args.world.now in
    let b2 = g.W.World.book c.keep_input.new.self in
    let b3 = g.W.World.book c.write_answer.new.world in
    let alone = opened_alone (λ (s : S). g.W.S.Source.faults s ≡ 0) b0.inputs (g.W.World.book c.input.new.self).inputs file c.requires.inputs c.in-Ok.ensures.others c.in-Ok.ensures.opens.out in
    record {
      did = inr (
        record {
          handed = c.in-Ok.source;
          back = c.check-checked.new.source;
          told = c.in-Ok.ensures.opens.told;
          kept = ap (λ (b : Book S K C). (b.inputs file).stands) c.write_answer.ensures.rest ∙ c.keep_input.ensures.kept file alone;
          holds = (c.check-checked.ensures.later, c.check-checked.ensures.gave);
        },
        inr (inr (answered_with g.W.S.Source.left g.W.K.Sink.written g.W.S.Source.faults g.W.K.Sink.faults file c.args.errors.now c.in-Ok.source c.check-checked.new.source c.check-checked.result (Good c.in-Good.entries) _ b0 b3 (b2.std Out) c.write_answer.result 0
            c.in-Ok.ensures.opens.told c.in-Ok.ensures.opens.fresh (ap (λ (b : Book S K C). (b.inputs file).stands) c.write_answer.ensures.rest ∙ c.keep_input.ensures.kept file alone) c.check-checked.ensures.still
            (record { is = c.check-checked.ensures.answer; alone = c.check-checked.ensures.only; good = c.check-checked.ensures.good; journal = c.check-checked.ensures.journal })
            c.in-Good.is tt (c.put_good.ensures) refl
            (ap (λ (b : Book S K C). b.std Out) c.keep_input.ensures.rest ∙ ap (λ (b : Book S K C). b.std Out) c.in-Ok.ensures.rest)
            c.write_answer.ensures.wrote)),
      );
      still = λ other. ap (λ (b : Book S K C). b.faults) c.write_answer.ensures.rest ∙ ap (λ (b : Book S K C). b.faults) c.keep_input.ensures.rest ∙ c.in-Ok.ensures.opens.still;
      inputs = λ other apart. ap (λ (b : Book S K C). b.inputs other) c.write_answer.ensures.rest ∙ c.keep_input.ensures.others file alone other apart ∙ c.in-Ok.ensures.others other apart;
      rest = check_rest b0 (g.W.World.book c.input.new.self) b2 b3 c.in-Ok.ensures.rest c.keep_input.ensures.rest c.write_answer.ensures.rest;
    }

pub returns-in-Wrong-clause-ran : goal.returns-in-Wrong-clause-ran
returns-in-Wrong-clause-ran g c =
    let S = g.row.W-S.Denot in
    let K = g.row.W-K.Denot in
    let C = g.row.W-C.Denot in
    let file = c.args.file.now in
    let b0 = g.W.World.book c.args.world.now in
    let b2 = g.W.World.book c.keep_input.new.self in
    let b3 = g.W.World.book c.write_answer-in-Wrong.new.world in
    let alone = opened_alone (λ (s : S). g.W.S.Source.faults s ≡ 0) b0.inputs (g.W.World.book c.input.new.self).inputs file c.requires.inputs c.in-Ok.ensures.others c.in-Ok.ensures.opens.out in
    record {
      did = inr (
        record {
          handed = c.in-Ok.source;
          back = c.check-checked.new.source;
          told = c.in-Ok.ensures.opens.told;
          kept = ap (λ (b : Book S K C). (b.inputs file).stands) c.write_answer-in-Wrong.ensures.rest ∙ c.keep_input.ensures.kept file alone;
          holds = (c.check-checked.ensures.later, c.check-checked.ensures.gave);
        },
        inr (inr (answered_with g.W.S.Source.left g.W.K.Sink.written g.W.S.Source.faults g.W.K.Sink.faults file c.args.errors.now c.in-Ok.source c.check-checked.new.source c.check-checked.result (Wrong c.in-Wrong.entry c.in-Wrong.want c.in-Wrong.have) _ b0 b3 (b2.std Out) c.write_answer-in-Wrong.result 4
            c.in-Ok.ensures.opens.told c.in-Ok.ensures.opens.fresh (ap (λ (b : Book S K C). (b.inputs file).stands) c.write_answer-in-Wrong.ensures.rest ∙ c.keep_input.ensures.kept file alone) c.check-checked.ensures.still
            (record { is = c.check-checked.ensures.answer; alone = c.check-checked.ensures.only; good = c.check-checked.ensures.good; journal = c.check-checked.ensures.journal })
            c.in-Wrong.is tt (c.put_wrong-line.ensures ∙ ap (λ (w : List ℕ). wrong_line c.in-Wrong.entry w c.as_str-in-Wrong.result.now) c.as_str.ensures.text ∙ ap (λ (h : List ℕ). wrong_line c.in-Wrong.entry c.in-Wrong.want h) c.as_str-in-Wrong.ensures.text) refl
            (ap (λ (b : Book S K C). b.std Out) c.keep_input.ensures.rest ∙ ap (λ (b : Book S K C). b.std Out) c.in-Ok.ensures.rest)
            c.write_answer-in-Wrong.ensures.wrote)),
      );
      still = λ other. ap (λ (b : Book S K C). b.faults) c.write_answer-in-Wrong.ensures.rest ∙ ap (λ (b : Book S K C). b.faults) c.keep_input.ensures.rest ∙ c.in-Ok.ensures.opens.still;
      inputs = λ other apart. ap (λ (b : Book S K C). b.inputs other) c.write_answer-in-Wrong.ensures.rest ∙ c.keep_input.ensures.others file alone other apart ∙ c.in-Ok.ensures.others other apart;
      rest = check_rest b0 (g.W.World.book c.input.new.self) b2 b3 c.in-Ok.ensures.rest c.keep_input.ensures.rest c.write_answer-in-Wrong.ensures.rest;
    }

pub returns-in-BadLine-clause-ran : goal.returns-in-BadLine-clause-ran
returns-in-BadLine-clause-ran g c =
    let S = g.row.W-S.Denot in
    let K = g.row.W-K.Denot in
    let C = g.row.W-C.Denot in
    let file = c.args.file.now in
    let b0 = g.W.World.book c.args.world.now in
    let b2 = g.W.World.book c.keep_input.new.self in
    let b3 = g.W.World.book c.write_answer-in-BadLine.new.world in
    let alone = opened_alone (λ (s : S). g.W.S.Source.faults s ≡ 0) b0.inputs (g.W.World.book c.input.new.self).inputs file c.requires.inputs c.in-Ok.ensures.others c.in-Ok.ensures.opens.out in
    record {
      did = inr (
        record {
          handed = c.in-Ok.source;
          back = c.check-checked.new.source;
          told = c.in-Ok.ensures.opens.told;
          kept = ap (λ (b : Book S K C). (b.inputs file).stands) c.write_answer-in-BadLine.ensures.rest ∙ c.keep_input.ensures.kept file alone;
          holds = (c.check-checked.ensures.later, c.check-checked.ensures.gave);
        },
        inr (inr (answered_with g.W.S.Source.left g.W.K.Sink.written g.W.S.Source.faults g.W.K.Sink.faults file c.args.errors.now c.in-Ok.source c.check-checked.new.source c.check-checked.result (BadLine c.in-BadLine.n) _ b0 b3 (b2.std Out) c.write_answer-in-BadLine.result 4
            c.in-Ok.ensures.opens.told c.in-Ok.ensures.opens.fresh (ap (λ (b : Book S K C). (b.inputs file).stands) c.write_answer-in-BadLine.ensures.rest ∙ c.keep_input.ensures.kept file alone) c.check-checked.ensures.still
            (record { is = c.check-checked.ensures.answer; alone = c.check-checked.ensures.only; good = c.check-checked.ensures.good; journal = c.check-checked.ensures.journal })
            c.in-BadLine.is tt (c.put_bad_line.ensures) refl
            (ap (λ (b : Book S K C). b.std Out) c.keep_input.ensures.rest ∙ ap (λ (b : Book S K C). b.std Out) c.in-Ok.ensures.rest)
            c.write_answer-in-BadLine.ensures.wrote)),
      );
      still = λ other. ap (λ (b : Book S K C). b.faults) c.write_answer-in-BadLine.ensures.rest ∙ ap (λ (b : Book S K C). b.faults) c.keep_input.ensures.rest ∙ c.in-Ok.ensures.opens.still;
      inputs = λ other apart. ap (λ (b : Book S K C). b.inputs other) c.write_answer-in-BadLine.ensures.rest ∙ c.keep_input.ensures.others file alone other apart ∙ c.in-Ok.ensures.others other apart;
      rest = check_rest b0 (g.W.World.book c.input.new.self) b2 b3 c.in-Ok.ensures.rest c.keep_input.ensures.rest c.write_answer-in-BadLine.ensures.rest;
    }
