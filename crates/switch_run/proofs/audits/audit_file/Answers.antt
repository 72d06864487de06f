use Rattle.std.proofs.Common.{◌≡◌, ap, ◌∙◌, inr, subst, IfSome, ℕ}
use Rattle.savi_ends.specs.declared.world.Std.TheVariants.{Out}
use Rattle.savi_ends.specs.Places.{Book, Place}
use Rattle.switch_run.specs.Audits.{closing_line}
use Rattle.switch_run.specs.Session.{ToldBy}
use Rattle.switch_run.proofs.Auditing.{alone_behind, audit_rest, audited_with}
use Rattle.switch_run.proofs.audits.audit_file.Goals as goal

pub keep_input-requires : goal.keep_input-requires
keep_input-requires g c =
    let S = g.row.W-S.Denot in
    (c.args.file.now, alone_behind (λ (s : S). g.W.S.Source.faults s ≡ 0) (g.W.World.book c.args.world.now) (g.W.World.book c.input.new.self) (g.W.World.book c.std.new.self) c.args.file.now c.requires.inputs c.in-Ok.ensures.others c.in-Ok.ensures.opens.out c.std.ensures.rest)

pub returns-clause-ran : goal.returns-clause-ran
returns-clause-ran g c =
    let S = g.row.W-S.Denot in
    let K = g.row.W-K.Denot in
    let C = g.row.W-C.Denot in
    let file = c.args.file.now in
    let b0 = g.W.World.book c.args.world.now in
    let b1 = g.W.World.book c.input.new.self in
    let b2 = g.W.World.book c.std.new.self in
    let b3 = g.W.World.book c.keep_input.new.self in
    let b4 = g.W.World.book c.keep_std.new.self in
    let answer = c.audit-checked.result in
    let auditor = c.audit-checked.new.auditor in
    let alone = alone_behind (λ (s : S). g.W.S.Source.faults s ≡ 0) (g.W.World.book c.args.world.now) (g.W.World.book c.input.new.self) (g.W.World.book c.std.new.self) c.args.file.now c.requires.inputs c.in-Ok.ensures.others c.in-Ok.ensures.opens.out c.std.ensures.rest in
    let kept = ap (λ (b : Book S K C). (b.inputs file).stands) c.keep_std.ensures.rest ∙ c.keep_input.ensures.kept file alone in
    let line : c.as_slice.result.now ≡ closing_line auditor.frames auditor.violations answer =
    c.as_slice.ensures.value
    ∙ c.put_closing-line.ensures
    ∙ ap (λ (n : ℕ). closing_line n c.violations.result answer) c.frames.ensures
    ∙ ap (λ (n : ℕ). closing_line auditor.frames n answer) c.violations.ensures in
    record {
      did = inr (
        record {
          handed = c.in-Ok.source;
          back = c.audit-checked.new.source;
          told = c.in-Ok.ensures.opens.told;
          kept = kept;
          holds = (c.audit-checked.ensures.later, c.audit-checked.ensures.gave);
        },
        audited_with g.W.S.Source.left g.W.K.Sink.written g.W.S.Source.faults g.W.K.Sink.faults file (ToldBy g.W.K.Sink.faults g.W.K.Sink.written c.args.errors.now c.tell_audit.new.errors) c.in-Ok.source c.audit-checked.new.source answer c.std.result c.finish-out.result.0 c.new-auditor.result auditor c.finish-out.result.1 c.as_slice.result.now b0 b4 c.status_by.result
            c.in-Ok.ensures.opens.told c.in-Ok.ensures.opens.fresh kept
            (record { cause = c.audit-checked.ensures.cause; still = c.audit-checked.ensures.still; memory = c.audit-checked.ensures.memory; is = c.audit-checked.ensures.answer; alone = c.audit-checked.ensures.only; good = c.audit-checked.ensures.good; journal = c.audit-checked.ensures.journal })
            (subst (λ (p : Place K). IfSome p.stands (λ t. c.std.result ≡ t)) (ap (λ (b : Book S K C). b.std Out) c.in-Ok.ensures.rest) c.std.ensures.hands.told)
            c.keep_std.ensures.kept c.new-auditor.ensures (c.audit-checked.ensures.audits c.std.result c.new-auditor.ensures) line
            c.finish-out.ensures.text c.finish-out.ensures.none c.tell_audit.ensures c.status_by.ensures,
      );
      still = λ other. ap (λ (b : Book S K C). b.faults) c.keep_std.ensures.rest ∙ ap (λ (b : Book S K C). b.faults) c.keep_input.ensures.rest ∙ ap (λ (b : Book S K C). b.faults) c.std.ensures.rest ∙ c.in-Ok.ensures.opens.still;
      inputs = λ other apart. ap (λ (b : Book S K C). b.inputs other) c.keep_std.ensures.rest ∙ c.keep_input.ensures.others file alone other apart ∙ ap (λ (b : Book S K C). b.inputs other) c.std.ensures.rest ∙ c.in-Ok.ensures.others other apart;
      rest = audit_rest b0 b1 b2 b3 b4 c.in-Ok.ensures.rest c.std.ensures.rest c.keep_input.ensures.rest c.keep_std.ensures.rest;
    }

pub returns-clause-others : goal.returns-clause-others
returns-clause-others g c = λ other apart.
    let S = g.row.W-S.Denot in
    let K = g.row.W-K.Denot in
    let C = g.row.W-C.Denot in
    c.keep_std.ensures.others other apart
    ∙ ap (λ (b : Book S K C). b.std other) c.keep_input.ensures.rest
    ∙ c.std.ensures.others other apart
    ∙ ap (λ (b : Book S K C). b.std other) c.in-Ok.ensures.rest
