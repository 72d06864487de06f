use Rattle.std.proofs.Common.{ℕ, List, [], ◌∷◌, ◌++◌, codes, subst, sym}
use Rattle.savi_conf.specs.declared.fault.ConfFault.{ConfFault}
use Rattle.savi_ends.specs.Writes.{Extends}
use Rattle.switch_report.specs.RunLines.{config_line}
use Rattle.switch_report.proofs.run_lines.tell_config.Goals as goal

pub returns-in-Bad-clause-extends : goal.returns-in-Bad-clause-extends
returns-in-Bad-clause-extends g c =
    let Wrote : List ℕ → Type 0 = λ text. Extends c.write_line.result (g.K.Sink.written c.args.sink.now) (g.K.Sink.written c.write_line.new.sink) text in
    subst (λ (fault : ConfFault). Wrote (config_line fault)) (sym c.in-Bad.is)
    (subst (λ (digits : List ℕ). Wrote (codes "config fault " ++ (digits ++ 10 ∷ []))) c.format.ensures.text c.write_line.ensures.extends)
