use Rattle.std.proofs.Common.{ℕ, List, [], ◌∷◌, codes, subst, sym, append_assoc}
use Rattle.savi_ends.specs.Writes.{Extends}
use Rattle.switch_report.proofs.run_lines.tell_unread.Goals as goal

pub returns-clause-extends : goal.returns-clause-extends
returns-clause-extends g c =
    subst (λ (text : List ℕ). Extends c.write_line.result (g.K.Sink.written c.args.sink.now) (g.K.Sink.written c.write_line.new.sink) text)
    (sym (append_assoc c.args.name.now (codes ": read failed") (10 ∷ []))) c.write_line.ensures.extends
