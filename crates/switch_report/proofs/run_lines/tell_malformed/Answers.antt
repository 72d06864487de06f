use Rattle.std.proofs.Common.{◌≡◌, ℕ, List, [], ◌∷◌, ◌++◌, codes, decimal, subst, sym, ap, ◌∙◌, append_assoc}
use Rattle.savi_ends.specs.Writes.{Extends}
use Rattle.switch_report.specs.RunLines.{malformed_line}
use Rattle.switch_report.proofs.run_lines.tell_malformed.Goals as goal

line_is : (name : List ℕ) (at : ℕ) (text : List ℕ) → text ≡ codes ": malformed at " ++ (decimal at ++ 10 ∷ []) → name ++ text ≡ malformed_line name at
line_is name at text is =
    ap (λ (l : List ℕ). name ++ l) (is ∙ sym (append_assoc (codes ": malformed at ") (decimal at) (10 ∷ [])))
    ∙ sym (append_assoc name (codes ": malformed at " ++ decimal at) (10 ∷ []))

pub returns-clause-extends : goal.returns-clause-extends
returns-clause-extends g c =
    subst (λ (text : List ℕ). Extends c.write_line.result (g.K.Sink.written c.args.sink.now) (g.K.Sink.written c.write_line.new.sink) text)
    (line_is c.args.name.now c.args.at _ (c.as_str.ensures.value ∙ c.malformed_text.ensures)) c.write_line.ensures.extends
