use Rattle.std.proofs.Common.{ℕ, [], ◌∷◌, ◌++◌, codes, Some, None, ap, ◌∙◌}
use Rattle.hist_store.specs.TextOfLines.{lines_text}
use Rattle.control_replies.specs.Bindings.{binding_fields}
use Rattle.control_replies.proofs.reply.Reply.put_fcfs.Goals as goal

pub returns-in-Tentative-clause-text : goal.returns-in-Tentative-clause-text
returns-in-Tentative-clause-text c =
    rw c.in-Tentative.is (c.put_binding_line.ensures.text ∙ ap (λ (moment : ℕ). c.args.self.now ++ lines_text (binding_fields c.args.vlan c.args.address c.in-Tentative.p (codes "tentative") None (Some moment) ∷ [])) c.test_end.ensures.value)

pub returns-in-TestLt-clause-text : goal.returns-in-TestLt-clause-text
returns-in-TestLt-clause-text c =
    rw c.in-TestLt.is (c.put_binding_line-in-TestLt.ensures.text ∙ ap (λ (moment : ℕ). c.args.self.now ++ lines_text (binding_fields c.args.vlan c.args.address c.in-TestLt.p (codes "testing-lt") None (Some moment) ∷ [])) c.test_end-in-TestLt.ensures.value)

pub returns-in-TestVp-clause-text : goal.returns-in-TestVp-clause-text
returns-in-TestVp-clause-text c =
    rw c.in-TestVp.is (c.put_binding_line-in-TestVp.ensures.text ∙ ap (λ (moment : ℕ). c.args.self.now ++ lines_text (binding_fields c.args.vlan c.args.address c.in-TestVp.p (codes "testing-vp") (Some c.in-TestVp.q) (Some moment) ∷ [])) c.test_end-in-TestVp.ensures.value)
