use Rattle.std.proofs.Common.{◌≡◌, ◌==◌, Bool, false, [], ◌∷◌, List, ℕ, length, refl, arith, sym, ◌∙◌, subst}
use Rattle.std.proofs.lemmas.Bool.{eqb-true, false≢true}
use Rattle.savi_ends.specs.declared.sink.Put.TheVariants as put
use Rattle.savi_ends.specs.Writes.{Extends}
use Rattle.journal_write.specs.Written.{WasGiven}
use Rattle.journal_write.proofs.Giving.{given_part, given_whole}
use Rattle.audit_run.proofs.Waiting.{given_any}
use Rattle.audit_run.proofs.printer.Printer.write_waiting.Goals as goal

no_octets : (octets : List ℕ) → length octets ≡ 0 → octets ≡ []
no_octets [] none = refl
no_octets (o ∷ octets) none = absurd (omega (arith, none))

some_octets : (octets : List ℕ) → octets ≡ [] → (length octets == 0) ≡ false → ⊥
some_octets [] none some = false≢true (sym some)
some_octets (o ∷ octets) none some = cc

pub returns-then-self-clause-text : goal.returns-then-self-clause-text
returns-then-self-clause-text g c = λ first text was.
    given_any g.K.Sink.written g.K.Sink.faults first c.args.self.now.sink c.args.self.now.waits.items [] text c.args.self.now.failed c.if-self.true was

pub returns-then-is_empty-clause-text : goal.returns-then-is_empty-clause-text
returns-then-is_empty-clause-text g c = λ first text was.
    subst (λ (w : List ℕ). WasGiven g.K.Sink.written g.K.Sink.faults first c.args.self.now.sink w c.args.self.now.failed text) (no_octets c.args.self.now.waits.items (eqb-true _ 0 (sym c.is_empty.ensures ∙ c.if-is_empty.true))) was

pub returns-in-Done-clause-text : goal.returns-in-Done-clause-text
returns-in-Done-clause-text g c = λ first text was.
    let written = g.K.Sink.written in
    let faults = g.K.Sink.faults in
    let old = c.args.self.now in
    let open_was : WasGiven written faults first old.sink old.waits.items false text = subst (λ (f : Bool). WasGiven written faults first old.sink old.waits.items f text) c.if-self.false was in
    subst (λ (f : Bool). WasGiven written faults first c.write.new.self [] f text) (sym c.if-self.false)
    (given_whole written faults first old.sink c.write.new.self old.waits.items text open_was
    (subst (λ (piece : List ℕ). Extends put.Done (written old.sink) (written c.write.new.self) piece) c.as_slice.ensures.value c.in-Done.ensures.extends) (c.write.ensures.still c.in-Done.is))

pub returns-in-Failed-clause-text : goal.returns-in-Failed-clause-text
returns-in-Failed-clause-text g c = λ first text was.
    let written = g.K.Sink.written in
    let faults = g.K.Sink.faults in
    let old = c.args.self.now in
    let open_was : WasGiven written faults first old.sink old.waits.items false text = subst (λ (f : Bool). WasGiven written faults first old.sink old.waits.items f text) c.if-self.false was in
    given_part written faults first old.sink c.write.new.self old.waits.items [] text open_was
    (subst (λ (piece : List ℕ). Extends put.Failed (written old.sink) (written c.write.new.self) piece) c.as_slice.ensures.value c.in-Failed.ensures.extends) (c.write.ensures.cause c.in-Failed.is)

pub returns-in-Done-clause-none : goal.returns-in-Done-clause-none
returns-in-Done-clause-none g c = λ none. absurd (some_octets c.args.self.now.waits.items none (sym c.is_empty.ensures ∙ c.if-is_empty.false))

pub returns-in-Failed-clause-none : goal.returns-in-Failed-clause-none
returns-in-Failed-clause-none g c = λ none. absurd (some_octets c.args.self.now.waits.items none (sym c.is_empty.ensures ∙ c.if-is_empty.false))
