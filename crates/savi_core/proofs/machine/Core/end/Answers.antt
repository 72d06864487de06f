use Rattle.std.proofs.Common.{[], ◌∷◌, ◌++◌, ◌≡◌, ◌<◌, None, get_or, sym, subst, ap, ◌∙◌, arith, false}
use Rattle.std.specs.Prelude.{reverse}
use Rattle.savi_kinds.specs.declared.entry.Entry.{Entry}
use Rattle.checkpoint.specs.Columns.{kept_base as base_kept}
use Rattle.savi_history.specs.Passes.{pass_of}
use Rattle.savi_history.specs.Events as events
use Rattle.savi_history.specs.Legal.{MayCome}
use Rattle.savi_core.specs.Machines.{Machine, base_of}
use Rattle.savi_core.specs.Steps.{entry_of}
use Rattle.savi_core.specs.PassMarks.{PassMarks}
use Rattle.savi_core.specs.Rings.{Rings}
use Rattle.savi_core.proofs.Places.{pass_within}
use Rattle.savi_core.proofs.Remembering.{pass_small}
use Rattle.savi_core.proofs.Showing.{lane_count}
use Rattle.savi_core.proofs.Stepping.{row, end_fits, remembers_pass}
use Rattle.savi_core.proofs.Together.{all_end}
use Rattle.savi_core.proofs.Shutting.{shut_as}
use Rattle.savi_core.proofs.Refusing.{no_refusal}
use Rattle.savi_core.proofs.Tallying.{counted_too}
use Rattle.savi_core.specs.Ends.{EndMarks, AreEnds}
use Rattle.savi_core.proofs.Over.{end_none, ends_ended}
use Rattle.savi_core.proofs.machine.Core.end.Goals as goal

-- the number of the pass is small
small : (c : goal.After-append) → c.end_entry-entry.result.by < 34
small c =
    let event = events.End c.args.who c.args.how in
    let e = c.end_entry-entry.result in
    let may = subst (λ (m : Machine). MayCome m.plan (base_of m) m.past event) (sym c.self.view_is) c.requires in
    let e_is = subst (λ (m : Machine). e ≡ entry_of m event) (sym c.self.view_is) c.end_entry-entry.ensures in
    omega (arith, ap (λ (x : Entry). x.by) e_is, pass_small c.self.invariant.0 c.args.who may.0.known)

pub end-requires-clause-pass : goal.end-requires-clause-pass
end-requires-clause-pass c =
    let event = events.End c.args.who c.args.how in
    let e = c.end_entry-entry.result in
    let may = subst (λ (m : Machine). MayCome m.plan (base_of m) m.past event) (sym c.self.view_is) c.requires in
    let e_is = subst (λ (m : Machine). e ≡ entry_of m event) (sym c.self.view_is) c.end_entry-entry.ensures in
    omega (arith, ap (λ (x : Entry). x.by) e_is, pass_small c.self.invariant.0 c.args.who may.0.known)

pub put-requires-clause-pass : goal.put-requires-clause-pass
put-requires-clause-pass c =
    let event = events.End c.args.who c.args.how in
    let e = c.end_entry-entry.result in
    let may = subst (λ (m : Machine). MayCome m.plan (base_of m) m.past event) (sym c.self.view_is) c.requires in
    let e_is = subst (λ (m : Machine). e ≡ entry_of m event) (sym c.self.view_is) c.end_entry-entry.ensures in
    omega (arith, ap (λ (x : Entry). x.by) e_is, pass_small c.self.invariant.0 c.args.who may.0.known)

pub put-requires-clause-running : goal.put-requires-clause-running
put-requires-clause-running c =
    let inside = c.self.inside in
    let event = events.End c.args.who c.args.how in
    let e = c.end_entry-entry.result in
    let may = subst (λ (m : Machine). MayCome m.plan (base_of m) m.past event) (sym c.self.view_is) c.requires in
    let e_is = subst (λ (m : Machine). e ≡ entry_of m event) (sym c.self.view_is) c.end_entry-entry.ensures in
    let pass = pass_of inside.ports c.args.who in
    ap (λ (x : Entry). get_or inside.ends.ends x.by None) e_is
    ∙ c.self.invariant.7.ends pass (pass_within inside.ports c.args.who may.0.known)
    ∙ end_none (base_kept inside.checkpoint) pass (reverse inside.hist.rows) may.0.running

pub end-requires-clause-running : goal.end-requires-clause-running
end-requires-clause-running c =
    let inside = c.self.inside in
    let event = events.End c.args.who c.args.how in
    let e = c.end_entry-entry.result in
    let may = subst (λ (m : Machine). MayCome m.plan (base_of m) m.past event) (sym c.self.view_is) c.requires in
    let e_is = subst (λ (m : Machine). e ≡ entry_of m event) (sym c.self.view_is) c.end_entry-entry.ensures in
    ap (λ (x : Entry). get_or inside.passes.ended x.by false) e_is
    ∙ c.self.invariant.0.passes (pass_of inside.ports c.args.who) (pass_within inside.ports c.args.who may.0.known)
    ∙ may.0.running

pub end-requires-2-clause-known : goal.end-requires-2-clause-known
end-requires-2-clause-known c =
    let event = events.End c.args.who c.args.how in
    let may = subst (λ (m : Machine). MayCome m.plan (base_of m) m.past event) (sym c.self.view_is) c.requires in
    may.0.known

pub end-requires-2-clause-count : goal.end-requires-2-clause-count
end-requires-2-clause-count c = lane_count c.self.invariant.0.queues

pub append-requires-clause-room : goal.append-requires-clause-room
append-requires-clause-room c =
    let event = events.End c.args.who c.args.how in
    let may = subst (λ (m : Machine). MayCome m.plan (base_of m) m.past event) (sym c.self.view_is) c.requires in
    omega (arith, end_fits c.self.invariant.0 c.args.who may.0, c.self.invariant.1)

pub invariant_of-self : goal.invariant_of-self
invariant_of-self c =
    let event = events.End c.args.who c.args.how in
    let e = c.end_entry-entry.result in
    let may = subst (λ (m : Machine). MayCome m.plan (base_of m) m.past event) (sym c.self.view_is) c.requires in
    let e_is = subst (λ (m : Machine). e ≡ entry_of m event) (sym c.self.view_is) c.end_entry-entry.ensures in
    rw c.append.ensures (
      shut_as (sym (ap (λ (r : Rings). r.shut) c.end-2.ensures.counts)) (remembers_pass c.self.invariant.0 c.args.who c.args.how e c.end.new.self.ended c.end-2.new.self.lanes may e_is (ap (λ (m : PassMarks). m.ended) c.end.ensures) c.end-2.ensures.lanes),
      c.self.invariant.1,
      c.self.invariant.2,
      ap (λ (m : PassMarks). m.inputs) c.end.ensures ∙ c.self.invariant.3,
      all_end c.self.invariant.0 c.self.inside.sets.items c.self.invariant.4 c.args.who c.args.how e e_is,
      no_refusal c.self.invariant.0 event e [] c.self.inside.refused e_is tt,
      counted_too c.self.invariant.0 c.self.inside.tally c.add.new.self e [] c.self.invariant.6 c.add.ensures,
      subst (λ (m : EndMarks). AreEnds c.self.inside.ports (base_kept c.self.inside.checkpoint) (reverse (c.self.inside.hist.rows ++ row e [] ∷ [])) m) (sym c.put.ensures) (ends_ended c.self.invariant.0 c.self.inside.ends c.self.invariant.7 c.args.who c.args.how e e_is (small c)),
      c.self.invariant.8,
      c.self.invariant.9,
    )
