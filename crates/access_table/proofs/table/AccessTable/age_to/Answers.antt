use Rattle.std.proofs.Common.{◌≡◌, ℕ, ◌≤◌, List, fold, refl, sym, ap, ◌∙◌, subst}
use Rattle.fcfs_states.specs.declared.times.Times.{Times}
use Rattle.addr_table.specs.Addresses.{Addresses}
use Rattle.savi_access.specs.Ages.{AllStill}
use Rattle.savi_access.specs.Rules.{AccessRules, AccessBase}
use Rattle.savi_access.specs.Marks.{Mark, told}
use Rattle.savi_access.specs.Probes.{probes_between}
use Rattle.access_table.specs.Kept.{Kept, Represents}
use Rattle.access_table.proofs.Standing.{aged_stands, sent_between}
use Rattle.access_table.proofs.table.AccessTable.age_to.Goals as goal

pub returns-clause-kept : goal.returns-clause-kept
returns-clause-kept g c =
    let new : Kept = record { vlan = c.self.inside.vlan; addresses = c.age_to.new.self; requests = c.self.inside.requests } in
    subst (λ (old : Kept). (r : AccessRules) (base : AccessBase) (past : List Mark) (from : ℕ) → Represents r base past from old → from ≤ c.args.t → Represents r base past c.args.t new) c.self.view_is
    (λ r base past from is after. aged_stands r base past from c.args.t (record { vlan = c.self.inside.vlan; addresses = c.self.inside.addresses; requests = c.self.inside.requests }) new is after refl c.age_to.ensures.rows refl)

pub returns-clause-sent : goal.returns-clause-sent
returns-clause-sent g c =
    subst (λ (old : Kept). (r : AccessRules) (base : AccessBase) (past : List Mark) (from : ℕ) → Represents r base past from old → from ≤ c.args.t → c.age_to.new.sink ≡ fold (λ taker sent. g.S.ProbeSink.after taker old.vlan sent) c.args.sink.now (probes_between r.addresses base.addresses (told past) from c.args.t old.vlan)) c.self.view_is
    (λ r base past from is after. c.age_to.ensures.sent ∙ ap (fold (λ taker sent. g.S.ProbeSink.after taker c.self.inside.vlan sent) c.args.sink.now) (sent_between r base past from c.args.t (record { vlan = c.self.inside.vlan; addresses = c.self.inside.addresses; requests = c.self.inside.requests }) is after))

pub returns-clause-still : goal.returns-clause-still
returns-clause-still g c = subst (λ (k : Times). AllStill k c.args.t c.age_to.new.self.rows) (sym (ap (λ (x : Addresses). x.times) c.age_to.ensures.rows)) c.age_to.ensures.still
