use Rattle.std.proofs.Common.{◌⊎◌, ◌≤◌, ◌<◌, ◌+◌, ◌-◌, ◌*◌, ℕ, inl, inr, arith}
use Rattle.std.proofs.lemmas.Bool.{cases_lt}
use Rattle.savi_kinds.specs.Ports.{number_of}
use Rattle.bridge_fdb.specs.Kept.{LivesUntil, in_slot, listed}
use Rattle.bridge_fdb.proofs.Counting.{LivesUntil-earlier, live_before, full_of}
use Rattle.bridge_fdb.proofs.kept.Kept.find_free.Goals as goal

pub returns-in-Err-find_free_within : goal.returns-in-Err-find_free_within
returns-in-Err-find_free_within c = (
  omega (arith, c.in-Err.ensures.0, c.in-Err-find_free_within.ensures.0, c.min.ensures),
  λ u before.
      full_of c.args.self.now.stations.items c.args.self.now.slots.items c.args.self.now.numbers.items (listed c.args.self.now) (number_of c.args.p) u c.requires.kept.tied c.args.p.low c.args.p.high
      (λ k from to. live_before c.min.result u (in_slot c.args.self.now.stations.items k) before (go k from to (cases_lt k (c.first_slot-first.result + c.from.result)))),
)
  where
    go : (k : ℕ) → 256 * (number_of c.args.p - 1) ≤ k → k < 256 * (number_of c.args.p - 1) + 256 → (k < c.first_slot-first.result + c.from.result) ⊎ (c.first_slot-first.result + c.from.result ≤ k) → LivesUntil c.min.result (in_slot c.args.self.now.stations.items k)
    go k from to (inl below) = LivesUntil-earlier c.in-Err-find_free_within.earlier c.min.result (in_slot c.args.self.now.stations.items k) (omega (arith, c.min.ensures)) (c.in-Err-find_free_within.ensures.1 k (omega (arith, from, c.first_slot-first.ensures.value)) below)
    go k from to (inr above) = LivesUntil-earlier c.in-Err.later c.min.result (in_slot c.args.self.now.stations.items k) (omega (arith, c.min.ensures)) (c.in-Err.ensures.1 k above (omega (arith, to, c.first_slot-first.ensures.value)))
