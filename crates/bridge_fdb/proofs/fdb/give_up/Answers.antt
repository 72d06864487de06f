use Rattle.std.proofs.Common.{◌≡◌, false, All, ◌∙◌}
use Rattle.bridge_fdb.specs.Stations.{mac_number, is_of}
use Rattle.bridge_fdb.specs.Places.{StandsAt, BelongsAt}
use Rattle.bridge_fdb.specs.Kept.{listed, without}
use Rattle.bridge_fdb.proofs.Without.{remove_stands, none_left, none_found, IsWithinLimits-without}
use Rattle.bridge_fdb.proofs.Counting.{no_slot}
use Rattle.bridge_fdb.proofs.Fullness.{Tells-without}
use Rattle.bridge_fdb.proofs.fdb.give_up.Goals as goal

taken_out : (c : goal.After-set) → listed c.remove.new.self ≡ without (mac_number c.args.mac) (listed c.args.kept.now)
taken_out c =
    let at : StandsAt (mac_number c.args.mac) (listed c.args.kept.now) c.in-Ok.at = c.in-Ok.ensures in
    c.remove.ensures.listed ∙ remove_stands (mac_number c.args.mac) (listed c.args.kept.now) c.in-Ok.at at

pub returns-in-Ok-clause-listed : goal.returns-in-Ok-clause-listed
returns-in-Ok-clause-listed c = taken_out c

pub returns-in-Ok-clause-slots : goal.returns-in-Ok-clause-slots
returns-in-Ok-clause-slots c = λ slot station is.
    let none : All (λ x. is_of (mac_number c.args.mac) x ≡ false) (listed c.remove.new.self) = rw (taken_out c) (none_left (mac_number c.args.mac) (listed c.args.kept.now)) in
    (c.remove.ensures.slots slot station is, no_slot c.remove.new.self.stations.items c.remove.new.self.slots.items c.remove.new.self.numbers.items (listed c.remove.new.self) (is_of (mac_number c.args.mac)) c.remove.ensures.kept.tied none slot station is)

pub returns-in-Ok-clause-limits : goal.returns-in-Ok-clause-limits
returns-in-Ok-clause-limits c = rw (taken_out c) (IsWithinLimits-without (mac_number c.args.mac) (listed c.args.kept.now) c.requires.limits)

pub returns-in-Ok-clause-full : goal.returns-in-Ok-clause-full
returns-in-Ok-clause-full c =
    let at : StandsAt (mac_number c.args.mac) (listed c.args.kept.now) c.in-Ok.at = c.in-Ok.ensures in
    rw (taken_out c) (Tells-without c.args.full.now c.set.new.self (mac_number c.args.mac) (listed c.args.kept.now) c.in-Ok.at c.at-old.result c.requires.full c.requires.limits.rising at c.at-old.ensures c.set.ensures)

pub returns-in-Err-clause-slots : goal.returns-in-Err-clause-slots
returns-in-Err-clause-slots c = λ slot station is.
    let at : BelongsAt (mac_number c.args.mac) (listed c.args.kept.now) c.in-Err.field-0 = c.in-Err.ensures in
    (is, no_slot c.args.kept.now.stations.items c.args.kept.now.slots.items c.args.kept.now.numbers.items (listed c.args.kept.now) (is_of (mac_number c.args.mac)) c.requires.kept.tied (none_found (is_of (mac_number c.args.mac)) (listed c.args.kept.now) at.none) slot station is)
