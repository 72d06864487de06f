-- What renewals make of what is armed.
use Rattle.std.specs.Prelude.{ℕ, ◌+◌, Some, List}
use Rattle.std.specs.List.{fold}
use Rattle.savi_kinds.specs.declared.address.Addr.{Addr}
use Rattle.timer_wheel.specs.declared.armed.Armed.{Armed}
use Rattle.timer_wheel.specs.Arms.{with_due}

-- the next moment, and what is armed, once each address is due a ms after the one before it
abbrev pub armed_all : ℕ → List Armed → List Addr → ℕ × List Armed
armed_all first arms addresses = fold (λ left a. (left.0 + 1, with_due a.0 (Some left.0) left.1)) (first, arms) addresses
