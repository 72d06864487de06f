-- The laws on stations.
use Rattle.std.specs.Prelude.{ℕ, ◌≡◌, ◌≤◌, ◌^◌, List, []}
use Rattle.bridge_fdb.specs.declared.station.Station.{Station}
use Rattle.bridge_fdb.specs.Stations.{live_at}
use Rattle.bridge_fdb.specs.Learning.{learned}
use Rattle.bridge_fdb.specs.Limits.{IsWithinLimits}

-- No port has more than 256 stations, and no two stations have one MAC address: so it is at the start, and so it stays
-- when a station is learned and when time passes.
pub record KeepsLimits : Type 0 where
  pub start : IsWithinLimits []
  pub learns : (station : Station) (stations : List Station) → station.last ≤ 2 ^ 62 → IsWithinLimits stations → IsWithinLimits (learned station stations)
  pub aged : (t : ℕ) (stations : List Station) → IsWithinLimits stations → IsWithinLimits (live_at t stations)

-- What is live at a later moment is what is live then of what is live now.
abbrev pub StationsAgeOnce : Type 0
StationsAgeOnce = (t u : ℕ) (stations : List Station) → t ≤ u → live_at u (live_at t stations) ≡ live_at u stations
