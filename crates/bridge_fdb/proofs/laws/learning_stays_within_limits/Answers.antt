use Rattle.std.proofs.Common.{arith, ◌≤◌, ◌^◌}
use Rattle.std.proofs.lemmas.List.Elements.{All-nil}
use Rattle.bridge_fdb.specs.declared.station.Station.{Station}
use Rattle.bridge_fdb.specs.Stations.{is_live}
use Rattle.bridge_fdb.proofs.Within.{IsWithinLimits-filter, IsWithinLimits-learned}
use Rattle.bridge_fdb.proofs.laws.learning_stays_within_limits.Goals as goal

pub returns : goal.returns
returns c = record {
  start = record {
    rising = λ i j d before below. absurd (omega (arith, below));
    room = λ port. omega arith;
    in_time = All-nil (λ (station : Station). station.last ≤ 2 ^ 62);
  };
  learns = λ s xs moment within. IsWithinLimits-learned s xs moment within;
  aged = λ t xs within. IsWithinLimits-filter (is_live t) xs within;
}
