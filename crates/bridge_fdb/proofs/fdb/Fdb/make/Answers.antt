use Rattle.std.proofs.Common.{◌≤◌, ◌^◌, [], sym, subst, arith}
use Rattle.std.proofs.lemmas.List.Elements.{All-nil}
use Rattle.bridge_fdb.specs.declared.station.Station.{Station}
use Rattle.bridge_fdb.specs.Limits.{IsWithinLimits}
use Rattle.bridge_fdb.specs.Full.{TellsFull}
use Rattle.bridge_fdb.proofs.fdb.Fdb.make.Goals as goal

no_station : IsWithinLimits []
no_station = record {
  rising = λ i j d before below. absurd (omega (arith, below));
  room = λ port. omega arith;
  in_time = All-nil (λ (station : Station). station.last ≤ 2 ^ 62);
}

pub invariant_of-result : goal.invariant_of-result
invariant_of-result c =
    let made = c.in_ok-make.ensures in
    (made.0, subst IsWithinLimits (sym made.1) no_station, subst (TellsFull c.nowhere.result) (sym made.1) c.nowhere.ensures)
