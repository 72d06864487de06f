-- Marks that may come after a base at a moment may come after the marks that led there.
use Rattle.std.proofs.Common.{◌≡◌, ℕ, ◌≤◌, None, IsSome, List, [], ◌∷◌, ◌++◌, sym, subst, arith}
use Rattle.savi_kinds.specs.Ports.{number_of}
use Rattle.savi_kinds.specs.Orders.{AreInTurn}
use Rattle.fcfs_states.specs.Premises.{AreTimes}
use Rattle.dhcp_states.specs.declared.request.Request.{Request}
use Rattle.dhcp_states.specs.Requests.{refusal, asker}
use Rattle.savi_access.specs.declared.row.Row.{Row}
use Rattle.savi_access.specs.Rooms.{room_for, IsFixable}
use Rattle.savi_access.specs.Bases.{AreTables}
use Rattle.savi_access.specs.NamedMarks.{named_moment}
use Rattle.savi_access.specs.Tables.{rows_at}
use Rattle.savi_access.specs.Rules.{AccessRules, AccessBase}
use Rattle.savi_access.specs.Marks.{Mark, Told, Asked, Met, told, moment_of, newest_moment, base_at}
use Rattle.savi_access.specs.Legal.{MayBe, AreMarks}
use Rattle.savi_access.proofs.States.{told_before}
use Rattle.savi_segments.proofs.Behind.{turn_rises, rows_cut, requests_cut}

-- marks that may be told are in turn
pub turns : (r : AccessRules) (base : AccessBase) (past : List Mark) (t : ℕ) → AreMarks r base past → newest_moment base past ≤ t → AreInTurn named_moment base.addresses.moment t (told past)
turns r base [] t right after = after
turns r base (Told named ∷ past) t right after = (after, turns r base past named.moment right.1 right.0.order)
turns r base (Asked vlan request ∷ past) t right after = turns r base past t right.1 (omega (arith, right.0.order, after))
turns r base (Met vlan moment tid duid ∷ past) t right after = turns r base past t right.1 (omega (arith, right.0.order, after))

module _ (r : AccessRules) (base : AccessBase) (tables : AreTables base.addresses) (times : AreTimes r.addresses.times) (early : List Mark) (t0 : ℕ) where
  abbrev mid : AccessBase
  mid = base_at r base early t0

  pub newest_whole : (late : List Mark) → newest_moment base early ≤ t0 → newest_moment base (late ++ early) ≤ newest_moment mid late
  newest_whole [] low = low
  newest_whole (mark ∷ late) low = omega arith

  module _ (late : List Mark) (right : AreMarks r base (late ++ early)) (right_mid : AreMarks r mid late) where
    kind_joined : (mark : Mark) → newest_moment base (late ++ early) ≤ moment_of mark → newest_moment mid late ≤ moment_of mark → MayBe r mid late mark → MayBe r base (late ++ early) mark
    kind_joined (Told named) after after_mid kind =
        let same : rows_at r.addresses mid.addresses (told late) named.moment named.vlan ≡ rows_at r.addresses base.addresses (told (late ++ early)) named.moment named.vlan =
        sym (rows_cut r base tables times early t0 late named.moment named.vlan (turns r mid late named.moment right_mid after_mid)) in
        record {
          order = told_before r base (late ++ early) named.moment right after;
          early = kind.early;
          on_link = kind.on_link;
          port = kind.port;
          lease = kind.lease;
          room = subst (λ (rows : List Row). named.room ≡ room_for r.addresses.per_port rows named.event) same kind.room;
          fix = subst (λ (rows : List Row). IsFixable r.addresses.per_port rows named.address named.event) same kind.fix;
        }
    kind_joined (Asked vlan request) after after_mid kind = (
      kind.0,
      subst (λ (now : List Request). refusal (number_of request.port) request.tid request.duid.items now ≡ None)
          (sym (requests_cut r base tables times early t0 late request.opened vlan (turn_rises t0 request.opened (told late) (turns r mid late request.opened right_mid after_mid)))) kind.1,
    )
    kind_joined (Met vlan moment tid duid) after after_mid kind =
        subst (λ (now : List Request). IsSome (asker tid duid now))
        (sym (requests_cut r base tables times early t0 late moment vlan (turn_rises t0 moment (told late) (turns r mid late moment right_mid after_mid)))) kind

  pub marks_joined : AreMarks r base early → newest_moment base early ≤ t0 → (late : List Mark) → AreMarks r mid late → AreMarks r base (late ++ early)
  marks_joined first low [] right_mid = first
  marks_joined first low (mark ∷ late) right_mid =
      let rest : AreMarks r base (late ++ early) = marks_joined first low late right_mid.1 in
      let order : newest_moment base (late ++ early) ≤ moment_of mark = omega (arith, newest_whole late low, right_mid.0.order) in
      (record { order = order; early = right_mid.0.early; kind = kind_joined late rest right_mid.1 mark order right_mid.0.order right_mid.0.kind }, rest)
