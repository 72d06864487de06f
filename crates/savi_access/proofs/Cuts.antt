-- A list of marks may be cut at any moment.
use Rattle.std.proofs.Common.{◌≡◌, ℕ, ◌≤◌, List, [], ◌∷◌, ◌++◌, sym, ◌∙◌, subst, arith}
use Rattle.fcfs_states.specs.Premises.{AreTimes}
use Rattle.savi_access.specs.Rows.{IsTable}
use Rattle.savi_access.specs.Rooms.{room_for, IsFixable}
use Rattle.savi_access.specs.Bases.{AddrRules, AddrBase, AreTables}
use Rattle.savi_kinds.specs.Orders.{AreInTurn}
use Rattle.savi_access.specs.NamedMarks.{Named, last_moment, named_moment}
use Rattle.savi_access.specs.Tables.{rows_at}
use Rattle.savi_access.specs.Limits.{base_at, IsPast}
use Rattle.savi_access.proofs.Rows.{one_table}
use Rattle.savi_access.proofs.TablesOf.{table_at, states_at, cut_at}

pub in_turn : (r : AddrRules) (base : AddrBase) (past : List Named) (t : ℕ) → IsPast r base past → last_moment base past ≤ t → AreInTurn named_moment base.moment t past
in_turn r base [] t right after = after
in_turn r base (named ∷ past) t right after = (after, in_turn r base past named.moment right.1 right.0.order)

module _ (r : AddrRules) (base : AddrBase) (tables : AreTables base) (times : AreTimes r.times) (early : List Named) (t0 : ℕ) where
  abbrev mid : AddrBase
  mid = base_at r base early t0

  mid-tables : AreTables mid
  mid-tables vlan = table_at r base tables early t0 vlan

  pub cut_rows : (late : List Named) (t vlan : ℕ) → AreInTurn named_moment t0 t late → rows_at r base (late ++ early) t vlan ≡ rows_at r mid late t vlan
  cut_rows late t vlan turn =
      let whole : IsTable (rows_at r base (late ++ early) t vlan) = table_at r base tables (late ++ early) t vlan in
      let from_mid : IsTable (rows_at r mid late t vlan) = table_at r mid mid-tables late t vlan in
      one_table (rows_at r base (late ++ early) t vlan) (rows_at r mid late t vlan) whole.rising whole.stand from_mid.rising from_mid.stand
      (λ a. states_at r base tables times (late ++ early) t vlan a ∙ cut_at r base tables times early late t0 t vlan a turn ∙ sym (states_at r mid mid-tables times late t vlan a))

  -- the moments of late marks are those from t0 on
  last_whole : last_moment base early ≤ t0 → (late : List Named) (t : ℕ) → AreInTurn named_moment t0 t late → last_moment base (late ++ early) ≤ last_moment mid late
  last_whole before [] t turn = before
  last_whole before (named ∷ late) t turn = omega arith

  last_mid : (late : List Named) (t : ℕ) → AreInTurn named_moment t0 t late → (named : Named) → AreInTurn named_moment t0 named.moment late → last_moment mid late ≤ named.moment
  last_mid [] t turn named next = next
  last_mid (other ∷ late) t turn named next = next.0

  pub cut_legal : (late : List Named) (t : ℕ) → AreInTurn named_moment t0 t late → IsPast r base (late ++ early) → IsPast r base early × IsPast r mid late
  cut_legal [] t turn right = (right, tt)
  cut_legal (named ∷ late) t turn right =
      let rest : IsPast r base early × IsPast r mid late = cut_legal late named.moment turn.1 right.1 in
      let same : rows_at r base (late ++ early) named.moment named.vlan ≡ rows_at r mid late named.moment named.vlan = cut_rows late named.moment named.vlan turn.1 in (
        rest.0,
        (
          record {
            order = last_mid late named.moment turn.1 named turn.1;
            early = right.0.early;
            on_link = right.0.on_link;
            port = right.0.port;
            lease = right.0.lease;
            room = subst (λ rows. named.room ≡ room_for r.per_port rows named.event) same right.0.room;
            fix = subst (λ rows. IsFixable r.per_port rows named.address named.event) same right.0.fix;
          },
          rest.1,
        ),
      )

  pub joined_legal : last_moment base early ≤ t0 → (late : List Named) (t : ℕ) → AreInTurn named_moment t0 t late → IsPast r base early → IsPast r mid late → IsPast r base (late ++ early)
  joined_legal before [] t turn first later = first
  joined_legal before (named ∷ late) t turn first later =
      let same : rows_at r mid late named.moment named.vlan ≡ rows_at r base (late ++ early) named.moment named.vlan = sym (cut_rows late named.moment named.vlan turn.1) in
      let low : last_moment base (late ++ early) ≤ last_moment mid late = last_whole before late named.moment turn.1 in (
        record {
          order = omega (arith, low, later.0.order);
          early = later.0.early;
          on_link = later.0.on_link;
          port = later.0.port;
          lease = later.0.lease;
          room = subst (λ rows. named.room ≡ room_for r.per_port rows named.event) same later.0.room;
          fix = subst (λ rows. IsFixable r.per_port rows named.address named.event) same later.0.fix;
        },
        joined_legal before late named.moment turn.1 first later.1,
      )
