-- A table goes on from its own states.
use Rattle.std.proofs.Common.{ℕ, ◌≤◌, ◌^◌, sym, ◌∙◌, List, [], arith}
use Rattle.dhcp_states.proofs.Counts.{open_at-later}
use Rattle.savi_access.specs.Rules.{AccessRules, AccessBase, IsAccessBase}
use Rattle.savi_access.specs.Marks.{Mark, told, newest_moment, requests_after, base_at}
use Rattle.savi_access.specs.Legal.{AreMarks}
use Rattle.savi_access.proofs.StatesKept.{base_times, base_tables}
use Rattle.savi_access.proofs.TablesOf.{rows-later}
use Rattle.access_table.specs.Kept.{Kept, Represents}

-- what marks leave is within the limits
abbrev pub KeepLimits : Type 0
KeepLimits =
    (r : AccessRules) (base : AccessBase) (past : List Mark) (t : ℕ)
    → IsAccessBase r base → AreMarks r base past → newest_moment base past ≤ t → t ≤ 2 ^ 62 → IsAccessBase r (base_at r base past t)

pub table_goes_on : KeepLimits → (r : AccessRules) (base : AccessBase) (past : List Mark) (t : ℕ) (kept : Kept) → t ≤ 2 ^ 62 → Represents r base past t kept → Represents r (base_at r base past t) [] t kept
table_goes_on limits r base past t kept early is = record {
  base_is = limits r base past t is.base_is is.marks is.last early;
  marks = tt;
  last = omega arith;
  rows =
      is.rows
      ∙ rows-later r.addresses base.addresses (base_tables r.addresses base.addresses is.base_is.addresses) (base_times r.addresses base.addresses is.base_is.addresses) (told past) t t kept.vlan (omega arith);
  requests = is.requests ∙ sym (open_at-later t t (requests_after base kept.vlan past) (omega arith));
  times = is.times;
  per_port = is.per_port;
}
