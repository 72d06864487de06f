-- What frames tell in a legal history, and that they pass exactly where they have access.
use Rattle.std.proofs.Common.{◌≡◌, ◌≢◌, ℕ, ◌≤◌, ◌^◌, ◌↔◌, Bool, true, false, Option, Some, None, List, [], ◌∷◌, All, refl, sym, ap, subst, arith}
use Rattle.std.specs.Prelude.{IsSomeAnd}
use Rattle.std.proofs.lemmas.Bool.{false≢true}
use Rattle.std.proofs.lemmas.List.Elements.{All-nil, All-head, All-tail}
use Rattle.hex.specs.Hex.{IsBytes}
use Rattle.savi_kinds.specs.declared.plan.Plan.{Plan}
use Rattle.savi_kinds.specs.declared.plan.Role.TheVariants as roles
use Rattle.savi_kinds.specs.declared.port.Port.{Port}
use Rattle.savi_kinds.specs.declared.verdict.Rule.{Rule}
use Rattle.savi_kinds.specs.declared.entry.Act.{Act}
use Rattle.savi_kinds.specs.declared.entry.Act.TheVariants as acts
use Rattle.savi_kinds.specs.Ports.{number_of}
use Rattle.savi_kinds.specs.ValidPlan.{IsValidPlan}
use Rattle.frame_class.specs.declared.classes.Class.{Class}
use Rattle.frame_class.specs.declared.classes.Class.TheVariants.{Runt, Tagged, Other, BadIp, Ip6}
use Rattle.eth_frame.specs.Tags.{inner}
use Rattle.frame_class.specs.ClassOf.{class_of}
use Rattle.ra_guard.specs.GuardOf.{guard_of}
use Rattle.hist_store.specs.Rows.{Row}
use Rattle.mix_rules.specs.Next.{IsPass}
use Rattle.savi_access.specs.Marks.{Mark, moment_of, newest_moment}
use Rattle.savi_access.specs.Legal.{AreMarks, HasFront}
use Rattle.savi_access.specs.Access.{IsIpv6, HasAccess}
use Rattle.savi_access.specs.Plans.{rules_of, has_port, role_of}
use Rattle.savi_access.proofs.PlanRules.{unspecified_off_link}
use Rattle.savi_access.proofs.Lifetimes.{lifetimes}
use Rattle.savi_access.proofs.Keeping.{judged_marks}
use Rattle.savi_access.proofs.Passing.{accessed}
use Rattle.checkpoint.specs.Bases.{Base, access_of}
use Rattle.savi_history.specs.Limits.{IsWithinLimits}
use Rattle.savi_history.specs.Moments.{last_moment, moment_at}
use Rattle.savi_history.specs.Vlans.{vlan_of_frame}
use Rattle.cli_lang.specs.CommandOf.{command_of}
use Rattle.savi_history.specs.ShutPorts.{is_shut}
use Rattle.savi_history.specs.Marks.{marks, judged_after, untold}
use Rattle.savi_history.proofs.FrameVlans.{own_of_frame, inner_bytes, untold_marks}
use Rattle.savi_history.proofs.Commanding.{commanded_right}
use Rattle.savi_history.specs.Accesses.{HadAccess, PassedRightly, AllPassedRightly, IsTold}
use Rattle.savi_history.specs.Events.{Event, Frame, Long, Command, Tick, Drain, End, row_of}
use Rattle.savi_history.specs.Legal.{MayCome, Stands, IsLegal}

-- rows of octets
abbrev pub AreOctets : List Row → Type 0
AreOctets past = All (λ (r : Row). IsBytes r.octets) past

abbrev pub is_frame : Act → Bool
is_frame (acts.Frame port stamp at len) = true
is_frame (acts.Long port stamp len) = false
is_frame (acts.Tick stamp) = false
is_frame (acts.Command stamp at len) = false
is_frame (acts.Drain port count) = false
is_frame (acts.End who how) = false

abbrev pub port_in : Port → Act → Port
port_in other (acts.Frame port stamp at len) = port
port_in other (acts.Long port stamp len) = other
port_in other (acts.Tick stamp) = other
port_in other (acts.Command stamp at len) = other
port_in other (acts.Drain port count) = other
port_in other (acts.End who how) = other

-- moments don't fall, and stay within 62 bits
rises : (plan : Plan) (base : Base) (past : List Row) (event : Event) → last_moment base past ≤ (row_of plan base past event).entry.moment
rises plan base past (Frame port stamp octets) = omega arith
rises plan base past (Long port stamp len) = omega arith
rises plan base past (Command stamp line) = omega arith
rises plan base past (Tick stamp) = omega arith
rises plan base past (Drain port count) = omega arith
rises plan base past (End who how) = omega arith

stays_early : (plan : Plan) (base : Base) (past : List Row) (event : Event) → last_moment base past ≤ 2 ^ 62 → (row_of plan base past event).entry.moment ≤ 2 ^ 62
stays_early plan base past (Frame port stamp octets) early = omega (arith, early)
stays_early plan base past (Long port stamp len) early = omega (arith, early)
stays_early plan base past (Command stamp line) early = omega (arith, early)
stays_early plan base past (Tick stamp) early = omega (arith, early)
stays_early plan base past (Drain port count) early = early
stays_early plan base past (End who how) early = early

module _ (plan : Plan) (valid : IsValidPlan plan) (base : Base) (within : IsWithinLimits plan base) where
  pub early : (past : List Row) → IsLegal plan base past → last_moment base past ≤ 2 ^ 62
  early [] legal = within.access.addresses.early
  early (r ∷ past) legal =
      let stands : Stands plan base past r = legal.0 in
      subst (λ (x : Row). x.entry.moment ≤ 2 ^ 62) (sym stands.2) (stays_early plan base past stands.0 (early past legal.1))

  pub risen : (r : Row) (past : List Row) → IsLegal plan base (r ∷ past) → last_moment base past ≤ r.entry.moment
  risen r past legal = let stands : Stands plan base past r = legal.0 in subst (λ (x : Row). last_moment base past ≤ x.entry.moment) (sym stands.2) (rises plan base past stands.0)

  -- what the row of an event tells is in front of what was told
  pub record IsNext (past : List Row) (r : Row) : Type 0 where
    pub told : IsTold plan base (r ∷ past)
    pub front : HasFront r.entry.moment (marks plan base past) (marks plan base (r ∷ past))

  nothing_told : (past : List Row) (t : ℕ) → HasFront t (marks plan base past) (marks plan base past)
  nothing_told past t = record { new = []; is = refl; moments = All-nil (λ (m : Mark). moment_of m ≡ t) }

  -- what a frame of a VLAN tells at a port that is shut or not
  abbrev marks_in : List Row → Port → ℕ → List ℕ → Option ℕ → Bool → List Mark
  marks_in past port stamp octets vlan shut = (judged_after plan base shut (marks plan base past) port (moment_at base past stamp) vlan (class_of (inner octets))).marks

  abbrev marks_by : List Row → Port → ℕ → List ℕ → Bool → List Mark
  marks_by past port stamp octets shut = marks_in past port stamp octets (vlan_of_frame plan (number_of port) octets) shut

  -- these marks may come after those of the past, all at the moment of the frame
  abbrev MayBeNext : List Row → ℕ → List Mark → Type 0
  MayBeNext past stamp all =
      AreMarks (rules_of plan) (access_of base) all × (newest_moment (access_of base) all ≤ moment_at base past stamp) × HasFront (moment_at base past stamp) (marks plan base past) all

  -- without a VLAN nothing is told
  untold_next : (past : List Row) (stamp : ℕ) (rule : Option Rule) → IsTold plan base past → newest_moment (access_of base) (marks plan base past) ≤ moment_at base past stamp → MayBeNext past stamp (untold (marks plan base past) rule).marks
  untold_next past stamp rule told after =
      subst (λ (all : List Mark). MayBeNext past stamp all) (sym (untold_marks (marks plan base past) rule)) (told.right, after, nothing_told past (moment_at base past stamp))

  frame_marks : (past : List Row) (port : Port) (stamp : ℕ) (octets : List ℕ) → IsTold plan base past → IsBytes octets → has_port plan (number_of port) ≡ true
      → newest_moment (access_of base) (marks plan base past) ≤ moment_at base past stamp → moment_at base past stamp ≤ 2 ^ 62
      → (vlan : Option ℕ) → vlan_of_frame plan (number_of port) octets ≡ vlan → MayBeNext past stamp (marks_in past port stamp octets vlan false)
  frame_marks past port stamp octets told bytes known after soon None is = untold_next past stamp (guard_of roles.Trusted plan.drop_unknown (class_of (inner octets))) told after
  frame_marks past port stamp octets told bytes known after soon (Some vlan) is =
      judged_marks (rules_of plan) (access_of base) within.access vlan port (moment_at base past stamp) soon (marks plan base past) told.right after (class_of (inner octets)) (lifetimes (inner octets) (inner_bytes octets bytes))
      (λ host. own_of_frame plan valid (number_of port) vlan octets is known host)

  frame_next : (past : List Row) (port : Port) (stamp : ℕ) (octets : List ℕ) → IsTold plan base past → newest_moment (access_of base) (marks plan base past) ≤ moment_at base past stamp
      → (shut : Bool) → is_shut plan base (number_of port) past ≡ shut
      → AreMarks (rules_of plan) (access_of base) (marks_by past port stamp octets false) → newest_moment (access_of base) (marks_by past port stamp octets false) ≤ moment_at base past stamp
      → HasFront (moment_at base past stamp) (marks plan base past) (marks_by past port stamp octets false)
      → IsNext past (row_of plan base past (Frame port stamp octets))
  frame_next past port stamp octets told after false is right last front =
      record {
        told = record {
          right = subst (λ (b : Bool). AreMarks (rules_of plan) (access_of base) (marks_by past port stamp octets b)) (sym is) right;
          last = subst (λ (b : Bool). newest_moment (access_of base) (marks_by past port stamp octets b) ≤ moment_at base past stamp) (sym is) last;
        };
        front = subst (λ (b : Bool). HasFront (moment_at base past stamp) (marks plan base past) (marks_by past port stamp octets b)) (sym is) front;
      }
  frame_next past port stamp octets told after true is right last front =
      record {
        told = record {
          right = subst (λ (b : Bool). AreMarks (rules_of plan) (access_of base) (marks_by past port stamp octets b)) (sym is) told.right;
          last = subst (λ (b : Bool). newest_moment (access_of base) (marks_by past port stamp octets b) ≤ moment_at base past stamp) (sym is) after;
        };
        front = subst (λ (b : Bool). HasFront (moment_at base past stamp) (marks plan base past) (marks_by past port stamp octets b)) (sym is) (nothing_told past (moment_at base past stamp));
      }

  one_more : (past : List Row) (event : Event) → IsLegal plan base past → IsTold plan base past → MayCome plan base past event → IsBytes (row_of plan base past event).octets → IsNext past (row_of plan base past event)
  one_more past (Frame port stamp octets) legal told may bytes =
      let soon : moment_at base past stamp ≤ 2 ^ 62 = stays_early plan base past (Frame port stamp octets) (early past legal) in
      let after : newest_moment (access_of base) (marks plan base past) ≤ moment_at base past stamp = omega (arith, told.last) in
      let all = frame_marks past port stamp octets told bytes may.0.open_pass.known after soon (vlan_of_frame plan (number_of port) octets) refl in
      frame_next past port stamp octets told after (is_shut plan base (number_of port) past) refl all.0 all.1 all.2
  one_more past (Command stamp line) legal told may bytes =
      let soon : moment_at base past stamp ≤ 2 ^ 62 = stays_early plan base past (Command stamp line) (early past legal) in
      let after : newest_moment (access_of base) (marks plan base past) ≤ moment_at base past stamp = omega (arith, told.last) in
      let all = commanded_right plan valid base within (moment_at base past stamp) soon (marks plan base past) told.right after (command_of line) in
      record { told = record { right = all.legal; last = all.last }; front = all.front }
  one_more past (Long port stamp len) legal told may bytes = record { told = record { right = told.right; last = omega (arith, told.last) }; front = nothing_told past (moment_at base past stamp) }
  one_more past (Tick stamp) legal told may bytes = record { told = record { right = told.right; last = omega (arith, told.last) }; front = nothing_told past (moment_at base past stamp) }
  one_more past (Drain port count) legal told may bytes = record { told = record { right = told.right; last = told.last }; front = nothing_told past (last_moment base past) }
  one_more past (End who how) legal told may bytes = record { told = record { right = told.right; last = told.last }; front = nothing_told past (last_moment base past) }

  mutual_next : (r : Row) (past : List Row) → IsLegal plan base (r ∷ past) → AreOctets (r ∷ past) → IsTold plan base past → IsNext past r
  mutual_next r past legal bytes told =
      let stands : Stands plan base past r = legal.0 in
      subst (λ (x : Row). IsNext past x) (sym stands.2)
      (one_more past stands.0 legal.1 told stands.1 (subst (λ (x : Row). IsBytes x.octets) stands.2 (All-head (λ (x : Row). IsBytes x.octets) r past bytes)))

  -- what was told in a legal history
  pub told_rightly : (past : List Row) → IsLegal plan base past → AreOctets past → IsTold plan base past
  told_rightly [] legal bytes = record { right = tt; last = omega arith }
  told_rightly (r ∷ past) legal bytes = (mutual_next r past legal bytes (told_rightly past legal.1 (All-tail (λ (x : Row). IsBytes x.octets) r past bytes))).told

  pub next_told : (r : Row) (past : List Row) → IsLegal plan base (r ∷ past) → AreOctets (r ∷ past) → IsNext past r
  next_told r past legal bytes = mutual_next r past legal bytes (told_rightly past legal.1 (All-tail (λ (x : Row). IsBytes x.octets) r past bytes))

  -- no frame passes at a shut port
  none_at_shut : (told : List Mark) (port : Port) (t vlan : ℕ) (class : Class) → ¬ HasAccess (rules_of plan) (access_of base) vlan port t told true class
  none_at_shut told port t vlan Runt has = has
  none_at_shut told port t vlan (Tagged eth) has = has
  none_at_shut told port t vlan (Other eth) has = has
  none_at_shut told port t vlan (BadIp eth) has = has
  none_at_shut told port t vlan (Ip6 eth ip read) has = false≢true (sym has.0)

  unless_shut : (shut : Bool) (told : List Mark) (port : Port) (t vlan : ℕ) (class : Class)
      → (IsPass (Some (judged_after plan base false told port t (Some vlan) class).verdict) ↔ HasAccess (rules_of plan) (access_of base) vlan port t told false class)
      → (IsPass (Some (judged_after plan base shut told port t (Some vlan) class).verdict) ↔ HasAccess (rules_of plan) (access_of base) vlan port t told shut class)
  unless_shut false told port t vlan class both = both
  unless_shut true told port t vlan class both = (λ pass. absurd pass, λ has. absurd (none_at_shut told port t vlan class has))

  -- nor without a VLAN
  untold_stops : (told : List Mark) (rule : Option Rule) → ¬ IsPass (Some (untold told rule).verdict)
  untold_stops told None pass = pass
  untold_stops told (Some rule) pass = pass

  none_untold : (shut : Bool) (told : List Mark) (port : Port) (t : ℕ) (class : Class) → ¬ IsPass (Some (judged_after plan base shut told port t None class).verdict)
  none_untold true told port t class pass = pass
  none_untold false told port t class pass = untold_stops told (guard_of roles.Trusted plan.drop_unknown class) pass

  module _ (on : plan.savi ≡ true) where
    -- a frame at a port of a host or a server passes exactly where it has a VLAN there, and access in it
    passed_in : (past : List Row) (port : Port) (stamp : ℕ) (octets : List ℕ) → IsTold plan base past → has_port plan (number_of port) ≡ true → role_of plan (number_of port) ≢ roles.Trusted → IsIpv6 (class_of (inner octets))
        → newest_moment (access_of base) (marks plan base past) ≤ moment_at base past stamp → moment_at base past stamp ≤ 2 ^ 62
        → (vlan : Option ℕ) → vlan_of_frame plan (number_of port) octets ≡ vlan
        → (IsPass (Some (judged_after plan base (is_shut plan base (number_of port) past) (marks plan base past) port (moment_at base past stamp) vlan (class_of (inner octets))).verdict)
        ↔ IsSomeAnd vlan (λ v. HasAccess (rules_of plan) (access_of base) v port (moment_at base past stamp) (marks plan base past) (is_shut plan base (number_of port) past) (class_of (inner octets))))
    passed_in past port stamp octets told known host ipv6 after soon None is =
        (λ pass. none_untold (is_shut plan base (number_of port) past) (marks plan base past) port (moment_at base past stamp) (class_of (inner octets)) pass, λ has. absurd has)
    passed_in past port stamp octets told known host ipv6 after soon (Some vlan) is =
        unless_shut (is_shut plan base (number_of port) past) (marks plan base past) port (moment_at base past stamp) vlan (class_of (inner octets))
        (accessed (rules_of plan) (access_of base) within.access vlan port (moment_at base past stamp) soon (marks plan base past) told.right after
        (own_of_frame plan valid (number_of port) vlan octets is known host) on (unspecified_off_link plan valid vlan) (class_of (inner octets)) host ipv6)

    event_passed : (past : List Row) (event : Event) → IsLegal plan base past → IsTold plan base past → MayCome plan base past event → PassedRightly plan base past (row_of plan base past event)
    event_passed past (Frame port stamp octets) legal told may at_port frame host ipv6 =
        let same : port ≡ at_port = ap (port_in port) frame.frame in
        let soon : moment_at base past stamp ≤ 2 ^ 62 = stays_early plan base past (Frame port stamp octets) (early past legal) in
        let after : newest_moment (access_of base) (marks plan base past) ≤ moment_at base past stamp = omega (arith, told.last) in
        let here : role_of plan (number_of port) ≢ roles.Trusted = subst (λ (p : Port). role_of plan (number_of p) ≢ roles.Trusted) (sym same) host in
        subst (λ (p : Port). IsPass (row_of plan base past (Frame port stamp octets)).entry.verdict ↔ HadAccess plan base past (row_of plan base past (Frame port stamp octets)) p) same
        (passed_in past port stamp octets told may.0.open_pass.known here ipv6 after soon (vlan_of_frame plan (number_of port) octets) refl)
    event_passed past (Command stamp line) legal told may at_port frame host ipv6 = absurd (false≢true (ap is_frame frame.frame))
    event_passed past (Long port stamp len) legal told may at_port frame host ipv6 = absurd (false≢true (ap is_frame frame.frame))
    event_passed past (Tick stamp) legal told may at_port frame host ipv6 = absurd (false≢true (ap is_frame frame.frame))
    event_passed past (Drain port count) legal told may at_port frame host ipv6 = absurd (false≢true (ap is_frame frame.frame))
    event_passed past (End who how) legal told may at_port frame host ipv6 = absurd (false≢true (ap is_frame frame.frame))

    -- each frame passed exactly where it had access
    pub passed_rightly : (past : List Row) → IsLegal plan base past → AreOctets past → AllPassedRightly plan base past
    passed_rightly [] legal bytes = tt
    passed_rightly (r ∷ past) legal bytes =
        let stands : Stands plan base past r = legal.0 in
        let rest = All-tail (λ (x : Row). IsBytes x.octets) r past bytes in
        (subst (λ (x : Row). PassedRightly plan base past x) (sym stands.2) (event_passed past stands.0 legal.1 (told_rightly past legal.1 rest) stands.1), passed_rightly past legal.1 rest)
