-- First come, first served, over whole histories.
use Rattle.std.proofs.Common.{◌≡◌, ◌≢◌, ℕ, ◌≤◌, ◌^◌, Bool, true, false, Option, Some, None, List, [], ◌∷◌, ◌++◌, All, refl, sym, ap, subst, ◌∙◌, arith, append_assoc}
use Rattle.std.proofs.lemmas.Bool.{false≢true}
use Rattle.std.proofs.lemmas.List.Elements.{All-head, All-tail}
use Rattle.hex.specs.Hex.{IsBytes}
use Rattle.savi_kinds.specs.declared.plan.Plan.{Plan}
use Rattle.savi_kinds.specs.declared.plan.Method.{Method}
use Rattle.savi_kinds.specs.declared.plan.Role.TheVariants as roles
use Rattle.savi_kinds.specs.declared.port.Port.{Port}
use Rattle.savi_kinds.specs.Ports.{number_of}
use Rattle.savi_kinds.specs.ValidPlan.{IsValidPlan}
use Rattle.eth_frame.specs.declared.header.Eth.{Eth}
use Rattle.v6_chain.specs.declared.packet.Ip.{Ip}
use Rattle.frame_class.specs.declared.classes.Class.{Class}
use Rattle.frame_class.specs.declared.classes.Class.TheVariants.{Runt, Tagged, Other, BadIp, Ip6}
use Rattle.frame_class.specs.declared.classes.Read.{Read}
use Rattle.frame_class.specs.ClassOf.{class_of}
use Rattle.eth_frame.specs.Tags.{inner}
use Rattle.fcfs_states.specs.States.{Same}
use Rattle.mix_rules.specs.Next.{IsPass}
use Rattle.hist_store.specs.Rows.{Row}
use Rattle.savi_kinds.specs.Orders.{AreInTurn}
use Rattle.savi_access.specs.NamedMarks.{Named, named_moment}
use Rattle.savi_access.specs.States.{state_at}
use Rattle.savi_access.specs.Rules.{AccessRules, AccessBase}
use Rattle.savi_access.specs.Marks.{Mark, Told, Asked, Met, told, moment_of, newest_moment}
use Rattle.savi_access.specs.Legal.{AreMarks}
use Rattle.savi_access.specs.Judged.{judged}
use Rattle.savi_access.specs.Plans.{rules_of, role_of}
use Rattle.savi_access.proofs.PlanRules.{unspecified_off_link}
use Rattle.savi_access.proofs.Living.{lives_at}
use Rattle.savi_access.proofs.States.{off_link}
use Rattle.savi_access.proofs.FirstCome.{keeps_first}
use Rattle.checkpoint.specs.Bases.{Base, access_of}
use Rattle.savi_history.specs.Vlans.{vlan_of_frame}
use Rattle.savi_history.specs.Limits.{IsWithinLimits}
use Rattle.savi_history.specs.Moments.{last_moment, moment_at}
use Rattle.savi_history.specs.ShutPorts.{is_shut}
use Rattle.savi_history.specs.Marks.{marks, judged_after}
use Rattle.savi_history.specs.Judged.{verdict_of}
use Rattle.savi_history.specs.Accesses.{IsTold}
use Rattle.savi_history.specs.CameFirst.{IsLiveAtEnd, IsLostSince, IsFrom, KeepsWhoCameFirst, AllKeepWhoCameFirst}
use Rattle.savi_history.specs.Events.{Event, Frame, Long, Command, Tick, Drain, End, row_of}
use Rattle.savi_history.specs.Legal.{MayCome, Stands, IsLegal}
use Rattle.savi_history.proofs.FrameVlans.{own_of_frame}
use Rattle.savi_history.proofs.Telling.{AreOctets, is_frame, port_in, early, risen, told_rightly, next_told}

told_joined : (late before : List Mark) → told (late ++ before) ≡ told late ++ told before
told_joined [] before = refl
told_joined (Told named ∷ late) before = ap (λ l. named ∷ l) (told_joined late before)
told_joined (Asked vlan request ∷ late) before = told_joined late before
told_joined (Met vlan moment tid duid ∷ late) before = told_joined late before

-- marks that may be told are in turn
turns : (r : AccessRules) (base : AccessBase) (past : List Mark) (t : ℕ) → AreMarks r base past → newest_moment base past ≤ t → AreInTurn named_moment base.addresses.moment t (told past)
turns r base [] t right after = after
turns r base (Told named ∷ past) t right after = (after, turns r base past named.moment right.1 right.0.order)
turns r base (Asked vlan request ∷ past) t right after = turns r base past t right.1 (omega (arith, right.0.order, after))
turns r base (Met vlan moment tid duid ∷ past) t right after = turns r base past t right.1 (omega (arith, right.0.order, after))

turn_later : (from t later : ℕ) (past : List Named) → t ≤ later → AreInTurn named_moment from t past → AreInTurn named_moment from later past
turn_later from t later [] order turn = omega (arith, order, turn)
turn_later from t later (named ∷ past) order turn = (omega (arith, order, turn.0), turn.1)

-- marks of one moment in front
turn_front : (from t : ℕ) (new : List Mark) (past : List Named) → All (λ (m : Mark). moment_of m ≡ t) new → AreInTurn named_moment from t past → AreInTurn named_moment from t (told new ++ past)
turn_front from t [] past moments turn = turn
turn_front from t (Told named ∷ new) past moments turn =
    let here : named.moment ≡ t = All-head (λ (m : Mark). moment_of m ≡ t) (Told named) new moments in
    let behind : AreInTurn named_moment from t (told new ++ past) = turn_front from t new past (All-tail (λ (m : Mark). moment_of m ≡ t) (Told named) new moments) turn in
    (omega (arith, here), subst (λ (m : ℕ). AreInTurn named_moment from m (told new ++ past)) (sym here) behind)
turn_front from t (Asked vlan request ∷ new) past moments turn = turn_front from t new past (All-tail (λ (m : Mark). moment_of m ≡ t) (Asked vlan request) new moments) turn
turn_front from t (Met vlan moment tid duid ∷ new) past moments turn = turn_front from t new past (All-tail (λ (m : Mark). moment_of m ≡ t) (Met vlan moment tid duid) new moments) turn

module _ (plan : Plan) (valid : IsValidPlan plan) (base : Base) (within : IsWithinLimits plan base) (first : List Row) where
  -- what the rows behind the first ones told
  record IsBehind (late : List Row) : Type 0 where
    pub new : List Mark
    pub is : marks plan base (late ++ first) ≡ new ++ marks plan base first
    pub turn : AreInTurn named_moment (last_moment base first) (last_moment base (late ++ first)) (told new)

  behind : (late : List Row) → IsLegal plan base (late ++ first) → AreOctets (late ++ first) → IsBehind late
  behind [] legal bytes = record { new = []; is = refl; turn = omega arith }
  behind (r ∷ late) legal bytes =
      let rest : IsBehind late = behind late legal.1 (All-tail (λ (x : Row). IsBytes x.octets) r (late ++ first) bytes) in
      let front = (next_told plan valid base within r (late ++ first) legal bytes).front in
      record {
        new = front.new ++ rest.new;
        is = front.is ∙ ap (λ (l : List Mark). front.new ++ l) rest.is ∙ sym (append_assoc front.new rest.new (marks plan base first));
        turn =
            subst (λ (l : List Named). AreInTurn named_moment (last_moment base first) r.entry.moment l) (sym (told_joined front.new rest.new))
            (turn_front (last_moment base first) r.entry.moment front.new (told rest.new) front.moments
            (turn_later (last_moment base first) (last_moment base (late ++ first)) r.entry.moment (told rest.new) (risen plan valid base within r (late ++ first) legal) rest.turn));
      }

  first_legal : (late : List Row) → IsLegal plan base (late ++ first) → IsLegal plan base first
  first_legal [] legal = legal
  first_legal (r ∷ late) legal = first_legal late legal.1

  first_octets : (late : List Row) → AreOctets (late ++ first) → AreOctets first
  first_octets [] bytes = bytes
  first_octets (r ∷ late) bytes = first_octets late (All-tail (λ (x : Row). IsBytes x.octets) r (late ++ first) bytes)

  -- a frame that passes does so at a port that isn't shut
  unshut : (shut : Bool) (told : List Mark) (port : Port) (t vlan : ℕ) (class : Class) → IsPass (Some (judged_after plan base shut told port t (Some vlan) class).verdict) → IsPass (Some (judged (rules_of plan) (access_of base) vlan port t told class).verdict)
  unshut false told port t vlan class pass = pass
  unshut true told port t vlan class pass = absurd pass

  module _ (late : List Row) (legal : IsLegal plan base (late ++ first)) (bytes : AreOctets (late ++ first)) (on : plan.savi ≡ true) where
    pub kept_since : (p q : Port) (stamp : ℕ) (octets : List ℕ) (vlan : ℕ) (eth : Eth) (ip : Ip) (read : Read) → MayCome plan base (late ++ first) (Frame q stamp octets) → vlan_of_frame plan (number_of q) octets ≡ Some vlan → class_of (inner octets) ≡ Ip6 eth ip read → role_of plan (number_of q) ≢ roles.Trusted
        → IsLiveAtEnd plan base first vlan ip.src.0 p → ¬ Same q p
        → IsPass (Some (verdict_of plan base (late ++ first) q stamp octets)) → IsLostSince plan base first late (moment_at base (late ++ first) stamp) vlan ip.src.0 p
    kept_since p q stamp octets vlan eth ip read may vlan_is class_is host live apart passed = by_method ((rules_of plan).addresses.method_of vlan ip.src.0) refl
      where
        told_first : IsTold plan base first
        told_first = told_rightly plan valid base within first (first_legal late legal) (first_octets late bytes)

        by_method : (method : Option Method) → (rules_of plan).addresses.method_of vlan ip.src.0 ≡ method → IsLostSince plan base first late (moment_at base (late ++ first) stamp) vlan ip.src.0 p
        by_method None none =
            absurd (off_link (rules_of plan) (access_of base) within.access vlan p (last_moment base first) (early plan valid base within first (first_legal late legal)) (marks plan base first) told_first.right told_first.last ip.src.0 none ((lives_at (state_at (rules_of plan).addresses (access_of base).addresses (told (marks plan base first)) (last_moment base first) vlan ip.src.0) p).1 live))
        by_method (Some m) found =
            let r = rules_of plan in
            let start = access_of base in
            let t = moment_at base (late ++ first) stamp in
            let more : IsBehind late = behind late legal bytes in
            let told_all : IsTold plan base (late ++ first) = told_rightly plan valid base within (late ++ first) legal bytes in
            let soon : moment_at base (late ++ first) stamp ≤ 2 ^ 62 = omega (arith, early plan valid base within (late ++ first) legal) in
            let right : AreMarks (rules_of plan) (access_of base) (more.new ++ marks plan base first) = subst (AreMarks (rules_of plan) (access_of base)) more.is told_all.right in
            let after : newest_moment (access_of base) (more.new ++ marks plan base first) ≤ moment_at base (late ++ first) stamp =
            subst (λ (l : List Mark). newest_moment (access_of base) l ≤ moment_at base (late ++ first) stamp) more.is (omega (arith, told_all.last)) in
            let passed_there : IsPass (Some (judged_after plan base (is_shut plan base (number_of q) (late ++ first)) (marks plan base (late ++ first)) q (moment_at base (late ++ first) stamp) (Some vlan) (class_of (inner octets))).verdict) =
            subst (λ (o : Option ℕ). IsPass (Some (judged_after plan base (is_shut plan base (number_of q) (late ++ first)) (marks plan base (late ++ first)) q (moment_at base (late ++ first) stamp) o (class_of (inner octets))).verdict)) vlan_is passed in
            let passed_so : IsPass (Some (judged (rules_of plan) (access_of base) vlan q (moment_at base (late ++ first) stamp) (more.new ++ marks plan base first) (Ip6 eth ip read)).verdict) =
            subst (λ (l : List Mark). IsPass (Some (judged (rules_of plan) (access_of base) vlan q (moment_at base (late ++ first) stamp) l (Ip6 eth ip read)).verdict)) more.is
            (subst (λ (c : Class). IsPass (Some (judged (rules_of plan) (access_of base) vlan q (moment_at base (late ++ first) stamp) (marks plan base (late ++ first)) c).verdict)) class_is
            (unshut (is_shut plan base (number_of q) (late ++ first)) (marks plan base (late ++ first)) q (moment_at base (late ++ first) stamp) vlan (class_of (inner octets)) passed_there)) in
            record {
              method = m;
              on_link = found;
              new = more.new;
              told_so = more.is;
              lost =
                  keeps_first r start within.access vlan q t soon more.new (marks plan base first) right after (own_of_frame plan valid (number_of q) vlan octets vlan_is may.0.open_pass.known host) on (unspecified_off_link plan valid vlan) host eth ip read m found
                  base.moment (last_moment base first) (turns r start (marks plan base first) (last_moment base first) told_first.right told_first.last)
                  (turn_later (last_moment base first) (last_moment base (late ++ first)) (moment_at base (late ++ first) stamp) (told more.new) (omega arith) more.turn) p live apart passed_so;
            }

module _ (plan : Plan) (valid : IsValidPlan plan) (base : Base) (within : IsWithinLimits plan base) (on : plan.savi ≡ true) where
  -- a packet whose source is read is one of IPv6
  source_read : (early late : List Row) (stamp vlan a : ℕ) (octets : List ℕ) (p q : Port) → IsLegal plan base (late ++ early) → AreOctets (late ++ early) → MayCome plan base (late ++ early) (Frame q stamp octets) → vlan_of_frame plan (number_of q) octets ≡ Some vlan → role_of plan (number_of q) ≢ roles.Trusted
      → IsLiveAtEnd plan base early vlan a p → ¬ Same q p → IsPass (Some (verdict_of plan base (late ++ early) q stamp octets))
      → (c : Class) → class_of (inner octets) ≡ c → IsFrom a c → IsLostSince plan base early late (moment_at base (late ++ early) stamp) vlan a p
  source_read early late stamp vlan a octets p q legal bytes may vlan_is host live apart passed (Ip6 eth ip read) is from =
      subst (λ (n : ℕ). IsLostSince plan base early late (moment_at base (late ++ early) stamp) vlan n p) from
      (kept_since plan valid base within early late legal bytes on p q stamp octets vlan eth ip read may vlan_is is host (subst (λ (n : ℕ). IsLiveAtEnd plan base early vlan n p) (sym from) live) apart passed)
  source_read early late stamp vlan a octets p q legal bytes may vlan_is host live apart passed Runt is from = absurd from
  source_read early late stamp vlan a octets p q legal bytes may vlan_is host live apart passed (Tagged eth) is from = absurd from
  source_read early late stamp vlan a octets p q legal bytes may vlan_is host live apart passed (Other eth) is from = absurd from
  source_read early late stamp vlan a octets p q legal bytes may vlan_is host live apart passed (BadIp eth) is from = absurd from

  event_keeps : (past : List Row) (event : Event) → IsLegal plan base past → AreOctets past → MayCome plan base past event → KeepsWhoCameFirst plan base past (row_of plan base past event)
  event_keeps past (Frame q stamp octets) legal bytes may early late vlan a port split live passed =
      let same : q ≡ passed.other = ap (port_in q) passed.frame.frame in
      subst (λ (rows : List Row). IsLostSince plan base early late (moment_at base rows stamp) vlan a port) (sym split)
      (source_read early late stamp vlan a octets port q (subst (IsLegal plan base) split legal) (subst AreOctets split bytes) (subst (λ (rows : List Row). MayCome plan base rows (Frame q stamp octets)) split may)
      (subst (λ (n : Port). vlan_of_frame plan (number_of n) octets ≡ Some vlan) (sym same) passed.vlan_is)
      (subst (λ (n : Port). role_of plan (number_of n) ≢ roles.Trusted) (sym same) passed.host) live (subst (λ (n : Port). ¬ Same n port) (sym same) passed.apart)
      (subst (λ (rows : List Row). IsPass (Some (verdict_of plan base rows q stamp octets))) split passed.passed) (class_of (inner octets)) refl passed.source)
  event_keeps past (Command stamp line) legal bytes may early late vlan a port split live passed = absurd (false≢true (ap is_frame passed.frame.frame))
  event_keeps past (Long q stamp len) legal bytes may early late vlan a port split live passed = absurd (false≢true (ap is_frame passed.frame.frame))
  event_keeps past (Tick stamp) legal bytes may early late vlan a port split live passed = absurd (false≢true (ap is_frame passed.frame.frame))
  event_keeps past (Drain q count) legal bytes may early late vlan a port split live passed = absurd (false≢true (ap is_frame passed.frame.frame))
  event_keeps past (End who how) legal bytes may early late vlan a port split live passed = absurd (false≢true (ap is_frame passed.frame.frame))

  -- each row of a legal history keeps who came first
  pub all_keep : (past : List Row) → IsLegal plan base past → AreOctets past → AllKeepWhoCameFirst plan base past
  all_keep [] legal bytes = tt
  all_keep (r ∷ past) legal bytes =
      let stands : Stands plan base past r = legal.0 in
      let rest = All-tail (λ (x : Row). IsBytes x.octets) r past bytes in
      (subst (λ (x : Row). KeepsWhoCameFirst plan base past x) (sym stands.2) (event_keeps past stands.0 legal.1 rest stands.1), all_keep past legal.1 rest)
