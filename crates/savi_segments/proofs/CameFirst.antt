-- First come, first served, over the joined rows of segments.
use Rattle.std.proofs.Common.{◌≡◌, ◌≢◌, ℕ, ◌≤◌, ◌^◌, Bool, true, false, Option, Some, None, List, [], ◌∷◌, ◌++◌, All, refl, sym, ap, ◌∙◌, subst, arith, append_assoc, max, min}
use Rattle.std.proofs.lemmas.Bool.{false≢true}
use Rattle.std.proofs.lemmas.List.Elements.{All-head, All-tail}
use Rattle.hex.specs.Hex.{IsBytes}
use Rattle.savi_kinds.specs.declared.plan.Plan.{Plan}
use Rattle.savi_kinds.specs.declared.plan.Method.{Method}
use Rattle.savi_kinds.specs.declared.plan.Role.TheVariants as roles
use Rattle.savi_kinds.specs.declared.port.Port.{Port}
use Rattle.savi_kinds.specs.Ports.{number_of}
use Rattle.savi_kinds.specs.Orders.{AreInTurn}
use Rattle.savi_kinds.specs.ValidPlan.{IsValidPlan}
use Rattle.eth_frame.specs.declared.header.Eth.{Eth}
use Rattle.eth_frame.specs.Tags.{inner}
use Rattle.v6_chain.specs.declared.packet.Ip.{Ip}
use Rattle.frame_class.specs.declared.classes.Class.{Class}
use Rattle.frame_class.specs.declared.classes.Class.TheVariants.{Runt, Tagged, Other, BadIp, Ip6}
use Rattle.frame_class.specs.declared.classes.Read.{Read}
use Rattle.frame_class.specs.ClassOf.{class_of}
use Rattle.fcfs_states.specs.Premises.{AreTimes}
use Rattle.fcfs_states.specs.States.{Same}
use Rattle.mix_rules.specs.Next.{IsPass}
use Rattle.hist_store.specs.Rows.{Row}
use Rattle.savi_access.specs.Bases.{AreTables}
use Rattle.savi_access.specs.NamedMarks.{Named, named_moment}
use Rattle.savi_access.specs.States.{state_at}
use Rattle.savi_access.specs.Rules.{AccessRules, AccessBase}
use Rattle.savi_access.specs.Marks.{Mark, Told, Asked, Met, told, moment_of, newest_moment}
use Rattle.savi_access.specs.Legal.{AreMarks, HasFront}
use Rattle.savi_access.specs.Judged.{Judged, judged}
use Rattle.savi_access.specs.Plans.{rules_of, has_port, role_of}
use Rattle.savi_access.proofs.StatesKept.{base_times, base_tables}
use Rattle.savi_access.proofs.PlanRules.{unspecified_off_link}
use Rattle.savi_access.proofs.Living.{lives_at}
use Rattle.savi_access.proofs.States.{off_link}
use Rattle.savi_access.proofs.FirstCome.{keeps_first}
use Rattle.checkpoint.specs.Bases.{Base, empty, access_of}
use Rattle.savi_history.specs.Vlans.{vlan_of_frame}
use Rattle.savi_history.specs.Limits.{IsWithinLimits}
use Rattle.savi_history.specs.Moments.{last_moment, moment_at}
use Rattle.savi_history.specs.ShutPorts.{is_shut}
use Rattle.savi_history.specs.Marks.{marks, judged_after}
use Rattle.savi_history.specs.Judged.{verdict_of}
use Rattle.savi_history.specs.Accesses.{AllPassedRightly, IsTold}
use Rattle.savi_history.specs.CameFirst.{IsFrom, IsLiveAtEnd, IsLostSince, PassedElsewhere}
use Rattle.savi_history.specs.Events.{Event, Frame, Long, Command, Tick, Drain, End, row_of}
use Rattle.savi_history.specs.Legal.{IsLegal, MayCome, Stands}
use Rattle.savi_history.proofs.FrameVlans.{own_of_frame}
use Rattle.savi_history.proofs.Starting.{empty_within}
use Rattle.savi_history.proofs.Telling.{is_frame, port_in, risen, told_rightly, next_told}
use Rattle.savi_segments.specs.Segments.{base_after, joined, AreOctets, AreLegal}
use Rattle.savi_segments.specs.FirstCome.{AllSegmentsPassedRightly, SegmentsKeepWhoCameFirst}
use Rattle.savi_segments.specs.Steps.{Step, Enters, Turns, with_row, gone, rows_in, newest_rows, newest_base}
use Rattle.savi_segments.proofs.Behind.{told_joined}
use Rattle.savi_segments.proofs.MarksJoined.{turns, newest_whole, marks_joined}
use Rattle.savi_segments.proofs.Reading.{LeaveLimits, moment_cut, tells_cut, judged_alike}
use Rattle.savi_segments.proofs.Splitting.{is_first, left, segments_within, leave_same}

turn_later : (from t later : ℕ) (past : List Named) → t ≤ later → AreInTurn named_moment from t past → AreInTurn named_moment from later past
turn_later from t later [] order turn = omega (arith, order, turn)
turn_later from t later (named ∷ past) order turn = (omega (arith, order, turn.0), turn.1)

-- marks of one moment in front
turn_front : (from t : ℕ) (new : List Mark) (past : List Named) → All (λ (m : Mark). moment_of m ≡ t) new → AreInTurn named_moment from t past → AreInTurn named_moment from t (told new ++ past)
turn_front from t [] past moments turn = turn
turn_front from t (Told named ∷ new) past moments turn =
    let here : named.moment ≡ t = All-head (λ (m : Mark). moment_of m ≡ t) (Told named) new moments in
    let behind : AreInTurn named_moment from t (told new ++ past) = turn_front from t new past (All-tail (λ (m : Mark). moment_of m ≡ t) (Told named) new moments) turn in
    (omega (arith, here), subst (λ (m : ℕ). AreInTurn named_moment from m (told new ++ past)) (sym here) behind)
turn_front from t (Asked vlan request ∷ new) past moments turn = turn_front from t new past (All-tail (λ (m : Mark). moment_of m ≡ t) (Asked vlan request) new moments) turn
turn_front from t (Met vlan moment tid duid ∷ new) past moments turn = turn_front from t new past (All-tail (λ (m : Mark). moment_of m ≡ t) (Met vlan moment tid duid) new moments) turn

module _ (limits : LeaveLimits) (plan : Plan) (valid : IsValidPlan plan) where
  abbrev r : AccessRules
  r = rules_of plan

  abbrev start : AccessBase
  start = access_of empty

  starts : IsWithinLimits plan empty
  starts = empty_within plan valid

  tables : AreTables start.addresses
  tables = base_tables r.addresses start.addresses starts.access.addresses

  times : AreTimes r.addresses.times
  times = base_times r.addresses start.addresses starts.access.addresses

  left_within : (segments : List (List Row)) → AreLegal plan segments → IsWithinLimits plan (left plan segments)
  left_within segments legal = subst (IsWithinLimits plan) (leave_same limits plan valid segments legal) (segments_within limits plan valid segments legal)

  goes_on : (segment : List Row) (before : List (List Row)) → AreLegal plan before → IsLegal plan (base_after plan before) segment → IsLegal plan (left plan before) segment
  goes_on segment before legal right = subst (λ (base : Base). IsLegal plan base segment) (leave_same limits plan valid before legal) right

  module _ (segment : List Row) (before : List (List Row)) (legal : AreLegal plan (segment ∷ before)) where
    within_mid : IsWithinLimits plan (left plan before)
    within_mid = left_within before legal.2

    legal_mid : IsLegal plan (left plan before) segment
    legal_mid = goes_on segment before legal.2 legal.0

    tells : marks plan empty (segment ++ joined before) ≡ marks plan (left plan before) segment ++ marks plan empty (joined before)
    tells = tells_cut plan valid empty starts (joined before) (is_first before) within_mid segment legal_mid legal.1

    last : last_moment empty (segment ++ joined before) ≡ last_moment (left plan before) segment
    last = moment_cut plan valid empty starts (joined before) (is_first before) within_mid segment

  -- what segments told may be told one after the other
  joined_told : (segments : List (List Row)) → AreLegal plan segments → IsTold plan empty (joined segments)
  joined_told [] legal = record { right = tt; last = omega arith }
  joined_told (segment ∷ before) legal =
      let early : List Mark = marks plan empty (joined before) in
      let late : List Mark = marks plan (left plan before) segment in
      let first : IsTold plan empty (joined before) = joined_told before legal.2 in
      let behind : IsTold plan (left plan before) segment =
      told_rightly plan valid (left plan before) (within_mid segment before legal) segment (legal_mid segment before legal) legal.1 in
      let low : newest_moment start (late ++ early) ≤ last_moment (left plan before) segment =
      omega (arith, newest_whole r start tables times early (last_moment empty (joined before)) late first.last, behind.last) in
      record {
        right = subst (AreMarks r start) (sym (tells segment before legal)) (marks_joined r start tables times early (last_moment empty (joined before)) first.right first.last late behind.right);
        last =
            subst (λ (l : List Mark). newest_moment start l ≤ last_moment empty (segment ++ joined before)) (sym (tells segment before legal))
            (subst (λ (m : ℕ). newest_moment start (late ++ early) ≤ m) (sym (last segment before legal)) low);
      }

  joined_soon : (segments : List (List Row)) → AreLegal plan segments → last_moment empty (joined segments) ≤ 2 ^ 62
  joined_soon segments legal = (left_within segments legal).access.addresses.early

  -- one more row tells its marks in front of all others
  record IsFronted (row : Row) (segments : List (List Row)) : Type 0 where
    pub legal : AreLegal plan segments
    pub front : HasFront row.entry.moment (marks plan empty (joined segments)) (marks plan empty (joined (with_row row segments)))
    pub last : last_moment empty (joined (with_row row segments)) ≡ row.entry.moment
    pub later : last_moment empty (joined segments) ≤ row.entry.moment

  fronted : (row : Row) (segments : List (List Row)) → AreLegal plan (with_row row segments) → IsFronted row segments
  fronted row [] legal = record {
    legal = tt;
    front = (next_told plan valid empty starts row [] legal.0 legal.1).front;
    last = refl;
    later = risen plan valid empty starts row [] legal.0;
  }
  fronted row (segment ∷ before) legal =
      let bytes : AreOctets segment = All-tail (λ (x : Row). IsBytes x.octets) row segment legal.1 in
      let rest : AreLegal plan (segment ∷ before) = (legal.0.1, bytes, legal.2) in
      let here : IsLegal plan (left plan before) (row ∷ segment) = legal_mid (row ∷ segment) before legal in
      let within_here : IsWithinLimits plan (left plan before) = within_mid segment before rest in
      let early : List Mark = marks plan empty (joined before) in
      let front : HasFront row.entry.moment (marks plan (left plan before) segment) (marks plan (left plan before) (row ∷ segment)) =
      (next_told plan valid (left plan before) within_here row segment here legal.1).front in
      record {
        legal = rest;
        front = record {
          new = front.new;
          is =
              tells (row ∷ segment) before legal
              ∙ ap (λ (l : List Mark). l ++ early) front.is
              ∙ append_assoc front.new (marks plan (left plan before) segment) early
              ∙ ap (λ (l : List Mark). front.new ++ l) (sym (tells segment before rest));
          moments = front.moments;
        };
        last = refl;
        later = subst (λ (m : ℕ). m ≤ row.entry.moment) (sym (last segment before rest)) (risen plan valid (left plan before) within_here row segment here);
      }

  module _ (first : List (List Row)) where
    -- what the rows of these steps told
    record IsBehind (steps : List Step) : Type 0 where
      pub first_legal : AreLegal plan first
      pub rows : joined (gone first steps) ≡ rows_in steps ++ joined first
      pub new : List Mark
      pub is : marks plan empty (joined (gone first steps)) ≡ new ++ marks plan empty (joined first)
      pub turn : AreInTurn named_moment (last_moment empty (joined first)) (last_moment empty (joined (gone first steps))) (told new)

    joined_row : (row : Row) (segments : List (List Row)) → joined (with_row row segments) ≡ row ∷ joined segments
    joined_row row [] = refl
    joined_row row (segment ∷ before) = refl

    behind : (steps : List Step) → AreLegal plan (gone first steps) → IsBehind steps
    behind [] legal = record { first_legal = legal; rows = refl; new = []; is = refl; turn = omega arith }
    behind (Turns ∷ steps) legal =
        let rest : IsBehind steps = behind steps legal.2 in
        record { first_legal = rest.first_legal; rows = rest.rows; new = rest.new; is = rest.is; turn = rest.turn }
    behind (Enters row ∷ steps) legal =
        let here : IsFronted row (gone first steps) = fronted row (gone first steps) legal in
        let rest : IsBehind steps = behind steps here.legal in
        let from : ℕ = last_moment empty (joined first) in
        record {
          first_legal = rest.first_legal;
          rows = joined_row row (gone first steps) ∙ ap (λ (l : List Row). row ∷ l) rest.rows;
          new = here.front.new ++ rest.new;
          is = here.front.is ∙ ap (λ (l : List Mark). here.front.new ++ l) rest.is ∙ sym (append_assoc here.front.new rest.new (marks plan empty (joined first)));
          turn =
              subst (λ (m : ℕ). AreInTurn named_moment from m (told (here.front.new ++ rest.new))) (sym here.last)
              (subst (λ (l : List Named). AreInTurn named_moment from row.entry.moment l) (sym (told_joined here.front.new rest.new))
              (turn_front from row.entry.moment here.front.new (told rest.new) here.front.moments
              (turn_later from (last_moment empty (joined (gone first steps))) row.entry.moment (told rest.new) here.later rest.turn)));
        }

  -- a frame is judged by the newest segment as it is behind all rows
  same_verdict : (segments : List (List Row)) → AreLegal plan segments → (q : Port) (stamp : ℕ) (octets : List ℕ) → has_port plan (number_of q) ≡ true
      → verdict_of plan (newest_base plan segments) (newest_rows segments) q stamp octets ≡ verdict_of plan empty (joined segments) q stamp octets
  same_verdict [] legal q stamp octets known = refl
  same_verdict (segment ∷ before) legal q stamp octets known =
      ap (λ (base : Base). verdict_of plan base segment q stamp octets) (leave_same limits plan valid before legal.2)
      ∙ sym (ap (λ (j : Judged). j.verdict)
      (judged_alike plan valid empty starts (joined before) (is_first before) (within_mid segment before legal) segment (legal_mid segment before legal) legal.1 q stamp octets known))

  -- a frame that passes does so at a port that isn't shut
  unshut : (shut : Bool) (told : List Mark) (port : Port) (t vlan : ℕ) (class : Class) → IsPass (Some (judged_after plan empty shut told port t (Some vlan) class).verdict) → IsPass (Some (judged r start vlan port t told class).verdict)
  unshut false told port t vlan class pass = pass
  unshut true told port t vlan class pass = absurd pass

  pub kept_first : (first : List (List Row)) (steps : List Step) → plan.savi ≡ true → AreLegal plan (gone first steps) → (p q : Port) (stamp : ℕ) (octets : List ℕ) (vlan : ℕ) (eth : Eth) (ip : Ip) (read : Read)
      → has_port plan (number_of q) ≡ true → vlan_of_frame plan (number_of q) octets ≡ Some vlan → role_of plan (number_of q) ≢ roles.Trusted → class_of (inner octets) ≡ Ip6 eth ip read
      → IsLiveAtEnd plan empty (joined first) vlan ip.src.0 p → ¬ Same q p
      → IsPass (Some (verdict_of plan (newest_base plan (gone first steps)) (newest_rows (gone first steps)) q stamp octets))
      → IsLostSince plan empty (joined first) (rows_in steps) (moment_at empty (joined (gone first steps)) stamp) vlan ip.src.0 p
  kept_first first steps on legal p q stamp octets vlan eth ip read known vlan_is host class_is live apart passed = by_method (r.addresses.method_of vlan ip.src.0) refl
    where
      by_method : (method : Option Method) → r.addresses.method_of vlan ip.src.0 ≡ method → IsLostSince plan empty (joined first) (rows_in steps) (moment_at empty (joined (gone first steps)) stamp) vlan ip.src.0 p
      by_method None none =
          let more : IsBehind first steps = behind first steps legal in
          let told_first : IsTold plan empty (joined first) = joined_told first more.first_legal in
          absurd (off_link r start starts.access vlan p (last_moment empty (joined first)) (joined_soon first more.first_legal) (marks plan empty (joined first)) told_first.right told_first.last ip.src.0 none
          ((lives_at (state_at r.addresses start.addresses (told (marks plan empty (joined first))) (last_moment empty (joined first)) vlan ip.src.0) p).1 live))
      by_method (Some m) found =
          let more : IsBehind first steps = behind first steps legal in
          let early : List Mark = marks plan empty (joined first) in
          let last : ℕ = last_moment empty (joined (gone first steps)) in
          let t : ℕ = moment_at empty (joined (gone first steps)) stamp in
          let told_first : IsTold plan empty (joined first) = joined_told first more.first_legal in
          let told_all : IsTold plan empty (joined (gone first steps)) = joined_told (gone first steps) legal in
          let soon : moment_at empty (joined (gone first steps)) stamp ≤ 2 ^ 62 = omega (arith, joined_soon (gone first steps) legal) in
          let right : AreMarks r start (more.new ++ early) = subst (AreMarks r start) more.is told_all.right in
          let after_all : newest_moment start (more.new ++ early) ≤ moment_at empty (joined (gone first steps)) stamp =
          subst (λ (l : List Mark). newest_moment start l ≤ moment_at empty (joined (gone first steps)) stamp) more.is (omega (arith, told_all.last)) in
          let passed_whole : IsPass (Some (verdict_of plan empty (joined (gone first steps)) q stamp octets)) =
          subst (λ v. IsPass (Some v)) (same_verdict (gone first steps) legal q stamp octets known) passed in
          let passed_there : IsPass (Some (judged_after plan empty (is_shut plan empty (number_of q) (joined (gone first steps))) (marks plan empty (joined (gone first steps))) q t (Some vlan) (class_of (inner octets))).verdict) =
          subst (λ (o : Option ℕ). IsPass (Some (judged_after plan empty (is_shut plan empty (number_of q) (joined (gone first steps))) (marks plan empty (joined (gone first steps))) q t o (class_of (inner octets))).verdict)) vlan_is passed_whole in
          let passed_so : IsPass (Some (judged r start vlan q t (more.new ++ early) (Ip6 eth ip read)).verdict) =
          subst (λ (l : List Mark). IsPass (Some (judged r start vlan q t l (Ip6 eth ip read)).verdict)) more.is
          (subst (λ (c : Class). IsPass (Some (judged r start vlan q t (marks plan empty (joined (gone first steps))) c).verdict)) class_is
          (unshut (is_shut plan empty (number_of q) (joined (gone first steps))) (marks plan empty (joined (gone first steps))) q t vlan (class_of (inner octets)) passed_there)) in
          record {
            method = m;
            on_link = found;
            new = more.new;
            told_so = ap (λ (l : List Row). marks plan empty l) (sym more.rows) ∙ more.is;
            lost =
                keeps_first r start starts.access vlan q t soon more.new early right after_all (own_of_frame plan valid (number_of q) vlan octets vlan_is known host) on (unspecified_off_link plan valid vlan) host eth ip read m found
                0 (last_moment empty (joined first)) (turns r start early (last_moment empty (joined first)) told_first.right told_first.last)
                (turn_later (last_moment empty (joined first)) last t (told more.new) (omega arith) more.turn) p live apart passed_so;
          }

  -- of segments that are legal those are from which they came by further steps
  legal_front : (first : List (List Row)) (later between : List Step) → AreLegal plan (gone first (later ++ between)) → AreLegal plan (gone first between)
  legal_front first [] between legal = legal
  legal_front first (Turns ∷ later) between legal = legal_front first later between legal.2
  legal_front first (Enters row ∷ later) between legal = legal_front first later between (fronted row (gone first (later ++ between)) legal).legal

  -- the newest row is that of an event that might come there
  newest_stands : (row : Row) (segments : List (List Row)) → AreLegal plan (with_row row segments) → Stands plan (newest_base plan segments) (newest_rows segments) row
  newest_stands row [] legal = legal.0.0
  newest_stands row (segment ∷ before) legal = legal.0.0

  same_moment : (segments : List (List Row)) → AreLegal plan segments → (stamp : ℕ) → moment_at (newest_base plan segments) (newest_rows segments) stamp ≡ moment_at empty (joined segments) stamp
  same_moment [] legal stamp = refl
  same_moment (segment ∷ before) legal stamp =
      ap (λ (base : Base). moment_at base segment stamp) (leave_same limits plan valid before legal.2)
      ∙ ap (λ (m : ℕ). max m (min stamp (2 ^ 62))) (sym (last segment before legal))

  module _ (first : List (List Row)) (between : List Step) (on : plan.savi ≡ true) (legal : AreLegal plan (gone first between)) where
    abbrev now : List (List Row)
    now = gone first between

    -- a packet whose source is read is one of IPv6
    source_read : (p q : Port) (stamp vlan a : ℕ) (octets : List ℕ) → has_port plan (number_of q) ≡ true → vlan_of_frame plan (number_of q) octets ≡ Some vlan → role_of plan (number_of q) ≢ roles.Trusted → IsLiveAtEnd plan empty (joined first) vlan a p → ¬ Same q p
        → IsPass (Some (verdict_of plan (newest_base plan now) (newest_rows now) q stamp octets)) → (c : Class) → class_of (inner octets) ≡ c → IsFrom a c
        → IsLostSince plan empty (joined first) (rows_in between) (moment_at (newest_base plan now) (newest_rows now) stamp) vlan a p
    source_read p q stamp vlan a octets known vlan_is host live apart passed (Ip6 eth ip read) is from =
        subst (λ (t : ℕ). IsLostSince plan empty (joined first) (rows_in between) t vlan a p) (sym (same_moment now legal stamp))
        (subst (λ (n : ℕ). IsLostSince plan empty (joined first) (rows_in between) (moment_at empty (joined now) stamp) vlan n p) from
        (kept_first first between on legal p q stamp octets vlan eth ip read known vlan_is host is (subst (λ (n : ℕ). IsLiveAtEnd plan empty (joined first) vlan n p) (sym from) live) apart passed))
    source_read p q stamp vlan a octets known vlan_is host live apart passed Runt is from = absurd from
    source_read p q stamp vlan a octets known vlan_is host live apart passed (Tagged eth) is from = absurd from
    source_read p q stamp vlan a octets known vlan_is host live apart passed (Other eth) is from = absurd from
    source_read p q stamp vlan a octets known vlan_is host live apart passed (BadIp eth) is from = absurd from

    event_keeps : (event : Event) (vlan a : ℕ) (port : Port) → MayCome plan (newest_base plan now) (newest_rows now) event → IsLiveAtEnd plan empty (joined first) vlan a port
        → PassedElsewhere plan (row_of plan (newest_base plan now) (newest_rows now) event) vlan a port
        → IsLostSince plan empty (joined first) (rows_in between) (row_of plan (newest_base plan now) (newest_rows now) event).entry.moment vlan a port
    event_keeps (Frame q stamp octets) vlan a port may live passed =
        let same : q ≡ passed.other = ap (port_in q) passed.frame.frame in
        source_read port q stamp vlan a octets may.0.open_pass.known (subst (λ (n : Port). vlan_of_frame plan (number_of n) octets ≡ Some vlan) (sym same) passed.vlan_is)
        (subst (λ (n : Port). role_of plan (number_of n) ≢ roles.Trusted) (sym same) passed.host) live
        (subst (λ (n : Port). ¬ Same n port) (sym same) passed.apart) passed.passed (class_of (inner octets)) refl passed.source
    event_keeps (Command stamp line) vlan a port may live passed = absurd (false≢true (ap is_frame passed.frame.frame))
    event_keeps (Long q stamp len) vlan a port may live passed = absurd (false≢true (ap is_frame passed.frame.frame))
    event_keeps (Tick stamp) vlan a port may live passed = absurd (false≢true (ap is_frame passed.frame.frame))
    event_keeps (Drain q count) vlan a port may live passed = absurd (false≢true (ap is_frame passed.frame.frame))
    event_keeps (End who how) vlan a port may live passed = absurd (false≢true (ap is_frame passed.frame.frame))

  -- each row of segments keeps who came first in any of them
  pub all_keep : (segments : List (List Row)) → plan.savi ≡ true → AreLegal plan segments → SegmentsKeepWhoCameFirst plan segments
  all_keep segments on legal first between later r vlan a port split live passed =
      let at : AreLegal plan (with_row r (gone first between)) = legal_front first later (Enters r ∷ between) (subst (AreLegal plan) split legal) in
      let rest : AreLegal plan (gone first between) = (fronted r (gone first between) at).legal in
      let stands = newest_stands r (gone first between) at in
      subst (λ (x : Row). IsLostSince plan empty (joined first) (rows_in between) x.entry.moment vlan a port) (sym stands.2)
      (event_keeps first between on rest stands.0 vlan a port stands.1 live (subst (λ (x : Row). PassedElsewhere plan x vlan a port) stands.2 passed))

  -- in each segment what passed had access
  pub all_right : ((base : Base) (past : List Row) → IsWithinLimits plan base → IsLegal plan base past → AreOctets past → AllPassedRightly plan base past)
      → (segments : List (List Row)) → AreLegal plan segments → AllSegmentsPassedRightly plan segments
  all_right rightly [] legal = tt
  all_right rightly (segment ∷ before) legal =
      (rightly (base_after plan before) segment (segments_within limits plan valid before legal.2) legal.0 legal.1, all_right rightly before legal.2)
