-- What an address comes to by its own marks, from two bases. And that a frame which comes to its source is judged so.
use Rattle.std.proofs.Common.{◌≡◌, ◌≢◌, ℕ, Bool, true, false, List, Option, is_some, option_map, unwrap_or, if◌then◌else◌, refl, sym, ap, ◌∙◌}
use Rattle.std.proofs.lemmas.Bool.{ne_eqb}
use Rattle.savi_kinds.specs.declared.plan.Plan.{Plan}
use Rattle.savi_kinds.specs.declared.plan.Role.{Role}
use Rattle.savi_kinds.specs.declared.plan.Role.TheVariants as roles
use Rattle.savi_kinds.specs.Ports.{number_of}
use Rattle.savi_kinds.specs.declared.verdict.Rule.{Rule}
use Rattle.v6_chain.specs.declared.packet.Ip.{Ip}
use Rattle.eth_frame.specs.Tags.{inner}
use Rattle.frame_class.specs.declared.classes.Class.{Class}
use Rattle.frame_class.specs.declared.classes.Read.{Read}
use Rattle.frame_class.specs.ClassOf.{class_of}
use Rattle.savi_kinds.specs.declared.port.Port.{Port}
use Rattle.savi_kinds.specs.declared.verdict.Rule.TheVariants.{OffLink, Unverified}
use Rattle.savi_kinds.specs.declared.verdict.Verdict.TheVariants.{Drop}
use Rattle.fcfs_states.specs.declared.answer.Answer.{Answer}
use Rattle.fcfs_states.specs.declared.event.Ev.TheVariants.{Sent}
use Rattle.fcfs_states.specs.FirstCome.{TimedEvent}
use Rattle.mix_rules.specs.declared.state.AddrState.{AddrState}
use Rattle.mix_rules.specs.Ageing.{aged_state}
use Rattle.hist_store.specs.Rows.{Row}
use Rattle.savi_access.specs.declared.sent.SentProbe.{SentProbe}
use Rattle.savi_access.specs.Rows.{state_in}
use Rattle.savi_access.specs.States.{outcome_by, state_of}
use Rattle.savi_access.specs.Rules.{AccessRules, AccessBase}
use Rattle.savi_access.specs.Marks.{Mark, told}
use Rattle.savi_access.specs.Judged.{Judged, answer_to, answered, drops, passes, from_unspecified, followed, sourced, validated, judged_for, judged_by, judged}
use Rattle.savi_access.specs.Plans.{rules_of, role_of}
use Rattle.savi_access.proofs.MarksOn.{moved_by, own_marks}
use Rattle.checkpoint.specs.Bases.{Base, access_of}
use Rattle.savi_history.specs.Vlans.{vlan_of_frame}
use Rattle.savi_history.specs.Moments.{moment_at}
use Rattle.savi_history.specs.Marks.{marks, judged_at}
use Rattle.savi_history.specs.Judged.{judged_of}
use Rattle.savi_laws.specs.Addresses.{told_on, address_at, port_has_room, source_step, ComesToSource}

either_verdict : (b : Bool) (one two one_other two_other : Judged) → one.verdict ≡ one_other.verdict → two.verdict ≡ two_other.verdict
    → (if b then one else two).verdict ≡ (if b then one_other else two_other).verdict
either_verdict true one two one_other two_other first second = first
either_verdict false one two one_other two_other first second = second

either_probe : (b : Bool) (one two one_other two_other : Judged) → one.probe ≡ one_other.probe → two.probe ≡ two_other.probe
    → (if b then one else two).probe ≡ (if b then one_other else two_other).probe
either_probe true one two one_other two_other first second = first
either_probe false one two one_other two_other first second = second

abbrev sent_by : ℕ → ℕ → Answer → Option SentProbe
sent_by t a answer = option_map (λ probe. record { due = t; address = record { 0 = a }; probe = probe }) answer.probe

module _ (plan : Plan) (base other_base : Base) (past other : List Row) (vlan a : ℕ) (start : state_in (base.rows vlan) a ≡ state_in (other_base.rows vlan) a) (same : told_on plan base past vlan a ≡ told_on plan other_base other vlan a) where
  state_same : state_of (rules_of plan).addresses (access_of base).addresses (told (marks plan base past)) vlan a
      ≡ state_of (rules_of plan).addresses (access_of other_base).addresses (told (marks plan other_base other)) vlan a
  state_same =
      own_marks (rules_of plan).addresses (access_of base).addresses vlan a (told (marks plan base past))
      ∙ ap (λ (s : AddrState). moved_by ((rules_of plan).addresses.method_of vlan a) (rules_of plan).addresses.times s (told_on plan base past vlan a)) start
      ∙ ap (λ (all : List TimedEvent). moved_by ((rules_of plan).addresses.method_of vlan a) (rules_of plan).addresses.times (state_in (other_base.rows vlan) a) all) same
      ∙ sym (own_marks (rules_of plan).addresses (access_of other_base).addresses vlan a (told (marks plan other_base other)))

  pub address_same : (t : ℕ) → address_at plan base past t vlan a ≡ address_at plan other_base other t vlan a
  address_same t = ap (λ (s : AddrState). (aged_state (rules_of plan).addresses.times t s).state) state_same

  abbrev answer_by : ℕ → Port → Bool → AddrState → Answer
  answer_by t port room s = (outcome_by ((rules_of plan).addresses.method_of vlan a) (rules_of plan).addresses.times (record { moment = t; event = Sent port; room = room }) s).0

  module _ (t : ℕ) (port : Port) (room : port_has_room plan base past t vlan port ≡ port_has_room plan other_base other t vlan port) where
    answer_same : answer_to (rules_of plan) (access_of base) vlan port t (marks plan base past) a (Sent port)
        ≡ answer_to (rules_of plan) (access_of other_base) vlan port t (marks plan other_base other) a (Sent port)
    answer_same =
        ap (λ (b : Bool). answer_by t port b (state_of (rules_of plan).addresses (access_of base).addresses (told (marks plan base past)) vlan a)) room
        ∙ ap (λ (s : AddrState). answer_by t port (port_has_room plan other_base other t vlan port) s) state_same

    pub verdict_same : (source_step plan base past t vlan port a).verdict ≡ (source_step plan other_base other t vlan port a).verdict
    verdict_same =
        either_verdict (is_some ((rules_of plan).addresses.method_of vlan a))
        (answered (rules_of plan) (access_of base) vlan port t (marks plan base past) a (Sent port))
        (drops OffLink (marks plan base past))
        (answered (rules_of plan) (access_of other_base) vlan port t (marks plan other_base other) a (Sent port))
        (drops OffLink (marks plan other_base other))
        (ap (λ (x : Answer). unwrap_or x.verdict (Drop Unverified)) answer_same)
        refl

    pub probe_same : (source_step plan base past t vlan port a).probe ≡ (source_step plan other_base other t vlan port a).probe
    probe_same =
        either_probe (is_some ((rules_of plan).addresses.method_of vlan a))
        (answered (rules_of plan) (access_of base) vlan port t (marks plan base past) a (Sent port))
        (drops OffLink (marks plan base past))
        (answered (rules_of plan) (access_of other_base) vlan port t (marks plan other_base other) a (Sent port))
        (drops OffLink (marks plan other_base other))
        (ap (λ (x : Answer). sent_by t a x) answer_same)
        refl

-- the sources of a port that isn't trusted are validated
as_validated : (r : AccessRules) (base : AccessBase) (vlan : ℕ) (port : Port) (t : ℕ) (past : List Mark) (class : Class) (role : Role) → role ≢ roles.Trusted
    → judged_for r base vlan port t past class role ≡ validated r base vlan port t past class
as_validated r base vlan port t past class roles.Host other = refl
as_validated r base vlan port t past class roles.Server other = refl
as_validated r base vlan port t past class roles.Trusted other = absurd (other refl)

module _ (plan : Plan) (base : Base) (past : List Row) (port : Port) (stamp vlan : ℕ) (octets : List ℕ) (ip : Ip) (read : Read) (comes : ComesToSource plan base past port vlan octets ip read) where
  abbrev rules : AccessRules
  rules = rules_of plan

  abbrev before : List Mark
  before = marks plan base past

  abbrev now : ℕ
  now = moment_at base past stamp

  by_source : sourced rules (access_of base) vlan port now before ip read ≡ followed rules (access_of base) vlan port now (source_step plan base past now vlan port ip.src.0) read
  by_source = refl

  pub frame_step : judged_of plan base past port stamp octets
      ≡ followed (rules_of plan) (access_of base) vlan port (moment_at base past stamp) (source_step plan base past (moment_at base past stamp) vlan port ip.src.0) read
  unfolding judged
  frame_step =
      ap (λ (shut : Bool). judged_at rules (access_of base) shut before port now (vlan_of_frame plan (number_of port) octets) (class_of (inner octets))) comes.up
      ∙ ap (λ (own : Option ℕ). judged_at rules (access_of base) false before port now own (class_of (inner octets))) comes.vlan_is
      ∙ ap (λ (g : Option Rule). judged_by rules (access_of base) vlan port now before (class_of (inner octets)) g) comes.clear
      ∙ ap (λ (on : Bool). if on then judged_for rules (access_of base) vlan port now before (class_of (inner octets)) (role_of plan (number_of port)) else passes before) comes.validates
      ∙ as_validated rules (access_of base) vlan port now before (class_of (inner octets)) (role_of plan (number_of port)) comes.role
      ∙ ap (validated rules (access_of base) vlan port now before) comes.packet
      ∙ ap (λ (b : Bool). if b then from_unspecified rules (access_of base) vlan port now before ip read else sourced rules (access_of base) vlan port now before ip read)
      (ne_eqb ip.src.0 0 comes.source)
      ∙ by_source
