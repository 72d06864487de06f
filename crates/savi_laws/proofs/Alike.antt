-- Two histories after which the same is known: what each event makes of both.
use Rattle.std.proofs.Common.{◌≡◌, ℕ, ◌≤◌, ◌&&◌, not, Bool, true, false, if◌then◌else◌, List, [], ◌∷◌, Some, None, refl, sym, ap, ◌∙◌, arith, zero-add, length, ◌+◌, Option}
use Rattle.std.proofs.lemmas.Bool.{ltb-true, lt-ltb, false≢true}
use Rattle.std.proofs.lemmas.List.Elements.{filter_agree}
use Rattle.savi_kinds.specs.declared.plan.Plan.{Plan}
use Rattle.savi_kinds.specs.declared.port.Port.{Port}
use Rattle.savi_kinds.specs.declared.port.PortSet.{PortSet}
use Rattle.savi_kinds.specs.declared.verdict.Verdict.{Verdict}
use Rattle.savi_kinds.specs.declared.entry.Act.TheVariants as acts
use Rattle.savi_kinds.specs.declared.entry.Who.{Who}
use Rattle.savi_kinds.specs.declared.entry.Who.TheVariants as passes
use Rattle.savi_kinds.specs.declared.entry.How.{How}
use Rattle.savi_kinds.specs.Ports.{number_of}
use Rattle.savi_kinds.specs.PortSets.{no_ports, set_of, is_member}
use Rattle.savi_kinds.specs.ValidPlan.{numbers_of}
use Rattle.savi_kinds.proofs.Filters.{filter-wider}
use Rattle.eth_frame.specs.Tags.{inner}
use Rattle.frame_class.specs.ClassOf.{class_of}
use Rattle.cli_lang.specs.CommandOf.{command_of}
use Rattle.bridge_fdb.specs.declared.station.Station.{Station}
use Rattle.bridge_fdb.specs.Stations.{is_live, live_at, station_end}
use Rattle.hist_store.specs.Rows.{Row, held}
use Rattle.savi_access.specs.Marks.{Mark, told, open_requests}
use Rattle.savi_access.specs.States.{state_at}
use Rattle.savi_access.specs.Judged.{Judged}
use Rattle.savi_access.specs.Plans.{rules_of}
use Rattle.checkpoint.specs.Bases.{Base, access_of}
use Rattle.savi_history.specs.Moments.{last_moment, moment_at}
use Rattle.savi_history.specs.Passes.{pass_of}
use Rattle.savi_history.specs.Vlans.{is_vlan, vlan_of_frame}
use Rattle.savi_history.specs.ShutPorts.{is_shut, shut_by}
use Rattle.savi_history.specs.Commands.{commanded}
use Rattle.savi_history.specs.Marks.{marks, judged_after}
use Rattle.savi_history.specs.Judged.{judged_of, verdict_of, long_by}
use Rattle.savi_history.specs.Outs.{outs, outs_by, without_shut}
use Rattle.savi_history.specs.Stations.{stations, port_among, ethernet_of, taught}
use Rattle.savi_history.specs.Summary.{is_pass}
use Rattle.savi_history.specs.Events.{Event, Frame, Long, Command, Tick, Drain, End, row_of, outs_of}
use Rattle.savi_history.specs.Ticks.{IsSameFrom}
use Rattle.savi_laws.specs.Answered.{Answered, answered_of, answered}

-- the same marks and shut ports, and the same stations live from both last moments on
pub record Known (plan : Plan) (base : Base) (past other : List Row) : Type 0 where
  pub tells : marks plan base past ≡ marks plan base other
  pub shut : (q : ℕ) → is_shut plan base q past ≡ is_shut plan base q other
  pub live : (t vlan : ℕ) → last_moment base past ≤ t → last_moment base other ≤ t → live_at t (stations vlan plan base past) ≡ live_at t (stations vlan plan base other)

-- and the same kept octets and answers
pub record Alike (plan : Plan) (base : Base) (past other : List Row) : Type 0 where
  pub known : Known plan base past other
  pub keeps : held past ≡ held other
  pub answers : answered past ≡ answered other

-- the event of a frame, of a longer frame, or of a line
abbrev pub is_in : Event → Bool
is_in (Frame port stamp octets) = true
is_in (Long port stamp len) = true
is_in (Command stamp line) = true
is_in (Tick stamp) = false
is_in (Drain port count) = false
is_in (End who how) = false

-- what is live at a moment was live at an earlier one
live_before : (t u : ℕ) → t ≤ u → (s : Station) → is_live u s ≡ true → is_live t s ≡ true
live_before t u later s is = lt-ltb t (station_end s) (omega (arith, later, ltb-true u (station_end s) is))

pub live_left : (m t : ℕ) (known : List Station) → m ≤ t → live_at t (live_at m known) ≡ live_at t known
live_left m t known later = filter-wider (is_live m) (is_live t) (live_before m t later) known

-- what an input's entry comes to
abbrev framed_answer : ℕ → Port → ℕ → List ℕ → ℕ → ℕ → Verdict → PortSet → Answered
framed_answer pass port stamp octets moment at verdict out = record {
  came = record { pass = pass; moment = moment; act = acts.Frame port stamp at (length octets); octets = octets };
  verdict = Some verdict;
  outs = out;
}

abbrev longed_answer : ℕ → Port → ℕ → ℕ → ℕ → Bool → Answered
longed_answer pass port stamp len moment shut = record {
  came = record { pass = pass; moment = moment; act = acts.Long port stamp len; octets = [] };
  verdict = Some (long_by shut);
  outs = no_ports;
}

abbrev line_answer : ℕ → ℕ → List ℕ → ℕ → ℕ → Answered
line_answer pass stamp line moment at = record {
  came = record { pass = pass; moment = moment; act = acts.Command stamp at (length line); octets = line };
  verdict = None;
  outs = no_ports;
}

abbrev taught_by : ℕ → Option ℕ → Port → List ℕ → Verdict → ℕ → List Station → List Station
taught_by vlan own port octets verdict moment live =
    if is_pass (Some verdict) && is_vlan vlan own then taught port moment (ethernet_of (inner octets)) live else live

module _ (plan : Plan) (base : Base) where
  pub alike_start : Alike plan base [] []
  alike_start = record { known = record { tells = refl; shut = λ q. refl; live = λ t vlan one two. refl }; keeps = refl; answers = refl }

  pub alike_same : (past : List Row) → Alike plan base past past
  alike_same past = record { known = record { tells = refl; shut = λ q. refl; live = λ t vlan one two. refl }; keeps = refl; answers = refl }

  pub turned : (past other : List Row) → Alike plan base past other → Alike plan base other past
  turned past other alike = record {
    known = record {
      tells = sym alike.known.tells;
      shut = λ q. sym (alike.known.shut q);
      live = λ t vlan one two. sym (alike.known.live t vlan two one);
    };
    keeps = sym alike.keeps;
    answers = sym alike.answers;
  }

  ticked : (past other : List Row) (stamp : ℕ) → Alike plan base past other → Alike plan base (row_of plan base past (Tick stamp) ∷ past) other
  ticked past other stamp alike = record {
    known = record {
      tells = alike.known.tells;
      shut = alike.known.shut;
      live = λ t vlan later other_later. live_left (moment_at base past stamp) t (stations vlan plan base past) later ∙ alike.known.live t vlan (omega (arith, later)) other_later;
    };
    keeps = zero-add (held past) ∙ alike.keeps;
    answers = alike.answers;
  }

  drained : (past other : List Row) (port : Port) (count : ℕ) → Alike plan base past other → Alike plan base (row_of plan base past (Drain port count) ∷ past) other
  drained past other port count alike = record {
    known = record {
      tells = alike.known.tells;
      shut = alike.known.shut;
      live = λ t vlan later other_later. live_left (last_moment base past) t (stations vlan plan base past) later ∙ alike.known.live t vlan later other_later;
    };
    keeps = zero-add (held past) ∙ alike.keeps;
    answers = alike.answers;
  }

  ended : (past other : List Row) (who : Who) (how : How) → Alike plan base past other → Alike plan base (row_of plan base past (End who how) ∷ past) other
  ended past other who how alike = record {
    known = record {
      tells = alike.known.tells;
      shut = alike.known.shut;
      live = λ t vlan later other_later. live_left (last_moment base past) t (stations vlan plan base past) later ∙ alike.known.live t vlan later other_later;
    };
    keeps = zero-add (held past) ∙ alike.keeps;
    answers = alike.answers;
  }

  -- a tick, a drain or an end on one side
  pub passed_over : (past other : List Row) (event : Event) → is_in event ≡ false → Alike plan base past other → Alike plan base (row_of plan base past event ∷ past) other
  passed_over past other (Frame port stamp octets) not alike = absurd (false≢true (sym not))
  passed_over past other (Long port stamp len) not alike = absurd (false≢true (sym not))
  passed_over past other (Command stamp line) not alike = absurd (false≢true (sym not))
  passed_over past other (Tick stamp) not alike = ticked past other stamp alike
  passed_over past other (Drain port count) not alike = drained past other port count alike
  passed_over past other (End who how) not alike = ended past other who how alike

  module _ (past other : List Row) (known : Known plan base past other) where
    without_same : (set : PortSet) → without_shut plan base past set ≡ without_shut plan base other set
    without_same set =
        ap set_of (filter_agree (λ q. is_member set q && not (is_shut plan base q past)) (λ q. is_member set q && not (is_shut plan base q other))
        (λ q. ap (λ b. is_member set q && not b) (known.shut q)) (numbers_of plan.ports))

    module _ (stamp : ℕ) (same : moment_at base past stamp ≡ moment_at base other stamp) where
      live_same : (vlan : ℕ) → live_at (moment_at base past stamp) (stations vlan plan base past) ≡ live_at (moment_at base other stamp) (stations vlan plan base other)
      live_same vlan =
          known.live (moment_at base past stamp) vlan (omega arith) (omega (arith, same))
          ∙ ap (λ (t : ℕ). live_at t (stations vlan plan base other)) same

      pub judged_same : (port : Port) (octets : List ℕ) → judged_of plan base past port stamp octets ≡ judged_of plan base other port stamp octets
      judged_same port octets =
          ap (λ (b : Bool). judged_after plan base b (marks plan base past) port (moment_at base past stamp) (vlan_of_frame plan (number_of port) octets) (class_of (inner octets))) (known.shut (number_of port))
          ∙ ap (λ (told : List Mark). judged_after plan base (is_shut plan base (number_of port) other) told port (moment_at base past stamp) (vlan_of_frame plan (number_of port) octets) (class_of (inner octets))) known.tells
          ∙ ap (λ (t : ℕ). judged_after plan base (is_shut plan base (number_of port) other) (marks plan base other) port t (vlan_of_frame plan (number_of port) octets) (class_of (inner octets))) same

      pub verdict_same : (port : Port) (octets : List ℕ) → verdict_of plan base past port stamp octets ≡ verdict_of plan base other port stamp octets
      verdict_same port octets = ap (λ (j : Judged). j.verdict) (judged_same port octets)

      directed_same : (own : Option ℕ) (n : ℕ) (octets : List ℕ) (verdict : Verdict) → outs own plan base past n (moment_at base past stamp) octets verdict ≡ outs own plan base other n (moment_at base other stamp) octets verdict
      directed_same (Some vlan) n octets verdict =
          let set : PortSet = outs_by vlan plan n (port_among (live_at (moment_at base other stamp) (stations vlan plan base other)) (ethernet_of (inner octets))) verdict in
          ap (λ (live : List Station). without_shut plan base past (outs_by vlan plan n (port_among live (ethernet_of (inner octets))) verdict)) (live_same vlan)
          ∙ without_same set
      directed_same None n octets verdict = refl

      pub outs_same : (port : Port) (octets : List ℕ) → outs_of plan base past port stamp octets ≡ outs_of plan base other port stamp octets
      outs_same port octets =
          let own : Option ℕ = vlan_of_frame plan (number_of port) octets in
          ap (λ (v : Verdict). outs own plan base past (number_of port) (moment_at base past stamp) octets v) (verdict_same port octets)
          ∙ directed_same own (number_of port) octets (verdict_of plan base other port stamp octets)

      stations_framed : (port : Port) (octets : List ℕ) (vlan : ℕ) → stations vlan plan base (row_of plan base past (Frame port stamp octets) ∷ past) ≡ stations vlan plan base (row_of plan base other (Frame port stamp octets) ∷ other)
      stations_framed port octets vlan =
          let own : Option ℕ = vlan_of_frame plan (number_of port) octets in
          ap (λ (v : Verdict). taught_by vlan own port octets v (moment_at base past stamp) (live_at (moment_at base past stamp) (stations vlan plan base past))) (verdict_same port octets)
          ∙ ap (λ (live : List Station). taught_by vlan own port octets (verdict_of plan base other port stamp octets) (moment_at base past stamp) live) (live_same vlan)
          ∙ ap (λ (t : ℕ). taught_by vlan own port octets (verdict_of plan base other port stamp octets) t (live_at (moment_at base other stamp) (stations vlan plan base other))) same

    -- the same is known from the later of the two last moments on
    pub same_from : last_moment base other ≤ last_moment base past → IsSameFrom plan base (last_moment base past) past other
    same_from low = record {
      states = λ t vlan a later. ap (λ (all : List Mark). state_at (rules_of plan).addresses (access_of base).addresses (told all) t vlan a) known.tells;
      requests = λ t vlan later. ap (λ (all : List Mark). open_requests (access_of base) vlan all t) known.tells;
      stations = λ t vlan later. known.live t vlan later (omega (arith, low, later));
      shut = known.shut;
      verdicts = λ port stamp octets later. verdict_same stamp (omega (arith, low, later)) port octets;
      outs = λ port stamp octets later. outs_same stamp (omega (arith, low, later)) port octets;
    }

  module _ (past other : List Row) (alike : Alike plan base past other) where
    module _ (stamp : ℕ) (same : moment_at base past stamp ≡ moment_at base other stamp) where
      framed_answers : (port : Port) (octets : List ℕ) → answered_of (row_of plan base past (Frame port stamp octets)) ≡ answered_of (row_of plan base other (Frame port stamp octets))
      framed_answers port octets =
          let pass : ℕ = pass_of plan (passes.Ingress port) in
          ap (λ (t : ℕ). framed_answer pass port stamp octets t (held past) (verdict_of plan base past port stamp octets) (outs_of plan base past port stamp octets)) same
          ∙ ap (λ (at : ℕ). framed_answer pass port stamp octets (moment_at base other stamp) at (verdict_of plan base past port stamp octets) (outs_of plan base past port stamp octets)) alike.keeps
          ∙ ap (λ (v : Verdict). framed_answer pass port stamp octets (moment_at base other stamp) (held other) v (outs_of plan base past port stamp octets)) (verdict_same past other alike.known stamp same port octets)
          ∙ ap (λ (set : PortSet). framed_answer pass port stamp octets (moment_at base other stamp) (held other) (verdict_of plan base other port stamp octets) set) (outs_same past other alike.known stamp same port octets)

      framed : (port : Port) (octets : List ℕ) → Alike plan base (row_of plan base past (Frame port stamp octets) ∷ past) (row_of plan base other (Frame port stamp octets) ∷ other)
      framed port octets = record {
        known = record {
          tells = ap (λ (j : Judged). j.marks) (judged_same past other alike.known stamp same port octets);
          shut = alike.known.shut;
          live = λ t vlan one two. ap (λ (known : List Station). live_at t known) (stations_framed past other alike.known stamp same port octets vlan);
        };
        keeps = ap (λ (n : ℕ). length octets + n) alike.keeps;
        answers =
            ap (λ (a : Answered). a ∷ answered past) (framed_answers port octets)
            ∙ ap (λ (rest : List Answered). answered_of (row_of plan base other (Frame port stamp octets)) ∷ rest) alike.answers;
      }

      longed : (port : Port) (len : ℕ) → Alike plan base (row_of plan base past (Long port stamp len) ∷ past) (row_of plan base other (Long port stamp len) ∷ other)
      longed port len = record {
        known = record {
          tells = alike.known.tells;
          shut = alike.known.shut;
          live = λ t vlan one two. ap (λ (known : List Station). live_at t known) (live_same past other alike.known stamp same vlan);
        };
        keeps = ap (λ (n : ℕ). 0 + n) alike.keeps;
        answers =
            ap (λ (t : ℕ). longed_answer (pass_of plan (passes.Ingress port)) port stamp len t (is_shut plan base (number_of port) past) ∷ answered past) same
            ∙ ap (λ (b : Bool). longed_answer (pass_of plan (passes.Ingress port)) port stamp len (moment_at base other stamp) b ∷ answered past) (alike.known.shut (number_of port))
            ∙ ap (λ (rest : List Answered). longed_answer (pass_of plan (passes.Ingress port)) port stamp len (moment_at base other stamp) (is_shut plan base (number_of port) other) ∷ rest) alike.answers;
      }

      commanded_alike : (line : List ℕ) → Alike plan base (row_of plan base past (Command stamp line) ∷ past) (row_of plan base other (Command stamp line) ∷ other)
      commanded_alike line = record {
        known = record {
          tells =
              ap (λ (t : ℕ). commanded plan (access_of base) t (command_of line) (marks plan base past)) same
              ∙ ap (λ (told : List Mark). commanded plan (access_of base) (moment_at base other stamp) (command_of line) told) alike.known.tells;
          shut = λ q. ap (λ (b : Bool). shut_by plan q (command_of line) b) (alike.known.shut q);
          live = λ t vlan one two. ap (λ (known : List Station). live_at t known) (live_same past other alike.known stamp same vlan);
        };
        keeps = ap (λ (n : ℕ). length line + n) alike.keeps;
        answers =
            ap (λ (t : ℕ). line_answer (pass_of plan passes.Control) stamp line t (held past) ∷ answered past) same
            ∙ ap (λ (at : ℕ). line_answer (pass_of plan passes.Control) stamp line (moment_at base other stamp) at ∷ answered past) alike.keeps
            ∙ ap (λ (rest : List Answered). line_answer (pass_of plan passes.Control) stamp line (moment_at base other stamp) (held other) ∷ rest) alike.answers;
      }

    -- an input on both sides, at one moment
    pub entered : (event : Event) → is_in event ≡ true → (row_of plan base past event).entry.moment ≡ (row_of plan base other event).entry.moment
        → Alike plan base (row_of plan base past event ∷ past) (row_of plan base other event ∷ other)
    entered (Frame port stamp octets) is same = framed stamp same port octets
    entered (Long port stamp len) is same = longed stamp same port len
    entered (Command stamp line) is same = commanded_alike stamp same line
    entered (Tick stamp) is same = absurd (false≢true is)
    entered (Drain port count) is same = absurd (false≢true is)
    entered (End who how) is same = absurd (false≢true is)
