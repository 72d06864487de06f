-- A worked session, computed: a port and control, of which a frame and `quit` come in. No premise is empty, and the plan has
-- no entry and no octet more than the budget.
use Rattle.std.proofs.Common.{◌≡◌, ◌≢◌, ℕ, zero, suc, ◌<◌, true, false, List, [], ◌∷◌, slice_index_or, Option, Some, refl, lit≤, inl, arith}
use Rattle.std.specs.List.{concat}
use Rattle.std.specs.List.Sorted.{IsStrictlyIncreasing}
use Rattle.std.proofs.lemmas.List.Elements.{All-nil, All-cons}
use Rattle.std.proofs.lemmas.Bool.{false≢true}
use Rattle.savi_kinds.specs.declared.port.Port.{Port}
use Rattle.savi_kinds.specs.declared.plan.Role.{Role}
use Rattle.savi_kinds.specs.declared.plan.Format.{Format}
use Rattle.savi_kinds.specs.declared.plan.Plan.{Plan}
use Rattle.savi_kinds.specs.declared.plan.PrefixPlan.{PrefixPlan}
use Rattle.savi_kinds.specs.declared.plan.PortPlan.{PortPlan}
use Rattle.savi_kinds.specs.declared.plan.Role.TheVariants as roles
use Rattle.savi_kinds.specs.declared.plan.Format.TheVariants as formats
use Rattle.savi_kinds.specs.declared.plan.Vlan.TheVariants.{Access}
use Rattle.savi_kinds.specs.declared.entry.Who.TheVariants as passes
use Rattle.savi_kinds.specs.declared.entry.How.TheVariants as hows
use Rattle.savi_kinds.specs.Arrivals.{Input}
use Rattle.savi_kinds.specs.Arrivals as arrivals
use Rattle.savi_kinds.specs.Characters.{line_feed}
use Rattle.savi_kinds.specs.ValidPlan.{HasPlanVlans, IsPlanPrefix, IsValidPlan}
use Rattle.savi_kinds.specs.Vlans.{IsVlan}
use Rattle.savi_ends.specs.declared.world.Ends.{Ends}
use Rattle.v6_chain.specs.Kinds.{kind_of}
use Rattle.nd_read.specs.Messages.{named}
use Rattle.nd_read.specs.NdOf.{nd_of, passes as message_passes}
use Rattle.eth_frame.specs.Tags.{tag_of}
use Rattle.frame_class.specs.ClassOf.{class_of}
use Rattle.ra_guard.specs.GuardOf.{guard_of}
use Rattle.port_reader.specs.Inputs.{AreArrivals}
use Rattle.cli_lang.specs.Arrivals as control
use Rattle.cli_lang.specs.CommandOf.{command_of}
use Rattle.hist_store.specs.Rows.{Row}
use Rattle.savi_access.specs.Judged.{judged}
use Rattle.checkpoint.specs.Bases.{empty}
use Rattle.savi_history.specs.ControlInputs.{is_quit}
use Rattle.savi_history.specs.ControlOutputs.{replies}
use Rattle.savi_history.specs.Events.{Event, Frame, Command, End}
use Rattle.savi_history.specs.Legal.{IsLegal, IsFinished}
use Rattle.savi_history.specs.Offers.{offers}
use Rattle.savi_history.specs.Passes.{AllEnded}
use Rattle.savi_history.specs.Queues.{probes, lost}
use Rattle.savi_history.proofs.Example.{port_one, packet}
use Rattle.savi_segments.specs.Segments.{AreOctets}
use Rattle.savi_segments.proofs.Worked.{rows_of_octets}
use Rattle.control_reader.specs.LiveLines.{AreLiveLines}
use Rattle.live_session.specs.LiveRows.{ControlRow}
use Rattle.live_session.specs.LiveSession.{PortRow, IsLive}
use Rattle.savi_laws.specs.Rebuilt.{rows_by}
use Rattle.live_laws.specs.SourceInputs.{HasInput, HaveInputs, SufficesFor}

-- what an end in memory tells, and that none of it failed
abbrev told : List ℕ → Option (List ℕ)
told octets = Some octets

abbrev none_failed : List ℕ → ℕ
none_failed octets = 0

-- one port, whose peer is reached by a stream, with room for the budget alone
abbrev pub plan : Plan
plan = record {
  mac = record { 0 = 2 ∷ 0 ∷ 0 ∷ 0 ∷ 0 ∷ 1 ∷ [] };
  savi = false;
  drop_unknown = true;
  per_port = 32;
  depth = 256;
  entries = 4676;
  bytes = 1576;
  gap = 250;
  test = 500;
  life = 300000;
  control = Some ([], []);
  journal = [];
  ports = record { number = port_one; role = roles.Host; format = formats.Stream; input = []; output = []; vlan = Access 1 } ∷ [];
  prefixes = [];
}

-- a port of VLAN 1 alone
of_one : {number : Port} {role : Role} {format : Format} → HasPlanVlans (record { number = number; role = role; format = format; input = []; output = []; vlan = Access 1 })
of_one = record {
  numbers = All-cons IsVlan 1 [] (lit≤ tt, lit≤ tt) (All-nil IsVlan);
  some = lit≤ tt;
  rising = λ k inside. absurd (omega (arith, inside));
  trusted = λ trunk. absurd (false≢true trunk);
}

pub plan_is_valid : IsValidPlan plan
plan_is_valid = record {
  unicast = refl;
  per_port = (lit≤ tt, lit≤ tt);
  depth = (lit≤ tt, lit≤ tt);
  entries = (lit≤ tt, lit≤ tt);
  bytes = (lit≤ tt, lit≤ tt);
  gap = (lit≤ tt, lit≤ tt);
  test = (lit≤ tt, lit≤ tt);
  gap_first = lit≤ tt;
  life = (300, refl, (lit≤ tt, lit≤ tt));
  port_count = (lit≤ tt, lit≤ tt);
  ports = one_rises;
  port_vlans = All-cons HasPlanVlans (record { number = port_one; role = roles.Host; format = formats.Stream; input = []; output = []; vlan = Access 1 }) [] of_one (All-nil HasPlanVlans);
  vlan_count = lit≤ tt;
  prefix_count = lit≤ tt;
  plan_prefixes = All-nil IsPlanPrefix;
  prefix_vlans = All-nil (λ (p : PrefixPlan). IsVlan p.vlan);
  prefixes = λ i j d lower inside. absurd (omega (arith, inside));
}
  where
    one_rises : IsStrictlyIncreasing (1 ∷ [])
    one_rises place inside = absurd (omega (arith, inside))

-- `quit`, and its line
abbrev quit : List ℕ
quit = 113 ∷ 117 ∷ 105 ∷ 116 ∷ []

abbrev quit_line : List ℕ
quit_line = 113 ∷ 117 ∷ 105 ∷ 116 ∷ 10 ∷ []

-- the frame of 54 octets in a stream
abbrev stream : List ℕ
stream = 0 ∷ 0 ∷ 0 ∷ 54 ∷ packet

-- the ends of all passes behind the frame and the line, the newest first
abbrev events : List Event
events =
    End (passes.Egress port_one) hows.End
    ∷ End passes.Ticker hows.End
    ∷ End passes.Control hows.Quit
    ∷ End (passes.Ingress port_one) hows.End
    ∷ Command 1001 quit
    ∷ Frame port_one 1000 packet
    ∷ []

abbrev pub past : List Row
past = rows_by plan empty [] events

-- what the ports' and control's ends had, and what they have
abbrev pub old_port : Ends (List ℕ) (List ℕ) (List ℕ)
old_port = record { source = stream; sink = []; clock = [] }

abbrev new_port : Ends (List ℕ) (List ℕ) (List ℕ)
new_port = record { source = []; sink = []; clock = 1000 ∷ [] }

abbrev pub old_control : Ends (List ℕ) (List ℕ) (List ℕ)
old_control = record { source = quit_line; sink = []; clock = [] }

abbrev new_control : Ends (List ℕ) (List ℕ) (List ℕ)
new_control = record { source = []; sink = concat (replies plan empty past); clock = 1001 ∷ [] }

-- the frame is what the port's source has, and `quit` what control's has
abbrev pub inputs : List Input
inputs = record { arrivals = arrivals.Frame 1000 packet ∷ []; ending = hows.End } ∷ []

abbrev pub commands : control.Input
commands = record { arrivals = record { stamp = 1001; command = quit } ∷ []; ending = hows.End }

stream_is : AreArrivals formats.Stream true stream (arrivals.Frame 1000 packet ∷ []) hows.End
stream_is = (stream, [], refl, (record { size = refl; counted = refl }, lit≤ tt, refl), lit≤ tt, (refl, refl))

line_is : AreLiveLines true quit_line (record { stamp = 1001; command = quit } ∷ []) hows.End
line_is = (
  quit_line,
  [],
  refl,
  (quit, record { apart = no_feed; short = lit≤ tt; whole = inl refl }, refl, lit≤ tt),
  (refl, refl),
)
  where
    no_feed : control.HasNoFeed quit
    no_feed =
        All-cons (λ (c : ℕ). c ≢ line_feed) 113 (117 ∷ 105 ∷ 116 ∷ []) (λ same. absurd (omega (arith, same)))
        (All-cons (λ (c : ℕ). c ≢ line_feed) 117 (105 ∷ 116 ∷ []) (λ same. absurd (omega (arith, same)))
        (All-cons (λ (c : ℕ). c ≢ line_feed) 105 (116 ∷ []) (λ same. absurd (omega (arith, same)))
        (All-cons (λ (c : ℕ). c ≢ line_feed) 116 [] (λ same. absurd (omega (arith, same))) (All-nil (λ (c : ℕ). c ≢ line_feed)))))

inputs_ended : AllEnded empty 2 (rows_by plan empty [] (End passes.Control hows.Quit ∷ End (passes.Ingress port_one) hows.End ∷ Command 1001 quit ∷ Frame port_one 1000 packet ∷ []))
inputs_ended zero within = refl
inputs_ended (suc zero) within = refl
inputs_ended (suc (suc pass)) within = absurd (omega (arith, within))

ticker_ended : AllEnded empty 3 (rows_by plan empty [] (End passes.Ticker hows.End ∷ End passes.Control hows.Quit ∷ End (passes.Ingress port_one) hows.End ∷ Command 1001 quit ∷ Frame port_one 1000 packet ∷ []))
ticker_ended zero within = refl
ticker_ended (suc zero) within = refl
ticker_ended (suc (suc zero)) within = refl
ticker_ended (suc (suc (suc pass))) within = absurd (omega (arith, within))

past_is_finished : IsFinished plan empty past
past_is_finished zero within = refl
past_is_finished (suc zero) within = refl
past_is_finished (suc (suc zero)) within = refl
past_is_finished (suc (suc (suc zero))) within = refl
past_is_finished (suc (suc (suc (suc pass)))) within = absurd (omega (arith, within))

past_is_legal : IsLegal plan empty past
unfolding tag_of class_of nd_of named message_passes kind_of guard_of judged offers probes lost
past_is_legal = (
  (End (passes.Egress port_one) hows.End, (record { known = refl; running = refl }, ((ticker_ended, refl), refl)), refl),
  (
    (End passes.Ticker hows.End, (record { known = refl; running = refl }, (inputs_ended, refl)), refl),
    (
      (End passes.Control hows.Quit, (record { known = refl; running = refl }, tt), refl),
      (
        (End (passes.Ingress port_one) hows.End, (record { known = refl; running = refl }, tt), refl),
        (
          (Command 1001 quit, (record { open_pass = record { known = refl; running = refl }; room = refl; fits = lit≤ tt }, lit≤ tt), refl),
          ((Frame port_one 1000 packet, (record { open_pass = record { known = refl; running = refl }; room = refl; fits = lit≤ tt }, lit≤ tt), refl), tt),
        ),
      ),
    ),
  ),
)

past_is_octets : AreOctets past
past_is_octets = rows_of_octets past refl

-- the port's frame came in, and nothing goes out there
port_row : PortRow told told none_failed none_failed told plan (past ∷ []) (record { number = port_one; role = roles.Host; format = formats.Stream; input = []; output = []; vlan = Access 1 }) old_port new_port
unfolding tag_of class_of nd_of named message_passes kind_of guard_of judged offers probes lost
port_row = (
  (
    hows.End,
    refl,
    record {
      gave = (stream, refl);
      fits = stream_is;
      near = λ at same. (omega arith, λ some. omega arith);
      stamped = ([], refl, refl);
      later = lit≤ tt;
      broken = λ same. let never : hows.End ≡ hows.Failed = same in absurd cc;
      still = λ other. refl;
    },
  ),
  record {
    fits = refl;
    later = lit≤ tt;
    broken = λ same. let never : Some hows.End ≡ Some hows.Failed = same in absurd cc;
    still = λ other. refl;
  },
)

control_row : ControlRow told told none_failed none_failed told plan (past ∷ []) old_control new_control
unfolding command_of
control_row = record {
  ending = hows.Quit;
  ended = refl;
  source = record {
    gave = (quit_line, refl);
    fits = (
      record { behind = []; ending = hows.End; read = line_is },
      record { front = []; last = record { stamp = 1001; command = quit }; all = refl; none = All-nil (λ (line : control.Line). is_quit line ≡ false); quit = refl },
    );
    near = λ at fault. absurd fault;
    stamped = ([], refl, refl);
    later = lit≤ tt;
    broken = λ same. let never : hows.Quit ≡ hows.Failed = same in absurd cc;
    still = λ other answered. refl;
  };
  fits_out = refl;
  sink = lit≤ tt;
  unwritten = λ same. let never : hows.Quit ≡ hows.Unwritten = same in absurd cc;
  still_out = λ other. refl;
}

-- the session was so
pub session_is_live : IsLive told told none_failed none_failed told plan (past ∷ []) (old_port ∷ []) (new_port ∷ []) (Some old_control) (Some new_control) [] []
session_is_live = record {
  session = record { legal = (past_is_legal, past_is_octets, tt); turned = (tt, tt); closed = (past_is_finished, refl) };
  size = refl;
  ports = at_one;
  control = control_row;
  ticker = record { latest = []; reads = ([], refl, refl); ticked = (refl, (refl, (refl, (refl, (refl, (refl, tt)))))); ended = refl };
}
  where
    at_one : (place : ℕ) (p : PortPlan) (d : Ends (List ℕ) (List ℕ) (List ℕ)) → place < 1 → PortRow told told none_failed none_failed told plan (past ∷ []) (slice_index_or plan.ports place p) (slice_index_or (old_port ∷ []) place d) (slice_index_or (new_port ∷ []) place d)
    at_one zero p d within = port_row
    at_one (suc place) p d within = absurd (omega (arith, within))

-- its sources have a frame and a line
pub sources_have_inputs : HaveInputs told plan (old_port ∷ []) (Some old_control) (Some commands) inputs
sources_have_inputs = record { each_port = refl; each_input = refl; have = at_one; commands = (quit_line, refl, line_is) }
  where
    at_one : (place : ℕ) (p : PortPlan) (d : Ends (List ℕ) (List ℕ) (List ℕ)) (i : Input) → place < 1 → HasInput told (slice_index_or plan.ports place p).format (slice_index_or (old_port ∷ []) place d).source (slice_index_or inputs place i)
    at_one zero p d i within = (stream, refl, stream_is)
    at_one (suc place) p d i within = absurd (omega (arith, within))

-- for which the plan has room
pub room_for_inputs : SufficesFor plan (Some commands) inputs
room_for_inputs = record { entries = lit≤ tt; bytes = lit≤ tt }
