-- What happens to a switch, and the one row that stands for it in a history.
use Rattle.std.specs.Prelude.{ℕ, List, [], length, Some, None}
use Rattle.savi_kinds.specs.declared.port.Port.{Port}
use Rattle.savi_kinds.specs.declared.port.PortSet.{PortSet}
use Rattle.savi_kinds.specs.declared.plan.Plan.{Plan}
use Rattle.savi_kinds.specs.declared.verdict.Verdict.{Verdict}
use Rattle.savi_kinds.specs.declared.entry.Act.{Act}
use Rattle.savi_kinds.specs.declared.entry.Act.TheVariants as acts
use Rattle.savi_kinds.specs.declared.entry.Who.{Who}
use Rattle.savi_kinds.specs.declared.entry.Who.TheVariants as passes
use Rattle.savi_kinds.specs.declared.entry.How.{How}
use Rattle.savi_kinds.specs.Ports.{number_of}
use Rattle.savi_kinds.specs.PortSets.{no_ports}
use Rattle.hist_store.specs.Rows.{Row, held}
use Rattle.checkpoint.specs.Bases.{Base}
use Rattle.savi_history.specs.Passes.{pass_of}
use Rattle.savi_history.specs.Moments.{last_moment, moment_at}
use Rattle.savi_history.specs.Vlans.{vlan_of_frame}
pub use Rattle.savi_history.specs.Judged.{judged_of, verdict_of}
use Rattle.savi_history.specs.Judged.{judged_long}
use Rattle.savi_history.specs.Outs.{outs}
use Rattle.savi_history.specs.Queues.{cuts, probes, lost}

pub data Event : Type 0 where
  -- a frame came in at a port, with its stamp
  Frame : (port : Port) (stamp : ℕ) (octets : List ℕ) → Event
  -- a longer frame came in
  Long : (port : Port) (stamp len : ℕ) → Event
  -- a line came in on control, with its stamp
  Command : (stamp : ℕ) (line : List ℕ) → Event
  -- time passed
  Tick : (stamp : ℕ) → Event
  -- so many items were taken from the front of a port's queue
  Drain : (port : Port) (count : ℕ) → Event
  -- a pass ended
  End : (who : Who) (how : How) → Event

-- the act of a frame, whose octets are kept behind those of the past
abbrev pub frame_act : List Row → Port → ℕ → List ℕ → Act
frame_act past port stamp octets = acts.Frame port stamp (held past) (length octets)

-- the row of a frame with this verdict that goes to these ports
abbrev pub frame_row : Plan → Base → List Row → Port → ℕ → List ℕ → Verdict → PortSet → Row
frame_row plan base past port stamp octets verdict out = record {
  entry = record {
    by = pass_of plan (passes.Ingress port);
    moment = moment_at base past stamp;
    act = frame_act past port stamp octets;
    verdict = Some verdict;
    outs = out;
    cuts = cuts plan base past (frame_act past port stamp octets) octets out;
    probes = probes plan base past (frame_act past port stamp octets) octets;
    lost = lost plan base past (frame_act past port stamp octets) octets;
  };
  octets = octets;
}

-- the row of a longer frame, which goes nowhere and whose octets aren't kept
abbrev pub long_row : Plan → Base → List Row → Port → ℕ → ℕ → Row
long_row plan base past port stamp len = record {
  entry = record {
    by = pass_of plan (passes.Ingress port);
    moment = moment_at base past stamp;
    act = acts.Long port stamp len;
    verdict = Some (judged_long plan base past port);
    outs = no_ports;
    cuts = no_ports;
    probes = probes plan base past (acts.Long port stamp len) [];
    lost = lost plan base past (acts.Long port stamp len) [];
  };
  octets = [];
}

-- the act of a line, whose octets are kept as those of a frame are
abbrev pub command_act : List Row → ℕ → List ℕ → Act
command_act past stamp line = acts.Command stamp (held past) (length line)

-- the row of a line, on which there is no verdict: only the probes that fell due by then go anywhere
abbrev pub command_row : Plan → Base → List Row → ℕ → List ℕ → Row
command_row plan base past stamp line = record {
  entry = record {
    by = pass_of plan passes.Control;
    moment = moment_at base past stamp;
    act = command_act past stamp line;
    verdict = None;
    outs = no_ports;
    cuts = no_ports;
    probes = probes plan base past (command_act past stamp line) line;
    lost = lost plan base past (command_act past stamp line) line;
  };
  octets = line;
}

-- the row of a tick, on which there is no verdict: only its probes go anywhere
abbrev pub tick_row : Plan → Base → List Row → ℕ → Row
tick_row plan base past stamp = record {
  entry = record {
    by = pass_of plan passes.Ticker;
    moment = moment_at base past stamp;
    act = acts.Tick stamp;
    verdict = None;
    outs = no_ports;
    cuts = no_ports;
    probes = probes plan base past (acts.Tick stamp) [];
    lost = lost plan base past (acts.Tick stamp) [];
  };
  octets = [];
}

-- an entry without a stamp: it has the last moment, goes nowhere and keeps no octets
abbrev pub plain_row : ℕ → ℕ → Act → Row
plain_row by moment act = record {
  entry = record { by = by; moment = moment; act = act; verdict = None; outs = no_ports; cuts = no_ports; probes = 0; lost = 0 };
  octets = [];
}

-- the ports to which a frame goes
abbrev pub outs_of : Plan → Base → List Row → Port → ℕ → List ℕ → PortSet
outs_of plan base past port stamp octets =
    outs (vlan_of_frame plan (number_of port) octets) plan base past (number_of port) (moment_at base past stamp) octets
    (verdict_of plan base past port stamp octets)

abbrev pub row_of : Plan → Base → List Row → Event → Row
row_of plan base past (Frame port stamp octets) =
    frame_row plan base past port stamp octets (verdict_of plan base past port stamp octets) (outs_of plan base past port stamp octets)
row_of plan base past (Long port stamp len) = long_row plan base past port stamp len
row_of plan base past (Command stamp line) = command_row plan base past stamp line
row_of plan base past (Tick stamp) = tick_row plan base past stamp
row_of plan base past (Drain port count) =
    plain_row (pass_of plan (passes.Egress port)) (last_moment base past) (acts.Drain port count)
row_of plan base past (End who how) = plain_row (pass_of plan who) (last_moment base past) (acts.End who how)
