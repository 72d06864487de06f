-- The worked replay of two captures, computed: where a write fails too, and where the history has little room.
use Rattle.std.proofs.Common.{◌≡◌, [], ◌∷◌, refl, Some, None, ◌==◌, if◌then◌else◌}
use Rattle.savi_kinds.specs.declared.plan.Plan.{Plan}
use Rattle.savi_kinds.specs.declared.verdict.Verdict.TheVariants as verdicts
use Rattle.savi_kinds.specs.declared.verdict.Rule.TheVariants as rules
use Rattle.savi_kinds.specs.declared.verdict.Scope.TheVariants as scopes
use Rattle.savi_kinds.specs.declared.entry.Act.TheVariants as acts
use Rattle.savi_kinds.specs.declared.entry.Who.TheVariants as passes
use Rattle.savi_kinds.specs.declared.entry.How.TheVariants as hows
use Rattle.eth_frame.specs.Tags.{tag_of}
use Rattle.v6_chain.specs.Kinds.{kind_of}
use Rattle.nd_read.specs.Messages.{named}
use Rattle.nd_read.specs.NdOf.{nd_of, passes as message_passes}
use Rattle.frame_class.specs.ClassOf.{class_of}
use Rattle.ra_guard.specs.GuardOf.{guard_of}
use Rattle.savi_access.specs.Judged.{judged}
use Rattle.savi_history.specs.Replay.{Stops}
use Rattle.savi_history.specs.Summary.{summary_of}
use Rattle.savi_history.specs.Offers.{offers}
use Rattle.savi_history.specs.Queues.{probes, lost}
use Rattle.savi_history.proofs.Example.{port_one, port_two, plan, advert, packet, inputs, other, frame, no_failure}
use Rattle.savi_segments.specs.Segments.{joined}
use Rattle.savi_segments.specs.Sent.{sent_in}
use Rattle.savi_segments.specs.Replay.{replayed}

pub two_captures : replayed plan None inputs no_failure ≡ (
    other 5 1002 (acts.End (passes.Egress port_two) hows.End)
    ∷ other 4 1002 (acts.End (passes.Egress port_one) hows.End)
    ∷ other 3 1002 (acts.End passes.Ticker hows.End)
    ∷ other 1 1002 (acts.End (passes.Ingress port_two) hows.End)
    ∷ other 4 1002 (acts.Drain port_one 1)
    ∷ frame 1 1002 (acts.Frame port_two 1002 124 70) (verdicts.Pass scopes.All) 1 advert
    ∷ other 0 1001 (acts.End (passes.Ingress port_one) hows.End)
    ∷ other 5 1001 (acts.Drain port_two 1)
    ∷ frame 0 1001 (acts.Frame port_one 1001 70 54) (verdicts.Pass scopes.All) 2 packet
    ∷ frame 0 1000 (acts.Frame port_one 1000 0 70) (verdicts.Drop rules.RouterAdvert) 0 advert
    ∷ other 2 0 (acts.End passes.Control hows.End)
    ∷ []) ∷ []
unfolding tag_of class_of nd_of named message_passes kind_of guard_of judged offers probes lost
two_captures = refl

pub summed_up : summary_of (joined (replayed plan None inputs no_failure)) ≡ record { entries = 11; frames = 3; passed = 2; dropped = 1; probes = 0; lost = 0; cut = 0 }
unfolding tag_of class_of nd_of named message_passes kind_of guard_of judged lib.Count.ones offers probes lost
summed_up = refl

pub sent_at_two : sent_in plan 2 (replayed plan None inputs no_failure) ≡ record { moment = 1001; octets = packet } ∷ []
unfolding tag_of class_of nd_of named message_passes kind_of guard_of judged offers
sent_at_two = refl

-- the record of the packet isn't written, and the header is
abbrev pub second_fails : Stops
second_fails = record { ports = λ port. if port == 2 then Some 1 else None; control = None }

pub an_output_fails : replayed plan None inputs second_fails ≡ (
    other 4 1002 (acts.End (passes.Egress port_one) hows.End)
    ∷ other 3 1002 (acts.End passes.Ticker hows.End)
    ∷ other 1 1002 (acts.End (passes.Ingress port_two) hows.End)
    ∷ other 4 1002 (acts.Drain port_one 1)
    ∷ frame 1 1002 (acts.Frame port_two 1002 124 70) (verdicts.Pass scopes.All) 1 advert
    ∷ other 0 1001 (acts.End (passes.Ingress port_one) hows.End)
    ∷ other 5 1001 (acts.End (passes.Egress port_two) hows.Failed)
    ∷ other 5 1001 (acts.Drain port_two 1)
    ∷ frame 0 1001 (acts.Frame port_one 1001 70 54) (verdicts.Pass scopes.All) 2 packet
    ∷ frame 0 1000 (acts.Frame port_one 1000 0 70) (verdicts.Drop rules.RouterAdvert) 0 advert
    ∷ other 2 0 (acts.End passes.Control hows.End)
    ∷ []) ∷ []
unfolding tag_of class_of nd_of named message_passes kind_of guard_of judged offers probes lost
an_output_fails = refl

-- room for two entries in each segment
abbrev small : Plan
small = record plan { entries = 4132 }

pub three_segments : replayed small None inputs no_failure ≡ (
    other 5 1002 (acts.End (passes.Egress port_two) hows.End)
    ∷ other 4 1002 (acts.End (passes.Egress port_one) hows.End)
    ∷ other 3 1002 (acts.End passes.Ticker hows.End)
    ∷ other 1 1002 (acts.End (passes.Ingress port_two) hows.End)
    ∷ other 4 1002 (acts.Drain port_one 1)
    ∷ frame 1 1002 (acts.Frame port_two 1002 0 70) (verdicts.Pass scopes.All) 1 advert
    ∷ []) ∷ (
    other 5 1001 (acts.End (passes.Egress port_two) hows.Paused)
    ∷ other 4 1001 (acts.End (passes.Egress port_one) hows.Paused)
    ∷ other 3 1001 (acts.End passes.Ticker hows.Paused)
    ∷ other 1 1001 (acts.End (passes.Ingress port_two) hows.Paused)
    ∷ other 0 1001 (acts.End (passes.Ingress port_one) hows.End)
    ∷ other 5 1001 (acts.Drain port_two 1)
    ∷ frame 0 1001 (acts.Frame port_one 1001 0 54) (verdicts.Pass scopes.All) 2 packet
    ∷ []) ∷ (
    other 5 1000 (acts.End (passes.Egress port_two) hows.Paused)
    ∷ other 4 1000 (acts.End (passes.Egress port_one) hows.Paused)
    ∷ other 3 1000 (acts.End passes.Ticker hows.Paused)
    ∷ other 1 1000 (acts.End (passes.Ingress port_two) hows.Paused)
    ∷ other 0 1000 (acts.End (passes.Ingress port_one) hows.Paused)
    ∷ frame 0 1000 (acts.Frame port_one 1000 0 70) (verdicts.Drop rules.RouterAdvert) 0 advert
    ∷ other 2 0 (acts.End passes.Control hows.End)
    ∷ []) ∷ []
unfolding tag_of class_of nd_of named message_passes kind_of guard_of judged offers probes lost
three_segments = refl
