-- The entry of a frame.
use Rattle.std.proofs.Common.{ℕ, ◌≡◌, Bool, List, [], length, Option, Some, None, ap, ◌∙◌}
use Rattle.savi_kinds.specs.PortSets.{no_ports}
use Rattle.savi_kinds.specs.declared.plan.Role.{Role}
use Rattle.savi_kinds.specs.declared.verdict.Rule.{Rule}
use Rattle.frame_class.specs.declared.classes.Class.{Class}
use Rattle.frame_class.specs.Reading.{IsClassOf}
use Rattle.frame_class.specs.ClassOf.{class_of}
use Rattle.frame_class.proofs.ClassIs.{class_only}
use Rattle.ra_guard.specs.Guard.{Applies, IsFirst}
use Rattle.ra_guard.specs.GuardOf.{guard_of}
use Rattle.ra_guard.proofs.RuleOf.{guard_only}
use Rattle.savi_kinds.specs.declared.port.Port.{Port}
use Rattle.savi_kinds.specs.declared.port.PortSet.{PortSet}
use Rattle.savi_kinds.specs.declared.verdict.Verdict.{Verdict}
use Rattle.savi_kinds.specs.declared.entry.Entry.{Entry}
use Rattle.savi_kinds.specs.declared.entry.Act.{Act}
use Rattle.savi_kinds.specs.declared.entry.Act.TheVariants as acts
use Rattle.savi_kinds.specs.declared.entry.Who.TheVariants.{Ingress, Control, Ticker}
use Rattle.savi_kinds.specs.Ports.{number_of}
use Rattle.hist_store.specs.Rows.{held}
use Rattle.savi_history.specs.Passes.{pass_of}
use Rattle.savi_history.specs.Moments.{moment_at}
use Rattle.savi_history.specs.Judged.{judged_long}
use Rattle.savi_history.specs.Outs.{outs}
use Rattle.savi_history.specs.Queues.{cuts, probes, lost}
use Rattle.savi_history.specs.Events.{verdict_of}
use Rattle.savi_history.specs.Vlans.{vlan_of_frame}
use Rattle.savi_history.specs.Events as events
use Rattle.savi_core.specs.Machines.{Machine, base_of}
use Rattle.savi_core.specs.Steps.{entry_of}

abbrev pub long_made : Port → ℕ → ℕ → ℕ → ℕ → Verdict → ℕ → ℕ → Entry
long_made port stamp len by moment verdict queued missed = record { by = by; moment = moment; act = acts.Long port stamp len; verdict = Some verdict; outs = no_ports; cuts = no_ports; probes = queued; lost = missed }

abbrev pub made : ℕ → ℕ → Act → Verdict → PortSet → PortSet → ℕ → ℕ → Entry
made by moment act verdict out cut queued missed = record { by = by; moment = moment; act = act; verdict = Some verdict; outs = out; cuts = cut; probes = queued; lost = missed }

-- an entry whose parts are those of a frame's row is that row's
pub frame_entry_is : (m : Machine) (port : Port) (stamp : ℕ) (octets : List ℕ) (by moment : ℕ) (act : Act) (verdict : Verdict) (out cut : PortSet) (queued missed : ℕ) → by ≡ pass_of m.plan (Ingress port) → moment ≡ moment_at (base_of m) m.past stamp → act ≡ events.frame_act m.past port stamp octets → verdict ≡ verdict_of m.plan (base_of m) m.past port stamp octets
    → out ≡ outs (vlan_of_frame m.plan (number_of port) octets) m.plan (base_of m) m.past (number_of port) (moment_at (base_of m) m.past stamp) octets verdict → cut ≡ cuts m.plan (base_of m) m.past (events.frame_act m.past port stamp octets) octets out
    → queued ≡ probes m.plan (base_of m) m.past (events.frame_act m.past port stamp octets) octets → missed ≡ lost m.plan (base_of m) m.past (events.frame_act m.past port stamp octets) octets
    → made by moment act verdict out cut queued missed ≡ entry_of m (events.Frame port stamp octets)
frame_entry_is m port stamp octets by moment act verdict out cut queued missed by_is moment_is act_is verdict_is out_is cut_is queued_is missed_is =
    let framed = events.frame_act m.past port stamp octets in
    let goes : out ≡ events.outs_of m.plan (base_of m) m.past port stamp octets =
    out_is ∙ ap (λ (v : Verdict). outs (vlan_of_frame m.plan (number_of port) octets) m.plan (base_of m) m.past (number_of port) (moment_at (base_of m) m.past stamp) octets v) verdict_is in
    let left_out : cut ≡ cuts m.plan (base_of m) m.past framed octets (events.outs_of m.plan (base_of m) m.past port stamp octets) =
    cut_is ∙ ap (λ (o : PortSet). cuts m.plan (base_of m) m.past framed octets o) goes in
    cc (by_is, moment_is, act_is, verdict_is, goes, left_out, queued_is, missed_is)

-- so is the entry of a frame that is too long
pub long_entry_is : (m : Machine) (port : Port) (stamp len by moment : ℕ) (verdict : Verdict) (queued missed : ℕ) → by ≡ pass_of m.plan (Ingress port) → moment ≡ moment_at (base_of m) m.past stamp → verdict ≡ judged_long m.plan (base_of m) m.past port
    → queued ≡ probes m.plan (base_of m) m.past (acts.Long port stamp len) [] → missed ≡ lost m.plan (base_of m) m.past (acts.Long port stamp len) [] → long_made port stamp len by moment verdict queued missed ≡ entry_of m (events.Long port stamp len)
long_entry_is m port stamp len by moment verdict queued missed by_is moment_is verdict_is queued_is missed_is = cc (by_is, moment_is, verdict_is, queued_is, missed_is)

-- so is the entry of a line of control
abbrev pub command_made : ℕ → ℕ → ℕ → ℕ → ℕ → ℕ → ℕ → Entry
command_made stamp len by moment at queued missed = record { by = by; moment = moment; act = acts.Command stamp at len; verdict = None; outs = no_ports; cuts = no_ports; probes = queued; lost = missed }

pub command_entry_is : (m : Machine) (stamp : ℕ) (line : List ℕ) (by moment at queued missed : ℕ) → by ≡ pass_of m.plan Control → moment ≡ moment_at (base_of m) m.past stamp → at ≡ held m.past
    → queued ≡ probes m.plan (base_of m) m.past (events.command_act m.past stamp line) line → missed ≡ lost m.plan (base_of m) m.past (events.command_act m.past stamp line) line
    → command_made stamp (length line) by moment at queued missed ≡ entry_of m (events.Command stamp line)
command_entry_is m stamp line by moment at queued missed by_is moment_is at_is queued_is missed_is = cc (by_is, moment_is, at_is, queued_is, missed_is)

-- so is the entry of a tick
abbrev pub tick_made : ℕ → ℕ → ℕ → ℕ → ℕ → Entry
tick_made stamp by moment queued missed = record { by = by; moment = moment; act = acts.Tick stamp; verdict = None; outs = no_ports; cuts = no_ports; probes = queued; lost = missed }

pub tick_entry_is : (m : Machine) (stamp by moment queued missed : ℕ) → by ≡ pass_of m.plan Ticker → moment ≡ moment_at (base_of m) m.past stamp
    → queued ≡ probes m.plan (base_of m) m.past (acts.Tick stamp) [] → missed ≡ lost m.plan (base_of m) m.past (acts.Tick stamp) [] → tick_made stamp by moment queued missed ≡ entry_of m (events.Tick stamp)
tick_entry_is m stamp by moment queued missed by_is moment_is queued_is missed_is = cc (by_is, moment_is, queued_is, missed_is)

-- the rule that stops a frame of this class is the one for its octets
pub guard_by_class : (role : Role) (drop_unknown : Bool) (octets : List ℕ) (class : Class) (rule : Option Rule) → IsClassOf octets class → IsFirst (Applies role drop_unknown class) rule → rule ≡ guard_of role drop_unknown (class_of octets)
guard_by_class role drop_unknown octets class rule class_is first =
    guard_only role drop_unknown class rule first ∙ ap (guard_of role drop_unknown) (class_only octets class class_is)
