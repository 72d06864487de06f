use Rattle.std.proofs.Common.{◌≡◌, List, ℕ, Result, Ok, rules, refl, ap, sym, ◌∙◌, arith}
use Rattle.std.specs.Prelude.{reverse}
use Rattle.cli_lang.specs.declared.kinds.Command.{Command}
use Rattle.cli_lang.specs.declared.kinds.Command.TheVariants.{ShowBindings, ShowPorts, ShowCounters, ShowStations}
use Rattle.cli_lang.specs.declared.kinds.CmdFault.{CmdFault}
use Rattle.fcfs_states.specs.declared.times.Times.{Times}
use Rattle.control_replies.specs.Bindings.{bindings_text}
use Rattle.savi_access.specs.Plans.{times_of}
use Rattle.savi_history.specs.Moments.{last_moment}
use Rattle.savi_history.specs.Shown.{reply_to}
use Rattle.savi_core.specs.Machines.{Machine, base_of}
use Rattle.savi_core.specs.VlanSets.{of_sets}
use Rattle.savi_core.proofs.Showing.{lane_count}
use Rattle.savi_core.proofs.Everywhere.{rows_few, sets_few, sets_low}
use Rattle.savi_core.proofs.Answering.{bindings_are, ports_are, stations_are, counters_are}
use Rattle.savi_core.proofs.Together.{lent_too}
use Rattle.savi_core.proofs.machine.Core.tell.Goals as goal

-- what is said of what the core keeps, as contracts see it
seen : (m n : Machine) (order : Result Command CmdFault) (command : Command) (text : List ℕ) → m ≡ n → order ≡ Ok command
    → text ≡ reply_to m.plan (base_of m) m.past (last_moment (base_of m) m.past) (Ok command) → text ≡ reply_to n.plan (base_of n) n.past (last_moment (base_of n) n.past) order
seen m n order command text view is text_is =
    text_is
    ∙ ap (λ (x : Machine). reply_to x.plan (base_of x) x.past (last_moment (base_of x) x.past) (Ok command)) view
    ∙ ap (reply_to n.plan (base_of n) n.past (last_moment (base_of n) n.past)) (sym is)

pub show_ports-requires-clause-lanes : goal.show_ports-requires-clause-lanes
show_ports-requires-clause-lanes c = lane_count c.self.invariant.0.queues

pub show_bindings-requires-clause-vlans : goal.show_bindings-requires-clause-vlans
show_bindings-requires-clause-vlans c = sets_low c.self.invariant.0 c.as_slice-sets.result.now (lent_too c.as_slice-sets.ensures.value c.self.invariant.4)

pub show_bindings-requires-clause-few : goal.show_bindings-requires-clause-few
show_bindings-requires-clause-few c = omega (arith, rows_few c.self.invariant.0 c.as_slice-sets.result.now (lent_too c.as_slice-sets.ensures.value c.self.invariant.4), c.self.invariant.0.valid.per_port.1)

pub show_stations-requires-clause-vlans : goal.show_stations-requires-clause-vlans
show_stations-requires-clause-vlans c = sets_low c.self.invariant.0 c.as_slice-sets.result.now (lent_too c.as_slice-sets.ensures.value c.self.invariant.4)

pub show_stations-requires-clause-few : goal.show_stations-requires-clause-few
show_stations-requires-clause-few c = sets_few c.self.invariant.0 c.as_slice-sets.result.now (lent_too c.as_slice-sets.ensures.value c.self.invariant.4)

pub show_ports-requires-clause-vlans : goal.show_ports-requires-clause-vlans
show_ports-requires-clause-vlans c = (lent_too c.as_slice-sets.ensures.value c.self.invariant.4).vlans

pub returns-in-Ok-ShowBindings : goal.returns-in-Ok-ShowBindings
returns-in-Ok-ShowBindings c =
    let order_is : c.args.order ≡ Ok ShowBindings = search rules in
    let inside = c.self.inside in
    let inner : Machine = record { plan = inside.ports; checkpoint = inside.checkpoint; past = reverse inside.hist.rows } in
    let times : c.times_of.result ≡ times_of inside.ports = c.times_of.ensures ∙ ap times_of c.plan.ensures.plan in
    seen inner c.args.self.now c.args.order ShowBindings c.show_bindings.new.into c.self.view_is order_is
    (bindings_are c.self.invariant.0 c.as_slice-sets.result.now (lent_too c.as_slice-sets.ensures.value c.self.invariant.4) c.show_bindings.new.into
    (c.show_bindings.ensures ∙ ap (λ (k : Times). bindings_text k (of_sets (λ set. set.access.addresses.rows) c.as_slice-sets.result.now)) times))

pub returns-in-Ok-ShowPorts : goal.returns-in-Ok-ShowPorts
returns-in-Ok-ShowPorts c =
    let order_is : c.args.order ≡ Ok ShowPorts = search rules in
    let inside = c.self.inside in
    let inner : Machine = record { plan = inside.ports; checkpoint = inside.checkpoint; past = reverse inside.hist.rows } in
    seen inner c.args.self.now c.args.order ShowPorts c.show_ports.new.into c.self.view_is order_is
    (ports_are c.self.invariant.0 c.as_slice-sets.result.now (lent_too c.as_slice-sets.ensures.value c.self.invariant.4) inside.queues c.show_ports.new.into refl refl c.show_ports.ensures)

pub returns-in-Ok-ShowCounters : goal.returns-in-Ok-ShowCounters
returns-in-Ok-ShowCounters c =
    let order_is : c.args.order ≡ Ok ShowCounters = search rules in
    let m : Machine = c.args.self.now in
    seen m m c.args.order ShowCounters c.put_counters.new.self refl order_is
    (counters_are m.plan (base_of m) m.past (last_moment (base_of m) m.past) c.counts.result.now c.args.into.now c.put_counters.new.self c.requires.empty c.counts.ensures c.put_counters.ensures.text)

pub returns-in-Ok-ShowStations : goal.returns-in-Ok-ShowStations
returns-in-Ok-ShowStations c =
    let order_is : c.args.order ≡ Ok ShowStations = search rules in
    let inside = c.self.inside in
    let inner : Machine = record { plan = inside.ports; checkpoint = inside.checkpoint; past = reverse inside.hist.rows } in
    seen inner c.args.self.now c.args.order ShowStations c.show_stations.new.into c.self.view_is order_is
    (stations_are c.self.invariant.0 c.as_slice-sets.result.now (lent_too c.as_slice-sets.ensures.value c.self.invariant.4) c.show_stations.new.into c.show_stations.ensures)
