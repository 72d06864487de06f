use Rattle.std.proofs.Common.{◌≡◌, ◌≤◌, min, take, length, reverse, sym, subst, ap, ◌∙◌, arith, true, refl, []}
use Rattle.std.proofs.lemmas.List.{nil_from_length}
use Rattle.savi_kinds.specs.Ports.{number_of}
use Rattle.savi_kinds.specs.declared.entry.Entry.{Entry}
use Rattle.savi_kinds.specs.declared.entry.Who.TheVariants.{Egress}
use Rattle.checkpoint.specs.Columns.{kept_base as base_kept}
use Rattle.savi_history.specs.Passes.{has_port}
use Rattle.savi_history.specs.Queues.{Item, queue}
use Rattle.savi_history.specs.Events as events
use Rattle.savi_history.specs.Legal.{IsOpen}
use Rattle.savi_history.proofs.Closed.{waits_open}
use Rattle.savi_core.specs.Machines.{Machine, queue_at, with_event}
use Rattle.savi_core.specs.Steps.{entry_of, taken_count}
use Rattle.savi_core.specs.Lanes.{Lane, no_lane}
use Rattle.savi_core.specs.Rings.{Rings}
use Rattle.savi_core.proofs.Remembering.{waits_at}
use Rattle.savi_core.proofs.Showing.{lane_at, lane_in, there_in}
use Rattle.savi_core.proofs.Stepping.{row, drain_fits, remembers_drain, stepped_view}
use Rattle.savi_core.proofs.Together.{all_drain}
use Rattle.savi_core.proofs.Shutting.{shut_as}
use Rattle.savi_core.proofs.Refusing.{no_refusal}
use Rattle.savi_core.proofs.Tallying.{counted_too}
use Rattle.savi_core.proofs.Over.{ends_still}
use Rattle.savi_core.proofs.machine.Core.drain.Goals as goal

pub len-requires : goal.len-requires
len-requires c =
    let inside = c.self.inside in
    let number = number_of c.args.port in
    let known : has_port inside.ports number ≡ true = ap (λ (m : Machine). has_port m.plan number) c.self.view_is ∙ c.requires.port in
    lane_in c.self.invariant.0.queues number c.place_of-place.result known c.place_of-place.ensures.place

pub returns-then-count-eq0 : goal.returns-then-count-eq0
returns-then-count-eq0 c =
    let inside = c.self.inside in
    let number = number_of c.args.port in
    let known : has_port inside.ports number ≡ true = ap (λ (m : Machine). has_port m.plan number) c.self.view_is ∙ c.requires.port in
    let size = waits_at c.self.invariant.0 number c.place_of-place.result no_lane known c.place_of-place.ensures.place in
    let none : length (queue inside.ports (base_kept c.self.inside.checkpoint) number (reverse inside.hist.rows)) ≡ 0 = omega (arith, size, c.len.ensures, c.min-count.ensures, c.if-count-eq0.true, c.requires.most.0) in
    (ap (λ (m : Machine). queue_at m c.args.port) (sym c.self.view_is) ∙ nil_from_length (queue inside.ports (base_kept c.self.inside.checkpoint) number (reverse inside.hist.rows)) none, c.clear.ensures, refl)

pub drain-requires-clause-place : goal.drain-requires-clause-place
drain-requires-clause-place c =
    let inside = c.self.inside in
    let number = number_of c.args.port in
    let known : has_port inside.ports number ≡ true = ap (λ (m : Machine). has_port m.plan number) c.self.view_is ∙ c.requires.port in
    lane_in c.self.invariant.0.queues number c.place_of-place.result known c.place_of-place.ensures.place

pub drain-requires-clause-there : goal.drain-requires-clause-there
drain-requires-clause-there c =
    let inside = c.self.inside in
    let number = number_of c.args.port in
    let known : has_port inside.ports number ≡ true = ap (λ (m : Machine). has_port m.plan number) c.self.view_is ∙ c.requires.port in
    there_in c.self.invariant.0.queues number c.place_of-place.result no_lane known c.place_of-place.ensures.place

pub append-requires-clause-room : goal.append-requires-clause-room
append-requires-clause-room c =
    let inside = c.self.inside in
    let number = number_of c.args.port in
    let known : has_port inside.ports number ≡ true = ap (λ (m : Machine). has_port m.plan number) c.self.view_is ∙ c.requires.port in
    let size = waits_at c.self.invariant.0 number c.place_of-place.result no_lane known c.place_of-place.ensures.place in
    omega (arith, drain_fits c.self.invariant.0 number known (omega (arith, size, c.len.ensures, c.min-count.ensures, c.if-count-eq0.false)), c.self.invariant.1)

pub invariant_of-self : goal.invariant_of-self
invariant_of-self c =
    let inside = c.self.inside in
    let rows = inside.hist.rows in
    let number = number_of c.args.port in
    let count = c.min-count.result in
    let e = c.drain_entry-entry.result in
    let event = events.Drain c.args.port count in
    let known : has_port inside.ports number ≡ true = ap (λ (m : Machine). has_port m.plan number) c.self.view_is ∙ c.requires.port in
    let size = waits_at c.self.invariant.0 number c.place_of-place.result no_lane known c.place_of-place.ensures.place in
    let least : 1 ≤ count = omega (arith, c.if-count-eq0.false) in
    let most : count ≤ length (queue inside.ports (base_kept c.self.inside.checkpoint) number (reverse rows)) = omega (arith, size, c.len.ensures, c.min-count.ensures) in
    let open_pass : IsOpen inside.ports (base_kept c.self.inside.checkpoint) (reverse rows) (Egress c.args.port) =
    record { known = known; running = waits_open inside.ports (base_kept c.self.inside.checkpoint) (reverse rows) number c.self.invariant.0.legal known (omega (arith, least, most)) } in
    let e_is = subst (λ (m : Machine). e ≡ entry_of m event) (sym c.self.view_is) c.drain_entry-entry.ensures in
    rw c.append.ensures (
      shut_as (sym (ap (λ (r : Rings). r.shut) c.drain.ensures.left)) (remembers_drain c.self.invariant.0 c.args.port count c.place_of-place.result no_lane e c.drain.new.self.lanes (open_pass, least, most) e_is c.place_of-place.ensures.place (ap (λ (r : Rings). r.lanes) c.drain.ensures.left)),
      c.self.invariant.1,
      c.self.invariant.2,
      c.self.invariant.3,
      all_drain c.self.invariant.0 inside.sets.items c.self.invariant.4 c.args.port count e e_is,
      no_refusal c.self.invariant.0 (events.Drain c.args.port count) e [] inside.refused e_is tt,
      counted_too c.self.invariant.0 inside.tally c.add.new.self e [] c.self.invariant.6 c.add.ensures,
      ends_still c.self.invariant.0 inside.ends c.self.invariant.7 (events.Drain c.args.port count) e [] e_is tt,
      c.self.invariant.8,
      c.self.invariant.9,
    )

pub returns : goal.returns
returns c =
    let inside = c.self.inside in
    let rows = inside.hist.rows in
    let port = c.args.port in
    let number = number_of port in
    let m = c.args.self.now in
    let count = c.min-count.result in
    let e = c.drain_entry-entry.result in
    let known : has_port inside.ports number ≡ true = ap (λ (x : Machine). has_port x.plan number) c.self.view_is ∙ c.requires.port in
    let queue_is : queue inside.ports (base_kept c.self.inside.checkpoint) number (reverse rows) ≡ queue_at m port = ap (λ (x : Machine). queue_at x port) c.self.view_is in
    let size = waits_at c.self.invariant.0 number c.place_of-place.result no_lane known c.place_of-place.ensures.place in
    let items_are = ap (λ (lane : Lane Item). lane.items) (lane_at c.self.invariant.0.queues number c.place_of-place.result no_lane known c.place_of-place.ensures.place) in
    let waits : c.len.result ≡ length (queue_at m port) = omega (arith, c.len.ensures, size, ap length queue_is) in
    let count_is : count ≡ taken_count m port c.args.most = c.min-count.ensures ∙ ap (min c.args.most) waits in
    let e_is = subst (λ (x : Machine). e ≡ entry_of x (events.Drain port count)) (sym c.self.view_is) c.drain_entry-entry.ensures in (
      (λ none. c.if-count-eq0.false (omega (arith, count_is, ap length none))),
      c.drain.ensures.taken ∙ ap (take count) (items_are ∙ queue_is) ∙ ap (λ n. take n (queue_at m port)) count_is,
      rw c.append.ensures (stepped_view inside.ports c.self.inside.checkpoint rows e [] (events.Drain port count) m c.self.view_is (ap (λ (x : Entry). row x []) e_is)
          ∙ ap (λ n. with_event m (events.Drain port n)) count_is),
      c.drain_entry-entry.ensures ∙ ap (λ n. entry_of m (events.Drain port n)) count_is,
    )
