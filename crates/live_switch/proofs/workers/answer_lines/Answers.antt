use Rattle.std.proofs.Common.{◌≡◌, true, false, slice_index_or, sym, ◌∙◌, rules}
use Rattle.savi_kinds.specs.declared.entry.Who.TheVariants as who
use Rattle.table_lock.specs.Passes.{pass_number}
use Rattle.live_turns.specs.Seats.{IsNewPass}
use Rattle.live_switch.proofs.Overs.{is_new, number_within, was_over, line_idle}
use Rattle.live_switch.proofs.workers.answer_lines.Goals as goal

pub run-requires-after_bounds : goal.run-requires-after_bounds
run-requires-after_bounds g c κs inside =
    let lock = c.args.lock.now in
    let going = c.args.going.now in
    let pass = c.args.pass in
    let within = number_within lock who.Control pass c.requires.pass in
    let goes : slice_index_or going (pass_number pass) true ≡ true = sym (c.is_open.ensures true) ∙ c.if-is_open.true in
    let new : IsNewPass lock who.Control pass = is_new lock who.Control pass c.requires.pass going c.requires.«open» within goes in
    search rules

pub returns : goal.returns
returns g c =
    let lock = c.args.lock.now in
    let going = c.args.going.now in
    let pass = c.args.pass in
    let within = number_within lock who.Control pass c.requires.pass in
    let stays : slice_index_or going (pass_number pass) true ≡ false = sym (c.is_open.ensures true) ∙ c.if-is_open.false in
    line_idle g.K.Sink.written g.K.Sink.faults lock c.args.control c.pass_over.new.self pass c.requires.pass (was_over lock who.Control pass c.requires.pass going c.requires.«open» within stays) c.pass_over.ensures.ring c.pass_over.ensures.stands
