use Rattle.std.proofs.Common.{◌≡◌, true, false, slice_index_or, sym, ◌∙◌, arith, rules}
use Rattle.savi_kinds.specs.declared.entry.Who.TheVariants as who
use Rattle.table_lock.specs.Passes.{pass_number}
use Rattle.live_turns.specs.Seats.{IsNewPass}
use Rattle.live_switch.proofs.Overs.{is_new, number_within, was_over, input_idle}
use Rattle.live_switch.proofs.workers.judge_port.Goals as goal

pub is_open-requires : goal.is_open-requires
is_open-requires g c = omega (arith, c.requires.«open».size, number_within c.args.lock.now (who.Ingress c.args.judge.port) c.args.pass c.requires.pass)

pub run-requires-after_bounds : goal.run-requires-after_bounds
run-requires-after_bounds g c κs inside =
    let lock = c.args.lock.now in
    let going = c.args.going.now in
    let pass = c.args.pass in
    let within = number_within lock (who.Ingress c.args.judge.port) pass c.requires.pass in
    let goes : slice_index_or going (pass_number pass) true ≡ true = sym (c.is_open.ensures true) ∙ c.if-not-is_open.false in
    let new : IsNewPass lock (who.Ingress c.args.judge.port) pass = is_new lock (who.Ingress c.args.judge.port) pass c.requires.pass going c.requires.«open» within goes in
    search rules

pub returns-then-not-is_open : goal.returns-then-not-is_open
returns-then-not-is_open g c =
    let lock = c.args.lock.now in
    let going = c.args.going.now in
    let pass = c.args.pass in
    let within = number_within lock (who.Ingress c.args.judge.port) pass c.requires.pass in
    let stays : slice_index_or going (pass_number pass) true ≡ false = sym (c.is_open.ensures true) ∙ c.if-not-is_open.true in
    input_idle lock c.args.judge pass c.requires.pass (was_over lock (who.Ingress c.args.judge.port) pass c.requires.pass going c.requires.«open» within stays)
