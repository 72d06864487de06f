use Rattle.std.proofs.Common.{◌≡◌, Result, Ok, Err, true, false, not, sym, ◌∙◌, ap}
use Rattle.std.specs.Result.{OnOk, is_ok}
use Rattle.std.proofs.lemmas.Bool.{false≢true}
use Rattle.savi_kinds.specs.Ports.{number_of}
use Rattle.savi_kinds.specs.declared.verdict.Rule.{Rule}
use Rattle.dhcp_states.specs.Requests.{request_of, open_at, is_full, with_request}
use Rattle.dhcp_states.proofs.Counts.{IsWithinLimits-open_at}
use Rattle.v4_snoop.proofs.Askings.{opened, moved}
use Rattle.v4_snoop.proofs.asking.ask.Goals as goal

on_ok : {T : Type 0} {P : Type 0} (r : Result T Rule) → is_ok r ≡ true → OnOk r P → P
on_ok (Ok x) is on = on
on_ok (Err e) is on = cc

pub returns-clause-place : goal.returns-clause-place
returns-clause-place c =
    let requests = open_at c.args.t c.args.requests.now in
    let place : is_full (number_of c.args.p) c.args.xid c.args.client.now requests ≡ false = sym c.finds_no_place.ensures.value ∙ c.if-finds_no_place.false in
    let is : is_ok c.request.result ≡ true = opened c.request.result (number_of c.args.p) c.args.xid c.args.client.now _ requests (IsWithinLimits-open_at c.args.t c.finds_no_place.ensures.limits) place c.request.ensures.refusal c.reply.ensures.met in
    c.is_ok.ensures.value ∙ is ∙ sym (ap not place)

pub returns-clause-asked : goal.returns-clause-asked
returns-clause-asked c = λ _.
    let requests = open_at c.args.t c.args.requests.now in
    let place : is_full (number_of c.args.p) c.args.xid c.args.client.now requests ≡ false = sym c.finds_no_place.ensures.value ∙ c.if-finds_no_place.false in
    let is : is_ok c.request.result ≡ true = opened c.request.result (number_of c.args.p) c.args.xid c.args.client.now _ requests (IsWithinLimits-open_at c.args.t c.finds_no_place.ensures.limits) place c.request.ensures.refusal c.reply.ensures.met in
    on_ok c.request.result is c.request.ensures.asked
    ∙ ap (with_request (request_of c.args.p c.args.xid c.args.client.now c.args.t)) c.reply.ensures.met
    ∙ moved (request_of c.args.p c.args.xid c.args.client.now c.args.t) requests

pub returns-clause-refused : goal.returns-clause-refused
returns-clause-refused c = λ fails.
    let requests = open_at c.args.t c.args.requests.now in
    let place : is_full (number_of c.args.p) c.args.xid c.args.client.now requests ≡ false = sym c.finds_no_place.ensures.value ∙ c.if-finds_no_place.false in
    let is : is_ok c.request.result ≡ true = opened c.request.result (number_of c.args.p) c.args.xid c.args.client.now _ requests (IsWithinLimits-open_at c.args.t c.finds_no_place.ensures.limits) place c.request.ensures.refusal c.reply.ensures.met in
    absurd (false≢true (sym fails ∙ c.is_ok.ensures.value ∙ is))
