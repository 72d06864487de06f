use Rattle.std.proofs.Common.{◌≡◌, Some, true, is_some, refl, sym, ◌∙◌, ap, drop}
use Rattle.std.specs.Option.{option_and_then}
use Rattle.std.proofs.lemmas.List.{take_rest}
use Rattle.v4_snoop.specs.DhcpOptions.{dhcp_options}
use Rattle.v4_snoop.specs.DhcpMessages.{has_cookie, message_type}
use Rattle.v4_snoop.proofs.Readings.{message_without_cookie, message_cut, message_typeless, message_typed}
use Rattle.v4_snoop.proofs.message.read_message.Goals as goal

pub returns-then-not-has_cookie : goal.returns-then-not-has_cookie
returns-then-not-has_cookie c = sym (message_without_cookie c.args.payload.now (sym c.has_cookie.ensures.value ∙ c.if-not-has_cookie.true))

pub returns-then-not-are_whole : goal.returns-then-not-are_whole
returns-then-not-are_whole c =
    let cookie : has_cookie c.args.payload.now ≡ true = sym c.has_cookie.ensures.value ∙ c.if-not-has_cookie.false in
    sym (message_cut c.args.payload.now cookie (ap (λ xs. is_some (dhcp_options xs)) (sym (take_rest c.args.payload.now 240)) ∙ sym c.are_whole.ensures ∙ c.if-not-are_whole.true))

pub returns-in-None : goal.returns-in-None
returns-in-None c =
    let cookie : has_cookie c.args.payload.now ≡ true = sym c.has_cookie.ensures.value ∙ c.if-not-has_cookie.false in
    sym (message_typeless c.args.payload.now cookie (ap (λ xs. option_and_then message_type (dhcp_options xs)) (sym (take_rest c.args.payload.now 240)) ∙ sym c.in-None.ensures))

pub returns-in-Some : goal.returns-in-Some
returns-in-Some c =
    let cookie : has_cookie c.args.payload.now ≡ true = sym c.has_cookie.ensures.value ∙ c.if-not-has_cookie.false in
    let whole : is_some (dhcp_options (drop 240 c.args.payload.now)) ≡ true = ap (λ xs. is_some (dhcp_options xs)) (sym (take_rest c.args.payload.now 240)) ∙ sym c.are_whole.ensures ∙ c.if-not-are_whole.false in
    let typed : option_and_then message_type (dhcp_options (drop 240 c.args.payload.now)) ≡ Some c.in-Some.kind = ap (λ xs. option_and_then message_type (dhcp_options xs)) (sym (take_rest c.args.payload.now 240)) ∙ sym c.in-Some.ensures in
    sym (message_typed c.args.payload.now c.in-Some.kind c.message_with.result (dhcp_options (drop 240 c.args.payload.now)) cookie refl whole typed
    (λ read is. c.message_with.ensures read (ap dhcp_options (take_rest c.args.payload.now 240) ∙ is)))
