use Rattle.std.proofs.Common.{◌≡◌, List, ℕ, Option, Some, None, sym, ◌∙◌, ap, subst}
use Rattle.std.specs.Option.{MatchOption}
use Rattle.v6_chain.specs.declared.outcome.Chain.TheVariants.{Bad, Hidden, Unknown, Later, Upper}
use Rattle.v6_chain.specs.ChainOf.{chain_of}
use Rattle.v6_chain.proofs.Whole.{chain_of-outcome}
use Rattle.frame_class.proofs.Layers.{message_is}
use Rattle.ra_learn.specs.Carried.{Carried, upper_advert}
use Rattle.ra_learn.proofs.Frames.{carried_is, carried_none}
use Rattle.ra_learn.proofs.carried.carried_in.Goals as goal

pub returns-in-Upper-clause-value : goal.returns-in-Upper-clause-value
returns-in-Upper-clause-value c =
    let payload : List ℕ = c.args.payload.now in
    let ip = c.in-Ok.ip in
    let chained = carried_is payload ip (Upper c.in-Upper.proto c.in-Upper.at c.in-Upper.fragmented) c.in-Ok.ensures.reading (c.in-Upper.ensures.only (chain_of ip payload) (chain_of-outcome ip payload)) in
    let message = message_is ip payload c.from.result c.from-in-Upper.result c.in-Upper.at c.from.ensures c.from-in-Upper.ensures in
    let P : Option Carried → Type 0 = λ carried. MatchOption c.upper_advert.result (carried ≡ None) (λ found. carried ≡ Some (record { ip = found.0; message = found.1.now })) in
    subst P (sym (chained ∙ ap (λ octets. upper_advert ip c.in-Upper.proto octets c.in-Upper.fragmented) (sym message))) c.upper_advert.ensures.value

pub returns-in-Bad-clause-value : goal.returns-in-Bad-clause-value
returns-in-Bad-clause-value c = carried_is c.args.payload.now c.in-Ok.ip (Bad c.in-Bad.field-0) c.in-Ok.ensures.reading (c.in-Bad.ensures.only (chain_of c.in-Ok.ip c.args.payload.now) (chain_of-outcome c.in-Ok.ip c.args.payload.now))

pub returns-in-Hidden-clause-value : goal.returns-in-Hidden-clause-value
returns-in-Hidden-clause-value c = carried_is c.args.payload.now c.in-Ok.ip Hidden c.in-Ok.ensures.reading (c.in-Hidden.ensures.only (chain_of c.in-Ok.ip c.args.payload.now) (chain_of-outcome c.in-Ok.ip c.args.payload.now))

pub returns-in-Unknown-clause-value : goal.returns-in-Unknown-clause-value
returns-in-Unknown-clause-value c = carried_is c.args.payload.now c.in-Ok.ip (Unknown c.in-Unknown.field-0) c.in-Ok.ensures.reading (c.in-Unknown.ensures.only (chain_of c.in-Ok.ip c.args.payload.now) (chain_of-outcome c.in-Ok.ip c.args.payload.now))

pub returns-in-Later-clause-value : goal.returns-in-Later-clause-value
returns-in-Later-clause-value c = carried_is c.args.payload.now c.in-Ok.ip Later c.in-Ok.ensures.reading (c.in-Later.ensures.only (chain_of c.in-Ok.ip c.args.payload.now) (chain_of-outcome c.in-Ok.ip c.args.payload.now))

pub returns-in_default-clause-value : goal.returns-in_default-clause-value
returns-in_default-clause-value c = carried_none c.args.payload.now c.in_default.field-0 c.in_default.ensures.reading
