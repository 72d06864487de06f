use Rattle.std.proofs.Common.{◌≡◌, ◌==◌, ◌&&◌, ℕ, Bool, true, false, cond, is_some, Some, None, refl, sym, ◌∙◌, ap}
use Rattle.std.proofs.lemmas.Bool.{eq-eqb}
use Rattle.savi_kinds.specs.Ports.{number_of}
use Rattle.v4_snoop.specs.Leased.{is_live_lease, is_lease_of, is_lease_at}
use Rattle.v4_snoop.specs.Snooped.{is_client}
use Rattle.v4_snoop.proofs.Rooms.{live_one, live_none, at_of, for_of}
use Rattle.v4_snoop.proofs.leases.Leases.client_at.Goals as goal

some_if : (live of at : Bool) (mac : ℕ) → of ≡ true → is_some (cond (live && at) (Some mac) None) ≡ (live && (of && at))
some_if true of true mac so = ap (λ b. true && (b && true)) (sym so)
some_if true of false mac so = ap (λ b. true && (b && false)) (sym so)
some_if false of at mac so = refl

client_if : (live of at : Bool) (mac wanted : ℕ) → of ≡ true → is_client wanted (cond (live && at) (Some mac) None) ≡ (live && ((of && at) && (mac == wanted)))
client_if true of true mac wanted so = ap (λ b. true && ((b && true) && (mac == wanted))) (sym so)
client_if true of false mac wanted so = ap (λ b. true && ((b && false) && (mac == wanted))) (sym so)
client_if false of at mac wanted so = refl

pub returns-in-Some-clause-any : goal.returns-in-Some-clause-any
returns-in-Some-clause-any c = λ leases holds.
    ap (λ o. is_some o) c.client_at.ensures
    ∙ some_if (is_live_lease c.args.t c.in-Some.found.lease) (is_lease_of c.args.key c.in-Some.found.lease) (is_lease_at (number_of c.args.p) c.in-Some.found.lease) c.in-Some.found.lease.mac (eq-eqb c.in-Some.found.lease.key c.args.key c.in-Some.ensures.of)
    ∙ sym (live_one c.in-Some.ensures holds (λ other. is_lease_of c.args.key other && is_lease_at (number_of c.args.p) other) (at_of c.args.key (number_of c.args.p)))

pub returns-in-Some-clause-mac : goal.returns-in-Some-clause-mac
returns-in-Some-clause-mac c = λ leases mac holds.
    ap (is_client mac) c.client_at.ensures
    ∙ client_if (is_live_lease c.args.t c.in-Some.found.lease) (is_lease_of c.args.key c.in-Some.found.lease) (is_lease_at (number_of c.args.p) c.in-Some.found.lease) c.in-Some.found.lease.mac mac (eq-eqb c.in-Some.found.lease.key c.args.key c.in-Some.ensures.of)
    ∙ sym (live_one c.in-Some.ensures holds (λ other. (is_lease_of c.args.key other && is_lease_at (number_of c.args.p) other) && (other.mac == mac)) (for_of c.args.key (number_of c.args.p) mac))

pub returns-in-None-clause-any : goal.returns-in-None-clause-any
returns-in-None-clause-any c = λ leases holds. sym (live_none c.in-None.ensures holds (λ other. is_lease_of c.args.key other && is_lease_at (number_of c.args.p) other) (at_of c.args.key (number_of c.args.p)))

pub returns-in-None-clause-mac : goal.returns-in-None-clause-mac
returns-in-None-clause-mac c = λ leases mac holds. sym (live_none c.in-None.ensures holds (λ other. (is_lease_of c.args.key other && is_lease_at (number_of c.args.p) other) && (other.mac == mac)) (for_of c.args.key (number_of c.args.p) mac))
