use Rattle.std.proofs.Common.{List, ℕ, ◌∷◌, [], refl, ap, inl}
use Rattle.cli_lang.specs.Commands.{Clear, Shut, Open}
use Rattle.cli_lang.proofs.command_line.two_words.Goals as goal

pub returns-in-Some : goal.returns-in-Some
returns-in-Some c = inl (Clear c.args.argument.now, ap (λ (w : List ℕ). w ∷ c.args.argument.now ∷ []) (c.if-is-2.ensures.0 refl), (c.in-Some.vlan, c.in-Some.address, c.in-Some.ensures.read, refl))

pub returns-in-None : goal.returns-in-None
returns-in-None c = inl (Clear c.args.argument.now, ap (λ (w : List ℕ). w ∷ c.args.argument.now ∷ []) (c.if-is-2.ensures.0 refl), (c.in-None.ensures.only, refl))

pub returns-in-Some-read_port : goal.returns-in-Some-read_port
returns-in-Some-read_port c = inl (Shut c.args.argument.now, ap (λ (w : List ℕ). w ∷ c.args.argument.now ∷ []) (c.if-is-3.ensures.0 refl), (c.in-Some-read_port.port, c.in-Some-read_port.ensures.read, refl))

pub returns-in-None-read_port : goal.returns-in-None-read_port
returns-in-None-read_port c = inl (Shut c.args.argument.now, ap (λ (w : List ℕ). w ∷ c.args.argument.now ∷ []) (c.if-is-3.ensures.0 refl), (c.in-None-read_port.ensures.only, refl))

pub returns-in-Some-read_port-2 : goal.returns-in-Some-read_port-2
returns-in-Some-read_port-2 c = inl (Open c.args.argument.now, ap (λ (w : List ℕ). w ∷ c.args.argument.now ∷ []) (c.if-is-4.ensures.0 refl), (c.in-Some-read_port-2.port, c.in-Some-read_port-2.ensures.read, refl))

pub returns-in-None-read_port-2 : goal.returns-in-None-read_port-2
returns-in-None-read_port-2 c = inl (Open c.args.argument.now, ap (λ (w : List ℕ). w ∷ c.args.argument.now ∷ []) (c.if-is-4.ensures.0 refl), (c.in-None-read_port-2.ensures.only, refl))
