use Rattle.std.proofs.Common.{sym}
use Rattle.std.proofs.lemmas.Option.{IfSome_then}
use Rattle.savi_kinds.proofs.KeyGrammar.{key_of_alone, key_of_sides, key_told, no_key_of_alone, no_key_of_sides}
use Rattle.savi_kinds.proofs.key_text.read_key.Goals as goal

pub returns-in-Some-clause-read : goal.returns-in-Some-clause-read
returns-in-Some-clause-read c = key_of_sides _ c.in-Some.at c.read_sides.result (sym c.in-Some.ensures) c.read_sides.ensures.address c.read_sides.ensures.vlan

pub returns-in-Some-clause-vlan : goal.returns-in-Some-clause-vlan
returns-in-Some-clause-vlan c = IfSome_then c.read_sides.result (returns-in-Some-clause-read c) (λ key is. is.number.1)

pub returns-in-Some-clause-only : goal.returns-in-Some-clause-only
returns-in-Some-clause-only c = no_key_of_sides _ c.in-Some.at c.read_sides.result (sym c.in-Some.ensures) c.read_sides.ensures.only

pub returns-in-Some-clause-value : goal.returns-in-Some-clause-value
returns-in-Some-clause-value c = key_told _ c.read_sides.result (returns-in-Some-clause-read c) (returns-in-Some-clause-only c)

pub returns-in-None-clause-read : goal.returns-in-None-clause-read
returns-in-None-clause-read c = key_of_alone _ c.read_alone.result c.read_alone.ensures.address c.read_alone.ensures.vlan

pub returns-in-None-clause-vlan : goal.returns-in-None-clause-vlan
returns-in-None-clause-vlan c = IfSome_then c.read_alone.result (returns-in-None-clause-read c) (λ key is. is.number.1)

pub returns-in-None-clause-only : goal.returns-in-None-clause-only
returns-in-None-clause-only c = no_key_of_alone _ c.read_alone.result (sym c.in-None.ensures) c.read_alone.ensures.only

pub returns-in-None-clause-value : goal.returns-in-None-clause-value
returns-in-None-clause-value c = key_told _ c.read_alone.result (returns-in-None-clause-read c) (returns-in-None-clause-only c)
