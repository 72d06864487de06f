use Rattle.std.proofs.Common.{◌≡◌, ◌+◌, ◌<◌, ◌++◌, ◌∷◌, [], length, vec_len, MatchOption, Option, subst, arith, rules}
use Rattle.port_reader.specs.declared.reader.Reader.{Reader}
use Rattle.live_switch.specs.Sharing.{AreMatched}
use Rattle.live_switch.proofs.Gathering.{gathered_more, gathered_none, gathered_size, matched_fewer, matched_last}
use Rattle.live_switch.proofs.Popped.{none_if, popped, popped_len}
use Rattle.live_switch.proofs.sharing.+gather_ports.Goals as goal

pub gather_ports-requires : goal.gather_ports-requires
gather_ports-requires g t c =
    let readers = c.args.readers.now in
    let services = c.args.services.now in
    let few = c.pop.new.self in
    let others = c.pop-2.new.self in
    let reader = c.in-Some.reader in
    let service = c.unwrap-judge.result in
    let readers_are : readers.items ≡ few.items ++ reader ∷ [] = popped readers.items few.items c.pop.result reader c.pop.ensures.items c.in-Some.is in
    let services_are : services.items ≡ others.items ++ service ∷ [] = popped services.items others.items c.pop-2.result service c.pop-2.ensures.items c.unwrap-judge.ensures in
    let sizes : length others.items ≡ length few.items =
    omega (
      arith,
      popped_len (vec_len few) (vec_len readers) c.pop.result reader c.pop.ensures.len c.in-Some.is,
      popped_len (vec_len others) (vec_len services) c.pop-2.result service c.pop-2.ensures.len c.unwrap-judge.ensures,
      c.requires.services,
      few.ok.0,
      others.ok.0,
    ) in
    let matched : AreMatched few.items others.items = matched_fewer readers.items few.items reader services.items others.items service readers_are services_are sizes c.requires.matched in
    let fewer : length few.items < length readers.items = omega (arith, popped_len (vec_len few) (vec_len readers) c.pop.result reader c.pop.ensures.len c.in-Some.is, few.ok.0, readers.ok.0) in
    search rules

pub close-requires : goal.close-requires
close-requires g t c =
    let readers = c.args.readers.now in
    let services = c.args.services.now in
    let few = c.pop.new.self in
    let others = c.pop-2.new.self in
    let reader = c.in-Some.reader in
    let service = c.unwrap-judge.result in
    let readers_are : readers.items ≡ few.items ++ reader ∷ [] = popped readers.items few.items c.pop.result reader c.pop.ensures.items c.in-Some.is in
    let services_are : services.items ≡ others.items ++ service ∷ [] = popped services.items others.items c.pop-2.result service c.pop-2.ensures.items c.unwrap-judge.ensures in
    let sizes : length others.items ≡ length few.items =
    omega (
      arith,
      popped_len (vec_len few) (vec_len readers) c.pop.result reader c.pop.ensures.len c.in-Some.is,
      popped_len (vec_len others) (vec_len services) c.pop-2.result service c.pop-2.ensures.len c.unwrap-judge.ensures,
      c.requires.services,
      few.ok.0,
      others.ok.0,
    ) in
    matched_last readers.items few.items reader services.items others.items service readers_are services_are sizes c.requires.matched

pub push_reserved-requires : goal.push_reserved-requires
push_reserved-requires g t c =
    let ports = c.args.ports.now in
    let few = c.pop.new.self in
    let back = c.gather_ports.new.ports in
    omega (
      arith,
      gathered_size few.items c.pop-2.new.self.items ports.items back.items c.gather_ports.ensures.gathered,
      popped_len (vec_len few) (vec_len c.args.readers.now) c.pop.result c.in-Some.reader c.pop.ensures.len c.in-Some.is,
      few.ok.0,
      ports.ok.0,
      back.ok.0,
      c.requires.room,
      c.gather_ports.ensures.room,
    )

pub returns-clause-gathered : goal.returns-clause-gathered
returns-clause-gathered g t c =
    let readers = c.args.readers.now in
    let services = c.args.services.now in
    let few = c.pop.new.self in
    let others = c.pop-2.new.self in
    let reader = c.in-Some.reader in
    let service = c.unwrap-judge.result in
    let readers_are : readers.items ≡ few.items ++ reader ∷ [] = popped readers.items few.items c.pop.result reader c.pop.ensures.items c.in-Some.is in
    let services_are : services.items ≡ others.items ++ service ∷ [] = popped services.items others.items c.pop-2.result service c.pop-2.ensures.items c.unwrap-judge.ensures in
    let sizes : length others.items ≡ length few.items =
    omega (
      arith,
      popped_len (vec_len few) (vec_len readers) c.pop.result reader c.pop.ensures.len c.in-Some.is,
      popped_len (vec_len others) (vec_len services) c.pop-2.result service c.pop-2.ensures.len c.unwrap-judge.ensures,
      c.requires.services,
      few.ok.0,
      others.ok.0,
    ) in
    gathered_more readers.items few.items reader services.items others.items service readers_are services_are sizes c.args.ports.now.items c.gather_ports.new.ports.items c.push_reserved.new.self.items
    c.gather_ports.ensures.gathered c.push_reserved.ensures.items c.close.ensures

pub returns-in_default-clause-gathered : goal.returns-in_default-clause-gathered
returns-in_default-clause-gathered g t c =
    let readers = c.args.readers.now in
    let none = none_if c.pop.result c.in_default.not-Some in
    let sizes =
    subst (λ (o : Option (Reader g.row.S.Denot g.row.C.Denot)). MatchOption o ((vec_len readers ≡ 0) × (vec_len c.pop.new.self ≡ 0)) (λ _. vec_len c.pop.new.self + 1 ≡ vec_len readers)) none c.pop.ensures.cases in
    gathered_none readers.items c.args.services.now.items c.args.ports.now.items (omega (arith, sizes.0, readers.ok.0))
