use Rattle.std.proofs.Common.{sym, ◌∙◌}
use Rattle.savi_conf.specs.Keys.{HasKinds, port_keys, prefix_keys}
use Rattle.savi_conf.proofs.PartsLemmas.{each_of}
use Rattle.savi_conf.proofs.parts.Parts.has_kinds.Goals as goal
use Rattle.savi_conf.proofs.parts.Parts.has_kinds.Goals.{then-has_kinds, else-has_kinds}

pub returns-then-have_kinds : goal.returns-then-have_kinds
returns-then-have_kinds c =
    let behind = each_of HasKinds _ prefix_keys c.args.self.now.prefixes.now _ c.have_kinds-then-have_kinds.result c.prefix.ensures c.requires.prefixes c.have_kinds-then-have_kinds.ensures in (
      λ yes. elim c.if-has_kinds.branch [
        | then-has_kinds w ↦
            let front = each_of HasKinds _ port_keys c.args.self.now.ports.now _ w.have_kinds.result w.port.ensures c.requires.ports w.have_kinds.ensures in
            record {
              top = rw c.top.ensures at (c.has_kinds.ensures.0 w.if-has_kinds.true);
              ports = front.0 (sym w.value-is ∙ c.if-have_kinds.true);
              prefixes = behind.0 yes;
            }
        | else-has_kinds w ↦ absurd cc
      ],
      λ each. behind.1 each.prefixes,
    )

pub returns-else-have_kinds : goal.returns-else-have_kinds
returns-else-have_kinds c = (
  λ yes. absurd cc,
  λ each. elim c.if-has_kinds.branch [
    | then-has_kinds w ↦
        let front = each_of HasKinds _ port_keys c.args.self.now.ports.now _ w.have_kinds.result w.port.ensures c.requires.ports w.have_kinds.ensures in
        w.value-is ∙ front.1 each.ports
    | else-has_kinds w ↦ w.value-is ∙ c.has_kinds.ensures.1 (rw c.top.ensures each.top)
  ],
)
