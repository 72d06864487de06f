use Rattle.std.proofs.Common.{sym, ◌∙◌}
use Rattle.savi_conf.specs.Keys.{HasOnly, port_keys, prefix_keys}
use Rattle.savi_conf.proofs.PartsLemmas.{each_of}
use Rattle.savi_conf.proofs.parts.Parts.has_known_keys.Goals as goal
use Rattle.savi_conf.proofs.parts.Parts.has_known_keys.Goals.{then-has_only, else-has_only}

pub returns-then-have_only : goal.returns-then-have_only
returns-then-have_only c =
    let behind = each_of HasOnly _ prefix_keys c.args.self.now.prefixes.now _ c.have_only-then-have_only.result c.prefix.ensures c.requires.prefixes c.have_only-then-have_only.ensures in (
      λ yes. elim c.if-has_only.branch [
        | then-has_only w ↦
            let front = each_of HasOnly _ port_keys c.args.self.now.ports.now _ w.have_only.result w.port.ensures c.requires.ports w.have_only.ensures in
            record {
              top = rw c.top.ensures at (c.has_only.ensures.0 w.if-has_only.true);
              ports = front.0 (sym w.value-is ∙ c.if-have_only.true);
              prefixes = behind.0 yes;
            }
        | else-has_only w ↦ absurd cc
      ],
      λ each. behind.1 each.prefixes,
    )

pub returns-else-have_only : goal.returns-else-have_only
returns-else-have_only c = (
  λ yes. absurd cc,
  λ each. elim c.if-has_only.branch [
    | then-has_only w ↦
        let front = each_of HasOnly _ port_keys c.args.self.now.ports.now _ w.have_only.result w.port.ensures c.requires.ports w.have_only.ensures in
        w.value-is ∙ front.1 each.ports
    | else-has_only w ↦ w.value-is ∙ c.has_only.ensures.1 (rw c.top.ensures each.top)
  ],
)
