use Rattle.std.proofs.Common.{sym, ◌∙◌}
use Rattle.savi_conf.specs.Keys.{HasRequired, port_keys, prefix_keys}
use Rattle.savi_conf.proofs.PartsLemmas.{each_of}
use Rattle.savi_conf.proofs.parts.Parts.has_required_keys.Goals as goal
use Rattle.savi_conf.proofs.parts.Parts.has_required_keys.Goals.{then-has_required, else-has_required}

pub returns-then-have_required : goal.returns-then-have_required
returns-then-have_required c =
    let behind = each_of HasRequired _ prefix_keys c.args.self.now.prefixes.now _ c.have_required-then-have_required.result c.prefix.ensures c.requires.prefixes c.have_required-then-have_required.ensures in (
      λ yes. elim c.if-has_required.branch [
        | then-has_required w ↦
            let front = each_of HasRequired _ port_keys c.args.self.now.ports.now _ w.have_required.result w.port.ensures c.requires.ports w.have_required.ensures in
            record {
              top = rw c.top.ensures at (c.has_required.ensures.0 w.if-has_required.true);
              ports = front.0 (sym w.value-is ∙ c.if-have_required.true);
              prefixes = behind.0 yes;
            }
        | else-has_required w ↦ absurd cc
      ],
      λ each. behind.1 each.prefixes,
    )

pub returns-else-have_required : goal.returns-else-have_required
returns-else-have_required c = (
  λ yes. absurd cc,
  λ each. elim c.if-has_required.branch [
    | then-has_required w ↦
        let front = each_of HasRequired _ port_keys c.args.self.now.ports.now _ w.have_required.result w.port.ensures c.requires.ports w.have_required.ensures in
        w.value-is ∙ front.1 each.ports
    | else-has_required w ↦ w.value-is ∙ c.has_required.ensures.1 (rw c.top.ensures each.top)
  ],
)
