use Rattle.std.proofs.Common.{List, ◌++◌, length, map, ap, ◌∙◌, arith}
use Rattle.savi_kinds.specs.declared.plan.PortPlan.{PortPlan}
use Rattle.savi_kinds.specs.declared.plan.PrefixPlan.{PrefixPlan}
use Rattle.hist_store.specs.declared.version.Version.TheVariants.{Two}
use Rattle.hist_store.specs.TextOfLines.{lines_text}
use Rattle.hist_store.specs.JournalTexts.{address_text, limit_lines, journal_port_fields, prefix_fields, time_lines, word_lines}
use Rattle.hist_store.proofs.LineLemmas.{header_in_order}
use Rattle.hist_store.proofs.header.put_header.Goals as goal

pub put_port_lines-requires : goal.put_port_lines-requires
put_port_lines-requires c =
    let few = c.requires.port_count.1 in
    record {
      vlans = rw c.as_slice.ensures c.requires.port_vlans;
      room = omega (arith, few, ap length c.as_slice.ensures, ap length c.clear.ensures, c.put_word_lines.ensures.size, c.put_limit_lines.ensures.size, c.put_time_lines.ensures.size);
    }

pub put_prefix_lines-requires : goal.put_prefix_lines-requires
put_prefix_lines-requires c =
    let few = c.requires.port_count.1 in
    let prefixes = c.requires.prefix_count in
    record {
      vlans = rw c.as_slice-2.ensures c.requires.prefix_vlans;
      room =
          omega (
            arith,
            few,
            prefixes,
            ap length c.as_slice.ensures,
            ap length c.as_slice-2.ensures,
            ap length c.clear.ensures,
            c.put_word_lines.ensures.size,
            c.put_limit_lines.ensures.size,
            c.put_time_lines.ensures.size,
            c.put_port_lines.ensures.size,
          );
    }

pub returns : goal.returns
returns c =
    let plan = c.args.plan.now in
    let ports = c.put_port_lines.ensures.text ∙ ap (λ (ps : List PortPlan). c.put_time_lines.new.into.items ++ lines_text (map journal_port_fields ps)) c.as_slice.ensures in
    let prefixes = c.put_prefix_lines.ensures.text ∙ ap (λ (ps : List PrefixPlan). c.put_port_lines.new.into.items ++ lines_text (map (prefix_fields address_text) ps)) c.as_slice-2.ensures in
    header_in_order (word_lines Two plan) (limit_lines plan) (time_lines plan) (map journal_port_fields plan.ports) (map (prefix_fields address_text) plan.prefixes)
    c.put_word_lines.new.into.items c.put_limit_lines.new.into.items c.put_time_lines.new.into.items c.put_port_lines.new.into.items c.put_prefix_lines.new.into.items
    (rw c.clear.ensures at c.put_word_lines.ensures.text) c.put_limit_lines.ensures.text c.put_time_lines.ensures.text ports prefixes
