-- A document as the code has it: its tables beside it.
use Rattle.std.specs.Prelude.{◌≡◌, map}
use Rattle.toml.specs.View.{table_view}
use Rattle.toml.specs.Data.{Members}
use Rattle.savi_conf.specs.Requirements.{port_tables, prefix_tables, vlans_in}
use Rattle.savi_conf.specs.declared.parts.Parts.{Parts}

-- the document
abbrev pub document_of : Parts → Members
document_of parts = table_view parts.document.now

-- the tables are those of the document's ports and prefixes, and the numbers are those of each port's VLANs
pub record AreParts (parts : Parts) : Type 0 where
  pub ports : map (λ t. table_view t.now) parts.ports.now ≡ port_tables (document_of parts)
  pub prefixes : map (λ t. table_view t.now) parts.prefixes.now ≡ prefix_tables (document_of parts)
  pub vlans : map (λ numbers. numbers.items) parts.vlans.now ≡ map vlans_in (port_tables (document_of parts))
