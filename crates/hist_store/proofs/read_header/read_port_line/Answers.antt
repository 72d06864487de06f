use Rattle.std.proofs.Common.{◌∷◌, refl, sym, true≢false}
use Rattle.savi_kinds.specs.PlanWords.{role_word, format_word}
use Rattle.hist_store.specs.TextOfLines.{spaced}
use Rattle.hist_store.specs.PortTexts.{port_text}
use Rattle.hist_store.specs.VlanTexts.{port_vlan_fields}
use Rattle.hist_store.proofs.HeaderRead.{port_read, port_said, spaceless_role, spaceless_format}
use Rattle.hist_store.proofs.read_header.read_port_line.Goals as goal

pub returns-in_err-port-clause-whole : goal.returns-in_err-port-clause-whole
returns-in_err-port-clause-whole c = rw c.from_residual-in_err-port.ensures (λ port role format vlan are next is.
    let said = c.in_ok-behind.ensures.whole (spaced (port_text port ∷ role_word role ∷ format_word format ∷ port_vlan_fields vlan)) (port_said c.args.line.now port role format vlan is) in
    absurd (c.in_err-port.ensures.whole port (role_word role ∷ format_word format ∷ port_vlan_fields vlan) said))

pub returns-in_err-role-clause-whole : goal.returns-in_err-role-clause-whole
returns-in_err-role-clause-whole c = rw c.from_residual-in_err-role.ensures (λ port role format vlan are next is.
    let said = c.in_ok-behind.ensures.whole (spaced (port_text port ∷ role_word role ∷ format_word format ∷ port_vlan_fields vlan)) (port_said c.args.line.now port role format vlan is) in
    let port_is = c.in_ok-port.ensures.whole port (role_word role ∷ format_word format ∷ port_vlan_fields vlan) said in
    absurd (c.in_err-role.ensures.whole (role_word role) (format_word format ∷ port_vlan_fields vlan) (spaceless_role role) port_is.1))

pub returns-in_err-role-2-clause-whole : goal.returns-in_err-role-2-clause-whole
returns-in_err-role-2-clause-whole c = rw c.from_residual-in_err-role-2.ensures (λ port role format vlan are next is.
    let said = c.in_ok-behind.ensures.whole (spaced (port_text port ∷ role_word role ∷ format_word format ∷ port_vlan_fields vlan)) (port_said c.args.line.now port role format vlan is) in
    let port_is = c.in_ok-port.ensures.whole port (role_word role ∷ format_word format ∷ port_vlan_fields vlan) said in
    let role_field = c.in_ok-role.ensures.whole (role_word role) (format_word format ∷ port_vlan_fields vlan) (spaceless_role role) port_is.1 in
    let wrong = c.in_err-role-2.ensures.whole role role_field.0 in
    cc)

pub returns-in_err-format-clause-whole : goal.returns-in_err-format-clause-whole
returns-in_err-format-clause-whole c = rw c.from_residual-in_err-format.ensures (λ port role format vlan are next is.
    let said = c.in_ok-behind.ensures.whole (spaced (port_text port ∷ role_word role ∷ format_word format ∷ port_vlan_fields vlan)) (port_said c.args.line.now port role format vlan is) in
    let port_is = c.in_ok-port.ensures.whole port (role_word role ∷ format_word format ∷ port_vlan_fields vlan) said in
    let role_field = c.in_ok-role.ensures.whole (role_word role) (format_word format ∷ port_vlan_fields vlan) (spaceless_role role) port_is.1 in
    absurd (c.in_err-format.ensures.whole (format_word format) (port_vlan_fields vlan) (spaceless_format format) role_field.1))

pub returns-in_err-format-2-clause-whole : goal.returns-in_err-format-2-clause-whole
returns-in_err-format-2-clause-whole c = rw c.from_residual-in_err-format-2.ensures (λ port role format vlan are next is.
    let said = c.in_ok-behind.ensures.whole (spaced (port_text port ∷ role_word role ∷ format_word format ∷ port_vlan_fields vlan)) (port_said c.args.line.now port role format vlan is) in
    let port_is = c.in_ok-port.ensures.whole port (role_word role ∷ format_word format ∷ port_vlan_fields vlan) said in
    let role_field = c.in_ok-role.ensures.whole (role_word role) (format_word format ∷ port_vlan_fields vlan) (spaceless_role role) port_is.1 in
    let format_field = c.in_ok-format.ensures.whole (format_word format) (port_vlan_fields vlan) (spaceless_format format) role_field.1 in
    let wrong = c.in_err-format-2.ensures.whole format format_field.0 in
    cc)

pub returns-in_err-vlan-clause-whole : goal.returns-in_err-vlan-clause-whole
returns-in_err-vlan-clause-whole c = rw c.from_residual-in_err-vlan.ensures (λ port role format vlan are next is.
    let said = c.in_ok-behind.ensures.whole (spaced (port_text port ∷ role_word role ∷ format_word format ∷ port_vlan_fields vlan)) (port_said c.args.line.now port role format vlan is) in
    let port_is = c.in_ok-port.ensures.whole port (role_word role ∷ format_word format ∷ port_vlan_fields vlan) said in
    let role_field = c.in_ok-role.ensures.whole (role_word role) (format_word format ∷ port_vlan_fields vlan) (spaceless_role role) port_is.1 in
    let format_field = c.in_ok-format.ensures.whole (format_word format) (port_vlan_fields vlan) (spaceless_format format) role_field.1 in
    let wrong = c.in_err-vlan.ensures.whole vlan are format_field.1 in
    cc)

pub returns-then-is_next_port-clause-read : goal.returns-then-is_next_port-clause-read
returns-then-is_next_port-clause-read c = (
  port_read c.args.line.now c.in_ok-port.port c.in_ok-role-2.role c.in_ok-format-2.format c.in_ok-vlan.vlan c.in_ok-behind.field-0.now c.in_ok-port.rest.now c.in_ok-role.rest.now c.in_ok-format.rest.now c.in_ok-role.role.now c.in_ok-format.format.now
      c.in_ok-behind.ensures.read c.in_ok-port.ensures.read c.in_ok-role.ensures.read c.in_ok-role-2.ensures.read c.in_ok-format.ensures.read c.in_ok-format-2.ensures.read c.in_ok-vlan.ensures.read.0,
  c.in_ok-vlan.ensures.read.1,
  c.if-is_next_port.ensures.0 refl,
)

pub returns-then-is_next_port-clause-whole : goal.returns-then-is_next_port-clause-whole
returns-then-is_next_port-clause-whole c = λ port role format vlan are next is.
    let said = c.in_ok-behind.ensures.whole (spaced (port_text port ∷ role_word role ∷ format_word format ∷ port_vlan_fields vlan)) (port_said c.args.line.now port role format vlan is) in
    let port_is = c.in_ok-port.ensures.whole port (role_word role ∷ format_word format ∷ port_vlan_fields vlan) said in
    let role_field = c.in_ok-role.ensures.whole (role_word role) (format_word format ∷ port_vlan_fields vlan) (spaceless_role role) port_is.1 in
    let role_is = c.in_ok-role-2.ensures.whole role role_field.0 in
    let format_field = c.in_ok-format.ensures.whole (format_word format) (port_vlan_fields vlan) (spaceless_format format) role_field.1 in
    let format_is = c.in_ok-format-2.ensures.whole format format_field.0 in
    let vlan_is = c.in_ok-vlan.ensures.whole vlan are format_field.1 in
    (port_is.0, cc, cc, cc)

pub returns-else-is_next_port-clause-whole : goal.returns-else-is_next_port-clause-whole
returns-else-is_next_port-clause-whole c = λ port role format vlan are next is.
    let said = c.in_ok-behind.ensures.whole (spaced (port_text port ∷ role_word role ∷ format_word format ∷ port_vlan_fields vlan)) (port_said c.args.line.now port role format vlan is) in
    let port_is = c.in_ok-port.ensures.whole port (role_word role ∷ format_word format ∷ port_vlan_fields vlan) said in
    true≢false (sym (c.if-is_next_port.ensures.1 (rw port_is.0 next)))
