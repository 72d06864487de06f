use Rattle.std.proofs.Common.{ℕ, ◌≡◌, ◌∷◌, refl, sym, ap, ◌∙◌, true≢false, Some}
use Rattle.std.proofs.lemmas.Option.{same_Some}
use Rattle.savi_kinds.specs.declared.address.Prefix.{Prefix}
use Rattle.savi_kinds.specs.declared.plan.Method.{Method}
use Rattle.savi_kinds.specs.declared.plan.PrefixPlan.{PrefixPlan}
use Rattle.savi_kinds.specs.PlanWords.{method_word}
use Rattle.hist_store.specs.TextOfLines.{spaced}
use Rattle.hist_store.specs.JournalTexts.{address_text, prefix_text_by}
use Rattle.hist_store.specs.VlanTexts.{vlan_fields}
use Rattle.hist_store.proofs.HeaderRead.{prefix_line_read, the_plan, prefix_said, spaceless_prefix, spaceless_method}
use Rattle.hist_store.proofs.read_header.read_prefix_line.Goals as goal

pub returns-in_err-prefix-clause-whole : goal.returns-in_err-prefix-clause-whole
returns-in_err-prefix-clause-whole c = rw c.from_residual-in_err-prefix.ensures (λ plan small valid is_vlan next is.
    let said = c.in_ok-behind.ensures.whole (spaced (prefix_text_by address_text plan.prefix ∷ method_word plan.method ∷ vlan_fields plan.vlan)) (prefix_said c.args.line.now plan is) in
    absurd (c.in_err-prefix.ensures.whole (prefix_text_by address_text plan.prefix) (method_word plan.method ∷ vlan_fields plan.vlan) (spaceless_prefix plan.prefix) said))

pub returns-in_err-prefix-2-clause-whole : goal.returns-in_err-prefix-2-clause-whole
returns-in_err-prefix-2-clause-whole c = rw c.from_residual-in_err-prefix-2.ensures (λ plan small valid is_vlan next is.
    let said = c.in_ok-behind.ensures.whole (spaced (prefix_text_by address_text plan.prefix ∷ method_word plan.method ∷ vlan_fields plan.vlan)) (prefix_said c.args.line.now plan is) in
    let prefix_field = c.in_ok-prefix.ensures.whole (prefix_text_by address_text plan.prefix) (method_word plan.method ∷ vlan_fields plan.vlan) (spaceless_prefix plan.prefix) said in
    let wrong = c.in_err-prefix-2.ensures.whole plan.prefix small valid prefix_field.0 in
    cc)

pub returns-in_err-method-clause-whole : goal.returns-in_err-method-clause-whole
returns-in_err-method-clause-whole c = rw c.from_residual-in_err-method.ensures (λ plan small valid is_vlan next is.
    let said = c.in_ok-behind.ensures.whole (spaced (prefix_text_by address_text plan.prefix ∷ method_word plan.method ∷ vlan_fields plan.vlan)) (prefix_said c.args.line.now plan is) in
    let prefix_field = c.in_ok-prefix.ensures.whole (prefix_text_by address_text plan.prefix) (method_word plan.method ∷ vlan_fields plan.vlan) (spaceless_prefix plan.prefix) said in
    absurd (c.in_err-method.ensures.whole (method_word plan.method) (vlan_fields plan.vlan) (spaceless_method plan.method) prefix_field.1))

pub returns-in_err-method-2-clause-whole : goal.returns-in_err-method-2-clause-whole
returns-in_err-method-2-clause-whole c = rw c.from_residual-in_err-method-2.ensures (λ plan small valid is_vlan next is.
    let said = c.in_ok-behind.ensures.whole (spaced (prefix_text_by address_text plan.prefix ∷ method_word plan.method ∷ vlan_fields plan.vlan)) (prefix_said c.args.line.now plan is) in
    let prefix_field = c.in_ok-prefix.ensures.whole (prefix_text_by address_text plan.prefix) (method_word plan.method ∷ vlan_fields plan.vlan) (spaceless_prefix plan.prefix) said in
    let method_field = c.in_ok-method.ensures.whole (method_word plan.method) (vlan_fields plan.vlan) (spaceless_method plan.method) prefix_field.1 in
    let wrong = c.in_err-method-2.ensures.whole plan.method method_field.0 in
    cc)

pub returns-in_err-vlan-clause-whole : goal.returns-in_err-vlan-clause-whole
returns-in_err-vlan-clause-whole c = rw c.from_residual-in_err-vlan.ensures (λ plan small valid is_vlan next is.
    let said = c.in_ok-behind.ensures.whole (spaced (prefix_text_by address_text plan.prefix ∷ method_word plan.method ∷ vlan_fields plan.vlan)) (prefix_said c.args.line.now plan is) in
    let prefix_field = c.in_ok-prefix.ensures.whole (prefix_text_by address_text plan.prefix) (method_word plan.method ∷ vlan_fields plan.vlan) (spaceless_prefix plan.prefix) said in
    let method_field = c.in_ok-method.ensures.whole (method_word plan.method) (vlan_fields plan.vlan) (spaceless_method plan.method) prefix_field.1 in
    let wrong = c.in_err-vlan.ensures.whole plan.vlan is_vlan method_field.1 in
    cc)

pub returns-then-is_next_prefix-clause-read : goal.returns-then-is_next_prefix-clause-read
returns-then-is_next_prefix-clause-read c = (
  prefix_line_read c.args.line.now (the_plan c.in_ok-prefix-2.prefix c.in_ok-method-2.method c.in_ok-vlan.vlan) c.in_ok-behind.field-0.now c.in_ok-prefix.prefix.now c.in_ok-prefix.rest.now c.in_ok-method.method.now c.in_ok-method.rest.now
      c.in_ok-behind.ensures.read c.in_ok-prefix.ensures.read c.in_ok-prefix-2.ensures.read.0 c.in_ok-method.ensures.read c.in_ok-method-2.ensures.read c.in_ok-vlan.ensures.read.0,
  c.in_ok-prefix-2.ensures.read.1,
  c.in_ok-vlan.ensures.read.1,
  c.if-is_next_prefix.ensures.0 refl,
)

-- the plan whose parts are read is the one that is said
read_whole : (prefix : Prefix) (method : Method) (vlan : ℕ) (plan : PrefixPlan) → Some prefix ≡ Some plan.prefix → Some method ≡ Some plan.method → Some vlan ≡ Some plan.vlan → the_plan prefix method vlan ≡ plan
read_whole prefix method vlan plan prefix_is method_is vlan_is =
    let first : prefix ≡ plan.prefix = same_Some prefix plan.prefix prefix_is in
    let second : method ≡ plan.method = same_Some method plan.method method_is in
    let third : vlan ≡ plan.vlan = same_Some vlan plan.vlan vlan_is in
    ap (λ (p : Prefix). the_plan p method vlan) first ∙ ap (λ (m : Method). the_plan plan.prefix m vlan) second ∙ ap (λ (v : ℕ). the_plan plan.prefix plan.method v) third

pub returns-then-is_next_prefix-clause-whole : goal.returns-then-is_next_prefix-clause-whole
returns-then-is_next_prefix-clause-whole c = λ plan small valid is_vlan next is.
    let said = c.in_ok-behind.ensures.whole (spaced (prefix_text_by address_text plan.prefix ∷ method_word plan.method ∷ vlan_fields plan.vlan)) (prefix_said c.args.line.now plan is) in
    let prefix_field = c.in_ok-prefix.ensures.whole (prefix_text_by address_text plan.prefix) (method_word plan.method ∷ vlan_fields plan.vlan) (spaceless_prefix plan.prefix) said in
    let method_field = c.in_ok-method.ensures.whole (method_word plan.method) (vlan_fields plan.vlan) (spaceless_method plan.method) prefix_field.1 in
    let prefix_is = c.in_ok-prefix-2.ensures.whole plan.prefix small valid prefix_field.0 in
    let method_is = c.in_ok-method-2.ensures.whole plan.method method_field.0 in
    let vlan_is = c.in_ok-vlan.ensures.whole plan.vlan is_vlan method_field.1 in
    ap Some (read_whole c.in_ok-prefix-2.prefix c.in_ok-method-2.method c.in_ok-vlan.vlan plan prefix_is method_is vlan_is)

pub returns-else-is_next_prefix-clause-whole : goal.returns-else-is_next_prefix-clause-whole
returns-else-is_next_prefix-clause-whole c = λ plan small valid is_vlan next is.
    let said = c.in_ok-behind.ensures.whole (spaced (prefix_text_by address_text plan.prefix ∷ method_word plan.method ∷ vlan_fields plan.vlan)) (prefix_said c.args.line.now plan is) in
    let prefix_field = c.in_ok-prefix.ensures.whole (prefix_text_by address_text plan.prefix) (method_word plan.method ∷ vlan_fields plan.vlan) (spaceless_prefix plan.prefix) said in
    let method_field = c.in_ok-method.ensures.whole (method_word plan.method) (vlan_fields plan.vlan) (spaceless_method plan.method) prefix_field.1 in
    let prefix_is = c.in_ok-prefix-2.ensures.whole plan.prefix small valid prefix_field.0 in
    let method_is = c.in_ok-method-2.ensures.whole plan.method method_field.0 in
    let vlan_is = c.in_ok-vlan.ensures.whole plan.vlan is_vlan method_field.1 in
    let same : the_plan c.in_ok-prefix-2.prefix c.in_ok-method-2.method c.in_ok-vlan.vlan ≡ plan = read_whole c.in_ok-prefix-2.prefix c.in_ok-method-2.method c.in_ok-vlan.vlan plan prefix_is method_is vlan_is in
    absurd (true≢false (sym (c.if-is_next_prefix.ensures.1 (rw same next))))
