use Rattle.std.proofs.Common.{ℕ, ◌≡◌, Bool, cond, List, [], ◌∷◌, ◌++◌, decimal, sym, ap, subst, ◌∙◌, arith, append_assoc}
use Rattle.savi_kinds.specs.Characters.{space}
use Rattle.hist_store.specs.TextOfLines.{comma}
use Rattle.hist_store.specs.PortTexts.{members_text}
use Rattle.hist_store.proofs.MemberLemmas.{IsListed, IsListed-none, IsListed-member, IsListed-other, ports_text-none, ports_text-some}
use Rattle.hist_store.proofs.port_fields.put_ports.Goals as goal
use Rattle.hist_store.proofs.port_fields.put_ports.Goals.{in-Some, in_default}

pub loop-index-init : goal.loop-index-init
loop-index-init c = IsListed-none c.args.set c.push.new.self.items

pub loop-index-preserved : goal.loop-index-preserved
loop-index-preserved c =
    let before = c.push.new.self.items in
    let was = c.loop-index.into.items in
    let any = c.loop-index.any in
    let k = c.loop-index.index in
    elim c.match-member_of.branch [
      | in-Some w ↦
          let written = w.put_member.ensures.text ∙ ap (λ (n : ℕ). was ++ cond any (comma ∷ decimal n) (decimal n)) w.in-Some.ensures.value in
          rw (w.any-is, w.into-is) (IsListed-member c.args.set k any before was w.put_member.new.into.items c.loop-index-test.true (sym w.in-Some.ensures.some) c.loop-index.invariant written w.put_member.ensures.size)
      | in_default w ↦ rw (w.any-is, w.into-is) (IsListed-other c.args.set k any before was (sym w.in_default.ensures.some) c.loop-index.invariant)
    ]

-- behind the space
behind : (old items text : List ℕ) → items ≡ old ++ space ∷ [] → items ++ text ≡ old ++ space ∷ text
behind old items text is = ap (λ t. t ++ text) is ∙ append_assoc old (space ∷ []) text

pub returns-then-not-any-clause-text : goal.returns-then-not-any-clause-text
returns-then-not-any-clause-text c =
    let before = c.push.new.self.items in
    let listed = subst (λ (b : Bool). IsListed c.args.set c.loop-index.index b before c.loop-index.into.items) c.if-not-any.true c.loop-index.invariant in
    c.push-then-not-any.ensures.items ∙ ports_text-none c.args.set c.loop-index.index before c.loop-index.into.items (omega arith) listed ∙ behind c.args.into.now.items before (members_text c.args.set) c.push.ensures.items

pub returns-else-not-any-clause-text : goal.returns-else-not-any-clause-text
returns-else-not-any-clause-text c =
    let before = c.push.new.self.items in
    let listed = subst (λ (b : Bool). IsListed c.args.set c.loop-index.index b before c.loop-index.into.items) c.if-not-any.false c.loop-index.invariant in
    ports_text-some c.args.set c.loop-index.index before c.loop-index.into.items (omega arith) listed ∙ behind c.args.into.now.items before (members_text c.args.set) c.push.ensures.items
