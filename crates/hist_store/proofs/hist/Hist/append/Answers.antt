use Rattle.std.proofs.Common.{ℕ, ◌≡◌, List, length, sym, ap, subst, ◌∙◌, arith}
use Rattle.hist_store.specs.Rows.{Row, History, held, KeepsOctets}
use Rattle.hist_store.proofs.StoreLemmas.{rows_push, IsStore-push}
use Rattle.hist_store.proofs.hist.Hist.append.Goals as goal

pub invariant_of-self : goal.invariant_of-self
invariant_of-self c =
    let store = c.self.inside.octets.items in
    let before : held c.args.self.now.rows ≡ length store = ap (λ (h : History). held h.rows) (sym c.self.view_is) ∙ c.self.invariant.0.size in
    let placed = subst (λ (n : ℕ). KeepsOctets c.args.e.act n c.args.octets.now) before c.requires.placed in
    rw (c.add_octets.ensures.items, c.add_entry.ensures.items) (
      IsStore-push store c.args.octets.now c.self.inside.entries.items c.args.e c.self.invariant.0 placed,
      omega (arith, c.self.invariant.1, c.add_entry.ensures.capacity),
      omega (arith, c.self.invariant.2, c.add_octets.ensures.capacity),
    )

pub returns : goal.returns
returns c =
    let store = c.self.inside.octets.items in
    let before : held c.args.self.now.rows ≡ length store = ap (λ (h : History). held h.rows) (sym c.self.view_is) ∙ c.self.invariant.0.size in
    let placed = subst (λ (n : ℕ). KeepsOctets c.args.e.act n c.args.octets.now) before c.requires.placed in
    let whole : List Row → History = λ rows. record { rows = rows; entry_room = c.self.inside.entry_room; byte_room = c.self.inside.byte_room } in
    rw (c.add_octets.ensures.items, c.add_entry.ensures.items, ← c.self.view_is) (ap whole (rows_push store c.args.octets.now c.self.inside.entries.items c.args.e c.self.invariant.0.within placed))
