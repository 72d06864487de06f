use Rattle.std.proofs.Common.{ℕ, ◌≡◌, List, [], ◌∷◌, ◌++◌, codes, decimal, ap, ◌∙◌}
use Rattle.savi_kinds.specs.Characters.{space}
use Rattle.savi_kinds.specs.AddrText.{addr_text}
use Rattle.hist_store.specs.TextOfLines.{joined}
use Rattle.hist_store.specs.PortTexts.{port_text}
use Rattle.checkpoint.specs.StateLines.{text_in_vlan, two_text}
use Rattle.checkpoint.proofs.Lines.{joined_more}
use Rattle.checkpoint.proofs.part.put_claim.Goals as goal

-- a line with two more fields
two_more : (first : List ℕ) (fields : List (List ℕ)) (field last : List ℕ) → joined (first ∷ fields) ++ space ∷ field ++ space ∷ last ≡ joined (first ∷ fields ++ field ∷ [] ++ last ∷ [])
two_more first fields field last =
    ap (λ (l : List ℕ). l ++ space ∷ last) (joined_more first fields field) ∙ joined_more first (fields ++ field ∷ []) last

pub returns-in-Tentative : goal.returns-in-Tentative
returns-in-Tentative c =
    let key : List ℕ = text_in_vlan (addr_text c.args.address) c.args.vlan in
    let w = c.in-Tentative in
    rw w.is (c.put_two.ensures.text ∙ ap (λ (l : List ℕ). l ++ space ∷ two_text w.two) (c.put_number.ensures.text ∙ ap (λ (l : List ℕ). l ++ space ∷ decimal w.since) c.put_claimed.ensures.text)
    ∙ two_more (codes "fcfs") (key ∷ codes "tentative" ∷ port_text w.p ∷ []) (decimal w.since) (two_text w.two))

pub returns-in-TestLt : goal.returns-in-TestLt
returns-in-TestLt c =
    let key : List ℕ = text_in_vlan (addr_text c.args.address) c.args.vlan in
    let w = c.in-TestLt in
    rw w.is (c.put_two-in-TestLt.ensures.text ∙ ap (λ (l : List ℕ). l ++ space ∷ two_text w.two) (c.put_number-in-TestLt.ensures.text ∙ ap (λ (l : List ℕ). l ++ space ∷ decimal w.since) c.put_claimed-in-TestLt.ensures.text)
    ∙ two_more (codes "fcfs") (key ∷ codes "testing-lt" ∷ port_text w.p ∷ []) (decimal w.since) (two_text w.two))

pub returns-in-TestVp : goal.returns-in-TestVp
returns-in-TestVp c =
    let key : List ℕ = text_in_vlan (addr_text c.args.address) c.args.vlan in
    let w = c.in-TestVp in
    rw w.is (c.put_two-in-TestVp.ensures.text ∙ ap (λ (l : List ℕ). l ++ space ∷ two_text w.two) (c.put_number-in-TestVp.ensures.text ∙ ap (λ (l : List ℕ). l ++ space ∷ decimal w.since) (c.put_port_field.ensures.text ∙ ap (λ (l : List ℕ). l ++ space ∷ port_text w.q) c.put_claimed-in-TestVp.ensures.text ∙ joined_more (codes "fcfs") (key ∷ codes "testing-vp" ∷ port_text w.p ∷ []) (port_text w.q)))
    ∙ two_more (codes "fcfs") (key ∷ codes "testing-vp" ∷ port_text w.p ∷ port_text w.q ∷ []) (decimal w.since) (two_text w.two))
