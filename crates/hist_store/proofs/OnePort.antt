-- A port is told by its number, and so by its text; a pass by its text.
use Rattle.std.proofs.Common.{◌≡◌, ◌≢◌, ◌==◌, false, List, ◌∷◌, refl, ℕ, ◌≤◌, ap, ◌∙◌, subst, arith}
use Rattle.std.proofs.lemmas.Bool.Decides.{nat_tests}
use Rattle.std.proofs.lemmas.Fmt.{decimal_injective}
use Rattle.std.proofs.Math.Bridge.{le_prop}
use Rattle.savi_kinds.specs.declared.port.Port.{Port}
use Rattle.savi_kinds.specs.Ports.{number_of}
use Rattle.savi_kinds.specs.declared.entry.Who.{Who}
use Rattle.savi_kinds.specs.declared.entry.Who.TheVariants.{Ingress, Control, Ticker, Egress}
use Rattle.hist_store.specs.PortTexts.{port_text}
use Rattle.hist_store.specs.EndTexts.{who_text}

abbrev pub the_port : (n : ℕ) → 1 ≤ n → n ≤ 16 → Port
the_port n low high = record { number = n; low = low; high = high }

one_bound : (a b : ℕ) (p q : a ≤ b) → p ≡ q
one_bound a b p q = le_prop p q

the_port_same : (n m : ℕ) → n ≡ m → (low : 1 ≤ n) (high : n ≤ 16) (low' : 1 ≤ m) (high' : m ≤ 16) → the_port n low high ≡ the_port m low' high'
the_port_same n m same low high =
    subst (λ (k : ℕ). (low' : 1 ≤ k) (high' : k ≤ 16) → the_port n low high ≡ the_port k low' high') same
    (λ low' high'. ap (λ (l : 1 ≤ n). the_port n l high) (one_bound 1 n low low') ∙ ap (λ (h : n ≤ 16). the_port n low' h) (one_bound n 16 high high'))

pub port_same : (p q : Port) → number_of p ≡ number_of q → p ≡ q
port_same p q same = the_port_same p.number q.number same p.low p.high q.low q.high

pub port_by_text : (p q : Port) → port_text p ≡ port_text q → p ≡ q
port_by_text p q same =
    let first : p.number ≤ 16 = p.high in
    let second : q.number ≤ 16 = q.high in
    port_same p q (decimal_injective p.number q.number (omega arith) (omega arith) same)

-- texts that begin with different octets
pub first_apart : {x y : ℕ} {s t : List ℕ} → x ∷ s ≡ y ∷ t → (x == y) ≡ false → ⊥
first_apart {x} {y} e other = let same : x ≡ y = cc in let apart : x ≢ y = grind (arith, nat_tests) in apart same

pub who_by_text : (a b : Who) → who_text a ≡ who_text b → a ≡ b
who_by_text (Ingress p) (Ingress q) e = let text : port_text p ≡ port_text q = cc in ap Ingress (port_by_text p q text)
who_by_text (Egress p) (Egress q) e = let text : port_text p ≡ port_text q = cc in ap Egress (port_by_text p q text)
who_by_text Control Control e = refl
who_by_text Ticker Ticker e = refl
who_by_text a b e = absurd (first_apart e refl)
