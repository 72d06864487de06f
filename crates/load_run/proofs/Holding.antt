-- One capture after another is held at its port.
use Rattle.std.proofs.Common.{◌≡◌, ℕ, ◌+◌, ◌<◌, List, [], ◌∷◌, ◌++◌, length, map, take, get_or, Vec, Global, refl, sym, ap, ◌∙◌, arith, All, length-append}
use Rattle.std.proofs.lemmas.List.{map-append, get_or-map, length-map, take_more}
use Rattle.std.proofs.lemmas.List.Elements.{All-push}
use Rattle.savi_kinds.specs.declared.plan.PortPlan.{PortPlan}
use Rattle.savi_kinds.specs.declared.port.Port.{Port}
use Rattle.port_worker.specs.Replays.{ports_held}
use Rattle.load_run.specs.LoadEnds.{LoadEnds, IsFresh, octets_left}

abbrev pub numbers : List PortPlan → List Port
numbers ports = map (λ p. p.number) ports

abbrev pub items_of : Vec ℕ Global → List ℕ
items_of v = v.items

-- these captures are held at the first ports
pub record AreHeld (ports : List PortPlan) (captures : List (Vec ℕ Global)) (held : List LoadEnds) : Type 0 where
  pub ports_same : ports_held held ≡ take (length captures) (numbers ports)
  pub octets : map octets_left held ≡ map items_of captures
  pub fresh : All IsFresh held

pub as_many : (ports : List PortPlan) (captures : List (Vec ℕ Global)) (held : List LoadEnds) → AreHeld ports captures held → length held ≡ length captures
as_many ports captures held are = sym (length-map held octets_left) ∙ ap length are.octets ∙ length-map captures items_of

pub none_held : (ports : List PortPlan) (held : List LoadEnds) → held ≡ [] → AreHeld ports [] held
none_held ports held none = rw none (record { ports_same = refl; octets = refl; fresh = λ k d inside. absurd (omega arith) })

pub one_more_held : (ports : List PortPlan) (captures : List (Vec ℕ Global)) (held held' : List LoadEnds) (capture : Vec ℕ Global) (port : PortPlan) (n : ℕ) (p : LoadEnds)
    → AreHeld ports captures held → n ≡ length held → n < length ports → port ≡ get_or ports n port → p.port ≡ port.number → octets_left p ≡ capture.items → IsFresh p → held' ≡ held ++ p ∷ []
    → AreHeld ports (captures ++ capture ∷ []) held'
one_more_held ports captures held held' capture port n p are number inside here at octets fresh pushed =
    let place : length captures ≡ n = sym (number ∙ as_many ports captures held are) in
    let within : n < length (numbers ports) = omega (arith, inside, length-map ports (λ (q : PortPlan). q.number)) in
    let there : port.number ≡ get_or (numbers ports) n port.number =
    ap (λ (q : PortPlan). q.number) here ∙ sym (get_or-map (λ (q : PortPlan). q.number) ports n port port.number inside) in
    let more : length (captures ++ capture ∷ []) ≡ n + 1 = length-append captures (capture ∷ []) ∙ ap (λ (k : ℕ). k + 1) place in
    rw pushed (record {
      ports_same =
          map-append (λ (q : LoadEnds). q.port) held (p ∷ [])
          ∙ ap (λ (l : List Port). l ++ p.port ∷ []) (are.ports_same ∙ ap (λ (k : ℕ). take k (numbers ports)) place)
          ∙ ap (λ (q : Port). take n (numbers ports) ++ q ∷ []) (at ∙ there)
          ∙ sym (take_more (numbers ports) n port.number within)
          ∙ ap (λ (k : ℕ). take k (numbers ports)) (sym more);
      octets =
          map-append octets_left held (p ∷ [])
          ∙ ap (λ (l : List (List ℕ)). l ++ octets_left p ∷ []) are.octets
          ∙ ap (λ (o : List ℕ). map items_of captures ++ o ∷ []) octets
          ∙ sym (map-append items_of captures (capture ∷ []));
      fresh = All-push IsFresh held p are.fresh fresh;
    })
