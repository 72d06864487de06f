-- From the calls of a run to what was done with the ends.
use Rattle.std.proofs.Common.{◌≡◌, ℕ, ◌<◌, List, ◌∷◌, true, false, length, take, get_or, refl, sym, ap, ◌∙◌, subst, arith, Option, Some, None, IfSome, IfNone, is_some}
use Rattle.std.proofs.lemmas.List.{length-map, length-append, take-append-le, take_all}
use Rattle.std.specs.Prelude.{All, OnSome}
use Rattle.std.specs.List.Sorted.{IsStrictlyIncreasing}
use Rattle.savi_kinds.specs.declared.plan.PortPlan.{PortPlan}
use Rattle.savi_kinds.specs.declared.port.Port.{Port}
use Rattle.savi_kinds.specs.Ports.{number_of}
use Rattle.savi_kinds.specs.ValidPlan.{numbers_of}
use Rattle.savi_ends.specs.declared.world.Ends.{Ends}
use Rattle.savi_ends.specs.Places.{Place, PortKey, ControlKey, OthersStay, IsPortOut, IsPortKept, IsControlOut, IsControlKept}
use Rattle.port_worker.specs.declared.control_ends.ControlEnds.{ControlEnds}
use Rattle.port_worker.specs.declared.port_ends.PortEnds.{PortEnds}
use Rattle.port_worker.specs.Pairs.{EachPair}
use Rattle.port_worker.specs.Replays.{ports_held}
use Rattle.switch_ports.specs.Named.{control_key, key_among, named_by}
use Rattle.switch_ports.proofs.Named.{key_number}
use Rattle.switch_ports.specs.Openings.{ports_of, HaveOwnNumbers, IsControlOpened, IsNextBehind, IsOff, IsOpened}
use Rattle.switch_ports.proofs.Rising.{apart_from}
use Rattle.port_worker.specs.Served.{IsSamePort}
use Rattle.switch_run.proofs.Through.{Handled, HandledControl, HandledOne}

pub same_number : {S K C : Type 0} (held back : List (PortEnds S K C)) (k : ℕ) (d : PortEnds S K C) → EachPair IsSamePort held back → k < length held → number_of (get_or back k d).port ≡ number_of (get_or held k d).port
same_number held back k d pairs inside = ap number_of (pairs.each k d inside)

pub same_ports : {S K C : Type 0} (held : List (PortEnds S K C)) → EachPair IsSamePort held held
same_ports held = record { size = refl; each = λ k d inside. refl }

-- ports that were opened, all or the first of them, are apart
pub apart_all : {S K C : Type 0} (held : List (PortEnds S K C)) (plans : List PortPlan) → IsStrictlyIncreasing (numbers_of plans) → ports_held held ≡ ports_of plans → HaveOwnNumbers held
apart_all held plans rising ports =
    let sizes = length-map plans (λ (p : PortPlan). p.number) in
    apart_from held plans (length plans) rising (omega arith) (ports ∙ sym (take_all (length plans) (ports_of plans) (omega (arith, sizes))))

pub apart_first : {S K C : Type 0} (held : List (PortEnds S K C)) (plans : List PortPlan) (port : Port) → IsStrictlyIncreasing (numbers_of plans) → IsNextBehind port (ports_held held) (ports_of plans) → HaveOwnNumbers held
apart_first {S} {K} {C} held plans port rising (later, all) =
    let first = length-map held (λ (p : PortEnds S K C). p.port) in
    let second = length-map plans (λ (p : PortPlan). p.number) in
    let sizes = ap length all in
    let more = length-append (ports_held held) (port ∷ later) in
    let front : take (length held) (ports_of plans) ≡ ports_held held =
    ap (λ (l : List Port). take (length held) l) all ∙ take-append-le (length held) (ports_held held) (port ∷ later) (omega (arith, first)) ∙ take_all (length held) (ports_held held) (omega (arith, first)) in
    apart_from held plans (length held) rising (omega (arith, first, second, sizes, more)) (sym front)

pub apart_back : {S K C : Type 0} (held back : List (PortEnds S K C)) → EachPair IsSamePort held back → HaveOwnNumbers held → HaveOwnNumbers back
apart_back held back pairs apart = λ i j d below inside same.
    let size = pairs.size in
    apart i j d below (omega (arith, size, inside)) (sym (same_number held back i d pairs (omega (arith, size, below, inside))) ∙ same ∙ same_number held back j d pairs (omega (arith, size, inside)))

-- what was opened by plans was so by the same plans
pub opened_as : {S K C : Type 0} (IsFresh : Ends S K C → Type 0) (plans plans' : List PortPlan) (held : List (PortEnds S K C)) (p0 p1 : PortKey → Place (Ends S K C)) → plans ≡ plans'
    → All (λ p. IsOpened IsFresh (named_by plans p0 (number_of p.port)) (named_by plans p1 (number_of p.port)) p.ends) held → All (λ p. IsOpened IsFresh (named_by plans' p0 (number_of p.port)) (named_by plans' p1 (number_of p.port)) p.ends) held
opened_as IsFresh plans plans' held p0 p1 same opened = subst (λ (l : List PortPlan). All (λ p. IsOpened IsFresh (named_by l p0 (number_of p.port)) (named_by l p1 (number_of p.port)) p.ends) held) same opened

-- what is held is handed out
pub out_back : {S K C : Type 0} (IsFresh : Ends S K C → Type 0) (plans : List PortPlan) (held back : List (PortEnds S K C)) (p0 p1 p2 : PortKey → Place (Ends S K C))
    → All (λ p. IsOpened IsFresh (named_by plans p0 (number_of p.port)) (named_by plans p1 (number_of p.port)) p.ends) held → EachPair IsSamePort held back → p2 ≡ p1
    → All (λ p. IsPortOut p2 (number_of p.port)) back
out_back {S} {K} {C} IsFresh plans held back p0 p1 p2 opened pairs same = λ k d inside.
    let size = pairs.size in
    let n = number_of (get_or held k d).port in
    subst (λ (m : ℕ). IsPortOut p2 m) (sym (same_number held back k d pairs (omega (arith, size, inside))))
    (key_among plans n, key_number plans n, ap (λ (p : PortKey → Place (Ends S K C)). (p (key_among plans n)).is_out) same ∙ (opened k d (omega (arith, size, inside))).out)

off_back : {S K C : Type 0} (held back : List (PortEnds S K C)) (n : ℕ) → EachPair IsSamePort held back → IsOff held n → IsOff back n
off_back held back n pairs off = λ k d inside same.
    let size = pairs.size in
    off k d (omega (arith, size, inside)) (sym (same_number held back k d pairs (omega (arith, size, inside))) ∙ same)

-- the ports that aren't held stay
pub others_by : {S K C : Type 0} (held back : List (PortEnds S K C)) (p0 p1 p2 p3 p4 : PortKey → Place (Ends S K C)) → ((key : PortKey) → IsOff held key.number → p1 key ≡ p0 key) → p2 ≡ p1
    → EachPair IsSamePort held back → ((key : PortKey) → IsOff back key.number → p3 key ≡ p2 key) → p4 ≡ p3 → (key : PortKey) → IsOff held key.number → p4 key ≡ p0 key
others_by {S} {K} {C} held back p0 p1 p2 p3 p4 off1 same12 pairs off3 same34 key off =
    ap (λ (p : PortKey → Place (Ends S K C)). p key) same34 ∙ off3 key (off_back held back key.number pairs off) ∙ ap (λ (p : PortKey → Place (Ends S K C)). p key) same12 ∙ off1 key off

pub handled_by : {S K C : Type 0} (IsFresh : Ends S K C → Type 0) (plans : List PortPlan) (held back : List (PortEnds S K C)) (p0 p1 p2 p3 p4 : PortKey → Place (Ends S K C))
    → All (λ p. IsOpened IsFresh (named_by plans p0 (number_of p.port)) (named_by plans p1 (number_of p.port)) p.ends) held → ((key : PortKey) → IsOff held key.number → p1 key ≡ p0 key) → p2 ≡ p1
    → EachPair IsSamePort held back → All (λ p. IsPortKept p2 p3 (number_of p.port) p.ends) back → ((key : PortKey) → IsOff back key.number → p3 key ≡ p2 key) → p4 ≡ p3
    → Handled held back (named_by plans p0) (named_by plans p4)
handled_by {S} {K} {C} IsFresh plans held back p0 p1 p2 p3 p4 opened off1 same12 pairs kept off3 same34 = record {
  size = pairs.size;
  same = λ k d inside. same_number held back k d pairs inside;
  told = λ k d inside. (opened k d inside).told;
  kept = λ k d inside.
      let size = pairs.size in
      let n = number_of (get_or back k d).port in
      let key = key_among plans n in
      let was : (p1 key).is_out ≡ true = subst (λ (m : ℕ). (named_by plans p1 m).is_out ≡ true) (sym (same_number held back k d pairs (omega (arith, size, inside)))) (opened k d (omega (arith, size, inside))).out in
      ap (λ (p : PortKey → Place (Ends S K C)). (p key).stands) same34
      ∙ kept k d inside key (key_number plans n) (ap (λ (p : PortKey → Place (Ends S K C)). (p key).is_out) same12 ∙ was);
  others = λ n off. others_by held back p0 p1 p2 p3 p4 off1 same12 pairs off3 same34 (key_among plans n) (subst (λ (m : ℕ). IsOff held m) (sym (key_number plans n)) off);
}

pub handled_one : {K : Type 0} (n2 n4 name : List ℕ) (sink sink' : K) (o0 o1 o2 o3 o4 o5 : List ℕ → Place K) → n2 ≡ name → n4 ≡ name → o1 ≡ o0 → IfSome (o1 n2).stands (λ t. sink ≡ t) → OthersStay o1 o2 n2 → o3 ≡ o2
    → (o4 n4).stands ≡ Some sink' → OthersStay o3 o4 n4 → o5 ≡ o4 → HandledOne name sink sink' o0 o5
handled_one {K} n2 n4 name sink sink' o0 o1 o2 o3 o4 o5 is2 is4 same01 told others2 same23 kept others4 same45 =
    let told' : IfSome (o1 name).stands (λ t. sink ≡ t) = subst (λ (n : List ℕ). IfSome (o1 n).stands (λ t. sink ≡ t)) is2 told in
    let others2' : OthersStay o1 o2 name = subst (λ (n : List ℕ). OthersStay o1 o2 n) is2 others2 in
    let kept' : (o4 name).stands ≡ Some sink' = subst (λ (n : List ℕ). (o4 n).stands ≡ Some sink') is4 kept in
    let others4' : OthersStay o3 o4 name = subst (λ (n : List ℕ). OthersStay o3 o4 n) is4 others4 in
    record {
      told = subst (λ (o : List ℕ → Place K). IfSome (o name).stands (λ t. sink ≡ t)) same01 told';
      kept = ap (λ (o : List ℕ → Place K). (o name).stands) same45 ∙ kept';
      others = λ other apart. ap (λ (o : List ℕ → Place K). o other) same45 ∙ others4' other apart ∙ ap (λ (o : List ℕ → Place K). o other) same23 ∙ others2' other apart ∙ ap (λ (o : List ℕ → Place K). o other) same01;
    }

-- the ends of control that are held are handed out
pub control_out : {S K C : Type 0} (IsFresh : Ends S K C → Type 0) (names : Option (List ℕ × List ℕ)) (held back : Option (ControlEnds S K C)) (p0 p1 p2 : ControlKey → Place (Ends S K C))
    → IsControlOpened IsFresh names p0 p1 held → is_some back ≡ is_some held → p2 ≡ p1 → OnSome back (IsControlOut p2)
control_out IsFresh None None None p0 p1 p2 opened same stays = tt
control_out IsFresh None None (Some back) p0 p1 p2 opened same stays = let t : true ≡ false = same in cc
control_out IsFresh None (Some held) back p0 p1 p2 opened same stays = absurd opened
control_out IsFresh (Some names) None back p0 p1 p2 opened same stays = absurd opened
control_out IsFresh (Some names) (Some held) None p0 p1 p2 opened same stays = tt
control_out {S} {K} {C} IsFresh (Some names) (Some held) (Some back) p0 p1 p2 opened same stays =
    (control_key false names, ap (λ (p : ControlKey → Place (Ends S K C)). (p (control_key false names)).is_out) stays ∙ opened.out)

-- the place of control before the ports were opened, behind control's opening, and before and behind the keeping of its ends
pub control_by : {S K C : Type 0} (IsFresh : Ends S K C → Type 0) (names : Option (List ℕ × List ℕ)) (held back : Option (ControlEnds S K C)) (p0 p1 p2 p3 p4 p5 : ControlKey → Place (Ends S K C))
    → p1 ≡ p0 → IsControlOpened IsFresh names p1 p2 held → is_some back ≡ is_some held → p3 ≡ p2 → IfSome back (λ c. IsControlKept p3 p4 c.ends) → IfNone back (p4 ≡ p3) → p5 ≡ p4 → HandledControl names held back p0 p5
control_by IsFresh None None None p0 p1 p2 p3 p4 p5 same01 opened same same23 kept none same45 = same45 ∙ none ∙ same23 ∙ opened ∙ same01
control_by IsFresh None None (Some back) p0 p1 p2 p3 p4 p5 same01 opened same same23 kept none same45 = let t : true ≡ false = same in cc
control_by IsFresh None (Some held) back p0 p1 p2 p3 p4 p5 same01 opened same same23 kept none same45 = absurd opened
control_by IsFresh (Some names) None back p0 p1 p2 p3 p4 p5 same01 opened same same23 kept none same45 = absurd opened
control_by IsFresh (Some names) (Some held) None p0 p1 p2 p3 p4 p5 same01 opened same same23 kept none same45 = let t : false ≡ true = same in cc
control_by {S} {K} {C} IsFresh (Some names) (Some held) (Some back) p0 p1 p2 p3 p4 p5 same01 opened same same23 kept none same45 = record {
  told = subst (λ (p : ControlKey → Place (Ends S K C)). IfSome (p (control_key false names)).stands (λ t. held.ends ≡ t)) same01 opened.told;
  kept = ap (λ (p : ControlKey → Place (Ends S K C)). (p (control_key false names)).stands) same45
      ∙ kept (control_key false names) (ap (λ (p : ControlKey → Place (Ends S K C)). (p (control_key false names)).is_out) same23 ∙ opened.out);
}
