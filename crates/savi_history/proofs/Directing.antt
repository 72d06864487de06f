-- Where frames go, by the stations that are known.
use Rattle.std.proofs.Common.{◌≡◌, ◌≢◌, ℕ, ◌-◌, ◌≤◌, ◌==◌, ◌&&◌, ◌||◌, not, if◌then◌else◌, Bool, true, false, List, [], ◌∷◌, All, Option, Some, None, refl, sym, ap, ◌∙◌, subst, inl, inr}
use Rattle.std.specs.List.{filter, list_any}
use Rattle.std.proofs.lemmas.Nat.Bits.{bit_at-zero}
use Rattle.std.proofs.lemmas.Bool.{eq-eqb, ne_eqb, eqb-true, and_from, and_parts, or_cases, false≢true}
use Rattle.std.proofs.lemmas.List.Elements.{All-nil, All-cons, All-head, All-tail}
use Rattle.savi_kinds.specs.declared.plan.Plan.{Plan}
use Rattle.savi_kinds.specs.declared.plan.PortPlan.{PortPlan}
use Rattle.savi_kinds.specs.declared.port.Port.{Port}
use Rattle.savi_kinds.specs.declared.port.PortSet.{PortSet}
use Rattle.savi_kinds.specs.declared.verdict.Scope.{Scope}
use Rattle.savi_kinds.specs.declared.verdict.Scope.TheVariants as scopes
use Rattle.savi_kinds.specs.declared.verdict.Verdict.{Verdict}
use Rattle.savi_kinds.specs.declared.verdict.Verdict.TheVariants.{Pass, Drop}
use Rattle.savi_kinds.specs.Ports.{number_of}
use Rattle.savi_kinds.specs.PortSets.{is_member, no_ports, set_of}
use Rattle.savi_kinds.specs.ValidPlan.{numbers_of}
use Rattle.savi_kinds.specs.Vlans.{is_member_of}
use Rattle.savi_kinds.proofs.Members.{is_member-with}
use Rattle.hist_store.specs.Rows.{Row}
use Rattle.checkpoint.specs.Bases.{Base}
use Rattle.savi_history.specs.Moments.{moment_at}
use Rattle.savi_history.specs.Vlans.{vlan_of_frame, has_member}
use Rattle.savi_history.specs.Passes.{has_port}
use Rattle.savi_history.specs.ShutPorts.{is_shut}
use Rattle.savi_history.specs.Stations.{known_port}
use Rattle.savi_history.specs.StationLaws.{IsDirected, IsDirectedIn, IsDirectedBy, AreDirected}
use Rattle.savi_history.specs.Outs.{is_in_scope, others_in, directed, outs_by, outs}
use Rattle.savi_history.specs.Events as events
use Rattle.savi_history.specs.Events.{Event, frame_row, verdict_of, row_of}
use Rattle.savi_history.specs.Legal.{IsLegal}

pub none_in : (n : ℕ) → is_member no_ports n ≡ false
none_in n = rw (bit_at-zero (n - 1)) refl

-- each number is that of a port
abbrev pub AreNumbers : List ℕ → Type 0
AreNumbers ns = All (λ m. 1 ≤ m) ns

pub and-false : (b : Bool) → (b && false) ≡ false
and-false true = refl
and-false false = refl

or-true : (b : Bool) → (b || true) ≡ true
or-true true = refl
or-true false = refl

if_member : (b : Bool) (m : ℕ) (rest : List ℕ) (n : ℕ) → 1 ≤ m → 1 ≤ n → is_member (set_of (if b then m ∷ rest else rest)) n ≡ ((b && (n == m)) || is_member (set_of rest) n)
if_member true m rest n low least = is_member-with (set_of rest) m n low least
if_member false m rest n low least = refl

filtered_at : (g e r f : Bool) → (e ≡ true → g ≡ f) → ((g && e) || (r && f)) ≡ ((e || r) && f)
filtered_at true true r f same = rw (sym (same refl)) refl
filtered_at false true r f same = rw (sym (same refl)) (and_false r)
  where
    and_false : (b : Bool) → (b && false) ≡ false
    and_false true = refl
    and_false false = refl
filtered_at true false r f same = refl
filtered_at false false r f same = refl

-- a member of the set of those numbers that pass a test
pub member_filter : (f : ℕ → Bool) (ns : List ℕ) (n : ℕ) → AreNumbers ns → 1 ≤ n → is_member (set_of (filter f ns)) n ≡ (is_member (set_of ns) n && f n)
member_filter f [] n low least = rw (none_in n) refl
member_filter f (m ∷ ns) n low least =
    let first : 1 ≤ m = All-head (λ k. 1 ≤ k) m ns low in
    if_member (f m) m (filter f ns) n first least
    ∙ ap (λ (b : Bool). (f m && (n == m)) || b) (member_filter f ns n (All-tail (λ k. 1 ≤ k) m ns low) least)
    ∙ filtered_at (f m) (n == m) (is_member (set_of ns) n) (f n) (λ same. ap f (sym (eqb-true n m same)))
    ∙ ap (λ (b : Bool). b && f n) (sym (is_member-with (set_of ns) m n first least))

-- the numbers of ports that pass a test
numbers_at : (b : Bool) (q : PortPlan) (rest : List PortPlan) → AreNumbers (numbers_of rest) → AreNumbers (numbers_of (if b then q ∷ rest else rest))
numbers_at true q rest low = All-cons (λ m. 1 ≤ m) (number_of q.number) (numbers_of rest) q.number.low low
numbers_at false q rest low = low

pub are_numbers : (test : PortPlan → Bool) (ports : List PortPlan) → AreNumbers (numbers_of (filter test ports))
are_numbers test [] = All-nil (λ m. 1 ≤ m)
are_numbers test (q ∷ ports) = numbers_at (test q) q (filter test ports) (are_numbers test ports)

pub all_numbers : (ports : List PortPlan) → AreNumbers (numbers_of ports)
all_numbers [] = All-nil (λ m. 1 ≤ m)
all_numbers (q ∷ ports) = All-cons (λ m. 1 ≤ m) (number_of q.number) (numbers_of ports) q.number.low (all_numbers ports)

-- the ports of a plan are members of the set of all
pub known_member : (ports : List PortPlan) (n : ℕ) → 1 ≤ n → list_any (λ m. m == n) (numbers_of ports) ≡ true → is_member (set_of (numbers_of ports)) n ≡ true
known_member [] n least known = absurd (false≢true known)
known_member (q ∷ ports) n least known =
    is_member-with (set_of (numbers_of ports)) (number_of q.number) n q.number.low least
    ∙ elim (or_cases (number_of q.number == n) (list_any (λ m. m == n) (numbers_of ports)) known) [
      | inl here ↦ ap (λ (b : Bool). b || is_member (set_of (numbers_of ports)) n) (eq-eqb n (number_of q.number) (sym (eqb-true (number_of q.number) n here)))
      | inr later ↦ ap (λ (b : Bool). (n == number_of q.number) || b) (known_member ports n least later) ∙ or-true (n == number_of q.number)
    ]

-- a member of a VLAN is of a port whose numbers are these
pub member_known : (vlan : ℕ) (ports : List PortPlan) (n : ℕ) → list_any (λ p. (number_of p.number == n) && is_member_of vlan p) ports ≡ true → list_any (λ m. m == n) (numbers_of ports) ≡ true
member_known vlan [] n there = absurd (false≢true there)
member_known vlan (q ∷ ports) n there =
    elim (or_cases ((number_of q.number == n) && is_member_of vlan q) (list_any (λ p. (number_of p.number == n) && is_member_of vlan p) ports) there) [
      | inl here ↦ ap (λ (b : Bool). b || list_any (λ m. m == n) (numbers_of ports)) (and_parts (number_of q.number == n) (is_member_of vlan q) here).0
      | inr later ↦ ap (λ (b : Bool). (number_of q.number == n) || b) (member_known vlan ports n later) ∙ or-true (number_of q.number == n)
    ]

-- a port is none of the others
abbrev is_other : ℕ → Scope → ℕ → PortPlan → Bool
is_other vlan scope port q = is_member_of vlan q && (is_in_scope scope q && not (number_of q.number == port))

if_port : (b : Bool) (q : PortPlan) (rest : List PortPlan) (n : ℕ) → 1 ≤ n → is_member (set_of (numbers_of (if b then q ∷ rest else rest))) n ≡ ((b && (n == number_of q.number)) || is_member (set_of (numbers_of rest)) n)
if_port true q rest n least = is_member-with (set_of (numbers_of rest)) (number_of q.number) n q.number.low least
if_port false q rest n least = refl

off_at : (m s e x r : Bool) → (x ≡ true → e ≡ true) → r ≡ false → (((m && (s && not e)) && x) || r) ≡ false
off_at true true true x r same none = none
off_at true true false true r same none = absurd (false≢true (same refl))
off_at true true false false r same none = none
off_at true false e x r same none = none
off_at false s e x r same none = none

pub others_without : (vlan : ℕ) (scope : Scope) (port : ℕ) (ports : List PortPlan) → 1 ≤ port → is_member (set_of (numbers_of (filter (is_other vlan scope port) ports))) port ≡ false
others_without vlan scope port [] least = none_in port
others_without vlan scope port (q ∷ ports) least =
    if_port (is_other vlan scope port q) q (filter (is_other vlan scope port) ports) port least
    ∙ off_at (is_member_of vlan q) (is_in_scope scope q) (number_of q.number == port) (port == number_of q.number) (is_member (set_of (numbers_of (filter (is_other vlan scope port) ports))) port)
    (λ same. eq-eqb (number_of q.number) port (sym (eqb-true port (number_of q.number) same))) (others_without vlan scope port ports least)

-- all of them are members
pub others_inside : (vlan : ℕ) (scope : Scope) (port : ℕ) (ports : List PortPlan) (n : ℕ) → 1 ≤ n → is_member (set_of (numbers_of (filter (is_other vlan scope port) ports))) n ≡ true → list_any (λ p. (number_of p.number == n) && is_member_of vlan p) ports ≡ true
others_inside vlan scope port [] n least there = absurd (false≢true (sym (none_in n) ∙ there))
others_inside vlan scope port (q ∷ ports) n least there =
    elim (or_cases (is_other vlan scope port q && (n == number_of q.number)) (is_member (set_of (numbers_of (filter (is_other vlan scope port) ports))) n) (sym (if_port (is_other vlan scope port q) q (filter (is_other vlan scope port) ports) n least) ∙ there)) [
      | inl here ↦
          let both = and_parts (is_other vlan scope port q) (n == number_of q.number) here in
          let member = and_parts (is_member_of vlan q) (is_in_scope scope q && not (number_of q.number == port)) both.0 in
          ap (λ (b : Bool). b || list_any (λ p. (number_of p.number == n) && is_member_of vlan p) ports)
          (and_from (number_of q.number == n) (is_member_of vlan q) (eq-eqb (number_of q.number) n (sym (eqb-true n (number_of q.number) both.1))) member.0)
      | inr later ↦
          ap (λ (b : Bool). ((number_of q.number == n) && is_member_of vlan q) || b) (others_inside vlan scope port ports n least later)
          ∙ or-true ((number_of q.number == n) && is_member_of vlan q)
    ]

-- every other member is one of them
on_at : (m e x r : Bool) → m ≡ true → e ≡ false → x ≡ true → (((m && (true && not e)) && x) || r) ≡ true
on_at m e x r member other same = rw (member, other, same) refl

late_at : (b x r : Bool) → r ≡ true → ((b && x) || r) ≡ true
late_at true true r later = refl
late_at true false r later = later
late_at false x r later = later

pub others_have : (vlan place port : ℕ) (ports : List PortPlan) → 1 ≤ place → place ≢ port → list_any (λ p. (number_of p.number == place) && is_member_of vlan p) ports ≡ true → is_member (set_of (numbers_of (filter (is_other vlan scopes.All port) ports))) place ≡ true
others_have vlan place port [] least apart known = absurd (false≢true known)
others_have vlan place port (q ∷ ports) least apart known =
    if_port (is_other vlan scopes.All port q) q (filter (is_other vlan scopes.All port) ports) place least
    ∙ elim (or_cases ((number_of q.number == place) && is_member_of vlan q) (list_any (λ p. (number_of p.number == place) && is_member_of vlan p) ports) known) [
      | inl here ↦
          let both = and_parts (number_of q.number == place) (is_member_of vlan q) here in
          let same : number_of q.number ≡ place = eqb-true (number_of q.number) place both.0 in
          on_at (is_member_of vlan q) (number_of q.number == port) (place == number_of q.number) (is_member (set_of (numbers_of (filter (is_other vlan scopes.All port) ports))) place)
          both.1 (ne_eqb (number_of q.number) port (λ is. apart (sym same ∙ is))) (eq-eqb place (number_of q.number) (sym same))
      | inr later ↦
          late_at (is_other vlan scopes.All port q) (place == number_of q.number) (is_member (set_of (numbers_of (filter (is_other vlan scopes.All port) ports))) place)
          (others_have vlan place port ports least apart later)
    ]

pub others_are_numbers : (vlan : ℕ) (plan : Plan) (scope : Scope) (port : ℕ) → AreNumbers (numbers_of (others_in vlan plan scope port))
others_are_numbers vlan plan scope port = are_numbers (is_other vlan scope port) plan.ports

-- of some numbers, those at which the destination is known

directed_member : (known : Option Port) (ns : List ℕ) (n : ℕ) → AreNumbers ns → 1 ≤ n → is_member (set_of ns) n ≡ false → is_member (set_of (directed known ns)) n ≡ false
directed_member None ns n low least none = none
directed_member (Some place) ns n low least none = member_filter (λ m. m == number_of place) ns n low least ∙ ap (λ (b : Bool). b && (n == number_of place)) none

directed_within : (known : Option Port) (ns : List ℕ) (n : ℕ) → AreNumbers ns → 1 ≤ n → is_member (set_of (directed known ns)) n ≡ true → is_member (set_of ns) n ≡ true
directed_within None ns n low least there = there
directed_within (Some place) ns n low least there = (and_parts (is_member (set_of ns) n) (n == number_of place) (sym (member_filter (λ m. m == number_of place) ns n low least) ∙ there)).0

directed_alone : (known : Option Port) (place : Port) (ns : List ℕ) (n : ℕ) → known ≡ Some place → AreNumbers ns → 1 ≤ n → is_member (set_of (directed known ns)) n ≡ true → n ≡ number_of place
directed_alone known place ns n is low least there =
    let here : is_member (set_of (directed (Some place) ns)) n ≡ true = subst (λ (k : Option Port). is_member (set_of (directed k ns)) n ≡ true) is there in
    eqb-true n (number_of place) (and_parts (is_member (set_of ns) n) (n == number_of place) (sym (member_filter (λ m. m == number_of place) ns n low least) ∙ here)).1

directed_reached : (known : Option Port) (place : Port) (ns : List ℕ) → known ≡ Some place → AreNumbers ns → is_member (set_of ns) (number_of place) ≡ true → is_member (set_of (directed known ns)) (number_of place) ≡ true
directed_reached known place ns is low there =
    subst (λ (k : Option Port). is_member (set_of (directed k ns)) (number_of place) ≡ true) (sym is)
    (member_filter (λ m. m == number_of place) ns (number_of place) low place.low
    ∙ ap (λ (b : Bool). b && (number_of place == number_of place)) there ∙ eq-eqb (number_of place) (number_of place) refl)

module _ (plan : Plan) (base : Base) (past : List Row) (port : Port) (stamp : ℕ) (octets : List ℕ) (vlan : ℕ) where
  abbrev moment : ℕ
  moment = moment_at base past stamp

  abbrev known : Option Port
  known = known_port vlan plan base past moment octets

  abbrev row_by : Verdict → Row
  row_by verdict = frame_row plan base past port stamp octets verdict (outs (Some vlan) plan base past (number_of port) moment octets verdict)

  abbrev others : Scope → List ℕ
  others scope = numbers_of (others_in vlan plan scope (number_of port))

  low : (scope : Scope) → AreNumbers (others scope)
  low scope = others_are_numbers vlan plan scope (number_of port)

  reached_by : (scope : Scope) (place : Port) → known ≡ Some place → Some (Pass scope) ≡ Some (Pass scopes.All) → has_member vlan plan (number_of place) ≡ true → number_of place ≢ number_of port → is_member (set_of (directed known (others scope))) (number_of place) ≡ true
  reached_by scopes.All place is passes inside apart =
      directed_reached known place (others scopes.All) is (low scopes.All) (others_have vlan (number_of place) (number_of port) plan.ports place.low apart inside)
  reached_by scopes.TrustedOnly place is passes inside apart = absurd cc
  reached_by (scopes.TrustedAnd q) place is passes inside apart = absurd cc

  -- the ports to which it goes, shut ones among them
  abbrev everywhere : Verdict → PortSet
  everywhere verdict = outs_by vlan plan (number_of port) known verdict

  -- those that aren't shut
  open_is : (verdict : Verdict) (n : ℕ) → 1 ≤ n → is_member (row_by verdict).entry.outs n ≡ (is_member (set_of (numbers_of plan.ports)) n && (is_member (everywhere verdict) n && not (is_shut plan base n past)))
  open_is verdict n least = member_filter (λ q. is_member (everywhere verdict) q && not (is_shut plan base q past)) (numbers_of plan.ports) n (all_numbers plan.ports) least

  none_open : (verdict : Verdict) (n : ℕ) → 1 ≤ n → is_member (everywhere verdict) n ≡ false → is_member (row_by verdict).entry.outs n ≡ false
  none_open verdict n least none =
      open_is verdict n least ∙ ap (λ (b : Bool). is_member (set_of (numbers_of plan.ports)) n && (b && not (is_shut plan base n past))) none ∙ and-false (is_member (set_of (numbers_of plan.ports)) n)

  was_there : (verdict : Verdict) (n : ℕ) → 1 ≤ n → is_member (row_by verdict).entry.outs n ≡ true → is_member (everywhere verdict) n ≡ true
  was_there verdict n least there =
      (and_parts (is_member (everywhere verdict) n) (not (is_shut plan base n past))
      (and_parts (is_member (set_of (numbers_of plan.ports)) n) (is_member (everywhere verdict) n && not (is_shut plan base n past)) (sym (open_is verdict n least) ∙ there)).1).0

  still_there : (verdict : Verdict) (n : ℕ) → 1 ≤ n → has_port plan n ≡ true → is_shut plan base n past ≡ false → is_member (everywhere verdict) n ≡ true → is_member (row_by verdict).entry.outs n ≡ true
  still_there verdict n least inside unshut there =
      open_is verdict n least
      ∙ ap (λ (b : Bool). b && (is_member (everywhere verdict) n && not (is_shut plan base n past))) (known_member plan.ports n least inside)
      ∙ ap (λ (b : Bool). b && not (is_shut plan base n past)) there
      ∙ ap not unshut

  frame_directed : (verdict : Verdict) → IsDirected plan base past (row_by verdict) port vlan
  frame_directed (Pass scope) = record {
    not_back = none_open (Pass scope) (number_of port) port.low (directed_member known (others scope) (number_of port) (low scope) port.low (others_without vlan scope (number_of port) plan.ports port.low));
    inside = λ n least there. others_inside vlan scope (number_of port) plan.ports n least (directed_within known (others scope) n (low scope) least (was_there (Pass scope) n least there));
    alone = λ place n is least there. directed_alone known place (others scope) n is (low scope) least (was_there (Pass scope) n least there);
    reached = λ place is passes inside unshut apart. still_there (Pass scope) (number_of place) place.low (member_known vlan plan.ports (number_of place) inside) unshut (reached_by scope place is passes inside apart);
  }
  frame_directed (Drop rule) = record {
    not_back = none_open (Drop rule) (number_of port) port.low (none_in (number_of port));
    inside = λ n least there. absurd (false≢true (sym (none_open (Drop rule) n least (none_in n)) ∙ there));
    alone = λ place n is least there. absurd (false≢true (sym (none_open (Drop rule) n least (none_in n)) ∙ there));
    reached = λ place is passes inside unshut apart. absurd cc;
  }

-- without a VLAN it goes nowhere
frame_directed_in : (plan : Plan) (base : Base) (past : List Row) (port : Port) (stamp : ℕ) (octets : List ℕ) (verdict : Verdict) (vlan : Option ℕ)
    → IsDirectedIn plan base past (frame_row plan base past port stamp octets verdict (outs vlan plan base past (number_of port) (moment_at base past stamp) octets verdict)) port vlan
frame_directed_in plan base past port stamp octets verdict (Some vlan) = frame_directed plan base past port stamp octets vlan verdict
frame_directed_in plan base past port stamp octets verdict None = refl

event_directed : (plan : Plan) (base : Base) (past : List Row) (event : Event) → IsDirectedBy plan base past (row_of plan base past event) (row_of plan base past event).entry.act
event_directed plan base past (events.Frame port stamp octets) = frame_directed_in plan base past port stamp octets (verdict_of plan base past port stamp octets) (vlan_of_frame plan (number_of port) octets)
event_directed plan base past (events.Long port stamp len) = tt
event_directed plan base past (events.Command stamp line) = tt
event_directed plan base past (events.Tick stamp) = tt
event_directed plan base past (events.Drain port count) = tt
event_directed plan base past (events.End who how) = tt

pub all_directed : (plan : Plan) (base : Base) (past : List Row) → IsLegal plan base past → AreDirected plan base past
all_directed plan base [] legal = tt
all_directed plan base (r ∷ past) legal =
    (subst (λ (x : Row). IsDirectedBy plan base past x x.entry.act) (sym legal.0.2) (event_directed plan base past legal.0.0), all_directed plan base past legal.1)
