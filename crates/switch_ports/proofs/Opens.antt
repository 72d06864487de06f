-- One port after another is opened.
use Rattle.std.proofs.Common.{suc, add-one, subst, ◌≡◌, ◌≢◌, ℕ, ◌+◌, ◌<◌, List, [], ◌∷◌, ◌++◌, length, get_or, take, drop, refl, ◌∙◌, sym, ap, arith, true}
use Rattle.std.proofs.lemmas.List.{map-append, get_or-map, length-map, take-append-drop, take_more}
use Rattle.std.proofs.Math.Seq.{drop-cons}
use Rattle.std.proofs.lemmas.List.Elements.{All-push}
use Rattle.std.specs.Prelude.{All, IfSome}
use Rattle.std.specs.List.Sorted.{IsStrictlyIncreasing}
use Rattle.savi_kinds.specs.declared.plan.PortPlan.{PortPlan}
use Rattle.savi_kinds.specs.declared.port.Port.{Port}
use Rattle.savi_kinds.specs.Ports.{number_of}
use Rattle.savi_kinds.specs.ValidPlan.{numbers_of}
use Rattle.savi_ends.specs.declared.world.Ends.{Ends}
use Rattle.savi_ends.specs.Places.{Book, Place, PortKey, OtherPortsStay, IsReady, port_key}
use Rattle.port_worker.specs.declared.port_ends.PortEnds.{PortEnds}
use Rattle.port_worker.specs.Replays.{ports_held, IsUnread}
use Rattle.switch_ports.specs.Named.{key_among, named_by}
use Rattle.switch_ports.specs.Openings.{ports_of, IsOff, IsOpened, IsNextBehind, IsReadAnew}
use Rattle.switch_ports.proofs.Named.{key_here, key_number}
use Rattle.switch_ports.proofs.Rising.{All-both, All-front, All-middle, off_next}

-- the ports of the plans below an index are open
pub record OpensSoFar {S K C : Type 0} (IsFresh : Ends S K C → Type 0) (plans : List PortPlan) (index : ℕ) (held : List (PortEnds S K C)) (old new : Book S K C) : Type 0 where
  pub ports : ports_held held ≡ take index (ports_of plans)
  pub opened : All (λ p. IsOpened IsFresh (named_by plans old.ports (number_of p.port)) (named_by plans new.ports (number_of p.port)) p.ends) held
  pub unread : All IsUnread held
  pub readers : All IsReadAnew held
  pub others : (key : PortKey) → IsOff held key.number → new.ports key ≡ old.ports key
  pub still : new.faults ≡ old.faults
  pub rest : new ≡ record old { faults = new.faults; ports = new.ports }

pub opens_none : {S K C : Type 0} (IsFresh : Ends S K C → Type 0) (plans : List PortPlan) (held : List (PortEnds S K C)) (book : Book S K C) → held ≡ [] → OpensSoFar IsFresh plans 0 held book book
opens_none {S} {K} {C} IsFresh plans held book none = rw none (record {
  ports = refl;
  opened = λ k d inside. absurd (omega arith);
  unread = λ k d inside. absurd (omega arith);
  readers = λ k d inside. absurd (omega arith);
  others = λ key off. refl;
  still = refl;
  rest = refl;
})

-- a port that isn't open yet may be opened
pub next_ready : {S K C : Type 0} (IsFresh : Ends S K C → Type 0) (plans : List PortPlan) (i : ℕ) (plan : PortPlan) (held : List (PortEnds S K C)) (old new : Book S K C)
    → IsStrictlyIncreasing (numbers_of plans) → i < length plans → plan ≡ get_or plans i plan → OpensSoFar IsFresh plans i held old new → ((key : PortKey) → IsReady IsFresh (old.ports key)) → IsReady IsFresh (new.ports (port_key plan))
next_ready {S} {K} {C} IsFresh plans i plan held old new rising inside is so_far ready =
    rw (so_far.others (port_key plan) (off_next held plans i plan rising inside is so_far.ports)) (ready (port_key plan))

off_last : {S K C : Type 0} (held : List (PortEnds S K C)) (p : PortEnds S K C) (m n : ℕ) → number_of p.port ≡ n → IsOff (held ++ p ∷ []) m → m ≢ n
off_last {S} {K} {C} held p m n here away same = All-middle (λ (q : PortEnds S K C). number_of q.port ≢ m) held p [] away (here ∙ sym same)

ports_more : {S K C : Type 0} (held : List (PortEnds S K C)) (plans : List PortPlan) (i : ℕ) (plan : PortPlan) (p : PortEnds S K C) → i < length plans → plan ≡ get_or plans i plan → ports_held held ≡ take i (ports_of plans) → p.port ≡ plan.number → ports_held (held ++ p ∷ []) ≡ take (i + 1) (ports_of plans)
ports_more {S} {K} {C} held plans i plan p inside is ports port =
    let size = length-map plans (λ (q : PortPlan). q.number) in
    let here : get_or (ports_of plans) i plan.number ≡ plan.number = get_or-map (λ (q : PortPlan). q.number) plans i plan plan.number inside ∙ sym (ap (λ (q : PortPlan). q.number) is) in
    map-append (λ (q : PortEnds S K C). q.port) held (p ∷ [])
    ∙ ap (λ (l : List Port). l ++ p.port ∷ []) ports
    ∙ ap (λ (x : Port). take i (ports_of plans) ++ x ∷ []) (port ∙ sym here)
    ∙ sym (take_more (ports_of plans) i plan.number (omega arith))

drop_here : (plans : List PortPlan) (i : ℕ) (plan : PortPlan) → i < length plans → plan ≡ get_or plans i plan → drop i (ports_of plans) ≡ plan.number ∷ drop (i + 1) (ports_of plans)
drop_here plans i plan inside is =
    let size = length-map plans (λ (q : PortPlan). q.number) in
    let here : get_or (ports_of plans) i plan.number ≡ plan.number = get_or-map (λ (q : PortPlan). q.number) plans i plan plan.number inside ∙ sym (ap (λ (q : PortPlan). q.number) is) in
    drop-cons (ports_of plans) i plan.number (omega arith)
    ∙ ap (λ (x : Port). x ∷ drop (suc i) (ports_of plans)) here
    ∙ ap (λ (n : ℕ). plan.number ∷ drop n (ports_of plans)) (sym (add-one i))

pub open_step : {S K C : Type 0} (IsFresh : Ends S K C → Type 0) (plans : List PortPlan) (i : ℕ) (plan : PortPlan) (held held' : List (PortEnds S K C)) (p : PortEnds S K C) (old mid new : Book S K C)
    → IsStrictlyIncreasing (numbers_of plans) → i < length plans → plan ≡ get_or plans i plan → OpensSoFar IsFresh plans i held old mid
    → held' ≡ held ++ p ∷ [] → p.port ≡ plan.number → IsUnread p → IsReadAnew p
    → new.faults ≡ mid.faults → (new.ports (port_key plan)).is_out ≡ true → IfSome (mid.ports (port_key plan)).stands (λ t. p.ends ≡ t) → IsFresh p.ends
    → OtherPortsStay mid.ports new.ports (number_of plan.number) → new ≡ record mid { faults = new.faults; ports = new.ports }
    → OpensSoFar IsFresh plans (i + 1) held' old new
open_step {S} {K} {C} IsFresh plans i plan held held' p old mid new rising inside is so_far pushed port unread anew still out told fresh stay rest =
    let n = number_of plan.number in
    let off = off_next held plans i plan rising inside is so_far.ports in
    let WasOpened : PortEnds S K C → Type 0 = λ q. IsOpened IsFresh (named_by plans old.ports (number_of q.port)) (named_by plans mid.ports (number_of q.port)) q.ends in
    let NowOpened : PortEnds S K C → Type 0 = λ q. IsOpened IsFresh (named_by plans old.ports (number_of q.port)) (named_by plans new.ports (number_of q.port)) q.ends in
    let Apart : PortEnds S K C → Type 0 = λ q. number_of q.port ≢ n in
    let before = so_far.others (port_key plan) off in
    let here : number_of p.port ≡ n = ap number_of port in
    let key : key_among plans (number_of p.port) ≡ port_key plan = ap (key_among plans) here ∙ key_here plans i plan rising inside is in
    let opened : IsOpened IsFresh (named_by plans old.ports (number_of p.port)) (named_by plans new.ports (number_of p.port)) p.ends = rw key (record { out = out; told = subst (λ (q : Place (Ends S K C)). IfSome q.stands (λ t. p.ends ≡ t)) before told; fresh = fresh }) in
    rw pushed (record {
      ports = ports_more held plans i plan p inside is so_far.ports port;
      opened = All-push NowOpened held p (All-both WasOpened Apart NowOpened held so_far.opened off (λ q was apart. subst (λ (x : Place (Ends S K C)). IsOpened IsFresh (named_by plans old.ports (number_of q.port)) x q.ends) (sym (stay (key_among plans (number_of q.port)) (λ equal. apart (sym (key_number plans (number_of q.port)) ∙ equal)))) was)) opened;
      unread = All-push (λ (q : PortEnds S K C). IsUnread q) held p so_far.unread unread;
      readers = All-push (λ (q : PortEnds S K C). IsReadAnew q) held p so_far.readers anew;
      others = λ key away. stay key (off_last held p key.number n here away) ∙ so_far.others key (All-front (λ (q : PortEnds S K C). number_of q.port ≢ key.number) held (p ∷ []) away);
      still = still ∙ so_far.still;
      rest = rest ∙ ap (λ (b : Book S K C). record b { faults = new.faults; ports = new.ports }) so_far.rest;
    })

pub fails_next : {S K C : Type 0} (plans : List PortPlan) (i : ℕ) (plan : PortPlan) (held : List (PortEnds S K C)) → i < length plans → plan ≡ get_or plans i plan → ports_held held ≡ take i (ports_of plans) → IsNextBehind plan.number (ports_held held) (ports_of plans)
fails_next plans i plan held inside is ports = (
  drop (i + 1) (ports_of plans),
  sym (take-append-drop i (ports_of plans))
      ∙ ap (λ (l : List Port). l ++ drop i (ports_of plans)) (sym ports)
      ∙ ap (λ (l : List Port). ports_held held ++ l) (drop_here plans i plan inside is),
)
