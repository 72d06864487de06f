-- One port after another is opened, its ends behind those of the others.
use Rattle.std.proofs.Common.{subst, ◌≡◌, inl, inr, ℕ, ◌+◌, ◌<◌, List, [], ◌∷◌, ◌++◌, length, get_or, refl, ◌∙◌, sym, ap, arith, true, length-append, slice_index}
use Rattle.std.proofs.lemmas.Bool.{cases_eq}
use Rattle.std.proofs.lemmas.List.{get_or-map, get_or_at, get_or_append_left, length-map}
use Rattle.std.proofs.lemmas.List.Kept.{AllPairs-from_increasing}
use Rattle.std.specs.Prelude.{IfSome}
use Rattle.std.specs.List.Sorted.{IsStrictlyIncreasing}
use Rattle.savi_kinds.specs.declared.plan.PortPlan.{PortPlan}
use Rattle.savi_kinds.specs.Ports.{number_of}
use Rattle.savi_kinds.specs.ValidPlan.{numbers_of}
use Rattle.savi_ends.specs.declared.world.Ends.{Ends}
use Rattle.savi_ends.specs.Places.{Book, Place, PortKey, OtherPortsStay, IsReady, port_key}
use Rattle.switch_ports.specs.Named.{key_among, named_by}
use Rattle.switch_ports.specs.Openings.{IsOpened}
use Rattle.switch_ports.specs.Live.{AreOpened, IsNextOf, IsOffFirst, OthersSame}
use Rattle.switch_ports.proofs.Named.{key_here, key_number}

-- what holds of each element and its place holds of one more behind them
pub each_push : {X : Type 0} (P : ℕ → X → Type 0) (xs : List X) (y : X) → ((k : ℕ) (d : X) → k < length xs → P k (get_or xs k d)) → P (length xs) y → (k : ℕ) (d : X) → k < length (xs ++ y ∷ []) → P k (get_or (xs ++ y ∷ []) k d)
each_push {X} P xs y each last k d inside =
    elim (cases_eq k (length xs)) [
      | inl same ↦ subst (P k) (sym (get_or_at xs y [] d k (sym same))) (subst (λ (m : ℕ). P m y) (sym same) last)
      | inr apart ↦
          let below : k < length xs = omega (arith, length-append xs (y ∷ []), inside, apart) in
          subst (P k) (sym (get_or_append_left xs (y ∷ []) d k below)) (each k d below)
    ]

-- the ports of the plans below an index are open
pub record LiveOpens {S K C : Type 0} (IsFresh : Ends S K C → Type 0) (plans : List PortPlan) (index : ℕ) (held : List (Ends S K C)) (old new : Book S K C) : Type 0 where
  pub size : length held ≡ index
  pub opened : AreOpened IsFresh (numbers_of plans) (named_by plans old.ports) (named_by plans new.ports) held
  pub others : OthersSame (numbers_of plans) index old.ports new.ports
  pub still : new.faults ≡ old.faults
  pub rest : new ≡ record old { faults = new.faults; ports = new.ports }

pub live_opens_none : {S K C : Type 0} (IsFresh : Ends S K C → Type 0) (plans : List PortPlan) (held : List (Ends S K C)) (book : Book S K C) → held ≡ [] → LiveOpens IsFresh plans 0 held book book
live_opens_none {S} {K} {C} IsFresh plans held book none = rw none (record {
  size = refl;
  opened = λ k d inside. absurd (omega arith);
  others = λ key off. refl;
  still = refl;
  rest = refl;
})

numbers_len : (plans : List PortPlan) → length (numbers_of plans) ≡ length plans
numbers_len plans = length-map plans (λ (p : PortPlan). number_of p.number)

number_here : (plans : List PortPlan) (i : ℕ) (plan : PortPlan) → i < length plans → plan ≡ get_or plans i plan → slice_index (numbers_of plans) i ≡ number_of plan.number
number_here plans i plan inside is = get_or-map (λ (p : PortPlan). number_of p.number) plans i plan 0 inside ∙ sym (ap (λ (p : PortPlan). number_of p.number) is)

-- of numbers that rise the first are none of the later ones
pub off_from : (numbers : List ℕ) (i n : ℕ) → IsStrictlyIncreasing numbers → i < length numbers → slice_index numbers i ≡ n → IsOffFirst numbers i n
off_from numbers i n rising inside here place below same =
    let apart = AllPairs-from_increasing numbers rising place i 0 below inside in
    omega (arith, apart, here, same)

off_here : (plans : List PortPlan) (i : ℕ) (plan : PortPlan) → IsStrictlyIncreasing (numbers_of plans) → i < length plans → plan ≡ get_or plans i plan → IsOffFirst (numbers_of plans) i (number_of plan.number)
off_here plans i plan rising inside is = off_from (numbers_of plans) i (number_of plan.number) rising (omega (arith, numbers_len plans, inside)) (number_here plans i plan inside is)

-- a port that isn't open yet may be opened
pub live_ready : {S K C : Type 0} (IsFresh : Ends S K C → Type 0) (plans : List PortPlan) (i : ℕ) (plan : PortPlan) (held : List (Ends S K C)) (old new : Book S K C)
    → IsStrictlyIncreasing (numbers_of plans) → i < length plans → plan ≡ get_or plans i plan → LiveOpens IsFresh plans i held old new → ((key : PortKey) → IsReady IsFresh (old.ports key)) → IsReady IsFresh (new.ports (port_key plan))
live_ready {S} {K} {C} IsFresh plans i plan held old new rising inside is so_far ready =
    rw (so_far.others (port_key plan) (off_here plans i plan rising inside is)) (ready (port_key plan))

pub live_open_step : {S K C : Type 0} (IsFresh : Ends S K C → Type 0) (plans : List PortPlan) (i : ℕ) (plan : PortPlan) (held held' : List (Ends S K C)) (ends : Ends S K C) (old mid new : Book S K C)
    → IsStrictlyIncreasing (numbers_of plans) → i < length plans → plan ≡ get_or plans i plan → LiveOpens IsFresh plans i held old mid
    → held' ≡ held ++ ends ∷ []
    → new.faults ≡ mid.faults → (new.ports (port_key plan)).is_out ≡ true → IfSome (mid.ports (port_key plan)).stands (λ t. ends ≡ t) → IsFresh ends
    → OtherPortsStay mid.ports new.ports (number_of plan.number) → new ≡ record mid { faults = new.faults; ports = new.ports }
    → LiveOpens IsFresh plans (i + 1) held' old new
live_open_step {S} {K} {C} IsFresh plans i plan held held' ends old mid new rising inside is so_far pushed still out told fresh stay rest =
    let n = number_of plan.number in
    let numbers = numbers_of plans in
    let here : slice_index numbers i ≡ n = number_here plans i plan inside is in
    let off : IsOffFirst numbers i n = off_here plans i plan rising inside is in
    let Opened : ℕ → Ends S K C → Type 0 = λ k x. IsOpened IsFresh (named_by plans old.ports (slice_index numbers k)) (named_by plans new.ports (slice_index numbers k)) x in
    let size = so_far.size in
    let at : slice_index numbers (length held) ≡ n = ap (slice_index numbers) size ∙ here in
    let last : IsOpened IsFresh (named_by plans old.ports n) (named_by plans new.ports n) ends = rw (key_here plans i plan rising inside is) (record { out = out; told = subst (λ (q : Place (Ends S K C)). IfSome q.stands (λ t. ends ≡ t)) (so_far.others (port_key plan) off) told; fresh = fresh }) in
    rw pushed (record {
      size = omega (arith, length-append held (ends ∷ []), size);
      opened = each_push Opened held ends
          (λ k d below. subst (λ (x : Place (Ends S K C)). IsOpened IsFresh (named_by plans old.ports (slice_index numbers k)) x (get_or held k d)) (sym (stay (key_among plans (slice_index numbers k)) (λ equal. off k (omega (arith, size, below)) (sym (key_number plans (slice_index numbers k)) ∙ equal)))) (so_far.opened k d below))
          (subst (λ (m : ℕ). IsOpened IsFresh (named_by plans old.ports m) (named_by plans new.ports m) ends) (sym at) last);
      others = λ key away. stay key (λ same. away i (omega arith) (here ∙ sym same)) ∙ so_far.others key (λ k below. away k (omega (arith, below)));
      still = still ∙ so_far.still;
      rest = rest ∙ ap (λ (b : Book S K C). record b { faults = new.faults; ports = new.ports }) so_far.rest;
    })

pub live_fails_next : (plans : List PortPlan) (i count : ℕ) (plan : PortPlan) → i < length plans → plan ≡ get_or plans i plan → count ≡ i → IsNextOf (numbers_of plans) count (number_of plan.number)
live_fails_next plans i count plan inside is size = (omega (arith, numbers_len plans, inside, size), ap (slice_index (numbers_of plans)) size ∙ number_here plans i plan inside is)

-- what is open stays so where the opening of the next port fails
pub live_opened_still : {S K C : Type 0} (IsFresh : Ends S K C → Type 0) (plans : List PortPlan) (i : ℕ) (plan : PortPlan) (held : List (Ends S K C)) (old mid new : Book S K C)
    → IsStrictlyIncreasing (numbers_of plans) → i < length plans → plan ≡ get_or plans i plan → LiveOpens IsFresh plans i held old mid → OtherPortsStay mid.ports new.ports (number_of plan.number)
    → AreOpened IsFresh (numbers_of plans) (named_by plans old.ports) (named_by plans new.ports) held
live_opened_still {S} {K} {C} IsFresh plans i plan held old mid new rising inside is so_far stay = λ k d below.
    let numbers = numbers_of plans in
    let size = so_far.size in
    subst (λ (x : Place (Ends S K C)). IsOpened IsFresh (named_by plans old.ports (slice_index numbers k)) x (get_or held k d)) (sym (stay (key_among plans (slice_index numbers k)) (λ equal. off_here plans i plan rising inside is k (omega (arith, size, below)) (sym (key_number plans (slice_index numbers k)) ∙ equal)))) (so_far.opened k d below)
