-- What outputs are given for one event.
use Rattle.std.proofs.Common.{◌≡◌, ◌≢◌, ℕ, zero, suc, ◌<◌, ◌==◌, ◌||◌, Bool, true, false, List, [], ◌∷◌, length, get_or, set, Option, Some, None, refl, sym, ap, subst, inl, inr, ◌⊎◌, ◌∙◌, arith, append-nil, get_or-set_other, get_or-set_same}
use Rattle.std.proofs.lemmas.List.{get_or_default}
use Rattle.std.proofs.lemmas.Bool.{cases_eq}
use Rattle.std.proofs.lemmas.Bool.Decides.{nat_tests}
use Rattle.std.proofs.lemmas.Grind.{common_steps}
use Rattle.std.specs.List.{list_any}
use Rattle.savi_ends.specs.Octets.{behind, IsFront}
use Rattle.savi_ends.specs.Faults.{Rose}
use Rattle.pcap_io.specs.Captures.{Sent, record_text, records_text}
use Rattle.pcapng_io.specs.Runs.{Event, Frame}
use Rattle.pcap_split.specs.declared.output.Output.{Output}
use Rattle.pcap_split.specs.Splits.{frames_of}
use Rattle.pcap_split.specs.Counts.{interfaces_of}
use Rattle.pcap_split.specs.Going.{HasTaken, HasTakenBut, EachOutput, IsOutputOf, Differ, HasRisen}

behind_none : (o : Option (List ℕ)) → o ≡ behind o []
behind_none None = refl
behind_none (Some w) = ap (λ (l : List ℕ). Some l) (sym (append-nil w))

pub frame_here : (k i stamp : ℕ) (octets : List ℕ) → i ≡ k → frames_of k (Frame i stamp octets ∷ []) ≡ record { moment = stamp; frame = octets } ∷ []
frame_here k i stamp octets same = grind (arith, nat_tests)

pub frame_elsewhere : (k i stamp : ℕ) (octets : List ℕ) → i ≢ k → frames_of k (Frame i stamp octets ∷ []) ≡ []
frame_elsewhere k i stamp octets other = grind (arith, nat_tests)

-- an output of another interface is given nothing
idle : {K : Type 0} (written : K → Option (List ℕ)) (faults : K → ℕ) (e : Event) (o : Output K) → frames_of o.interface (e ∷ []) ≡ [] → HasTaken written faults (e ∷ []) o o
idle written faults e o none = record { same = refl; still = refl; text = behind_none (written o.sink) ∙ ap (λ (s : List Sent). behind (written o.sink) (records_text s)) (sym none) }

pub all_idle : {K : Type 0} (written : K → Option (List ℕ)) (faults : K → ℕ) (e : Event) (outputs : List (Output K)) → ((k : ℕ) (d : Output K) → k < length outputs → frames_of (get_or outputs k d).interface (e ∷ []) ≡ []) → EachOutput (HasTaken written faults (e ∷ [])) outputs outputs
all_idle written faults e outputs none = (refl, λ k d within. idle written faults e (get_or outputs k d) (none k d within))

-- no output is of this interface
pub none_here : {K : Type 0} (outputs : List (Output K)) (interface stamp : ℕ) (octets : List ℕ) → ((place : ℕ) → IsOutputOf outputs place interface → ⊥) → (k : ℕ) (d : Output K) → k < length outputs → frames_of (get_or outputs k d).interface (Frame interface stamp octets ∷ []) ≡ []
none_here {K} outputs interface stamp octets none k d within =
    frame_elsewhere (get_or outputs k d).interface interface stamp octets
    (λ same. none k (within, λ (e : Output K). ap (λ (o : Output K). o.interface) (get_or_default outputs k e d within) ∙ sym same))

abbrev output_by : {K : Type 0} → ℕ → K → Output K
output_by interface sink = record { interface = interface; sink = sink }

by_place : {K : Type 0} (R : Output K → Output K → Type 0) (outputs : List (Output K)) (place : ℕ) (new : Output K) → ((d : Output K) → place < length outputs → R (get_or outputs place d) new) → ((k : ℕ) (d : Output K) → k < length outputs → k ≢ place → R (get_or outputs k d) (get_or outputs k d)) → EachOutput R outputs (set outputs place new)
by_place {K} R outputs place new here elsewhere = (grind (arith, common_steps), λ k d within. by k d within (cases_eq k place))
  where
    by : (k : ℕ) (d : Output K) → k < length outputs → (k ≡ place) ⊎ (k ≢ place) → R (get_or outputs k d) (get_or (set outputs place new) k d)
    by k d within (inl same) =
        let inside : place < length outputs = omega (arith, same, within) in
        subst (λ (n : ℕ). R (get_or outputs n d) (get_or (set outputs place new) n d)) (sym same) (subst (λ (o : Output K). R (get_or outputs place d) o) (sym (get_or-set_same outputs place new d inside)) (here d inside))
    by k d within (inr other) = subst (λ (o : Output K). R (get_or outputs k d) o) (sym (get_or-set_other outputs place k new d other)) (elsewhere k d within other)

-- the output at this place is given a frame
pub one_taken : {K : Type 0} (written : K → Option (List ℕ)) (faults : K → ℕ) (outputs : List (Output K)) (place interface stamp : ℕ) (octets : List ℕ) (x : Output K) (y : K) → Differ outputs → IsOutputOf outputs place interface → faults y ≡ faults (get_or outputs place x).sink
    → written y ≡ behind (written (get_or outputs place x).sink) (record_text stamp octets) → EachOutput (HasTaken written faults (Frame interface stamp octets ∷ [])) outputs (set outputs place (output_by (get_or outputs place x).interface y))
one_taken {K} written faults outputs place interface stamp octets x y differ here still text =
    by_place (HasTaken written faults (Frame interface stamp octets ∷ [])) outputs place (output_by (get_or outputs place x).interface y)
    (λ d inside. subst (λ (o : Output K). HasTaken written faults (Frame interface stamp octets ∷ []) o (output_by (get_or outputs place x).interface y)) (get_or_default outputs place x d inside)
    (record {
      same = refl;
      still = still;
      text = text ∙ ap (behind (written (get_or outputs place x).sink)) (sym (append-nil (record_text stamp octets)))
          ∙ ap (λ (s : List Sent). behind (written (get_or outputs place x).sink) (records_text s)) (sym (frame_here (get_or outputs place x).interface interface stamp octets (sym (here.1 x))));
    }))
    (λ k d within other. idle written faults (Frame interface stamp octets) (get_or outputs k d)
    (frame_elsewhere (get_or outputs k d).interface interface stamp octets (λ e. other (differ k place d within here.0 (sym e ∙ sym (here.1 d))))))

-- the output at this place is given a front of a frame's record
pub one_front : {K : Type 0} (written : K → Option (List ℕ)) (faults : K → ℕ) (outputs : List (Output K)) (place interface stamp : ℕ) (octets : List ℕ) (x : Output K) (y : K) → Differ outputs → IsOutputOf outputs place interface → Rose (faults (get_or outputs place x).sink) (faults y)
    → (front : List ℕ) × IsFront front (record_text stamp octets) × (written y ≡ behind (written (get_or outputs place x).sink) front) → EachOutput (HasTakenBut written faults interface [] stamp octets) outputs (set outputs place (output_by (get_or outputs place x).interface y))
one_front {K} written faults outputs place interface stamp octets x y differ here rose text =
    by_place (HasTakenBut written faults interface [] stamp octets) outputs place (output_by (get_or outputs place x).interface y)
    (λ d inside. subst (λ (o : Output K). HasTakenBut written faults interface [] stamp octets o (output_by (get_or outputs place x).interface y)) (get_or_default outputs place x d inside)
    (λ other. absurd (other (here.1 x)), λ is. record { same = refl; rose = rose; text = text }))
    (λ k d within other. elsewhere (get_or outputs k d) (λ e. other (differ k place d within here.0 (e ∙ sym (here.1 d)))))
  where
    elsewhere : (o : Output K) → o.interface ≢ interface → HasTakenBut written faults interface [] stamp octets o o
    elsewhere o apart = (
      λ other. idle written faults (Frame interface stamp octets) o (frame_elsewhere o.interface interface stamp octets (λ e. apart (sym e))),
      λ is. absurd (apart is),
    )

pub one_risen : {K : Type 0} (faults : K → ℕ) (outputs : List (Output K)) (place interface : ℕ) (x : Output K) (y : K) → IsOutputOf outputs place interface → Rose (faults (get_or outputs place x).sink) (faults y) → HasRisen faults interface outputs (set outputs place (output_by (get_or outputs place x).interface y))
one_risen {K} faults outputs place interface x y here rose = (
  place,
  here,
  λ d. subst (λ (o : Output K). Rose (faults (get_or outputs place d).sink) (faults o.sink)) (sym (get_or-set_same outputs place (output_by (get_or outputs place x).interface y) d here.0))
      (subst (λ (o : Output K). Rose (faults o.sink) (faults y)) (get_or_default outputs place x d here.0) rose),
)

-- the output of an interface is found among their interfaces, or there is none
pub has_place : {K : Type 0} (outputs : List (Output K)) (place interface : ℕ) → IsOutputOf outputs place interface → list_any (λ k. k == interface) (interfaces_of outputs) ≡ true
has_place [] place interface here = absurd (omega (arith, here.0))
has_place (o ∷ outputs) zero interface here = let same : o.interface ≡ interface = here.1 o in grind (arith, nat_tests)
has_place (o ∷ outputs) (suc place) interface here =
    let later : list_any (λ k. k == interface) (interfaces_of outputs) ≡ true = has_place outputs place interface (omega (arith, here.0), here.1) in
    rw later (or_true (o.interface == interface))
  where
    or_true : (b : Bool) → (b || true) ≡ true
    or_true true = refl
    or_true false = refl

pub has_none : {K : Type 0} (outputs : List (Output K)) (interface : ℕ) → ((place : ℕ) → IsOutputOf outputs place interface → ⊥) → list_any (λ k. k == interface) (interfaces_of outputs) ≡ false
has_none [] interface none = refl
has_none {K} (o ∷ outputs) interface none =
    let other : o.interface ≢ interface = λ same. none 0 (omega arith, λ (d : Output K). same) in
    let later : list_any (λ k. k == interface) (interfaces_of outputs) ≡ false = has_none outputs interface (λ place is. none (suc place) (omega (arith, is.0), is.1)) in
    rw later (or_false (o.interface == interface) (unequal o.interface interface other))
  where
    or_false : (b : Bool) → b ≡ false → (b || false) ≡ false
    or_false true e = e
    or_false false e = refl

    unequal : (m n : ℕ) → m ≢ n → (m == n) ≡ false
    unequal m n other = grind (arith, nat_tests)
