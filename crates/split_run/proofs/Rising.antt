-- The interfaces that have a capture of their own rise, and are among the first sixteen.
use Rattle.std.proofs.Common.{◌≡◌, ◌≢◌, ℕ, ◌+◌, ◌<◌, ◌≤◌, ◌==◌, nat_lt, ◌&&◌, Bool, true, false, List, [], ◌∷◌, ◌++◌, length, get_or, if◌then◌else◌, refl, sym, arith, inl, inr, length-append}
use Rattle.std.proofs.lemmas.Bool.{cases_lt}
use Rattle.std.proofs.lemmas.Bool.Decides.{nat_tests}
use Rattle.std.proofs.lemmas.List.{get_or_append_left, get_or_at, get_or-map, length-map}
use Rattle.std.specs.Prelude.{All}
use Rattle.pcapng_io.specs.Runs.{Event, Begins, Frame, Long}
use Rattle.pcap_split.specs.declared.output.Output.{Output}
use Rattle.pcap_split.specs.Counts.{interfaces_of}
use Rattle.pcap_split.specs.Going.{Differ}
use Rattle.pcap_split.specs.Splits.{Tally, no_tally, has_capture, tallied, tally}
use Rattle.split_run.specs.Steps.{HaveOwnInterfaces}

-- interfaces below a count that rise, all of the first sixteen
pub record Rises (split : List ℕ) (interfaces : ℕ) : Type 0 where
  pub each : (k : ℕ) → k < length split → (get_or split k 0 < interfaces) × (get_or split k 0 < 16)
  pub apart : (j k : ℕ) → j < k → k < length split → get_or split j 0 < get_or split k 0
  pub few : length split ≤ 16
  pub count : length split ≤ interfaces

rises_none : Rises [] 0
rises_none = record {
  each = λ k inside. absurd (omega (arith, inside));
  apart = λ j k below inside. absurd (omega (arith, inside));
  few = omega arith;
  count = omega arith;
}

rises_later : (split : List ℕ) (n : ℕ) → Rises split n → Rises split (n + 1)
rises_later split n r = record {
  each = λ k inside. let e = r.each k inside in (omega (arith, e.0), e.1);
  apart = r.apart;
  few = r.few;
  count = omega (arith, r.count);
}

-- what stands last, and what stands before it
last_of : (split : List ℕ) (n k : ℕ) → length split ≤ k → k < length (split ++ n ∷ []) → get_or (split ++ n ∷ []) k 0 ≡ n
last_of split n k last inside = get_or_at split n [] 0 k (omega (arith, last, inside, length-append split (n ∷ [])))

front_of : (split : List ℕ) (n k : ℕ) → k < length split → get_or (split ++ n ∷ []) k 0 ≡ get_or split k 0
front_of split n k front = get_or_append_left split (n ∷ []) 0 k front

rises_more : (split : List ℕ) (n : ℕ) → n < 16 → Rises split n → Rises (split ++ n ∷ []) (n + 1)
rises_more split n low r = record {
  each = λ k inside. elim (cases_lt k (length split)) [
    | inl front ↦
        let e = r.each k front in
        let at = front_of split n k front in
        (omega (arith, at, e.0), omega (arith, at, e.1))
    | inr last ↦ let at = last_of split n k last inside in (omega (arith, at), omega (arith, at, low))
  ];
  apart = λ j k below inside. elim (cases_lt k (length split)) [
    | inl front ↦
        let at_k = front_of split n k front in
        let at_j = front_of split n j (omega (arith, below, front)) in
        let rising = r.apart j k below front in
        omega (arith, at_k, at_j, rising)
    | inr last ↦
        let first : j < length split = omega (arith, below, inside, last, length-append split (n ∷ [])) in
        let at_k = last_of split n k last inside in
        let at_j = front_of split n j first in
        let e = r.each j first in
        omega (arith, at_k, at_j, e.0)
  ];
  few = omega (arith, length-append split (n ∷ []), r.count, low);
  count = omega (arith, length-append split (n ∷ []), r.count);
}

rises_begun : (here : Bool) (split : List ℕ) (n : ℕ) → (here ≡ true → n < 16) → Rises split n → Rises (if here then split ++ n ∷ [] else split) (n + 1)
rises_begun true split n low r = rises_more split n (low refl) r
rises_begun false split n low r = rises_later split n r

below_sixteen : (ethernet : Bool) (n : ℕ) → (ethernet && nat_lt n 16) ≡ true → n < 16
below_sixteen true n is = grind (arith, nat_tests)
below_sixteen false n is = absurd (cc)

rises_either : (here : Bool) (u v : Tally) → Rises u.split u.interfaces → Rises v.split v.interfaces → Rises (if here then u else v).split (if here then u else v).interfaces
rises_either true u v one other = one
rises_either false u v one other = other

rises_on : (events : List Event) (t : Tally) → Rises t.split t.interfaces → Rises (tally t events).split (tally t events).interfaces
rises_on [] t r = r
rises_on (Begins link ∷ events) t r = rises_on events (tallied t (Begins link)) (rises_begun ((link == 1) && nat_lt t.interfaces 16) t.split t.interfaces (below_sixteen (link == 1) t.interfaces) r)
rises_on (Frame interface stamp octets ∷ events) t r =
    rises_on events (tallied t (Frame interface stamp octets)) (rises_either (has_capture t interface) (record t { frames = t.frames + 1 }) (record t { skipped = t.skipped + 1 }) r r)
rises_on (Long interface ∷ events) t r =
    rises_on events (tallied t (Long interface)) (rises_either (has_capture t interface) (record t { long = t.long + 1 }) (record t { skipped = t.skipped + 1 }) r r)

pub rises : (events : List Event) → Rises (tally no_tally events).split (tally no_tally events).interfaces
rises events = rises_on events no_tally rises_none

interface_at : {K : Type 0} (held : List (Output K)) (k : ℕ) (d : Output K) → k < length held → get_or (interfaces_of held) k 0 ≡ (get_or held k d).interface
interface_at {K} held k d inside = get_or-map (λ (o : Output K). o.interface) held k d 0 inside

interfaces_len : {K : Type 0} (held : List (Output K)) → length (interfaces_of held) ≡ length held
interfaces_len {K} held = length-map held (λ (o : Output K). o.interface)

pub own_interfaces : {K : Type 0} (held : List (Output K)) (n : ℕ) → Rises (interfaces_of held) n → HaveOwnInterfaces held
own_interfaces held n r j k d below inside same =
    let rising = r.apart j k below (omega (arith, inside, interfaces_len held)) in
    let at_j = interface_at held j d (omega (arith, below, inside)) in
    let at_k = interface_at held k d inside in
    omega (arith, rising, at_j, at_k, same)

pub differ : {K : Type 0} (held : List (Output K)) → HaveOwnInterfaces held → Differ held
differ held own j k d inside_j inside_k same =
    elim (cases_lt j k) [
      | inl below ↦ absurd (own j k d below inside_k same)
      | inr above ↦ elim (cases_lt k j) [
        | inl below ↦ absurd (own k j d below inside_j (sym same))
        | inr other ↦ omega (arith, above, other)
      ]
    ]

pub low_interfaces : {K : Type 0} (held : List (Output K)) (n : ℕ) → Rises (interfaces_of held) n → All (λ o. o.interface < 16) held
low_interfaces held n r = λ k d inside.
    let e = r.each k (omega (arith, inside, interfaces_len held)) in
    let at = interface_at held k d inside in
    omega (arith, e.1, at)

pub few_outputs : {K : Type 0} (held : List (Output K)) (n : ℕ) → Rises (interfaces_of held) n → length held ≤ 16
few_outputs held n r = omega (arith, r.few, interfaces_len held)

-- the interface that begins next is another one, and there is room for its output
pub record IsNew {K : Type 0} (held : List (Output K)) (interface : ℕ) : Type 0 where
  pub low : interface < 16
  pub room : length held + 1 ≤ 16
  pub apart : All (λ o. o.interface ≢ interface) held

pub next_new : {K : Type 0} (held : List (Output K)) (interface n : ℕ) → Rises (interfaces_of held ++ interface ∷ []) n → IsNew held interface
next_new held interface n r =
    let split = interfaces_of held in
    let size = length-append split (interface ∷ []) in
    let len = interfaces_len held in
    let last : length split < length (split ++ interface ∷ []) = omega (arith, size) in
    let at = last_of split interface (length split) (omega arith) last in
    let e = r.each (length split) last in
    record {
      low = omega (arith, at, e.1);
      room = omega (arith, r.few, size, len);
      apart = λ k d inside same.
          let front : k < length split = omega (arith, inside, len) in
          let rising = r.apart k (length split) front last in
          let at_k = front_of split interface k front in
          let is = interface_at held k d inside in
          omega (arith, at, rising, at_k, is, same);
    }
