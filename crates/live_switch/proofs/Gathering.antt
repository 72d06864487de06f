-- The ends of one port more: dealt, and put together again.
use Rattle.std.proofs.Common.{◌≡◌, ℕ, ◌+◌, ◌<◌, List, [], ◌∷◌, ◌++◌, length, map, slice_index_or, Option, Some, None, IsSome, refl, sym, ap, subst, ◌∙◌, append-nil, append_assoc, length-append, arith, inl, inr}
use Rattle.std.specs.Option.{is_some}
use Rattle.std.proofs.Math.Nat.{eq-or-lt_of_le}
use Rattle.std.proofs.lemmas.Bool.{false≢true}
use Rattle.std.proofs.lemmas.List.{map-append}
use mathlib.Core.List.{IsPrefix}
use Rattle.savi_ends.specs.declared.world.Ends.{Ends}
use Rattle.parcel_ring.specs.Sides.{AreTwoEnds, was_put, was_taken}
use Rattle.intake_ring.specs.Sides.{put_of, taken_of}
use Rattle.port_reader.specs.declared.reader.Reader.{Reader}
use Rattle.control_reader.specs.Heard.{line_heard_of}
use Rattle.control_reader.specs.declared.reader.LineReader.{LineReader}
use Rattle.live_control.specs.declared.side.ControlSide.{ControlSide}
use Rattle.live_switch.specs.declared.seats.Seat.{Seat}
use Rattle.live_switch.specs.declared.services.PortService.{PortService}
use Rattle.live_switch.specs.Sharing.{AreGathered, AreLinesGathered, AreLinesMatched, AreMatched, ArePorts, ends_of, reader_of, service_of}
use Rattle.live_switch.proofs.Dealing.{at_end, at_front}

-- what a list has at a place, where it is others and one more
at_both : {X : Type 0} (all few : List X) (x : X) (k : ℕ) (d : X) → all ≡ few ++ x ∷ [] → k < length few → slice_index_or all k d ≡ slice_index_or few k d
at_both all few x k d is within = ap (λ l. slice_index_or l k d) is ∙ at_front few x k d within

at_last : {X : Type 0} (all few : List X) (x : X) (k : ℕ) (d : X) → all ≡ few ++ x ∷ [] → k ≡ length few → slice_index_or all k d ≡ x
at_last all few x k d is at = ap (λ l. slice_index_or l k d) is ∙ at_end few x k d at

-- what is behind others stays so with one more
behind_more : {X : Type 0} (old made mid new : List X) (x : X) → mid ≡ old ++ made → new ≡ mid ++ x ∷ [] → new ≡ old ++ (made ++ x ∷ [])
behind_more old made mid new x one two = two ∙ ap (λ l. l ++ x ∷ []) one ∙ append_assoc old made (x ∷ [])

-- what is in front of others has its front
pub prefix_map : {X Y : Type 0} (f : X → Y) (front all : List X) → IsPrefix front all → IsPrefix (map f front) (map f all)
prefix_map f front all is = (map f is.0, sym (map-append f front is.0) ∙ ap (λ l. map f l) is.1)

module _ {S K C : Type 0} where
  pub ports_none : (ports : List (Ends S K C)) (seats : List Seat) (readers : List (Reader S C)) (services : List (PortService K)) → length ports ≡ 0 → ArePorts ports seats readers readers services services
  ports_none ports seats readers services none = record {
    made_readers = [];
    made_services = [];
    readers_are = sym (append-nil readers);
    services_are = sym (append-nil services);
    size = (sym none, sym none);
    each_reader = λ k e s d within. absurd (omega (arith, within, none));
    each_service = λ k e s d within. absurd (omega (arith, within, none));
  }

  module _ (ports few : List (Ends S K C)) (ends : Ends S K C) (seats others : List Seat) (seat : Seat) (readers mid new : List (Reader S C)) (services mid' new' : List (PortService K))
      (ports_are : ports ≡ few ++ ends ∷ []) (seats_are : seats ≡ others ++ seat ∷ []) (sizes : length others ≡ length few) where
    pub ports_more : (reader : Reader S C) (service : PortService K) → ArePorts few others readers mid services mid' → new ≡ mid ++ reader ∷ [] → new' ≡ mid' ++ service ∷ []
        → reader ≡ reader_of ends seat → service ≡ service_of ends seat → ArePorts ports seats readers new services new'
    ports_more reader service were behind behind' reader_is service_is =
        let whole : length ports ≡ length few + 1 = ap (λ l. length l) ports_are ∙ length-append few (ends ∷ []) in
        record {
          made_readers = were.made_readers ++ reader_of ends seat ∷ [];
          made_services = were.made_services ++ service_of ends seat ∷ [];
          readers_are = behind_more readers were.made_readers mid new (reader_of ends seat) were.readers_are (behind ∙ ap (λ (r : Reader S C). mid ++ r ∷ []) reader_is);
          services_are = behind_more services were.made_services mid' new' (service_of ends seat) were.services_are (behind' ∙ ap (λ (s : PortService K). mid' ++ s ∷ []) service_is);
          size = (
            omega (arith, whole, were.size.0, length-append were.made_readers (reader_of ends seat ∷ [])),
            omega (arith, whole, were.size.1, length-append were.made_services (service_of ends seat ∷ [])),
          );
          each_reader = λ k e s d within.
              elim (eq-or-lt_of_le {n = k} {m = length few} (omega (arith, within, whole))) [
                | inl at ↦
                    at_end were.made_readers (reader_of ends seat) k d (at ∙ sym were.size.0)
                    ∙ (λ i. reader_of (sym (at_last ports few ends k e ports_are at) i) (sym (at_last seats others seat k s seats_are (at ∙ sym sizes)) i))
                | inr inside ↦
                    at_front were.made_readers (reader_of ends seat) k d (omega (arith, inside, were.size.0)) ∙ were.each_reader k e s d inside
                    ∙ (λ i. reader_of (sym (at_both ports few ends k e ports_are inside) i) (sym (at_both seats others seat k s seats_are (omega (arith, inside, sizes))) i))
              ];
          each_service = λ k e s d within.
              elim (eq-or-lt_of_le {n = k} {m = length few} (omega (arith, within, whole))) [
                | inl at ↦
                    at_end were.made_services (service_of ends seat) k d (at ∙ sym were.size.1)
                    ∙ (λ i. service_of (sym (at_last ports few ends k e ports_are at) i) (sym (at_last seats others seat k s seats_are (at ∙ sym sizes)) i))
                | inr inside ↦
                    at_front were.made_services (service_of ends seat) k d (omega (arith, inside, were.size.1)) ∙ were.each_service k e s d inside
                    ∙ (λ i. service_of (sym (at_both ports few ends k e ports_are inside) i) (sym (at_both seats others seat k s seats_are (omega (arith, inside, sizes))) i))
              ];
        }

  pub gathered_none : (readers : List (Reader S C)) (services : List (PortService K)) (ports : List (Ends S K C)) → length readers ≡ 0 → AreGathered readers services ports ports
  gathered_none readers services ports none = record {
    made = [];
    ports_are = sym (append-nil ports);
    size = sym none;
    each = λ k r e d within. absurd (omega (arith, within, none));
    fronts = λ k r e within. absurd (omega (arith, within, none));
  }

  module _ (readers few : List (Reader S C)) (reader : Reader S C) (services others : List (PortService K)) (service : PortService K)
      (readers_are : readers ≡ few ++ reader ∷ []) (services_are : services ≡ others ++ service ∷ []) (sizes : length others ≡ length few) where
    whole_size : length readers ≡ length few + 1
    whole_size = ap (λ l. length l) readers_are ∙ length-append few (reader ∷ [])

    pub matched_fewer : AreMatched readers services → AreMatched few others
    matched_fewer were k d e within =
        subst (λ (t : Reader S C × PortService K). AreTwoEnds t.0.filler t.1.judge.taker)
        (λ i. (at_both readers few reader k d readers_are within i, at_both services others service k e services_are (omega (arith, within, sizes)) i))
        (were k d e (omega (arith, within, whole_size)))

    pub matched_last : AreMatched readers services → AreTwoEnds reader.filler service.judge.taker
    matched_last were =
        subst (λ (t : Reader S C × PortService K). AreTwoEnds t.0.filler t.1.judge.taker)
        (λ i. (at_last readers few reader (length few) reader readers_are refl i, at_last services others service (length few) service services_are (sym sizes) i))
        (were (length few) reader service (omega (arith, whole_size)))

    pub gathered_more : (ports mid new : List (Ends S K C)) → AreGathered few others ports mid → new ≡ mid ++ ends_of reader service ∷ [] → IsPrefix (was_taken service.judge.taker) (was_put reader.filler)
        → AreGathered readers services ports new
    gathered_more ports mid new were ends_are front = record {
      made = were.made ++ ends_of reader service ∷ [];
      ports_are = behind_more ports were.made mid new (ends_of reader service) were.ports_are ends_are;
      size = omega (arith, whole_size, were.size, length-append were.made (ends_of reader service ∷ []));
      each = λ k r e d within.
          elim (eq-or-lt_of_le {n = k} {m = length few} (omega (arith, within, whole_size))) [
            | inl at ↦
                at_end were.made (ends_of reader service) k d (at ∙ sym were.size)
                ∙ (λ i. ends_of (sym (at_last readers few reader k r readers_are at) i) (sym (at_last services others service k e services_are (at ∙ sym sizes)) i))
            | inr inside ↦
                at_front were.made (ends_of reader service) k d (omega (arith, inside, were.size)) ∙ were.each k r e d inside
                ∙ (λ i. ends_of (sym (at_both readers few reader k r readers_are inside) i) (sym (at_both services others service k e services_are (omega (arith, inside, sizes))) i))
          ];
      fronts = λ k r e within.
          elim (eq-or-lt_of_le {n = k} {m = length few} (omega (arith, within, whole_size))) [
            | inl at ↦
                subst (λ (t : Reader S C × PortService K). IsPrefix (was_taken t.1.judge.taker) (was_put t.0.filler))
                (λ i. (sym (at_last readers few reader k r readers_are at) i, sym (at_last services others service k e services_are (at ∙ sym sizes)) i)) front
            | inr inside ↦
                subst (λ (t : Reader S C × PortService K). IsPrefix (was_taken t.1.judge.taker) (was_put t.0.filler))
                (λ i. (sym (at_both readers few reader k r readers_are inside) i, sym (at_both services others service k e services_are (omega (arith, inside, sizes))) i)) (were.fronts k r e inside)
          ];
    }

  -- how many there are then
  pub gathered_size : (readers : List (Reader S C)) (services : List (PortService K)) (ports new : List (Ends S K C)) → AreGathered readers services ports new → length new ≡ length ports + length readers
  gathered_size readers services ports new are =
      ap (λ (l : List (Ends S K C)). length l) are.ports_are ∙ length-append ports are.made ∙ ap (λ (n : ℕ). length ports + n) are.size

-- Control's ring, where it is there.
module _ {S K C : Type 0} where
  pub line_there : (reader : LineReader S C) (ends : Option (ControlSide K)) → AreLinesMatched (Some reader) ends → IsSome ends
  line_there reader (Some side) matched = refl
  line_there reader None matched = absurd matched

  pub line_gathered : (reader : LineReader S C) (side : ControlSide K) → IsPrefix (taken_of side.taker) (put_of reader.filler)
      → AreLinesGathered (Some reader) (Some side) (Some (record { source = reader.source; sink = side.sink; clock = reader.clock }))
  line_gathered reader side front = (refl, prefix_map line_heard_of (taken_of side.taker) (put_of reader.filler) front)
