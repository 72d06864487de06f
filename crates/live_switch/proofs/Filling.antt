-- What the readers leave: of one port more.
use Rattle.std.proofs.Common.{◌≡◌, ℕ, ◌+◌, ◌<◌, List, [], ◌∷◌, ◌++◌, length, slice_index_or, vec_len, Option, refl, sym, ap, subst, ◌∙◌, length-append, arith, inl, inr}
use Rattle.std.proofs.Math.Nat.{eq-or-lt_of_le}
use Rattle.parcel_ring.specs.Sides.{was_put}
use Rattle.port_reader.specs.Readers as ports
use Rattle.port_reader.specs.declared.reader.Reader.{Reader}
use Rattle.control_reader.specs.declared.reader.LineReader.{LineReader}
use Rattle.live_switch.specs.declared.readers.Readers.{Readers}
use Rattle.live_switch.specs.Filled.{AreFilled, AreUnfilled, IsLineFilled, IsLineUnfilled}
use Rattle.live_switch.proofs.Dealing.{at_end, at_front}

module _ {S C : Type 0} (all few : Readers S C) (reader : Reader S C) (last : all.ports.items ≡ few.ports.items ++ reader ∷ []) (control : few.control ≡ all.control) where
  sizes : vec_len all.ports ≡ vec_len few.ports + 1
  sizes = omega (arith, ap (λ (l : List (Reader S C)). length l) last, length-append few.ports.items (reader ∷ []), all.ports.ok.0, few.ports.ok.0)

  front_at : (k : ℕ) (d : Reader S C) → k < vec_len few.ports → slice_index_or all.ports.items k d ≡ slice_index_or few.ports.items k d
  front_at k d below = ap (λ (l : List (Reader S C)). slice_index_or l k d) last ∙ at_front few.ports.items reader k d (omega (arith, below, few.ports.ok.0))

  last_at : (k : ℕ) (d : Reader S C) → k ≡ vec_len few.ports → slice_index_or all.ports.items k d ≡ reader
  last_at k d at = ap (λ (l : List (Reader S C)). slice_index_or l k d) last ∙ at_end few.ports.items reader k d (omega (arith, at, few.ports.ok.0))

  pub unfilled_fewer : AreUnfilled all → AreUnfilled few
  unfilled_fewer un = record {
    ports = λ k d below. subst (λ (r : Reader S C). was_put r.filler ≡ []) (front_at k d below) (un.ports k d (omega (arith, below, sizes)));
    control = subst (λ (o : Option (LineReader S C)). IsLineUnfilled o) (sym control) un.control;
  }

  pub unfilled_last : AreUnfilled all → was_put reader.filler ≡ []
  unfilled_last un = subst (λ (r : Reader S C). was_put r.filler ≡ []) (last_at (vec_len few.ports) reader refl) (un.ports (vec_len few.ports) reader (omega (arith, sizes)))

  module _ (left : S → Option (List ℕ)) (faults : S → ℕ) (readings : C → Option (List ℕ)) (new back : Readers S C) (read : Reader S C)
      (behind : new.ports.items ≡ back.ports.items ++ read ∷ []) (control_back : new.control ≡ back.control) where
    sizes_back : vec_len new.ports ≡ vec_len back.ports + 1
    sizes_back = omega (arith, ap (λ (l : List (Reader S C)). length l) behind, length-append back.ports.items (read ∷ []), new.ports.ok.0, back.ports.ok.0)

    back_at : (k : ℕ) (d : Reader S C) → k < vec_len back.ports → slice_index_or new.ports.items k d ≡ slice_index_or back.ports.items k d
    back_at k d below = ap (λ (l : List (Reader S C)). slice_index_or l k d) behind ∙ at_front back.ports.items read k d (omega (arith, below, back.ports.ok.0))

    read_at : (k : ℕ) (d : Reader S C) → k ≡ vec_len back.ports → slice_index_or new.ports.items k d ≡ read
    read_at k d at = ap (λ (l : List (Reader S C)). slice_index_or l k d) behind ∙ at_end back.ports.items read k d (omega (arith, at, back.ports.ok.0))

    pub filled_more : AreFilled left faults readings few back → ports.HasFilled left faults readings reader read → AreFilled left faults readings all new
    filled_more were here = record {
      size = omega (arith, were.size, sizes, sizes_back);
      ports = λ k d below.
          elim (eq-or-lt_of_le {n = k} {m = vec_len few.ports} (omega (arith, below, sizes))) [
            | inl at ↦
                subst (λ (t : Reader S C × Reader S C). ports.HasFilled left faults readings t.0 t.1)
                (λ i. (sym (last_at k d at) i, sym (read_at k d (at ∙ sym were.size)) i)) here
            | inr inside ↦
                subst (λ (t : Reader S C × Reader S C). ports.HasFilled left faults readings t.0 t.1)
                (λ i. (sym (front_at k d inside) i, sym (back_at k d (omega (arith, inside, were.size))) i)) (were.ports k d inside)
          ];
      control = subst (λ (t : Option (LineReader S C) × Option (LineReader S C)). IsLineFilled left faults readings t.0 t.1) (λ i. (control i, sym control_back i)) were.control;
    }
