-- What was read of control's input, from a new reader on.
use Rattle.std.proofs.Common.{◌≡◌, ◌≢◌, ◌≤◌, ℕ, ◌+◌, true, false, List, [], ◌∷◌, ◌++◌, length, length-append, arith, refl, sym, ap, ◌∙◌, subst, inl, inr, append-nil, append_assoc, Option, Some, None, IfSome}
use Rattle.savi_kinds.specs.declared.entry.How.{How}
use Rattle.savi_kinds.specs.declared.entry.How.TheVariants as hows
use Rattle.savi_ends.specs.Octets.{Takes, in_front}
use Rattle.cli_lang.specs.Arrivals.{Line, Input}
use Rattle.cli_lang.specs.Readers.{State, Running, Ended, Comes, HasReadOne, HasEnded, IsFaultAt, longest_reach, ended}
use Rattle.cli_lang.proofs.Existence.{some_later}
use Rattle.savi_history.specs.ControlFits.{AreFirst}
use Rattle.control_reader.specs.LiveLines.{AreLiveLines}
use Rattle.control_reader.specs.Reading.{HasReadLines, of_lines, start}

pub read_none : (left : Option (List ℕ)) → HasReadLines start [] left []
read_none left = inl ((0, [], refl), (λ seen rest later ending comes. comes), refl)

no_lines : (line : Line) (lines : List Line) (ending how : How) → of_lines (line ∷ lines) ending ≡ ended how → ⊥
no_lines line lines ending how same = let e = ap (λ (i : Input). i.arrivals) same in cc

same_ending : (one other : How) → ended one ≡ ended other → one ≡ other
same_ending one other same = ap (λ (i : Input). i.ending) same

-- behind the end no line comes
no_more : (old new : State) (more : List ℕ) (left : Option (List ℕ)) (line : Line) → old ≡ Ended hows.End → HasReadOne true old new more left line → ⊥
no_more old new more left line is (inl one) =
    let place = one.0.0 in
    let held = one.0.1 in
    let later = some_later true true place (held ++ []) in
    let comes : Comes true true new [] (of_lines later.0 later.1) = subst (λ (s : State). Comes true true s [] (of_lines later.0 later.1)) (sym one.0.2) later.2 in
    no_lines line later.0 later.1 hows.End (subst (λ (s : State). Comes true true s (more ++ []) (of_lines (line ∷ later.0) later.1)) is (one.1 true [] later.0 later.1 comes))
no_more old new more left line is (inr one) = no_lines line [] hows.End hows.End (subst (λ (s : State). Comes true true s more (of_lines (line ∷ []) hows.End)) is one.2)

-- a reader that gave a line has seen no read fail
pub goes_on : (old new : State) (more : List ℕ) (left : Option (List ℕ)) (line : Line) → HasReadOne true old new more left line → new ≢ Ended hows.Failed
goes_on old new more left line (inl one) failed = let e : Running one.0.0 one.0.1 ≡ Ended hows.Failed = sym one.0.2 ∙ failed in cc
goes_on old new more left line (inr one) failed = let e : Ended hows.End ≡ Ended hows.Failed = sym one.0 ∙ failed in cc

module _ (old new : State) (gave more : List ℕ) (left_old left : Option (List ℕ)) (before : List Line) where
  pub read_line : (line : Line) → HasReadLines old gave left_old before → HasReadOne true old new more left line → HasReadLines new (gave ++ more) left (before ++ line ∷ [])
  read_line line (inl behind) (inl one) = inl (
    one.0,
    (λ seen rest later ending comes.
        subst (λ (l : List ℕ). Comes true seen start l (of_lines ((before ++ line ∷ []) ++ later) ending)) (sym (append_assoc gave more rest))
        (subst (λ (ls : List Line). Comes true seen start (gave ++ (more ++ rest)) (of_lines ls ending)) (sym (append_assoc before (line ∷ []) later))
        (behind.1 seen (more ++ rest) (line ∷ later) ending (one.1 seen rest later ending comes)))),
    omega (arith, one.2, behind.2, length-append gave more),
  )
  read_line line (inl behind) (inr one) = inr (one.0, one.1, behind.1 true more (line ∷ []) hows.End one.2)
  read_line line (inr over) one = absurd (no_more old new more left line over.0 one)

  -- a read failed
  pub read_failed : HasReadLines old gave left_old before → Comes true false old more (ended hows.Failed) → AreLiveLines false (gave ++ more) before hows.Failed
  read_failed (inl behind) comes = subst (λ (ls : List Line). Comes true false start (gave ++ more) (of_lines ls hows.Failed)) (append-nil before) (behind.1 false more [] hows.Failed comes)
  read_failed (inr over) comes = let e : hows.Failed ≡ hows.End = same_ending hows.Failed hows.End (subst (λ (s : State). Comes true false s more (ended hows.Failed)) over.0 comes) in cc

-- an ending comes, with these octets left
ends_whole : (old new : State) (more rest : List ℕ) (ending : How) → HasEnded true old new more (Some rest) ending → Comes true true old (more ++ rest) (ended ending)
ends_whole old new more rest ending has = elim has.1 [
  | inl whatever ↦ whatever true rest
  | inr nothing ↦ subst (λ (l : List ℕ). Comes true true old l (ended ending)) (sym (ap (λ (l : List ℕ). more ++ l) nothing.0 ∙ append-nil more)) nothing.1
]

module _ (old new : State) (gave more : List ℕ) (left_old : Option (List ℕ)) (before : List Line) (ending : How) where
  whole_at : (left : Option (List ℕ)) → HasReadLines old gave left_old before → HasEnded true old new more left ending → Takes left_old left more → IfSome (in_front gave (in_front more left)) (λ octets. AreLiveLines true octets before ending)
  whole_at None heard has takes = tt
  whole_at (Some rest) (inl behind) has takes =
      subst (λ (ls : List Line). Comes true true start (gave ++ (more ++ rest)) (of_lines ls ending)) (append-nil before)
      (behind.1 true (more ++ rest) [] ending (ends_whole old new more rest ending has))
  whole_at (Some rest) (inr over) has takes =
      let none : more ++ rest ≡ [] = subst (λ (o : Option (List ℕ)). IfSome o (λ l. l ≡ [])) takes over.1 in
      let ending_is : ending ≡ hows.End = same_ending ending hows.End (subst (λ (s : State). Comes true true s (more ++ rest) (ended ending)) over.0 (ends_whole old new more rest ending has)) in
      subst (λ (h : How). Comes true true start (gave ++ (more ++ rest)) (of_lines before h)) (sym ending_is)
      (subst (λ (l : List ℕ). Comes true true start l (of_lines before hows.End)) (sym (ap (λ (l : List ℕ). gave ++ l) none ∙ append-nil gave)) over.2)

  -- the input ended, and all that was left at first is these lines and ends so
  pub read_end : (first left : Option (List ℕ)) → HasReadLines old gave left_old before → HasEnded true old new more left ending → Takes first left_old gave → Takes left_old left more → IfSome first (λ octets. AreLiveLines true octets before ending)
  read_end first left heard has took takes =
      subst (λ (o : Option (List ℕ)). IfSome o (λ octets. AreLiveLines true octets before ending)) (sym (took ∙ ap (in_front gave) takes)) (whole_at left heard has takes)

-- Behind the end of the input nothing but that end comes.
over_ends : (old new : State) (more : List ℕ) (left : Option (List ℕ)) (ending : How) → old ≡ Ended hows.End → HasEnded true old new more left ending → ending ≡ hows.End
over_ends old new more left ending is has = elim has.1 [
  | inl whatever ↦ same_ending ending hows.End (subst (λ (s : State). Comes true true s (more ++ []) (ended ending)) is (whatever true []))
  | inr nothing ↦ same_ending ending hows.End (subst (λ (s : State). Comes true true s more (ended ending)) is nothing.1)
]

-- From the place of a line at fault on no more was taken than the longest line and one piece have.
pub read_near : (old new : State) (gave more : List ℕ) (left_old left : Option (List ℕ)) (before : List Line) (ending : How) (at : ℕ) → HasReadLines old gave left_old before → HasEnded true old new more left ending → IsFaultAt ending at → length (gave ++ more) ≤ at + longest_reach
read_near old new gave more left_old left before ending at (inl behind) has fault =
    let bound = has.2 at fault in
    omega (arith, bound, behind.2, length-append gave more)
read_near old new gave more left_old left before ending at (inr over) has fault =
    absurd (subst (λ (h : How). IsFaultAt h at) (over_ends old new more left ending over.0 has) fault)

module _ (state : State) (gave : List ℕ) (lines : List Line) where
  first_at : (left : Option (List ℕ)) → HasReadLines state gave left lines → AreFirst (AreLiveLines true) (in_front gave left) lines
  first_at None heard = tt
  first_at (Some rest) (inl behind) =
      let later = some_later true true behind.0.0 (behind.0.1 ++ rest) in
      let comes : Comes true true state rest (of_lines later.0 later.1) = subst (λ (s : State). Comes true true s rest (of_lines later.0 later.1)) (sym behind.0.2) later.2 in
      record { behind = later.0; ending = later.1; read = behind.1 true rest later.0 later.1 comes }
  first_at (Some rest) (inr over) = record {
    behind = [];
    ending = hows.End;
    read = subst (λ (ls : List Line). Comes true true start (gave ++ rest) (of_lines ls hows.End)) (sym (append-nil lines))
        (subst (λ (l : List ℕ). Comes true true start l (of_lines lines hows.End)) (sym (ap (λ (l : List ℕ). gave ++ l) over.1 ∙ append-nil gave)) over.2);
  }

  -- the lines stand in front of what the source had left
  pub read_first : (first left : Option (List ℕ)) → HasReadLines state gave left lines → Takes first left gave → AreFirst (AreLiveLines true) first lines
  read_first first left heard takes = subst (λ (o : Option (List ℕ)). AreFirst (AreLiveLines true) o lines) (sym takes) (first_at left heard)
