-- What was read of control's input, from a new reader on.
use Rattle.std.proofs.Common.{◌≡◌, ◌≤◌, ◌+◌, ◌^◌, ℕ, true, false, List, [], ◌∷◌, ◌++◌, length, refl, sym, ap, ◌∙◌, subst, arith, ◌⊎◌, inl, inr, append-nil, append_assoc, length-append, decimal, Option, Some, None, IfSome}
use Rattle.std.specs.List.{All}
use Rattle.std.proofs.lemmas.List.Elements.{All-cons, All-nil}
use Rattle.std.proofs.lemmas.List.{get_or_append_left}
use Rattle.savi_kinds.specs.declared.entry.How.{How}
use Rattle.savi_kinds.specs.declared.entry.How.TheVariants as hows
use Rattle.savi_kinds.specs.Characters.{space}
use Rattle.savi_ends.specs.Octets.{Takes, NothingLeft, in_front}
use Rattle.cli_lang.specs.Arrivals.{Line, Input, Says, IsRun, EndsAs}
use Rattle.cli_lang.specs.Readers.{State, Running, Ended, Comes, HasRead, HasReadOne, HasEnded, IsFaultAt, longest_reach, octets_taken, ended}
use Rattle.cli_lang.proofs.Existence.{some_later}
use Rattle.savi_history.specs.Readable.{IsControlEnding}
use Rattle.savi_history.specs.Readable.{IsLineInRange as IsReadableLine}

abbrev pub start : State
start = Running 0 []

abbrev IsRunning : State → Type 0
IsRunning state = (place : ℕ) × (held : List ℕ) × (state ≡ Running place held)

-- an input of these lines
abbrev pub of_lines : List Line → How → Input
of_lines lines ending = record { arrivals = lines; ending = ending }

-- These lines were read: whatever comes behind them, they come before it, and the reader took so many octets; or the last
-- one had no line feed, and nothing is left.
abbrev pub HasHeard : State → List ℕ → Option (List ℕ) → List Line → Type 0
HasHeard state gave left lines =
    (IsRunning state × HasRead false start state gave lines × (octets_taken state ≡ length gave)) ⊎ ((state ≡ Ended hows.End) × NothingLeft left × Comes false true start gave (of_lines lines hows.End))

pub heard_none : (left : Option (List ℕ)) → HasHeard start [] left []
heard_none left = inl ((0, [], refl), (λ seen rest later ending comes. comes), refl)

no_lines : (line : Line) (lines : List Line) (ending how : How) → of_lines (line ∷ lines) ending ≡ ended how → ⊥
no_lines line lines ending how same = let e = ap (λ (i : Input). i.arrivals) same in cc

same_ending : (one other : How) → ended one ≡ ended other → one ≡ other
same_ending one other same = ap (λ (i : Input). i.ending) same

-- behind the end no line comes
no_more : (old new : State) (more : List ℕ) (left : Option (List ℕ)) (line : Line) → old ≡ Ended hows.End → HasReadOne false old new more left line → ⊥
no_more old new more left line is (inl one) =
    let place = one.0.0 in
    let held = one.0.1 in
    let later = some_later false true place (held ++ []) in
    let comes : Comes false true new [] (of_lines later.0 later.1) = subst (λ (s : State). Comes false true s [] (of_lines later.0 later.1)) (sym one.0.2) later.2 in
    no_lines line later.0 later.1 hows.End (subst (λ (s : State). Comes false true s (more ++ []) (of_lines (line ∷ later.0) later.1)) is (one.1 true [] later.0 later.1 comes))
no_more old new more left line is (inr one) = no_lines line [] hows.End hows.End (subst (λ (s : State). Comes false true s more (of_lines (line ∷ []) hows.End)) is one.2)

module _ (old new : State) (gave more : List ℕ) (left_old left : Option (List ℕ)) (before : List Line) where
  pub heard_line : (line : Line) → HasHeard old gave left_old before → HasReadOne false old new more left line → HasHeard new (gave ++ more) left (before ++ line ∷ [])
  heard_line line (inl behind) (inl one) = inl (
    one.0,
    (λ seen rest later ending comes.
        subst (λ (l : List ℕ). Comes false seen start l (of_lines ((before ++ line ∷ []) ++ later) ending)) (sym (append_assoc gave more rest))
        (subst (λ (ls : List Line). Comes false seen start (gave ++ (more ++ rest)) (of_lines ls ending)) (sym (append_assoc before (line ∷ []) later))
        (behind.1 seen (more ++ rest) (line ∷ later) ending (one.1 seen rest later ending comes)))),
    omega (arith, one.2, behind.2, length-append gave more),
  )
  heard_line line (inl behind) (inr one) = inr (one.0, one.1, behind.1 true more (line ∷ []) hows.End one.2)
  heard_line line (inr over) one = absurd (no_more old new more left line over.0 one)

  -- a read failed
  pub heard_failed : HasHeard old gave left_old before → Comes false false old more (ended hows.Failed) → Comes false false start (gave ++ more) (of_lines before hows.Failed)
  heard_failed (inl behind) comes = subst (λ (ls : List Line). Comes false false start (gave ++ more) (of_lines ls hows.Failed)) (append-nil before) (behind.1 false more [] hows.Failed comes)
  heard_failed (inr over) comes = let e : hows.Failed ≡ hows.End = same_ending hows.Failed hows.End (subst (λ (s : State). Comes false false s more (ended hows.Failed)) over.0 comes) in cc

-- an ending comes, with these octets left
ends_whole : (old new : State) (more rest : List ℕ) (ending : How) → HasEnded false old new more (Some rest) ending → Comes false true old (more ++ rest) (ended ending)
ends_whole old new more rest ending has = elim has.1 [
  | inl whatever ↦ whatever true rest
  | inr nothing ↦ subst (λ (l : List ℕ). Comes false true old l (ended ending)) (sym (ap (λ (l : List ℕ). more ++ l) nothing.0 ∙ append-nil more)) nothing.1
]

module _ (old new : State) (gave more : List ℕ) (left_old : Option (List ℕ)) (before : List Line) (ending : How) where
  whole_at : (left : Option (List ℕ)) → HasHeard old gave left_old before → HasEnded false old new more left ending → Takes left_old left more → IfSome (in_front gave (in_front more left)) (λ octets. Comes false true start octets (of_lines before ending))
  whole_at None heard has takes = tt
  whole_at (Some rest) (inl behind) has takes =
      subst (λ (ls : List Line). Comes false true start (gave ++ (more ++ rest)) (of_lines ls ending)) (append-nil before)
      (behind.1 true (more ++ rest) [] ending (ends_whole old new more rest ending has))
  whole_at (Some rest) (inr over) has takes =
      let none : more ++ rest ≡ [] = subst (λ (o : Option (List ℕ)). IfSome o (λ l. l ≡ [])) takes over.1 in
      let ending_is : ending ≡ hows.End = same_ending ending hows.End (subst (λ (s : State). Comes false true s (more ++ rest) (ended ending)) over.0 (ends_whole old new more rest ending has)) in
      subst (λ (h : How). Comes false true start (gave ++ (more ++ rest)) (of_lines before h)) (sym ending_is)
      (subst (λ (l : List ℕ). Comes false true start l (of_lines before hows.End)) (sym (ap (λ (l : List ℕ). gave ++ l) none ∙ append-nil gave)) over.2)

  -- the input ended, and all that was left at first is these lines and ends so
  pub heard_end : (first left : Option (List ℕ)) → HasHeard old gave left_old before → HasEnded false old new more left ending → Takes first left_old gave → Takes left_old left more → IfSome first (λ octets. Comes false true start octets (of_lines before ending))
  heard_end first left heard has took takes =
      subst (λ (o : Option (List ℕ)). IfSome o (λ octets. Comes false true start octets (of_lines before ending))) (sym (took ∙ ap (in_front gave) takes)) (whole_at left heard has takes)

-- Behind the end of the input nothing but that end comes.
over_ends : (old new : State) (more : List ℕ) (left : Option (List ℕ)) (ending : How) → old ≡ Ended hows.End → HasEnded false old new more left ending → ending ≡ hows.End
over_ends old new more left ending is has = elim has.1 [
  | inl whatever ↦ same_ending ending hows.End (subst (λ (s : State). Comes false true s (more ++ []) (ended ending)) is (whatever true []))
  | inr nothing ↦ same_ending ending hows.End (subst (λ (s : State). Comes false true s more (ended ending)) is nothing.1)
]

-- From the place of a line at fault on no more was taken than the longest line and one piece have.
pub heard_near : (old new : State) (gave more : List ℕ) (left_old left : Option (List ℕ)) (before : List Line) (ending : How) (at : ℕ) → HasHeard old gave left_old before → HasEnded false old new more left ending → IsFaultAt ending at → length (gave ++ more) ≤ at + longest_reach
heard_near old new gave more left_old left before ending at (inl behind) has fault =
    let bound = has.2 at fault in
    omega (arith, bound, behind.2, length-append gave more)
heard_near old new gave more left_old left before ending at (inr over) has fault =
    absurd (subst (λ (h : How). IsFaultAt h at) (over_ends old new more left ending over.0 has) fault)

-- how an input ends that was seen to end
abbrev pub IsSeenEnd : How → Type 0
IsSeenEnd hows.End = Unit {0}
IsSeenEnd hows.Quit = ⊥
IsSeenEnd (hows.Malformed at) = Unit {0}
IsSeenEnd (hows.Overlong at) = Unit {0}
IsSeenEnd hows.Failed = ⊥
IsSeenEnd hows.Unwritten = ⊥
IsSeenEnd hows.Paused = ⊥

seen_end : (place : ℕ) (ending : How) (octets : List ℕ) → EndsAs false true place ending octets → IsSeenEnd ending
seen_end place hows.End octets ends = tt
seen_end place hows.Quit octets ends = ends
seen_end place (hows.Malformed at) octets ends = tt
seen_end place (hows.Overlong at) octets ends = tt
seen_end place hows.Failed octets ends = let e = ends.0 in cc
seen_end place hows.Unwritten octets ends = ends
seen_end place hows.Paused octets ends = ends

run_ends : (lines : List Line) (place : ℕ) (ending : How) (octets : List ℕ) → IsRun false true place lines ending octets → IsSeenEnd ending
run_ends [] place ending octets run = seen_end place ending octets run
run_ends (line ∷ lines) place ending octets run = run_ends lines (place + length run.0) ending run.1 run.4

-- what a run holds a reader may give
line_readable : (text : List ℕ) (line : Line) → length text ≤ 120 → Says false text line → IsReadableLine line
line_readable text line short says =
    let sizes = length-append (decimal line.stamp) (space ∷ line.command) in
    let size : length text ≡ length (decimal line.stamp ++ (space ∷ line.command)) = ap (λ (l : List ℕ). length l) says.0 in
    (says.1, omega (arith, sizes, size, short))

pub run_lines : (lines : List Line) (place : ℕ) (ending : How) (octets : List ℕ) → IsRun false true place lines ending octets → All IsReadableLine lines
run_lines [] place ending octets run = All-nil IsReadableLine
run_lines (line ∷ lines) place ending octets run = All-cons IsReadableLine line lines (line_readable run.3.0 line run.3.1.short run.3.2) (run_lines lines (place + length run.0) ending run.1 run.4)

end_readable : (place : ℕ) (ending : How) (octets : List ℕ) → place ≤ 2 ^ 62 → EndsAs false true place ending octets → IsControlEnding ending
end_readable place hows.End octets low ends = tt
end_readable place hows.Quit octets low ends = ends
end_readable place (hows.Malformed at) octets low ends = let e = ends.0 in omega arith
end_readable place (hows.Overlong at) octets low ends = let e = ends.0 in omega arith
end_readable place hows.Failed octets low ends = tt
end_readable place hows.Unwritten octets low ends = ends
end_readable place hows.Paused octets low ends = ends

run_readable : (lines : List Line) (place : ℕ) (ending : How) (octets : List ℕ) → place ≤ 2 ^ 62 → IsRun false true place lines ending octets → IsControlEnding ending
run_readable [] place ending octets low run = end_readable place ending octets low run
run_readable (line ∷ lines) place ending octets low run = run_readable lines (place + length run.0) ending run.1 run.3.3 run.4

-- The octets behind the lines that were read are some lines more, and end.
pub record Whole (first : Option (List ℕ)) (lines : List Line) : Type 0 where
  pub behind : List Line
  pub ending : How
  pub seen : IsSeenEnd ending
  pub readable : All IsReadableLine (lines ++ behind)
  pub fine : IsControlEnding ending
  pub whole : IfSome first (λ octets. Comes false true start octets (of_lines (lines ++ behind) ending))

all_front : {X : Type 0} (P : X → Type 0) (xs ys : List X) → All P (xs ++ ys) → All P xs
all_front P xs ys all k d inside =
    let sizes = length-append xs ys in
    subst P (get_or_append_left xs ys d k inside) (all k d (omega arith))

pub heard_lines : (state : State) (gave : List ℕ) (left : Option (List ℕ)) (lines : List Line) → HasHeard state gave left lines → All IsReadableLine lines
heard_lines state gave left lines (inl behind) =
    let later = some_later false true behind.0.0 (behind.0.1 ++ []) in
    let comes : Comes false true state [] (of_lines later.0 later.1) = subst (λ (s : State). Comes false true s [] (of_lines later.0 later.1)) (sym behind.0.2) later.2 in
    all_front IsReadableLine lines later.0 (run_lines (lines ++ later.0) 0 later.1 (gave ++ []) (behind.1 true [] later.0 later.1 comes))
heard_lines state gave left lines (inr over) = run_lines lines 0 hows.End gave over.2

module _ (state : State) (gave : List ℕ) (lines : List Line) where
  some_at : (left : Option (List ℕ)) → HasHeard state gave left lines → Whole (in_front gave left) lines
  some_at None heard = record { behind = []; ending = hows.End; seen = tt; readable = subst (λ (ls : List Line). All IsReadableLine ls) (sym (append-nil lines)) (heard_lines state gave None lines heard); fine = tt; whole = tt }
  some_at (Some rest) (inl behind) =
      let place = behind.0.0 in
      let held = behind.0.1 in
      let later = some_later false true place (held ++ rest) in
      let comes : Comes false true state rest (of_lines later.0 later.1) = subst (λ (s : State). Comes false true s rest (of_lines later.0 later.1)) (sym behind.0.2) later.2 in
      record {
        behind = later.0;
        ending = later.1;
        seen = run_ends later.0 place later.1 (held ++ rest) later.2;
        readable = run_lines (lines ++ later.0) 0 later.1 (gave ++ rest) (behind.1 true rest later.0 later.1 comes);
        fine = run_readable (lines ++ later.0) 0 later.1 (gave ++ rest) (omega arith) (behind.1 true rest later.0 later.1 comes);
        whole = behind.1 true rest later.0 later.1 comes;
      }
  some_at (Some rest) (inr over) = record {
    behind = [];
    ending = hows.End;
    seen = tt;
    readable = subst (λ (ls : List Line). All IsReadableLine ls) (sym (append-nil lines)) (run_lines lines 0 hows.End gave over.2);
    fine = tt;
    whole = subst (λ (ls : List Line). Comes false true start (gave ++ rest) (of_lines ls hows.End)) (sym (append-nil lines))
        (subst (λ (l : List ℕ). Comes false true start l (of_lines lines hows.End)) (sym (ap (λ (l : List ℕ). gave ++ l) over.1 ∙ append-nil gave)) over.2);
  }

  pub some_whole : (first left : Option (List ℕ)) → HasHeard state gave left lines → Takes first left gave → Whole first lines
  some_whole first left heard takes = subst (λ (o : Option (List ℕ)). Whole o lines) (sym takes) (some_at left heard)
