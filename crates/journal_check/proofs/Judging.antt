-- What a line comes to, by what was read of it and what came of its event.
use Rattle.std.proofs.Common.{◌≡◌, ◌≢◌, ℕ, List, [], ◌∷◌, ◌++◌, length, decimal, codes, Some, refl, ap, ap₂, sym, ◌∙◌, inl, inr, subst, append-nil, arith}
use Rattle.savi_kinds.specs.declared.plan.Plan.{Plan}
use Rattle.savi_kinds.specs.declared.entry.Entry.{Entry}
use Rattle.savi_kinds.specs.declared.entry.Act.{Act}
use Rattle.savi_kinds.specs.declared.entry.Act.TheVariants as acts
use Rattle.hist_store.specs.Rows.{Row}
use Rattle.hist_store.specs.LineTexts.{FitsAct, FitsLine, line_fields}
use Rattle.hist_store.specs.EntryLines.{IsActInRange, SaysEntry, act_said, entry_said, row_said}
use Rattle.hist_store.specs.JournalTexts.{journal_end_text}
use Rattle.hist_store.proofs.EntryRead.{entry_same}
use Rattle.hist_store.proofs.OneEntry.{one_entry}
use Rattle.checkpoint.specs.Bases.{Base}
use Rattle.savi_history.specs.Events.{row_of}
use Rattle.savi_core.specs.Machines.{Machine, base_of}
use Rattle.savi_core.specs.Steps.{entry_of}
use Rattle.journal_check.specs.declared.putting.Put.TheVariants.{Entered, Never, Other}
use Rattle.journal_check.specs.declared.turns.Turn.TheVariants as turns
use Rattle.journal_check.specs.Differing.{event_by, first_apart, letter_of, IsSameComputed}
use Rattle.journal_check.specs.Puts.{Puts}
use Rattle.journal_check.specs.Turns.{SaysNothing, SaysWrong, MadeTurn}
use Rattle.journal_check.proofs.ShortFields.{the_row}
use Rattle.journal_check.proofs.OneAnswer.{entry_not_last}

-- a line of an entry with another number
pub other_number : (plan : Plan) (base : Base) (past : List Row) (line : List ℕ) (n : ℕ) (row : Row) → SaysEntry line n row → n ≢ length past → SaysNothing plan base past line
other_number plan base past line n row says other = record {
  entry = λ row' says'. other (one_entry line n (length past) row row' says says').0;
  last = λ finished e. entry_not_last line n (length past) row [] [] says (ap (λ (l : List ℕ). l ++ 10 ∷ []) e ∙ sym (append-nil (journal_end_text (length past))));
}

-- the row of an event, as its line says it

pub act_row : (plan : Plan) (base : Base) (past : List Row) (entry : Entry) (octets : List ℕ) (act : Act) → IsActInRange act → FitsAct entry octets act → act_said (row_of plan base past (event_by act octets)).entry.act ≡ act
act_row plan base past entry octets (acts.Frame port stamp at len) range fits = ap₂ (λ (a b : ℕ). acts.Frame port stamp a b) (sym range.1) fits.1
act_row plan base past entry octets (acts.Long port stamp len) range fits = refl
act_row plan base past entry octets (acts.Tick stamp) range fits = refl
act_row plan base past entry octets (acts.Command stamp at len) range fits = ap₂ (λ (a b : ℕ). acts.Command stamp a b) (sym range.1) fits.2
act_row plan base past entry octets (acts.Drain port count) range fits = refl
act_row plan base past entry octets (acts.End who how) range fits = refl

octets_row : (plan : Plan) (base : Base) (past : List Row) (entry : Entry) (octets : List ℕ) (act : Act) → FitsAct entry octets act → (row_of plan base past (event_by act octets)).octets ≡ octets
octets_row plan base past entry octets (acts.Frame port stamp at len) fits = refl
octets_row plan base past entry octets (acts.Long port stamp len) fits = sym fits.2
octets_row plan base past entry octets (acts.Tick stamp) fits = sym fits.2
octets_row plan base past entry octets (acts.Command stamp at len) fits = refl
octets_row plan base past entry octets (acts.Drain port count) fits = sym fits.3
octets_row plan base past entry octets (acts.End who how) fits = sym fits.3

row_is : (m : Machine) (entry : Entry) (octets : List ℕ) (line : List ℕ) → SaysEntry line (length m.past) (the_row entry octets) → IsSameComputed (entry_of m (event_by entry.act octets)) entry
    → row_said (row_of m.plan (base_of m) m.past (event_by entry.act octets)) ≡ the_row entry octets
row_is m entry octets line says same =
    let row = row_of m.plan (base_of m) m.past (event_by entry.act octets) in
    let act = act_row m.plan (base_of m) m.past entry octets entry.act says.numbers.act says.fits in
    let kept = octets_row m.plan (base_of m) m.past entry octets entry.act says.fits in
    let whole : entry_said row.entry ≡ entry = entry_same (entry_said row.entry) entry same.by same.moment act same.verdict same.queued.outs same.queued.cuts same.queued.probes same.queued.lost in
    ap₂ the_row whole kept

pub judged_stands : (m new : Machine) (line : List ℕ) (entry want : Entry) (octets : List ℕ) → SaysEntry line (length m.past) (the_row entry octets)
    → Puts m (event_by entry.act octets) new (Entered want) → IsSameComputed want entry → MadeTurn m line new turns.Stands
judged_stands m new line entry want octets says put same =
    let event = event_by entry.act octets in
    let row = row_of m.plan (base_of m) m.past event in
    let computed : IsSameComputed (entry_of m event) entry = subst (λ (e : Entry). IsSameComputed e entry) put.2 same in
    let is = row_is m entry octets line says computed in
    (row, record { stands = (event, put.0, refl); says = subst (λ (r : Row). SaysEntry line (length m.past) r) (sym is) says }, put.1)

-- The row of an event is all in its line.
pub row_fits : (plan : Plan) (base : Base) (past : List Row) (entry : Entry) (octets : List ℕ) (act : Act) → FitsAct entry octets act
    → FitsAct (row_of plan base past (event_by act octets)).entry octets (row_of plan base past (event_by act octets)).entry.act
row_fits plan base past entry octets (acts.Frame port stamp at len) fits = let counted = fits.1 in let few = fits.2 in (refl, refl, omega (arith, counted, few))
row_fits plan base past entry octets (acts.Long port stamp len) fits = (refl, (refl, refl), fits.2)
row_fits plan base past entry octets (acts.Tick stamp) fits = (refl, (refl, refl), fits.2)
row_fits plan base past entry octets (acts.Command stamp at len) fits = let counted = fits.2 in let few = fits.3 in (refl, (refl, refl), refl, omega (arith, counted, few))
row_fits plan base past entry octets (acts.Drain port count) fits = (refl, (refl, refl), (refl, refl), fits.3)
row_fits plan base past entry octets (acts.End who how) fits = (refl, (refl, refl), (refl, refl), fits.3, fits.4)

-- the entry that was entered fits its line, and has the act that the line says
pub entered_fits : (m new : Machine) (entry want : Entry) (octets : List ℕ) → FitsAct entry octets entry.act → Puts m (event_by entry.act octets) new (Entered want) → FitsLine (the_row want octets)
entered_fits m new entry want octets fits put = subst (λ (e : Entry). FitsLine (the_row e octets)) (sym put.2) (row_fits m.plan (base_of m) m.past entry octets entry.act fits)

pub entered_act : (m new : Machine) (entry want : Entry) (octets : List ℕ) → IsActInRange entry.act → FitsAct entry octets entry.act → Puts m (event_by entry.act octets) new (Entered want) → act_said want.act ≡ entry.act
entered_act m new entry want octets range fits put = ap (λ (e : Entry). act_said e.act) put.2 ∙ act_row m.plan (base_of m) m.past entry octets entry.act range fits

-- an entry that differs from the one that was entered
pub judged_apart : (m new : Machine) (line : List ℕ) (entry want : Entry) (octets a b : List ℕ) → SaysEntry line (length m.past) (the_row entry octets) → Puts m (event_by entry.act octets) new (Entered want)
    → first_apart (line_fields (length m.past) (the_row want octets)) (line_fields (length m.past) (the_row entry octets)) ≡ Some (a, b) → SaysWrong m.plan (base_of m) m.past line a b
judged_apart m new line entry want octets a b says put apart =
    let event = event_by entry.act octets in
    let n = length m.past in
    let row : row_of m.plan (base_of m) m.past event ≡ the_row want octets = ap₂ the_row (sym put.2) (octets_row m.plan (base_of m) m.past entry octets entry.act says.fits) in
    record {
      row = the_row entry octets;
      says = says;
      differs = inr (inr (record { may = put.0; apart = ap (λ (r : Row). first_apart (line_fields n r) (line_fields n (the_row entry octets))) row ∙ apart }));
    }

-- an entry of an event that may not come
pub judged_never : (m new : Machine) (line : List ℕ) (entry : Entry) (octets a b : List ℕ) → SaysEntry line (length m.past) (the_row entry octets) → Puts m (event_by entry.act octets) new Never
    → a ≡ codes "none" → b ≡ letter_of entry.act → SaysWrong m.plan (base_of m) m.past line a b
judged_never m new line entry octets a b says put none letter =
    record { row = the_row entry octets; says = says; differs = inl (record { never = put.0; no_number = put.1; want_none = none; have_letter = letter }) }

-- an entry of an event that may come with another number
pub judged_other : (m new : Machine) (line : List ℕ) (entry : Entry) (octets a b : List ℕ) (want have : ℕ) → SaysEntry line (length m.past) (the_row entry octets) → Puts m (event_by entry.act octets) new (Other want have)
    → a ≡ decimal want → b ≡ decimal have → SaysWrong m.plan (base_of m) m.past line a b
judged_other m new line entry octets a b want have says put wants haves =
    record { row = the_row entry octets; says = says; differs = inr (inl (record { wanted = want; given = have; wants = put.0; want_number = wants; have_number = haves })) }
