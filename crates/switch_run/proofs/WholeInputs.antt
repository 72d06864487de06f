-- What is a whole input isn't malformed too.
use Rattle.std.proofs.Common.{◌≡◌, ℕ, ◌||◌, Bool, true, false, List, [], ◌∷◌, map, refl, sym, ap, ◌∙◌, subst, ◌⊎◌, inl, inr, Option, Some, None, IfSome, IsSomeAnd}
use Rattle.std.specs.List.{list_any}
use Rattle.std.proofs.lemmas.List.Folds.{list_any_none}
use Rattle.savi_kinds.specs.declared.plan.Format.{Format}
use Rattle.savi_kinds.specs.declared.plan.Format.TheVariants.{Pcap, Stream}
use Rattle.savi_kinds.specs.declared.entry.How.{How}
use Rattle.savi_kinds.specs.declared.entry.How.TheVariants as hows
use Rattle.savi_kinds.specs.Arrivals.{Arrival, Input}
use Rattle.savi_ends.specs.Places.{Place}
use Rattle.pcap_io.specs.Kinds.{classic_kinds}
use Rattle.pcap_io.specs.Runs.{Arrive}
use Rattle.pcap_io.proofs.Uniqueness as captures
use Rattle.stream_io.specs.Streams as stream
use Rattle.stream_io.proofs.Uniqueness as streams
use Rattle.port_reader.specs.Inputs.{AreArrivals, FitsRead, IsReadWhole}
use Rattle.port_reader.specs.Judging.{EnteredRow}
use Rattle.cli_lang.specs.Arrivals.{Line, IsRun, stamped_by}
use Rattle.cli_lang.specs.Arrivals as control
use Rattle.cli_lang.proofs.Uniqueness as lines_once
use Rattle.savi_history.specs.ControlFits.{FitsControl, HasNoQuit}
use Rattle.savi_history.specs.ControlInputs.{is_quit}
use Rattle.savi_history.specs.Endings.{is_malformed_reason}
use Rattle.savi_history.specs.Fits.{Fits, IsWhole}
use Rattle.control_reader.specs.LiveLines.{AreLiveLines}
use Rattle.port_worker.specs.ControlServed.{AreLines}
use Rattle.port_worker.specs.Served.{IsInputOf}
use Rattle.run_config.specs.Configs.{OfText}
use Rattle.switch_run.specs.Unhindered.{AreWholeLines, IsWholeInput, Tells}

-- an end doesn't tell that it is malformed
not_end : (how : How) → is_malformed_reason how ≡ true → hows.End ≡ how → ⊥
not_end how reason same = let end : false ≡ true = ap is_malformed_reason same ∙ reason in cc

-- no list of octets is a whole input of a format, and malformed

abbrev input_of : List Arrival → How → Input
input_of arrivals ending = record { arrivals = arrivals; ending = ending }

arrivals_once : (format : Format) (octets : List ℕ) (whole other : List Arrival) (how : How) → AreArrivals format true octets whole hows.End → AreArrivals format true octets other how → hows.End ≡ how
arrivals_once Pcap octets whole other how one also =
    ap (λ (i : Input). i.ending) (captures.one_input classic_kinds true octets (input_of whole hows.End) (input_of other how) one also)
arrivals_once Stream octets whole other how one also =
    let first : stream.Arrive true [] octets (input_of [] hows.End) = record { whole = whole; run = one; stamps = refl } in
    let second : stream.Arrive true [] octets (input_of [] how) = record { whole = other; run = also; stamps = refl } in
    ap (λ (i : Input). i.ending) (streams.one_input true [] octets (input_of [] hows.End) (input_of [] how) first second)

read_to_end : (format : Format) (before : Option (List ℕ)) (arrivals : List Arrival) (how : How) → is_malformed_reason how ≡ true → IsReadWhole format before arrivals how → IsSomeAnd before (IsWholeInput format) → ⊥
read_to_end format None arrivals how reason fits whole = whole
read_to_end format (Some octets) arrivals how reason fits whole = not_end how reason (arrivals_once format octets whole.0 arrivals how whole.1 fits)

pub whole_not_malformed : (format : Format) (before after : Option (List ℕ)) (arrivals : List Arrival) (how : How) → is_malformed_reason how ≡ true → FitsRead format before after arrivals how → IsSomeAnd before (IsWholeInput format) → ⊥
whole_not_malformed format before after arrivals hows.End reason fits whole = cc
whole_not_malformed format before after arrivals hows.Quit reason fits whole = cc
whole_not_malformed format before after arrivals (hows.Malformed at) reason fits whole = read_to_end format before arrivals (hows.Malformed at) reason fits whole
whole_not_malformed format before after arrivals (hows.Overlong at) reason fits whole = fits
whole_not_malformed format before after arrivals hows.Failed reason fits whole = cc
whole_not_malformed format before after arrivals hows.Unwritten reason fits whole = cc
whole_not_malformed format before after arrivals hows.Paused reason fits whole = cc

-- the same of what was entered of an input in a live session
pub whole_not_entered_malformed : {S C : Type 0} (left : S → Option (List ℕ)) (faults : S → ℕ) (readings : C → Option (List ℕ)) (format : Format) (entered : List Arrival) (how : How) (source source' : S) (clock clock' : C) → is_malformed_reason how ≡ true
    → EnteredRow left faults readings format entered (Some how) source source' clock clock' → IsSomeAnd (left source) (IsWholeInput format) → ⊥
whole_not_entered_malformed left faults readings format entered how source source' clock clock' reason row whole =
    let both : Some how ≡ Some row.0 = row.1 in
    let same : row.0 ≡ how = cc in
    whole_not_malformed format (left source) (left source') entered row.0 (ap is_malformed_reason same ∙ reason) row.2.fits whole

-- of that of a replay
pub whole_not_replayed_malformed : (before after : Option (List ℕ)) (arrivals : List Arrival) (how : How) → is_malformed_reason how ≡ true → Fits (AreArrivals Pcap) before after arrivals (Some how) → IsSomeAnd before (IsWholeInput Pcap) → ⊥
whole_not_replayed_malformed before after arrivals hows.End reason fits whole = cc
whole_not_replayed_malformed before after arrivals hows.Quit reason fits whole = cc
whole_not_replayed_malformed before after arrivals (hows.Malformed at) reason fits whole = read_to_end Pcap before arrivals (hows.Malformed at) reason fits whole
whole_not_replayed_malformed before after arrivals (hows.Overlong at) reason fits whole = fits
whole_not_replayed_malformed before after arrivals hows.Failed reason fits whole = cc
whole_not_replayed_malformed before after arrivals hows.Unwritten reason fits whole = cc
whole_not_replayed_malformed before after arrivals hows.Paused reason fits whole = cc

-- and of that which learning heard
pub whole_not_heard_malformed : (before after : Option (List ℕ)) (ended_so : Option How) (arrivals : List Arrival) (how : How) → is_malformed_reason how ≡ true → IsInputOf (Arrive classic_kinds) before after ended_so arrivals how → IsSomeAnd before (IsWholeInput Pcap) → ⊥
whole_not_heard_malformed before after ended_so arrivals hows.End reason gave whole = cc
whole_not_heard_malformed before after ended_so arrivals hows.Quit reason gave whole = cc
whole_not_heard_malformed before after ended_so arrivals (hows.Malformed at) reason gave whole = read_to_end Pcap before arrivals (hows.Malformed at) reason gave whole
whole_not_heard_malformed before after ended_so arrivals (hows.Overlong at) reason gave whole = gave
whole_not_heard_malformed before after ended_so arrivals hows.Failed reason gave whole = cc
whole_not_heard_malformed before after ended_so arrivals hows.Unwritten reason gave whole = cc
whole_not_heard_malformed before after ended_so arrivals hows.Paused reason gave whole = cc

-- nor whole lines, and malformed without a `quit`

or_through : (a b c : Bool) → (b ≡ true → c ≡ true) → (a || b) ≡ true → (a || c) ≡ true
or_through true b c through is = refl
or_through false b c through is = through is

abbrev stamps_of : List Line → List ℕ
stamps_of lines = map (λ (line : Line). line.stamp) lines

-- lines with their own stamps hold a `quit` that they hold
quit_stamped : (live : Bool) (lines : List Line) → list_any is_quit lines ≡ true → list_any is_quit (stamped_by live (stamps_of lines) lines) ≡ true
quit_stamped false lines is = is
quit_stamped true [] is = is
quit_stamped true (line ∷ lines) is = or_through (is_quit line) (list_any is_quit lines) (list_any is_quit (stamped_by true (stamps_of lines) lines)) (quit_stamped true lines) is

-- lines hold a `quit` that they hold with some stamps
quit_unstamped : (live : Bool) (readings : List ℕ) (lines : List Line) → list_any is_quit (stamped_by live readings lines) ≡ true → list_any is_quit lines ≡ true
quit_unstamped false readings lines is = is
quit_unstamped true [] lines is = cc
quit_unstamped true (reading ∷ readings) [] is = is
quit_unstamped true (reading ∷ readings) (line ∷ lines) is = or_through (is_quit line) (list_any is_quit (stamped_by true readings lines)) (list_any is_quit lines) (quit_unstamped true readings lines) is

abbrev lines_input : List Line → How → control.Input
lines_input lines ending = record { arrivals = lines; ending = ending }

lines_once_of : (live : Bool) (octets : List ℕ) (whole : AreWholeLines live octets) (lines : List Line) (how : How) → IsRun live true 0 lines how octets → lines_input (stamped_by live (stamps_of whole.lines) whole.lines) whole.ending ≡ lines_input (stamped_by live (stamps_of whole.lines) lines) how
lines_once_of live octets whole lines how run =
    let readings = stamps_of whole.lines in
    lines_once.one_input live true readings octets (lines_input (stamped_by live readings whole.lines) whole.ending) (lines_input (stamped_by live readings lines) how)
    (record { whole = whole.lines; run = whole.run; stamps = refl })
    (record { whole = lines; run = run; stamps = refl })

no_quit : (lines : List Line) → HasNoQuit lines → list_any is_quit lines ≡ true → ⊥
no_quit lines none some = let both : true ≡ false = sym some ∙ list_any_none is_quit lines none in cc

closed_not_malformed : (live : Bool) (octets : List ℕ) (whole : AreWholeLines live octets) (lines : List Line) (how : How) → is_malformed_reason how ≡ true → IsRun live true 0 lines how octets → HasNoQuit lines → (whole.ending ≡ hows.End) ⊎ (list_any is_quit whole.lines ≡ true) → ⊥
closed_not_malformed live octets whole lines how reason run none (inl end) = not_end how reason (sym end ∙ ap (λ (i : control.Input). i.ending) (lines_once_of live octets whole lines how run))
closed_not_malformed live octets whole lines how reason run none (inr quit) =
    let readings = stamps_of whole.lines in
    let same : stamped_by live readings whole.lines ≡ stamped_by live readings lines = ap (λ (i : control.Input). i.arrivals) (lines_once_of live octets whole lines how run) in
    no_quit lines none (quit_unstamped live readings lines (subst (λ (l : List Line). list_any is_quit l ≡ true) same (quit_stamped live whole.lines quit)))

lines_at : (live : Bool) (before : Option (List ℕ)) (lines : List Line) (how : How) → is_malformed_reason how ≡ true → IfSome before (λ octets. IsRun live true 0 lines how octets) → HasNoQuit lines → IsSomeAnd before (AreWholeLines live) → ⊥
lines_at live None lines how reason run none whole = whole
lines_at live (Some octets) lines how reason run none whole = closed_not_malformed live octets whole lines how reason run none whole.closed

-- lines that have their stamps in them are a run
run_of : (before : Option (List ℕ)) (lines : List Line) (how : How) → IsWhole (AreLines true) before lines how → IfSome before (λ octets. IsRun false true 0 lines how octets)
run_of None lines how is = tt
run_of (Some octets) lines how is = subst (λ (l : List Line). IsRun false true 0 l how octets) (sym is.stamps) is.run

pub lines_not_malformed : (before after : Option (List ℕ)) (lines : List Line) (how : How) → is_malformed_reason how ≡ true → FitsControl AreLines before after lines (Some how) → IsSomeAnd before (AreWholeLines false) → ⊥
lines_not_malformed before after lines hows.End reason fits whole = cc
lines_not_malformed before after lines hows.Quit reason fits whole = cc
lines_not_malformed before after lines (hows.Malformed at) reason fits whole = lines_at false before lines (hows.Malformed at) reason (run_of before lines (hows.Malformed at) fits.0) fits.1 whole
lines_not_malformed before after lines (hows.Overlong at) reason fits whole = lines_at false before lines (hows.Overlong at) reason (run_of before lines (hows.Overlong at) fits.0) fits.1 whole
lines_not_malformed before after lines hows.Failed reason fits whole = cc
lines_not_malformed before after lines hows.Unwritten reason fits whole = cc
lines_not_malformed before after lines hows.Paused reason fits whole = cc

pub live_not_malformed : (before after : Option (List ℕ)) (lines : List Line) (how : How) → is_malformed_reason how ≡ true → FitsControl AreLiveLines before after lines (Some how) → IsSomeAnd before (AreWholeLines true) → ⊥
live_not_malformed before after lines hows.End reason fits whole = cc
live_not_malformed before after lines hows.Quit reason fits whole = cc
live_not_malformed before after lines (hows.Malformed at) reason fits whole = lines_at true before lines (hows.Malformed at) reason fits.0 fits.1 whole
live_not_malformed before after lines (hows.Overlong at) reason fits whole = lines_at true before lines (hows.Overlong at) reason fits.0 fits.1 whole
live_not_malformed before after lines hows.Failed reason fits whole = cc
live_not_malformed before after lines hows.Unwritten reason fits whole = cc
live_not_malformed before after lines hows.Paused reason fits whole = cc

-- places

told_in : {X : Type 0} (left : X → Option (List ℕ)) (Holds : List ℕ → Type 0) (stands : Option X) (x : X) → IfSome stands (λ told. x ≡ told) → IsSomeAnd stands (λ told. IsSomeAnd (left told) Holds) → IsSomeAnd (left x) Holds
told_in left Holds None x told is = absurd is
told_in {X} left Holds (Some end) x told is = subst (λ (y : X). IsSomeAnd (left y) Holds) (sym told) is

-- what the place tells of its end holds of the end that is handed out
pub told_of : {X : Type 0} (left : X → Option (List ℕ)) (Holds : List ℕ → Type 0) (place : Place X) (x : X) → IfSome place.stands (λ told. x ≡ told) → Tells left place Holds → IsSomeAnd (left x) Holds
told_of left Holds place x told is = told_in left Holds place.stands x told is

both_octets : (left : Option (List ℕ)) (P Q : List ℕ → Type 0) → IfSome left P → IsSomeAnd left Q → (text : List ℕ) × P text × Q text
both_octets None P Q one other = absurd other
both_octets (Some text) P Q one other = (text, one, other)

both_in : {S : Type 0} (left : S → Option (List ℕ)) (P Q : List ℕ → Type 0) (stands : Option S) → IfSome stands (λ told. IfSome (left told) P) → IsSomeAnd stands (λ told. IsSomeAnd (left told) Q) → (text : List ℕ) × P text × Q text
both_in left P Q None one other = absurd other
both_in left P Q (Some told) one other = both_octets (left told) P Q one other

-- what is said of a text where a place tells it, and what is said where it does, is said of one text
pub both_told : {S : Type 0} (left : S → Option (List ℕ)) (P Q : List ℕ → Type 0) (place : Place S) → OfText left place P → Tells left place Q → (text : List ℕ) × P text × Q text
both_told left P Q place one other = both_in left P Q place.stands one other
