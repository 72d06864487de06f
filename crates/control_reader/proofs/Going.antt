-- One read of control's input, and what is put for it.
use Rattle.std.proofs.Common.{◌≡◌, ◌≢◌, ◌≤◌, ℕ, ◌+◌, Bool, true, false, not, List, [], ◌∷◌, ◌++◌, length, refl, sym, ap, ◌∙◌, subst, arith, Option, Some}
use Rattle.std.proofs.lemmas.List.{map-append}
use Rattle.std.proofs.lemmas.List.Elements.{All-nil, All-push}
use Rattle.savi_kinds.specs.declared.entry.How.{How}
use Rattle.savi_kinds.specs.declared.entry.How.TheVariants as hows
use Rattle.savi_ends.specs.Faults.{Rose}
use Rattle.savi_ends.proofs.FaultCounts.{rose_since}
use Rattle.savi_ends.specs.Octets.{Takes}
use Rattle.savi_ends.specs.Readings.{AddsReading}
use Rattle.savi_ends.proofs.Octets.{takes_more}
use Rattle.stream_io.specs.Calls.{AddsReadings}
use Rattle.stream_io.proofs.AheadHeld.{takes_none}
use Rattle.stream_io.proofs.ClockReadings.{adds_none, adds_more}
use Rattle.cli_lang.specs.Arrivals.{Line}
use Rattle.cli_lang.specs.Readers.{State, Comes, HasReadOne, HasEnded, IsFaultAt, longest_reach, ended}
use Rattle.cli_lang.specs.Readers as readers
use Rattle.savi_history.specs.ControlFits.{AreFirst, FitsControl}
use Rattle.savi_history.specs.ControlInputs.{is_quit}
use Rattle.control_reader.specs.Heard.{HeardLine, Said, Ended, all_said, whole_lines}
use Rattle.control_reader.specs.LiveLines.{AreLiveLines, line_stamps}
use Rattle.control_reader.specs.Reading.{HasReadLines, start}
use Rattle.control_reader.specs.Rows.{IsLinesEnd, WerePut}
use Rattle.control_reader.specs.Progress.{GoesOn, GoesOnOrEnds}
use Rattle.control_reader.specs.declared.reader.LineInput.{LineInput}
use Rattle.control_reader.proofs.Reading.{goes_on, read_end, read_failed, read_first, read_line, read_near, read_none}

pub said_more : (lines : List Line) (line : Line) → all_said (lines ++ line ∷ []) ≡ all_said lines ++ Said line ∷ []
said_more lines line = map-append (λ (l : Line). Said l) lines (line ∷ [])

stamps_more : (lines : List Line) (line : Line) → line_stamps (lines ++ line ∷ []) ≡ line_stamps lines ++ line.stamp ∷ []
stamps_more lines line = map-append (λ (l : Line). l.stamp) lines (line ∷ [])

pub not_before : (first mid new : ℕ) → mid ≡ first → mid ≤ new → first ≤ new
not_before first mid new same later = omega (arith, same, later)

module _ {S C : Type 0} (left : S → Option (List ℕ)) (faults : S → ℕ) (readings : C → Option (List ℕ)) (source : S) (clock : C) where
  abbrev Goes : LineInput S C → List HeardLine → Type 0
  Goes input put = GoesOn left faults readings source clock input put

  -- at the beginning
  pub goes_first : (input : LineInput S C) (put : List HeardLine) → input.source ≡ source → input.clock ≡ clock → input.lines ≡ start → put ≡ [] → Goes input put
  goes_first input put same_source same_clock new none = record {
    said = [];
    given = none;
    gave = [];
    takes = subst (λ (s : S). Takes (left source) (left s) []) (sym same_source) (takes_none (left source));
    read = subst (λ (state : State). HasReadLines state [] (left input.source) []) (sym new) (read_none (left input.source));
    none = All-nil _;
    stamped = subst (λ (c : C). AddsReadings (readings clock) (readings c) []) (sym same_clock) (adds_none (readings clock));
    still = ap faults same_source;
    unbroken = λ failed. let never : start ≡ readers.Ended hows.Failed = sym new ∙ failed in cc;
  }

  -- what is left of the ends, as they are handed back
  pub left_row : (input : LineInput S C) (put : List HeardLine) (new_source : S) (new_clock : C) (on : Bool) → on ≡ false → GoesOnOrEnds left faults readings source clock input put on
      → new_source ≡ input.source → new_clock ≡ input.clock → WerePut left faults readings put source new_source clock new_clock
  left_row input put new_source new_clock on over is_left same_source same_clock =
      let row = subst (λ (b : Bool). GoesOnOrEnds left faults readings source clock input put b) over is_left in
      subst (λ (t : S × C). WerePut left faults readings put source t.0 clock t.1) (λ i. (sym same_source i, sym same_clock i)) row

  module _ (old new : LineInput S C) (before after : List HeardLine) (goes : Goes old before) (more : List ℕ) (takes : Takes (left old.source) (left new.source) more) where
    abbrev gave_now : List ℕ
    gave_now = goes.gave ++ more

    took_all : Takes (left source) (left new.source) gave_now
    took_all = takes_more goes.gave more (left source) (left old.source) (left new.source) goes.takes takes

    -- a line came

    module _ (line : Line) (read : HasReadOne true old.lines new.lines more (left new.source) line) (reading : AddsReading (readings old.clock) (readings new.clock) line.stamp)
        (same : faults new.source ≡ faults old.source) (put : after ≡ before ++ Said line ∷ []) where
      abbrev said_now : List Line
      said_now = goes.said ++ line ∷ []

      read_now : HasReadLines new.lines gave_now (left new.source) said_now
      read_now = read_line old.lines new.lines goes.gave more (left old.source) (left new.source) goes.said line goes.read read

      given_now : after ≡ all_said said_now
      given_now = put ∙ ap (λ (l : List HeardLine). l ++ Said line ∷ []) goes.given ∙ sym (said_more goes.said line)

      stamped_now : AddsReadings (readings clock) (readings new.clock) (line_stamps said_now)
      stamped_now =
          subst (λ (l : List ℕ). AddsReadings (readings clock) (readings new.clock) l) (sym (stamps_more goes.said line))
          (adds_more (readings clock) (readings old.clock) (readings new.clock) (line_stamps goes.said) line.stamp goes.stamped reading)

      -- behind which more is read
      goes_line : is_quit line ≡ false → Goes new after
      goes_line other = record {
        said = said_now;
        given = given_now;
        gave = gave_now;
        takes = took_all;
        read = read_now;
        none = All-push (λ (l : Line). is_quit l ≡ false) goes.said line goes.none other;
        stamped = stamped_now;
        still = same ∙ goes.still;
        unbroken = goes_on old.lines new.lines more (left new.source) line read;
      }

      -- or which is `quit`
      quit_row : is_quit line ≡ true → WerePut left faults readings after source new.source clock new.clock
      quit_row quit =
          let first : AreFirst (AreLiveLines true) (left source) said_now = read_first new.lines gave_now said_now (left source) (left new.source) read_now took_all in (
            said_now,
            hows.Quit,
            given_now,
            record {
              stops = tt;
              gave = (gave_now, took_all);
              first = first;
              fits = (first, record { front = goes.said; last = line; all = refl; none = goes.none; quit = quit });
              near = λ at fault. absurd fault;
              stamped = stamped_now;
              later = let still = same ∙ goes.still in omega (arith, still);
              broken = λ failed. cc;
              still = λ other. same ∙ goes.still;
            },
          )

      pub left_line : (quit : Bool) → is_quit line ≡ quit → GoesOnOrEnds left faults readings source clock new after (not quit)
      left_line true is = quit_row is
      left_line false is = goes_line is

    -- the input ended so
    ended_at : (how : How) → IsLinesEnd how → whole_lines goes.said how ≡ all_said goes.said ++ Ended how ∷ [] → after ≡ before ++ Ended how ∷ []
        → FitsControl AreLiveLines (left source) (left new.source) goes.said (Some how)
        → ((at : ℕ) → IsFaultAt how at → length gave_now ≤ at + longest_reach)
        → new.clock ≡ old.clock → faults old.source ≤ faults new.source
        → (how ≡ hows.Failed → Rose (faults old.source) (faults new.source))
        → (how ≢ hows.Failed → faults new.source ≡ faults old.source)
        → WerePut left faults readings after source new.source clock new.clock
    ended_at how stops all put fits near unread later cause stays = (
      goes.said,
      how,
      put ∙ ap (λ (l : List HeardLine). l ++ Ended how ∷ []) goes.given ∙ sym all,
      record {
        stops = stops;
        gave = (gave_now, took_all);
        first = read_first old.lines goes.gave goes.said (left source) (left old.source) goes.read goes.takes;
        fits = fits;
        near = near;
        stamped = subst (λ (c : C). AddsReadings (readings clock) (readings c) (line_stamps goes.said)) (sym unread) goes.stamped;
        later = not_before (faults source) (faults old.source) (faults new.source) goes.still later;
        broken = λ failed. rose_since (faults source) (faults old.source) (faults new.source) goes.still (cause failed);
        still = λ other. stays other ∙ goes.still;
      },
    )

    pub left_end : HasEnded true old.lines new.lines more (left new.source) hows.End → after ≡ before ++ Ended hows.End ∷ [] → new.clock ≡ old.clock → faults new.source ≡ faults old.source
        → WerePut left faults readings after source new.source clock new.clock
    left_end has put unread same =
        ended_at hows.End tt refl put
        (read_end old.lines new.lines goes.gave more (left old.source) goes.said hows.End (left source) (left new.source) goes.read has goes.takes takes, goes.none)
        (λ at fault. absurd fault) unread (omega (arith, same)) (λ failed. cc) (λ other. same)

    pub left_malformed : (at : ℕ) → HasEnded true old.lines new.lines more (left new.source) (hows.Malformed at) → after ≡ before ++ Ended (hows.Malformed at) ∷ [] → new.clock ≡ old.clock → faults new.source ≡ faults old.source
        → WerePut left faults readings after source new.source clock new.clock
    left_malformed at has put unread same =
        ended_at (hows.Malformed at) tt refl put
        (read_end old.lines new.lines goes.gave more (left old.source) goes.said (hows.Malformed at) (left source) (left new.source) goes.read has goes.takes takes, goes.none)
        (λ place fault. read_near old.lines new.lines goes.gave more (left old.source) (left new.source) goes.said (hows.Malformed at) place goes.read has fault)
        unread (omega (arith, same)) (λ failed. cc) (λ other. same)

    pub left_overlong : (at : ℕ) → HasEnded true old.lines new.lines more (left new.source) (hows.Overlong at) → after ≡ before ++ Ended (hows.Overlong at) ∷ [] → new.clock ≡ old.clock → faults new.source ≡ faults old.source
        → WerePut left faults readings after source new.source clock new.clock
    left_overlong at has put unread same =
        ended_at (hows.Overlong at) tt refl put
        (read_end old.lines new.lines goes.gave more (left old.source) goes.said (hows.Overlong at) (left source) (left new.source) goes.read has goes.takes takes, goes.none)
        (λ place fault. read_near old.lines new.lines goes.gave more (left old.source) (left new.source) goes.said (hows.Overlong at) place goes.read has fault)
        unread (omega (arith, same)) (λ failed. cc) (λ other. same)

    -- a read failed
    pub left_failed : Comes true false old.lines more (ended hows.Failed) → after ≡ before ++ Ended hows.Failed ∷ [] → new.clock ≡ old.clock → faults old.source ≤ faults new.source
        → Rose (faults old.source) (faults new.source) → WerePut left faults readings after source new.source clock new.clock
    left_failed comes put unread later rose =
        ended_at hows.Failed tt refl put (
          record {
            gave = gave_now;
            takes = took_all;
            read = read_failed old.lines new.lines goes.gave more (left old.source) (left new.source) goes.said goes.read comes;
          },
          goes.none,
        )
        (λ at fault. absurd fault) unread later (λ failed. rose) (λ other. absurd (other refl))
