-- A front of some octets holds no more arrivals, and no more lines, than all of them do: none weighs more, whatever is
-- weighed of each but its stamp.
use Rattle.std.proofs.Common.{◌≡◌, ℕ, ◌≤◌, Bool, true, false, List, [], ◌∷◌, ◌++◌, map, sum_by, refl, ap, arith}
use Rattle.std.proofs.lemmas.List.Sums.{sum_by-cons, sum_by-append}
use Rattle.savi_kinds.specs.declared.entry.How.{How}
use Rattle.savi_kinds.specs.Arrivals.{Arrival}
use Rattle.savi_kinds.specs.declared.plan.Format.{Format}
use Rattle.savi_kinds.specs.declared.plan.Format.TheVariants.{Pcap, Stream}
use Rattle.pcap_io.specs.Kinds.{classic_kinds}
use Rattle.pcap_io.proofs.Uniqueness as captures
use Rattle.stream_io.specs.Streams as streams
use Rattle.stream_io.proofs.Uniqueness as stream_runs
use Rattle.port_reader.specs.Inputs.{AreArrivals}
use Rattle.cli_lang.specs.Arrivals.{Line}
use Rattle.cli_lang.specs.Arrivals as control
use Rattle.cli_lang.proofs.Uniqueness as line_runs
use Rattle.control_reader.specs.LiveLines.{AreLiveLines}

-- a front of a list weighs no more
front_most : {A : Type 0} (weight : A → ℕ) (all some later : List A) → all ≡ some ++ later → sum_by weight some ≤ sum_by weight all
front_most {A} weight all some later is = omega (arith, sum_by-append weight some later, ap (λ (l : List A). sum_by weight l) is)

module _ (weight : Arrival → ℕ) (blind : (reading : ℕ) (a : Arrival) → weight (streams.stamped_at reading a) ≡ weight a) where
  capture_most : (ends : Bool) (octets more : List ℕ) (some all : List Arrival) (e f : How) → AreArrivals Pcap ends octets some e → AreArrivals Pcap true (octets ++ more) all f → sum_by weight some ≤ sum_by weight all
  capture_most ends octets more some all e f part whole =
      let front = captures.front_input classic_kinds ends true octets more (record { arrivals = some; ending = e }) (record { arrivals = all; ending = f }) part whole in
      front_most weight all some front.0 front.1

  -- a reading for each
  abbrev readings_for : List Arrival → List ℕ
  readings_for arrivals = map (λ a. 0) arrivals

  stamped_same : (arrivals : List Arrival) → sum_by weight (streams.stamped_by (readings_for arrivals) arrivals) ≡ sum_by weight arrivals
  stamped_same [] = refl
  stamped_same (a ∷ arrivals) =
      omega (
        arith,
        sum_by-cons weight (streams.stamped_at 0 a) (streams.stamped_by (readings_for arrivals) arrivals),
        sum_by-cons weight a arrivals,
        blind 0 a,
        stamped_same arrivals,
      )

  stamped_most : (readings : List ℕ) (arrivals : List Arrival) → sum_by weight (streams.stamped_by readings arrivals) ≤ sum_by weight arrivals
  stamped_most [] arrivals = omega arith
  stamped_most (reading ∷ readings) [] = omega arith
  stamped_most (reading ∷ readings) (a ∷ arrivals) =
      omega (
        arith,
        sum_by-cons weight (streams.stamped_at reading a) (streams.stamped_by readings arrivals),
        sum_by-cons weight a arrivals,
        blind reading a,
        stamped_most readings arrivals,
      )

  stream_most : (ends : Bool) (octets more : List ℕ) (some all : List Arrival) (e f : How) → streams.IsRun ends 0 some e octets → streams.IsRun true 0 all f (octets ++ more) → sum_by weight some ≤ sum_by weight all
  stream_most ends octets more some all e f part whole =
      let readings : List ℕ = readings_for some in
      let part_is : streams.Arrive ends readings octets (record { arrivals = streams.stamped_by readings some; ending = e }) =
      record { whole = some; run = part; stamps = refl } in
      let whole_is : streams.Arrive true (readings ++ []) (octets ++ more) (record { arrivals = streams.stamped_by (readings ++ []) all; ending = f }) =
      record { whole = all; run = whole; stamps = refl } in
      let front = stream_runs.front_input ends true readings [] octets more (record { arrivals = streams.stamped_by readings some; ending = e }) (record { arrivals = streams.stamped_by (readings ++ []) all; ending = f }) part_is whole_is in
      omega (
        arith,
        stamped_same some,
        front_most weight (streams.stamped_by (readings ++ []) all) (streams.stamped_by readings some) front.0 front.1,
        stamped_most (readings ++ []) all,
      )

  pub arrivals_most : (format : Format) (ends : Bool) (octets more : List ℕ) (some all : List Arrival) (e f : How) → AreArrivals format ends octets some e → AreArrivals format true (octets ++ more) all f → sum_by weight some ≤ sum_by weight all
  arrivals_most Pcap ends octets more some all e f part whole = capture_most ends octets more some all e f part whole
  arrivals_most Stream ends octets more some all e f part whole = stream_most ends octets more some all e f part whole

module _ (weight : Line → ℕ) (blind : (reading : ℕ) (line : Line) → weight (control.stamped_at reading line) ≡ weight line) where
  abbrev readings_of : List Line → List ℕ
  readings_of lines = map (λ line. 0) lines

  stamped_lines_same : (lines : List Line) → sum_by weight (control.stamped_by true (readings_of lines) lines) ≡ sum_by weight lines
  stamped_lines_same [] = refl
  stamped_lines_same (line ∷ lines) =
      omega (
        arith,
        sum_by-cons weight (control.stamped_at 0 line) (control.stamped_by true (readings_of lines) lines),
        sum_by-cons weight line lines,
        blind 0 line,
        stamped_lines_same lines,
      )

  stamped_lines_most : (readings : List ℕ) (lines : List Line) → sum_by weight (control.stamped_by true readings lines) ≤ sum_by weight lines
  stamped_lines_most [] lines = omega arith
  stamped_lines_most (reading ∷ readings) [] = omega arith
  stamped_lines_most (reading ∷ readings) (line ∷ lines) =
      omega (
        arith,
        sum_by-cons weight (control.stamped_at reading line) (control.stamped_by true readings lines),
        sum_by-cons weight line lines,
        blind reading line,
        stamped_lines_most readings lines,
      )

  abbrev stamped_input : List ℕ → List Line → How → control.Input
  stamped_input readings lines ending = record { arrivals = control.stamped_by true readings lines; ending = ending }

  -- they arrive with any readings
  arrives : (seen : Bool) (readings octets : List ℕ) (lines : List Line) (ending : How) → AreLiveLines seen octets lines ending → control.Arrive true seen readings octets (stamped_input readings lines ending)
  arrives seen readings octets lines ending are = record { whole = lines; run = are; stamps = refl }

  by_stamped : (some all later : List Line) → control.stamped_by true (readings_of some) all ≡ control.stamped_by true (readings_of some) some ++ later → sum_by weight some ≤ sum_by weight all
  by_stamped some all later is =
      omega (
        arith,
        stamped_lines_same some,
        front_most weight (control.stamped_by true (readings_of some) all) (control.stamped_by true (readings_of some) some) later is,
        stamped_lines_most (readings_of some) all,
      )

  -- lines of a front that wasn't seen to end
  pub lines_most : (octets more : List ℕ) (some all : List Line) (e f : How) → AreLiveLines false octets some e → AreLiveLines true (octets ++ more) all f → sum_by weight some ≤ sum_by weight all
  lines_most octets more some all e f part whole =
      let readings : List ℕ = readings_of some in
      let front = line_runs.front_input true true readings octets more (stamped_input readings some e) (stamped_input readings all f) (arrives false readings octets some e part) (arrives true readings (octets ++ more) all f whole) in
      by_stamped some all front.0 front.1

  -- lines of the same octets
  pub lines_same : (octets : List ℕ) (some all : List Line) (e f : How) → AreLiveLines true octets some e → AreLiveLines true octets all f → sum_by weight some ≤ sum_by weight all
  lines_same octets some all e f one other =
      let readings : List ℕ = readings_of some in
      let same : stamped_input readings some e ≡ stamped_input readings all f = line_runs.one_input true true readings octets (stamped_input readings some e) (stamped_input readings all f) (arrives true readings octets some e one) (arrives true readings octets all f other) in
      omega (
        arith,
        stamped_lines_same some,
        ap (λ (i : control.Input). sum_by weight i.arrivals) same,
        stamped_lines_most readings all,
      )
