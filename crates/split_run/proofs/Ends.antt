-- What is left of a capture that was split, once all ends are kept again.
use Rattle.std.proofs.Common.{◌≡◌, ◌≢◌, ℕ, ◌<◌, List, [], ◌∷◌, ◌++◌, get_or, Option, Some, None, IfSome, IsSomeAnd, refl, sym, ap, subst, ◌∙◌, arith, true}
use Rattle.std.proofs.lemmas.List.{get_or-map, length-map}
use Rattle.std.proofs.lemmas.List.Elements.{All-map}
use Rattle.std.specs.Prelude.{All}
use Rattle.savi_kinds.specs.declared.entry.How.{How}
use Rattle.savi_kinds.specs.declared.entry.How.TheVariants as how
use Rattle.savi_ends.specs.Faults.{Rose}
use Rattle.savi_ends.specs.Octets.{Takes}
use Rattle.savi_ends.specs.Places.{Place, Book, OthersStay, IsReady, IsOnlyOut}
use Rattle.savi_ends.proofs.Ready.{opened_alone}
use Rattle.savi_ends.proofs.Octets.{if_told}
use Rattle.pcapng_io.specs.Runs.{Event, Arrive}
use Rattle.pcap_split.specs.declared.counts.Counts.{Counts}
use Rattle.pcap_split.specs.declared.output.Output.{Output}
use Rattle.pcap_split.specs.Counts.{interfaces_of, tally_of}
use Rattle.pcap_split.specs.Going.{EachOutput}
use Rattle.pcap_split.specs.Splits.{Tally, split_text, no_tally, tally}
use Rattle.pcap_split.specs.Wholes.{IsSplitWhole, IsSplitFront}
use Rattle.split_run.specs.declared.outcome.Outcome.{Outcome}
use Rattle.split_run.specs.declared.outcome.Outcome.TheVariants as outcome
use Rattle.split_run.specs.Names.{output_name, name_in, AreNames}
use Rattle.split_run.specs.Runs.{Keeps, OfTold, IsFaulty, AddedAll, GaveUnbroken, GaveTold, GaveWithinBlock, GaveBroken, AreCaptures, TellsFirst, IsSplitToEnd, IsSplitInPart, IsStoppedAt, IsBeginning, IsToWrite, AddedAllBut, IsNamed, CameTo, IsSplitRun}
use Rattle.split_run.specs.Steps.{AreOut, IsStopped, HasSinkFault, SinksStay, EndsSplit, HasSplit}
use Rattle.split_run.proofs.Apart.{output_names_differ}
use Rattle.split_run.proofs.Parts.{first_read, first_broken, fault_of}

pub of_interfaces : {K : Type 0} (P : ℕ → Type 0) (held : List (Output K)) → All P (interfaces_of held) → All (λ o. P o.interface) held
of_interfaces {K} P held all k d inside =
    subst P (get_or-map (λ (o : Output K). o.interface) held k d 0 inside) (all k 0 (omega (arith, inside, length-map held (λ (o : Output K). o.interface))))

to_interfaces : {K : Type 0} (P : ℕ → Type 0) (held : List (Output K)) → All (λ o. P o.interface) held → All P (interfaces_of held)
to_interfaces {K} P held all = All-map P (λ (o : Output K). o.interface) held all

-- the places of these names, by the names that they were asked for
module _ {K : Type 0} (file : List ℕ) (names : List (List ℕ)) (are : AreNames file names) where
  off_held : (other : List ℕ) (held : List (Output K)) → All (λ o. o.interface < 16) held → All (λ k. output_name file k ≢ other) (interfaces_of held) → All (λ o. name_in names o.interface ≢ other) held
  off_held other held low off k d inside same =
      of_interfaces (λ i. output_name file i ≢ other) held off k d inside (sym (are.each (get_or held k d).interface (low k d inside)) ∙ same)

  captures_by : (Holds : ℕ → List ℕ → K → K → Type 0) (events : List Event) (handed held : List (Output K)) (old new : List ℕ → Place K)
      → EachOutput (λ o n. (n.interface ≡ o.interface) × Holds o.interface (split_text o.interface events) o.sink n.sink) handed held
      → All (λ o. IfSome (old (name_in names o.interface)).stands (λ told. o.sink ≡ told)) handed → All (λ o. (new (name_in names o.interface)).stands ≡ Some o.sink) held → All (λ o. o.interface < 16) handed
      → All (λ k. Keeps (Holds k (split_text k events)) (old (output_name file k)) (new (output_name file k))) (interfaces_of handed)
  captures_by Holds events [] held old new each told kept low = λ k d inside. absurd (omega (arith, inside))
  captures_by Holds events (x ∷ xs) held old new each told kept low = to_interfaces (λ i. Keeps (Holds i (split_text i events)) (old (output_name file i)) (new (output_name file i))) (x ∷ xs) (λ k d inside.
      let o = get_or (x ∷ xs) k d in
      let n = get_or held k d in
      let one = each.1 k d inside in
      subst (λ (at : List ℕ). Keeps (Holds o.interface (split_text o.interface events)) (old at) (new at)) (are.each o.interface (low k d inside))
      (record {
        handed = o.sink;
        back = n.sink;
        told = told k d inside;
        kept = ap (λ (i : ℕ). (new (name_in names i)).stands) (sym one.0) ∙ kept k d (omega (arith, inside, each.0));
        holds = one.1;
      }))

  fault_kept : (faults : K → ℕ) (interface : ℕ) (held : List (Output K)) (new : List ℕ → Place K) → interface < 16 → All (λ o. (new (name_in names o.interface)).stands ≡ Some o.sink) held → HasSinkFault faults interface held → IsFaulty faults (new (output_name file interface))
  fault_kept faults interface [] new low kept has = absurd (omega (arith, has.1.0))
  fault_kept faults interface (x ∷ xs) new low kept has =
      let n = get_or (x ∷ xs) has.0 x in
      let stands : (new (output_name file interface)).stands ≡ Some n.sink =
      ap (λ (at : List ℕ). (new at).stands) (sym (are.each interface low)) ∙ ap (λ (i : ℕ). (new (name_in names i)).stands) (sym (has.1.1 x)) ∙ kept has.0 x has.1.0 in
      subst (λ (o : Option K). IsSomeAnd o (λ k. 0 < faults k)) (sym stands) (has.2 x)

tells_text : {S : Type 0} (left : S → Option (List ℕ)) (P : List ℕ → Type 0) (place : Place S) (source source' : S) (gave : List ℕ) → IfSome place.stands (λ told. source ≡ told) → Takes (left source) (left source') gave → ((rest : List ℕ) → left source' ≡ Some rest → P (gave ++ rest)) → OfTold left place P
tells_text {S} left P place source source' gave told takes from = by place.stands told
  where
    by : (o : Option S) → IfSome o (λ t. source ≡ t) → IfSome o (λ t. IfSome (left t) P)
    by None is = tt
    by (Some t) is = subst (λ (s : S). IfSome (left s) P) is (if_told P gave (left source) (left source') takes from)

if_some : (P : List ℕ → Type 0) (o : Option (List ℕ)) (rest : List ℕ) → IfSome o P → o ≡ Some rest → P rest
if_some P o rest holds is = subst (λ (q : Option (List ℕ)). IfSome q P) is holds

fault_stands : {S : Type 0} (faults : S → ℕ) (place : Place S) (source : S) → place.stands ≡ Some source → 0 < faults source → IsFaulty faults place
fault_stands {S} faults place source stands fault = subst (λ (o : Option S). IsSomeAnd o (λ s. 0 < faults s)) (sym stands) fault

-- All ends are kept: the source, and each output that was held.
module _ {S K C : Type 0} (left : S → Option (List ℕ)) (written : K → Option (List ℕ)) (source_faults : S → ℕ) (sink_faults : K → ℕ)
    (file : List ℕ) (names : List (List ℕ)) (are : AreNames file names) (source source' : S) (b0 b1 b2 b3 b4 : Book S K C) (held : List (Output K))
    (told : IfSome (b0.inputs file).stands (λ told. source ≡ told)) (opened_still : b1.faults ≡ b0.faults) (opened : b1 ≡ record b0 { faults = b1.faults; inputs = b1.inputs })
    (opened_others : OthersStay b0.inputs b1.inputs file)
    (source_kept : (b3.inputs file).stands ≡ Some source') (source_others : OthersStay b2.inputs b3.inputs file) (source_rest : b3 ≡ record b2 { inputs = b3.inputs })
    (kept : All (λ o. (b4.outputs (name_in names o.interface)).stands ≡ Some o.sink) held)
    (kept_others : (other : List ℕ) → All (λ o. name_in names o.interface ≢ other) held → b4.outputs other ≡ b3.outputs other)
    (kept_rest : b4 ≡ record b3 { outputs = b4.outputs }) where
  module _ (result : Outcome) (split : HasSplit left written source_faults sink_faults (name_in names) source source' b1 b2 held result) where
    at_first : b1.outputs ≡ b0.outputs
    at_first = ap (λ (b : Book S K C). b.outputs) opened

    inputs_between : b2.inputs ≡ b1.inputs
    inputs_between = ap (λ (b : Book S K C). b.inputs) split.out.rest

    inputs_last : b4.inputs ≡ b3.inputs
    inputs_last = ap (λ (b : Book S K C). b.inputs) kept_rest

    outputs_between : b3.outputs ≡ b2.outputs
    outputs_between = ap (λ (b : Book S K C). b.outputs) source_rest

    faults_last : b4.faults ≡ b2.faults
    faults_last = ap (λ (b : Book S K C). b.faults) kept_rest ∙ ap (λ (b : Book S K C). b.faults) source_rest

    stands : (b4.inputs file).stands ≡ Some source'
    stands = ap (λ (p : List ℕ → Place S). (p file).stands) inputs_last ∙ source_kept

    -- the source is kept again, and this holds of it
    read_from : (Holds : S → S → Type 0) → Holds source source' → Keeps Holds (b0.inputs file) (b4.inputs file)
    read_from Holds holds = record { handed = source; back = source'; told = told; kept = stands; holds = holds }

    some_read : source_faults source' ≡ source_faults source → Keeps (GaveUnbroken left source_faults) (b0.inputs file) (b4.inputs file)
    some_read still = read_from (GaveUnbroken left source_faults) ((split.gave, split.takes), still)

    low_held : All (λ o. o.interface < 16) held
    low_held = of_interfaces (λ i. i < 16) held (subst (λ (l : List ℕ). All (λ i. i < 16) l) (sym split.same) (to_interfaces (λ i. i < 16) split.handed split.within))

    captures : (Holds : ℕ → List ℕ → K → K → Type 0) (events : List Event) → EachOutput (λ o n. (n.interface ≡ o.interface) × Holds o.interface (split_text o.interface events) o.sink n.sink) split.handed held → AreCaptures Holds file (interfaces_of split.handed) events b0.outputs b4.outputs
    captures Holds events each = record {
      captures = captures_by file names are Holds events split.handed held b0.outputs b4.outputs each
          (λ k d inside. subst (λ (p : List ℕ → Place K). IfSome (p (name_in names (get_or split.handed k d).interface)).stands (λ t. (get_or split.handed k d).sink ≡ t)) at_first (split.out.each k d inside).told)
          kept split.within;
      others = λ other off.
          kept_others other (off_held file names are other held low_held (subst (λ (l : List ℕ). All (λ k. output_name file k ≢ other) l) (sym split.same) off))
          ∙ ap (λ (p : List ℕ → Place K). p other) outputs_between
          ∙ split.out.others other (off_held file names are other split.handed split.within off)
          ∙ ap (λ (p : List ℕ → Place K). p other) at_first;
    }

    whole : (counts : Counts) (ending : How) (events : List Event) → IsSplitWhole written counts split.handed held split.gave (left source') events ending → SinksStay sink_faults split.handed held → IsSplitToEnd left written sink_faults file counts ending (b0.inputs file) b0.outputs b4.outputs
    whole counts ending events is stay =
        let same : (tally no_tally events).split ≡ interfaces_of split.handed = sym (ap (λ (t : Tally). t.split) is.counted_is) in
        record {
          events = events;
          tells = tells_text left (λ text. Arrive text (record { events = events; ending = ending })) (b0.inputs file) source source' split.gave told split.takes
              (λ rest told_rest. if_some (λ r. Arrive (split.gave ++ r) (record { events = events; ending = ending })) (left source') rest is.whole told_rest);
          counted_is = ap (tally_of counts) same ∙ is.counted_is;
          outputs = subst (λ (l : List ℕ). AreCaptures (λ k. AddedAll written sink_faults) file l events b0.outputs b4.outputs) (sym same)
              (captures (λ k. AddedAll written sink_faults) events (is.captures.0, λ k d inside. let one = is.captures.1 k d inside in (one.same, (one.text, stay.1 k d inside))));
        }

    abbrev part : (counts : Counts) (events : List Event) → IsSplitFront written counts split.handed held split.gave events → SinksStay sink_faults split.handed held → IsSplitInPart left written sink_faults file (b0.inputs file) b0.outputs b4.outputs
    part counts events is stay =
        let same : (tally no_tally events).split ≡ interfaces_of split.handed = sym (ap (λ (t : Tally). t.split) is.counted_is) in
        record {
          events = events;
          tells = tells_text left (TellsFirst events) (b0.inputs file) source source' split.gave told split.takes (λ rest told_rest. first_broken written counts split.handed held split.gave events is rest);
          outputs = subst (λ (l : List ℕ). AreCaptures (λ k. AddedAll written sink_faults) file l events b0.outputs b4.outputs) (sym same)
              (captures (λ k. AddedAll written sink_faults) events (is.captures.0, λ k d inside. let one = is.captures.1 k d inside in (one.same, (one.text, stay.1 k d inside))));
        }

    abbrev stopped : (Is : List Event → Event → Type 0) (Took : List Event → Event → ℕ → List ℕ → K → K → Type 0) (missing : List ℕ) → IsStopped Is Took missing split.handed held split.gave → IsStoppedAt left Is Took missing file (b0.inputs file) b0.outputs b4.outputs
    stopped Is Took missing is = record {
      earlier = is.earlier;
      last = is.last;
      events = is.events;
      all = is.all;
      is = is.is;
      tells = tells_text left (TellsFirst is.events) (b0.inputs file) source source' split.gave told split.takes (λ rest told_rest. first_read is.next split.gave is.events is.gone.read rest);
      opened = interfaces_of split.handed;
      among = is.among;
      outputs = captures (Took is.earlier is.last) is.events is.each;
    }

    read_told : (Is : List Event → Event → Type 0) (Took : List Event → Event → ℕ → List ℕ → K → K → Type 0) (missing : List ℕ) (is : IsStopped Is Took missing split.handed held split.gave) → source_faults source' ≡ source_faults source → Keeps (GaveTold left source_faults is.events) (b0.inputs file) (b4.inputs file)
    read_told Is Took missing is still = read_from (GaveTold left source_faults is.events) ((split.gave, is.next, split.takes, is.gone), still)

    came : (result' : Outcome) → EndsSplit written sink_faults b1.faults b2.faults (source_faults source) (source_faults source') split.handed held split.gave (left source') result' → CameTo left written source_faults sink_faults file b0 b4 result'
    came (outcome.Split counts) ends = (some_read ends.1, whole counts how.End ends.0.0 ends.0.1 ends.2)
    came (outcome.Malformed at counts) ends = (
      read_from (GaveWithinBlock left source_faults at) ((split.gave, split.takes, ends.0.1.near at refl), ends.1),
      whole counts (how.Malformed at) ends.0.0 ends.0.1 ends.2,
    )
    came outcome.Unread ends = (
      part ends.0.1 ends.0.0 ends.0.2 ends.2,
      read_from (GaveBroken left source_faults ends.0.0) ((split.gave, split.takes, ends.0.2.unread), ends.1),
      fault_stands source_faults (b4.inputs file) source' stands (fault_of (source_faults source) (source_faults source') ends.1),
    )
    came (outcome.Unwritten interface) ends = (
      stopped (IsToWrite interface) (AddedAllBut written sink_faults interface) [] ends.0,
      read_told (IsToWrite interface) (AddedAllBut written sink_faults interface) [] ends.0 ends.3,
      fault_kept file names are sink_faults interface held b4.outputs ends.1 kept ends.2,
    )
    came (outcome.NoOutput interface) ends = (
      stopped (IsBeginning interface) (λ earlier last k. AddedAll written sink_faults) (interface ∷ []) ends.0,
      read_told (IsBeginning interface) (λ earlier last k. AddedAll written sink_faults) (interface ∷ []) ends.0 ends.4,
      subst (λ (n : ℕ). Rose b0.faults n) (sym faults_last) (subst (λ (n : ℕ). Rose n b2.faults) opened_still ends.1),
      (captures (λ k. AddedAll written sink_faults) ends.0.events ends.0.each).others (output_name file interface) (to_interfaces (λ k. output_name file k ≢ output_name file interface) split.handed
          (λ k d inside same. ends.3 k d inside (output_names_differ file (get_or split.handed k d).interface interface (split.within k d inside) ends.2 same))),
    )
    came outcome.NoInput ends = absurd ends

    pub split_ran : IsSplitRun left written source_faults sink_faults file b0 b4 result
    split_ran = record {
      came = came result split.ends;
      still = λ opened. faults_last ∙ split.unfailed opened ∙ opened_still;
      inputs = λ other apart.
          ap (λ (p : List ℕ → Place S). p other) inputs_last ∙ source_others other apart ∙ ap (λ (p : List ℕ → Place S). p other) inputs_between ∙ opened_others other apart;
      rest = kept_rest
          ∙ ap (λ (b : Book S K C). record b { outputs = b4.outputs }) source_rest
          ∙ ap (λ (b : Book S K C). record b { inputs = b3.inputs; outputs = b4.outputs }) split.out.rest
          ∙ ap (λ (b : Book S K C). record b { faults = b2.faults; inputs = b3.inputs; outputs = b4.outputs }) opened
          ∙ ap (λ (n : ℕ). record b0 { faults = n; inputs = b3.inputs; outputs = b4.outputs }) (sym faults_last)
          ∙ ap (λ (p : List ℕ → Place S). record b0 { faults = b4.faults; inputs = p; outputs = b4.outputs }) (sym inputs_last);
    }

    named_by : (result' : Outcome) → EndsSplit written sink_faults b1.faults b2.faults (source_faults source) (source_faults source') split.handed held split.gave (left source') result' → IsNamed result'
    named_by (outcome.Split counts) ends = tt
    named_by (outcome.Malformed at counts) ends = tt
    named_by outcome.Unread ends = tt
    named_by (outcome.Unwritten interface) ends = ends.1
    named_by (outcome.NoOutput interface) ends = ends.2
    named_by outcome.NoInput ends = absurd ends

    pub split_named : IsNamed result
    split_named = named_by result split.ends

-- the capture's source is the only one that is handed out
pub input_alone : {S K C : Type 0} (IsFresh : S → Type 0) (file : List ℕ) (b0 b1 b2 : Book S K C) → ((name : List ℕ) → IsReady IsFresh (b0.inputs name)) → OthersStay b0.inputs b1.inputs file → (b1.inputs file).is_out ≡ true → b2 ≡ record b1 { faults = b2.faults; outputs = b2.outputs } → IsOnlyOut b2.inputs file
input_alone {S} {K} {C} IsFresh file b0 b1 b2 ready others out rest =
    subst (λ (p : List ℕ → Place S). IsOnlyOut p file) (sym (ap (λ (b : Book S K C). b.inputs) rest)) (opened_alone IsFresh b0.inputs b1.inputs file ready others out)

-- the outputs that are held are handed out
pub held_out : {S K C : Type 0} (name : ℕ → List ℕ) (handed held : List (Output K)) (b1 b2 b3 : Book S K C) → AreOut name handed b1 b2 → interfaces_of held ≡ interfaces_of handed → b3 ≡ record b2 { inputs = b3.inputs } → All (λ o. (b3.outputs (name o.interface)).is_out ≡ true) held
held_out {S} {K} {C} name handed held b1 b2 b3 out same rest =
    let outputs : b3.outputs ≡ b2.outputs = ap (λ (b : Book S K C). b.outputs) rest in
    let all : All (λ o. (b2.outputs (name o.interface)).is_out ≡ true) handed = λ k d inside. (out.each k d inside).out in
    let by_interface = subst (λ (l : List ℕ). All (λ i. (b2.outputs (name i)).is_out ≡ true) l) (sym same) (to_interfaces (λ i. (b2.outputs (name i)).is_out ≡ true) handed all) in
    subst (λ (p : List ℕ → Place K). All (λ o. (p (name o.interface)).is_out ≡ true) held) (sym outputs) (of_interfaces (λ i. (b2.outputs (name i)).is_out ≡ true) held by_interface)
