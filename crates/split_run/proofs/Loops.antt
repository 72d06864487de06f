-- A capture is split up to one interface after another.
use Rattle.std.proofs.Common.{◌≡◌, ◌≢◌, ℕ, ◌+◌, ◌<◌, ◌≤◌, List, [], ◌∷◌, ◌++◌, length, get_or, take, drop, Option, Some, None, refl, sym, ap, subst, ◌∙◌, arith, append-nil, length-append}
use Rattle.std.specs.Prelude.{All}
use Rattle.std.proofs.lemmas.List.{get_or_at, drop_all, take_all}
use Rattle.savi_kinds.specs.declared.entry.How.TheVariants as how
use Rattle.savi_ends.specs.Faults.{Rose}
use Rattle.savi_ends.specs.Octets.{Takes}
use Rattle.savi_ends.specs.Places.{Book, OthersStay, IsReady}
use Rattle.savi_ends.proofs.FaultCounts.{rose_since}
use Rattle.savi_ends.proofs.Octets.{takes_more}
use Rattle.pcap_io.specs.Captures.{header_text}
use Rattle.pcap_io.proofs.CallsJoined.{takes_none}
use Rattle.pcapng_io.specs.Blocks.{Block}
use Rattle.pcapng_io.specs.Runs.{Event, AreBlocks, at_start}
use Rattle.pcapng_io.specs.Blocks as blocks
use Rattle.pcapng_io.specs.Readers.{State, Reading, Ended, HasRead}
use Rattle.pcap_split.specs.declared.counts.Counts.{Counts}
use Rattle.pcap_split.specs.declared.output.Output.{Output}
use Rattle.pcap_split.specs.declared.split.SplitGot.{SplitGot}
use Rattle.pcap_split.specs.declared.split.SplitGot.TheVariants as got
use Rattle.pcap_split.specs.Splits.{Tally, no_tally, tally}
use Rattle.pcap_split.specs.Counts.{interfaces_of, tally_of, no_counts}
use Rattle.pcap_split.specs.Going.{HasTold, HasBroken, HasGone, HasTaken, HasBegun, HasRisen, Tells, Writes, split_behind, EachOutput, Differ}
use Rattle.pcap_split.specs.Wholes.{IsSplit, IsCall}
use Rattle.pcap_split.proofs.Goings.{interfaces_stay}
use Rattle.pcap_split.proofs.Wholes.{split_start, split_opened, split_ended, split_broken, interfaces_more, each_more}
use Rattle.split_run.specs.declared.outcome.Outcome.{Outcome}
use Rattle.split_run.specs.declared.outcome.Outcome.TheVariants as outcome
use Rattle.split_run.specs.Names.{name_in, AreNamesApart}
use Rattle.split_run.specs.Runs.{AddedFront, HasOpenedAll}
use Rattle.split_run.specs.Steps.{AreOut, HaveOwnInterfaces, IsHeldMore, HasTried, SinksStay, EndsSplit, HasSplit}
use Rattle.split_run.proofs.Rising.{Rises, IsNew, rises, own_interfaces, differ, low_interfaces, next_new}
use Rattle.split_run.proofs.Outs.{names_away, out_none, next_ready, out_more, out_still}
use Rattle.split_run.proofs.Parts.{same_handed, split_then, stopped_unwritten, stopped_unopened, stopped_unbegun, sinks_stay_more, sink_fault, but_stay, fault_of}

-- a reader that reads on has had no failed read
ends_not_failed : (all : List Block) (s : blocks.Standing) (octets : List ℕ) → AreBlocks s all how.Failed octets → ⊥
ends_not_failed [] s octets ends = ends
ends_not_failed (b ∷ all) s octets are = ends_not_failed all (blocks.behind s b (length are.0)) are.1 are.4

pub reads_on : (state : State) (gave : List ℕ) (events : List Event) → HasRead (Reading at_start) state gave events → state ≢ Ended how.Failed
reads_on state gave events read failed =
    let comes = read [] [] how.Failed (rw failed refl) in
    ends_not_failed comes.0 at_start (gave ++ []) comes.1

-- what was done so far: octets were taken that told these events, and the outputs of the interfaces that began are held
pub record SplitSoFar {S K C : Type 0} (left : S → Option (List ℕ)) (written : K → Option (List ℕ)) (source_faults : S → ℕ) (sink_faults : K → ℕ) (name : ℕ → List ℕ) (source source' : S) (old new : Book S K C) (state : State) (counts : Counts) (held : List (Output K)) : Type 0 where
  pub gave : List ℕ
  pub takes : Takes (left source) (left source') gave
  pub still : source_faults source' ≡ source_faults source
  pub events : List Event
  pub handed : List (Output K)
  pub split : IsSplit written state counts handed held gave events
  pub stood : SinksStay sink_faults handed held
  pub out : AreOut name handed old new
  pub unfailed : new.faults ≡ old.faults

pub so_far_none : {S K C : Type 0} (left : S → Option (List ℕ)) (written : K → Option (List ℕ)) (source_faults : S → ℕ) (sink_faults : K → ℕ) (name : ℕ → List ℕ) (source : S) (book : Book S K C) (state : State) (counts : Counts) (held : List (Output K)) → state ≡ Reading at_start → counts ≡ no_counts → held ≡ []
    → SplitSoFar left written source_faults sink_faults name source source book book state counts held
so_far_none {S} {K} {C} left written source_faults sink_faults name source book state counts held reading none empty = rw (reading, none, empty) (record {
  gave = [];
  takes = takes_none (left source);
  still = refl;
  events = [];
  handed = [];
  split = split_start written;
  stood = (refl, λ k d inside. absurd (omega (arith, inside)));
  out = out_none name book;
  unfailed = refl;
})

rises_handed : {K : Type 0} (written : K → Option (List ℕ)) (state : State) (counts : Counts) (handed held : List (Output K)) (gave : List ℕ) (events : List Event) → IsSplit written state counts handed held gave events → Rises (interfaces_of handed) (tally no_tally events).interfaces
rises_handed written state counts handed held gave events was = subst (λ (l : List ℕ). Rises l (tally no_tally events).interfaces) (sym (ap (λ (t : Tally). t.split) was.counted_is)) (rises events)

rises_held : {K : Type 0} (written : K → Option (List ℕ)) (state : State) (counts : Counts) (handed held : List (Output K)) (gave : List ℕ) (events : List Event) → IsSplit written state counts handed held gave events → Rises (interfaces_of held) (tally no_tally events).interfaces
rises_held written state counts handed held gave events was =
    subst (λ (l : List ℕ). Rises l (tally no_tally events).interfaces) (sym (same_handed written state counts handed held gave events was)) (rises_handed written state counts handed held gave events was)

module _ {S K C : Type 0} (left : S → Option (List ℕ)) (written : K → Option (List ℕ)) (source_faults : S → ℕ) (sink_faults : K → ℕ) (names : List (List ℕ)) (count : length names ≡ 16) (apart : AreNamesApart names) (source0 source1 source2 : S) (old mid : Book S K C) (state state' : State) (counts counts' : Counts) (held held' : List (Output K))
    (so_far : SplitSoFar left written source_faults sink_faults (name_in names) source0 source1 old mid state counts held) where
  pub differ_held : Differ held
  differ_held = differ held (own_interfaces held _ (rises_held written state counts so_far.handed held so_far.gave so_far.events so_far.split))

  pub reading : state ≢ Ended how.Failed
  reading = reads_on state so_far.gave so_far.events so_far.split.read

  low_handed : All (λ o. o.interface < 16) so_far.handed
  low_handed = low_interfaces so_far.handed _ (rises_handed written state counts so_far.handed held so_far.gave so_far.events so_far.split)

  module _ (more : List ℕ) (later : List Event) (takes : Takes (left source1) (left source2) more) where
    abbrev Ends : Outcome → Type 0
    Ends result = EndsSplit written sink_faults old.faults mid.faults (source_faults source0) (source_faults source2) so_far.handed held' (so_far.gave ++ more) (left source2) result

    abbrev Did : Outcome → Type 0
    Did result = HasSplit left written source_faults sink_faults (name_in names) source0 source2 old mid held' result

    -- it came to something behind a call
    did : interfaces_of held' ≡ interfaces_of held → (result : Outcome) → Ends result → Did result
    did same result ends =
        let stay = same ∙ same_handed written state counts so_far.handed held so_far.gave so_far.events so_far.split in
        record {
          gave = so_far.gave ++ more;
          takes = takes_more so_far.gave more _ _ _ so_far.takes takes;
          handed = so_far.handed;
          out = so_far.out;
          unfailed = λ opened. so_far.unfailed;
          own = own_interfaces held' _ (subst (λ (l : List ℕ). Rises l (tally no_tally so_far.events).interfaces) (sym same) (rises_held written state counts so_far.handed held so_far.gave so_far.events so_far.split));
          within = low_handed;
          same = stay;
          ends = ends;
        }

    -- no write failed since the start
    stand : EachOutput (HasTaken written sink_faults later) held held' → SinksStay sink_faults so_far.handed held'
    stand each = sinks_stay_more written sink_faults later so_far.handed held held' so_far.stood each

    pub did_end : source_faults source2 ≡ source_faults source1 → HasTold state state' more (left source2) later how.End → EachOutput (HasTaken written sink_faults later) held held' → tally_of counts' (interfaces_of held) ≡ tally (tally_of counts (interfaces_of held)) later → Did (outcome.Split counts')
    did_end still told each counted = did (interfaces_stay written sink_faults later held held' each) (outcome.Split counts')
        ((so_far.events ++ later, split_ended written sink_faults how.End state state' counts counts' so_far.handed held held' so_far.gave more (left source2) so_far.events later so_far.split told each counted), still ∙ so_far.still, stand each)

    pub did_malformed : source_faults source2 ≡ source_faults source1 → (at : ℕ) → HasTold state state' more (left source2) later (how.Malformed at) → EachOutput (HasTaken written sink_faults later) held held' → tally_of counts' (interfaces_of held) ≡ tally (tally_of counts (interfaces_of held)) later → Did (outcome.Malformed at counts')
    did_malformed still at told each counted = did (interfaces_stay written sink_faults later held held' each) (outcome.Malformed at counts')
        ((so_far.events ++ later, split_ended written sink_faults (how.Malformed at) state state' counts counts' so_far.handed held held' so_far.gave more (left source2) so_far.events later so_far.split told each counted), still ∙ so_far.still, stand each)

    pub did_fail : HasBroken state state' more later → EachOutput (HasTaken written sink_faults later) held held' → tally_of counts' (interfaces_of held) ≡ tally (tally_of counts (interfaces_of held)) later → Rose (source_faults source1) (source_faults source2) → Did outcome.Unread
    did_fail broken each counted rose = did (interfaces_stay written sink_faults later held held' each) outcome.Unread (
      (so_far.events ++ later, counts', split_broken written sink_faults state state' counts counts' so_far.handed held held' so_far.gave more so_far.events later so_far.split broken each counted),
      rose_since (source_faults source0) (source_faults source1) (source_faults source2) so_far.still rose,
      stand each,
    )

    pub did_not_write : source_faults source2 ≡ source_faults source1 → (interface : ℕ) → HasGone state state' more later → Writes written sink_faults (got.Unwritten interface) later held held' → tally_of counts' (interfaces_of held) ≡ tally (tally_of counts (interfaces_of held)) later → HasRisen sink_faults interface held held' → Did (outcome.Unwritten interface)
    did_not_write still interface read writes counted risen_sink =
        let stopped = stopped_unwritten written sink_faults state state' counts counts' so_far.handed held held' so_far.gave more so_far.events later so_far.split so_far.stood read interface writes counted in
        did (but_stay written sink_faults interface writes.0 writes.1 writes.2 held held' writes.4) (outcome.Unwritten interface)
        (stopped, low_risen, sink_fault written sink_faults interface writes.0 writes.1 writes.2 held held' writes.4 risen_sink, still ∙ so_far.still)
      where
        low_risen : interface < 16
        low_risen = low_of held (low_interfaces held _ (rises_held written state counts so_far.handed held so_far.gave so_far.events so_far.split)) risen_sink
          where
            low_of : (outputs : List (Output K)) → All (λ o. o.interface < 16) outputs → HasRisen sink_faults interface outputs held' → interface < 16
            low_of [] low risen_at = absurd (omega (arith, risen_at.1.0))
            low_of (x ∷ xs) low risen_at = subst (λ (i : ℕ). i < 16) (risen_at.1.1 x) (low risen_at.0 x risen_at.1.0)

    -- an interface begins whose output is to be opened
    module _ (still : source_faults source2 ≡ source_faults source1) (interface : ℕ) (read : HasGone state state' more later) (begun : HasBegun (got.Opens interface) (tally_of counts (interfaces_of held)) later) (each : EachOutput (HasTaken written sink_faults later) held held') (counted : tally_of counts' (interfaces_of held ++ interface ∷ []) ≡ tally (tally_of counts (interfaces_of held)) later) where
      call : IsCall written sink_faults (got.Opens interface) state state' counts counts' held held' more (left source2) later
      call = record { tells = read; begun = begun; writes = each; counted_is = counted }

      stay : interfaces_of held' ≡ interfaces_of held
      stay = interfaces_stay written sink_faults later held held' each

      new_here : IsNew so_far.handed interface
      new_here =
          let is = split_then written state counts counts' so_far.handed held so_far.gave so_far.events later (interfaces_of held ++ interface ∷ []) so_far.split counted in
          let same = ap (λ (l : List ℕ). l ++ interface ∷ []) (same_handed written state counts so_far.handed held so_far.gave so_far.events so_far.split) in
          next_new so_far.handed interface (tally no_tally (so_far.events ++ later)).interfaces (subst (λ (l : List ℕ). Rises l (tally no_tally (so_far.events ++ later)).interfaces) (is ∙ same) (rises (so_far.events ++ later)))

      sizes : length held' ≡ length so_far.handed
      sizes = each.0 ∙ so_far.split.captures.0

      pub begins_low : interface < length names
      begins_low = omega (arith, new_here.low, count)

      pub begins_room : length held' + 1 ≤ 16
      begins_room = omega (arith, new_here.room, sizes)

      away : All (λ o. name_in names o.interface ≢ name_in names interface) so_far.handed
      away = names_away names so_far.handed interface count apart low_handed new_here.low new_here.apart

      pub begins_ready : (IsFresh : K → Type 0) → ((other : List ℕ) → IsReady IsFresh (old.outputs other)) → IsReady IsFresh (mid.outputs (name_in names interface))
      begins_ready IsFresh ready = next_ready (name_in names) so_far.handed interface old mid so_far.out away IsFresh ready

      module _ (new : Book S K C) (held'' : List (Output K)) (others : OthersStay mid.outputs new.outputs (name_in names interface)) (rest : new ≡ record mid { faults = new.faults; outputs = new.outputs }) where
        -- its output was opened and begun
        pub goes_on : HasTried written sink_faults interface mid.faults new.faults (mid.outputs (name_in names interface)) (new.outputs (name_in names interface)) held' held'' None → new.faults ≡ mid.faults → SplitSoFar left written source_faults sink_faults (name_in names) source0 source2 old new state' counts' held''
        goes_on tried world_still =
            let sink = tried.0 in
            let begun_sink = tried.1 in
            record {
              gave = so_far.gave ++ more;
              takes = takes_more so_far.gave more _ _ _ so_far.takes takes;
              still = still ∙ so_far.still;
              events = so_far.events ++ later;
              handed = so_far.handed ++ record { interface = interface; sink = sink } ∷ [];
              split = subst (λ (l : List (Output K)). IsSplit written state' counts' (so_far.handed ++ record { interface = interface; sink = sink } ∷ []) l (so_far.gave ++ more) (so_far.events ++ later)) (sym tried.3)
                  (split_opened written sink_faults interface state state' counts counts' so_far.handed held held' so_far.gave more (left source2) so_far.events later sink begun_sink so_far.split call tried.4.0);
              stood = subst (λ (l : List (Output K)). SinksStay sink_faults (so_far.handed ++ record { interface = interface; sink = sink } ∷ []) l) (sym tried.3) (stands_too sink begun_sink tried.4.1);
              out = out_more (name_in names) so_far.handed interface old mid so_far.out away new others rest sink tried.2;
              unfailed = world_still ∙ so_far.unfailed;
            }
          where
            stands_too : (sink begun : K) → sink_faults begun ≡ sink_faults sink → SinksStay sink_faults (so_far.handed ++ record { interface = interface; sink = sink } ∷ []) (held' ++ record { interface = interface; sink = begun } ∷ [])
            stands_too sink begun same = each_more (λ (o n : Output K). sink_faults n.sink ≡ sink_faults o.sink) so_far.handed held' (record { interface = interface; sink = sink }) (record { interface = interface; sink = begun }) (stand each) same

        pub held_more : HasTried written sink_faults interface mid.faults new.faults (mid.outputs (name_in names interface)) (new.outputs (name_in names interface)) held' held'' None → length held'' ≡ length held + 1
        held_more tried = omega (arith, ap length tried.3, length-append held' (record { interface = interface; sink = tried.1 } ∷ []), each.0)

        own_held : HaveOwnInterfaces held'
        own_held = own_interfaces held' _ (subst (λ (l : List ℕ). Rises l (tally no_tally so_far.events).interfaces) (sym stay) (rises_held written state counts so_far.handed held so_far.gave so_far.events so_far.split))

        -- it couldn't be opened, or not be begun
        pub stops : (result : Outcome) → HasTried written sink_faults interface mid.faults new.faults (mid.outputs (name_in names interface)) (new.outputs (name_in names interface)) held' held'' (Some result) → (HasOpenedAll result → new.faults ≡ mid.faults) → HasSplit left written source_faults sink_faults (name_in names) source0 source2 old new held'' result
        stops (outcome.NoOutput k) tried world_still = rw (tried.0, tried.3) (record {
          gave = so_far.gave ++ more;
          takes = takes_more so_far.gave more _ _ _ so_far.takes takes;
          handed = so_far.handed;
          out = out_still (name_in names) so_far.handed interface old mid so_far.out away new others rest tried.2;
          unfailed = λ opened. absurd opened;
          own = own_held;
          within = low_handed;
          same = stay ∙ same_handed written state counts so_far.handed held so_far.gave so_far.events so_far.split;
          ends = (
            stopped_unopened written sink_faults state state' counts counts' so_far.handed held held' so_far.gave more so_far.events later so_far.split so_far.stood read interface begun each counted,
            subst (λ (n : ℕ). Rose n new.faults) so_far.unfailed tried.1,
            new_here.low,
            new_here.apart,
            still ∙ so_far.still,
          );
        })
        stops (outcome.Unwritten k) tried world_still = unbegun k tried.0 tried.1
          where
            unbegun : (k : ℕ) → k ≡ interface → IsHeldMore (AddedFront written sink_faults [] header_text) interface (mid.outputs (name_in names interface)) (new.outputs (name_in names interface)) held' held'' → HasSplit left written source_faults sink_faults (name_in names) source0 source2 old new held'' (outcome.Unwritten k)
            unbegun k is more_held =
                let sink = more_held.0 in
                let begun_sink = more_held.1 in
                let o : Output K = record { interface = interface; sink = sink } in
                let n : Output K = record { interface = interface; sink = begun_sink } in
                let all = so_far.handed ++ o ∷ [] in
                let rising = subst (λ (l : List ℕ). Rises l (tally no_tally (so_far.events ++ later)).interfaces)
                (split_then written state counts counts' so_far.handed held so_far.gave so_far.events later (interfaces_of held ++ interface ∷ []) so_far.split counted) (rises (so_far.events ++ later)) in
                let same_all : interfaces_of all ≡ interfaces_of held ++ interface ∷ [] = interfaces_more so_far.handed o ∙ ap (λ (l : List ℕ). l ++ interface ∷ []) (sym (same_handed written state counts so_far.handed held so_far.gave so_far.events so_far.split)) in
                let same_held : interfaces_of (held' ++ n ∷ []) ≡ interfaces_of held ++ interface ∷ [] = interfaces_more held' n ∙ ap (λ (l : List ℕ). l ++ interface ∷ []) stay in
                rw (is, more_held.3) (record {
                  gave = so_far.gave ++ more;
                  takes = takes_more so_far.gave more _ _ _ so_far.takes takes;
                  handed = all;
                  out = out_more (name_in names) so_far.handed interface old mid so_far.out away new others rest sink more_held.2;
                  unfailed = λ opened. world_still opened ∙ so_far.unfailed;
                  own = own_interfaces (held' ++ n ∷ []) _ (subst (λ (l : List ℕ). Rises l (tally no_tally (so_far.events ++ later)).interfaces) (sym same_held) rising);
                  within = low_interfaces all _ (subst (λ (l : List ℕ). Rises l (tally no_tally (so_far.events ++ later)).interfaces) (sym same_all) rising);
                  same = same_held ∙ sym same_all;
                  ends = (
                    stopped_unbegun written sink_faults state state' counts counts' so_far.handed held held' so_far.gave more so_far.events later so_far.split so_far.stood read interface begun each counted new_here.apart sink begun_sink more_held.4,
                    new_here.low,
                    (length held', (omega (arith, length-append held' (n ∷ [])), λ (d : Output K). ap (λ (x : Output K). x.interface) (last_at held' n d)), λ (d : Output K). subst (λ (x : Output K). 0 < sink_faults x.sink) (sym (last_at held' n d)) (fault_of (sink_faults sink) (sink_faults begun_sink) (rose_in sink begun_sink more_held.4))),
                    still ∙ so_far.still,
                  );
                })
              where
                rose_in : (sink begun : K) → AddedFront written sink_faults [] header_text sink begun → Rose (sink_faults sink) (sink_faults begun)
                rose_in sink begun took = took.3

                last_at : (outputs : List (Output K)) (n d : Output K) → get_or (outputs ++ n ∷ []) (length outputs) d ≡ n
                last_at outputs n d = get_or_at outputs n [] d (length outputs) refl
        stops (outcome.Split counted_so) tried world_still = absurd tried
        stops (outcome.Malformed at counted_so) tried world_still = absurd tried
        stops outcome.Unread tried world_still = absurd tried
        stops outcome.NoInput tried world_still = absurd tried

-- what a slice of all elements was written back as
pub slice_back : {X : Type 0} (n : ℕ) (written items : List X) → length written ≡ length items → length items ≡ n → take n (written ++ drop (length written) items) ≡ written
slice_back {X} n written items same size =
    let none : drop (length written) items ≡ [] = drop_all (length written) items (omega (arith, same)) in
    ap (λ (l : List X). take n (written ++ l)) none ∙ ap (take n) (append-nil written) ∙ take_all n written (omega (arith, same, size))

-- one call of a splitter on the outputs that are held
module _ {S K C : Type 0} (left : S → Option (List ℕ)) (written : K → Option (List ℕ)) (source_faults : S → ℕ) (sink_faults : K → ℕ) (names : List (List ℕ)) (count : length names ≡ 16) (apart : AreNamesApart names) (source0 source1 source2 : S) (old mid : Book S K C) (state state' : State) (counts counts' : Counts) (items slice outs : List (Output K)) (n : ℕ)
    (so_far : SplitSoFar left written source_faults sink_faults (name_in names) source0 source1 old mid state counts items) (is : slice ≡ items) (size : length items ≡ n) where
  so_slice : SplitSoFar left written source_faults sink_faults (name_in names) source0 source1 old mid state counts slice
  so_slice = subst (λ (l : List (Output K)). SplitSoFar left written source_faults sink_faults (name_in names) source0 source1 old mid state counts l) (sym is) so_far

  pub slice_differs : Differ slice
  slice_differs = differ_held left written source_faults sink_faults names count apart source0 source1 source2 old mid state state' counts counts' slice outs so_slice

  pub slice_reads : state ≢ Ended how.Failed
  slice_reads = reading left written source_faults sink_faults names count apart source0 source1 source2 old mid state state' counts counts' slice outs so_slice

  abbrev Call : SplitGot → Type 0
  Call stop = (more : List ℕ) × (later : List Event) × Takes (left source1) (left source2) more × Tells stop state state' more (left source2) later × HasBegun stop (tally_of counts (interfaces_of slice)) later × Writes written sink_faults stop later slice outs
      × (tally_of counts' (split_behind stop (interfaces_of slice)) ≡ tally (tally_of counts (interfaces_of slice)) later)

  back : length outs ≡ length slice → take n (outs ++ drop (length outs) items) ≡ outs
  back same = slice_back n outs items (omega (arith, same, ap length is)) size

  module _ where
    done : (result : Outcome) → length outs ≡ length slice → HasSplit left written source_faults sink_faults (name_in names) source0 source2 old mid outs result → HasSplit left written source_faults sink_faults (name_in names) source0 source2 old mid (take n (outs ++ drop (length outs) items)) result
    done result same split = subst (λ (l : List (Output K)). HasSplit left written source_faults sink_faults (name_in names) source0 source2 old mid l result) (sym (back same)) split

    pub stops_end : source_faults source2 ≡ source_faults source1 → Call got.End → HasSplit left written source_faults sink_faults (name_in names) source0 source2 old mid (take n (outs ++ drop (length outs) items)) (outcome.Split counts')
    stops_end still call = done (outcome.Split counts') call.5.0 (did_end left written source_faults sink_faults names count apart source0 source1 source2 old mid state state' counts counts' slice outs so_slice call.0 call.1 call.2 still call.3 call.5 call.6)

    pub stops_malformed : source_faults source2 ≡ source_faults source1 → (at : ℕ) → Call (got.Malformed at) → HasSplit left written source_faults sink_faults (name_in names) source0 source2 old mid (take n (outs ++ drop (length outs) items)) (outcome.Malformed at counts')
    stops_malformed still at call = done (outcome.Malformed at counts') call.5.0 (did_malformed left written source_faults sink_faults names count apart source0 source1 source2 old mid state state' counts counts' slice outs so_slice call.0 call.1 call.2 still at call.3 call.5 call.6)

    pub stops_failed : Call got.Failed → Rose (source_faults source1) (source_faults source2) → HasSplit left written source_faults sink_faults (name_in names) source0 source2 old mid (take n (outs ++ drop (length outs) items)) outcome.Unread
    stops_failed call rose = done outcome.Unread call.5.0 (did_fail left written source_faults sink_faults names count apart source0 source1 source2 old mid state state' counts counts' slice outs so_slice call.0 call.1 call.2 call.3 call.5 call.6 rose)

    pub stops_unwritten : source_faults source2 ≡ source_faults source1 → (interface : ℕ) → Call (got.Unwritten interface) → HasRisen sink_faults interface slice outs → HasSplit left written source_faults sink_faults (name_in names) source0 source2 old mid (take n (outs ++ drop (length outs) items)) (outcome.Unwritten interface)
    stops_unwritten still interface call rose = done (outcome.Unwritten interface) (size_of call.5) (did_not_write left written source_faults sink_faults names count apart source0 source1 source2 old mid state state' counts counts' slice outs so_slice call.0 call.1 call.2 still interface call.3 call.5 call.6 rose)
      where
        size_of : Writes written sink_faults (got.Unwritten interface) call.1 slice outs → length outs ≡ length slice
        size_of writes = writes.4.0

    module _ (still : source_faults source2 ≡ source_faults source1) (interface : ℕ) (call : Call (got.Opens interface)) where
      pub opens_low : interface < length names
      opens_low = begins_low left written source_faults sink_faults names count apart source0 source1 source2 old mid state state' counts counts' slice outs so_slice call.0 call.1 call.2 still interface call.3 call.4 call.5 call.6

      pub opens_room : n + 1 ≤ 16
      opens_room =
          let room = begins_room left written source_faults sink_faults names count apart source0 source1 source2 old mid state state' counts counts' slice outs so_slice call.0 call.1 call.2 still interface call.3 call.4 call.5 call.6 in
          omega (arith, room, call.5.0, ap length is, size)

      pub opens_ready : (IsFresh : K → Type 0) → ((other : List ℕ) → IsReady IsFresh (old.outputs other)) → IsReady IsFresh (mid.outputs (name_in names interface))
      opens_ready = begins_ready left written source_faults sink_faults names count apart source0 source1 source2 old mid state state' counts counts' slice outs so_slice call.0 call.1 call.2 still interface call.3 call.4 call.5 call.6

      module _ (new : Book S K C) (held : List (Output K)) (others : OthersStay mid.outputs new.outputs (name_in names interface)) (rest : new ≡ record mid { faults = new.faults; outputs = new.outputs }) where
        abbrev Tried : Option Outcome → Type 0
        Tried result = HasTried written sink_faults interface mid.faults new.faults (mid.outputs (name_in names interface)) (new.outputs (name_in names interface)) (take n (outs ++ drop (length outs) items)) held result

        tried_outs : (result : Option Outcome) → Tried result → HasTried written sink_faults interface mid.faults new.faults (mid.outputs (name_in names interface)) (new.outputs (name_in names interface)) outs held result
        tried_outs result tried = subst (λ (l : List (Output K)). HasTried written sink_faults interface mid.faults new.faults (mid.outputs (name_in names interface)) (new.outputs (name_in names interface)) l held result) (back call.5.0) tried

        pub opens_on : Tried None → new.faults ≡ mid.faults → SplitSoFar left written source_faults sink_faults (name_in names) source0 source2 old new state' counts' held
        opens_on tried world_still = goes_on left written source_faults sink_faults names count apart source0 source1 source2 old mid state state' counts counts' slice outs so_slice call.0 call.1 call.2 still interface call.3 call.4 call.5 call.6 new held others rest (tried_outs None tried) world_still

        pub opens_more : Tried None → length held ≡ n + 1
        opens_more tried =
            let more = held_more left written source_faults sink_faults names count apart source0 source1 source2 old mid state state' counts counts' slice outs so_slice call.0 call.1 call.2 still interface call.3 call.4 call.5 call.6 new held others rest (tried_outs None tried) in
            omega (arith, more, ap length is, size)

        pub opens_stop : (result : Outcome) → Tried (Some result) → (HasOpenedAll result → new.faults ≡ mid.faults) → HasSplit left written source_faults sink_faults (name_in names) source0 source2 old new held result
        opens_stop result tried world_still = stops left written source_faults sink_faults names count apart source0 source1 source2 old mid state state' counts counts' slice outs so_slice call.0 call.1 call.2 still interface call.3 call.4 call.5 call.6 new held others rest result (tried_outs (Some result) tried) world_still
