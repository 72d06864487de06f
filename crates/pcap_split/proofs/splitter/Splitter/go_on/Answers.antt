use Rattle.std.proofs.Common.{◌≡◌, ◌≤◌, inl, inr, ◌+◌, ℕ, List, [], ◌++◌, length, Option, Some, None, IfSome, refl, sym, ap, subst, ◌∙◌, arith}
use Rattle.savi_kinds.specs.declared.entry.How.TheVariants as how
use Rattle.savi_ends.proofs.FaultCounts.{rose_since}
use Rattle.savi_ends.proofs.Octets.{takes_more}
use Rattle.pcap_io.proofs.CallsJoined.{takes_none}
use Rattle.pcapng_io.specs.declared.next.NgNext.{NgNext}
use Rattle.pcapng_io.specs.declared.next.NgNext.TheVariants as next
use Rattle.pcapng_io.specs.Blocks.{Standing}
use Rattle.pcapng_io.specs.Readers.{State, Reading, Ended, Answers, block_place}
use Rattle.pcapng_io.proofs.Readings.{has_read_none}
use Rattle.pcap_split.specs.declared.split.SplitGot.{SplitGot}
use Rattle.pcap_split.specs.Splits.{tally}
use Rattle.pcap_split.specs.Counts.{interfaces_of, tally_of, counted}
use Rattle.pcap_split.specs.Going.{HasBegun, Tells, split_behind, last_got}
use Rattle.pcap_split.specs.States.{Splitting}
use Rattle.pcap_split.specs.Steps.{Does}
use Rattle.pcap_split.proofs.Goings.{SoFar, TellsEvent, none_yet, differ_still, counted_within, may_take, place_within, goes_on, stops_at, rose_at, failed_by, failed_back, splitting, if_any, if_more, idle_again}
use Rattle.pcap_split.proofs.splitter.Splitter.go_on.Goals as goal

pub loop-got-init : goal.loop-got-init
loop-got-init g c = record {
  still = refl;
  within = c.self.invariant;
  failed = λ is. is;
  on = inl refl;
  idle = if_any (last_got c.self.inside.reader) _ (λ got. (refl, refl, refl, refl));
  split = ([], [], takes_none (g.S.Source.left c.args.source.now), has_read_none c.self.inside.reader, omega arith, none_yet g.K.Sink.written g.K.Sink.faults c.args.outputs.now, refl);
}

pub take_answer-requires-clause-room : goal.take_answer-requires-clause-room
take_answer-requires-clause-room g c =
    let W = g.K.Sink.written in
    let F = g.K.Sink.faults in
    let was = c.loop-got.invariant in
    let w = was.split in
    let first = c.self.inside.reader in
    let mid = c.loop-got.self-inside.reader in
    let counts = c.loop-got.self-inside.counts in
    let one = c.next-answer.ensures.octets in
    let new = c.next-answer.new.self in
    let buf = c.next-answer.new.buf in
    let left = g.S.Source.left c.next-answer.new.source in
    let answer = c.next-answer.result in
    let inside : TellsEvent answer → counted counts ≤ block_place mid = λ event. counted_within mid counts answer
    (λ a. (answer ≡ a) × (new ≡ mid) × (c.next-answer.new.source ≡ c.loop-got.source) × (buf ≡ c.loop-got.buf)) (λ a x. x.0) was.within c.next-answer.ensures.again event in
    may_take mid new one.0 buf left counts answer one.2 c.next-answer.ensures.placed inside

pub take_answer-requires-clause-differ : goal.take_answer-requires-clause-differ
take_answer-requires-clause-differ g c =
    let w = c.loop-got.invariant.split in
    differ_still g.K.Sink.written g.K.Sink.faults w.1 c.args.outputs.now c.loop-got.outputs w.5 c.requires

-- behind a failed read a reader reads no more
failed_state : (old new : State) (gave buf : List ℕ) (left : Option (List ℕ)) (answer : NgNext) → Answers old new gave buf left answer → answer ≡ next.Failed → new ≡ Ended how.Failed
failed_state old new gave buf left answer answers is = (subst (Answers old new gave buf left) is answers).state

reading_fails_not : (state : State) (s : Standing) → state ≡ Reading s → state ≡ Ended how.Failed → ⊥
reading_fails_not state s is failed = absurd (cc)

pub loop-got-preserved : goal.loop-got-preserved
loop-got-preserved g c =
    let W = g.K.Sink.written in
    let F = g.K.Sink.faults in
    let was = c.loop-got.invariant in
    let w = was.split in
    let first = c.self.inside.reader in
    let mid = c.loop-got.self-inside.reader in
    let counts = c.loop-got.self-inside.counts in
    let one = c.next-answer.ensures.octets in
    let new = c.next-answer.new.self in
    let buf = c.next-answer.new.buf in
    let left = g.S.Source.left c.next-answer.new.source in
    let answer = c.next-answer.result in
    let inside : TellsEvent answer → counted counts ≤ block_place mid = λ event. counted_within mid counts answer
    (λ a. (answer ≡ a) × (new ≡ mid) × (c.next-answer.new.source ≡ c.loop-got.source) × (buf ≡ c.loop-got.buf)) (λ a x. x.0) was.within c.next-answer.ensures.again event in
    let sofar : SoFar W F first mid c.self.inside.counts counts c.args.outputs.now c.loop-got.outputs w.0 w.1 = record { on = was.on; read = w.3; place = w.4; each = w.5; tallied_is = w.6 } in
    let does : Does W F answer buf counts c.take_answer.new.counts c.loop-got.outputs c.take_answer.new.outputs None =
    subst (λ (r : Option SplitGot). Does W F answer buf counts c.take_answer.new.counts c.loop-got.outputs c.take_answer.new.outputs r) c.in_default.is c.take_answer.ensures in
    let on = goes_on W F first mid new c.self.inside.counts counts c.take_answer.new.counts c.args.outputs.now c.loop-got.outputs c.take_answer.new.outputs w.0 one.0 buf left w.1 answer sofar one.2 c.next-answer.ensures.placed inside does in
    record {
      still = c.next-answer.ensures.still (λ failed. reading_fails_not new on.reading.0 on.reading.1 (failed_state mid new one.0 buf left answer one.2 failed)) ∙ was.still;
      within = on.within;
      on = inr (on.reading.0, on.reading.1);
      idle = if_more (last_got first) (idle_again W F mid new c.self.inside.counts counts c.take_answer.new.counts c.args.outputs.now c.loop-got.outputs c.take_answer.new.outputs c.args.source.now c.loop-got.source c.next-answer.new.source c.loop-got.buf buf answer None c.next-answer.ensures.again does first was.idle) (λ got is. absurd (cc (is.0)));
      failed = λ is. absurd (reading_fails_not new on.reading.0 on.reading.1 is);
      split = (w.0 ++ one.0, on.events, takes_more w.0 one.0 _ _ _ w.2 one.1, on.sofar.read, on.sofar.place, on.sofar.each, on.sofar.tallied_is);
    }

pub loop-got-smaller : goal.loop-got-smaller
loop-got-smaller g c =
    let W = g.K.Sink.written in
    let F = g.K.Sink.faults in
    let was = c.loop-got.invariant in
    let w = was.split in
    let first = c.self.inside.reader in
    let mid = c.loop-got.self-inside.reader in
    let counts = c.loop-got.self-inside.counts in
    let one = c.next-answer.ensures.octets in
    let new = c.next-answer.new.self in
    let buf = c.next-answer.new.buf in
    let left = g.S.Source.left c.next-answer.new.source in
    let answer = c.next-answer.result in
    let inside : TellsEvent answer → counted counts ≤ block_place mid = λ event. counted_within mid counts answer
    (λ a. (answer ≡ a) × (new ≡ mid) × (c.next-answer.new.source ≡ c.loop-got.source) × (buf ≡ c.loop-got.buf)) (λ a x. x.0) was.within c.next-answer.ensures.again event in
    let sofar : SoFar W F first mid c.self.inside.counts counts c.args.outputs.now c.loop-got.outputs w.0 w.1 = record { on = was.on; read = w.3; place = w.4; each = w.5; tallied_is = w.6 } in
    let does : Does W F answer buf counts c.take_answer.new.counts c.loop-got.outputs c.take_answer.new.outputs None =
    subst (λ (r : Option SplitGot). Does W F answer buf counts c.take_answer.new.counts c.loop-got.outputs c.take_answer.new.outputs r) c.in_default.is c.take_answer.ensures in
    let on = goes_on W F first mid new c.self.inside.counts counts c.take_answer.new.counts c.args.outputs.now c.loop-got.outputs c.take_answer.new.outputs w.0 one.0 buf left w.1 answer sofar one.2 c.next-answer.ensures.placed inside does in
    let r = on.reading in
    omega (arith, ap block_place r.1, r.2, on.some, place_within new (block_place mid + length one.0) c.next-answer.ensures.placed r)

pub returns-in-Some-clause-split : goal.returns-in-Some-clause-split
returns-in-Some-clause-split g c =
    let W = g.K.Sink.written in
    let F = g.K.Sink.faults in
    let was = c.loop-got.invariant in
    let w = was.split in
    let first = c.self.inside.reader in
    let mid = c.loop-got.self-inside.reader in
    let counts = c.loop-got.self-inside.counts in
    let one = c.next-answer.ensures.octets in
    let new = c.next-answer.new.self in
    let buf = c.next-answer.new.buf in
    let left = g.S.Source.left c.next-answer.new.source in
    let answer = c.next-answer.result in
    let sofar : SoFar W F first mid c.self.inside.counts counts c.args.outputs.now c.loop-got.outputs w.0 w.1 = record { on = was.on; read = w.3; place = w.4; each = w.5; tallied_is = w.6 } in
    let does : Does W F answer buf counts c.take_answer.new.counts c.loop-got.outputs c.take_answer.new.outputs (Some c.in-Some.got) =
    subst (λ (r : Option SplitGot). Does W F answer buf counts c.take_answer.new.counts c.loop-got.outputs c.take_answer.new.outputs r) c.in-Some.is c.take_answer.ensures in
    let at = stops_at W F first mid new c.self.inside.counts counts c.take_answer.new.counts c.args.outputs.now c.loop-got.outputs c.take_answer.new.outputs w.0 one.0 buf left w.1 answer c.in-Some.got sofar one.2 does in (
      w.0 ++ one.0,
      at.events,
      takes_more w.0 one.0 _ _ _ w.2 one.1,
      subst (λ (v : Splitting). Tells c.in-Some.got v.reading new (w.0 ++ one.0) left at.events) c.self.view_is at.tells,
      subst (λ (v : Splitting). HasBegun c.in-Some.got (tally_of v.counts (interfaces_of c.args.outputs.now)) at.events) c.self.view_is at.begun,
      at.writes,
      subst (λ (v : Splitting). tally_of c.take_answer.new.counts (split_behind c.in-Some.got (interfaces_of c.args.outputs.now)) ≡ tally (tally_of v.counts (interfaces_of c.args.outputs.now)) at.events) c.self.view_is at.tallied_is,
    )

pub returns-in-Some-clause-unwritten : goal.returns-in-Some-clause-unwritten
returns-in-Some-clause-unwritten g c =
    let W = g.K.Sink.written in
    let F = g.K.Sink.faults in
    let was = c.loop-got.invariant in
    let w = was.split in
    let first = c.self.inside.reader in
    let mid = c.loop-got.self-inside.reader in
    let counts = c.loop-got.self-inside.counts in
    let one = c.next-answer.ensures.octets in
    let new = c.next-answer.new.self in
    let buf = c.next-answer.new.buf in
    let left = g.S.Source.left c.next-answer.new.source in
    let answer = c.next-answer.result in
    let does : Does W F answer buf counts c.take_answer.new.counts c.loop-got.outputs c.take_answer.new.outputs (Some c.in-Some.got) =
    subst (λ (r : Option SplitGot). Does W F answer buf counts c.take_answer.new.counts c.loop-got.outputs c.take_answer.new.outputs r) c.in-Some.is c.take_answer.ensures in
    rose_at W F w.1 answer buf counts c.take_answer.new.counts c.args.outputs.now c.loop-got.outputs c.take_answer.new.outputs c.in-Some.got w.5 does

pub returns-in-Some-clause-cause : goal.returns-in-Some-clause-cause
returns-in-Some-clause-cause g c =
    let W = g.K.Sink.written in
    let F = g.K.Sink.faults in
    let was = c.loop-got.invariant in
    let w = was.split in
    let first = c.self.inside.reader in
    let mid = c.loop-got.self-inside.reader in
    let counts = c.loop-got.self-inside.counts in
    let one = c.next-answer.ensures.octets in
    let new = c.next-answer.new.self in
    let buf = c.next-answer.new.buf in
    let left = g.S.Source.left c.next-answer.new.source in
    let answer = c.next-answer.result in
    let does : Does W F answer buf counts c.take_answer.new.counts c.loop-got.outputs c.take_answer.new.outputs (Some c.in-Some.got) =
    subst (λ (r : Option SplitGot). Does W F answer buf counts c.take_answer.new.counts c.loop-got.outputs c.take_answer.new.outputs r) c.in-Some.is c.take_answer.ensures in
    λ is first_time. rose_since (g.S.Source.faults c.args.source.now) (g.S.Source.faults c.loop-got.source) (g.S.Source.faults c.next-answer.new.source) was.still (c.next-answer.ensures.cause (failed_by W F answer buf counts c.take_answer.new.counts c.loop-got.outputs c.take_answer.new.outputs c.in-Some.got does is) (λ failed. first_time (ap (λ (v : Splitting). v.reading) (sym c.self.view_is) ∙ was.failed failed)))

pub returns-in-Some-clause-still : goal.returns-in-Some-clause-still
returns-in-Some-clause-still g c =
    let W = g.K.Sink.written in
    let F = g.K.Sink.faults in
    let counts = c.loop-got.self-inside.counts in
    let buf = c.next-answer.new.buf in
    let does : Does W F c.next-answer.result buf counts c.take_answer.new.counts c.loop-got.outputs c.take_answer.new.outputs (Some c.in-Some.got) =
    subst (λ (r : Option SplitGot). Does W F c.next-answer.result buf counts c.take_answer.new.counts c.loop-got.outputs c.take_answer.new.outputs r) c.in-Some.is c.take_answer.ensures in
    λ other. c.next-answer.ensures.still (λ failed. other (failed_back W F c.next-answer.result buf counts c.take_answer.new.counts c.loop-got.outputs c.take_answer.new.outputs c.in-Some.got does failed)) ∙ c.loop-got.invariant.still

pub returns-in-Some-clause-again : goal.returns-in-Some-clause-again
returns-in-Some-clause-again g c =
    let W = g.K.Sink.written in
    let F = g.K.Sink.faults in
    let first = c.self.inside.reader in
    let mid = c.loop-got.self-inside.reader in
    let counts = c.loop-got.self-inside.counts in
    let counts' = c.take_answer.new.counts in
    let new = c.next-answer.new.self in
    let buf = c.next-answer.new.buf in
    let answer = c.next-answer.result in
    let stop = c.in-Some.got in
    let does : Does W F answer buf counts counts' c.loop-got.outputs c.take_answer.new.outputs (Some stop) =
    subst (λ (r : Option SplitGot). Does W F answer buf counts counts' c.loop-got.outputs c.take_answer.new.outputs r) c.in-Some.is c.take_answer.ensures in
    subst (λ (v : Splitting). IfSome (last_got v.reading) (λ got. (stop ≡ got) × (splitting new counts' ≡ v) × (c.next-answer.new.source ≡ c.args.source.now) × (c.take_answer.new.outputs ≡ c.args.outputs.now))) c.self.view_is
    (if_more (last_got first) (idle_again W F mid new c.self.inside.counts counts counts' c.args.outputs.now c.loop-got.outputs c.take_answer.new.outputs c.args.source.now c.loop-got.source c.next-answer.new.source c.loop-got.buf buf answer (Some stop) c.next-answer.ensures.again does first c.loop-got.invariant.idle)
    (λ got is. (some_same stop got is.0, is.1, is.2, is.3)))
  where
    some_same : (a b : SplitGot) → Some a ≡ Some b → a ≡ b
    some_same a b same = cc
