-- What a reader took, arrival after arrival, and how that fits its source once the input has ended.
use Rattle.std.proofs.Common.{◌≡◌, ℕ, ◌+◌, length, true, false, List, [], ◌∷◌, ◌++◌, refl, sym, subst, ap, ◌∙◌, append-nil, append_assoc, Option, Some, None, inl, inr, take}
use Rattle.savi_kinds.specs.declared.plan.Format.{Format}
use Rattle.savi_kinds.specs.declared.plan.Format.TheVariants as forms
use Rattle.savi_kinds.specs.declared.entry.How.{How}
use Rattle.savi_kinds.specs.declared.entry.How.TheVariants as hows
use Rattle.savi_kinds.specs.declared.arrival.Next.TheVariants as next
use Rattle.savi_kinds.specs.Arrivals.{Arrival, Frame, Long}
use Rattle.savi_ends.specs.Octets.{Takes, in_front}
use Rattle.savi_ends.proofs.Octets.{takes_more}
use Rattle.pcap_io.specs.Kinds.{classic_kinds}
use Rattle.pcap_io.specs.Readers as captures
use Rattle.pcap_io.proofs.CallsJoined as joined
use Rattle.stream_io.specs.Streams.{IsRun}
use Rattle.stream_io.specs.Readers as streams
use Rattle.input_read.specs.Readers.{Answers, HasFailed, IsNew}
use Rattle.input_read.specs.declared.reader.InputReader.{InputReader}
use Rattle.input_read.specs.declared.reader.InputReader.TheVariants as readers
use Rattle.port_reader.specs.Inputs.{FitsRead, IsNearInputFault, IsReadBroken, IsReadWhole}
use Rattle.port_reader.specs.Progress.{HasRead, octets_taken, input_form}

-- one arrival was read
abbrev pub IsOne : InputReader → InputReader → List ℕ → Arrival → Type 0
IsOne (readers.Pcap old) (readers.Pcap new) gave arrival = captures.HasReadOne old new gave arrival
IsOne (readers.Stream old) (readers.Stream new) gave arrival = streams.HasReadOne old new gave arrival
IsOne (readers.Pcap old) (readers.Stream new) gave arrival = ⊥
IsOne (readers.Stream old) (readers.Pcap new) gave arrival = ⊥

pub one_frame : (old new : InputReader) (gave buf : List ℕ) (left : Option (List ℕ)) (stamp len : ℕ) → Answers old new gave buf left (next.Frame stamp len) → IsOne old new gave (Frame stamp (take len buf))
one_frame (readers.Pcap old) (readers.Pcap new) gave buf left stamp len answers = answers.1
one_frame (readers.Stream old) (readers.Stream new) gave buf left stamp len answers = answers.1
one_frame (readers.Pcap old) (readers.Stream new) gave buf left stamp len answers = answers
one_frame (readers.Stream old) (readers.Pcap new) gave buf left stamp len answers = answers

pub one_long : (old new : InputReader) (gave buf : List ℕ) (left : Option (List ℕ)) (stamp len : ℕ) → Answers old new gave buf left (next.Long stamp len) → IsOne old new gave (Long stamp len)
one_long (readers.Pcap old) (readers.Pcap new) gave buf left stamp len answers = answers.2
one_long (readers.Stream old) (readers.Stream new) gave buf left stamp len answers = answers.2
one_long (readers.Pcap old) (readers.Stream new) gave buf left stamp len answers = answers
one_long (readers.Stream old) (readers.Pcap new) gave buf left stamp len answers = answers

-- a reader keeps its form where it reads an arrival, and no read has failed
pub one_form : (old new : InputReader) (gave : List ℕ) (arrival : Arrival) → IsOne old new gave arrival → input_form new ≡ input_form old
one_form (readers.Pcap old) (readers.Pcap new) gave arrival one = refl
one_form (readers.Stream old) (readers.Stream new) gave arrival one = refl
one_form (readers.Pcap old) (readers.Stream new) gave arrival one = absurd one
one_form (readers.Stream old) (readers.Pcap new) gave arrival one = absurd one

pub one_unbroken : (old new : InputReader) (gave : List ℕ) (arrival : Arrival) → IsOne old new gave arrival → ¬ HasFailed new
one_unbroken (readers.Pcap old) (readers.Pcap new) gave arrival one failed = let e = one.running.1 in cc
one_unbroken (readers.Stream old) (readers.Stream new) gave arrival one failed = let e = one.running in cc
one_unbroken (readers.Pcap old) (readers.Stream new) gave arrival one failed = one
one_unbroken (readers.Stream old) (readers.Pcap new) gave arrival one failed = one

-- how many octets were taken
pub one_taken : (old new : InputReader) (gave : List ℕ) (arrival : Arrival) → IsOne old new gave arrival → octets_taken new ≡ octets_taken old + length gave
one_taken (readers.Pcap old) (readers.Pcap new) gave arrival one = ap captures.record_place one.running.1
one_taken (readers.Stream old) (readers.Stream new) gave arrival one = one.all
one_taken (readers.Pcap old) (readers.Stream new) gave arrival one = absurd one
one_taken (readers.Stream old) (readers.Pcap new) gave arrival one = absurd one

pub new_taken : (format : Format) (reader : InputReader) → IsNew format reader → octets_taken reader ≡ 0
new_taken forms.Pcap (readers.Pcap state) new = ap captures.record_place new
new_taken forms.Pcap (readers.Stream state) new = absurd new
new_taken forms.Stream (readers.Pcap state) new = absurd new
new_taken forms.Stream (readers.Stream state) new = ap streams.octets_taken new

-- and no more from a place at fault on than there may be of one record
pub fault_near : (at place : ℕ) (old new : InputReader) (gave buf : List ℕ) (left : Option (List ℕ)) → Answers old new gave buf left (next.Malformed at) → hows.Malformed at ≡ hows.Malformed place → IsNearInputFault (input_form old) place (octets_taken old + length gave) left
fault_near at place (readers.Pcap old) (readers.Pcap new) gave buf left answers same = answers.near place same
fault_near at place (readers.Stream old) (readers.Stream new) gave buf left answers same = answers.2 place same
fault_near at place (readers.Pcap old) (readers.Stream new) gave buf left answers same = absurd answers
fault_near at place (readers.Stream old) (readers.Pcap new) gave buf left answers same = absurd answers

-- at the beginning nothing was read
pub read_none : (format : Format) (reader : InputReader) → IsNew format reader → HasRead reader [] []
read_none forms.Pcap (readers.Pcap state) new = subst (λ (s : captures.State). captures.HasRead (captures.Fresh classic_kinds) s [] []) (sym new) (joined.has_read_none (captures.Fresh classic_kinds))
read_none forms.Pcap (readers.Stream state) new = absurd new
read_none forms.Stream (readers.Pcap state) new = absurd new
read_none forms.Stream (readers.Stream state) new = subst (λ (s : streams.State). streams.HasRead (streams.Running 0 []) s [] []) (sym new) (λ seen rest later ending comes. comes)

pub new_form : (format : Format) (reader : InputReader) → IsNew format reader → input_form reader ≡ format
new_form forms.Pcap (readers.Pcap state) new = refl
new_form forms.Pcap (readers.Stream state) new = absurd new
new_form forms.Stream (readers.Pcap state) new = absurd new
new_form forms.Stream (readers.Stream state) new = refl

pub new_unbroken : (format : Format) (reader : InputReader) → IsNew format reader → ¬ HasFailed reader
new_unbroken forms.Pcap (readers.Pcap state) new failed = let e = new in cc
new_unbroken forms.Pcap (readers.Stream state) new failed = new
new_unbroken forms.Stream (readers.Pcap state) new failed = new
new_unbroken forms.Stream (readers.Stream state) new failed = let e = new in cc

-- records of a stream, one behind others
stream_more : (old new : streams.State) (gave more : List ℕ) (arrivals : List Arrival) (x : Arrival) → streams.HasRead (streams.Running 0 []) old gave arrivals → streams.HasReadOne old new more x
    → streams.HasRead (streams.Running 0 []) new (gave ++ more) (arrivals ++ x ∷ [])
stream_more old new gave more arrivals x read one seen rest later ending comes =
    let run = read seen (more ++ rest) (x ∷ later) ending (one.read seen rest later ending comes) in
    subst (λ (t : List ℕ × List Arrival). streams.Comes seen (streams.Running 0 []) t.0 (record { arrivals = t.1; ending = ending }))
    (λ i. (sym (append_assoc gave more rest) i, sym (append_assoc arrivals (x ∷ []) later) i)) run

-- one arrival more
pub read_more : (old new : InputReader) (gave more : List ℕ) (arrivals : List Arrival) (x : Arrival) → HasRead old gave arrivals → IsOne old new more x → HasRead new (gave ++ more) (arrivals ++ x ∷ [])
read_more (readers.Pcap old) (readers.Pcap new) gave more arrivals x read one = joined.has_read_more (captures.Fresh classic_kinds) old new gave more arrivals (x ∷ []) read one.read
read_more (readers.Stream old) (readers.Stream new) gave more arrivals x read one = stream_more old new gave more arrivals x read one
read_more (readers.Pcap old) (readers.Stream new) gave more arrivals x read one = absurd one
read_more (readers.Stream old) (readers.Pcap new) gave more arrivals x read one = absurd one

some_same : {A : Type 0} {a b : A} → Some a ≡ Some b → a ≡ b
some_same e = cc

-- where a stream ended: its arrivals are all that its source had left
stream_whole : (before mid now : Option (List ℕ)) (state new : streams.State) (arrivals : List Arrival) (gave more : List ℕ) (ending : How) → Takes before mid gave → streams.HasRead (streams.Running 0 []) state gave arrivals → Takes mid now more → streams.HasEnded state new more now ending → IsReadWhole forms.Stream before arrivals ending
stream_whole None mid now state new arrivals gave more ending took read takes has = tt
stream_whole (Some octets) mid None state new arrivals gave more ending took read takes has =
    let none : Some octets ≡ None = took ∙ ap (λ (o : Option (List ℕ)). in_front gave o) takes in absurd cc
stream_whole (Some octets) mid (Some rest) state new arrivals gave more ending took read takes has =
    let all : octets ≡ gave ++ (more ++ rest) = some_same (took ∙ ap (λ (o : Option (List ℕ)). in_front gave o) takes) in
    let comes : streams.Comes true state (more ++ rest) (streams.ended ending) = elim has.1 [
      | inl whatever ↦ whatever true rest
      | inr nothing ↦ subst (λ (l : List ℕ). streams.Comes true state l (streams.ended ending)) (sym (ap (λ (l : List ℕ). more ++ l) nothing.0 ∙ append-nil more)) nothing.1
    ] in
    let run = read true (more ++ rest) [] ending comes in
    subst (λ (t : List ℕ × List Arrival). IsRun true 0 t.1 ending t.0) (λ i. (sym all i, append-nil arrivals i)) run

-- where a read of it failed: they are all the records that it gave
stream_broken : (before mid now : Option (List ℕ)) (state : streams.State) (arrivals : List Arrival) (gave more : List ℕ) → Takes before mid gave → streams.HasRead (streams.Running 0 []) state gave arrivals → Takes mid now more → streams.Comes false state more (streams.ended hows.Failed) → IsReadBroken forms.Stream before now arrivals
stream_broken before mid now state arrivals gave more took read takes comes = record {
  gave = gave ++ more;
  takes = takes_more gave more _ _ _ took takes;
  read = subst (λ (t : List Arrival). IsRun false 0 t hows.Failed (gave ++ more)) (append-nil arrivals) (read false more [] hows.Failed comes);
}

module _ (before mid now : Option (List ℕ)) (gave more buf : List ℕ) (arrivals : List Arrival) (took : Takes before mid gave) (takes : Takes mid now more) where
  -- the input ended behind a whole record
  pub fits_end : (old new : InputReader) → HasRead old gave arrivals → Answers old new more buf now next.End → FitsRead (input_form old) before now arrivals hows.End
  fits_end (readers.Pcap old) (readers.Pcap new) read answers =
      joined.whole_input (captures.Fresh classic_kinds) old new gave more arrivals before now hows.End read answers (takes_more gave more _ _ _ took takes)
  fits_end (readers.Stream old) (readers.Stream new) read answers = stream_whole before mid now old new arrivals gave more hows.End took read takes answers
  fits_end (readers.Pcap old) (readers.Stream new) read answers = absurd answers
  fits_end (readers.Stream old) (readers.Pcap new) read answers = absurd answers

  -- or it is malformed behind its arrivals
  pub fits_malformed : (at : ℕ) (old new : InputReader) → HasRead old gave arrivals → Answers old new more buf now (next.Malformed at) → FitsRead (input_form old) before now arrivals (hows.Malformed at)
  fits_malformed at (readers.Pcap old) (readers.Pcap new) read answers =
      joined.whole_input (captures.Fresh classic_kinds) old new gave more arrivals before now (hows.Malformed at) read answers (takes_more gave more _ _ _ took takes)
  fits_malformed at (readers.Stream old) (readers.Stream new) read answers = stream_whole before mid now old new arrivals gave more (hows.Malformed at) took read takes answers
  fits_malformed at (readers.Pcap old) (readers.Stream new) read answers = absurd answers
  fits_malformed at (readers.Stream old) (readers.Pcap new) read answers = absurd answers

  -- or a read failed behind them
  pub fits_failed : (old new : InputReader) → HasRead old gave arrivals → Answers old new more buf now next.Failed → FitsRead (input_form old) before now arrivals hows.Failed
  fits_failed (readers.Pcap old) (readers.Pcap new) read answers =
      record {
        gave = gave ++ more;
        takes = takes_more gave more _ _ _ took takes;
        read = joined.failed_input (captures.Fresh classic_kinds) old new gave more arrivals read answers;
      }
  fits_failed (readers.Stream old) (readers.Stream new) read answers = stream_broken before mid now old arrivals gave more took read takes answers.1
  fits_failed (readers.Pcap old) (readers.Stream new) read answers = absurd answers
  fits_failed (readers.Stream old) (readers.Pcap new) read answers = absurd answers
