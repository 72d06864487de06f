-- The reader of an input of either form: what it is ready for, and what each of its answers says.
use Rattle.std.specs.Prelude.{◌≡◌, ℕ, List, [], Option}
use Rattle.savi_kinds.specs.declared.plan.Format.{Format}
use Rattle.savi_kinds.specs.declared.plan.Format.TheVariants as forms
use Rattle.savi_kinds.specs.declared.entry.How.TheVariants as hows
use Rattle.savi_kinds.specs.declared.arrival.Next.{Next}
use Rattle.pcap_io.specs.Kinds.{classic_kinds}
use Rattle.pcap_io.specs.Readers as captures
use Rattle.stream_io.specs.Readers as streams
use Rattle.input_read.specs.declared.reader.InputReader.{InputReader}
use Rattle.input_read.specs.declared.reader.InputReader.TheVariants as readers

-- a reader at the beginning of an input of this form
abbrev pub IsNew : Format → InputReader → Type 0
IsNew forms.Pcap (readers.Pcap state) = state ≡ captures.Fresh classic_kinds
IsNew forms.Pcap (readers.Stream state) = ⊥
IsNew forms.Stream (readers.Pcap state) = ⊥
IsNew forms.Stream (readers.Stream state) = state ≡ streams.Running 0 []

-- a read has failed
abbrev pub HasFailed : InputReader → Type 0
HasFailed (readers.Pcap state) = state ≡ captures.Ended hows.Failed
HasFailed (readers.Stream state) = state ≡ streams.Ended hows.Failed

-- what a reader that has ended answers, always
abbrev pub last_answer : InputReader → Option Next
last_answer (readers.Pcap state) = captures.last_answer state
last_answer (readers.Stream state) = streams.last_answer state

-- What an answer says of the octets that were taken for it, of the buffer, and of what is left. A reader keeps its form.
abbrev pub Answers : InputReader → InputReader → List ℕ → List ℕ → Option (List ℕ) → Next → Type 0
Answers (readers.Pcap old) (readers.Pcap new) gave buf left next = captures.Answers old new gave buf left next
Answers (readers.Stream old) (readers.Stream new) gave buf left next = streams.Answers old new gave buf left next
Answers (readers.Pcap old) (readers.Stream new) gave buf left next = ⊥
Answers (readers.Stream old) (readers.Pcap new) gave buf left next = ⊥

-- A stream's arrivals are stamped by the clock, which isn't read for a capture.
abbrev pub Stamps : {C : Type 0} → (C → Option (List ℕ)) → InputReader → C → C → Next → Type 0
Stamps readings (readers.Pcap state) old new next = new ≡ old
Stamps readings (readers.Stream state) old new next = streams.Stamps readings old new next
