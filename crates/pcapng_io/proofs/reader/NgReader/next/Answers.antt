use Rattle.std.proofs.Common.{◌≡◌, ℕ, List, [], ◌++◌, take, Option, Some, None, IfSome, refl, sym, ap, subst, ◌∙◌, arith}
use Rattle.pcap_io.proofs.CallsJoined.{takes_none}
use Rattle.savi_kinds.specs.declared.entry.How.{How}
use Rattle.savi_kinds.specs.declared.entry.How.TheVariants as how
use Rattle.pcapng_io.specs.declared.next.NgNext.{NgNext}
use Rattle.pcapng_io.specs.declared.next.NgNext.TheVariants as next
use Rattle.pcapng_io.specs.Runs.{Frame, ended}
use Rattle.pcapng_io.specs.Readers.{State, Reading, Ended, Comes, HasReadOne, HasEnded, HasFailed, Answers}
use Rattle.pcapng_io.specs.ReaderStates.{standing_of, state_at}
use Rattle.pcapng_io.proofs.reader.NgReader.next.Goals as goal

failed_again : (state : State) → Ended how.Failed ≡ state → HasFailed state state []
failed_again state is = subst (λ (s : State). HasFailed s s []) is (record { state = refl; taken = (how.Failed, refl); unread = refl })

pub returns-in-Failed-clause-octets : goal.returns-in-Failed-clause-octets
returns-in-Failed-clause-octets g c =
    ([], takes_none (g.S.Source.left c.args.source.now), failed_again c.args.self.now (ap (λ k. state_at k (standing_of c.self.inside.position)) (sym c.in-Failed.is) ∙ c.self.view_is))

same_ended : (ending : How) (left : Option (List ℕ)) → IfSome left (λ rest. Comes (Ended ending) ([] ++ rest) (ended ending))
same_ended ending None = tt
same_ended ending (Some rest) = refl

ended_again : (state : State) (ending : How) (left : Option (List ℕ)) → Ended ending ≡ state → HasEnded state state [] left ending
ended_again state ending left is =
    subst (λ (s : State). HasEnded s s [] left ending) is (record { state = refl; taken = refl; whole = same_ended ending left; near = λ at is. omega arith })

-- the buffer has the octets of a frame that the room has
answers_in : (old new : State) (gave room buf : List ℕ) (left : Option (List ℕ)) (answer : NgNext) → ((interface stamp len : ℕ) → answer ≡ next.Frame interface stamp len → take len buf ≡ take len room) → Answers old new gave room left answer → Answers old new gave buf left answer
answers_in old new gave room buf left (next.Interface link) same is = is
answers_in old new gave room buf left (next.Frame interface stamp len) same is =
    (is.0, subst (λ (octets : List ℕ). HasReadOne old new gave (Frame interface stamp octets)) (sym (same interface stamp len refl)) is.1)
answers_in old new gave room buf left (next.Long interface) same is = is
answers_in old new gave room buf left next.End same is = is
answers_in old new gave room buf left (next.Malformed at) same is = is
answers_in old new gave room buf left next.Failed same is = is

answers_by : (old old' new new' : State) (gave buf : List ℕ) (left : Option (List ℕ)) (answer : NgNext) → old ≡ old' → new ≡ new' → Answers old new gave buf left answer → Answers old' new' gave buf left answer
answers_by old old' new new' gave buf left answer olds news is =
    subst (λ (s : State). Answers old' s gave buf left answer) news (subst (λ (s : State). Answers s new gave buf left answer) olds is)

pub returns-in-Reading-clause-octets : goal.returns-in-Reading-clause-octets
returns-in-Reading-clause-octets g c =
    let one = c.read_on-answer.ensures.octets in
    let s = standing_of c.read_on-answer.new.position in
    let left = g.S.Source.left c.read_on-answer.new.source in
    let answer = c.read_on-answer.result in (
      one.0,
      one.1,
      answers_by (Reading (standing_of c.self.inside.position)) c.args.self.now _ (state_at c.behind-self-inside.result s) one.0 c.copy_frame.new.buf left answer
          (ap (λ k. state_at k (standing_of c.self.inside.position)) (sym c.in-Reading.is) ∙ c.self.view_is)
          (sym (c.behind-self-inside.ensures s))
          (answers_in _ _ one.0 c.read_on-answer.new.buf c.copy_frame.new.buf left answer c.copy_frame.ensures.frame one.2),
    )

pub returns-in-End-clause-octets : goal.returns-in-End-clause-octets
returns-in-End-clause-octets g c =
    let left = g.S.Source.left c.args.source.now in
    ([], takes_none left, ended_again c.args.self.now how.End left (ap (λ k. state_at k (standing_of c.self.inside.position)) (sym c.in-End.is) ∙ c.self.view_is))

pub returns-in-Malformed-clause-octets : goal.returns-in-Malformed-clause-octets
returns-in-Malformed-clause-octets g c =
    let left = g.S.Source.left c.args.source.now in
    ([], takes_none left, ended_again c.args.self.now (how.Malformed c.in-Malformed.at) left (ap (λ k. state_at k (standing_of c.self.inside.position)) (sym c.in-Malformed.is) ∙ c.self.view_is))
