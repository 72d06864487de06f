use Rattle.std.proofs.Common.{◌≡◌, [], ◌++◌, refl, ap, sym, subst, ◌∙◌}
use Rattle.savi_ends.proofs.Octets.{takes_more}
use Rattle.savi_kinds.specs.declared.entry.How.TheVariants as how
use Rattle.pcap_io.specs.Readers.{State, Fresh, Ended, HasFailed, Answers}
use Rattle.pcap_io.specs.ReaderStates.{kinds_of, state_of}
use Rattle.pcap_io.proofs.CallsJoined.{takes_none}
use Rattle.pcap_io.proofs.FirstOctets.{answers_behind}
use Rattle.pcap_io.proofs.reader.PcapReader.next.Goals as goal

pub returns-in-Of-clause-octets : goal.returns-in-Of-clause-octets
returns-in-Of-clause-octets g c =
    let kinds = kinds_of c.in-Fresh.only in
    let was : Fresh kinds ≡ c.args.self.now = ap state_of (sym c.in-Fresh.is) ∙ c.self.view_is in
    let header = c.in-Of.ensures.octets in
    let one = c.read_at.ensures.octets in
    let gave = header.0 ++ one.0 in
    let left = g.S.Source.left c.read_at.new.source in
    let answers = answers_behind kinds c.in-Of.kind c.read_at.new.self header.0 one.0 c.read_at.new.buf left c.read_at.result header.2.0 header.2.1 one.2 in (
      gave,
      takes_more header.0 one.0 _ _ _ header.1 one.1,
      subst (λ (old : State). Answers old c.read_at.new.self gave c.read_at.new.buf left c.read_at.result) was answers,
    )

failed_again : (state : State) → Ended how.Failed ≡ state → HasFailed state state []
failed_again state is = subst (λ (s : State). HasFailed s s []) is (record { state = refl; taken = refl })

pub returns-in-Failed-clause-octets : goal.returns-in-Failed-clause-octets
returns-in-Failed-clause-octets g c =
    ([], takes_none (g.S.Source.left c.args.source.now), failed_again c.args.self.now (ap state_of (sym c.in-Failed.is) ∙ c.self.view_is))
