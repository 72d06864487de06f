use Rattle.std.proofs.Common.{◌≡◌, ℕ, ◌+◌, ◌*◌, [], ◌∷◌, ◌++◌, length, map, ap, ◌∙◌, arith}
use Rattle.std.proofs.lemmas.List.{with_items_is}
use Rattle.savi_kinds.specs.declared.address.Addr.{Addr}
use Rattle.savi_kinds.specs.declared.address.Mac.{Mac}
use Rattle.load_gen.specs.Draws.{state_after}
use Rattle.load_gen.specs.Frames.{mac_of, host_address, data_of}
use Rattle.load_gen.specs.Sendings.{Sending, drawn_packet, sendings}
use Rattle.load_gen.specs.Captures.{captures_of}
use Rattle.load_gen.specs.Writing.{octets_of}
use Rattle.load_gen.proofs.Drawn.{no_step, first_drawn, second_drawn, packet_is, one_more_sent}
use Rattle.load_gen.proofs.OneMore.{five_captures}
use Rattle.load_gen.proofs.making.written.Goals as goal

pub loop-k-init : goal.loop-k-init
loop-k-init c = record { state = no_step c.args.seed; captures = c.in_ok-captures.ensures }

pub send-requires-clause-ports : goal.send-requires-clause-ports
send-requires-clause-ports c = ap length c.as_mut_slice.ensures.value ∙ five_captures c.loop-k.captures.items (sendings c.args.seed c.loop-k.k) c.loop-k.invariant.captures

pub loop-k-preserved : goal.loop-k-preserved
loop-k-preserved c =
    let seed = c.args.seed in
    let k = c.loop-k.k in
    let first = c.drawn_host-host.new.generator.state in
    let second = c.drawn_host-source.new.generator.state in
    let host = c.drawn_host-host.result in
    let source = c.drawn_host-source.result in
    let one : first ≡ state_after seed (2 * k + 1) = first_drawn seed k c.loop-k.generator.state first c.loop-k.invariant.state c.drawn_host-host.ensures.state in
    let two : second ≡ state_after seed (2 * (k + 1)) = second_drawn seed k first second one c.drawn_host-source.ensures.state in
    let kept : length c.send.new.captures ≡ c.loop-k.captures.len = omega arith in
    let moment : 1000 + 10 * c.from.result ≡ 1000 + 10 * k = ap (λ (n : ℕ). 1000 + 10 * n) c.from.ensures in
    let frame : c.data-frame.result ≡ data_of (mac_of host) (host_address source) =
    c.data-frame.ensures ∙ ap (λ (m : Mac). data_of m c.address_of.result) c.mac_of.ensures ∙ ap (λ (a : Addr). data_of (mac_of host) a) c.address_of.ensures in
    let sent : Sending = record { port = host; sent = record { moment = 1000 + 10 * c.from.result; frame = c.data-frame.result } } in
    let is : sent ≡ drawn_packet seed k =
    packet_is seed k first second host source (1000 + 10 * c.from.result) c.data-frame.result one two c.drawn_host-host.ensures.value c.drawn_host-source.ensures.value moment frame in
    record {
      state = two;
      captures =
          ap (map octets_of) (with_items_is c.loop-k.captures c.send.new.captures kept)
          ∙ c.in_ok-send.ensures (sendings seed k) (ap (map octets_of) c.as_mut_slice.ensures.value ∙ c.loop-k.invariant.captures)
          ∙ ap (λ (s : Sending). captures_of (sendings seed k ++ s ∷ [])) is
          ∙ ap captures_of (one_more_sent seed k);
    }

pub returns : goal.returns
returns c =
    let done : c.loop-k.k ≡ c.args.frames = omega arith in
    c.loop-k.invariant.captures ∙ ap (λ (n : ℕ). captures_of (sendings c.args.seed n)) done
