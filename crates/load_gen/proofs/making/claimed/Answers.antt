use Rattle.std.proofs.Common.{◌≡◌, ℕ, ◌+◌, List, [], ◌∷◌, ◌++◌, length, map, ap, sym, ◌∙◌, arith}
use Rattle.std.specs.List.{range_with_len}
use Rattle.std.proofs.lemmas.List.{with_items_is}
use Rattle.std.proofs.lemmas.List.FromFn.{map-range_with_len_more}
use Rattle.savi_kinds.specs.declared.address.Addr.{Addr}
use Rattle.savi_kinds.specs.declared.address.Mac.{Mac}
use Rattle.probe_write.specs.ProbeFrame.{probe_of}
use Rattle.load_gen.specs.Frames.{mac_of, host_address}
use Rattle.load_gen.specs.Sendings.{claim, Sending}
use Rattle.load_gen.specs.Captures.{captures_of}
use Rattle.load_gen.specs.Writing.{octets_of}
use Rattle.load_gen.proofs.OneMore.{five_captures}
use Rattle.load_gen.proofs.making.claimed.Goals as goal

abbrev claims : ℕ → List Sending
claims n = map (λ (k : ℕ). claim (k + 1)) (range_with_len 0 n)

pub send-requires-clause-ports : goal.send-requires-clause-ports
send-requires-clause-ports c = ap length c.as_mut_slice.ensures.value ∙ five_captures c.loop-place.captures.items (claims c.loop-place.place) c.loop-place.invariant

pub loop-place-preserved : goal.loop-place-preserved
loop-place-preserved c =
    let place = c.loop-place.place in
    let host = place + 1 in
    let kept : length c.send.new.captures ≡ c.loop-place.captures.len = omega arith in
    let frame : c.probe-frame.result ≡ probe_of (mac_of host) (host_address host) =
    c.probe-frame.ensures.octets ∙ ap (λ (m : Mac). probe_of m c.address_of.result) c.mac_of.ensures ∙ ap (λ (a : Addr). probe_of (mac_of host) a) c.address_of.ensures in
    let sent : List ℕ → Sending = λ f. record { port = host; sent = record { moment = 0; frame = f } } in
    ap (map octets_of) (with_items_is c.loop-place.captures c.send.new.captures kept)
    ∙ c.in_ok-send.ensures (claims place) (ap (map octets_of) c.as_mut_slice.ensures.value ∙ c.loop-place.invariant)
    ∙ ap (λ (f : List ℕ). captures_of (claims place ++ sent f ∷ [])) frame
    ∙ ap captures_of (sym (map-range_with_len_more (λ (k : ℕ). claim (k + 1)) 0 place place (omega arith)))

pub returns : goal.returns
returns c =
    let done : c.loop-place.place ≡ 3 = omega arith in
    c.loop-place.invariant ∙ ap (λ (n : ℕ). captures_of (claims n)) done
