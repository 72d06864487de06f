use Rattle.std.proofs.Common.{◌≡◌, ℕ, ◌+◌, ◌*◌, ◌^◌, List, [], ◌++◌, length, take, get_or, refl, sym, ap, subst, ◌∙◌, arith, lit≤, append_assoc, length-append}
use Rattle.std.proofs.lemmas.List.{take-append-le}
use Rattle.std.proofs.lemmas.Result.{err_from_is_err_and}
use Rattle.savi_ends.proofs.Octets.{takes_more}
use Rattle.pcap_io.specs.Numbers.{number_at}
use Rattle.pcap_io.proofs.CallsJoined.{takes_whole, takes_none}
use Rattle.pcapng_io.specs.Options.{padded}
use Rattle.pcapng_io.specs.Blocks.{Packet, IsTotal, IsBlock, stamp_of}
use Rattle.pcapng_io.specs.Pieces.{FallsShort}
use Rattle.pcapng_io.specs.ReaderStates.{standing_of}
use Rattle.pcapng_io.proofs.Parts.{short_within}
use Rattle.pcapng_io.proofs.Packets.{PacketHead, PacketFields, packet_wrong, packet_short, packet_fields_wrong, packet_stops, packet_read, packet_told}
use Rattle.pcapng_io.proofs.blocks.read_packet.Goals as goal
use Rattle.pcapng_io.proofs.blocks.read_packet.Goals.{then-of_section-len-via-then-of_section-len, then-of_section-len-via-else-of_section-len+then-len-gt-CAPTURED_OCTETS_MOST, then-of_section-len-via-else-of_section-len+else-len-gt-CAPTURED_OCTETS_MOST+then-total-padded_len}

pub returns-then-not-is_total-clause-octets : goal.returns-then-not-is_total-clause-octets
returns-then-not-is_total-clause-octets g c =
    let s = standing_of c.args.position.now in
    let head = c.args.head.now in
    let head_size : length head ≡ 8 = c.told-head in
    let h : PacketHead s c.args.order head = record { size = head_size; here = c.requires.order_is; kind = c.requires.kind } in (
      [],
      takes_none (g.S.Source.left c.args.source.now),
      (
        packet_wrong s c.args.order head (g.S.Source.left c.args.source.now) h
            (λ total.
            let total' : IsTotal s.place 32 c.number_at-total.result = subst (λ (n : ℕ). IsTotal s.place 32 n) (sym c.number_at-total.ensures) total in
            cc (c.is_total.ensures.1 total', c.if-not-is_total.true)),
        omega arith,
      ),
    )

pub returns-in_err-take-clause-octets : goal.returns-in_err-take-clause-octets
returns-in_err-take-clause-octets g c =
    let p = err_from_is_err_and c.from_residual.result c.from_residual.ensures.1 in
    let s = standing_of c.args.position.now in
    let head = c.args.head.now in
    let head_size : length head ≡ 8 = c.told-head in
    let h : PacketHead s c.args.order head = record { size = head_size; here = c.requires.order_is; kind = c.requires.kind } in
    let took = c.in_err-take.ensures.octets in
    let room : length c.take.new.buf ≡ 20 = omega (arith, c.take.auto.buf) in
    let left = g.S.Source.left c.take.new.source in
    let short : FallsShort 20 c.in_err-take.field-0.0 took.0 left = subst (λ (n : ℕ). FallsShort n c.in_err-take.field-0.0 took.0 left) room took.2 in
    (took.0, took.1, rw (p.1, p.2) (packet_short s c.args.order head took.0 c.in_err-take.field-0.0 left h short, short_within 20 1048568 [] took.0 c.in_err-take.field-0.0 left short (lit≤ tt)))

pub returns-then-of_section-len-clause-octets : goal.returns-then-of_section-len-clause-octets
returns-then-of_section-len-clause-octets g c =
    let s = standing_of c.args.position.now in
    let head = c.args.head.now in
    let head_size : length head ≡ 8 = c.told-head in
    let h : PacketHead s c.args.order head = record { size = head_size; here = c.requires.order_is; kind = c.requires.kind } in
    let took = c.in_ok-take.ensures.octets in
    let fields = c.take.new.buf in
    let size : length fields ≡ 20 = omega (arith, c.take.auto.buf) in
    let first = takes_whole _ _ took.0 fields took.1 took.2 in (
      fields,
      first,
      (
        packet_fields_wrong s c.args.order head fields (g.S.Source.left c.take.new.source) h size
            (λ f. elim c.then-of_section-len.branch [
              | then-of_section-len-via-then-of_section-len w ↦ absurd (omega (arith, f.declared, c.number_at-of_section.ensures, w.if-of_section-len.true))
              | then-of_section-len-via-else-of_section-len+then-len-gt-CAPTURED_OCTETS_MOST w ↦ absurd (omega (arith, f.bounded, c.number_at-len.ensures, w.if-len-gt-CAPTURED_OCTETS_MOST.true))
              | then-of_section-len-via-else-of_section-len+else-len-gt-CAPTURED_OCTETS_MOST+then-total-padded_len w ↦ absurd (omega (arith, f.fits, c.number_at-total.ensures, ap padded c.number_at-len.ensures, w.padded_len.ensures, w.if-total-padded_len.true))
            ]),
        omega (arith, size),
      ),
    )

pub returns-in_err-read_captured-clause-octets : goal.returns-in_err-read_captured-clause-octets
returns-in_err-read_captured-clause-octets g c =
    let p = err_from_is_err_and c.from_residual-in_err-read_captured.result c.from_residual-in_err-read_captured.ensures.1 in
    let s = standing_of c.args.position.now in
    let head = c.args.head.now in
    let head_size : length head ≡ 8 = c.told-head in
    let h : PacketHead s c.args.order head = record { size = head_size; here = c.requires.order_is; kind = c.requires.kind } in
    let took = c.in_ok-take.ensures.octets in
    let fields = c.take.new.buf in
    let size : length fields ≡ 20 = omega (arith, c.take.auto.buf) in
    let first = takes_whole _ _ took.0 fields took.1 took.2 in
    let total : IsTotal s.place 32 c.number_at-total.result = c.is_total.ensures.0 (cc (c.if-not-is_total.false)) in
    let total_is : c.number_at-total.result ≡ number_at c.args.order 4 head = c.number_at-total.ensures in
    let len_is : c.number_at-len.result ≡ number_at c.args.order 12 fields = c.number_at-len.ensures in
    let f : PacketFields s c.args.order head fields = record {
      declared = omega (arith, c.number_at-of_section.ensures, c.if-of_section-len.false);
      bounded = omega (arith, len_is, c.if-len-gt-CAPTURED_OCTETS_MOST.false);
      fits = omega (arith, total_is, ap padded len_is, c.padded_len.ensures, c.if-total-padded_len.false, total.fits);
    } in
    let len = c.number_at-len.result in
    let total_len = c.number_at-total.result in
    let body = c.in_err-read_captured.ensures.octets in
    let left = g.S.Source.left c.read_captured.new.source in
    let why = c.in_err-read_captured.field-0.0 in
    (fields ++ body.0, takes_more fields body.0 _ _ _ first body.1, rw (p.1, p.2) (packet_stops s c.args.order head fields body.0 why left len total_len h size f len_is total_is body.2.0, omega (arith, size, body.2.1, total.fits, total.bounded, length-append fields body.0)))

pub returns-clause-octets : goal.returns-clause-octets
returns-clause-octets g c =
    let s = standing_of c.args.position.now in
    let head = c.args.head.now in
    let head_size : length head ≡ 8 = c.told-head in
    let h : PacketHead s c.args.order head = record { size = head_size; here = c.requires.order_is; kind = c.requires.kind } in
    let took = c.in_ok-take.ensures.octets in
    let fields = c.take.new.buf in
    let size : length fields ≡ 20 = omega (arith, c.take.auto.buf) in
    let first = takes_whole _ _ took.0 fields took.1 took.2 in
    let total : IsTotal s.place 32 c.number_at-total.result = c.is_total.ensures.0 (cc (c.if-not-is_total.false)) in
    let total_is : c.number_at-total.result ≡ number_at c.args.order 4 head = c.number_at-total.ensures in
    let len_is : c.number_at-len.result ≡ number_at c.args.order 12 fields = c.number_at-len.ensures in
    let f : PacketFields s c.args.order head fields = record {
      declared = omega (arith, c.number_at-of_section.ensures, c.if-of_section-len.false);
      bounded = omega (arith, len_is, c.if-len-gt-CAPTURED_OCTETS_MOST.false);
      fits = omega (arith, total_is, ap padded len_is, c.padded_len.ensures, c.if-total-padded_len.false, total.fits);
    } in
    let len = c.number_at-len.result in
    let total_len = c.number_at-total.result in
    let body = c.in_ok-read_captured.ensures.octets in
    let is = body.2.0 in
    let captured = take len is.0 in
    let interface = s.earlier + c.number_at-of_section.result in
    let units = get_or s.units c.number_at-of_section.result 0 in
    let stamp = stamp_of units c.ticks_in-ticks.result in
    let stamp_is : stamp ≡ stamp_of (get_or s.units (number_at c.args.order 0 fields) 0) (2 ^ 32 * number_at c.args.order 4 fields + number_at c.args.order 8 fields) =
    ap (λ (n : ℕ). stamp_of (get_or s.units n 0) c.ticks_in-ticks.result) c.number_at-of_section.ensures ∙ ap (λ (n : ℕ). stamp_of (get_or s.units (number_at c.args.order 0 fields) 0) n) c.ticks_in-ticks.ensures in
    let read = packet_read s c.args.order head fields is.0 is.1 captured interface stamp is.2 len total_len h total size f len_is total_is is.4 refl (ap (λ (n : ℕ). s.earlier + n) c.number_at-of_section.ensures) stamp_is is.5 in
    let flat : head ++ ((fields ++ is.0) ++ is.1) ≡ head ++ (fields ++ body.0) = ap (λ (l : List ℕ). head ++ l) (append_assoc fields is.0 is.1 ∙ ap (λ (l : List ℕ). fields ++ l) (sym is.3)) in
    let front : take len body.0 ≡ captured = ap (take len) is.3 ∙ take-append-le len is.0 is.1 (omega (arith, is.4)) in
    let block = subst (λ (l : List ℕ). IsBlock s (Packet interface stamp captured) l) flat read.0 in (
      fields ++ body.0,
      takes_more fields body.0 _ _ _ first body.1,
      (
        packet_told s c.packet_of.result interface stamp len c.read_captured.new.buf captured (head ++ (fields ++ body.0)) c.packet_of.ensures.long c.packet_of.ensures.frame (λ short. sym front ∙ body.2.1 short) read.2 block,
        sym (ap length flat) ∙ read.1,
      ),
    )
