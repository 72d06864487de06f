-- The captures of a load as inputs.
use Rattle.std.proofs.Common.{◌≡◌, ℕ, Bool, true, nat_le, ◌+◌, ◌*◌, ◌%◌, ◌^◌, ◌<◌, ◌≤◌, ◌==◌, List, [], ◌∷◌, length, map, filter, All, refl, ap, ◌∙◌, arith, subst, get_or, length-append, lit<}
use Rattle.std.specs.List.{range_with_len}
use Rattle.std.proofs.lemmas.Bool.{cond-true, le-leb}
use Rattle.std.proofs.lemmas.List.{length-map}
use Rattle.std.proofs.lemmas.List.Sums.{length-filter, count_by-le-length}
use Rattle.std.proofs.lemmas.List.FromFn.{length-range_with_len, length-map-range_with_len, get_or-range_with_len}
use Rattle.std.proofs.lemmas.List.Elements.{All-nil, All-cons, All-head, All-tail, All-append, All-map, All-filter, All-weaker}
use Rattle.savi_kinds.specs.declared.entry.How.TheVariants as how
use Rattle.savi_kinds.specs.declared.address.Mac.{Mac}
use Rattle.savi_kinds.specs.declared.address.Addr.{Addr}
use Rattle.savi_kinds.specs.Arrivals.{Arrival, Frame, Long}
use Rattle.probe_write.proofs.ProbeReading.{length-probe}
use Rattle.pcap_io.specs.Captures.{Sent, record_text, records_text, capture_text, arrival_of, AreFrames}
use Rattle.pcap_io.specs.Kinds.{classic_kinds}
use Rattle.pcap_io.specs.Runs.{Arrive}
use Rattle.pcap_io.proofs.Written.{written_arrives}
use Rattle.load_gen.specs.Draws.{draw}
use Rattle.load_gen.specs.Frames.{mac_of, host_address, data_of, ethernet_to_router, header_to_router}
use Rattle.load_gen.specs.Sendings.{Sending, claim, drawn_packet, sendings}
use Rattle.load_gen.specs.Captures.{sent_at, captures_of}
use Rattle.load_gen.specs.Inputs.{arrival_with, IsWhole, LoadsArrive}

pub length-data : (mac : Mac) (source : Addr) → length (data_of mac source) ≡ length mac.0 + 48
unfolding data_of
length-data mac source =
    omega (arith, length-append (ethernet_to_router mac) (header_to_router source), length-append mac.0 (0x86 ∷ 0xdd ∷ []))

-- what is true of each frame of a load
pub record IsFit (item : Sent) : Type 0 where
  pub frame : length item.frame ≤ 78
  pub moment : item.moment < 1000 * 2 ^ 32

claim_fits : (host : ℕ) → IsFit (claim host).sent
claim_fits host = record { frame = omega (arith, length-probe (mac_of host) (host_address host)); moment = lit< tt }

packet_fits : (seed k : ℕ) → k < 2 ^ 32 → IsFit (drawn_packet seed k).sent
packet_fits seed k below =
    let host = 1 + draw seed (2 * k) % 3 in
    let source = 1 + draw seed (2 * k + 1) % 3 in
    record { frame = omega (arith, length-data (mac_of host) (host_address source)); moment = omega (arith, below) }

sendings_fit : (seed frames : ℕ) → frames ≤ 2 ^ 32 → All (λ (s : Sending). IsFit s.sent) (sendings seed frames)
sendings_fit seed frames within =
    let P : Sending → Type 0 = λ s. IsFit s.sent in
    All-append P (map claim (1 ∷ 2 ∷ 3 ∷ [])) (map (drawn_packet seed) (range_with_len 0 frames))
    (All-cons P (claim 1) (claim 2 ∷ claim 3 ∷ []) (claim_fits 1)
    (All-cons P (claim 2) (claim 3 ∷ []) (claim_fits 2) (All-cons P (claim 3) [] (claim_fits 3) (All-nil P))))
    (All-map P (drawn_packet seed) (range_with_len 0 frames) (λ k d below.
    let short : k < frames = omega (arith, below, length-range_with_len 0 frames) in
    packet_fits seed (get_or (range_with_len 0 frames) k d) (omega (arith, within, get_or-range_with_len 0 frames k d short))))

sent_fits : (port : ℕ) (all : List Sending) → All (λ (s : Sending). IsFit s.sent) all → All IsFit (sent_at port all)
sent_fits port all fit =
    let p : Sending → Bool = λ s. s.port == port in
    All-map IsFit (λ (s : Sending). s.sent) (filter p all) (All-filter p (λ (s : Sending). IsFit s.sent) all fit)

sent_at_most : (port : ℕ) (all : List Sending) → length (sent_at port all) ≤ length all
sent_at_most port all =
    let p : Sending → Bool = λ s. s.port == port in
    omega (arith, length-map (filter p all) (λ (s : Sending). s.sent), length-filter p all, count_by-le-length p all)

records_short : (items : List Sent) → All IsFit items → length (records_text items) ≤ 94 * length items
records_short [] fit = omega arith
records_short (item ∷ items) fit =
    let one : IsFit item = All-head IsFit item items fit in
    let rest : length (records_text items) ≤ 94 * length items = records_short items (All-tail IsFit item items fit) in
    omega (arith, one.frame, rest, length-append (record_text item.moment item.frame) (records_text items))

arrive_as_sent : (items : List Sent) → All IsFit items → map arrival_of items ≡ map arrival_with items
arrive_as_sent [] fit = refl
arrive_as_sent (item ∷ items) fit =
    let one : IsFit item = All-head IsFit item items fit in
    let same : item.moment % (1000 * 2 ^ 32) ≡ item.moment = omega (arith, one.moment) in
    let short : nat_le (length item.frame) 1518 ≡ true = le-leb (length item.frame) 1518 (omega (arith, one.frame)) in
    let stamp : ℕ = item.moment % (1000 * 2 ^ 32) in
    ap (λ (a : Arrival). a ∷ map arrival_of items) (cond-true (nat_le (length item.frame) 1518) (Frame stamp item.frame) (Long stamp (length item.frame)) short)
    ∙ ap (λ (moment : ℕ). Frame moment item.frame ∷ map arrival_of items) same
    ∙ ap (λ (rest : List Arrival). arrival_with item ∷ rest) (arrive_as_sent items (All-tail IsFit item items fit))

-- the capture of any port
pub loads_are_inputs : LoadsArrive
loads_are_inputs seed frames port within =
    let all : List Sending = sendings seed frames in
    let items : List Sent = sent_at port all in
    let fit : All IsFit items = sent_fits port all (sendings_fit seed frames within) in
    let few : length items ≤ frames + 3 = omega (arith, sent_at_most port all, length-map-range_with_len (drawn_packet seed) 0 frames) in
    let short : length (capture_text items) ≤ 2 ^ 62 = omega (arith, within, few, records_short items fit) in
    let frames_short : AreFrames items = All-weaker IsFit (λ (item : Sent). length item.frame ≤ 1522) (λ item f. omega (arith, f.frame)) items fit in
    subst (λ (arrivals : List Arrival). Arrive classic_kinds true (capture_text items) (record { arrivals = arrivals; ending = how.End }))
    (arrive_as_sent items fit)
    (written_arrives classic_kinds items (0, lit< tt, refl) frames_short short)

pub all_whole : (seed frames : ℕ) → frames ≤ 2 ^ 32 → All IsWhole (captures_of (sendings seed frames))
unfolding captures_of
all_whole seed frames within =
    let all : List Sending = sendings seed frames in
    All-map IsWhole (λ (port : ℕ). capture_text (sent_at port all)) (1 ∷ 2 ∷ 3 ∷ 4 ∷ 5 ∷ [])
    (λ k d below. (map arrival_with (sent_at (get_or (1 ∷ 2 ∷ 3 ∷ 4 ∷ 5 ∷ []) k d) all), loads_are_inputs seed frames (get_or (1 ∷ 2 ∷ 3 ∷ 4 ∷ 5 ∷ []) k d) within))
