-- The draws of a packet, and what is sent with one packet more.
use Rattle.std.proofs.Common.{◌≡◌, ℕ, ◌+◌, ◌*◌, ◌/◌, ◌%◌, List, [], ◌∷◌, ◌++◌, map, refl, ap, sym, ◌∙◌, arith, add-one}
use Rattle.std.specs.List.{range_with_len}
use Rattle.std.proofs.lemmas.List.{append_assoc}
use Rattle.std.proofs.lemmas.List.FromFn.{map-range_with_len_more}
use Rattle.load_gen.specs.Draws.{next_draw, state_after, draw}
use Rattle.load_gen.specs.Frames.{mac_of, host_address, data_of}
use Rattle.load_gen.specs.Sendings.{Sending, claim, packet, drawn_packet, sendings}

pub no_step : (seed : ℕ) → seed ≡ state_after seed 0
unfolding state_after
no_step seed = refl

one_step : (seed n : ℕ) → state_after seed (n + 1) ≡ next_draw (state_after seed n)
unfolding state_after
one_step seed n = rw add-one refl

-- the states behind both draws of packet k
pub first_drawn : (seed k state first : ℕ) → state ≡ state_after seed (2 * k) → first ≡ next_draw state → first ≡ state_after seed (2 * k + 1)
first_drawn seed k state first at step = step ∙ ap next_draw at ∙ sym (one_step seed (2 * k))

pub second_drawn : (seed k first second : ℕ) → first ≡ state_after seed (2 * k + 1) → second ≡ next_draw first → second ≡ state_after seed (2 * (k + 1))
second_drawn seed k first second at step =
    let count : 2 * k + 1 + 1 ≡ 2 * (k + 1) = omega arith in
    step ∙ ap next_draw at ∙ sym (one_step seed (2 * k + 1)) ∙ ap (state_after seed) count

pub packet_is : (seed k first second host source moment : ℕ) (frame : List ℕ) → first ≡ state_after seed (2 * k + 1) → second ≡ state_after seed (2 * (k + 1))
    → host ≡ 1 + first / 65536 % 3 → source ≡ 1 + second / 65536 % 3 → moment ≡ 1000 + 10 * k → frame ≡ data_of (mac_of host) (host_address source)
    → (record { port = host; sent = record { moment = moment; frame = frame } }) ≡ drawn_packet seed k
packet_is seed k first second host source moment frame one two from_one from_two at made =
    let count : 2 * (k + 1) ≡ 2 * k + 1 + 1 = omega arith in
    let host_is : host ≡ 1 + draw seed (2 * k) % 3 = from_one ∙ ap (λ (n : ℕ). 1 + n / 65536 % 3) one in
    let source_is : source ≡ 1 + draw seed (2 * k + 1) % 3 = from_two ∙ ap (λ (n : ℕ). 1 + n / 65536 % 3) (two ∙ ap (state_after seed) count) in
    let sent : ℕ → List ℕ → Sending = λ m f. record { port = host; sent = record { moment = m; frame = f } } in
    ap (λ (m : ℕ). sent m frame) at
    ∙ ap (λ (f : List ℕ). sent (1000 + 10 * k) f) made
    ∙ ap (λ (h : ℕ). packet h source k) host_is
    ∙ ap (λ (s : ℕ). packet (1 + draw seed (2 * k) % 3) s k) source_is

pub one_more_sent : (seed k : ℕ) → sendings seed k ++ drawn_packet seed k ∷ [] ≡ sendings seed (k + 1)
one_more_sent seed k =
    let claims : List Sending = map claim (1 ∷ 2 ∷ 3 ∷ []) in
    append_assoc claims (map (drawn_packet seed) (range_with_len 0 k)) (drawn_packet seed k ∷ [])
    ∙ ap (λ (l : List Sending). claims ++ l) (sym (map-range_with_len_more (drawn_packet seed) 0 k k (omega arith)))
