-- One more frame in the captures of a load.
use Rattle.std.proofs.Common.{◌≡◌, ℕ, suc, zero, ◌+◌, ◌<◌, ◌==◌, true, false, List, [], ◌∷◌, ◌++◌, length, get_or, map, filter, refl, ap, ◌∙◌, sym, arith}
use Rattle.std.proofs.Math.ListN.{set}
use Rattle.std.proofs.lemmas.List.{append_assoc, append-nil, length-map, map-append, map-set, get_or-map}
use Rattle.std.proofs.lemmas.List.Elements.{filter-append}
use Rattle.pcap_io.specs.Captures.{Sent, header_text, record_text, records_text, capture_text}
use Rattle.load_gen.specs.declared.capture.Capture.{Capture}
use Rattle.load_gen.specs.Sendings.{Sending}
use Rattle.load_gen.specs.Captures.{sent_at, captures_of}
use Rattle.load_gen.specs.Writing.{octets_of}

records_text-append : (xs ys : List Sent) → records_text (xs ++ ys) ≡ records_text xs ++ records_text ys
records_text-append [] ys = refl
records_text-append (x ∷ xs) ys =
    ap (λ (l : List ℕ). record_text x.moment x.frame ++ l) (records_text-append xs ys)
    ∙ sym (append_assoc (record_text x.moment x.frame) (records_text xs) (records_text ys))

sent_at-append : (port : ℕ) (all more : List Sending) → sent_at port (all ++ more) ≡ sent_at port all ++ sent_at port more
sent_at-append port all more =
    ap (map (λ (s : Sending). s.sent)) (filter-append (λ (s : Sending). s.port == port) all more)
    ∙ map-append (λ (s : Sending). s.sent) (filter (λ (s : Sending). s.port == port) all) (filter (λ (s : Sending). s.port == port) more)

-- the capture of a port behind more frames
capture_more : (port : ℕ) (all more : List Sending) → capture_text (sent_at port (all ++ more)) ≡ capture_text (sent_at port all) ++ records_text (sent_at port more)
capture_more port all more =
    ap capture_text (sent_at-append port all more)
    ∙ ap (λ (l : List ℕ). header_text ++ l) (records_text-append (sent_at port all) (sent_at port more))
    ∙ sym (append_assoc header_text (records_text (sent_at port all)) (records_text (sent_at port more)))

-- what is sent at another port stands in no other capture
elsewhere : (q : ℕ) (all : List Sending) (s : Sending) → (s.port == q) ≡ false → capture_text (sent_at q (all ++ s ∷ [])) ≡ capture_text (sent_at q all)
elsewhere q all s other =
    let none : records_text (sent_at q (s ∷ [])) ≡ [] = rw other in
    capture_more q all (s ∷ []) ∙ ap (λ (l : List ℕ). capture_text (sent_at q all) ++ l) none ∙ append-nil (capture_text (sent_at q all))

here : (q : ℕ) (all : List Sending) (s : Sending) → (s.port == q) ≡ true → capture_text (sent_at q all) ++ record_text s.sent.moment s.sent.frame ≡ capture_text (sent_at q (all ++ s ∷ []))
here q all s same =
    let one : records_text (sent_at q (s ∷ [])) ≡ record_text s.sent.moment s.sent.frame ++ [] = rw same in
    let plain : records_text (sent_at q (s ∷ [])) ≡ record_text s.sent.moment s.sent.frame = one ∙ append-nil (record_text s.sent.moment s.sent.frame) in
    sym (capture_more q all (s ∷ []) ∙ ap (λ (l : List ℕ). capture_text (sent_at q all) ++ l) plain)

-- The captures where each of the first ones is as it was.
replaced : (all : List Sending) (s : Sending) (place : ℕ) → place < 5 → s.port ≡ place + 1
    → set (captures_of all) place (get_or (captures_of all) place [] ++ record_text s.sent.moment s.sent.frame) ≡ captures_of (all ++ s ∷ [])
unfolding captures_of
replaced all s zero within at =
    let is : (q : ℕ) → (s.port == q) ≡ (1 == q) = λ q. ap (λ (n : ℕ). n == q) at in
    rw (here 1 all s (is 1), elsewhere 2 all s (is 2), elsewhere 3 all s (is 3), elsewhere 4 all s (is 4), elsewhere 5 all s (is 5))
replaced all s (suc zero) within at =
    let is : (q : ℕ) → (s.port == q) ≡ (2 == q) = λ q. ap (λ (n : ℕ). n == q) at in
    rw (elsewhere 1 all s (is 1), here 2 all s (is 2), elsewhere 3 all s (is 3), elsewhere 4 all s (is 4), elsewhere 5 all s (is 5))
replaced all s (suc (suc zero)) within at =
    let is : (q : ℕ) → (s.port == q) ≡ (3 == q) = λ q. ap (λ (n : ℕ). n == q) at in
    rw (elsewhere 1 all s (is 1), elsewhere 2 all s (is 2), here 3 all s (is 3), elsewhere 4 all s (is 4), elsewhere 5 all s (is 5))
replaced all s (suc (suc (suc zero))) within at =
    let is : (q : ℕ) → (s.port == q) ≡ (4 == q) = λ q. ap (λ (n : ℕ). n == q) at in
    rw (elsewhere 1 all s (is 1), elsewhere 2 all s (is 2), elsewhere 3 all s (is 3), here 4 all s (is 4), elsewhere 5 all s (is 5))
replaced all s (suc (suc (suc (suc zero)))) within at =
    let is : (q : ℕ) → (s.port == q) ≡ (5 == q) = λ q. ap (λ (n : ℕ). n == q) at in
    rw (elsewhere 1 all s (is 1), elsewhere 2 all s (is 2), elsewhere 3 all s (is 3), elsewhere 4 all s (is 4), here 5 all s (is 5))
replaced all s (suc (suc (suc (suc (suc n))))) within at = absurd (omega (arith, within))

pub one_more : (captures : List Capture) (all : List Sending) (s : Sending) (place : ℕ) (now d : Capture) → place < length captures → length captures ≡ 5 → s.port ≡ place + 1
    → octets_of now ≡ octets_of (get_or captures place d) ++ record_text s.sent.moment s.sent.frame
    → map octets_of captures ≡ captures_of all → map octets_of (set captures place now) ≡ captures_of (all ++ s ∷ [])
one_more captures all s place now d within five at text before =
    let row : List ℕ = record_text s.sent.moment s.sent.frame in
    let was : octets_of (get_or captures place d) ≡ get_or (captures_of all) place [] =
    sym (get_or-map octets_of captures place d [] within) ∙ ap (λ (l : List (List ℕ)). get_or l place []) before in
    map-set octets_of captures place now
    ∙ ap (λ (l : List (List ℕ)). set l place (octets_of now)) before
    ∙ ap (λ (l : List ℕ). set (captures_of all) place l) (text ∙ ap (λ (l : List ℕ). l ++ row) was)
    ∙ replaced all s place (omega (arith, within, five)) at

pub five_captures : (captures : List Capture) (all : List Sending) → map octets_of captures ≡ captures_of all → length captures ≡ 5
unfolding captures_of
five_captures captures all are = sym (length-map captures octets_of) ∙ ap length are
