-- The captures of a load, one for each port.
use Rattle.std.specs.Prelude.{ℕ, ◌==◌, List, [], ◌∷◌, map, filter}
use Rattle.pcap_io.specs.Captures.{Sent, capture_text}
use Rattle.load_gen.specs.Sendings.{Sending}

-- what comes in at a port, in order
abbrev pub sent_at : ℕ → List Sending → List Sent
sent_at port all = map (λ s. s.sent) (filter (λ s. s.port == port) all)

-- the captures of ports 1 to 5, in order
unfoldable pub captures_of : List Sending → List (List ℕ)
captures_of all = map (λ port. capture_text (sent_at port all)) (1 ∷ 2 ∷ 3 ∷ 4 ∷ 5 ∷ [])
