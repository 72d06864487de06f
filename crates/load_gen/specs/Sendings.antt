-- What the hosts of a load send: each claims its address, and then packets with drawn sources come in at drawn ports.
use Rattle.std.specs.Prelude.{ℕ, ◌+◌, ◌*◌, ◌%◌, List, [], ◌∷◌, ◌++◌, map}
use Rattle.std.specs.List.{range_with_len}
use Rattle.probe_write.specs.ProbeFrame.{probe_of}
use Rattle.pcap_io.specs.Captures.{Sent}
use Rattle.load_gen.specs.Draws.{draw}
use Rattle.load_gen.specs.Frames.{mac_of, host_address, data_of}

-- a frame, the moment (ms) at which it is sent, and the port at which it comes in
pub record Sending : Type 0 where
  pub port : ℕ
  pub sent : Sent

-- A host solicits its own address, for duplicate address detection, at moment 0. Host n is at port n.
abbrev pub claim : ℕ → Sending
claim host = record { port = host; sent = record { moment = 0; frame = probe_of (mac_of host) (host_address host) } }

-- a host sends a packet from the address of a host, perhaps another, as number k
abbrev pub packet : ℕ → ℕ → ℕ → Sending
packet host source k = record { port = host; sent = record { moment = 1000 + 10 * k; frame = data_of (mac_of host) (host_address source) } }

-- packet k: the first of its two draws gives the host, the second one the source
abbrev pub drawn_packet : ℕ → ℕ → Sending
drawn_packet seed k = packet (1 + draw seed (2 * k) % 3) (1 + draw seed (2 * k + 1) % 3) k

-- all that is sent, in order
abbrev pub sendings : ℕ → ℕ → List Sending
sendings seed frames = map claim (1 ∷ 2 ∷ 3 ∷ []) ++ map (drawn_packet seed) (range_with_len 0 frames)
