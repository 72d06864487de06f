-- The parts of an Ethernet frame (IEEE 802.3 section 3.1.1, RFC 2464 section 3).
use Rattle.std.specs.Prelude.{ℕ, List, take, drop}
use Rattle.byteorder.specs.Endian.{big_number}
use Rattle.eth_frame.specs.declared.header.Eth.{Eth}

-- six octets of destination, six of source, and two of EtherType with the high one first
abbrev pub header_of : List ℕ → Eth
header_of frame = record {
  dst = record { 0 = take 6 frame };
  src = record { 0 = take 6 (drop 6 frame) };
  kind = big_number 2 (drop 12 frame);
}

-- what a frame carries: the octets after its header
abbrev pub payload_of : List ℕ → List ℕ
payload_of frame = drop 14 frame
