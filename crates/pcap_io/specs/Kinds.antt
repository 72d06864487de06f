-- The kinds of header of a classic capture (the libpcap savefile format).
use Rattle.std.specs.Prelude.{◌≡◌, ℕ, List, [], ◌∷◌, length, take, drop}
use Rattle.std.specs.Int.{w16, w32}
use Rattle.pcap_io.specs.declared.kind.ByteOrder.TheVariants.{Little, Big}
use Rattle.pcap_io.specs.declared.kind.TimeUnit.{TimeUnit}
use Rattle.pcap_io.specs.declared.kind.TimeUnit.TheVariants.{Microseconds, Nanoseconds}
use Rattle.pcap_io.specs.declared.kind.HeaderKind.{HeaderKind}
use Rattle.pcap_io.specs.Numbers.{octets_of}

abbrev pub magic_of : TimeUnit → ℕ
magic_of Microseconds = 0xa1b2c3d4
magic_of Nanoseconds = 0xa1b23c4d

-- A header of 24 octets: magic, major version 2, minor version 4, then zone, sigfigs and snaplen, which
-- are free, and link type 1 (Ethernet).
pub record IsHeader (kind : HeaderKind) (header : List ℕ) : Type 0 where
  pub size : length header ≡ 24
  pub magic : take 4 header ≡ octets_of kind.order w32 (magic_of kind.unit)
  pub major : take 2 (drop 4 header) ≡ octets_of kind.order w16 2
  pub minor : take 2 (drop 6 header) ≡ octets_of kind.order w16 4
  pub link : take 4 (drop 20 header) ≡ octets_of kind.order w32 1

abbrev pub little_microseconds : HeaderKind
little_microseconds = record { order = Little; unit = Microseconds }

-- the four classic headers
abbrev pub classic_kinds : List HeaderKind
classic_kinds =
    little_microseconds
    ∷ record { order = Big; unit = Microseconds }
    ∷ record { order = Little; unit = Nanoseconds }
    ∷ record { order = Big; unit = Nanoseconds }
    ∷ []
