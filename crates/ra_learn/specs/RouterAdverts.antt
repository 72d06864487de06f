-- Router advertisements (RFC 4861 section 4.2), and which of them are good: those that a host takes (section 6.1.2).
use Rattle.std.specs.Prelude.{◌≡◌, ℕ, ◌==◌, ◌≤◌, ◌&&◌, nat_le, Bool, if◌then◌else◌, List, length, drop, Option, Some, None}
use Rattle.std.specs.Option.{option_map}
use Rattle.byteorder.specs.Endian.{big_number}
use Rattle.savi_kinds.specs.Prefixes.{LiesIn, link_local}
use Rattle.v6_chain.specs.declared.packet.Ip.{Ip}
use Rattle.v6_sum.specs.InternetChecksum.{checksum}
use Rattle.nd_read.specs.Messages.{kind_of, code_of}
use Rattle.nd_read.specs.Options.{NdOption, AreOptions}
use Rattle.nd_read.specs.OptionRow.{option_row}
use Rattle.nd_read.specs.InPrefix.{lies_in}
use Rattle.ra_learn.specs.declared.advert.Ra.{Ra}
use Rattle.ra_learn.specs.PrefixOptions.{counted_prefixes}

-- what stands behind the fixed part, of 16 octets
abbrev pub behind_router_part : List ℕ → List ℕ
behind_router_part message = drop 16 message

-- the router lifetime, in seconds
abbrev pub router_lifetime : List ℕ → ℕ
router_lifetime message = big_number 2 (drop 6 message)

-- A message is a good advertisement: of type 134 and code 0, from a link-local address, sent with the hop limit that no
-- router leaves as it is, whole, with a right checksum, and with whole options.
pub record IsGoodAdvert (ip : Ip) (message : List ℕ) : Type 0 where
  pub kind : kind_of message ≡ 134
  pub code : code_of message ≡ 0
  pub source : LiesIn ip.src.0 link_local
  pub hop : ip.hop ≡ 255
  pub long : 16 ≤ length message
  pub sum : checksum ip.src ip.dst 58 message ≡ 0
  pub options : (options : List NdOption) × AreOptions (behind_router_part message) options

-- what a good advertisement with these options says
abbrev pub advert_with : List ℕ → List NdOption → Ra
advert_with message options = record { life = router_lifetime message; prefixes = record { items = counted_prefixes options } }

-- what is read of a message: what it says where it is a good advertisement, and nothing where it isn't one
abbrev pub ReadsAdvert : Ip → List ℕ → Option Ra → Type 0
ReadsAdvert ip message (Some ra) =
    IsGoodAdvert ip message × ((options : List NdOption) → AreOptions (behind_router_part message) options → ra ≡ advert_with message options)
ReadsAdvert ip message None = ¬ IsGoodAdvert ip message

-- The same so that it computes. That it is the one reading which `ReadsAdvert` allows is a law, `an_advert_has_its_reading`.

-- the message passes the tests of a good advertisement, but for its options
abbrev pub is_advert_header : Ip → List ℕ → Bool
is_advert_header ip message =
    ((kind_of message == 134) && (code_of message == 0)) && ((lies_in ip.src.0 link_local && (ip.hop == 255)) && (nat_le 16 (length message) && (checksum ip.src ip.dst 58 message == 0)))

-- what is read of the message
unfoldable pub advert_of : Ip → List ℕ → Option Ra
advert_of ip message =
    if is_advert_header ip message then option_map (advert_with message) (option_row (behind_router_part message)) else None
