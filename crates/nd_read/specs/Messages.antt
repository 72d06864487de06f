-- The messages of neighbor discovery by their fields (RFC 4861 section 4).
use Rattle.std.specs.Prelude.{◌≡◌, ℕ, ◌==◌, List, drop, slice_index, if◌then◌else◌}
use Rattle.byteorder.specs.Endian.{big_number}
use Rattle.savi_kinds.specs.declared.address.Addr.{Addr}
use Rattle.savi_kinds.specs.Prefixes.{unspecified}
use Rattle.v6_chain.specs.declared.packet.Ip.{Ip}
use Rattle.nd_read.specs.declared.message.Nd.{Nd}
use Rattle.nd_read.specs.declared.message.Nd.TheVariants.{Rs, Ra, Ns, Na, Redirect, Other}

-- the ICMPv6 type and code (RFC 4443 section 2.1)
abbrev pub kind_of : List ℕ → ℕ
kind_of message = slice_index message 0

abbrev pub code_of : List ℕ → ℕ
code_of message = slice_index message 1

-- the octet of flags of an advertisement (RFC 4861 section 4.4)
abbrev pub flags_of : List ℕ → ℕ
flags_of message = slice_index message 4

-- the target of a neighbor solicitation or advertisement (RFC 4861 sections 4.3, 4.4)
unfoldable pub target_of : List ℕ → Addr
target_of message = record { 0 = big_number 16 (drop 8 message) }

-- a router solicitation, a neighbor solicitation, a neighbor advertisement
abbrev pub IsRs : List ℕ → Type 0
IsRs message = kind_of message ≡ 133

abbrev pub IsNs : List ℕ → Type 0
IsNs message = kind_of message ≡ 135

abbrev pub IsNa : List ℕ → Type 0
IsNa message = kind_of message ≡ 136

-- how many octets stand before the options (RFC 4861 sections 4.1, 4.3, 4.4)
abbrev pub fixed_len : List ℕ → ℕ
fixed_len message = if kind_of message == 133 then 8 else 24

-- where the options are
abbrev pub behind_fixed : List ℕ → List ℕ
behind_fixed message = drop (fixed_len message) message

-- the type of a message, with what it names
unfoldable pub named : Ip → List ℕ → Nd
named ip message =
    if kind_of message == 133 then Rs else (if kind_of message == 134 then Ra else (if kind_of message == 135 then Ns (target_of message) (ip.src.0 == unspecified) else (if kind_of message == 136 then Na (target_of message) (flags_of message) else (if kind_of message == 137 then Redirect else Other))))
