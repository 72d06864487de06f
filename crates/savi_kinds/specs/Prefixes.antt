-- A prefix as the range of the addresses that lie in it (RFC 4291 section 2.3).
use Rattle.std.specs.Prelude.{ℕ, ◌+◌, ◌-◌, ◌*◌, ◌%◌, ◌^◌, ◌<◌, ◌≤◌, ◌≡◌, ◌⊎◌}
use Rattle.savi_kinds.specs.declared.address.Prefix.{Prefix}

-- how many addresses lie in a prefix
abbrev pub size_of : Prefix → ℕ
size_of p = 2 ^ (128 - p.len)

-- the first address of a prefix
abbrev pub first_of : Prefix → ℕ
first_of p = p.net.0

-- the number behind its last address
abbrev pub past_of : Prefix → ℕ
past_of p = first_of p + size_of p

-- the address lies in the prefix
abbrev pub LiesIn : ℕ → Prefix → Type 0
LiesIn a p = (first_of p ≤ a) × (a < past_of p)

-- no address lies in both
abbrev pub AreApart : Prefix → Prefix → Type 0
AreApart p q = (past_of p ≤ first_of q) ⊎ (past_of q ≤ first_of p)

-- a length from 1 to 128, and no bit set past it
pub record IsPrefix (p : Prefix) : Type 0 where
  pub short : 1 ≤ p.len
  pub long : p.len ≤ 128
  pub net : first_of p % size_of p ≡ 0

-- fe80::/64, the link-local addresses (RFC 4291 section 2.5.6)
abbrev pub link_local : Prefix
link_local = record { net = record { 0 = 0xfe80 * 2 ^ 112 }; len = 64 }

-- ff00::/8, the multicast addresses (RFC 4291 section 2.7)
abbrev pub multicast : Prefix
multicast = record { net = record { 0 = 0xff00 * 2 ^ 112 }; len = 8 }

-- ::
abbrev pub unspecified : ℕ
unspecified = 0

-- ::1
abbrev pub loopback : ℕ
loopback = 1
