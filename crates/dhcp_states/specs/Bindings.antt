-- A binding of an address to the port of the client that asked for it, and when it ends (RFC 7513 sections 5 and 6).
use Rattle.std.specs.Prelude.{ℕ, ◌+◌, ◌*◌, ◌==◌, nat_le, Bool, false, if◌then◌else◌, Option, Some, None}
use Rattle.savi_kinds.specs.Ports.{number_of}
use Rattle.dhcp_states.specs.declared.bound.Bound.{Bound}

-- the moment (ms) at which a binding ends by a lease of `valid` seconds that was given at t: never for 0xffffffff, which
-- stands for infinity (RFC 8415 section 7.7), and else 120 s, MAX_DHCP_RESPONSE_TIME, after the lease (RFC 7513 section
-- 6.4.2)
abbrev pub lease_end : ℕ → ℕ → Option ℕ
lease_end valid t = if valid == 0xffffffff then None else Some (t + 1000 * valid + 120000)

-- whether what ends at `until` has ended at t: so it has at `until` itself
abbrev pub is_over : ℕ → Option ℕ → Bool
is_over t None = false
is_over t (Some until) = nat_le until t

-- what stands of a binding at t
abbrev pub binding_at : ℕ → Bound → Option Bound
binding_at t bound = if is_over t bound.until then None else Some bound

-- what stands of a binding when the client at a port releases the address: a binding at another port stays
abbrev pub released_at : ℕ → Bound → Option Bound
released_at port bound = if number_of bound.p == port then None else Some bound
