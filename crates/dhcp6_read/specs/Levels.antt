-- What the options of a message say, of an IA in it, and of an address in that (RFC 8415 sections 21.2 to 21.6, 21.13).
use Rattle.std.specs.Prelude.{ℕ, ◌==◌, nat_lt, Bool, true, false, List, [], ◌∷◌, ◌++◌, length, drop, if◌then◌else◌}
use Rattle.std.specs.List.{flat_map, list_any}
use Rattle.byteorder.specs.Endian.{big_number}
use Rattle.dhcp6_read.specs.declared.message.Lease.{Lease}
use Rattle.dhcp6_read.specs.declared.message.DhcpFault.{DhcpFault}
use Rattle.dhcp6_read.specs.declared.message.DhcpFault.TheVariants.{Overrun, Ia, Address, Duid, Status}
use Rattle.dhcp6_read.specs.Options.{OptionsRead, option_code}

-- The faults, by the place in the message where the option at fault begins, the first one first. Whether a status says
-- that the addresses beside it aren't leased. The addresses that are leased, as they stand in the message.
pub record Said : Type 0 where
  pub faults : List DhcpFault
  pub void : Bool
  pub leases : List Lease

abbrev pub says_nothing : Said
says_nothing = record { faults = []; void = false; leases = [] }

abbrev pub faulty : DhcpFault → Said
faulty fault = record { faults = fault ∷ []; void = false; leases = [] }

-- the rest of a row that isn't tiled begins an option that doesn't fit
abbrev pub overrun : List ℕ → List DhcpFault
overrun [] = []
overrun (octet ∷ octets) = Overrun ∷ []

-- what a row says, by what an option of this code and content says
abbrev pub row_says : (ℕ → List ℕ → Said) → OptionsRead → Said
row_says says row = record {
  faults = flat_map (λ option. (says (option_code option) option.content).faults) row.options ++ overrun row.rest;
  void = list_any (λ option. (says (option_code option) option.content).void) row.options;
  leases = flat_map (λ option. (says (option_code option) option.content).leases) row.options;
}

-- what an option says in which others lie: their faults, and these addresses unless one of them voids them
abbrev pub around : Said → List Lease → Said
around inner leases = record { faults = inner.faults; void = false; leases = if inner.void then [] else leases }

-- A status that isn't 0 (Success) voids (RFC 8415 section 21.13). In a release (8) and a decline (9) it doesn't: a client
-- names there what it gives back.
abbrev pub is_void : ℕ → ℕ → Bool
is_void kind code = if code == 0 then false else (if kind == 8 then false else (if kind == 9 then false else true))

-- a status: two octets of code, then text (RFC 8415 section 21.13)
abbrev pub status_says : ℕ → List ℕ → Said
status_says kind content =
    if nat_lt (length content) 2 then faulty Status else record { faults = []; void = is_void kind (big_number 2 content); leases = [] }

-- an option within an address: a status (13)
abbrev pub in_address : ℕ → ℕ → List ℕ → Said
in_address kind code content = if code == 13 then status_says kind content else says_nothing

-- an address: 16 octets, its preferred and its valid lifetime in 4 octets each (RFC 8415 section 21.6)
unfoldable pub lease_of : List ℕ → Lease
lease_of content = record { address = record { 0 = big_number 16 content }; valid = big_number 4 (drop 20 content) }

-- an address with the options behind its 24 octets
abbrev pub address_says : (List ℕ → OptionsRead) → ℕ → List ℕ → Said
address_says row_of kind content =
    if nat_lt (length content) 24 then faulty Address else around (row_says (in_address kind) (row_of (drop 24 content))) (lease_of content ∷ [])

-- an option within an IA: an address (5) or a status (13)
abbrev pub in_ia : (List ℕ → OptionsRead) → ℕ → ℕ → List ℕ → Said
in_ia row_of kind code content =
    if code == 5 then address_says row_of kind content else (if code == 13 then status_says kind content else says_nothing)

-- an IA with the options behind its fixed octets
abbrev pub ia_says : (List ℕ → OptionsRead) → ℕ → ℕ → List ℕ → Said
ia_says row_of fixed kind content =
    if nat_lt (length content) fixed then faulty Ia else (let inner = row_says (in_ia row_of kind) (row_of (drop fixed content)) in around inner inner.leases)

-- a client's DUID: 3 to 130 octets (RFC 8415 sections 11.1, 21.2)
abbrev pub duid_says : List ℕ → Said
duid_says content = if nat_lt (length content) 3 then faulty Duid else (if nat_lt 130 (length content) then faulty Duid else says_nothing)

-- An option of a message: a client's DUID (1), an IA_NA (3) with 12 fixed octets, an IA_TA (4) with 4, or a status (13)
-- (RFC 8415 sections 21.2, 21.4, 21.5, 21.13). Every other one is passed over.
abbrev pub in_message : (List ℕ → OptionsRead) → ℕ → ℕ → List ℕ → Said
in_message row_of kind code content =
    if code == 1 then duid_says content else (if code == 3 then ia_says row_of 12 kind content else (if code == 4 then ia_says row_of 4 kind content else (if code == 13 then status_says kind content else says_nothing)))
