-- What a part of the reader gives, by what the octets that it reads say.
use Rattle.std.specs.Prelude.{◌≡◌, ℕ, Bool, Result, Ok, Err, List, [], ◌∷◌, ◌++◌}
use Rattle.dhcp6_read.specs.declared.message.Lease.{Lease}
use Rattle.dhcp6_read.specs.declared.message.DhcpFault.{DhcpFault}
use Rattle.dhcp6_read.specs.Options.{DhcpOption, IsWhole, octets_of, option_code}
use Rattle.dhcp6_read.specs.Levels.{Said}

-- no fault, whether they are void, and the leases put behind those before; or the first fault
abbrev pub TellsLeases : Said → Result Bool DhcpFault → List Lease → List Lease → Type 0
TellsLeases said (Ok void) before after = (said.faults ≡ []) × (said.void ≡ void) × (after ≡ before ++ said.leases)
TellsLeases said (Err fault) before after = (others : List DhcpFault) × (said.faults ≡ fault ∷ others)

-- the octets begin with a whole option of this code and content, and these octets stand behind it
abbrev pub BeginsWith : List ℕ → ℕ → List ℕ → List ℕ → Type 0
BeginsWith octets code content behind =
    (option : DhcpOption) × IsWhole option × (option_code option ≡ code) × (option.content ≡ content) × (octets ≡ octets_of option ++ behind)
