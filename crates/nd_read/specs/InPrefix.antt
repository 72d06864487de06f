-- Whether an address lies in a prefix, as a test that computes.
use Rattle.std.specs.Prelude.{ℕ, ◌&&◌, nat_lt, nat_le, Bool}
use Rattle.savi_kinds.specs.declared.address.Prefix.{Prefix}
use Rattle.savi_kinds.specs.Prefixes.{first_of, past_of}

-- the address lies in the prefix
abbrev pub lies_in : ℕ → Prefix → Bool
lies_in address prefix = nat_le (first_of prefix) address && nat_lt address (past_of prefix)
