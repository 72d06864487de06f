-- The padding or the option at the front of the options of a message.
use Rattle.std.specs.Prelude.{ℕ, ◌≡◌, ◌≢◌, ◌≤◌, true, is_some, List, length, drop, slice_index, slice_range, Some}
use Rattle.std.specs.Option.{option_and_then}
use Rattle.v4_snoop.specs.DhcpOptions.{dhcp_options, first_content}

-- so many octets are at the front: what stands behind them is whole where all is, the content of a wanted option is here where
-- it has the code, and else behind
pub record IsOptionFront (rest : List ℕ) (len : ℕ) : Type 0 where
  pub some : 1 ≤ len
  pub within : len ≤ length rest
  pub whole : is_some (dhcp_options rest) ≡ is_some (dhcp_options (drop len rest))
  pub long : 1 ≤ slice_index rest 0 → 2 ≤ len
  pub here : (wanted : ℕ) → 1 ≤ wanted → slice_index rest 0 ≡ wanted → is_some (dhcp_options rest) ≡ true → option_and_then (first_content wanted) (dhcp_options rest) ≡ Some (slice_range rest 2 len)
  pub later : (wanted : ℕ) → 1 ≤ wanted → slice_index rest 0 ≢ wanted → option_and_then (first_content wanted) (dhcp_options rest) ≡ option_and_then (first_content wanted) (dhcp_options (drop len rest))
