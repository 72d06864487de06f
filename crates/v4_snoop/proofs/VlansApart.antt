-- Keys of addresses and ids of clients differ where their VLANs do.
use Rattle.std.proofs.Common.{◌≡◌, ℕ, ◌+◌, ◌*◌, ◌^◌, ◌<◌, List, [], ◌++◌, sym, ap, ◌∙◌, arith}
use Rattle.std.specs.Int.{w128, to_be_bytes}
use Rattle.byteorder.specs.Numbers.{big_number-reads_back}
use Rattle.byteorder.specs.Endian.{big_from}
use Rattle.v4_snoop.specs.Leased.{v4_key}
use Rattle.v4_snoop.specs.Following.{client_id}

pub one_address : (vlan address vlan' address' : ℕ) → address < 2 ^ 32 → address' < 2 ^ 32 → v4_key vlan address ≡ v4_key vlan' address' → (vlan ≡ vlan') × (address ≡ address')
one_address vlan address vlan' address' fits fits' same = (omega (arith, fits, fits', same), omega (arith, fits, fits', same))

-- the number that is read of an id
number_back : (n : ℕ) → n < 2 ^ 128 → big_from 0 16 (to_be_bytes w128 n ++ []) ≡ n
number_back n fits = big_number-reads_back 16 n [] fits

pub one_client : (vlan mac vlan' mac' : ℕ) → vlan < 2 ^ 16 → vlan' < 2 ^ 16 → mac < 2 ^ 48 → mac' < 2 ^ 48 → client_id vlan mac ≡ client_id vlan' mac' → (vlan ≡ vlan') × (mac ≡ mac')
one_client vlan mac vlan' mac' small small' fits fits' same =
    let numbers : vlan * 2 ^ 64 + mac ≡ vlan' * 2 ^ 64 + mac' =
    sym (number_back (vlan * 2 ^ 64 + mac) (omega (arith, small, fits)))
    ∙ ap (λ (id : List ℕ). big_from 0 16 (id ++ [])) same
    ∙ number_back (vlan' * 2 ^ 64 + mac') (omega (arith, small', fits')) in
    (omega (arith, fits, fits', numbers), omega (arith, fits, fits', numbers))
