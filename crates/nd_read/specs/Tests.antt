-- The tests of a message of neighbor discovery (RFC 4861 sections 6.1.1, 7.1.1, 7.1.2), and what reading it gives.
use Rattle.std.specs.Prelude.{◌≡◌, ℕ, ◌+◌, ◌*◌, ◌^◌, ◌<◌, ◌≤◌, ◌⊎◌, List, length, Result, Ok, Err, bit_and}
use Rattle.savi_kinds.specs.Prefixes.{LiesIn, multicast, unspecified}
use Rattle.savi_kinds.specs.declared.address.Prefix.{Prefix}
use Rattle.v6_chain.specs.declared.packet.Ip.{Ip}
use Rattle.v6_sum.specs.InternetChecksum.{checksum}
use Rattle.nd_read.specs.declared.message.Nd.{Nd}
use Rattle.nd_read.specs.declared.message.NdFault.{NdFault}
use Rattle.nd_read.specs.declared.message.NdFault.TheVariants.{HopLimit, Code, Short, Checksum, Target, Options, Unspecified, Solicited}
use Rattle.nd_read.specs.Messages.{IsRs, IsNs, IsNa, code_of, flags_of, target_of, fixed_len, behind_fixed, named}
use Rattle.nd_read.specs.Options.{NdOption, AreOptions, HasKind}

-- ff02::1:ff00:0/104, the solicited-node addresses (RFC 4291 section 2.7.1)
unfoldable pub solicited_node : Prefix
solicited_node = record { net = record { 0 = 0xff02 * 2 ^ 112 + 0x1ff000000 }; len = 104 }

-- what stands behind the fixed part is a row of whole options
abbrev pub HasOptions : List ℕ → Type 0
HasOptions message = (options : List NdOption) × AreOptions (behind_fixed message) options

-- an option names the link-layer address of the source (RFC 4861 section 4.6.1)
abbrev pub NamesSource : List ℕ → Type 0
NamesSource message = (options : List NdOption) × AreOptions (behind_fixed message) options × HasKind 1 options

-- the message passes the test whose failure is the fault
unfoldable pub Passes : NdFault → Ip → List ℕ → Type 0
Passes HopLimit ip message = ip.hop ≡ 255
Passes Code ip message = code_of message ≡ 0
Passes Short ip message = fixed_len message ≤ length message
Passes Checksum ip message = checksum ip.src ip.dst 58 message ≡ 0
Passes Target ip message = IsNs message ⊎ IsNa message → ¬ LiesIn (target_of message).0 multicast
Passes Options ip message = HasOptions message
Passes Unspecified ip message =
    ip.src.0 ≡ unspecified → (IsRs message ⊎ IsNs message → ¬ NamesSource message) × (IsNs message → LiesIn ip.dst.0 solicited_node)
Passes Solicited ip message = IsNa message → LiesIn ip.dst.0 multicast → bit_and (flags_of message) 0x40 ≡ 0

-- the place of a test in their order
abbrev pub test_number : NdFault → ℕ
test_number HopLimit = 1
test_number Code = 2
test_number Short = 3
test_number Checksum = 4
test_number Target = 5
test_number Options = 6
test_number Unspecified = 7
test_number Solicited = 8

-- it passes the tests before a place in their order
abbrev pub PassesBefore : ℕ → Ip → List ℕ → Type 0
PassesBefore place ip message = (test : NdFault) → test_number test < place → Passes test ip message

-- the fault of the first test that fails
pub record IsFirstFailed (ip : Ip) (message : List ℕ) (fault : NdFault) : Type 0 where
  pub fails : ¬ Passes fault ip message
  pub before : PassesBefore (test_number fault) ip message

-- the messages that are tested; the others are named by their type alone
abbrev pub HasTests : List ℕ → Type 0
HasTests message = IsRs message ⊎ (IsNs message ⊎ IsNa message)

-- what reading the message gives
abbrev pub Reads : Ip → List ℕ → Result Nd NdFault → Type 0
Reads ip message (Ok nd) = (nd ≡ named ip message) × (HasTests message → (test : NdFault) → Passes test ip message)
Reads ip message (Err fault) = HasTests message × IsFirstFailed ip message fault
