-- What a message of neighbor discovery says, as a function: its tests are tried one after the other, each of them as a test
-- that computes. That it is the one reading which `Reads` allows is a law, `a_message_has_its_reading`.
use Rattle.std.specs.Prelude.{ℕ, ◌==◌, ◌&&◌, ◌||◌, nat_le, not, Bool, if◌then◌else◌, List, [], ◌∷◌, length, find, Option, Some, None, is_some, Result, Ok, Err, bit_and}
use Rattle.savi_kinds.specs.Prefixes.{multicast, unspecified}
use Rattle.v6_chain.specs.declared.packet.Ip.{Ip}
use Rattle.v6_sum.specs.InternetChecksum.{checksum}
use Rattle.nd_read.specs.declared.message.Nd.{Nd}
use Rattle.nd_read.specs.declared.message.NdFault.{NdFault}
use Rattle.nd_read.specs.declared.message.NdFault.TheVariants.{HopLimit, Code, Short, Checksum, Target, Options, Unspecified, Solicited}
use Rattle.nd_read.specs.Messages.{kind_of, code_of, flags_of, target_of, fixed_len, behind_fixed, named}
use Rattle.nd_read.specs.Options.{NdOption}
use Rattle.nd_read.specs.Tests.{solicited_node}
use Rattle.nd_read.specs.InPrefix.{lies_in}
use Rattle.nd_read.specs.OptionRow.{option_row, has_kind}

-- where the first holds, the second does
abbrev pub implies : Bool → Bool → Bool
implies first second = not first || second

-- the options of a message, if what stands behind its fixed part is a row of them
abbrev pub options_of : List ℕ → Option (List NdOption)
options_of message = option_row (behind_fixed message)

-- a router solicitation, a neighbor solicitation, a neighbor advertisement
abbrev pub is_rs : List ℕ → Bool
is_rs message = kind_of message == 133

abbrev pub is_ns : List ℕ → Bool
is_ns message = kind_of message == 135

abbrev pub is_na : List ℕ → Bool
is_na message = kind_of message == 136

-- one of these, which are tested
abbrev pub is_tested : List ℕ → Bool
is_tested message = is_rs message || (is_ns message || is_na message)

-- the message passes the test whose failure is the fault
unfoldable pub passes : NdFault → Ip → List ℕ → Bool
passes HopLimit ip message = ip.hop == 255
passes Code ip message = code_of message == 0
passes Short ip message = nat_le (fixed_len message) (length message)
passes Checksum ip message = checksum ip.src ip.dst 58 message == 0
passes Target ip message = implies (is_ns message || is_na message) (not (lies_in (target_of message).0 multicast))
passes Options ip message = is_some (options_of message)
passes Unspecified ip message =
    implies (ip.src.0 == unspecified) (implies (is_rs message || is_ns message) (not (has_kind 1 (options_of message))) && implies (is_ns message) (lies_in ip.dst.0 solicited_node))
passes Solicited ip message =
    implies (is_na message) (implies (lies_in ip.dst.0 multicast) (bit_and (flags_of message) 0x40 == 0))

-- the tests in their order
abbrev pub tests : List NdFault
tests = HopLimit ∷ Code ∷ Short ∷ Checksum ∷ Target ∷ Options ∷ Unspecified ∷ Solicited ∷ []

-- the first of the tests that the message fails
abbrev pub first_fault : Ip → List ℕ → Option NdFault
first_fault ip message = find (λ test. not (passes test ip message)) tests

-- the message, where it fails no test
abbrev pub unless_failed : Nd → Option NdFault → Result Nd NdFault
unless_failed nd None = Ok nd
unless_failed nd (Some fault) = Err fault

-- what reading the message gives
unfoldable pub nd_of : Ip → List ℕ → Result Nd NdFault
nd_of ip message = if is_tested message then unless_failed (named ip message) (first_fault ip message) else Ok (named ip message)
