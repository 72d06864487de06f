use Rattle.std.proofs.Common.{refl, ◌∙◌, ap}
use Rattle.std.specs.Option.{option_and_then}
use Rattle.std.proofs.lemmas.List.{take_rest}
use Rattle.byteorder.specs.Endian.{big_number}
use Rattle.v4_snoop.specs.DhcpOptions.{first_content, four_octets}
use Rattle.v4_snoop.proofs.Readings.{same_message}
use Rattle.v4_snoop.proofs.message.message_with.Goals as goal

pub returns : goal.returns
returns c = λ read is.
    same_message c.args.kind refl refl
    (c.read_u32.ensures ∙ ap (big_number 4) (take_rest c.args.payload.now 4))
    (c.read_u32-2.ensures ∙ ap (big_number 4) (take_rest c.args.payload.now 12))
    (c.read_u32-3.ensures ∙ ap (big_number 4) (take_rest c.args.payload.now 16))
    (c.read_u48.ensures ∙ ap (big_number 6) (take_rest c.args.payload.now 28))
    (c.number_in.ensures ∙ ap (option_and_then (λ options. option_and_then four_octets (first_content 50 options))) is)
    (c.number_in-2.ensures ∙ ap (option_and_then (λ options. option_and_then four_octets (first_content 51 options))) is)
