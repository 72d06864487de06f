use Rattle.std.proofs.Common.{◌≡◌, ℕ, List, [], ◌++◌, ap, ◌∙◌}
use Rattle.std.proofs.lemmas.List.{append-nil}
use Rattle.std.specs.Int.{w128, to_be_bytes}
use Rattle.v6_sum.specs.InternetChecksum.{checksum, with_word_at}
use Rattle.probe_write.specs.ProbeFrame.{no_address, solicited_node_of, solicitation_with}
use Rattle.probe_write.proofs.ProbeOctets.{blank_is, field_is}
use Rattle.probe_write.proofs.solicitation.solicitation.Goals as goal

pub returns-clause-octets : goal.returns-clause-octets
returns-clause-octets c =
    let target = c.args.target in
    let octets : c.copy_from_slice.new.self ++ [] ≡ to_be_bytes w128 target.0 = append-nil c.copy_from_slice.new.self ∙ c.copy_from_slice.ensures.after ∙ c.to_be_bytes.ensures in
    let blank = blank_is target (c.copy_from_slice.new.self ++ []) octets in
    let field = rw (blank, c.solicited_node.ensures) at c.fill_sum.ensures.field in
    field
    ∙ field_is target 0 (checksum no_address (solicited_node_of target) 58 (with_word_at (solicitation_with target 0) 2 0))
    ∙ ap (λ (l : List ℕ). solicitation_with target (checksum no_address (solicited_node_of target) 58 l)) (field_is target 0 0)
