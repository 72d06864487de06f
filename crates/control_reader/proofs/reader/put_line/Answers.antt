use Rattle.std.proofs.Common.{ℕ, List, [], ◌∷◌, ◌++◌, arith, ap, ◌∙◌}
use Rattle.std.proofs.lemmas.List.{map-append}
use Rattle.intake_ring.specs.Sides.{put_of}
use Rattle.control_reader.specs.Heard.{Said, all_heard, line_heard_of, lines_put}
use Rattle.control_reader.proofs.reader.put_line.Goals as goal

pub returns-clause-put : goal.returns-clause-put
returns-clause-put g c =
    ap all_heard c.put.ensures.put
    ∙ map-append line_heard_of (put_of c.args.filler.now) _
    ∙ ap (λ (octets : List ℕ). lines_put c.args.filler.now ++ Said (record { stamp = c.args.stamp; command = octets }) ∷ []) (grind arith)
