use Rattle.frame_class.specs.declared.classes.Seen.{Seen}
use Rattle.frame_class.specs.Seen.{IsSeen}
use Rattle.frame_class.proofs.OneClass.{one_seen}
use Rattle.frame_class.proofs.reader.see.Goals as goal

pub returns-clause-reading : goal.returns-clause-reading
returns-clause-reading c = record { tag = c.tag_if_whole-tag.ensures; class = c.put_inner_class.ensures }

pub returns-clause-only : goal.returns-clause-only
returns-clause-only c =
    let now : Seen = record { tag = c.tag_if_whole-tag.result; class = c.put_inner_class.new.class } in
    let is : IsSeen c.args.frame.now now = record { tag = c.tag_if_whole-tag.ensures; class = c.put_inner_class.ensures } in
    λ other seen. one_seen c.args.frame.now other now seen is
