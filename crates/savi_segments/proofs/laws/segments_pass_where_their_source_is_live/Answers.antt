use Rattle.savi_segments.proofs.CameFirst.{all_right}
use Rattle.savi_segments.proofs.laws.segments_pass_where_their_source_is_live.Goals as goal

pub returns : goal.returns
returns c = λ plan segments valid on legal.
    all_right c.histories_tell_rightly.ensures.limits plan valid
    (λ base past within right bytes. c.packets_pass_where_their_source_is_live.ensures plan base past valid within on right bytes) segments legal
