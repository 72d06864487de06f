use Rattle.std.proofs.Common.{◌≡◌, ◌++◌, [], ◌∷◌, take, map, Some, ap, ◌∙◌}
use Rattle.std.proofs.lemmas.List.{map_push}
use Rattle.savi_kinds.specs.Arrivals.{Frame}
use Rattle.savi_ends.specs.MemSources.{sure_left}
use Rattle.savi_ends.proofs.Octets.{takes_more}
use Rattle.pcap_io.specs.Kinds.{classic_kinds}
use Rattle.pcap_io.specs.Readers.{Fresh}
use Rattle.pcap_io.proofs.CallsJoined.{has_read_more}
use Rattle.capture_reads.specs.Frames.{arrival_of}
use Rattle.capture_reads.proofs.capture.frames_in.Goals as goal

pub loop-stamp-preserved : goal.loop-stamp-preserved
loop-stamp-preserved c =
    let was = c.loop-stamp.invariant in
    let call = c.in-Frame.ensures.octets in
    let kept : c.in_ok-octets-in-Frame.octets.items ≡ take c.in-Frame.len c.next.new.buf = c.in_ok-octets-in-Frame.ensures.items_if_clones_equal (λ x y same. same) in
    let same = ap (map arrival_of) c.in_ok-push-in-Frame.ensures.items ∙ map_push arrival_of c.loop-stamp.frames.items _ in (
      was.0 ++ call.0,
      takes_more was.0 call.0 (Some c.args.octets.items) (Some (sure_left c.loop-stamp.source)) (Some (sure_left c.next.new.source)) was.1 call.1,
      rw (same, kept)
          (has_read_more (Fresh classic_kinds) c.loop-stamp.reader c.next.new.self was.0 call.0 (map arrival_of c.loop-stamp.frames.items) (Frame c.in-Frame.stamp (take c.in-Frame.len c.next.new.buf) ∷ []) was.2 call.2.1.read),
    )
