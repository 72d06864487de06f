use Rattle.std.proofs.Common.{ℕ, List, subst}
use Rattle.frame_class.specs.Seen.{IsSeen}
use Rattle.core_bench.proofs.frames.read_frame.Goals as goal

pub invariant_of-result-clause-read : goal.invariant_of-result-clause-read
invariant_of-result-clause-read c =
    let P : List ℕ → Type 0 = λ octets. IsSeen octets c.seen-seen.result in
    c.a_frame_is_seen_once.ensures.only c.args.octets.items c.seen-seen.result (subst P c.as_slice.ensures.value c.seen-seen.ensures.reading)
