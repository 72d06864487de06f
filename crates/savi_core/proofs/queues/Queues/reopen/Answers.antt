use Rattle.std.proofs.Common.{◌≡◌, ◌+◌, ◌<◌, ◌≤◌, Bool, length, get_or, sym, ap, ◌∙◌, arith, length-set}
use Rattle.std.proofs.lemmas.List.{get_or_default}
use Rattle.savi_core.specs.Lanes.{with_reopened, no_lane}
use Rattle.savi_core.specs.Rings.{Rings}
use Rattle.savi_core.specs.Turns.{reopened}
use Rattle.savi_core.proofs.OneByOne.{rings_are}
use Rattle.savi_core.proofs.Reopening.{opened, reopened_more, reopened_all}
use Rattle.savi_core.proofs.queues.Queues.reopen.Goals as goal

pub loop-place-init : goal.loop-place-init
loop-place-init c = record {
  size = ap (λ (r : Rings). length r.lanes) c.self.view_is;
  lanes = ap (λ (r : Rings). reopened c.args.first c.args.ends.now.ends r.lanes) c.self.view_is;
  shut = ap (λ (r : Rings). r.shut) c.self.view_is;
  joined = ap (λ (r : Rings). r.queued) c.self.view_is;
  lost = ap (λ (r : Rings). r.lost) c.self.view_is;
}

pub is_over-requires : goal.is_over-requires
is_over-requires c =
    omega (arith, c.requires, c.loop-place-test.true, c.len-place-end.ensures, c.loop-place.invariant.size, ap (λ (r : Rings). length r.lanes) c.self.view_is)

pub loop-place-preserved : goal.loop-place-preserved
loop-place-preserved c =
    let was = c.loop-place.invariant in
    let items = c.loop-place.self-inside.queues.items in
    let i = c.loop-place.place in
    let v = c.reopen.new.self in
    let within : i < length items = omega (arith, c.loop-place-test.true, c.len-place-end.ensures, was.size, ap (λ (r : Rings). length r.lanes) c.self.view_is) in
    let here : c.index_mut.result.now ≡ get_or items i no_lane = c.index_mut.ensures.value ∙ get_or_default items i c.index_mut.result.now no_lane within in
    let lane_is : v ≡ opened c.args.ends.now.ends (c.args.first + i) (get_or items i no_lane) =
    c.reopen.ensures ∙ ap (λ (over : Bool). with_reopened over c.index_mut.result.now) c.is_over.ensures ∙ ap (opened c.args.ends.now.ends (c.args.first + i)) here in
    record {
      size = length-set items i v ∙ was.size;
      lanes = reopened_more c.args.ends.now.ends c.args.first items i no_lane v within lane_is ∙ was.lanes;
      shut = was.shut;
      joined = was.joined;
      lost = was.lost;
    }

pub returns : goal.returns
returns c =
    let was = c.loop-place.invariant in
    let items = c.loop-place.self-inside.queues.items in
    let past : length items ≤ c.loop-place.place = omega (arith, c.loop-place-test.false, c.len-place-end.ensures, was.size, ap (λ (r : Rings). length r.lanes) c.self.view_is) in
    rings_are (sym (reopened_all c.args.ends.now.ends c.args.first items c.loop-place.place past) ∙ was.lanes) was.shut was.joined was.lost
