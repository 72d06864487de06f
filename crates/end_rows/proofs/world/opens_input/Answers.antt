use Rattle.std.proofs.Common.{◌≡◌}
use Rattle.savi_ends.proofs.Ready.{opened_alone}
use Rattle.end_rows.proofs.world.opens_input.Goals as goal

pub keep_input-requires : goal.keep_input-requires
keep_input-requires g c = (
  c.args.name.now,
  opened_alone (λ (s : g.row.W-S.Denot). g.W.S.Source.faults s ≡ 0) _ _ c.args.name.now c.requires c.input.ensures.others c.in-Ok.ensures.opens.out,
)
