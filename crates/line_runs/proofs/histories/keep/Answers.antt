use Rattle.line_runs.proofs.histories.keep.Goals as goal

-- the line of an entry is the same wherever its octets are kept
pub put_line-requires : goal.put_line-requires
put_line-requires g c = (c.placed-entry.ensures c.args.octets.now c.requires.fits).0
