use Rattle.std.proofs.Common.{◌+◌, ap, ◌∙◌}
use Rattle.savi_kinds.specs.AddrText.{spelling}
use Rattle.savi_kinds.proofs.AddrSpelling.{long_run, short_run, end_of_groups}
use Rattle.savi_kinds.proofs.addr_text.put_addr.Goals as goal

pub returns-then-len-ge-RUN_LEAST : goal.returns-then-len-ge-RUN_LEAST
returns-then-len-ge-RUN_LEAST c =
    let run = c.longest_zero_run-start.result in
    rw (c.push_groups-then-len-ge-RUN_LEAST.ensures.bytes, c.push_str.ensures.bytes, c.push_groups.ensures.bytes, c.new-text.ensures, end_of_groups c.args.a c.groups_of-groups.result (run.0 + run.1) c.groups_of-groups.ensures)
    (long_run c.groups_of-groups.result run c.longest_zero_run-start.ensures.value c.if-len-ge-RUN_LEAST.true ∙ ap spelling c.groups_of-groups.ensures)

pub returns-else-len-ge-RUN_LEAST : goal.returns-else-len-ge-RUN_LEAST
returns-else-len-ge-RUN_LEAST c =
    rw (c.push_groups-else-len-ge-RUN_LEAST.ensures.bytes, c.new-text.ensures)
    (short_run c.groups_of-groups.result c.longest_zero_run-start.result c.longest_zero_run-start.ensures.value c.if-len-ge-RUN_LEAST.false ∙ ap spelling c.groups_of-groups.ensures)
