use Rattle.toml.specs.View.{table_view}
use Rattle.savi_conf.proofs.PrefixLemmas.{apart_tables}
use Rattle.savi_conf.proofs.prefixes.tell_apart_ranges.Goals as goal

pub returns-in-Some-Some : goal.returns-in-Some-Some
returns-in-Some-Some c =
    let p = c.in-Some-Some.prefix in
    let q = c.in-Some-Some.other_prefix in (
      λ apart. apart_tables (table_view c.args.one.now) (table_view c.args.other.now) p q c.in-Some-Some.ensures.read c.in-Some-Some.ensures'.read (c.are_apart.ensures.0 apart),
      λ tables. c.are_apart.ensures.1 (tables p q c.in-Some-Some.ensures.read c.in-Some-Some.ensures'.read),
    )
