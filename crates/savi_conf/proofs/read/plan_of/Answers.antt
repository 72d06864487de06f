use Rattle.std.proofs.Common.{sym, arith}
use Rattle.savi_conf.specs.declared.fault.Fault.TheVariants.{SaviWord, NextHeaderWord, PerPort, Depth, Entries, Bytes, Times, MissingKey, PortCount, PrefixTexts}
use Rattle.savi_conf.specs.Parts.{document_of}
use Rattle.savi_conf.proofs.MetLemmas.{mac_there, journal_there, not_negative, at_most, within_from, below_from, seconds_from}
use Rattle.savi_conf.proofs.InOrder.{listed_count}
use Rattle.savi_conf.proofs.read.plan_of.Goals as goal

pub switch_mac-requires : goal.switch_mac-requires
switch_mac-requires c = mac_there c.args.parts.now.replay (document_of c.args.parts.now) c.requires.meets

pub is_savi_on-requires : goal.is_savi_on-requires
is_savi_on-requires c = c.requires.meets SaviWord

pub drops_unknown-requires : goal.drops_unknown-requires
drops_unknown-requires c = c.requires.meets NextHeaderWord

pub small_at-requires-clause-low : goal.small_at-requires-clause-low
small_at-requires-clause-low c = not_negative 1 64 _ (c.requires.meets PerPort)

pub small_at-requires-clause-high : goal.small_at-requires-clause-high
small_at-requires-clause-high c = at_most 1 64 4294967295 _ (omega arith) (c.requires.meets PerPort)

pub small_at-requires-2-clause-low : goal.small_at-requires-2-clause-low
small_at-requires-2-clause-low c = not_negative 1 256 _ (c.requires.meets Depth)

pub small_at-requires-2-clause-high : goal.small_at-requires-2-clause-high
small_at-requires-2-clause-high c = at_most 1 256 4294967295 _ (omega arith) (c.requires.meets Depth)

pub natural_at-requires : goal.natural_at-requires
natural_at-requires c = not_negative 4131 1000000 _ (c.requires.meets Entries)

pub natural_at-requires-2 : goal.natural_at-requires-2
natural_at-requires-2 c = not_negative 1518 1073741824 _ (c.requires.meets Bytes)

pub natural_at-requires-3 : goal.natural_at-requires-3
natural_at-requires-3 c = not_negative 1 59999 _ (c.requires.meets Times).gap

pub natural_at-requires-4 : goal.natural_at-requires-4
natural_at-requires-4 c = not_negative 2 60000 _ (c.requires.meets Times).test

pub natural_at-requires-5 : goal.natural_at-requires-5
natural_at-requires-5 c = not_negative 1 86400 _ (c.requires.meets Times).life

pub overflow_mul-result : goal.overflow_mul-result
overflow_mul-result c = let life = within_from 1 86400 c.natural_at-5.result _ (sym c.natural_at-5.ensures) (c.requires.meets Times).life in omega (arith, life.1)

pub control_names-requires : goal.control_names-requires
control_names-requires c = (c.requires.meets MissingKey).1

pub text-requires : goal.text-requires
text-requires c = journal_there c.args.parts.now.replay (document_of c.args.parts.now) c.requires.meets

pub returns-clause-valid : goal.returns-clause-valid
returns-clause-valid c =
    let met = c.requires.meets in
    record {
      unicast = c.switch_mac.ensures.unicast;
      per_port = within_from 1 64 c.small_at.result _ (sym c.small_at.ensures) (met PerPort);
      depth = within_from 1 256 c.small_at-2.result _ (sym c.small_at-2.ensures) (met Depth);
      entries = within_from 4131 1000000 c.natural_at.result _ (sym c.natural_at.ensures) (met Entries);
      bytes = within_from 1518 1073741824 c.natural_at-2.result _ (sym c.natural_at-2.ensures) (met Bytes);
      gap = within_from 1 59999 c.natural_at-3.result _ (sym c.natural_at-3.ensures) (met Times).gap;
      test = within_from 2 60000 c.natural_at-4.result _ (sym c.natural_at-4.ensures) (met Times).test;
      gap_first = below_from c.natural_at-3.result c.natural_at-4.result _ _ (sym c.natural_at-3.ensures) (sym c.natural_at-4.ensures) (met Times).gap_first;
      life = seconds_from 1 86400 c.natural_at-5.result _ (sym c.natural_at-5.ensures) (met Times).life;
      port_count = (omega (arith, listed_count _ _ _ c.in_ok-ports_of.ensures.lists, (met PortCount).0), omega (arith, listed_count _ _ _ c.in_ok-ports_of.ensures.lists, (met PortCount).1));
      ports = c.in_ok-ports_of.ensures.order;
      port_vlans = c.in_ok-ports_of.ensures.vlans;
      vlan_count = c.in_ok-ports_of.ensures.few;
      prefix_count = omega (arith, listed_count _ _ _ c.in_ok-prefixes_of.ensures.lists, (met PrefixTexts).count);
      plan_prefixes = c.in_ok-prefixes_of.ensures.planned;
      prefix_vlans = c.in_ok-prefixes_of.ensures.vlans;
      prefixes = c.in_ok-prefixes_of.ensures.order;
    }
