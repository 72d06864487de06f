-- A summary as a program has it.
use Rattle.savi_history.specs.Summary.{Summary}
use Rattle.switch_report.specs.declared.summary.Summary.{Summary as Counted}

abbrev pub sum_of : Counted → Summary
sum_of s = record { entries = s.entries; frames = s.frames; passed = s.passed; dropped = s.dropped; probes = s.probes; lost = s.lost; cut = s.cut }
