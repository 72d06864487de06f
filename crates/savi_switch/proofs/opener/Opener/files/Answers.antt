use Rattle.std.proofs.Common.{rules}
use Rattle.savi_switch.proofs.Alone.{none_alone}
use Rattle.savi_switch.proofs.opener.Opener.files.Goals as goal

pub returns-clause-noted : goal.returns-clause-noted
returns-clause-noted g c = (c.source.new.self.files, search rules, search rules)

pub returns-in_err-sink-clause-unopened : goal.returns-in_err-sink-clause-unopened
returns-in_err-sink-clause-unopened g c =
    none_alone c.from_residual-in_err-sink.result c.args.self.now.files c.source.new.self.files c.sink.new.self.files c.in_ok-source.source (search rules) (search rules)
