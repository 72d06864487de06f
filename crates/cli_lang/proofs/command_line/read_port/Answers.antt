use Rattle.std.proofs.Common.{arith}
use Rattle.cli_lang.proofs.PortRead.{no_new_port}
use Rattle.cli_lang.proofs.command_line.read_port.Goals as goal

pub returns-clause-only : goal.returns-clause-only
returns-clause-only c =
    no_new_port _ c.in_ok-number.number c.new.result (omega (arith, c.in_ok-number.ensures.read.1)) c.in_ok-number.ensures.read.0 c.new.ensures.some
