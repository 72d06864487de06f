use Rattle.std.proofs.Common.{Ok, arith}
use Rattle.nd_read.specs.declared.message.Nd.TheVariants.{Ra, Redirect, Other}
use Rattle.nd_read.proofs.Readings.{ra_reads, redirect_reads, other_reads}
use Rattle.nd_read.proofs.TestOrder.{same_reading}
use Rattle.nd_read.proofs.reader.nd.Goals as goal

pub returns-in-134-clause-reading : goal.returns-in-134-clause-reading
returns-in-134-clause-reading c = ra_reads c.args.ip.now c.args.message.now c.in-134.is

pub returns-in-134-clause-only : goal.returns-in-134-clause-only
returns-in-134-clause-only c = λ other reads. same_reading c.args.ip.now c.args.message.now other (Ok Ra) reads (ra_reads c.args.ip.now c.args.message.now c.in-134.is)

pub returns-in-137-clause-reading : goal.returns-in-137-clause-reading
returns-in-137-clause-reading c = redirect_reads c.args.ip.now c.args.message.now c.in-137.is

pub returns-in-137-clause-only : goal.returns-in-137-clause-only
returns-in-137-clause-only c = λ other reads. same_reading c.args.ip.now c.args.message.now other (Ok Redirect) reads (redirect_reads c.args.ip.now c.args.message.now c.in-137.is)

pub returns-in_default-clause-reading : goal.returns-in_default-clause-reading
returns-in_default-clause-reading c = other_reads c.args.ip.now c.args.message.now (λ e. omega arith) (λ e. omega arith) (λ e. omega arith) (λ e. omega arith) (λ e. omega arith)

pub returns-in_default-clause-only : goal.returns-in_default-clause-only
returns-in_default-clause-only c = λ other reads. same_reading c.args.ip.now c.args.message.now other (Ok Other) reads (other_reads c.args.ip.now c.args.message.now (λ e. omega arith) (λ e. omega arith) (λ e. omega arith) (λ e. omega arith) (λ e. omega arith))
