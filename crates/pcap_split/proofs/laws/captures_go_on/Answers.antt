use Rattle.pcap_split.proofs.Wholes.{split_start, split_opened, split_ended, split_broken}
use Rattle.pcap_split.proofs.laws.captures_go_on.Goals as goal

pub returns : goal.returns
returns g c = record { start = split_start g.K.Sink.written; opened = split_opened g.K.Sink.written g.K.Sink.faults; ended = split_ended g.K.Sink.written g.K.Sink.faults; broken = split_broken g.K.Sink.written g.K.Sink.faults }
