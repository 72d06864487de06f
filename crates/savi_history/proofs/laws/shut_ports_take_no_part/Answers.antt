use Rattle.savi_history.proofs.Shutting.{dropped, long_dropped, no_frames, no_probes}
use Rattle.savi_history.proofs.laws.shut_ports_take_no_part.Goals as goal

pub returns : goal.returns
returns c = record {
  dropped = λ plan base past port stamp octets shut. dropped plan base past port stamp octets shut;
  long = λ plan base past port shut. long_dropped plan base past port shut;
  frames = λ plan base past port stamp octets q least shut. no_frames plan base past port stamp octets q least shut;
  probes = λ plan base past act octets q shut. no_probes plan base past act octets q shut;
}
