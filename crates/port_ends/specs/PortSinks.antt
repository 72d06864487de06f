-- What a sink of a port tells: what the one inside does.
use Rattle.port_ends.specs.declared.port_sink.PortSink.{PortSink}
use Rattle.port_ends.specs.declared.port_sink.PortSink.TheVariants.{File, Socket}

abbrev pub of_sink : {F S X : Type 0} → (F → X) → (S → X) → PortSink F S → X
of_sink of_file of_socket (File sink) = of_file sink
of_sink of_file of_socket (Socket sink) = of_socket sink
