-- What a source of a port tells: what the one inside does.
use Rattle.port_ends.specs.declared.port_source.PortSource.{PortSource}
use Rattle.port_ends.specs.declared.port_source.PortSource.TheVariants.{File, Socket}

abbrev pub of_source : {F S X : Type 0} → (F → X) → (S → X) → PortSource F S → X
of_source of_file of_socket (File source) = of_file source
of_source of_file of_socket (Socket source) = of_socket source
