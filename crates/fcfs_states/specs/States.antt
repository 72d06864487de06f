-- What the state of an address says of ports: where it is sound, live and held (RFC 6620 section 3.2).
use Rattle.std.specs.Prelude.{◌≡◌, ◌⊎◌}
use Rattle.savi_kinds.specs.declared.port.Port.{Port}
use Rattle.savi_kinds.specs.Ports.{number_of}
use Rattle.fcfs_states.specs.declared.state.Fcfs.{Fcfs}
use Rattle.fcfs_states.specs.declared.state.Fcfs.TheVariants.{NoBind, Tentative, Valid, TestLt, TestVp}

-- two ports are one
abbrev pub Same : Port → Port → Type 0
Same p q = number_of p ≡ number_of q

-- a port that claims an address while its holder is tested isn't the holder
abbrev pub IsSound : Fcfs → Type 0
IsSound NoBind = Unit {0}
IsSound (Tentative p since two) = Unit {0}
IsSound (Valid p until) = Unit {0}
IsSound (TestLt p since two) = Unit {0}
IsSound (TestVp p q since two) = ¬ Same p q

-- the address is live at the port: bound to it, or under a test as its holder
abbrev pub IsLive : Fcfs → Port → Type 0
IsLive NoBind port = ⊥
IsLive (Tentative p since two) port = ⊥
IsLive (Valid p until) port = Same p port
IsLive (TestLt p since two) port = Same p port
IsLive (TestVp p q since two) port = Same p port

-- the port holds the address: it has a state there, or the port claims it
abbrev pub IsHeld : Fcfs → Port → Type 0
IsHeld NoBind port = ⊥
IsHeld (Tentative p since two) port = Same p port
IsHeld (Valid p until) port = Same p port
IsHeld (TestLt p since two) port = Same p port
IsHeld (TestVp p q since two) port = Same p port ⊎ Same q port
