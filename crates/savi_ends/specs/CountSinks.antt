-- A sink that only counts.
use Rattle.std.specs.Prelude.{ℕ}
use Rattle.savi_ends.specs.declared.count_sink.CountSink.{CountSink}

-- how many octets were written
abbrev pub count_of : CountSink → ℕ
count_of s = s.count
