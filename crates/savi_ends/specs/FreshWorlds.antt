-- A world in memory from which nothing was opened.
use Rattle.std.specs.Prelude.{◌≡◌, ℕ, IsSome, IsSomeAnd, All}
use Rattle.savi_ends.specs.declared.mem_source.MemSource.{MemSource}
use Rattle.savi_ends.specs.declared.mem_sink.MemSink.{MemSink}
use Rattle.savi_ends.specs.declared.mem_world.MemWorld.{MemWorld}
use Rattle.savi_ends.specs.Places.{BothFresh}
use Rattle.savi_ends.specs.MemSources.{source_state}
use Rattle.savi_ends.specs.MemSinks.{sink_state}

abbrev pub source_faults : MemSource → ℕ
source_faults s = (source_state s).faults

abbrev pub sink_faults : MemSink → ℕ
sink_faults k = (sink_state k).faults

-- each place holds an end without a fault, and no opening was tried or has failed
pub record IsFreshWorld (w : MemWorld) : Type 0 where
  pub inputs : All (λ p. IsSomeAnd p.1 (λ s. source_faults s ≡ 0)) w.inputs.items
  pub outputs : All (λ p. IsSomeAnd p.1 (λ k. sink_faults k ≡ 0)) w.outputs.items
  pub ports : All (λ p. IsSomeAnd p.1 (BothFresh source_faults sink_faults)) w.ports.items
  pub control : IsSomeAnd w.control (BothFresh source_faults sink_faults)
  pub ticker : IsSome w.ticker
  pub out : IsSomeAnd w.out (λ k. sink_faults k ≡ 0)
  pub err : IsSomeAnd w.err (λ k. sink_faults k ≡ 0)
  pub opened : w.opened ≡ 0
  pub faulty : w.faulty ≡ 0
