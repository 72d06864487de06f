-- What an opening notes of the files that a run has open: a socket is no file.
use Rattle.std.specs.Prelude.{◌≡◌, false, Option}
use Rattle.file_ends.specs.declared.file_id.FileId.{FileId}
use Rattle.file_ends.specs.declared.file_source.FileSource.{FileSource}
use Rattle.file_ends.specs.declared.file_sink.FileSink.{FileSink}
use Rattle.file_ends.specs.Opened.{Opened, is_written, is_open, with_read, with_written}
use Rattle.file_ends.specs.Ends.{source_file, sink_file}
use Rattle.port_ends.specs.declared.port_source.PortSource.{PortSource}
use Rattle.port_ends.specs.declared.port_source.PortSource.TheVariants as source
use Rattle.port_ends.specs.declared.port_sink.PortSink.{PortSink}
use Rattle.port_ends.specs.declared.port_sink.PortSink.TheVariants as sink

-- the file of this source wasn't open to be written, and is open to be read now
abbrev pub IsSourceNoted : {S : Type 0} → Opened → Opened → PortSource FileSource S → Type 0
IsSourceNoted old new (source.File s) = (is_written old (source_file s) ≡ false) × (new ≡ with_read old (source_file s))
IsSourceNoted old new (source.Socket s) = new ≡ old

-- the file of this sink wasn't open, and is open to be written now
abbrev pub IsSinkNoted : {S : Type 0} → Opened → Opened → PortSink FileSink S → Type 0
IsSinkNoted old new (sink.File k) = (is_open old (sink_file k) ≡ false) × (new ≡ with_written old (sink_file k))
IsSinkNoted old new (sink.Socket k) = new ≡ old

-- the source was noted, and then the sink
abbrev pub AreEndsNoted : {S K : Type 0} → Opened → Opened → PortSource FileSource S → PortSink FileSink K → Type 0
AreEndsNoted old new s k = (between : Opened) × IsSourceNoted old between s × IsSinkNoted between new k

-- No ends were opened: no file was noted, or that of the source alone, which wasn't open to be written.
abbrev pub IsSourceAlone : Opened → Opened → Type 0
IsSourceAlone old new = (file : Option FileId) × (is_written old file ≡ false) × (new ≡ with_read old file)
