-- Which file an end is over.
use Rattle.std.specs.Prelude.{Bool, false, Option, None}
use Rattle.file_ends.specs.declared.file_id.FileId.{FileId}
use Rattle.file_ends.specs.declared.file_source.FileSource.{FileSource}
use Rattle.file_ends.specs.declared.file_sink.FileSink.{FileSink}
use Rattle.file_ends.specs.declared.file_sink.Target.{Target}
use Rattle.file_ends.specs.declared.file_sink.Target.TheVariants.{File, Out, Err}

-- that of a source, where it is a regular one
abbrev pub source_file : FileSource → Option FileId
source_file source = source.id

abbrev pub target_file : Target → Option FileId
target_file (File output) = output.id
target_file (Out out) = None
target_file (Err err) = None

-- that of a sink, where it is a regular one
abbrev pub sink_file : FileSink → Option FileId
sink_file sink = target_file sink.target

abbrev pub is_old_target : Target → Bool
is_old_target (File output) = output.is_old
is_old_target (Out out) = false
is_old_target (Err err) = false

-- whether a sink is a regular file to which nothing was written since it was opened
abbrev pub is_untouched : FileSink → Bool
is_untouched sink = is_old_target sink.target
