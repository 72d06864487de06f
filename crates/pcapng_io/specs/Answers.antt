-- What a reader answers to a block that was read, and where it stands behind it.
use Rattle.std.specs.Prelude.{ℕ, Option, Some, None}
use Rattle.pcapng_io.specs.declared.next.NgNext.{NgNext}
use Rattle.pcapng_io.specs.declared.next.NgNext.TheVariants as next
use Rattle.pcapng_io.specs.declared.block.BlockRead.{BlockRead}
use Rattle.pcapng_io.specs.declared.block.BlockRead.TheVariants as read
use Rattle.pcapng_io.specs.Blocks.{Section, Interface, Other, Standing, behind}

-- the answer to a block; none where it tells nothing
abbrev pub answer_to : BlockRead → Option NgNext
answer_to (read.Section order) = None
answer_to (read.Interface link units) = Some (next.Interface link)
answer_to (read.Frame interface stamp len) = Some (next.Frame interface stamp len)
answer_to (read.Long interface) = Some (next.Long interface)
answer_to read.Other = None

-- where the next block begins
abbrev pub behind_read : Standing → BlockRead → ℕ → Standing
behind_read s (read.Section order) size = behind s (Section order) size
behind_read s (read.Interface link units) size = behind s (Interface link units) size
behind_read s (read.Frame interface stamp len) size = behind s Other size
behind_read s (read.Long interface) size = behind s Other size
behind_read s read.Other size = behind s Other size
