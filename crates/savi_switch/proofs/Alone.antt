-- Where the second of two files isn't opened, that of the source alone is noted.
use Rattle.std.proofs.Common.{◌≡◌, refl, ◌∙◌, Option, None, Some, IfNone}
use Rattle.file_ends.specs.declared.file_source.FileSource.{FileSource}
use Rattle.file_ends.specs.Ends.{source_file}
use Rattle.file_ends.specs.Opened.{Opened}
use Rattle.port_ends.specs.declared.port_source.PortSource.{PortSource}
use Rattle.port_ends.specs.declared.port_source.PortSource.TheVariants as source
use Rattle.savi_switch.specs.Openings.{IsSourceNoted, IsSourceAlone}

source_alone : {S : Type 0} → (old between new : Opened) (s : PortSource FileSource S) → IsSourceNoted old between s → new ≡ between → IsSourceAlone old new
source_alone old between new (source.File s) noted same = (source_file s, noted.0, same ∙ noted.1)
source_alone old between new (source.Socket s) noted same = (None, refl, same ∙ noted)

pub none_alone : {S A : Type 0} → (answer : Option A) (old between new : Opened) (s : PortSource FileSource S) → IsSourceNoted old between s → new ≡ between → IfNone answer (IsSourceAlone old new)
none_alone None old between new s noted same = source_alone old between new s noted same
none_alone (Some x) old between new s noted same = tt
