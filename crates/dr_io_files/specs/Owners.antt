-- Who has which file.
use Rattle.std.specs.Prelude.{Option}
use Rattle.dr_types.specs.declared.port.Port.TheVariants.{Report, Stream, Image, Journal}
use Rattle.dr_io_files.specs.declared.fault.Owner.{Owner}
use Rattle.dr_io_files.specs.declared.fault.Owner.TheVariants.{Input, Port}
use Rattle.dr_io_files.specs.declared.identity.FileIdentity.{FileIdentity}
use Rattle.dr_io_files.specs.declared.identity.OwnedFiles.{OwnedFiles}

-- the file of an owner, where it has one
abbrev pub file_of : Owner → OwnedFiles → Option FileIdentity
file_of Input owned = owned.input
file_of (Port Report) owned = owned.report
file_of (Port Stream) owned = owned.stream
file_of (Port Image) owned = owned.image
file_of (Port Journal) owned = owned.journal
