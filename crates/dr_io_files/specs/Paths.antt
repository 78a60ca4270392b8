-- Which file a port goes to.
use Rattle.std.specs.Prelude.{Option, None, String}
use Rattle.std.specs.declared.alloc.Global.{Global}
use Rattle.dr_types.specs.declared.port.Port.{Port}
use Rattle.dr_types.specs.declared.port.Port.TheVariants.{Report, Stream, Image, Journal}
use Rattle.dr_io_files.specs.declared.opener.PortPaths.{PortPaths}

-- the path of a port, where it has one
abbrev pub path_of : Port → PortPaths → Option (String Global)
path_of Report paths = None
path_of Stream paths = paths.stream
path_of Image paths = paths.image
path_of Journal paths = paths.journal
