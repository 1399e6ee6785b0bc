-- Why a file cannot be read, by the kind of the system's error.
use Rattle.std.specs.declared.io.ErrorKind.{ErrorKind}
use Rattle.std.specs.declared.io.ErrorKind.TheVariants as kind
use Rattle.arcwcet.specs.declared.fault.FileFault.{FileFault}
use Rattle.arcwcet.specs.declared.fault.FileFault.TheVariants.{NotFound, PermissionDenied}
use Rattle.arcwcet.specs.declared.fault.FileFault.TheVariants.{IsADirectory, Other}

abbrev pub file_fault_of : ErrorKind → FileFault
file_fault_of kind.NotFound = NotFound
file_fault_of kind.PermissionDenied = PermissionDenied
file_fault_of kind.IsADirectory = IsADirectory
file_fault_of _ = Other
