-- What is kept of an error of the machine.
use Rattle.std.specs.Prelude.{◌≡◌, Some}
use Rattle.std.specs.IoError.{error_kind, raw_os_error}
use Rattle.std.specs.declared.io.Error.{Error}
use Rattle.std.specs.declared.io.ErrorKind.TheVariants.{BrokenPipe}
use Rattle.socket_net.specs.declared.faults.Fault.{Fault}
use Rattle.socket_net.specs.declared.faults.Fault.TheVariants.{Number, Kind, Closed}

-- what the fault says is so of the error
abbrev pub Tells : Fault → Error → Type 0
Tells (Number number) error = raw_os_error error ≡ Some number
Tells (Kind kind) error = error_kind error ≡ kind
Tells Closed error = error_kind error ≡ BrokenPipe
