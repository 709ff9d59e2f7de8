-- The faults that calls below return, as those of the tool.
use Rattle.sigv4.specs.declared.error.SigningError.{SigningError}
use Rattle.sigv4.specs.declared.error.SigningError.TheVariants.{NoMemory as SignedNoMemory}
use Rattle.awsign_run.specs.declared.fault.Fault.{Fault}
use Rattle.awsign_run.specs.declared.fault.Fault.TheVariants.{Signing, NoMemory}

-- the fault of a request that isn't signed
abbrev pub signing_fault : SigningError → Fault
signing_fault SignedNoMemory = NoMemory
signing_fault error = Signing error
