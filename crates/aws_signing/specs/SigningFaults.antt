-- The faults of the calls of this crate: those of the crates below, and its own.
use Rattle.std.specs.Prelude.{ℕ, List, ◌++◌, codes}
use Rattle.std.specs.Fmt.{decimal}
use Rattle.eventstream.specs.Error.{error_kind, error_kind_text}
use Rattle.eventstream.specs.declared.error.Error.{Error}
use Rattle.eventstream.specs.declared.error.ErrorKind.{ErrorKind}
use Rattle.eventstream.specs.declared.error.ErrorKind.TheVariants as kinds
use Rattle.sigv4.specs.Error.{error_text}
use Rattle.sigv4.specs.declared.error.SigningError.{SigningError}
use Rattle.sigv4.specs.declared.error.SigningError.TheVariants as signing
use Rattle.chain_watch.specs.ChainFault.{chain_fault_text}
use Rattle.chain_watch.specs.declared.chain_fault.ChainFault.{ChainFault}
use Rattle.chain_watch.specs.declared.chain_fault.ChainFault.TheVariants as chain
use Rattle.aws_chunked.specs.Announcement.{announce_fault_text}
use Rattle.aws_chunked.specs.declared.announcement.AnnounceFault.{AnnounceFault}
use Rattle.aws_chunked.specs.declared.announcement.AnnounceFault.TheVariants as announcing
use Rattle.aws_settings.specs.Faults.{settings_lack_text}
use Rattle.aws_settings.specs.declared.fault.SettingsFault.{SettingsFault}
use Rattle.aws_settings.specs.declared.fault.SettingsFault.TheVariants as settings
use Rattle.request_door.specs.DoorFaults.{door_fault_text}
use Rattle.request_door.specs.declared.fault.DoorFault.{DoorFault}
use Rattle.request_door.specs.declared.fault.DoorFault.TheVariants as door
use Rattle.aws_signing.specs.declared.fault.AwsSigningError.{AwsSigningError}
use Rattle.aws_signing.specs.declared.fault.AwsSigningError.TheVariants.{EmptyKeyId, EmptySecret, EmptyRegion, EmptyName, InvalidExpiry, AlreadyPresigned, Settings, InvalidChunkSize, DataTooLong, Unannounced, StreamTooLong, CutOff, Signing, Frame, Chain, Refused, NoMemory}

-- the fault of a signing that failed
abbrev pub of_signing : SigningError → AwsSigningError
of_signing signing.NoMemory = NoMemory
of_signing error = Signing error

-- the fault of bytes that are no frame, for this reason
abbrev pub of_encoding_for : ErrorKind → Error → AwsSigningError
of_encoding_for kinds.NoMemory error = NoMemory
of_encoding_for _ error = Frame error

-- the fault of bytes that are no frame
abbrev pub of_encoding : Error → AwsSigningError
of_encoding error = of_encoding_for (error_kind error) error

-- the fault of bytes that aren't a chain
abbrev pub of_chain : ChainFault → AwsSigningError
of_chain chain.NoMemory = NoMemory
of_chain fault = Chain fault

-- the fault of a request that isn't let in
abbrev pub of_door : DoorFault → AwsSigningError
of_door door.NoMemory = NoMemory
of_door fault = Refused fault

-- the fault where there is nothing to sign with
abbrev pub of_settings : SettingsFault → AwsSigningError
of_settings settings.NoMemory = NoMemory
of_settings fault = Settings fault

-- the fault of an upload that isn't announced
abbrev pub of_announcing : AnnounceFault → AwsSigningError
of_announcing announcing.NoMemory = NoMemory
of_announcing fault = Unannounced fault

-- what a fault is printed as
abbrev pub signing_fault_text : AwsSigningError → List ℕ
signing_fault_text EmptyKeyId = codes "the key id is empty"
signing_fault_text EmptySecret = codes "the secret is empty"
signing_fault_text EmptyRegion = codes "the region is empty"
signing_fault_text EmptyName = codes "the service's name is empty"
signing_fault_text (InvalidExpiry seconds) = codes "a URL is good for 1 to 604800 seconds, not for " ++ decimal seconds
signing_fault_text AlreadyPresigned = codes "the URL is presigned already"
signing_fault_text (Settings fault) = settings_lack_text fault
signing_fault_text (InvalidChunkSize size) = codes "a chunk has 1 to 4294967295 bytes, not " ++ decimal size
signing_fault_text DataTooLong = codes "the data is too long"
signing_fault_text (Unannounced fault) = announce_fault_text fault
signing_fault_text StreamTooLong = codes "the stream is too long"
signing_fault_text CutOff = codes "the stream ended within a frame"
signing_fault_text (Signing error) = error_text error
signing_fault_text (Frame error) = error_kind_text (error_kind error)
signing_fault_text (Chain fault) = chain_fault_text fault
signing_fault_text (Refused fault) = door_fault_text fault
signing_fault_text NoMemory = codes "no memory"
