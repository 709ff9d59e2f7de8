-- The numbers of what can go wrong. `c/firuvaik.h` has their names.
use Rattle.std.specs.Prelude.{ℕ}
use Rattle.sigv4.specs.declared.error.SigningError.{SigningError}
use Rattle.sigv4.specs.declared.error.SigningError.TheVariants.{FailedToEncodeMessage, InvalidHeaderName, InvalidHeaderValue, InvalidTokenName, InvalidUri, MissingExpires, MissingHost, MomentOutOfRange, NoMemory}
use Rattle.sigv4.specs.declared.error.ValuePlace.{ValuePlace}
use Rattle.sigv4.specs.declared.error.ValuePlace.TheVariants.{Header, Host, Token, PayloadHash, Authorization}
use Rattle.eventstream.specs.Error.{error_kind}
use Rattle.eventstream.specs.declared.error.ErrorKind.{ErrorKind}
use Rattle.eventstream.specs.declared.error.ErrorKind.TheVariants.{HeadersTooLong, HeaderValueTooLong, InvalidHeaderNameLength, InvalidHeaderValue as BadValue, InvalidHeaderValueType, InvalidHeadersLength, InvalidMessageLength, InvalidUtf8String, MessageChecksumMismatch, MessageTooLong, PayloadTooLong, PreludeChecksumMismatch, TimestampValueTooLarge, NoMemory as NoRoom}
use Rattle.firuvaik_c.specs.declared.fault.Fault.{Fault}

-- the fault of a status, at a place
abbrev pub fault_numbered : ℕ → ℕ → Fault
fault_numbered status place = record { status = status; place = place }

-- memory ran out
abbrev pub no_memory : Fault
no_memory = fault_numbered 2 0

-- a text isn't UTF-8
abbrev pub not_text : Fault
not_text = fault_numbered 3 0

-- a flag is none of those that there are
abbrev pub unknown_flags : Fault
unknown_flags = fault_numbered 4 0

-- the moment lies outside the years 0 to 9999
abbrev pub beyond_years : Fault
beyond_years = fault_numbered 5 0

-- the target isn't accepted
abbrev pub bad_target : Fault
bad_target = fault_numbered 6 0

-- the fault of a text that is no header's value: a header's own, the host, the token, the payload's text, the authorization
abbrev pub value_fault : ValuePlace → Fault
value_fault (Header place) = fault_numbered 8 place
value_fault Host = fault_numbered 9 0
value_fault Token = fault_numbered 10 0
value_fault PayloadHash = fault_numbered 11 0
value_fault Authorization = fault_numbered 12 0

-- the fault of a message that has no frame, or of bytes that are none; those of an event that is no message share a number
abbrev pub frame_fault : ErrorKind → Fault
frame_fault NoRoom = no_memory
frame_fault InvalidHeaderNameLength = fault_numbered 20 0
frame_fault HeaderValueTooLong = fault_numbered 21 0
frame_fault (TimestampValueTooLarge moment) = fault_numbered 22 0
frame_fault HeadersTooLong = fault_numbered 23 0
frame_fault PayloadTooLong = fault_numbered 24 0
frame_fault MessageTooLong = fault_numbered 25 0
frame_fault BadValue = fault_numbered 31 0
frame_fault (InvalidHeaderValueType kind) = fault_numbered 32 0
frame_fault InvalidHeadersLength = fault_numbered 33 0
frame_fault InvalidMessageLength = fault_numbered 34 0
frame_fault InvalidUtf8String = fault_numbered 35 0
frame_fault (MessageChecksumMismatch computed carried) = fault_numbered 36 0
frame_fault (PreludeChecksumMismatch computed carried) = fault_numbered 37 0
frame_fault _ = fault_numbered 26 0

-- the fault of an error of signing; those that a request with a secret can't have share a number
abbrev pub fault_of_signing : SigningError → Fault
fault_of_signing NoMemory = no_memory
fault_of_signing (MomentOutOfRange moment) = beyond_years
fault_of_signing InvalidUri = bad_target
fault_of_signing (InvalidHeaderName place) = fault_numbered 7 place
fault_of_signing (InvalidHeaderValue place) = value_fault place
fault_of_signing MissingHost = fault_numbered 13 0
fault_of_signing InvalidTokenName = fault_numbered 14 0
fault_of_signing MissingExpires = fault_numbered 15 0
fault_of_signing (FailedToEncodeMessage error) = frame_fault (error_kind error)
fault_of_signing _ = fault_numbered 16 0
