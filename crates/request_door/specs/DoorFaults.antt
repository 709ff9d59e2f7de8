-- What a fault of a service's door is printed as. It holds no text of the request's, and no signature.
use Rattle.std.specs.Prelude.{ℕ, ℤ, List, ◌++◌, codes}
use Rattle.std.specs.Fmt.{signed_decimal}
use Rattle.presign_check.specs.Parameters.{parameter_name}
use Rattle.smithy_http.specs.declared.uri_fault.UriFault.{UriFault}
use Rattle.smithy_http.specs.declared.uri_fault.UriFault.TheVariants as target
use Rattle.request_door.specs.declared.fault.DoorFault.{DoorFault}
use Rattle.request_door.specs.declared.fault.DoorFault.TheVariants.{InvalidTarget, InvalidHeader, BothForms, NoForm, Missing, Repeated, OtherAlgorithm, Malformed, BadDate, BadCredential, OtherService, OtherRegion, OtherDay, BadExpiry, LongExpiry, TooManyNames, BadNames, AbsentHeader, UnsignedHost, UnsignedHeader, TooEarly, TooLate, RepeatedPayload, BadPayload, UnknownKey, OtherPayload, Mismatch, NoMemory}

-- what a fault is printed as
abbrev pub door_fault_text : DoorFault → List ℕ
door_fault_text InvalidTarget = codes "the target isn't accepted"
door_fault_text InvalidHeader = codes "a header or the host isn't fit for signing"
door_fault_text BothForms = codes "a signature in headers and in parameters"
door_fault_text NoForm = codes "no signature"
door_fault_text (Missing part) = codes "missing " ++ parameter_name part
door_fault_text (Repeated part) = codes "repeated " ++ parameter_name part
door_fault_text OtherAlgorithm = codes "another algorithm"
door_fault_text Malformed = codes "a malformed signature"
door_fault_text BadDate = codes "the date is no date"
door_fault_text BadCredential = codes "a malformed credential"
door_fault_text OtherService = codes "a credential for another service"
door_fault_text OtherRegion = codes "a credential for another region"
door_fault_text OtherDay = codes "a credential of another day"
door_fault_text BadExpiry = codes "the expiry is no number"
door_fault_text LongExpiry = codes "an expiry over the limit"
door_fault_text TooManyNames = codes "too many signed headers"
door_fault_text BadNames = codes "the signed headers aren't in order"
door_fault_text AbsentHeader = codes "a signed header isn't there"
door_fault_text UnsignedHost = codes "the host isn't signed"
door_fault_text UnsignedHeader = codes "a header isn't signed"
door_fault_text TooEarly = codes "too early"
door_fault_text TooLate = codes "too late"
door_fault_text RepeatedPayload = codes "repeated x-amz-content-sha256"
door_fault_text BadPayload = codes "invalid x-amz-content-sha256"
door_fault_text UnknownKey = codes "unknown key"
door_fault_text OtherPayload = codes "another payload"
door_fault_text Mismatch = codes "another signature than its own"
door_fault_text NoMemory = codes "no memory"

-- the fault of a target that isn't read
abbrev pub door_target_fault : UriFault → DoorFault
door_target_fault target.InvalidUri = InvalidTarget
door_target_fault target.NoMemory = NoMemory

-- what is printed of an admitted request: the second in which its time ends, and nothing else
abbrev pub shown_admitted : ℤ → List ℕ
shown_admitted until = codes "Admitted(until " ++ (signed_decimal until ++ codes ")")
