-- The errors of Amazon S3 that the faults of a service's door are (its "List of error codes", and OpenStack Swift's implementation of S3): a name and an HTTP
-- status.
use Rattle.std.specs.Prelude.{ℕ, List, codes}
use Rattle.presign_check.specs.declared.part.PresignPart.TheVariants.{Date}
use Rattle.request_door.specs.declared.fault.DoorFault.{DoorFault}
use Rattle.request_door.specs.declared.fault.DoorFault.TheVariants.{InvalidTarget, InvalidHeader, BothForms, NoForm, Missing, Repeated, OtherAlgorithm, Malformed, BadDate, BadCredential, OtherService, OtherRegion, OtherDay, BadExpiry, LongExpiry, TooManyNames, BadNames, AbsentHeader, UnsignedHost, UnsignedHeader, TooEarly, TooLate, RepeatedPayload, BadPayload, UnknownKey, OtherPayload, Mismatch, NoMemory}

-- an error's name and its HTTP status
pub record ErrorEntry : Type 0 where
  pub name : List ℕ
  pub status : ℕ

-- one of these
abbrev pub entry : List ℕ → ℕ → ErrorEntry
entry name status = record { name = name; status = status }

-- the error that a fault is
abbrev pub error_entry : DoorFault → ErrorEntry
error_entry InvalidTarget = entry (codes "InvalidURI") 400
error_entry InvalidHeader = entry (codes "InvalidRequest") 400
error_entry BothForms = entry (codes "InvalidArgument") 400
error_entry NoForm = entry (codes "AccessDenied") 403
error_entry (Missing Date) = entry (codes "AccessDenied") 403
error_entry (Missing part) = entry (codes "AuthorizationQueryParametersError") 400
error_entry (Repeated Date) = entry (codes "AccessDenied") 403
error_entry (Repeated part) = entry (codes "AuthorizationQueryParametersError") 400
error_entry OtherAlgorithm = entry (codes "InvalidRequest") 400
error_entry Malformed = entry (codes "AuthorizationHeaderMalformed") 400
error_entry BadDate = entry (codes "AccessDenied") 403
error_entry BadCredential = entry (codes "AuthorizationHeaderMalformed") 400
error_entry OtherService = entry (codes "AuthorizationHeaderMalformed") 400
error_entry OtherRegion = entry (codes "AuthorizationHeaderMalformed") 400
error_entry OtherDay = entry (codes "AuthorizationHeaderMalformed") 400
error_entry BadExpiry = entry (codes "AuthorizationQueryParametersError") 400
error_entry LongExpiry = entry (codes "AuthorizationQueryParametersError") 400
error_entry TooManyNames = entry (codes "AuthorizationHeaderMalformed") 400
error_entry BadNames = entry (codes "AuthorizationHeaderMalformed") 400
error_entry AbsentHeader = entry (codes "SignatureDoesNotMatch") 403
error_entry UnsignedHost = entry (codes "AccessDenied") 403
error_entry UnsignedHeader = entry (codes "AccessDenied") 403
error_entry TooEarly = entry (codes "RequestTimeTooSkewed") 403
error_entry TooLate = entry (codes "RequestTimeTooSkewed") 403
error_entry RepeatedPayload = entry (codes "InvalidArgument") 400
error_entry BadPayload = entry (codes "InvalidArgument") 400
error_entry UnknownKey = entry (codes "InvalidAccessKeyId") 403
error_entry OtherPayload = entry (codes "XAmzContentSHA256Mismatch") 400
error_entry Mismatch = entry (codes "SignatureDoesNotMatch") 403
error_entry NoMemory = entry (codes "InternalError") 500
