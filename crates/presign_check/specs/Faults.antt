-- What a fault of a presigned request shows. The signature that was computed again is none of it: for whoever sent the request it is the right one.
use Rattle.std.specs.Prelude.{◌≡◌, ℕ, List, ◌++◌, codes, string_bytes}
use Rattle.std.specs.Fmt.{signed_decimal}
use Rattle.smithy_http.specs.declared.uri_fault.UriFault.{UriFault}
use Rattle.smithy_http.specs.declared.uri_fault.UriFault.TheVariants as target
use Rattle.sigv4.specs.Error.{IsSameError, error_text}
use Rattle.sigv4.specs.declared.error.SigningError.TheVariants.{InvalidUri}
use Rattle.presign_check.specs.Parameters.{parameter_name}
use Rattle.presign_check.specs.declared.fault.PresignFault.{PresignFault}
use Rattle.presign_check.specs.declared.fault.PresignFault.TheVariants.{HeaderForm, Missing, Repeated, BadPart, UnknownKey, TooEarly, Expired, Mismatch, Signing, NoMemory}
use Rattle.presign_check.specs.declared.part.PresignPart.{PresignPart}
use Rattle.presign_check.specs.declared.part.PresignPart.TheVariants.{Algorithm, Credential, Date, Expires, SignedHeaders, Signature}

-- the name of a part
abbrev pub part_name : PresignPart → List ℕ
part_name Algorithm = codes "Algorithm"
part_name Credential = codes "Credential"
part_name Date = codes "Date"
part_name Expires = codes "Expires"
part_name SignedHeaders = codes "SignedHeaders"
part_name Signature = codes "Signature"

-- what a fault of a presigned request is printed as
abbrev pub presign_fault_text : PresignFault → List ℕ
presign_fault_text HeaderForm = codes "authorization header"
presign_fault_text (Missing part) = codes "missing " ++ parameter_name part
presign_fault_text (Repeated part) = codes "repeated " ++ parameter_name part
presign_fault_text (BadPart part) = codes "invalid " ++ parameter_name part
presign_fault_text UnknownKey = codes "unknown key"
presign_fault_text (TooEarly date) = codes "not valid before " ++ signed_decimal date
presign_fault_text (Expired until) = codes "not valid from " ++ (signed_decimal until ++ codes " on")
presign_fault_text (Mismatch carried recomputed) = codes "another signature than its own"
presign_fault_text (Signing error) = error_text error
presign_fault_text NoMemory = codes "no memory"

-- and shown as, for whoever looks for a mistake
abbrev pub presign_fault_shown : PresignFault → List ℕ
presign_fault_shown HeaderForm = codes "HeaderForm"
presign_fault_shown (Missing part) = codes "Missing(" ++ (part_name part ++ codes ")")
presign_fault_shown (Repeated part) = codes "Repeated(" ++ (part_name part ++ codes ")")
presign_fault_shown (BadPart part) = codes "BadPart(" ++ (part_name part ++ codes ")")
presign_fault_shown UnknownKey = codes "UnknownKey"
presign_fault_shown (TooEarly date) = codes "TooEarly { date: " ++ (signed_decimal date ++ codes " }")
presign_fault_shown (Expired until) = codes "Expired { until: " ++ (signed_decimal until ++ codes " }")
presign_fault_shown (Mismatch carried recomputed) = codes "Mismatch { .. }"
presign_fault_shown (Signing error) = codes "Signing(" ++ (error_text error ++ codes ")")
presign_fault_shown NoMemory = codes "NoMemory"

-- the faults are the same, and so are the texts that they hold
abbrev pub IsSamePresignFault : PresignFault → PresignFault → Type 0
IsSamePresignFault (Mismatch carried recomputed) (Mismatch carried_copy recomputed_copy) =
    (string_bytes carried_copy ≡ string_bytes carried) × (string_bytes recomputed_copy ≡ string_bytes recomputed)
IsSamePresignFault (Signing error) (Signing copy) = IsSameError error copy
IsSamePresignFault fault copy = copy ≡ fault

-- the fault of a target that isn't read
abbrev pub presign_target_fault : UriFault → PresignFault
presign_target_fault target.InvalidUri = Signing InvalidUri
presign_target_fault target.NoMemory = NoMemory
