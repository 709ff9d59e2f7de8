-- The first test that is met, of those of each step of the check.
use Rattle.std.proofs.Common.{◌≡◌, List, Some, Ok, Err, ℤ, inl, inr, refl, subst}
use Rattle.std.specs.Prelude.{string_bytes}
use Rattle.http_uri.specs.declared.uri.Uri.{Uri}
use Rattle.smithy_core.specs.declared.request.HttpRequest.{HttpRequest}
use Rattle.smithy_http.specs.QueryWriter.{ReadsTarget}
use Rattle.smithy_http.specs.Target.{target_of}
use Rattle.smithy_http.specs.declared.uri_fault.UriFault.{UriFault}
use Rattle.smithy_http.specs.declared.uri_fault.UriFault.TheVariants.{InvalidUri, NoMemory as NoRoom}
use Rattle.eventstream.specs.Key.{Signer}
use Rattle.sigv4.specs.Query.{Pair, decoded}
use Rattle.presign_check.specs.Faults.{presign_target_fault}
use Rattle.presign_check.specs.Parameters.{FindsParameters, PresignTexts, StandOnce, all_parts, first_count_fault, texts_read}
use Rattle.presign_check.specs.Presigned.{PresignInput, ChecksPresigned, HasTerms, IsByQuery, IsInTime, Reading, ReadsQueryForm, TestsSignature}
use Rattle.presign_check.specs.Terms.{ReadsTerms, TestsTerms, terms_read}
use Rattle.presign_check.specs.declared.fault.PresignFault.{PresignFault}
use Rattle.presign_check.specs.declared.parameters.Parameters.{Parameters}
use Rattle.presign_check.specs.declared.terms.Terms.{Terms}

-- the target isn't read
pub unread_query : (request : HttpRequest) (fault : UriFault) → ReadsTarget (string_bytes request.target) (Err fault)
    → ReadsQueryForm request (Err (presign_target_fault fault))
unread_query request InvalidUri none = inl (none, refl)
unread_query request NoRoom any = inr (inr refl)

-- those of the target and of the headers
pub no_query : (asked : PresignInput) (fault : PresignFault) → ReadsQueryForm asked.request (Err fault) → ChecksPresigned asked (Err fault)
no_query asked fault (inl none) = inl (inl none)
no_query asked fault (inr (inl header)) = inl (inr (inl header))
no_query asked fault (inr (inr room)) = inr room

-- those of the numbers of the parameters
pub miscounted : (asked : PresignInput) (uri : Uri) (fault : PresignFault) → IsByQuery asked.request uri
    → first_count_fault (decoded (target_of uri)) all_parts ≡ Some fault → ChecksPresigned asked (Err fault)
miscounted asked uri fault by_query counted = inl (inr (inr (inl (uri, by_query, counted))))

-- those of their forms
pub misformed : (asked : PresignInput) (uri : Uri) (texts : PresignTexts) (fault : PresignFault) → IsByQuery asked.request uri → StandOnce (decoded (target_of uri)) texts
    → ReadsTerms asked.signer.region asked.signer.name texts (Err fault) → ChecksPresigned asked (Err fault)
misformed asked uri texts fault by_query once (inl bad) = inl (inr (inr (inr (inl (uri, texts, record { by_query = by_query; once = once }, bad)))))
misformed asked uri texts fault by_query once (inr room) = inr room

-- those of the key and of the moment
pub mistimed : (asked : PresignInput) (reading : Reading) (fault : PresignFault) → HasTerms asked.request asked.signer reading
    → TestsTerms asked.key_id asked.now reading.terms (Err fault) → ChecksPresigned asked (Err fault)
mistimed asked reading fault has (inl other) = inl (inr (inr (inr (inr (inl (reading, has, other))))))
mistimed asked reading fault has (inr (inl (key, early))) = inl (inr (inr (inr (inr (inr (inl (reading, record { has = has; key = key }, early)))))))
mistimed asked reading fault has (inr (inr (key, begun, late))) =
    inl (inr (inr (inr (inr (inr (inr (inl (reading, record { has = has; key = key }, begun, late))))))))

in_time : (asked : PresignInput) (reading : Reading) (until : ℤ) → HasTerms asked.request asked.signer reading → TestsTerms asked.key_id asked.now reading.terms (Ok until) → IsInTime asked reading
in_time asked reading until has tested = record { own = record { has = has; key = tested.0 }; good = tested.1 }

-- those of the signature
pub missigned : (asked : PresignInput) (reading : Reading) (until : ℤ) (fault : PresignFault) → HasTerms asked.request asked.signer reading
    → TestsTerms asked.key_id asked.now reading.terms (Ok until)
    → TestsSignature asked.request asked.settings asked.payload asked.signer reading (Err fault) → ChecksPresigned asked (Err fault)
missigned asked reading until fault has timed (inl unfit) =
    inl (inr (inr (inr (inr (inr (inr (inr (inl (reading, in_time asked reading until has timed, unfit)))))))))
missigned asked reading until fault has timed (inr (inl forged)) =
    inl (inr (inr (inr (inr (inr (inr (inr (inr (reading, in_time asked reading until has timed, forged)))))))))
missigned asked reading until fault has timed (inr (inr room)) = inr room

-- and none
pub passes : (asked : PresignInput) (reading : Reading) (until : ℤ) → HasTerms asked.request asked.signer reading → TestsTerms asked.key_id asked.now reading.terms (Ok until)
    → TestsSignature asked.request asked.settings asked.payload asked.signer reading (Ok tt) → ChecksPresigned asked (Ok until)
passes asked reading until has timed genuine = (reading, in_time asked reading until has timed, genuine, timed.2)

-- ---- what was read

-- the reading of a target, of its parameters and of what these state
abbrev pub reading_of : Uri → Parameters → Terms → Reading
reading_of uri parameters terms = record { uri = uri; texts = texts_read parameters; terms = terms_read terms }

pub has_once : (uri : Uri) (pairs : List Pair) (parameters : Parameters) → pairs ≡ decoded (target_of uri) → FindsParameters pairs (Ok parameters)
    → StandOnce (decoded (target_of uri)) (texts_read parameters)
has_once uri pairs parameters same stand = subst (λ (all : List Pair). StandOnce all (texts_read parameters)) same stand

pub has_read : (request : HttpRequest) (signer : Signer) (uri : Uri) (pairs : List Pair) (parameters : Parameters) (terms : Terms) → IsByQuery request uri
    → pairs ≡ decoded (target_of uri) → FindsParameters pairs (Ok parameters) → ReadsTerms signer.region signer.name (texts_read parameters) (Ok terms)
    → HasTerms request signer (reading_of uri parameters terms)
has_read request signer uri pairs parameters terms by_query same stand stated =
    record { whole = record { by_query = by_query; once = has_once uri pairs parameters same stand }; stated = stated }
