-- How a body in chunks is announced in the headers of its request (Amazon S3, "Signature calculations for the Authorization header:
-- transferring payload in multiple chunks", and "Checking object integrity": trailing checksums).
use Rattle.std.specs.Prelude.{◌≡◌, ◌⊎◌, ℕ, ◌+◌, ◌==◌, ◌^◌, Bool, true, false, List, [], ◌∷◌, ◌++◌, codes, length, map, nat_lt, Option, Some, None, Result, Ok, Err, String, string_bytes, if◌then◌else◌}
use Rattle.std.specs.Fmt.{decimal}
use Rattle.std.specs.List.{join_with_byte}
use Rattle.std.specs.Option.{option_or}
use Rattle.std.specs.declared.alloc.Global.{Global}
use Rattle.smithy_core.specs.TextPairs.{inserted}
use Rattle.aws_chunked.specs.Body.{Trailer, actual_length}
use Rattle.aws_chunked.specs.Options.{Options, counted, declared_length, encoded_length, options_of}
use Rattle.aws_chunked.specs.Signing.{has_signature}
use Rattle.aws_chunked.specs.declared.announcement.AnnounceFault.{AnnounceFault}
use Rattle.aws_chunked.specs.declared.announcement.AnnounceFault.TheVariants.{Disabled, NoMemory, TooLong, TrailerLengths}

-- how long `name:value` is, counted up to the greatest number
abbrev pub trailer_length : Trailer → ℕ
trailer_length trailer = counted (length trailer.0 + length trailer.1 + 1)

-- how long each trailer is, and the 88 bytes of `x-amz-trailer-signature:` and 64 digits, where they have a signature
abbrev pub declared_lengths : Bool → List Trailer → List ℕ
declared_lengths is_signed trailers = map trailer_length trailers ++ (if has_signature is_signed trailers then 88 ∷ [] else [])

-- the options of a body with these trailers, signed or not
abbrev pub options_for : ℕ → List Trailer → Bool → Options
options_for stream_length trailers is_signed = record (options_of stream_length (declared_lengths is_signed trailers)) { is_signed = is_signed }

-- what a request is signed over in place of its body: the word for signed chunks with trailers, for signed ones without, or for unsigned ones
abbrev pub announced_payload : Bool → List Trailer → List ℕ
announced_payload is_signed trailers =
    if has_signature is_signed trailers then codes "STREAMING-AWS4-HMAC-SHA256-PAYLOAD-TRAILER"
    else if is_signed then codes "STREAMING-AWS4-HMAC-SHA256-PAYLOAD"
    else codes "STREAMING-UNSIGNED-PAYLOAD-TRAILER"

-- the names of the trailers, with `,` between
abbrev pub trailer_names : List Trailer → List ℕ
trailer_names trailers = join_with_byte 44 (map (λ trailer. trailer.0) trailers)

-- headers with the names of the trailers, where there are some
abbrev pub with_trailer_names : List Trailer → List Trailer → List Trailer
with_trailer_names [] headers = headers
with_trailer_names (trailer ∷ trailers) headers = inserted headers (codes "x-amz-trailer") (trailer_names (trailer ∷ trailers))

-- headers that announce the body of these options, with these trailers
unfoldable pub announced_headers : Options → List Trailer → List Trailer → List Trailer
announced_headers options trailers headers =
    let encoded = headers ++ (codes "content-encoding", codes "aws-chunked") ∷ [] in
    let decoded = inserted encoded (codes "x-amz-decoded-content-length") (decimal options.stream_length) in
    with_trailer_names trailers (inserted decoded (codes "content-length") (decimal (encoded_length options)))

-- the fault of an encoding that is off
abbrev pub unless_enabled : Bool → Option AnnounceFault
unless_enabled disabled = if disabled then Some Disabled else None

-- the fault of trailers whose lines, counted up to the greatest number, are in all longer or shorter than declared
abbrev pub unless_same : ℕ → ℕ → Option AnnounceFault
unless_same actual expected = if actual == expected then None else Some (TrailerLengths actual expected)

-- the fault of a length that doesn't fit 64 bits
abbrev pub unless_fitting : ℕ → Option AnnounceFault
unless_fitting n = if nat_lt n (2 ^ 64) then None else Some TooLong

-- the first reason why the body of these options isn't announced with these trailers
unfoldable pub unannounced : Options → List Trailer → Option AnnounceFault
unannounced options trailers =
    option_or (unless_enabled options.disabled) (option_or
    (unless_same (counted (actual_length options.is_signed trailers)) (counted (declared_length options.trailer_lengths)))
    (unless_fitting (encoded_length options)))

-- with no reason against it the headers announce the body, and the answer is what the request is signed over; else it is the first,
-- or memory ran out
abbrev pub Announces : Options → List Trailer → List Trailer → List Trailer → Result (String Global) AnnounceFault → Type 0
Announces options trailers old new (Ok payload) =
    (unannounced options trailers ≡ None) × (new ≡ announced_headers options trailers old) × (string_bytes payload ≡ announced_payload options.is_signed trailers)
Announces options trailers old new (Err fault) = (unannounced options trailers ≡ Some fault) ⊎ (fault ≡ NoMemory)

-- the length of the text, or the first reason against it
abbrev pub IsAnnouncedLength : Options → List Trailer → Result ℕ AnnounceFault → Type 0
IsAnnouncedLength options trailers (Ok n) = (unannounced options trailers ≡ None) × (n ≡ encoded_length options)
IsAnnouncedLength options trailers (Err fault) = unannounced options trailers ≡ Some fault

-- a name, behind `,` where it isn't the first
abbrev pub next_trailer_name : Bool → List ℕ → List ℕ
next_trailer_name true name = name
next_trailer_name false name = 44 ∷ name

-- the names to come, each behind `,` but the first of all
abbrev pub names_to_come : Bool → List (List ℕ) → List ℕ
names_to_come is_first [] = []
names_to_come is_first (name ∷ names) = next_trailer_name is_first name ++ names_to_come false names

-- what is printed of a fault
abbrev pub announce_fault_text : AnnounceFault → List ℕ
announce_fault_text Disabled = codes "the encoding in chunks is off"
announce_fault_text (TrailerLengths actual expected) =
    codes "the trailers have " ++ (decimal actual ++ (codes " bytes, not the " ++ (decimal expected ++ codes " that were declared")))
announce_fault_text TooLong = codes "the text in chunks is longer than 64 bits count"
announce_fault_text NoMemory = codes "no memory"
