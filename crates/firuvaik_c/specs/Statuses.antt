-- What the statuses mean.
use Rattle.std.specs.Prelude.{ℕ, ◌==◌, ◌&&◌, nat_le, codes, List, if◌then◌else◌}

-- the statuses of requests and signatures
abbrev pub request_status : ℕ → List ℕ
request_status n =
    if n == 0 then codes "all was written"
    else if n == 1 then codes "more room is wanted"
    else if n == 2 then codes "memory ran out"
    else if n == 3 then codes "a text isn't UTF-8"
    else if n == 4 then codes "a flag is none that there is"
    else if n == 5 then codes "the moment lies outside the years 0 to 9999"
    else if n == 6 then codes "the target isn't accepted"
    else if n == 7 then codes "the name of a header isn't accepted"
    else if n == 8 then codes "the value of a header isn't accepted"
    else if n == 9 then codes "the host is no header's value"
    else if n == 10 then codes "the session token is no header's value"
    else if n == 11 then codes "the payload's text is no header's value"
    else if n == 12 then codes "key id, region or service can't stand in a header"
    else if n == 13 then codes "there is no host"
    else if n == 14 then codes "the session token can't have this name"
    else if n == 15 then codes "there is no expiry"
    else codes "there is no such status"

-- the statuses of frames and their headers
abbrev pub frame_status : ℕ → List ℕ
frame_status n =
    if n == 20 then codes "the name of a message's header is too long"
    else if n == 21 then codes "the value of a message's header is too long"
    else if n == 23 then codes "the headers of a message are too long"
    else if n == 24 then codes "the payload of a message is too long"
    else if n == 25 then codes "the frame is too long"
    else if n == 30 then codes "more bytes are wanted"
    else if n == 31 then codes "the value of a message's header passes the bytes that are there"
    else if n == 32 then codes "a message's header has a kind that there isn't"
    else if n == 33 then codes "the length of the headers isn't one"
    else if n == 34 then codes "the length of the frame isn't one, or its bytes aren't all there"
    else if n == 35 then codes "a name or a text in the frame isn't UTF-8"
    else if n == 36 then codes "the checksum of the frame is another one"
    else if n == 37 then codes "the checksum of the prelude is another one"
    else if n == 40 then codes "there is no such kind of value"
    else if n == 41 then codes "the number doesn't fit its kind"
    else if n == 42 then codes "a UUID has 16 bytes"
    else if n == 50 then codes "bytes follow the frame"
    else if n == 51 then codes "the frame's headers aren't those of a signed one"
    else if n == 52 then codes "the frame's date is no whole second in the years 0 to 9999"
    else if n == 53 then codes "the frame's payload is neither empty nor an event's frame"
    else if n == 54 then codes "the frame has another signature than the one that it carries"
    else codes "there is no such status"

-- the statuses of a service's door
abbrev pub door_status : ℕ → List ℕ
door_status n =
    if n == 60 then codes "a header or the host isn't fit for signing"
    else if n == 61 then codes "a signature in headers and in the query"
    else if n == 62 then codes "no signature"
    else if n == 63 then codes "a part of the signature is missing"
    else if n == 64 then codes "a part of the signature is repeated"
    else if n == 65 then codes "another algorithm"
    else if n == 66 then codes "a malformed signature"
    else if n == 67 then codes "the date is no date"
    else if n == 68 then codes "a malformed credential"
    else if n == 69 then codes "a credential for another service"
    else if n == 70 then codes "a credential for another region"
    else if n == 71 then codes "a credential of another day"
    else if n == 72 then codes "the expiry is no number"
    else if n == 73 then codes "an expiry over the limit"
    else if n == 74 then codes "too many signed headers"
    else if n == 75 then codes "the names of the signed headers aren't in order"
    else if n == 76 then codes "a signed header isn't there"
    else if n == 77 then codes "the host isn't signed"
    else if n == 78 then codes "a header that has to be signed isn't"
    else if n == 79 then codes "too early"
    else if n == 80 then codes "too late"
    else if n == 81 then codes "x-amz-content-sha256 is repeated"
    else if n == 82 then codes "x-amz-content-sha256 is neither a digest nor a known word"
    else if n == 83 then codes "the key isn't known"
    else if n == 84 then codes "the body has another digest than the one that is shown"
    else if n == 85 then codes "the request has another signature than the one that it carries"
    else codes "there is no such status"

-- the statuses of settings
abbrev pub settings_status : ℕ → List ℕ
settings_status n =
    if n == 90 then codes "a line of the config text isn't one of a profile file"
    else if n == 91 then codes "a line of the credentials text isn't one of a profile file"
    else if n == 92 then codes "no variable and no profile has a key"
    else if n == 93 then codes "AWS_ACCESS_KEY_ID is set and AWS_SECRET_ACCESS_KEY isn't"
    else if n == 94 then codes "no variable and no profile has a region"
    else codes "there is no such status"

-- what a status means
abbrev pub status_text : ℕ → List ℕ
status_text n =
    if nat_le n 19 then request_status n
    else if nat_le 20 n && nat_le n 59 then frame_status n
    else if nat_le 60 n && nat_le n 89 then door_status n
    else if nat_le 90 n && nat_le n 99 then settings_status n
    else codes "there is no such status"
