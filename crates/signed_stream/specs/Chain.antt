-- The chain of events as it is written, and the first event that is refused.
use Rattle.std.specs.Prelude.{ℕ, ◌+◌, ◌-◌, if◌then◌else◌, List, [], ◌∷◌, take, Option, Some, None, option_map}
use Rattle.std.specs.List.{flat_map}
use Rattle.std.specs.Option.{option_or}
use Rattle.hex.specs.Hex.{encode_lower}
use Rattle.smithy_core.specs.Civil.{is_in_years}
use Rattle.smithy_core.specs.Moment.{Instant}
use Rattle.smithy_core.specs.Message.{Parts}
use Rattle.smithy_core.specs.Text.{line}
use Rattle.eventstream.specs.Frame.{frame, unframed}
use Rattle.eventstream.specs.Key.{Signer}
use Rattle.eventstream.specs.Link.{begun, chain, link_message, link_signature}
use Rattle.eventstream.specs.declared.error.ErrorKind.{ErrorKind}
use Rattle.eventstream.specs.declared.error.ErrorKind.TheVariants as reasons
use Rattle.signed_stream.specs.declared.form.Form.{Form}
use Rattle.signed_stream.specs.declared.form.Form.TheVariants.{Raw, HexLines}
use Rattle.signed_stream.specs.Status.{RunFault, moment_out_of_range, invalid_header_name_length, header_value_too_long, timestamp_value_too_large, headers_too_long, payload_too_long, message_too_long}

-- ## Frames

-- a frame: its bytes, or a line of hexadecimal
unfoldable pub frame_text : Form → List ℕ → List ℕ
frame_text Raw frame = frame
frame_text HexLines frame = line (encode_lower frame)

-- frames, one after the other
abbrev pub frames_text : Form → List (List ℕ) → List ℕ
frames_text form frames = flat_map (frame_text form) frames

-- the frame of signed bytes
unfoldable pub link_text : Form → Signer → List ℕ → List ℕ → Instant → List ℕ
link_text form signer signature bytes at = frame_text form (frame (link_message signer signature bytes at))

-- the chain of the events at their moments
unfoldable pub chain_text : Form → Signer → List Parts → List Instant → List ℕ → List ℕ
chain_text form signer events moments signature = frames_text form (chain signer events moments signature)

-- ## Refusals

-- the fault that says of a message at a place why it has no frame; the last reason is that the frame is too long
abbrev pub fault_at : ℕ → ErrorKind → RunFault
fault_at place reasons.InvalidHeaderNameLength = invalid_header_name_length place
fault_at place reasons.HeaderValueTooLong = header_value_too_long place
fault_at place (reasons.TimestampValueTooLarge moment) = timestamp_value_too_large place
fault_at place reasons.HeadersTooLong = headers_too_long place
fault_at place reasons.PayloadTooLong = payload_too_long place
fault_at place reason = message_too_long place

-- the message at a place has no frame
abbrev pub unframed_at : ℕ → Parts → Option RunFault
unframed_at place message = option_map (fault_at place) (unframed message)

-- the moment lies outside the years 0 to 9999
abbrev pub outside_years : Instant → Option RunFault
outside_years at = if is_in_years at then None else Some (moment_out_of_range at)

-- why an event isn't sent at its moment over the signature before it: it has no frame, or the moment lies outside the years 0 to 9999, or its signed message
-- has no frame
unfoldable pub unlinked : Signer → ℕ → List ℕ → Parts → Instant → Option RunFault
unlinked signer place signature event at =
    option_or (unframed_at place event)
    (option_or (outside_years at) (unframed_at place (link_message signer signature (frame event) at)))

-- an event that is refused, or the closing frame, whose place is the next; and why
pub record Refusal : Type 0 where
  pub place : ℕ
  pub fault : RunFault

abbrev pub refusal_at : ℕ → RunFault → Refusal
refusal_at place fault = record { place = place; fault = fault }

-- the first event that is refused at its moment, or else the closing frame, which is for its moment alone; places count from this one on
abbrev pub first_refusal : Signer → ℕ → List Parts → List Instant → List ℕ → Option Refusal
first_refusal signer place events [] signature = None
first_refusal signer place [] (at ∷ moments) signature = option_map (refusal_at place) (outside_years at)
first_refusal signer place (event ∷ events) (at ∷ moments) signature =
    option_or (option_map (refusal_at place) (unlinked signer place signature event at))
    (first_refusal signer (place + 1) events moments (link_signature signer signature (frame event) at))

-- the fault of a refusal
abbrev pub refusal_fault : Option Refusal → Option RunFault
refusal_fault refusal = option_map (λ r. r.fault) refusal

-- the frames before the one at a place
unfoldable pub text_before : Form → Signer → ℕ → List Parts → List Instant → List ℕ → List ℕ
text_before form signer place events moments signature = frames_text form (begun signer events (take (place - 1) moments) signature)

-- what is streamed: the chain, and where a frame is refused the frames before it
abbrev pub streamed_text : Form → Signer → List Parts → List Instant → List ℕ → Option Refusal → List ℕ
streamed_text form signer events moments signature None = chain_text form signer events moments signature
streamed_text form signer events moments signature (Some refusal) = text_before form signer refusal.place events moments signature
