-- What a link is signed by, and what is told of it.
use Rattle.std.proofs.Common.{◌≡◌, ◌⊎◌, ◌&&◌, ℕ, ℤ, Bool, true, ◌*◌, if◌then◌else◌, List, length, Option, Some, None, refl, ap, sym, ◌∙◌, option_map, inl, inr}
use Rattle.std.specs.Prelude.{Ok, Err}
use Rattle.std.specs.List.{list_all}
use Rattle.std.specs.Option.{option_or}
use Rattle.std.specs.Str.{is_utf8}
use Rattle.hex.proofs.HexLemmas.{length-encode_with}
use Rattle.hex.specs.Hex.{encode_lower, lower_digits}
use Rattle.mac_core.specs.Mac.{mac}
use Rattle.smithy_core.specs.Civil.{is_in_years}
use Rattle.smithy_core.specs.Moment.{Instant}
use Rattle.eventstream.proofs.LinkLemmas.{length-mac, length-link_code}
use Rattle.eventstream.specs.Key.{Signer}
use Rattle.eventstream.specs.Frame.{unframed}
use Rattle.eventstream.specs.Link.{link_message, link_signature}
use Rattle.eventstream.specs.declared.error.ErrorKind.{ErrorKind}
use Rattle.sigv4.specs.Chunk.{chunk_signature, trailer_signature}
use Rattle.sigv4.specs.EventStream.{failed_encoding}
use Rattle.sigv4.specs.Query.{Pair}
use Rattle.sigv4.specs.Refusal.{unfit_headers}
use Rattle.sigv4.specs.declared.error.SigningError.{SigningError}
use Rattle.sigv4.specs.declared.error.SigningError.TheVariants.{NoMemory}
use Rattle.firuvaik_c.specs.Asked.{is_text_field, moment_at, unless_utf8}
use Rattle.firuvaik_c.specs.Chunks.{lent_trailers, trailers_refusal}
use Rattle.firuvaik_c.specs.Events.{GivesLink, GivesNextFrame}
use Rattle.firuvaik_c.specs.Faults.{beyond_years, frame_fault, fault_of_signing}
use Rattle.firuvaik_c.specs.Links.{is_text_scope, key_signer, link_over, linkless}
use Rattle.firuvaik_c.specs.declared.answer.Made.{Made}
use Rattle.firuvaik_c.specs.declared.fault.Fault.{Fault}
use Rattle.firuvaik_c.specs.declared.lent.Field.{Field}
use Rattle.firuvaik_c.specs.declared.lent.Signer.{Signer as LentSigner}

-- an HMAC has 64 digits
pub length-digits : (key text : List ℕ) → length (encode_lower (mac key text)) ≡ 64
length-digits key text = length-encode_with lower_digits _ ∙ ap (λ n. 2 * n) (length-mac key text)

-- so has the signature of a frame
pub length-link_signature : (signer : Signer) (before bytes : List ℕ) (t : Instant) → length (link_signature signer before bytes t) ≡ 64
unfolding link_signature
length-link_signature signer before bytes t = length-encode_with lower_digits _ ∙ ap (λ n. 2 * n) (length-link_code signer before bytes t)

-- that of a chunk
pub length-chunk_signature : (chunk : List ℕ) (signer : Signer) (t : Instant) (before : List ℕ) → length (chunk_signature chunk signer t before) ≡ 64
unfolding chunk_signature
length-chunk_signature chunk signer t before = length-digits _ _

-- and that of trailers
pub length-trailer_signature : (trailers : List Pair) (signer : Signer) (t : Instant) (before : List ℕ) → length (trailer_signature trailers signer t before) ≡ 64
unfolding trailer_signature
length-trailer_signature trailers signer t before = length-digits _ _

-- why a message has no frame, as a number
pub encoding_fault : (reason : Option ErrorKind) (error : SigningError) → option_map failed_encoding reason ≡ Some error
    → option_map frame_fault reason ≡ Some (fault_of_signing error)
encoding_fault None error is = cc
encoding_fault (Some kind) error is = ap (option_map fault_of_signing) is

-- a link of equal parts
pub link_same : (signer : LentSigner) (seconds : ℤ) (before secret region name code : List ℕ) (at : Instant) → secret ≡ signer.secret.now → region ≡ signer.region.now
    → name ≡ signer.service.now → at ≡ moment_at seconds → code ≡ before
    → record { signer = record { secret = secret; region = region; name = name }; at = at; previous_signature = code } ≡ link_over signer seconds before
link_same signer seconds before secret region name code at key place service when same =
    λ i. record { signer = record { secret = key i; region = place i; name = service i }; at = when i; previous_signature = same i }

able_if : (scope code years : Bool) → scope ≡ true → code ≡ true → years ≡ true → option_or (unless_utf8 (scope && code)) (if years then None else Some beyond_years) ≡ None
able_if scope code years s c y = rw (s, c, y) refl

-- nothing is against a link of texts at a moment in the years
pub link_able : (signer : LentSigner) (seconds : ℤ) (before : List ℕ) → is_text_scope signer ≡ true → is_utf8 before ≡ true → is_in_years (moment_at seconds) ≡ true
    → linkless signer seconds before ≡ None
link_able signer seconds before scope code years = able_if (is_text_scope signer) (is_utf8 before) (is_in_years (moment_at seconds)) scope code years

none_first : (first second : Option Fault) → first ≡ None → option_or first second ≡ second
none_first None second is = refl
none_first (Some fault) second is = cc

-- the frame of a link is the next one
pub frame_made : (signer : LentSigner) (seconds : ℤ) (bytes before : List ℕ) (made : Made) → linkless signer seconds before ≡ None
    → GivesLink (link_message (key_signer signer) before bytes (moment_at seconds)) (link_signature (key_signer signer) before bytes (moment_at seconds)) made
    → GivesNextFrame signer seconds bytes before (Ok made)
frame_made signer seconds bytes before made able link = (
  none_first (linkless signer seconds before) (option_map frame_fault (unframed (link_message (key_signer signer) before bytes (moment_at seconds)))) able
      ∙ ap (option_map frame_fault) link.0,
  link.1,
  link.2,
)

-- and so is the reason why there is none
pub frame_refused : (signer : LentSigner) (seconds : ℤ) (bytes before : List ℕ) (error : SigningError) (fault : Fault) → linkless signer seconds before ≡ None
    → fault ≡ fault_of_signing error
    → (option_map failed_encoding (unframed (link_message (key_signer signer) before bytes (moment_at seconds))) ≡ Some error) ⊎ (error ≡ NoMemory)
    → GivesNextFrame signer seconds bytes before (Err fault)
frame_refused signer seconds bytes before error fault able is (inl refused) =
    let reason = unframed (link_message (key_signer signer) before bytes (moment_at seconds)) in
    inl (none_first (linkless signer seconds before) (option_map frame_fault reason) able ∙ encoding_fault reason error refused ∙ ap Some (sym is))
frame_refused signer seconds bytes before error fault able is (inr memory) = inr (is ∙ ap fault_of_signing memory)

unrefused_if : (texts : Bool) (unfit : Option SigningError) → texts ≡ true → unfit ≡ None → option_or (unless_utf8 texts) (option_map fault_of_signing unfit) ≡ None
unrefused_if texts unfit t u = rw (t, u) refl

-- nothing is against trailers that are headers
pub trailers_able : (signer : LentSigner) (seconds : ℤ) (trailers : List Field) (before : List ℕ) → linkless signer seconds before ≡ None
    → list_all is_text_field trailers ≡ true → unfit_headers 1 (lent_trailers trailers) ≡ None → trailers_refusal signer seconds trailers before ≡ None
trailers_able signer seconds trailers before able texts fit =
    none_first (linkless signer seconds before) _ able ∙ unrefused_if (list_all is_text_field trailers) (unfit_headers 1 (lent_trailers trailers)) texts fit
