-- What a caller asks for, as the layers below see it, and what of it can't be read.
use Rattle.std.specs.Prelude.{ℕ, ℤ, Bool, not, ◌==◌, ◌&&◌, ◌||◌, nat_lt, bit_and, List, [], ◌∷◌, map, Option, Some, None, if◌then◌else◌}
use Rattle.std.specs.List.{list_all}
use Rattle.std.specs.Option.{option_or}
use Rattle.std.specs.Str.{is_utf8}
use Rattle.sha2.specs.Sha256.{sha256}
use Rattle.hex.specs.Hex.{encode_lower}
use Rattle.smithy_core.specs.Civil.{is_in_years}
use Rattle.smithy_core.specs.Moment.{Instant}
use Rattle.smithy_core.specs.TextPairs.{lower}
use Rattle.smithy_http.specs.Target.{Target}
use Rattle.sigv4.specs.Request.{Case}
use Rattle.sigv4.specs.Settings.{Settings as SigningSettings, default_exclusions, default_settings}
use Rattle.sigv4.specs.declared.modes.PercentEncodingMode.TheVariants.{Double, Single}
use Rattle.sigv4.specs.declared.modes.UriPathNormalizationMode.TheVariants.{Enabled, Disabled}
use Rattle.sigv4.specs.declared.settings.PayloadChecksumKind.TheVariants.{NoHeader, XAmzSha256}
use Rattle.sigv4.specs.declared.settings.SessionTokenMode.TheVariants.{Include, Exclude}
use Rattle.sigv4.specs.declared.settings.SignatureLocation.TheVariants.{Headers, QueryParams}
use Rattle.firuvaik_c.specs.Faults.{beyond_years, not_text, unknown_flags}
use Rattle.firuvaik_c.specs.declared.fault.Fault.{Fault}
use Rattle.firuvaik_c.specs.declared.lent.Field.{Field}
use Rattle.firuvaik_c.specs.declared.lent.Request.{Request}
use Rattle.firuvaik_c.specs.declared.lent.Settings.{Settings}
use Rattle.firuvaik_c.specs.declared.lent.Signer.{Signer}

-- the flag is one of the sum
abbrev pub has_flag : ℕ → ℕ → Bool
has_flag flags flag = not (bit_and flags flag == 0)

-- the text, where there is one: a text of no bytes stands for none
abbrev pub given_text : List ℕ → Option (List ℕ)
given_text [] = None
given_text (byte ∷ text) = Some (byte ∷ text)

-- name and value as they are lent
abbrev pub lent_pair : Field → List ℕ × List ℕ
lent_pair field = (field.name.now, field.value.now)

-- a header as it is lent, its name in lower case
abbrev pub lent_header : Field → List ℕ × List ℕ
lent_header header = (lower header.name.now, header.value.now)

-- the names that aren't signed: those that are given, or the default ones
abbrev pub asked_exclusions : Settings → List (List ℕ)
asked_exclusions settings = if has_flag settings.flags 64 then map (λ name. name.bytes.now) settings.excluded.now else default_exclusions

-- for how long a signature is good; 0 stands for none
abbrev pub asked_expiry : ℕ → Option ℕ
asked_expiry seconds = if seconds == 0 then None else Some seconds

-- the settings of a service with these flags: of the others it has the usual ones
abbrev pub service_settings : ℕ → SigningSettings
service_settings flags = record default_settings {
  percent_encoding_mode = (if has_flag flags 2 then Single else Double);
  payload_checksum_kind = (if has_flag flags 8 then XAmzSha256 else NoHeader);
  uri_path_normalization_mode = (if has_flag flags 4 then Disabled else Enabled);
  session_token_mode = (if has_flag flags 16 then Exclude else Include);
}

-- the settings that flags, expiry and names stand for
abbrev pub lent_settings : Settings → SigningSettings
lent_settings settings = record (service_settings settings.flags) {
  signature_location = (if has_flag settings.flags 1 then QueryParams else Headers);
  expires_in = asked_expiry settings.expires_in;
  excluded_headers = Some (asked_exclusions settings);
  session_token_name_override = given_text settings.token_name.now;
}

-- the payload's text: the one that is given, or else the digest of the body
abbrev pub lent_payload : ℕ → List ℕ → List ℕ
lent_payload flags body = if has_flag flags 32 then body else encode_lower (sha256 body)

-- the moment of a second
abbrev pub moment_at : ℤ → Instant
moment_at seconds = record { secs = seconds; nanos = 0 }

-- the request that is to be signed, who signs it, and how, where its target has these parts
abbrev pub lent_case : Signer → Request → Settings → ℤ → Target → Case
lent_case signer request settings seconds target = record {
  method = request.method.now;
  target = target;
  headers = map lent_header request.headers.now;
  payload = lent_payload settings.flags request.body.now;
  settings = lent_settings settings;
  key_id = signer.key_id.now;
  token = given_text signer.token.now;
  signer = record { secret = signer.secret.now; region = signer.region.now; name = signer.service.now };
  at = moment_at seconds;
}

-- the fault of a text that isn't one
abbrev pub unless_utf8 : Bool → Option Fault
unless_utf8 is_text = if is_text then None else Some not_text

-- key id, secret and token are UTF-8
abbrev pub is_text_keys : Signer → Bool
is_text_keys signer = is_utf8 signer.key_id.now && is_utf8 signer.secret.now && is_utf8 signer.token.now

-- region, service, method and target are UTF-8
abbrev pub are_plain_texts : Signer → Request → Bool
are_plain_texts signer request =
    is_utf8 signer.region.now && is_utf8 signer.service.now && is_utf8 request.method.now && is_utf8 request.target.now

-- name and value are UTF-8
abbrev pub is_text_field : Field → Bool
is_text_field field = is_utf8 field.name.now && is_utf8 field.value.now

-- the body is UTF-8, where it is the payload's text
abbrev pub is_text_payload : ℕ → List ℕ → Bool
is_text_payload flags body = not (has_flag flags 32) || is_utf8 body

-- the token's name is UTF-8, and so are the names that aren't signed
abbrev pub is_text_settings : Settings → Bool
is_text_settings settings = is_utf8 settings.token_name.now && list_all (λ name. is_utf8 name.bytes.now) settings.excluded.now

-- all texts of what is asked for are UTF-8
abbrev pub are_texts : Signer → Request → Settings → Bool
are_texts signer request settings =
    are_plain_texts signer request && is_text_keys signer && list_all is_text_field request.headers.now
    && is_text_payload settings.flags request.body.now && is_text_settings settings

-- why nothing is read of a request: a flag that there isn't, a text that isn't one, or a moment outside the years 0 to 9999
abbrev pub unreadable : Signer → Request → Settings → ℤ → Option Fault
unreadable signer request settings seconds =
    if nat_lt 127 settings.flags then Some unknown_flags
    else option_or (unless_utf8 (are_texts signer request settings)) (if is_in_years (moment_at seconds) then None else Some beyond_years)
