-- What an admitted request is signed over.
use Rattle.std.specs.Prelude.{◌≡◌, ℕ, true, List, bytes_eq, codes, Some, string_bytes}
use Rattle.std.specs.List.{flat_map, list_all, list_any}
use Rattle.http_uri.specs.declared.uri.Uri.{Uri}
use Rattle.smithy_http.specs.QueryWriter.{SpellsTarget}
use Rattle.smithy_http.specs.Target.{target_of}
use Rattle.sigv4.specs.Canonical.{canonical_lines, header_line, hosted_headers}
use Rattle.sigv4.specs.Path.{canonical_path}
use Rattle.sigv4.specs.Query.{decoded, query}
use Rattle.sigv4.specs.Signature.{signature}
use Rattle.request_check.specs.Recomputed.{carried_names, sent_pairs}
use Rattle.request_door.specs.DoorNames.{is_signed_as_owed}
use Rattle.request_door.specs.DoorPayloads.{IsOtherPayload, shown_payload, signed_payload}
use Rattle.request_door.specs.Doors.{DoorInput}
use Rattle.request_door.specs.declared.admitted.Admitted.{Admitted}

-- the names of the signed headers of an admitted request
abbrev pub admitted_names : Admitted → List (List ℕ)
admitted_names admitted = carried_names (string_bytes admitted.names)

-- the canonical text of an admitted request: the method, the path, the pairs of the query, in query form without the signature and without a token that is
-- added after signing, the lines of the signed headers, their names, and the payload's text
abbrev pub covered_text : DoorInput → Uri → Admitted → List ℕ
covered_text asked uri admitted =
    canonical_lines (string_bytes asked.request.method)
    (canonical_path asked.settings.uri_path_normalization_mode asked.settings.percent_encoding_mode (target_of uri).path)
    (query (sent_pairs admitted.place asked.settings (decoded (target_of uri))))
    (flat_map (header_line (hosted_headers (target_of uri) asked.request.headers)) (admitted_names admitted)) (string_bytes admitted.names)
    (signed_payload (shown_payload asked.request.headers) admitted.payload asked.body)

-- an admitted request carries the signature of its canonical text at its moment, under the secret of its key; the host and each of AWS's headers that it has,
-- and that has to be, are signed; and a digest that it shows is that of the body
pub record Covers (asked : DoorInput) (admitted : Admitted) : Type 0 where
  pub uri : Uri
  pub secret : List ℕ
  pub spelled : SpellsTarget (string_bytes asked.request.target) uri
  pub known : asked.secrets (string_bytes admitted.key_id) ≡ Some secret
  pub signed : string_bytes admitted.signature
      ≡ signature (record { secret = secret; region = asked.region; name = asked.name }) admitted.at (covered_text asked uri admitted)
  pub host : list_any (bytes_eq (codes "host")) (admitted_names admitted) ≡ true
  pub owed : list_all (is_signed_as_owed admitted.place asked.settings.session_token_mode (admitted_names admitted)) asked.request.headers ≡ true
  pub payload : IsOtherPayload (shown_payload asked.request.headers) admitted.payload asked.body → ⊥
