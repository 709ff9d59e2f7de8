-- What an admitted request is signed over.
use Rattle.std.proofs.Common.{◌≡◌, ℕ, Bool, true, false, List, refl, sym, ap, ◌∙◌, subst}
use Rattle.std.specs.Prelude.{bytes_eq, codes, string_bytes}
use Rattle.std.specs.List.{flat_map, list_all, list_any}
use Rattle.smithy_http.specs.Target.{target_of}
use Rattle.eventstream.specs.Key.{Signer}
use Rattle.sigv4.specs.Canonical.{canonical_lines, header_line, hosted_headers}
use Rattle.sigv4.specs.Path.{canonical_path}
use Rattle.sigv4.specs.Query.{decoded, query}
use Rattle.sigv4.specs.Signature.{signature}
use Rattle.request_check.specs.Recomputed.{carried_names, recomputed, sent_pairs, sent_text}
use Rattle.request_door.specs.DoorLaws.{Covers}
use Rattle.request_door.specs.DoorNames.{is_signed_as_owed}
use Rattle.request_door.specs.DoorPayloads.{IsOtherPayload, shown_payload, signed_payload}
use Rattle.request_door.specs.Doors.{DoorInput, DoorReading, IsAdmitted, door_signature}
use Rattle.request_door.specs.declared.admitted.Admitted.{Admitted}

is_so : (b : Bool) → (b ≡ false → ⊥) → b ≡ true
is_so true not_false = refl
is_so false not_false = absurd (not_false refl)

-- the signature of a reading, in terms of its canonical text
opened : (asked : DoorInput) (r : DoorReading) → door_signature asked r
    ≡ signature (record { secret = r.secret; region = asked.region; name = asked.name }) r.terms.at
    (canonical_lines (string_bytes asked.request.method)
    (canonical_path asked.settings.uri_path_normalization_mode asked.settings.percent_encoding_mode (target_of r.uri).path)
    (query (sent_pairs r.texts.place asked.settings (decoded (target_of r.uri))))
    (flat_map (header_line (hosted_headers (target_of r.uri) asked.request.headers)) (carried_names r.texts.names)) r.texts.names
    (signed_payload (shown_payload asked.request.headers) r.form asked.body))
unfolding recomputed sent_text
opened asked r = refl

pub covers : (asked : DoorInput) (admitted : Admitted) → IsAdmitted asked admitted → Covers asked admitted
covers asked admitted is =
    let r = is.reading in
    let stated = is.stated in
    let named = is.key.payload.timely.names.named in
    let signer : Signer = record { secret = r.secret; region = asked.region; name = asked.name } in
    record {
      uri = r.uri;
      secret = r.secret;
      spelled = is.key.payload.timely.names.stated.texts.form.target.spelled;
      known = ap asked.secrets stated.key_id ∙ is.key.known;
      signed = stated.signature ∙ (is.own ∙ (opened asked r ∙ (λ i. signature signer (sym stated.at i)
          (canonical_lines (string_bytes asked.request.method)
          (canonical_path asked.settings.uri_path_normalization_mode asked.settings.percent_encoding_mode (target_of r.uri).path)
          (query (sent_pairs (sym stated.place i) asked.settings (decoded (target_of r.uri))))
          (flat_map (header_line (hosted_headers (target_of r.uri) asked.request.headers)) (carried_names (sym stated.names i))) (sym stated.names i)
          (signed_payload (shown_payload asked.request.headers) (sym stated.payload i) asked.body)))));
      host = ap (λ (names : List ℕ). list_any (bytes_eq (codes "host")) (carried_names names)) stated.names
          ∙ is_so (list_any (bytes_eq (codes "host")) (carried_names r.texts.names)) named.1.1.1.0;
      owed = (λ i. list_all (is_signed_as_owed (stated.place i) asked.settings.session_token_mode (carried_names (stated.names i))) asked.request.headers)
          ∙ is_so (list_all (is_signed_as_owed r.texts.place asked.settings.session_token_mode (carried_names r.texts.names)) asked.request.headers) named.1.1.1.1.0;
      payload = λ other. is.last.0 (subst (λ form. IsOtherPayload (shown_payload asked.request.headers) form asked.body) stated.payload other);
    }
