-- What a second's links and chunks are hashed with gives their HMACs.
use Rattle.std.proofs.Common.{◌≡◌, ℕ, ℤ, List, [], ◌++◌, ap, sym, subst, ◌∙◌}
use Rattle.std.specs.Prelude.{Result, Ok, Err, IfOk}
use Rattle.std.specs.declared.alloc.AllocError.{AllocError}
use Rattle.sha2.specs.Sha256.{sha256}
use Rattle.hex.specs.Hex.{encode_lower}
use Rattle.mac_core.specs.Mac.{HoldsMac, key_block, mac, mac_of_block}
use Rattle.mac_core.specs.declared.hmac.HmacSha256.{HmacSha256}
use Rattle.smithy_core.specs.Moment.{Instant, floor_secs}
use Rattle.smithy_core.specs.Text.{line}
use Rattle.eventstream.specs.Frame.{spelling}
use Rattle.eventstream.specs.Key.{Signer, signing_key}
use Rattle.eventstream.specs.Link.{date_header, link_code, message_string_to_sign, payload_lines}
use Rattle.sigv4.specs.Chunk.{chunk_signature, chunk_string_to_sign}
use Rattle.sigv4.specs.SecondHasher.{HashesFor, at_second}
use Rattle.sigv4.proofs.KeyLemmas.{key_floored, lines_floored}

-- the HMAC of the lines, the signature, the digest of the second's header and that of the bytes is that of their link
pub hashed_link : (signer : Signer) (secs : ℤ) (digits signature bytes code : List ℕ) (t : Instant) → secs ≡ t.secs
    → digits ≡ encode_lower (sha256 (spelling (date_header (at_second secs))))
    → code ≡ mac_of_block (key_block (signing_key signer (at_second secs)))
    (payload_lines (at_second secs) signer.region signer.name ++ line signature ++ line digits ++ encode_lower (sha256 bytes))
    → code ≡ link_code signer signature bytes t
unfolding link_code mac message_string_to_sign
hashed_link signer secs digits signature bytes code t same is made =
    let dated = is ∙ ap (λ s. encode_lower (sha256 (spelling (date_header (at_second s))))) same in
    made
    ∙ (λ i. mac_of_block (key_block (signing_key signer (at_second (same i))))
    (payload_lines (at_second (same i)) signer.region signer.name ++ line signature ++ line (dated i) ++ encode_lower (sha256 bytes)))

-- so is one of which it is known only where memory was enough
pub hashed_link_if : (signer : Signer) (secs : ℤ) (digits signature bytes : List ℕ) (result : Result (List ℕ) AllocError) (t : Instant) → secs ≡ t.secs
    → digits ≡ encode_lower (sha256 (spelling (date_header (at_second secs))))
    → IfOk result (λ code. code ≡ mac_of_block (key_block (signing_key signer (at_second secs)))
    (payload_lines (at_second secs) signer.region signer.name ++ line signature ++ line digits ++ encode_lower (sha256 bytes)))
    → IfOk result (λ code. code ≡ link_code signer signature bytes t)
hashed_link_if signer secs digits signature bytes (Ok code) t same is made = hashed_link signer secs digits signature bytes code t same is made
hashed_link_if signer secs digits signature bytes (Err error) t same is made = made

-- the HMAC of the lines, the signature, the digest of nothing and that of a chunk is what the chunk is signed with
pub hashed_chunk : (signer : Signer) (secs : ℤ) (digits signature chunk code : List ℕ) (t : Instant) → secs ≡ t.secs → digits ≡ encode_lower (sha256 [])
    → code ≡ mac_of_block (key_block (signing_key signer (at_second secs)))
    (payload_lines (at_second secs) signer.region signer.name ++ line signature ++ line digits ++ encode_lower (sha256 chunk))
    → encode_lower code ≡ chunk_signature chunk signer t signature
unfolding chunk_signature chunk_string_to_sign mac
hashed_chunk signer secs digits signature chunk code t same is made =
    let lines = ap (λ s. payload_lines (at_second s) signer.region signer.name) same ∙ sym (lines_floored t signer.region signer.name) in
    let key = ap (λ s. signing_key signer (at_second s)) same ∙ sym (key_floored signer t) in
    ap encode_lower made
    ∙ (λ i. encode_lower (mac_of_block (key_block (key i)) (lines i ++ line signature ++ line (is i) ++ encode_lower (sha256 chunk))))

-- an HMAC under the key of a moment that has taken the lines of its second is that of the second
pub hashes_second : (signer : Signer) (t : Instant) (secs : ℤ) (begun : HmacSha256) (lines digits : List ℕ) → secs ≡ t.secs
    → HoldsMac begun (key_block (signing_key signer t)) lines → lines ≡ payload_lines (floor_secs t) signer.region signer.name
    → digits ≡ encode_lower (sha256 (spelling (date_header (floor_secs t))))
    → HashesFor signer (record { secs = secs; begun = begun; date_digits = digits })
hashes_second signer t secs begun lines digits same held are is =
    subst (λ s. HashesFor signer (record { secs = s; begun = begun; date_digits = digits })) (sym same) (record {
      begun =
          subst (λ key. HoldsMac begun (key_block key) (payload_lines (floor_secs t) signer.region signer.name)) (key_floored signer t)
          (subst (λ text. HoldsMac begun (key_block (signing_key signer t)) text) are held);
      date_digits = is;
    })
