-- Signing a request for a caller: what goes out, and why nothing does.
use Rattle.std.specs.Prelude.{◌≡◌, ◌⊎◌, ℕ, ℤ, Bool, true, List, [], ◌∷◌, ◌++◌, codes, map, Vec, Some, None, Result, Ok, Err, if◌then◌else◌}
use Rattle.std.specs.List.{flat_map}
use Rattle.std.specs.declared.alloc.Global.{Global}
use Rattle.http_uri.specs.declared.uri.Uri.{Uri}
use Rattle.smithy_http.specs.QueryWriter.{SpellsNoTarget, SpellsTarget}
use Rattle.smithy_http.specs.Target.{Target, target_of}
use Rattle.sigv4.specs.Instructions.{Instruction, Instructions, instruction_pair}
use Rattle.sigv4.specs.Parameters.{AppliesTo, takes_no_more}
use Rattle.sigv4.specs.Query.{Pair}
use Rattle.sigv4.specs.Refusal.{unfit, unfit_request}
use Rattle.sigv4.specs.Params.{signer_of, v4_identity, v4_settings, v4_time}
use Rattle.sigv4.specs.Request.{Case, key_id_of, token_of}
use Rattle.sigv4.specs.RequestSigning.{IsSigned}
use Rattle.sigv4.specs.Settings.{is_query, is_query_form, settings_of}
use Rattle.sigv4.specs.Signed.{instructions, signature_of, signed_target}
use Rattle.sigv4.specs.declared.error.SigningError.{SigningError}
use Rattle.sigv4.specs.declared.error.SigningError.TheVariants.{InvalidUri, NoMemory}
use Rattle.sigv4.specs.declared.instructions.SigningInstructions.{SigningInstructions}
use Rattle.sigv4.specs.declared.output.SigningOutput.{SigningOutput}
use Rattle.sigv4.specs.declared.signing_params.SigningParams.{SigningParams}
use Rattle.sigv4.specs.declared.signing_params.SigningParams.TheVariants.{V4}
use Rattle.firuvaik_c.specs.Asked.{lent_case, unreadable}
use Rattle.firuvaik_c.specs.Faults.{no_memory, fault_of_signing}
use Rattle.firuvaik_c.specs.declared.answer.Made.{Made}
use Rattle.firuvaik_c.specs.declared.fault.Fault.{Fault}
use Rattle.firuvaik_c.specs.declared.lent.Request.{Request}
use Rattle.firuvaik_c.specs.declared.lent.Settings.{Settings}
use Rattle.firuvaik_c.specs.declared.lent.Signer.{Signer}
use Rattle.firuvaik_c.specs.declared.sign.PlainTexts.{PlainTexts}

-- a name and a value as a line of HTTP/1.1 (RFC 9112, section 5): name, colon, space, value, CR and LF
abbrev pub http_line : Pair → List ℕ
http_line pair = pair.0 ++ (codes ": " ++ (pair.1 ++ 13 ∷ 10 ∷ []))

-- the lines of the headers that go out
abbrev pub http_lines : List Instruction → List ℕ
http_lines headers = flat_map http_line (map instruction_pair headers)

-- what goes out of a case, whose target was given by this text: in header form the lines of the headers that are added, and in query form the signed
-- target
abbrev pub outgoing : Case → List ℕ → List ℕ
outgoing c text = if is_query_form c.settings then signed_target c text else http_lines (instructions c)

-- why the case of a target's text isn't signed: the text spells no target, or a test of the case fails, or memory ran out
abbrev pub RefusesSpelled : List ℕ → (Target → Case) → SigningError → Type 0
RefusesSpelled text case error =
    (SpellsNoTarget text × (error ≡ InvalidUri)) ⊎ ((uri : Uri) × SpellsTarget text uri × (unfit_request (case (target_of uri)) ≡ Some error)) ⊎ (error ≡ NoMemory)

-- what goes out of the case that a target's text spells, and the signature
abbrev pub SignsSpelled : List ℕ → (Target → Case) → Made → Type 0
SignsSpelled text case made =
    (uri : Uri) × SpellsTarget text uri × (unfit_request (case (target_of uri)) ≡ None)
    × (made.text.items ≡ outgoing (case (target_of uri)) text) × (made.signature ≡ signature_of (case (target_of uri)))

-- a case is signed, or why it isn't
abbrev pub SignsOrRefuses : List ℕ → (Target → Case) → Result Made SigningError → Type 0
SignsOrRefuses text case (Ok made) = SignsSpelled text case made
SignsOrRefuses text case (Err error) = RefusesSpelled text case error

-- a request is signed as it is asked for, or the first reason against it is answered
abbrev pub SignsLent : Signer → Request → Settings → ℤ → Result Made Fault → Type 0
SignsLent signer request settings seconds (Ok made) =
    (unreadable signer request settings seconds ≡ None) × SignsSpelled request.target.now (lent_case signer request settings seconds) made
SignsLent signer request settings seconds (Err fault) =
    (unreadable signer request settings seconds ≡ Some fault)
    ⊎ ((unreadable signer request settings seconds ≡ None)
    × ((error : SigningError) × RefusesSpelled request.target.now (lent_case signer request settings seconds) error × (fault ≡ fault_of_signing error)))
    ⊎ (fault ≡ no_memory)

-- the case of these texts, headers and payload under parameters, where the target has these parts
abbrev pub pieces_case : PlainTexts → List Pair → List ℕ → SigningParams → Target → Case
pieces_case texts headers payload (V4 params) target = record {
  method = texts.method.now;
  target = target;
  headers = headers;
  payload = payload;
  settings = settings_of (v4_settings params);
  key_id = key_id_of (v4_identity params);
  token = token_of (v4_identity params);
  signer = signer_of params;
  at = v4_time params;
}

-- where the parameters put the signature
abbrev pub is_query_params : SigningParams → Bool
is_query_params (V4 params) = is_query (v4_settings params).signature_location

-- what a signature adds to the request of a case and what was read of its target, or why it isn't signed
abbrev pub SignsPieces : List ℕ → (Target → Case) → Result (SigningOutput SigningInstructions × Uri) SigningError → Type 0
SignsPieces text case (Ok parts) =
    SpellsTarget text parts.1 × (unfit (case (target_of parts.1)) ≡ None) × IsSigned (case (target_of parts.1)) parts.0
SignsPieces text case (Err error) =
    (SpellsNoTarget text × (error ≡ InvalidUri)) ⊎ ((uri : Uri) × SpellsTarget text uri × (unfit (case (target_of uri)) ≡ Some error)) ⊎ (error ≡ NoMemory)

-- the lines of the headers, or the text of the target behind the parameters, exactly where the target takes these
abbrev pub GivesOutgoing : Bool → Target → List ℕ → Instructions → Result (Vec ℕ Global) SigningError → Type 0
GivesOutgoing in_query target text made (Ok out) =
    (new : List ℕ) × AppliesTo made.params target text new (Ok tt) × (out.items ≡ (if in_query then new else http_lines made.headers))
GivesOutgoing in_query target text made (Err error) = ((takes_no_more made.params target ≡ true) × (error ≡ InvalidUri)) ⊎ (error ≡ NoMemory)
