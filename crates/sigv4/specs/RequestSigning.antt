-- What signing a request promises.
use Rattle.std.specs.Prelude.{◌≡◌, ◌⊎◌, ℕ, List, [], if◌then◌else◌, Option, Some, None, Result, Ok, Err, String, string_bytes}
use Rattle.std.specs.declared.alloc.Global.{Global}
use Rattle.smithy_core.specs.Civil.{stamp}
use Rattle.smithy_core.specs.TextPairs.{text_pairs}
use Rattle.smithy_core.specs.declared.identity.Identity.{Identity}
use Rattle.eventstream.specs.Key.{scope}
use Rattle.sigv4.specs.Canonical.{canonical, credential, joined_names, names, signing_parameters}
use Rattle.sigv4.specs.EventStream.{IsKeyOf}
use Rattle.sigv4.specs.Output.{output_signature, signed_output}
use Rattle.sigv4.specs.Refusal.{request_refusal, unfit}
use Rattle.sigv4.specs.Request.{Case}
use Rattle.sigv4.specs.Settings.{is_query_form}
use Rattle.sigv4.specs.Signed.{instructions, parameters, signature_of}
use Rattle.sigv4.specs.declared.error.SigningError.{SigningError}
use Rattle.sigv4.specs.declared.error.SigningError.TheVariants.{NoMemory}
use Rattle.sigv4.specs.declared.instructions.SigningInstructions.{SigningInstructions}
use Rattle.sigv4.specs.declared.output.SigningOutput.{SigningOutput}
use Rattle.sigv4.specs.declared.signing_params.SigningParams.{SigningParams}
use Rattle.sigv4.specs.declared.signing_params.SigningParams.TheVariants.{V4}
use Rattle.sigv4.specs.declared.signing_texts.SigningTexts.{SigningTexts}

-- the key is the signing key of a request's parameters wherever their identity signs at their moment, and elsewhere any
abbrev pub IsRequestKey : SigningParams → List ℕ → Type 0
IsRequestKey (V4 params) key = IsKeyOf params key

-- with no refusal the text is the canonical one; with one it is the refusal, or memory ran out
abbrev pub GivesCanonical : Identity → Case → Result (String Global) SigningError → Type 0
GivesCanonical identity c (Ok text) = (request_refusal identity c ≡ None) × (string_bytes text ≡ canonical c)
GivesCanonical identity c (Err error) = (request_refusal identity c ≡ Some error) ⊎ (error ≡ NoMemory)

-- the headers and the parameters that go out, and the signature
pub record IsSigned (c : Case) (output : SigningOutput SigningInstructions) : Type 0 where
  pub headers : (signed_output output).headers ≡ instructions c
  pub params : (signed_output output).params ≡ parameters c
  pub signature : output_signature output ≡ signature_of c

-- with no refusal the case is signed; with one it is the refusal, or memory ran out
abbrev pub SignsUnlessRefused : Option SigningError → Case → Result (SigningOutput SigningInstructions) SigningError → Type 0
SignsUnlessRefused refused c (Ok output) = (refused ≡ None) × IsSigned c output
SignsUnlessRefused refused c (Err error) = (refused ≡ Some error) ⊎ (error ≡ NoMemory)

-- the case is signed, unless who signs, or when, or the request itself is refused
abbrev pub SignsCase : Identity → Case → Result (SigningOutput SigningInstructions) SigningError → Type 0
SignsCase identity c result = SignsUnlessRefused (request_refusal identity c) c result

-- the texts that a signature of a case is made of
pub record HasTexts (c : Case) (made : SigningTexts) : Type 0 where
  pub stamp : string_bytes made.scope.stamp ≡ stamp c.at
  pub scope : string_bytes made.scope.scope ≡ scope c.at c.signer.region c.signer.name
  pub credential : string_bytes made.credential ≡ credential c
  pub payload : string_bytes made.payload ≡ c.payload
  pub names : string_bytes made.names ≡ joined_names (names c)
  pub parameters : text_pairs made.parameters.items ≡ (if is_query_form c.settings then signing_parameters c else [])
  pub canonical : string_bytes made.canonical ≡ canonical c

-- with no test that fails these texts; with one it, or memory ran out
abbrev pub MakesTexts : Case → Result SigningTexts SigningError → Type 0
MakesTexts c (Ok made) = (unfit c ≡ None) × HasTexts c made
MakesTexts c (Err error) = (unfit c ≡ Some error) ⊎ (error ≡ NoMemory)
