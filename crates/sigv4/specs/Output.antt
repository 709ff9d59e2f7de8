-- What was signed, and its signature.
use Rattle.std.specs.Prelude.{ℕ, List, String, string_bytes}
use Rattle.std.specs.declared.alloc.Global.{Global}
use Rattle.sigv4.specs.declared.output.SigningOutput.{SigningOutput}

-- an output, and its signature
abbrev pub output_with : {T : Type 0} → T → String Global → SigningOutput T
output_with output signature = record { output = output; signature = signature }

-- what was signed
abbrev pub signed_output : {T : Type 0} → SigningOutput T → T
signed_output signed = signed.output

-- the text of the signature
abbrev pub output_signature : {T : Type 0} → SigningOutput T → List ℕ
output_signature signed = string_bytes signed.signature

-- what was signed, and the signature
abbrev pub output_parts : {T : Type 0} → SigningOutput T → T × String Global
output_parts signed = (signed.output, signed.signature)
