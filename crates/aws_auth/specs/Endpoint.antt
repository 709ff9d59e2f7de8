-- The fields that an endpoint may have for signing.
use Rattle.std.specs.Prelude.{ℕ, Bool, List, codes, Option, Some, None}
use Rattle.std.specs.Option.{option_or}
use Rattle.smithy_core.specs.Document.{Data, get, text, truth}
use Rattle.aws_auth.specs.declared.endpoint.EndpointField.{EndpointField}
use Rattle.aws_auth.specs.declared.endpoint.EndpointField.TheVariants.{SigningName, SigningRegion, DisableDoubleEncoding, DisableNormalizePath}
use Rattle.aws_auth.specs.declared.error.SigV4SigningError.{SigV4SigningError}
use Rattle.aws_auth.specs.declared.error.SigV4SigningError.TheVariants.{BadTypeInEndpointAuthSchemeConfig}

-- the name that the field has in an endpoint
abbrev pub field_name : EndpointField → List ℕ
field_name SigningName = codes "signingName"
field_name SigningRegion = codes "signingRegion"
field_name DisableDoubleEncoding = codes "disableDoubleEncoding"
field_name DisableNormalizePath = codes "disableNormalizePath"

-- the value of a field, where there is an endpoint that has it
abbrev pub field_of : Option Data → EndpointField → Option Data
field_of None field = None
field_of (Some endpoint) field = get endpoint (field_name field)

-- the text, where the value is one
abbrev pub text_in : Option Data → Option (List ℕ)
text_in (Some (text bytes)) = Some bytes
text_in _ = None

-- the Boolean, where the value is one
abbrev pub truth_in : Option Data → Option Bool
truth_in (Some (truth value)) = Some value
truth_in _ = None

-- the error of a field, whose value is there and no text
abbrev pub unless_text : EndpointField → Option Data → Option SigV4SigningError
unless_text field None = None
unless_text field (Some (text bytes)) = None
unless_text field (Some value) = Some (BadTypeInEndpointAuthSchemeConfig field)

-- the error of a field, whose value is there and no Boolean
abbrev pub unless_truth : EndpointField → Option Data → Option SigV4SigningError
unless_truth field None = None
unless_truth field (Some (truth value)) = None
unless_truth field (Some value) = Some (BadTypeInEndpointAuthSchemeConfig field)

-- the refusal of an endpoint's field that is there and is no text
abbrev pub bad_text : Option Data → EndpointField → Option SigV4SigningError
bad_text endpoint field = unless_text field (field_of endpoint field)

-- the refusal of an endpoint's field that is there and is neither true nor false
abbrev pub bad_truth : Option Data → EndpointField → Option SigV4SigningError
bad_truth endpoint field = unless_truth field (field_of endpoint field)

-- the error of the first field whose value is of another type
abbrev pub bad_field : Option Data → Option SigV4SigningError
bad_field endpoint =
    option_or (bad_text endpoint SigningName) (option_or (bad_text endpoint SigningRegion)
    (option_or (bad_truth endpoint DisableDoubleEncoding) (bad_truth endpoint DisableNormalizePath)))

-- what the fields say
pub record Fields : Type 0 where
  pub name : Option (List ℕ)
  pub region : Option (List ℕ)
  pub disable_double_encoding : Option Bool
  pub disable_normalize_path : Option Bool

-- what the fields of an endpoint say
abbrev pub fields_of : Option Data → Fields
fields_of endpoint = record {
  name = text_in (field_of endpoint SigningName);
  region = text_in (field_of endpoint SigningRegion);
  disable_double_encoding = truth_in (field_of endpoint DisableDoubleEncoding);
  disable_normalize_path = truth_in (field_of endpoint DisableNormalizePath);
}
