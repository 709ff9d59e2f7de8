-- What a request, a reply and the error in a reply say.
use Rattle.std.specs.Prelude.{ℕ, List, Option, option_and_then, option_map, string_bytes}
use Rattle.smithy_core.specs.declared.error_metadata.ErrorMetadata.{ErrorMetadata}
use Rattle.smithy_core.specs.declared.request.HttpRequest.{HttpRequest}
use Rattle.smithy_core.specs.declared.response.HttpResponse.{HttpResponse}
use Rattle.operation_run.specs.declared.reply.Reply.{Reply}

-- what a request says
pub record RequestTexts : Type 0 where
  pub method : List ℕ
  pub target : List ℕ
  pub headers : List (List ℕ × List ℕ)
  pub body : List ℕ

-- the method, the target, the headers and the body of a request
abbrev pub request_texts : HttpRequest → RequestTexts
request_texts request = record {
  method = string_bytes request.method;
  target = string_bytes request.target;
  headers = request.headers;
  body = request.body;
}

-- what a service says of an error
pub record ErrorTexts : Type 0 where
  pub code : Option (List ℕ)
  pub message : Option (List ℕ)

-- the code and the message of an error
abbrev pub metadata_texts : ErrorMetadata → ErrorTexts
metadata_texts error = record { code = option_map string_bytes error.code; message = option_map string_bytes error.message }

-- what a reply says: the response, and its error, where it is one
pub record ReplyTexts : Type 0 where
  pub response : HttpResponse
  pub error : Option ErrorTexts

-- the response and the error of a reply
abbrev pub reply_texts : Reply → ReplyTexts
reply_texts reply = record { response = reply.response; error = option_map metadata_texts reply.error }

-- the code of a reply's error, where there is one
abbrev pub reply_code : ReplyTexts → Option (List ℕ)
reply_code reply = option_and_then (λ e. e.code) reply.error
