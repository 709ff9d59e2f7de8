-- What a signer makes of a request, for what its target is known to spell.
use Rattle.std.proofs.Common.{◌≡◌, ℕ, ◌⊎◌, inl, inr, List, Some, None, refl, sym, ◌∙◌}
use Rattle.std.specs.Option.{option_or}
use Rattle.http_uri.specs.declared.uri.Uri.{Uri}
use Rattle.smithy_core.specs.Moment.{Instant}
use Rattle.smithy_core.specs.declared.request.HttpRequest.{HttpRequest}
use Rattle.smithy_http.specs.QueryWriter.{SpellsTarget}
use Rattle.smithy_http.specs.Target.{Target, target_of}
use Rattle.sigv4.specs.ChunkTold.{unsigned_chunk_at}
use Rattle.sigv4.specs.Request.{Case}
use Rattle.sigv4.specs.declared.error.SigningError.{SigningError}
use Rattle.sigv4.specs.declared.error.SigningError.TheVariants.{NoMemory}
use Rattle.aws_auth.specs.Signer.{unsigned_target}
use Rattle.presign_check.proofs.SignatureLemmas.{one_target, spelled_once}
use Rattle.aws_signing.specs.SigningBy.{IsSignedRequestBy, RefusesBy}

module _ (case : Target → Case) (at : Instant) (text : List ℕ) (uri : Uri) (spells : SpellsTarget text uri) where
  -- the request is signed for what its target spells
  pub signed_for : (new : HttpRequest) (signature : List ℕ) (signed : IsSignedRequestBy case at text new signature) → signed.target ≡ target_of uri
  signed_for new signature signed = sym signed.spelled.2 ∙ one_target text signed.spelled.0 uri signed.spelled.1.0 spells

  -- the moment, or the first test of what its target spells, is why it isn't signed
  pub refused_for : (error : SigningError) → RefusesBy case at text error
      → (option_or (unsigned_chunk_at at) (unsigned_target case (Some (target_of uri))) ≡ Some error) ⊎ (error ≡ NoMemory)
  refused_for error (inl late) = inl (rw late refl)
  refused_for error (inr (years, inl (None, none, is))) = absurd (spelled_once text uri spells none)
  refused_for error (inr (years, inl (Some target, spelled, is))) =
      let one : target ≡ target_of uri = sym spelled.2 ∙ one_target text spelled.0 uri spelled.1.0 spells in inl (rw (years, ← one) is)
  refused_for error (inr (years, inr memory)) = inr memory
