-- What is told of a signer of chunks follows from what it signs.
use Rattle.std.proofs.Common.{◌≡◌, ℕ, List, Some, None, ap, ◌∙◌}
use Rattle.std.specs.Prelude.{◌⊎◌, Result, Ok, Err, String, string_bytes}
use Rattle.std.specs.declared.alloc.Global.{Global}
use Rattle.smithy_core.specs.Moment.{Instant}
use Rattle.smithy_core.specs.declared.identity.Identity.{Identity}
use Rattle.smithy_core.specs.declared.identity.Identity.TheVariants.{Credentials, Token}
use Rattle.eventstream.specs.Key.{Signer}
use Rattle.sigv4.specs.ChunkTold.{SignsNext, signs_over}
use Rattle.sigv4.specs.EventStream.{unsignable}
use Rattle.sigv4.specs.declared.error.SigningError.{SigningError}
use Rattle.sigv4.specs.declared.error.SigningError.TheVariants.{NoMemory}
use Rattle.sigv4.specs.declared.settings.SigningSettings.{SigningSettings}
use Rattle.aws_auth.specs.ChunkSigner.{SignsOver, chunk_told, chunk_told_by}
use Rattle.aws_auth.specs.MessageSigner.{SignerState, running_signature, signer_in}

-- what is told of a signer goes on with each part
pub told_goes_on : (part : Signer → Instant → List ℕ → List ℕ) (old : SignerState SigningSettings) (result : Result (String Global) SigningError)
    (new : SignerState SigningSettings) → SignsOver part old result new → SignsNext part (chunk_told old) result (chunk_told new)
told_goes_on part old (Ok answer) new signs = by old.parts.identity signs.0 (ap chunk_told signs.2)
  where
    by : (identity : Identity) → unsignable identity old.parts.time ≡ None
        → chunk_told new ≡ chunk_told_by identity (string_bytes answer) (signer_in old) old.parts.time
        → SignsNext part (chunk_told_by identity (running_signature old) (signer_in old) old.parts.time) (Ok answer) (chunk_told new)
    by (Token token) signed is = is
    by (Credentials credentials) signed is = (signed, signs.1, is ∙ ap (λ s. signs_over s (signer_in old) old.parts.time) signs.1)
told_goes_on part old (Err error) new signs = by old.parts.identity signs.0 (ap chunk_told signs.1)
  where
    by : (identity : Identity) → (unsignable identity old.parts.time ≡ Some error) ⊎ (error ≡ NoMemory)
        → chunk_told new ≡ chunk_told_by identity (running_signature old) (signer_in old) old.parts.time
        → SignsNext part (chunk_told_by identity (running_signature old) (signer_in old) old.parts.time) (Err error) (chunk_told new)
    by (Token token) why is = is
    by (Credentials credentials) why is = (why, is)
