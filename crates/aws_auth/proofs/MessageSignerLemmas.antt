-- What is told of a signer of messages follows from what it signs, and so does the key that it signs under.
use Rattle.std.proofs.Common.{◌≡◌, ℕ, List, [], Option, Some, None, sym, ap, ◌∙◌}
use Rattle.std.specs.Prelude.{Box, Result, Ok, Err, box_value, option_copied, option_map}
use Rattle.std.specs.declared.alloc.Global.{Global}
use Rattle.std.specs.Borrow.{Bor}
use Rattle.std.specs.Option.{IsSomeAnd, MatchOption}
use Rattle.smithy_core.specs.Identity.{IsSameIdentity}
use Rattle.smithy_core.specs.Message.{Parts}
use Rattle.smithy_core.specs.Moment.{Instant}
use Rattle.smithy_core.specs.declared.identity.Identity.{Identity}
use Rattle.smithy_core.specs.declared.identity.Identity.TheVariants.{Credentials, Token}
use Rattle.eventstream.specs.Frame.{frame}
use Rattle.eventstream.specs.Told.{Told, SignsLink, Signs, SignsEmpty, signs_over}
use Rattle.eventstream.specs.declared.sign_error.SignMessageError.{SignMessageError}
use Rattle.sigv4.specs.KeptKey.{Kept}
use Rattle.aws_auth.specs.MessageSigner.{IsOwnKey, SignerParts, SignerState, SignsBytes, SignsClosing, SignsMessage, running_signature, signer_for, signer_in, told_by, told_of, unsigned_by, unsigned_message_by}

-- a copy keeps a key of its own
copied : (identity copy : Identity) (region name : List ℕ) (kept : Option Kept)
    → IsSameIdentity identity copy → IsOwnKey (signer_for identity region name) kept → IsOwnKey (signer_for copy region name) kept
copied identity copy region name None same own = tt
copied (Credentials credentials) (Credentials copy) region name (Some kept) same own = own ∙ sym (ap (λ secret. record { secret = secret; region = region; name = name }) same.secret)
copied (Token token) (Token copy) region name (Some kept) same own = own
copied (Credentials credentials) (Token copy) region name (Some kept) same own = absurd same
copied (Token token) (Credentials copy) region name (Some kept) same own = absurd same

pub key_copied : (identity copy : Identity) (region name region_copy name_copy : List ℕ) (kept kept_copy : Option Kept)
    → IsSameIdentity identity copy → region_copy ≡ region → name_copy ≡ name → kept_copy ≡ kept
    → IsOwnKey (signer_for identity region name) kept → IsOwnKey (signer_for copy region_copy name_copy) kept_copy
key_copied identity copy region name region_copy name_copy kept kept_copy same regions names keys own =
    rw (regions, names, keys) (copied identity copy region name kept same own)

-- a clone of a key that is kept is that key
pub key_cloned : (held : Option (Bor (Box Kept Global))) (kept clone : Option (Box Kept Global)) → option_copied held ≡ kept
    → MatchOption held (clone ≡ None) (λ key. IsSomeAnd clone (λ own. box_value own ≡ box_value key.now)) → option_map box_value clone ≡ option_map box_value kept
key_cloned None kept clone is same = ap (option_map box_value) (same ∙ is)
key_cloned (Some key) kept (Some own) is same = ap Some same ∙ ap (option_map box_value) is
key_cloned (Some key) kept None is same = absurd same

-- who signs stays, whatever is signed
told_after : (refused : Option SignMessageError) (old : SignerState (Unit {0})) (bytes : List ℕ) (t : Instant)
    (result : Result Parts SignMessageError) (new : SignerState (Unit {0}))
    → SignsBytes refused old bytes t result new → told_of new ≡ told_by old.parts.identity (running_signature new) (signer_in old)
told_after refused old bytes t (Ok answer) new signs =
    ap (λ (p : SignerParts (Unit {0})). told_by p.identity (running_signature new) (signer_for p.identity p.region p.name)) signs.4
told_after refused old bytes t (Err error) new signs =
    ap (λ (p : SignerParts (Unit {0})). told_by p.identity (running_signature new) (signer_for p.identity p.region p.name)) signs.2

-- with credentials bytes are sealed over the last signature
signed_after : (refused : Option SignMessageError) (old : SignerState (Unit {0})) (bytes : List ℕ) (t : Instant)
    (result : Result Parts SignMessageError) (new : SignerState (Unit {0})) (now : Told)
    → SignsBytes refused old bytes t result new → now ≡ signs_over (running_signature new) (signer_in old)
    → SignsLink refused (running_signature old) (signer_in old) bytes t result now
signed_after refused old bytes t (Ok answer) new now signs is = (signs.0, signs.1, is ∙ ap (λ s. signs_over s (signer_in old)) signs.2)
signed_after refused old bytes t (Err error) new now signs is = (signs.0, is ∙ ap (λ s. signs_over s (signer_in old)) signs.1)

-- what is told of a signer goes on with each message
pub message_told : (old : SignerState (Unit {0})) (message : Parts) (t : Instant) (result : Result Parts SignMessageError) (new : SignerState (Unit {0}))
    → SignsMessage old message t result new → Signs (told_of old) message t result (told_of new)
message_told old message t result new signs = by old.parts.identity signs (told_after _ old (frame message) t result new signs) where
  by : (identity : Identity) → SignsBytes (unsigned_message_by identity message t) old (frame message) t result new
      → told_of new ≡ told_by identity (running_signature new) (signer_in old)
      → Signs (told_by identity (running_signature old) (signer_in old)) message t result (told_of new)
  by (Token token) signs is = is
  by (Credentials credentials) signs is = signed_after _ old (frame message) t result new (told_of new) signs is

-- what is told of a signer goes on with the end
pub end_told : (old : SignerState (Unit {0})) (t : Instant) (result : Result Parts SignMessageError) (new : SignerState (Unit {0}))
    → SignsClosing old t (Some result) new → SignsEmpty (told_of old) t (Some result) (told_of new)
end_told old t result new signs = by old.parts.identity signs (told_after _ old [] t result new signs) where
  by : (identity : Identity) → SignsBytes (unsigned_by identity t) old [] t result new
      → told_of new ≡ told_by identity (running_signature new) (signer_in old)
      → SignsEmpty (told_by identity (running_signature old) (signer_in old)) t (Some result) (told_of new)
  by (Token token) signs is = is
  by (Credentials credentials) signs is = signed_after _ old [] t result new (told_of new) signs is
