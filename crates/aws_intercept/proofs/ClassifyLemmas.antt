-- What a classifier says again.
use Rattle.std.proofs.Common.{◌≡◌, ℕ, List, Option, Some, None}
use Rattle.aws_intercept.specs.Classify.{Acts, ActsAgain, Delays}
use Rattle.aws_intercept.specs.declared.classify.RetryAction.{RetryAction}
use Rattle.aws_intercept.specs.declared.classify.RetryAction.TheVariants.{NoActionIndicated}
use Rattle.aws_intercept.specs.declared.classify.RetryKind.{RetryKind}

-- where the code says nothing, as was said before
pub again_before : (kind : Option RetryKind) (previous : RetryAction) (text : Option (List ℕ)) (action : RetryAction)
    → Acts kind text NoActionIndicated → Delays previous text action → ActsAgain kind previous text action
again_before None previous text action own before = before
again_before (Some kind) previous text action own before = absurd own

-- where the code says a kind, that
pub again_own : (kind : Option RetryKind) (previous : RetryAction) (text : Option (List ℕ)) (action : RetryAction)
    → Acts kind text action → (action ≡ NoActionIndicated → ⊥) → ActsAgain kind previous text action
again_own None previous text action own some = absurd (some own)
again_own (Some kind) previous text action own some = own
