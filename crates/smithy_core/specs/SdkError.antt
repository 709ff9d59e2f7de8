-- Errors of operations.
use Rattle.std.specs.Prelude.{ℕ, List, codes}
use Rattle.smithy_core.specs.declared.sdk_error.SdkError.{SdkError}
use Rattle.smithy_core.specs.declared.sdk_error.SdkError.TheVariants.{ConstructionFailure, DispatchFailure, ResponseError, ServiceError, NoMemory}

-- what an error prints
abbrev pub sdk_error_text : {E F R : Type 0} → SdkError E F R → List ℕ
sdk_error_text (ConstructionFailure fault) = codes "failed to construct request"
sdk_error_text DispatchFailure = codes "dispatch failure"
sdk_error_text (ResponseError source raw) = codes "response error"
sdk_error_text (ServiceError source raw) = codes "service error"
sdk_error_text NoMemory = codes "no memory"

-- an error of the kind of another one, which holds copies of what that holds
abbrev pub IsSdkErrorCopy : {E F R : Type 0} → (E → E → Type 0) → (F → F → Type 0) → (R → R → Type 0) → SdkError E F R → SdkError E F R → Type 0
IsSdkErrorCopy e f r (ConstructionFailure fault) (ConstructionFailure copy) = f fault copy
IsSdkErrorCopy e f r DispatchFailure DispatchFailure = Unit {0}
IsSdkErrorCopy e f r (ResponseError source raw) (ResponseError source_copy raw_copy) = f source source_copy × r raw raw_copy
IsSdkErrorCopy e f r (ServiceError source raw) (ServiceError source_copy raw_copy) = e source source_copy × r raw raw_copy
IsSdkErrorCopy e f r NoMemory NoMemory = Unit {0}
IsSdkErrorCopy e f r _ _ = ⊥
