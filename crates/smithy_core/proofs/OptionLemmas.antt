-- A text that may be lent.
use Rattle.std.proofs.Common.{◌≡◌, ℕ, List, Option, Some, None, refl, unwrap_or}
use Rattle.std.specs.Prelude.{option_copied}
use Rattle.std.specs.Borrow.{Bor}

pub copied_or : (text : Option (Bor (List ℕ))) (default : Bor (List ℕ)) → (unwrap_or text default).now ≡ unwrap_or (option_copied text) default.now
copied_or None default = refl
copied_or (Some text) default = refl
