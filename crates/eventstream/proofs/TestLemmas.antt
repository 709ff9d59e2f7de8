-- What an answer behind tests says of them.
use Rattle.std.proofs.Common.{◌≡◌, Bool, true, false, Result, Ok, Err, refl}
use Rattle.std.specs.Prelude.{if◌then◌else◌}
use Rattle.eventstream.specs.Bind.{◌>>=◌}
use Rattle.eventstream.specs.declared.error.ErrorKind.{ErrorKind}

abbrev reads : {A : Type 0} → A → Result A ErrorKind
reads x = Ok x

pub ok_same : {A : Type 0} (x y : A) → reads x ≡ reads y → x ≡ y
ok_same x y is = cc

-- an answer behind a test that refuses
pub refused_or : {A : Type 0} (test : Bool) (kind : ErrorKind) (others : Result A ErrorKind) (x : A) → (if test then Err kind else others) ≡ Ok x → (test ≡ false) × (others ≡ Ok x)
refused_or true kind others x is = cc
refused_or false kind others x is = (refl, is)

-- an answer behind a test that admits
pub admitted : {A : Type 0} (test : Bool) (kind : ErrorKind) (others : Result A ErrorKind) (x : A) → (if test then others else Err kind) ≡ Ok x → (test ≡ true) × (others ≡ Ok x)
admitted true kind others x is = (refl, is)
admitted false kind others x is = cc

-- the two answers of which an answer is made
pub bound : {A B : Type 0} (first : Result A ErrorKind) (others : A → Result B ErrorKind) (y : B) → (first >>= others) ≡ Ok y → (x : A) × (first ≡ Ok x) × (others x ≡ Ok y)
bound (Ok x) others y is = (x, refl, is)
bound (Err kind) others y is = cc
