use Rattle.std.proofs.Common.{◌≡◌, ◌++◌, length}
use Rattle.std.specs.Prelude.{All, IsTrue, string_bytes}
use Rattle.sigv4.specs.Signature.{is_lower_digit}
use Rattle.aws_chunked.proofs.decode.signature.read_signature.Given as goal

abbrev pub invariant-loop : goal.invariant-loop
invariant-loop l = record {
  read : l.bytes ≡ string_bytes l.signature ++ l.rest;
  long : length (string_bytes l.signature) ≡ l.counter;
  digits : All (λ byte. IsTrue (is_lower_digit byte)) (string_bytes l.signature);
}
