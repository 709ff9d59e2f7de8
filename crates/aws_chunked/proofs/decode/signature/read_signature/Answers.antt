use Rattle.std.proofs.Common.{arith, sym}
use Rattle.std.specs.Prelude.{string_bytes}
use Rattle.aws_chunked.proofs.SignatureLemmas.{digit_long, digit_read, digits_read, signature_differs, signature_ends, signature_from}
use Rattle.aws_chunked.proofs.decode.signature.read_signature.Goals as goal
use Rattle.aws_chunked.proofs.decode.signature.read_signature.Goals.{in_default-via-in-Some+else-is_lower_digit, in_default-via-in_default}

pub returns-in_default : goal.returns-in_default
returns-in_default c =
    let l = c.loop.invariant in
    elim c.in_default.branch [
      | in_default-via-in-Some+else-is_lower_digit w ↦
          signature_differs _ _ _ _ _ _ _ c.loop-test.true l.long l.digits l.read w.in-Some.ensures.cases.0 (sym w.if-is_lower_digit.ensures) c.bad_at.ensures
      | in_default-via-in_default w ↦
          signature_ends _ _ _ _ _ c.loop-test.true l.long l.digits l.read w.in_default.ensures.cases c.bad_at.ensures
    ]

pub returns : goal.returns
returns c =
    let l = c.loop.invariant in
    (signature_from (string_bytes c.loop.signature) (omega (arith, l.long, c.loop-test.false, c.loop.auto.counter-end)) l.digits, l.read)

pub loop-preserved : goal.loop-preserved
loop-preserved c =
    let l = c.loop.invariant in
    let e = c.in_ok-push-in-Some.ensures in
    let t = sym c.if-is_lower_digit.ensures in record {
      read = digit_read _ _ _ _ _ _ _ l.read c.in-Some.ensures.cases.0 e.bytes e.ascii t;
      long = digit_long _ _ _ _ _ l.long e.bytes e.ascii t;
      digits = digits_read _ _ _ _ l.digits e.bytes e.ascii t;
    }
