use Rattle.std.proofs.Common.{rules, arith}
use Rattle.aws_chunked.proofs.LengthTextLemmas.{more_read, stops_at_digit, stops_at_end}
use Rattle.aws_chunked.proofs.decode.length.read_length.Goals as goal

pub returns-in_default-with_digit : goal.returns-in_default-with_digit
returns-in_default-with_digit c =
    let digit = c.in-Some-digit_of.ensures in
    stops_at_digit _ _ _ _ _ _ _ _ c.requires c.loop-byte.invariant.most digit.0 digit.1 c.in_default-with_digit.ensures c.loop-byte.invariant.read
    c.in-Some.ensures.cases.0 c.bad_at.ensures

pub loop-byte-preserved : goal.loop-byte-preserved
loop-byte-preserved c =
    let digit = c.in-Some-digit_of.ensures in
    let longer = c.in-Some-with_digit.ensures in record {
      most = longer.2;
      read = more_read _ _ _ _ _ _ _ c.loop-byte.invariant.read c.in-Some.ensures.cases.0 digit.0 digit.1 longer.0
          (omega (arith, c.loop-byte.invariant.most, c.requires)) longer.1;
    }

pub returns : goal.returns
returns c = search (rules, stops_at_end)
