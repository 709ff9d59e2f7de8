use Rattle.std.proofs.Common.{rules}
use Rattle.aws_chunked.proofs.LengthTextLemmas.{first_read, first_stops_end, first_stops_great, first_stops_other}
use Rattle.aws_chunked.proofs.decode.length.first_digit.Goals as goal
use Rattle.aws_chunked.proofs.decode.length.first_digit.Goals.{in_default-digit_of-via-in-Some-digit_of+else-digit-most, in_default-digit_of-via-in_default-digit_of}

pub returns-in_default : goal.returns-in_default
returns-in_default c = search (rules, first_stops_end)

pub returns-in-Some-digit_of : goal.returns-in-Some-digit_of
returns-in-Some-digit_of c = search (rules, first_read)

pub returns-in_default-digit_of : goal.returns-in_default-digit_of
returns-in_default-digit_of c =
    elim c.in_default-digit_of.branch [
      | in_default-digit_of-via-in-Some-digit_of+else-digit-most w ↦
          first_stops_great _ _ _ _ _ _ c.requires w.in-Some-digit_of.ensures.0 w.in-Some-digit_of.ensures.1 w.if-digit-most.false c.in-Some.ensures.cases.0
          c.bad_at-in_default-digit_of.ensures
      | in_default-digit_of-via-in_default-digit_of w ↦
          first_stops_other _ _ _ _ _ c.requires w.in_default-digit_of.ensures c.in-Some.ensures.cases.0 c.bad_at-in_default-digit_of.ensures
    ]
