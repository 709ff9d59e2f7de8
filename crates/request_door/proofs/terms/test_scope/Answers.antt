use Rattle.std.proofs.Common.{inl, inr, refl}
use Rattle.request_door.proofs.terms.test_scope.Goals as goal

pub returns-then-lacks_end-2 : goal.returns-then-lacks_end-2
returns-then-lacks_end-2 c =
    let lacks = rw (c.as_str.ensures.value, c.in_ok-service.ensures) at c.if-lacks_end-2.ensures in
    inl (inr (c.if-lacks_end.ensures, inl (lacks, refl)))

pub returns-then-lacks_end-3 : goal.returns-then-lacks_end-3
returns-then-lacks_end-3 c =
    let has = rw (c.as_str.ensures.value, c.in_ok-service.ensures) at c.if-lacks_end-2.ensures in
    let lacks = rw (c.as_str-2.ensures.value, c.in_ok-place.ensures) at c.if-lacks_end-3.ensures in
    inl (inr (c.if-lacks_end.ensures, inr (has, inl (lacks, refl))))

pub returns : goal.returns
returns c =
    let has = rw (c.as_str.ensures.value, c.in_ok-service.ensures) at c.if-lacks_end-2.ensures in
    let has_region = rw (c.as_str-2.ensures.value, c.in_ok-place.ensures) at c.if-lacks_end-3.ensures in
    (c.if-lacks_end.ensures, (has, (has_region, tt)))
