use Rattle.sigv4.proofs.canonical_headers.signed_headers.Goals as goal

pub returns : goal.returns
returns c =
    c.in_ok-sort_by_name.ensures _ _ (c.in_ok-put_signing_headers.ensures _ (c.in_ok-put_optional.ensures _ c.in_ok-put_given.ensures))
