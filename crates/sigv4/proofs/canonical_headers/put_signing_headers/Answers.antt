use Rattle.std.proofs.Common.{refl}
use Rattle.sigv4.specs.Settings.{settings_of}
use Rattle.sigv4.proofs.HeaderLemmas.{header-form, held-same}
use Rattle.sigv4.proofs.canonical_headers.put_signing_headers.Goals as goal

pub returns-in_ok-put_optional-in-Headers-2 : goal.returns-in_ok-put_optional-in-Headers-2
returns-in_ok-put_optional-in-Headers-2 c = λ pairs holds.
    held-same {settings = settings_of c.args.settings.now} c.put_optional-in-Headers.new.signed.items refl
    (header-form (settings_of c.args.settings.now) c.args.added.now.date.now _ _ pairs c.in-Headers.is c.token_header.ensures c.header_payload-payload.ensures)
    (c.in_ok-put_optional-in-Headers-2.ensures _ (c.in_ok-put_optional-in-Headers.ensures _ (c.in_ok-put-in-Headers.ensures pairs holds)))
