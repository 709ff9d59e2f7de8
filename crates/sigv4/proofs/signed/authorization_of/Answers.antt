use Rattle.std.proofs.Common.{◌≡◌, ℕ, List, ◌++◌, ◌∙◌, append_assoc, codes, string_bytes}
use Rattle.sigv4.proofs.signed.authorization_of.Goals as goal

-- six texts, one after another
joined : (a b c d e f : List ℕ) → ((((a ++ b) ++ c) ++ d) ++ e) ++ f ≡ a ++ (b ++ (c ++ (d ++ (e ++ f))))
joined a b c d e f =
    append_assoc (((a ++ b) ++ c) ++ d) e f ∙ append_assoc ((a ++ b) ++ c) d (e ++ f) ∙ append_assoc (a ++ b) c (d ++ (e ++ f)) ∙ append_assoc a b (c ++ (d ++ (e ++ f)))

pub returns : goal.returns
returns c =
    rw (c.in_ok-push_str-6.ensures.bytes, c.in_ok-push_str-5.ensures.bytes, c.in_ok-push_str-4.ensures.bytes, c.in_ok-push_str-3.ensures.bytes, c.in_ok-push_str-2.ensures.bytes, c.in_ok-push_str.ensures.bytes, c.in_ok-text.ensures.bytes, c.as_str-2.ensures.value, c.as_str.ensures.value)
    (joined (codes "AWS4-HMAC-SHA256 Credential=") (string_bytes c.args.texts.now.credential) (codes ", SignedHeaders=") (string_bytes c.args.texts.now.names) (codes ", Signature=") c.args.signature.now)
