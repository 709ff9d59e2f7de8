use Rattle.std.proofs.Common.{◌≡◌, ◌++◌, [], ℕ, Bor, List, Option, map, unwrap_or, sym, ap, ◌∙◌}
use Rattle.std.proofs.lemmas.List.{map-append}
use Rattle.std.specs.Prelude.{option_copied}
use Rattle.http_uri.specs.Uri.{uri_query}
use Rattle.smithy_core.specs.TextPairs.{text_pairs}
use Rattle.smithy_core.proofs.OptionLemmas.{copied_or}
use Rattle.smithy_http.specs.QueryWriter.{escaped_pair}
use Rattle.sigv4.specs.Canonical.{token_pairs}
use Rattle.sigv4.specs.Query.{Pair, decoded, decoded_pairs, query}
use Rattle.sigv4.proofs.canonical_query.canonical_query.Goals as goal

pub returns : goal.returns
unfolding query decoded
returns c =
    let parameters = text_pairs c.args.parameters.now in
    let token = token_pairs c.args.token_name.now (option_copied c.args.token) in
    let given = decoded_pairs (unwrap_or (uri_query c.args.uri.now) []) in
    let text : c.unwrap_or.result.now ≡ unwrap_or (uri_query c.args.uri.now) [] =
    ap (λ (t : Bor (List ℕ)). t.now) c.unwrap_or.ensures ∙ copied_or c.query.result _ ∙ ap (λ (t : Option (List ℕ)). unwrap_or t []) c.query.ensures.value in
    let first : c.push_query.new.self ≡ map escaped_pair given =
    c.in_ok-push_query.ensures ∙ ap (λ (front : List Pair). front ++ map escaped_pair (decoded_pairs c.unwrap_or.result.now)) c.new-pairs.ensures
    ∙ ap (λ (t : List ℕ). map escaped_pair (decoded_pairs t)) text in
    let both : c.push_parameters.new.self ≡ map escaped_pair (given ++ parameters) =
    c.in_ok-push_parameters.ensures ∙ ap (λ (front : List Pair). front ++ map escaped_pair parameters) first ∙ sym (map-append escaped_pair given parameters) in
    let all : c.push_optional.new.self ≡ map escaped_pair (given ++ parameters ++ token) =
    c.in_ok-push_optional.ensures ∙ ap (λ (front : List Pair). front ++ map escaped_pair token) both ∙ sym (map-append escaped_pair (given ++ parameters) token) in
    rw all at c.into_text.ensures
