-- What the signed request of a case shows of its signed names.
use Rattle.std.proofs.Common.{◌≡◌, ℕ, true, false, List, refl, sym, ap, subst}
use Rattle.std.specs.Prelude.{bytes_eq, codes}
use Rattle.smithy_core.specs.TextPairs.{AreLower, lower, named_values}
use Rattle.smithy_http.specs.Target.{Target}
use Rattle.sigv4.specs.Canonical.{added_host, canonical_headers, given_headers, hosted_headers, joined_names, names}
use Rattle.sigv4.specs.Query.{Pair}
use Rattle.sigv4.specs.Refusal.{is_name}
use Rattle.sigv4.specs.Request.{Case}
use Rattle.sigv4.specs.Signed.{signed_headers}
use Rattle.sigv4.proofs.SetLemmas.{is_among}
use Rattle.request_check.specs.Recomputed.{carried_names}
use Rattle.request_check.proofs.CaseLemmas.{among_parts, is_named, names_carried, not_authorization}
use Rattle.request_check.proofs.HeaderFormLemmas as header
use Rattle.request_check.proofs.QueryFormLemmas as query
use Rattle.request_check.proofs.SentLemmas.{given_lower, lower_here, lower_optional}

-- of a signed request with this target: its headers have their names in lower case; its signed names are header names in lower case, the host among them, and
-- are carried as they are; and each has the values there that were signed
pub record ShowsNames (c : Case) (target : Target) : Type 0 where
  pub lower_headers : AreLower (signed_headers c)
  pub lower_names : (name : List ℕ) → is_among name (names c) ≡ true → lower name ≡ name
  pub named : (name : List ℕ) → is_among name (names c) ≡ true → is_name name ≡ true
  pub others : (name : List ℕ) → is_among name (names c) ≡ true → bytes_eq (codes "authorization") name ≡ false
  pub host : is_among (codes "host") (names c) ≡ true
  pub carried : carried_names (joined_names (names c)) ≡ names c
  pub values : (name : List ℕ) → bytes_eq (codes "authorization") name ≡ false
      → named_values (hosted_headers target (signed_headers c)) name ≡ named_values (canonical_headers c) name

pub shows_in_headers : (c : Case) (is : header.SignsHeaders c) → ShowsNames c c.target
shows_in_headers c is = record {
  lower_headers = header.sent_lower c is;
  lower_names = λ name among. lower_here (canonical_headers c) name (header.canonical_lower c is) (among_parts c name among).1;
  named = is_named c (header.all_named c is);
  others = λ name among. not_authorization c.settings name is.usual (among_parts c name among).0;
  host = header.host_among c is;
  carried = names_carried c (header.all_named c is) (codes "host") (header.host_among c is);
  values = header.values_same c is;
}

pub shows_in_query : (c : Case) (is : query.SignsQuery c) → ShowsNames c (query.sent_target c is)
shows_in_query c is =
    let low : AreLower (canonical_headers c) = subst AreLower (sym (query.canonical_are c is))
    (lower_optional (codes "host") (added_host c.target c.headers) (given_headers c.headers) refl (given_lower c.headers is.lower)) in
    record {
      lower_headers = subst AreLower (sym (query.headers_are c is)) is.lower;
      lower_names = λ name among. lower_here (canonical_headers c) name low (among_parts c name among).1;
      named = is_named c (query.all_named c is);
      others = λ name among. not_authorization c.settings name is.usual (among_parts c name among).0;
      host = query.host_among c is;
      carried = names_carried c (query.all_named c is) (codes "host") (query.host_among c is);
      values = λ name other. ap (λ (headers : List Pair). named_values headers name) (query.hosted_same c is);
    }
