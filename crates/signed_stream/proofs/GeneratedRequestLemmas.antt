-- The generated request is signed, and not refused.
use Rattle.std.proofs.Common.{◌≡◌, ℕ, zero, suc, ◌+◌, ◌/◌, ◌<◌, ◌&&◌, ◌||◌, ◌==◌, inl, inr, Bool, true, false, not, IsTrue, List, [], ◌∷◌, ◌++◌, length, take, Some, None, refl, sym, ap, ◌∙◌, subst, arith, codes}
use Rattle.std.specs.Prelude.{All, slice_index, string_bytes, ◌⊎◌}
use Rattle.std.specs.List.{list_all}
use Rattle.http_header.specs.Token.{is_value_byte}
use Rattle.std.proofs.lemmas.Bool.{and_parts, or_right, not-true, eq-eqb, false≢true}
use Rattle.std.specs.Cmp.Lexicographic.{slice_cmp}
use Rattle.std.specs.Ordering.{eq_by_cmp, nat_cmp}
use Rattle.std.specs.declared.cmp.Ordering.{Ordering}
use Rattle.std.proofs.lemmas.Map.Text.{is_eq-slice_cmp}
use Rattle.std.proofs.lemmas.Slice.Eq.{bytes_eq-Decides}
use Rattle.std.proofs.lemmas.List.Folds.{list_all-append}
use Rattle.std.proofs.lemmas.List.Elements.{All-cons, All-nil}
use Rattle.http_uri.specs.ByteClasses.{is_authority_byte, is_scheme_byte}
use Rattle.http_uri.specs.Grammar.{IsAbsoluteForm, IsAuthority, IsPathInput, IsUriText, MayFollow}
use Rattle.http_uri.specs.declared.uri.Uri.{Uri}
use Rattle.http_uri.proofs.PathLemmas.{IsPathAndQuery_slash}
use Rattle.smithy_core.specs.Civil.{civil_of, date}
use Rattle.smithy_core.specs.CivilText.{date_of, two_digits}
use Rattle.smithy_core.specs.Moment.{Instant}
use Rattle.smithy_http.specs.Target.{Target}
use Rattle.sigv4.specs.Canonical.{canonical_headers, credential, is_signed, joined_names, names, ordered_set}
use Rattle.sigv4.specs.Host.{host_text}
use Rattle.sigv4.specs.Parameters.{SpellsParts}
use Rattle.sigv4.specs.Refusal.{is_value, unfit, unfit_signed_target}
use Rattle.smithy_core.specs.declared.identity.Identity.{Identity}
use Rattle.smithy_core.specs.declared.request.HttpRequest.{HttpRequest}
use Rattle.sigv4.specs.Request.{Case}
use Rattle.sigv4.specs.Signed.{authorization, parameters}
use Rattle.sigv4.proofs.SetLemmas.{among-set, is_among}
use Rattle.sigv4.proofs.SignatureLemmas.{authorization-value}
use Rattle.sigv4.proofs.FitLemmas.{digits-value}
use Rattle.eventstream.specs.Key.{scope}
use Rattle.aws_auth.specs.MessageSigner.{SignerState}
use Rattle.aws_auth.specs.Options.{default_options}
use Rattle.signed_stream.specs.Case.{request_moment}
use Rattle.signed_stream.specs.Streaming.{stream_wanted}
use Rattle.signed_stream.specs.declared.streaming.StreamOptions.{StreamOptions}
use Rattle.signed_stream.specs.Command.{Wanted}
use Rattle.signed_stream.specs.Generate.{AreGeneratedOptions, IsGeneratedIdentity, generated_case, generated_moment, generated_signer, generated_target}
use Rattle.signed_stream.specs.Plan.{TargetRead, TargetSpells, accepted, unaccepted, unread}
use Rattle.signed_stream.specs.Sign.{SealsFor, Unsigned, case_fault, identity_case, request_fault}
use Rattle.signed_stream.specs.Status.{Ending, RunFault, no_memory, refused, stream_ending}
use Rattle.signed_stream.specs.declared.status.StreamFault.{StreamFault}
use Rattle.signed_stream.specs.declared.status.StreamFault.TheVariants as faults
use Rattle.signed_stream.specs.declared.form.Form.TheVariants.{Raw}
use Rattle.signed_stream.proofs.TargetLemmas.{reads_one, reads_one_way}

-- ## The target

-- a byte of an authority that isn't `:`, `[` or `]`
abbrev is_host_byte : ℕ → Bool
is_host_byte b = is_authority_byte b && (not (b == 58) && (not (b == 91) && not (b == 93)))

abbrev host : List ℕ
host = codes "gen.amazonaws.com"

-- each byte at a place of a list passes
at_place : (test : ℕ → Bool) (bytes : List ℕ) (i : ℕ) → list_all test bytes ≡ true → i < length bytes → test (slice_index bytes i) ≡ true
at_place test [] i all before = absurd (omega arith)
at_place test (b ∷ bytes) zero all before = (and_parts (test b) (list_all test bytes) all).0
at_place test (b ∷ bytes) (suc i) all before = at_place test bytes i (and_parts (test b) (list_all test bytes) all).1 (omega arith)

all_pass : (test : ℕ → Bool) (bytes : List ℕ) → list_all test bytes ≡ true → All (λ b. IsTrue (test b)) bytes
all_pass test [] all = All-nil (λ b. IsTrue (test b))
all_pass test (b ∷ bytes) all =
    let parts = and_parts (test b) (list_all test bytes) all in All-cons (λ b. IsTrue (test b)) b bytes parts.0 (all_pass test bytes parts.1)

apart : (a b : ℕ) → not (a == b) ≡ true → a ≡ b → ⊥
apart a b other same = false≢true (sym (not-true _ other) ∙ eq-eqb a b same)

host_follows : (front : List ℕ) (b : ℕ) → is_host_byte b ≡ true → MayFollow front b
host_follows front b is =
    let first = and_parts _ _ is in
    let second = and_parts _ _ first.1 in
    let third = and_parts _ _ second.1 in
    record {
      byte = first.0;
      colons = λ same. absurd (apart b 58 second.0 same);
      opening = λ same. absurd (apart b 91 third.0 same);
      closing = λ same. absurd (apart b 93 third.1 same);
    }

is_authority : IsAuthority host
is_authority = record {
  nonempty = omega arith;
  bytes = λ i before. host_follows (take i host) (slice_index host i) (at_place is_host_byte host i refl before);
  closed = refl;
  one_colon = omega arith;
  no_percent = refl;
  has_host = λ same. cc;
}

slash_input : IsPathInput (codes "/")
slash_input = record { start = inr refl; short = omega arith; kept = IsPathAndQuery_slash }

absolute : IsAbsoluteForm (codes "https://gen.amazonaws.com/") (codes "https") host (codes "/")
absolute = record {
  name = codes "https";
  tail = codes "/";
  spelled = refl;
  is_scheme = (all_pass is_scheme_byte (codes "https") refl, omega arith);
  normal = refl;
  is_authority = is_authority;
  is_tail = inr (refl, slash_input, refl);
}

is_uri : IsUriText (codes "https://gen.amazonaws.com/") (Some (codes "https")) (Some host) (codes "/")
is_uri = (omega arith, absolute)

some_apart : (text : List ℕ) → Some text ≡ None → ⊥
some_apart text is = cc

abbrev generated_uri : Uri
generated_uri = record {
  scheme = Some (codes "https");
  authority = Some host;
  path_and_query = codes "/";
  absolute = λ scheme same. refl;
  authority_alone = λ none. absurd (some_apart (codes "https") none);
}

spells_target : SpellsParts (codes "https://gen.amazonaws.com/") generated_target
spells_target = (generated_uri, (is_uri, λ alone. let none = alone.0 in cc), refl)

-- what the target spells, where it is read
target_is : (target : TargetRead) → TargetSpells (codes "https://gen.amazonaws.com/") target → (target ≡ unread) ⊎ (target ≡ accepted generated_target)
target_is unread spelled = inl refl
target_is unaccepted spelled = absurd (reads_one_way (codes "https://gen.amazonaws.com/") generated_target spelled spells_target)
target_is (accepted target) spelled = inr (ap accepted (reads_one (codes "https://gen.amazonaws.com/") target generated_target spelled spells_target))

-- ## The request

-- a date and what comes after it may be a header's value, where that may
date-value : (t : Instant) (rest : List ℕ) → is_value rest ≡ true → is_value (date t ++ rest) ≡ true
unfolding date date_of
date-value t rest more =
    let c = civil_of t in
    let day = two_digits c.day ++ rest in
    let month = two_digits c.month ++ day in
    let year = two_digits c.year ++ month in
    digits-value (c.year / 100) year (digits-value c.year month (digits-value c.month day (digits-value c.day rest more)))

credential-value : is_value (credential generated_case) ≡ true
unfolding credential generated_case scope date date_of
credential-value = list_all-append is_value_byte (codes "AKIDEXAMPLE/") (date generated_moment ++ codes "/us-east-1/gen/aws4_request") ∙ date-value generated_moment (codes "/us-east-1/gen/aws4_request") refl

abbrev order : List ℕ → List ℕ → Ordering
order = slice_cmp nat_cmp

same_self : (a : List ℕ) → eq_by_cmp order a a ≡ true
same_self a = is_eq-slice_cmp a a ∙ (bytes_eq-Decides a a).1 refl

same_text : (a b : List ℕ) → eq_by_cmp order a b ≡ true → a ≡ b
same_text a b same = (bytes_eq-Decides a b).0 (sym (is_eq-slice_cmp a b) ∙ same)

-- names that may each be a header's value may be one together
joined-value : (texts : List (List ℕ)) → ((text : List ℕ) → is_among text texts ≡ true → is_value text ≡ true) → is_value (joined_names texts) ≡ true
joined-value [] all = refl
joined-value (a ∷ []) all = all a (rw (same_self a) refl)
joined-value (a ∷ b ∷ texts) all =
    let others = joined-value (b ∷ texts) (λ text is. all text (rw is (or_right (eq_by_cmp order text a) true refl))) in
    list_all-append is_value_byte a (59 ∷ joined_names (b ∷ texts)) ∙ rw (all a (rw (same_self a) refl), others) refl

-- the names that are signed
two_names : (text : List ℕ) → is_among text (codes "host" ∷ codes "x-amz-date" ∷ []) ≡ true → is_value text ≡ true
two_names text is = by_first (eq_by_cmp order text (codes "host")) refl is
  where
    by_second : (date : Bool) → eq_by_cmp order text (codes "x-amz-date") ≡ date → (date || false) ≡ true → is_value text ≡ true
    by_second true same is = rw (same_text text (codes "x-amz-date") same) refl
    by_second false same is = cc

    by_first : (host : Bool) → eq_by_cmp order text (codes "host") ≡ host → (host || (eq_by_cmp order text (codes "x-amz-date") || false)) ≡ true → is_value text ≡ true
    by_first true same is = rw (same_text text (codes "host") same) refl
    by_first false same is = by_second (eq_by_cmp order text (codes "x-amz-date")) refl is

names_are : names generated_case ≡ ordered_set (codes "host" ∷ codes "x-amz-date" ∷ [])
unfolding names canonical_headers generated_case is_signed host_text
names_are = refl

names-value : is_value (joined_names (names generated_case)) ≡ true
names-value = rw names_are (joined-value (ordered_set (codes "host" ∷ codes "x-amz-date" ∷ [])) (λ text is. two_names text (sym (among-set text (codes "host" ∷ codes "x-amz-date" ∷ [])) ∙ is)))

authorization_fits : is_value (authorization generated_case) ≡ true
authorization_fits = authorization-value generated_case ∙ rw (credential-value, names-value) refl

request_fits : unfit generated_case ≡ None
unfolding unfit generated_case host_text
request_fits = rw authorization_fits refl

target_fits : unfit_signed_target generated_case ≡ None
unfolding unfit_signed_target parameters generated_case
target_fits = refl

pub case_fits : case_fault generated_case ≡ None
case_fits = rw (request_fits, target_fits) refl

-- ## What is answered for the request

-- the case of the generated request
case_is : (request : HttpRequest) (identity : Identity) (wanted : Wanted) → string_bytes request.method ≡ codes "POST" → request.headers ≡ [] → request.body ≡ [] → IsGeneratedIdentity identity
    → wanted.name ≡ codes "gen" → wanted.signing ≡ default_options → wanted.token_name ≡ None → wanted.skew_millis ≡ None
    → identity_case request identity (codes "us-east-1") wanted generated_moment generated_target ≡ generated_case
unfolding generated_case
case_is request identity wanted method headers body signs name signing token_name skew =
    rw (method, headers, body, signs.key_id, signs.token, signs.secret, name, signing, token_name, skew) refl

-- a fault that only wants memory says so
wants_memory : (fault : StreamFault) → stream_ending fault ≡ no_memory → fault ≡ faults.NoMemory
wants_memory faults.NoMemory is = refl
wants_memory faults.SinkFault is = cc
wants_memory fault is = cc

-- the request isn't refused
pub signing_wants : (case : Target → Case) (fault : StreamFault) → case generated_target ≡ generated_case
    → Unsigned (codes "https://gen.amazonaws.com/") generated_moment case (stream_ending fault) → fault ≡ faults.NoMemory
signing_wants case fault is fails_so = wants_memory fault (by_early (stream_ending fault) fails_so)
  where
    by_target : (target : TargetRead) → (target ≡ unread) ⊎ (target ≡ accepted generated_target) → (reason : RunFault) → request_fault generated_moment case target ≡ Some reason → ⊥
    by_target target (inl same) reason stopped = let none : None ≡ Some reason = rw same at stopped in cc
    by_target target (inr same) reason stopped = let none : None ≡ Some reason = rw (same, is, case_fits) at stopped in cc

    by_early : (early : Ending) → Unsigned (codes "https://gen.amazonaws.com/") generated_moment case early → early ≡ no_memory
    by_early (refused reason) unsigned = absurd (by_target unsigned.0 (target_is unsigned.0 unsigned.1) reason unsigned.2)
    by_early no_memory unsigned = refl
    by_early other unsigned = absurd unsigned

-- the signer goes on from the signature of the generated request
pub signing_seals : (case : Target → Case) (target : Target) (signer : SignerState (Unit {0})) → case generated_target ≡ generated_case
    → TargetSpells (codes "https://gen.amazonaws.com/") (accepted target) → SealsFor (case target) signer → SealsFor generated_case signer
signing_seals case target signer is spelled seals =
    let same : target ≡ generated_target = reads_one (codes "https://gen.amazonaws.com/") target generated_target spelled spells_target in
    subst (λ (c : Case). SealsFor c signer) is (subst (λ (t : Target). SealsFor (case t) signer) same seals)

-- the request, who signs it, and what is asked for, at the moment
pub record IsAsked (request : HttpRequest) (identity : Identity) (options : StreamOptions) (first : Instant) : Type 0 where
  pub method : string_bytes request.method ≡ codes "POST"
  pub target : string_bytes request.target ≡ codes "https://gen.amazonaws.com/"
  pub headers : request.headers ≡ []
  pub body : request.body ≡ []
  pub signs : IsGeneratedIdentity identity
  pub asks : AreGeneratedOptions options
  pub at : first ≡ generated_moment

module _ (request : HttpRequest) (identity : Identity) (options : StreamOptions) (first : Instant) (asked : IsAsked request identity options first) where
  -- its case, by what its target spells
  abbrev case_at : Instant → Target → Case
  case_at at = identity_case request identity (codes "us-east-1") (stream_wanted options Raw) at

  case_asked : case_at generated_moment generated_target ≡ generated_case
  case_asked = case_is request identity (stream_wanted options Raw) asked.method asked.headers asked.body asked.signs asked.asks.name asked.asks.signing asked.asks.token_name asked.asks.skew_millis

  moment_asked : request_moment (stream_wanted options Raw) generated_moment ≡ generated_moment
  moment_asked = rw (asked.asks.signing, asked.asks.skew_millis) refl

  pub asked_wants : (fault : StreamFault) → Unsigned (string_bytes request.target) (request_moment (stream_wanted options Raw) first) (case_at first) (stream_ending fault) → fault ≡ faults.NoMemory
  asked_wants fault unsigned =
      signing_wants (case_at generated_moment) fault case_asked
      (subst (λ (m : Instant). Unsigned (codes "https://gen.amazonaws.com/") m (case_at generated_moment) (stream_ending fault)) moment_asked
      (subst (λ (text : List ℕ). Unsigned text (request_moment (stream_wanted options Raw) generated_moment) (case_at generated_moment) (stream_ending fault)) asked.target
      (subst (λ (m : Instant). Unsigned (string_bytes request.target) (request_moment (stream_wanted options Raw) m) (case_at m) (stream_ending fault)) asked.at unsigned)))

  pub asked_seals : (target : Target) (signer : SignerState (Unit {0})) → TargetSpells (string_bytes request.target) (accepted target) → SealsFor (case_at first target) signer → SealsFor generated_case signer
  asked_seals target signer spelled seals =
      signing_seals (case_at generated_moment) target signer case_asked
      (subst (λ (text : List ℕ). TargetSpells text (accepted target)) asked.target spelled)
      (subst (λ (m : Instant). SealsFor (case_at m target) signer) asked.at seals)

pub signer_is : generated_case.signer ≡ generated_signer
unfolding generated_case
signer_is = refl
