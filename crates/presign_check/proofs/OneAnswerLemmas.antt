-- Of the tests of a presigned request one is the first that is met.
use Rattle.std.proofs.Common.{◌≡◌, ℕ, List, [], ◌∷◌, Option, Some, None, Ok, Err, ℤ, ◌≤ℤ◌, ◌⊎◌, inl, inr, refl, sym, ap, ◌∙◌, subst}
use Rattle.std.specs.Prelude.{Result, codes, string_bytes}
use Rattle.http_uri.specs.declared.uri.Uri.{Uri}
use Rattle.smithy_core.specs.TextPairs.{first_value}
use Rattle.smithy_core.specs.declared.request.HttpRequest.{HttpRequest}
use Rattle.smithy_http.specs.QueryWriter.{SpellsTarget}
use Rattle.smithy_http.specs.Target.{Target, target_of}
use Rattle.eventstream.specs.Key.{Signer}
use Rattle.sigv4.specs.Query.{decoded}
use Rattle.request_check.specs.Recomputed.{recomputed, unfit_sent}
use Rattle.request_check.proofs.SealLemmas.{absent}
use Rattle.sigv4.specs.declared.settings.SignatureLocation.TheVariants.{QueryParams}
use Rattle.presign_check.specs.OneAnswer.{HasOneAnswer, IsSameAnswer, IsSameTest}
use Rattle.presign_check.specs.Parameters.{PresignTexts, StandOnce, all_parts, first_count_fault}
use Rattle.presign_check.specs.Presigned.{ChecksPresigned, HasParameters, HasTerms, HoldsBoth, IsByQuery, IsInTime, IsOfKey, MeetsCount, MeetsEarly, MeetsFirst, MeetsForged, MeetsForm, MeetsHeader, MeetsKey, MeetsLate, MeetsNone, MeetsUnfit, MeetsUnspelled, PresignInput, Reading, own_signature, unfit_reading}
use Rattle.presign_check.specs.Terms.{IsFirstBad, PresignTerms, ParametersState, formed_parts, until_of}
use Rattle.presign_check.specs.declared.fault.PresignFault.{PresignFault}
use Rattle.presign_check.specs.declared.fault.PresignFault.TheVariants.{BadPart, Expired, HeaderForm, Mismatch, Missing, NoMemory, Repeated, Signing, TooEarly, UnknownKey}
use Rattle.presign_check.specs.declared.part.PresignPart.{PresignPart}
use Rattle.presign_check.proofs.AcceptanceLemmas.{late_enough, none_and_some}
use Rattle.presign_check.proofs.ParameterLemmas.{all_pass, one_texts}
use Rattle.presign_check.proofs.SignatureLemmas.{one_target, spelled_once}
use Rattle.presign_check.proofs.TermLemmas.{in_form, one_terms}

-- ---- faults

same_refl : (fault : PresignFault) → IsSameTest fault fault
same_refl (Mismatch carried recomputed) = (refl, refl)
same_refl HeaderForm = refl
same_refl (Missing part) = refl
same_refl (Repeated part) = refl
same_refl (BadPart part) = refl
same_refl UnknownKey = refl
same_refl (TooEarly date) = refl
same_refl (Expired until) = refl
same_refl (Signing error) = refl
same_refl NoMemory = refl

same_by : (f g other : PresignFault) → f ≡ other → g ≡ other → IsSameTest f g
same_by f g other p q = subst (λ (fault : PresignFault). IsSameTest f fault) (p ∙ sym q) (same_refl f)

both_held : (carried own : List ℕ) (f g : PresignFault) → HoldsBoth carried own f → HoldsBoth carried own g → IsSameTest f g
both_held carried own (Mismatch a b) (Mismatch c d) p q = (q.0 ∙ sym p.0, q.1 ∙ sym p.1)
both_held carried own (Mismatch a b) _ p q = absurd q
both_held carried own _ g p q = absurd p

-- ---- one reading

module _ (request : HttpRequest) where
  same_target : (u v : Uri) → SpellsTarget (string_bytes request.target) u → SpellsTarget (string_bytes request.target) v → target_of u ≡ target_of v
  same_target u v p q = one_target (string_bytes request.target) u v p.0 q

  same_texts : (u v : Uri) (a b : PresignTexts) → HasParameters request u a → HasParameters request v b → a ≡ b
  same_texts u v a b p q =
      one_texts (decoded (target_of v)) a b
      (subst (λ (t : Target). StandOnce (decoded t) a) (same_target u v p.by_query.spelled q.by_query.spelled) p.once) q.once

  module _ (signer : Signer) (a b : Reading) (p : HasTerms request signer a) (q : HasTerms request signer b) where
    targets : target_of a.uri ≡ target_of b.uri
    targets = same_target a.uri b.uri p.whole.by_query.spelled q.whole.by_query.spelled

    texts : a.texts ≡ b.texts
    texts = same_texts a.uri b.uri a.texts b.texts p.whole q.whole

    terms : a.terms ≡ b.terms
    terms =
        one_terms signer.region signer.name b.texts a.terms b.terms
        (subst (λ (t : PresignTexts). ParametersState signer.region signer.name t a.terms) texts p.stated) q.stated

-- ---- a test isn't met by what passed it

module _ (asked : PresignInput) where
  no_unspelled : (fault : PresignFault) (uri : Uri) → MeetsUnspelled asked.request fault → SpellsTarget (string_bytes asked.request.target) uri → ⊥
  no_unspelled fault uri meets spelled = spelled_once (string_bytes asked.request.target) uri spelled meets.0

  no_header : (fault : PresignFault) (uri : Uri) → MeetsHeader asked.request fault → IsByQuery asked.request uri → ⊥
  no_header fault uri meets passed = none_and_some (first_value asked.request.headers (codes "authorization")) passed.unauthorized meets.2

  no_count : (fault : PresignFault) (uri : Uri) (texts : PresignTexts) → MeetsCount asked.request fault → HasParameters asked.request uri texts → ⊥
  no_count fault uri texts meets passed =
      absent (sym (all_pass (decoded (target_of uri)) texts passed.once)
      ∙ (ap (λ (t : Target). first_count_fault (decoded t) all_parts) (same_target asked.request uri meets.0 passed.by_query.spelled meets.1.spelled) ∙ meets.2))

  no_form : (fault : PresignFault) (reading : Reading) → MeetsForm asked fault → HasTerms asked.request asked.signer reading → ⊥
  no_form fault reading meets passed =
      in_form asked.signer.region asked.signer.name meets.1 reading.terms fault
      (subst (λ (t : PresignTexts). ParametersState asked.signer.region asked.signer.name t reading.terms)
      (same_texts asked.request reading.uri meets.0 reading.texts meets.1 passed.whole meets.2) passed.stated) meets.3

  no_key : (fault : PresignFault) (reading : Reading) → MeetsKey asked fault → IsOfKey asked reading → ⊥
  no_key fault reading meets passed =
      meets.2.0 (ap (λ (t : PresignTerms). t.key_id) (terms asked.request asked.signer meets.0 reading meets.1 passed.has) ∙ passed.key)

  no_early : (fault : PresignFault) (reading : Reading) → MeetsEarly asked fault → IsOfKey asked reading → reading.terms.at.secs ≤ℤ asked.now.secs → ⊥
  no_early fault reading meets passed begun =
      late_enough asked.now.secs meets.0.terms.at.secs
      (subst (λ (t : PresignTerms). t.at.secs ≤ℤ asked.now.secs) (terms asked.request asked.signer reading meets.0 passed.has meets.1.has) begun) meets.2.0

  no_late : (fault : PresignFault) (reading : Reading) → MeetsLate asked fault → IsInTime asked reading → ⊥
  no_late fault reading meets passed =
      late_enough asked.now.secs (until_of reading.terms)
      (subst (λ (t : PresignTerms). until_of t ≤ℤ asked.now.secs) (terms asked.request asked.signer meets.0 reading meets.1.has passed.own.has) meets.3.0) passed.good.lasts

  no_unfit : (fault : PresignFault) (reading : Reading) → MeetsUnfit asked fault → IsInTime asked reading → unfit_reading asked.request reading ≡ None → ⊥
  no_unfit fault reading meets passed fit =
      absent (sym fit ∙ (ap (λ (t : Target). unfit_sent t asked.request.headers) (targets asked.request asked.signer reading meets.0 passed.own.has meets.1.own.has) ∙ meets.2.1))

  own_same : (a b : Reading) → HasTerms asked.request asked.signer a → HasTerms asked.request asked.signer b
      → own_signature asked.request asked.settings asked.payload asked.signer a ≡ own_signature asked.request asked.settings asked.payload asked.signer b
  own_same a b p q =
      let target = targets asked.request asked.signer a b p q in
      let text = texts asked.request asked.signer a b p q in
      let term = terms asked.request asked.signer a b p q in
      λ i. recomputed (string_bytes asked.request.method) (target i) asked.request.headers asked.settings asked.payload asked.signer (record {
        place = QueryParams;
        key_id = (term i).key_id;
        at = (term i).at;
        names = (text i).names;
        signature = (text i).signature;
        expires = Some (term i).seconds;
      })

  carried_same : (a b : Reading) → HasTerms asked.request asked.signer a → HasTerms asked.request asked.signer b → a.texts.signature ≡ b.texts.signature
  carried_same a b p q = ap (λ (t : PresignTexts). t.signature) (texts asked.request asked.signer a b p q)

  -- ---- what those after a test passed

  abbrev FromLate : PresignFault → Type 0
  FromLate f = MeetsLate asked f ⊎ (MeetsUnfit asked f ⊎ MeetsForged asked f)

  abbrev FromKey : PresignFault → Type 0
  FromKey f = MeetsKey asked f ⊎ (MeetsEarly asked f ⊎ FromLate f)

  abbrev FromCount : PresignFault → Type 0
  FromCount f = MeetsCount asked.request f ⊎ (MeetsForm asked f ⊎ FromKey f)

  begun_late : (f : PresignFault) → FromLate f → (reading : Reading) × IsOfKey asked reading × (reading.terms.at.secs ≤ℤ asked.now.secs)
  begun_late f (inl m) = (m.0, m.1, m.2)
  begun_late f (inr (inl m)) = (m.0, m.1.own, m.1.good.begun)
  begun_late f (inr (inr m)) = (m.0, m.1.own, m.1.good.begun)

  own_early : (f : PresignFault) → MeetsEarly asked f ⊎ FromLate f → (reading : Reading) × IsOfKey asked reading
  own_early f (inl m) = (m.0, m.1)
  own_early f (inr m) = let later = begun_late f m in (later.0, later.1)

  told_key : (f : PresignFault) → FromKey f → (reading : Reading) × HasTerms asked.request asked.signer reading
  told_key f (inl m) = (m.0, m.1)
  told_key f (inr m) = let later = own_early f m in (later.0, later.1.has)

  whole_form : (f : PresignFault) → MeetsForm asked f ⊎ FromKey f → (uri : Uri) × (texts : PresignTexts) × HasParameters asked.request uri texts
  whole_form f (inl m) = (m.0, m.1, m.2)
  whole_form f (inr m) = let later = told_key f m in (later.0.uri, later.0.texts, later.1.whole)

  query_count : (f : PresignFault) → FromCount f → (uri : Uri) × IsByQuery asked.request uri
  query_count f (inl m) = (m.0, m.1)
  query_count f (inr m) = let later = whole_form f m in (later.0, later.2.by_query)

  spelled_header : (f : PresignFault) → MeetsHeader asked.request f ⊎ FromCount f → (uri : Uri) × SpellsTarget (string_bytes asked.request.target) uri
  spelled_header f (inl m) = (m.0, m.1)
  spelled_header f (inr m) = let later = query_count f m in (later.0, later.1.spelled)

  -- ---- two first tests

  same_part : (region name : List ℕ) (t : PresignTexts) (parts : List PresignPart) (a b : PresignPart) → IsFirstBad region name t parts a → IsFirstBad region name t parts b → a ≡ b
  same_part region name t [] a b p q = absurd p
  same_part region name t (next ∷ parts) a b (inl p) (inl q) = p.1 ∙ sym q.1
  same_part region name t (next ∷ parts) a b (inl p) (inr q) = absurd (q.0 p.0)
  same_part region name t (next ∷ parts) a b (inr p) (inl q) = absurd (p.0 q.0)
  same_part region name t (next ∷ parts) a b (inr p) (inr q) = same_part region name t parts a b p.1 q.1

  some_fault : (f g : PresignFault) → ◌≡◌ {A = Option PresignFault} (Some f) (Some g) → f ≡ g
  some_fault f g e = cc

  same_count : (f g : PresignFault) → MeetsCount asked.request f → MeetsCount asked.request g → IsSameTest f g
  same_count f g m n =
      same_by f g g (some_fault f g (sym m.2
      ∙ (ap (λ (t : Target). first_count_fault (decoded t) all_parts) (same_target asked.request m.0 n.0 m.1.spelled n.1.spelled) ∙ n.2))) refl

  same_form : (f g : PresignFault) → MeetsForm asked f → MeetsForm asked g → IsSameTest f g
  same_form f g m n =
      let text = same_texts asked.request m.0 n.0 m.1 n.1 m.2 n.2 in
      let first = subst (λ (t : PresignTexts). IsFirstBad asked.signer.region asked.signer.name t formed_parts m.3.0) text m.3.1 in
      let part = same_part asked.signer.region asked.signer.name n.1 formed_parts m.3.0 n.3.0 first n.3.1 in
      same_by f g (BadPart n.3.0) (m.3.2 ∙ ap (λ (p : PresignPart). BadPart p) part) n.3.2

  same_early : (f g : PresignFault) → MeetsEarly asked f → MeetsEarly asked g → IsSameTest f g
  same_early f g m n =
      same_by f g (TooEarly n.0.terms.at.secs)
      (m.2.1 ∙ ap (λ (t : PresignTerms). TooEarly t.at.secs) (terms asked.request asked.signer m.0 n.0 m.1.has n.1.has)) n.2.1

  same_late : (f g : PresignFault) → MeetsLate asked f → MeetsLate asked g → IsSameTest f g
  same_late f g m n =
      same_by f g (Expired (until_of n.0.terms))
      (m.3.1 ∙ ap (λ (t : PresignTerms). Expired (until_of t)) (terms asked.request asked.signer m.0 n.0 m.1.has n.1.has)) n.3.1

  same_unfit : (f g : PresignFault) → MeetsUnfit asked f → MeetsUnfit asked g → IsSameTest f g
  same_unfit f g m n =
      let target = targets asked.request asked.signer m.0 n.0 m.1.own.has n.1.own.has in
      let refused = sym m.2.1 ∙ (ap (λ (t : Target). unfit_sent t asked.request.headers) target ∙ n.2.1) in
      same_by f g (Signing n.2.0) (m.2.2 ∙ cc (refused)) n.2.2

  same_forged : (f g : PresignFault) → MeetsForged asked f → MeetsForged asked g → IsSameTest f g
  same_forged f g m n =
      let p = m.1.own.has in
      let q = n.1.own.has in
      both_held n.0.texts.signature (own_signature asked.request asked.settings asked.payload asked.signer n.0) f g
      (subst (λ (t : List ℕ). HoldsBoth n.0.texts.signature t f) (own_same m.0 n.0 p q)
      (subst (λ (t : List ℕ). HoldsBoth t (own_signature asked.request asked.settings asked.payload asked.signer m.0) f) (carried_same m.0 n.0 p q) m.2.both)) n.2.both

  from_unfit : (f g : PresignFault) → MeetsUnfit asked f ⊎ MeetsForged asked f → MeetsUnfit asked g ⊎ MeetsForged asked g → IsSameTest f g
  from_unfit f g (inl m) (inl n) = same_unfit f g m n
  from_unfit f g (inl m) (inr n) = absurd (no_unfit f n.0 m n.1 n.2.fit)
  from_unfit f g (inr m) (inl n) = absurd (no_unfit g m.0 n m.1 m.2.fit)
  from_unfit f g (inr m) (inr n) = same_forged f g m n

  timely : (f : PresignFault) → MeetsUnfit asked f ⊎ MeetsForged asked f → (reading : Reading) × IsInTime asked reading
  timely f (inl m) = (m.0, m.1)
  timely f (inr m) = (m.0, m.1)

  from_late : (f g : PresignFault) → FromLate f → FromLate g → IsSameTest f g
  from_late f g (inl m) (inl n) = same_late f g m n
  from_late f g (inl m) (inr n) = let later = timely g n in absurd (no_late f later.0 m later.1)
  from_late f g (inr m) (inl n) = let later = timely f m in absurd (no_late g later.0 n later.1)
  from_late f g (inr m) (inr n) = from_unfit f g m n

  from_early : (f g : PresignFault) → MeetsEarly asked f ⊎ FromLate f → MeetsEarly asked g ⊎ FromLate g → IsSameTest f g
  from_early f g (inl m) (inl n) = same_early f g m n
  from_early f g (inl m) (inr n) = let later = begun_late g n in absurd (no_early f later.0 m later.1 later.2)
  from_early f g (inr m) (inl n) = let later = begun_late f m in absurd (no_early g later.0 n later.1 later.2)
  from_early f g (inr m) (inr n) = from_late f g m n

  from_key : (f g : PresignFault) → FromKey f → FromKey g → IsSameTest f g
  from_key f g (inl m) (inl n) = same_by f g UnknownKey m.2.1 n.2.1
  from_key f g (inl m) (inr n) = let later = own_early g n in absurd (no_key f later.0 m later.1)
  from_key f g (inr m) (inl n) = let later = own_early f m in absurd (no_key g later.0 n later.1)
  from_key f g (inr m) (inr n) = from_early f g m n

  from_form : (f g : PresignFault) → MeetsForm asked f ⊎ FromKey f → MeetsForm asked g ⊎ FromKey g → IsSameTest f g
  from_form f g (inl m) (inl n) = same_form f g m n
  from_form f g (inl m) (inr n) = let later = told_key g n in absurd (no_form f later.0 m later.1)
  from_form f g (inr m) (inl n) = let later = told_key f m in absurd (no_form g later.0 n later.1)
  from_form f g (inr m) (inr n) = from_key f g m n

  from_count : (f g : PresignFault) → FromCount f → FromCount g → IsSameTest f g
  from_count f g (inl m) (inl n) = same_count f g m n
  from_count f g (inl m) (inr n) = let later = whole_form g n in absurd (no_count f later.0 later.1 m later.2)
  from_count f g (inr m) (inl n) = let later = whole_form f m in absurd (no_count g later.0 later.1 n later.2)
  from_count f g (inr m) (inr n) = from_form f g m n

  from_header : (f g : PresignFault) → MeetsHeader asked.request f ⊎ FromCount f → MeetsHeader asked.request g ⊎ FromCount g → IsSameTest f g
  from_header f g (inl m) (inl n) = same_by f g HeaderForm m.3 n.3
  from_header f g (inl m) (inr n) = let later = query_count g n in absurd (no_header f later.0 m later.1)
  from_header f g (inr m) (inl n) = let later = query_count f m in absurd (no_header g later.0 n later.1)
  from_header f g (inr m) (inr n) = from_count f g m n

  one_first : (f g : PresignFault) → MeetsFirst asked f → MeetsFirst asked g → IsSameTest f g
  one_first f g (inl m) (inl n) = same_by f g _ m.1 n.1
  one_first f g (inl m) (inr n) = let later = spelled_header g n in absurd (no_unspelled f later.0 m later.1)
  one_first f g (inr m) (inl n) = let later = spelled_header f m in absurd (no_unspelled g later.0 n later.1)
  one_first f g (inr m) (inr n) = from_header f g m n

  -- ---- none and a first

  none_first : (until : ℤ) (f : PresignFault) → MeetsNone asked until → MeetsFirst asked f → ⊥
  none_first until f none (inl m) = no_unspelled f none.0.uri m none.1.own.has.whole.by_query.spelled
  none_first until f none (inr (inl m)) = no_header f none.0.uri m none.1.own.has.whole.by_query
  none_first until f none (inr (inr (inl m))) = no_count f none.0.uri none.0.texts m none.1.own.has.whole
  none_first until f none (inr (inr (inr (inl m)))) = no_form f none.0 m none.1.own.has
  none_first until f none (inr (inr (inr (inr (inl m))))) = no_key f none.0 m none.1.own
  none_first until f none (inr (inr (inr (inr (inr (inl m)))))) = no_early f none.0 m none.1.own none.1.good.begun
  none_first until f none (inr (inr (inr (inr (inr (inr (inl m))))))) = no_late f none.0 m none.1
  none_first until f none (inr (inr (inr (inr (inr (inr (inr (inl m)))))))) = no_unfit f none.0 m none.1 none.2.fit
  none_first until f none (inr (inr (inr (inr (inr (inr (inr (inr m)))))))) =
      m.2.differs (carried_same m.0 none.0 m.1.own.has none.1.own.has ∙ (none.2.same ∙ own_same none.0 m.0 none.1.own.has m.1.own.has))

  one_none : (a b : ℤ) → MeetsNone asked a → MeetsNone asked b → b ≡ a
  one_none a b m n = n.3 ∙ (ap until_of (terms asked.request asked.signer n.0 m.0 n.1.own.has m.1.own.has) ∙ sym m.3)

-- ---- one answer

pub one_answer : (asked : PresignInput) → HasOneAnswer asked
one_answer asked = by
  where
    by : (answer other : Result ℤ PresignFault) → ChecksPresigned asked answer → ChecksPresigned asked other → IsSameAnswer answer other
    by (Ok until) (Ok later) m n = one_none asked until later m n
    by (Ok until) (Err g) m (inl n) = absurd (none_first asked until g m n)
    by (Ok until) (Err g) m (inr room) = room
    by (Err f) (Ok until) (inl m) n = absurd (none_first asked until f n m)
    by (Err f) (Ok until) (inr room) n = room
    by (Err f) (Err g) (inl m) (inl n) = inl (one_first asked f g m n)
    by (Err f) (Err g) (inl m) (inr room) = inr (inr room)
    by (Err f) (Err g) (inr room) n = inr (inl room)
