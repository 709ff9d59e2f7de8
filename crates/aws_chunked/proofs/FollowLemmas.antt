-- What follows the first parts of a text, one part behind another.
use Rattle.std.proofs.Common.{◌≡◌, ℕ, List, [], ◌∷◌, ◌++◌, refl, ap, sym, subst, ◌∙◌, append_assoc}
use Rattle.aws_chunked.specs.Body.{Trailer}
use Rattle.aws_chunked.specs.Reading.{StopsWhere}
use Rattle.aws_chunked.specs.Rests.{FollowsFront, Said, TextSays, first_byte}
use Rattle.aws_chunked.specs.declared.decode.fault.PartFault.{PartFault}
use Rattle.aws_chunked.proofs.PlaceLemmas.{stops_behind_word}

-- the same is said in other words
pub says_same : (Is : TextSays) (b c : List ℕ) (s z : List (List ℕ)) (t : List Trailer) (text other : List ℕ) → c ≡ b → z ≡ s → other ≡ text → Is b s t text → Is c z t other
says_same Is b c s z t text other body signatures same is =
    subst (λ (x : List ℕ). Is x z t other) (sym body)
    (subst (λ (x : List (List ℕ)). Is b x t other) (sym signatures)
    (subst (λ (x : List ℕ). Is b s t x) (sym same) is))

pub shares_first : (front text rest : List ℕ) → first_byte text ≡ first_byte rest → first_byte (front ++ text) ≡ first_byte (front ++ rest)
shares_first [] text rest same = same
shares_first (byte ∷ front) text rest same = refl

-- one part, and another behind it
pub follows_both : (Whole Mid Rest : TextSays) (body more all_body : List ℕ) (signatures others all_signatures : List (List ℕ)) (front next all_front before rest : List ℕ)
    → all_body ≡ body ++ more → all_signatures ≡ signatures ++ others → all_front ≡ front ++ next → before ≡ next ++ rest
    → FollowsFront Whole Mid body signatures front before → FollowsFront Mid Rest more others next rest → FollowsFront Whole Rest all_body all_signatures all_front rest
follows_both Whole Mid Rest body more all_body signatures others all_signatures front next all_front before rest bodies texts fronts parted one two = record {
  goes_on = λ b all_b s all_s t text all is_b is_s is part.
      one.goes_on (more ++ b) all_b (others ++ s) all_s t (next ++ text) all
      (is_b ∙ ap (λ (x : List ℕ). x ++ b) bodies ∙ append_assoc body more b)
      (is_s ∙ ap (λ (x : List (List ℕ)). x ++ s) texts ∙ append_assoc signatures others s)
      (is ∙ ap (λ (x : List ℕ). x ++ text) fronts ∙ append_assoc front next text)
      (two.goes_on b (more ++ b) s (others ++ s) t text (next ++ text) refl refl refl part);
  comes_so = λ all_b all_s t text all is same whole.
      let up = one.comes_so all_b all_s t (next ++ text) all (is ∙ ap (λ (x : List ℕ). x ++ text) fronts ∙ append_assoc front next text)
      (shares_first next text rest same ∙ ap first_byte (sym parted)) whole in
      let down = two.comes_so up.0 up.1 t text (next ++ text) refl same up.4 in (
        down.0,
        down.1,
        up.2 ∙ ap (λ (x : List ℕ). body ++ x) down.2 ∙ sym (append_assoc body more down.0) ∙ ap (λ (x : List ℕ). x ++ down.0) (sym bodies),
        up.3 ∙ ap (λ (x : List (List ℕ)). signatures ++ x) down.3 ∙ sym (append_assoc signatures others down.1) ∙ ap (λ (x : List (List ℕ)). x ++ down.1) (sym texts),
        down.4,
      );
}

-- another name of the same rest
pub follows_as : (Whole Rest : TextSays) (rest : List ℕ) → ((b : List ℕ) (s : List (List ℕ)) (t : List Trailer) (text : List ℕ) → Rest b s t text → Whole b s t text)
    → ((b : List ℕ) (s : List (List ℕ)) (t : List Trailer) (text : List ℕ) → first_byte text ≡ first_byte rest → Whole b s t text → Rest b s t text)
    → FollowsFront Whole Rest [] [] [] rest
follows_as Whole Rest rest goes_on comes_so = record {
  goes_on = λ b all_b s all_s t text all is_b is_s is part. says_same Whole b all_b s all_s t text all is_b is_s is (goes_on b s t text part);
  comes_so = λ all_b all_s t text all is same whole.
      (all_b, all_s, refl, refl, comes_so all_b all_s t text same (says_same Whole all_b all_b all_s all_s t all text refl refl (sym is) whole));
}

-- ## Where bytes stop

-- the rest stops the whole
pub stops_rest : (Whole Rest : TextSays) (body : List ℕ) (signatures : List (List ℕ)) (lead bytes rest : List ℕ) (fault : PartFault) → bytes ≡ lead ++ rest
    → FollowsFront Whole Rest body signatures lead rest → StopsWhere (Said Rest) (Said Rest) rest fault → StopsWhere (Said Whole) (Said Whole) bytes fault
stops_rest Whole Rest body signatures lead bytes rest fault parted follows told =
    stops_behind_word (Said Rest) (Said Rest) (Said Whole) (Said Whole) lead bytes rest fault parted
    (λ text is. (
      body ++ is.0,
      signatures ++ is.1,
      is.2,
      follows.goes_on is.0 (body ++ is.0) is.1 (signatures ++ is.1) is.2 text (lead ++ text) refl refl refl is.3,
    ))
    (λ text same is.
    let down = follows.comes_so is.0 is.1 is.2 text (lead ++ text) refl same is.3 in
    (down.0, down.1, is.2, down.4))
    told
