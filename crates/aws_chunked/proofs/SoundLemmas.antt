-- How far bytes that aren't UTF-8 begin a text.
use Rattle.std.proofs.Common.{◌≡◌, ℕ, suc, ◌+◌, ◌<◌, ◌≤◌, ◌&&◌, Bool, true, false, nat_lt, List, [], ◌∷◌, ◌++◌, length, length-drop, take, drop, get_or, All, IsTrue, Option, Some, None, unwrap_or, inl, inr, refl, ap, sym, subst, ◌∙◌, arith, append_assoc, ltb-true, ne_eqb, drop-cons}
use Rattle.std.specs.Prelude.{if◌then◌else◌}
use Rattle.std.specs.Int.{is_in_range}
use Rattle.std.specs.Str.{IsUtf8, IsValidUpTo}
use Rattle.std.specs.Str.Lossy.{error_len_after_one, error_len_after_two, error_len_of_some, second_byte_max, second_byte_min, utf8_error_len}
use Rattle.std.proofs.lemmas.Bool.{and_parts, cases_lt, false≢true, le-leb, leb-true}
use Rattle.std.proofs.lemmas.List.{get_or-drop}
use Rattle.std.proofs.lemmas.List.Elements.{All-cons, All-nil}
use Rattle.std.proofs.lemmas.Str.{IsUtf8-append}
use Rattle.std.proofs.Math.Seq.{take-add}
use Rattle.http_header.specs.Token.{is_value_byte}
use Rattle.simdutf8.specs.Steps.{IsClosed, Step, StepsThen, first, later, least_after, most_after, second}
use Rattle.simdutf8.specs.Tracks.{last_three}
use Rattle.simdutf8.proofs.Chars.{StepsThen-IsUtf8, closed-IsUtf8, least_is, most_is}
use Rattle.simdutf8.proofs.StepsLemmas.{StepsThen-append, StepsThen_parts}
use Rattle.aws_chunked.specs.TailRests.{IsLongestFront}

out_of_range : (lo hi c : ℕ) → is_in_range lo hi c ≡ false → lo ≤ c → c ≤ hi → ⊥
out_of_range lo hi c is low high = false≢true (sym is ∙ (λ i. le-leb lo c low i && le-leb c hi high i))

in_range : (lo hi c : ℕ) → is_in_range lo hi c ≡ true → (lo ≤ c) × (c ≤ hi)
in_range lo hi c is =
    let parts = and_parts _ _ is in
    (leb-true lo c parts.0, leb-true c hi parts.1)

high_value : (b : ℕ) → 128 ≤ b → is_value_byte b ≡ true
high_value b high = grind arith

-- after such bytes some more end a character
Ends : ℕ → ℕ → ℕ → Type 0
Ends x y z = (more : List ℕ) × All (λ byte. IsTrue (is_value_byte byte)) more × StepsThen IsClosed x y z more

one_more : (b : ℕ) → 128 ≤ b → All (λ byte. IsTrue (is_value_byte byte)) (b ∷ [])
one_more b high = All-cons (λ byte. IsTrue (is_value_byte byte)) b [] (high_value b high) (All-nil (λ byte. IsTrue (is_value_byte byte)))

after_three : (b c d : ℕ) → (0xe0 ≤ b) × (b ≤ 0xf4) → (128 ≤ c) × (c < 192) → (128 ≤ d) × (d < 192) → Ends b c d
unfolding Ends
after_three b c d lead third fourth =
    elim (cases_lt b 0xf0) [
      | inl low ↦ ([], All-nil (λ byte. IsTrue (is_value_byte byte)), (low, omega (arith, third), omega (arith, fourth)))
      | inr high ↦ (
        128 ∷ [],
        one_more 128 (omega arith),
        (later (inl high) (omega (arith, fourth), omega (arith, fourth)) (omega arith, omega arith), (omega (arith, third), omega (arith, fourth), omega arith)),
      )
    ]

after_two : (z b c : ℕ) → z < 0xf0 → (0xc2 ≤ b) × (b ≤ 0xf4) → (128 ≤ c) × (c < 192) → Ends z b c
unfolding Ends
after_two z b c before lead third =
    elim (cases_lt b 0xe0) [
      | inl low ↦ ([], All-nil (λ byte. IsTrue (is_value_byte byte)), (before, low, omega (arith, third)))
      | inr high ↦ (
          let end = after_three b c 128 (high, lead.1) third (omega arith, omega arith) in (
            128 ∷ end.0,
            All-cons (λ byte. IsTrue (is_value_byte byte)) 128 end.0 (high_value 128 (omega arith)) end.1,
            (later (inr high) (omega (arith, third), omega (arith, third)) (omega arith, omega arith), end.2),
          ))
    ]

least_continues : (b : ℕ) → (128 ≤ least_after b) × (least_after b < 192) × (least_after b ≤ most_after b)
least_continues b = (omega (arith, least_is b), omega (arith, least_is b), omega (arith, least_is b, most_is b))

continues : (b c : ℕ) → least_after b ≤ c → c ≤ most_after b → (128 ≤ c) × (c < 192)
continues b c low high = (omega (arith, low, least_is b), omega (arith, high, most_is b))

after_one : (y z b : ℕ) → y < 0xf0 → z < 0xc0 → (0xc2 ≤ b) × (b ≤ 0xf4) → Ends y z b
unfolding Ends
after_one y z b before last lead =
    let c = least_after b in
    let continues_ = least_continues b in
    let end = after_two z b c (omega (arith, last)) lead (continues_.0, continues_.1) in (
      c ∷ end.0,
      All-cons (λ byte. IsTrue (is_value_byte byte)) c end.0 (high_value c continues_.0) end.1,
      (second (before, omega (arith, last)) lead (omega arith, continues_.2), end.2),
    )

-- so many of the bytes begin characters, after such bytes, and none go on with the next
record Part (x y z : ℕ) (bytes : List ℕ) (n : ℕ) : Type 0 where
  low : n ≤ length bytes
  more : List ℕ
  more_are : All (λ byte. IsTrue (is_value_byte byte)) more
  begins : StepsThen IsClosed x y z (take n bytes ++ more)
  stops : n < length bytes → (behind : List ℕ) → StepsThen IsClosed x y z (take n bytes ++ get_or bytes n 0 ∷ behind) → ⊥

-- no front of the bytes ends a character
IsNone : ℕ → ℕ → ℕ → List ℕ → Type 0
IsNone x y z bytes = (k : ℕ) → 0 < k → StepsThen IsClosed x y z (take k bytes) → ⊥

-- a byte that begins no character
no_lead : (x y z b : ℕ) (behind : List ℕ) → IsClosed x y z → is_in_range 0xC2 0xF4 b ≡ false → (IsClosed y z b → b < 128 → ⊥) → StepsThen IsClosed x y z (b ∷ behind) → ⊥
no_lead x y z b behind closed other none steps =
    elim steps.0 [
      | first p q ↦ elim q [ inl low ↦ none (omega (arith, closed), omega (arith, closed), omega (arith, low)) low | inr high ↦ after high behind steps.1 ]
      | second p q r ↦ absurd (omega (arith, closed, q))
      | later p q r ↦ absurd (omega (arith, closed, p))
    ]
  where
    after : 0xc0 ≤ b → (bs : List ℕ) → StepsThen IsClosed y z b bs → ⊥
    after high [] ends = omega (arith, high, ends)
    after high (c ∷ bs) steps_ = elim steps_.0 [
      | first p q ↦ omega (arith, high, p)
      | second p q r ↦ out_of_range 0xC2 0xF4 b other q.0 q.1
      | later p q r ↦ omega (arith, closed, p)
    ]

other_part : (x y z b : ℕ) (bytes : List ℕ) → IsClosed x y z → IsNone x y z (b ∷ bytes) → is_in_range 0xC2 0xF4 b ≡ false → Part x y z (b ∷ bytes) 0
unfolding IsNone
other_part x y z b bytes closed none other = record {
  low = omega arith;
  more = [];
  more_are = All-nil (λ byte. IsTrue (is_value_byte byte));
  begins = closed;
  stops = λ low behind steps. no_lead x y z b behind closed other (λ after ascii. none 1 (omega arith) (first closed (inl ascii), after)) steps;
}

begin : (x y z b : ℕ) → IsClosed x y z → 0xc2 ≤ b → Step x y z b
begin x y z b closed lead = first closed (inr (omega (arith, lead)))

one_part : (x y z b : ℕ) (bytes : List ℕ) → IsClosed x y z → (0xc2 ≤ b) × (b ≤ 0xf4)
    → (1 < length (b ∷ bytes) → (behind : List ℕ) → StepsThen IsClosed x y z (b ∷ get_or (b ∷ bytes) 1 0 ∷ behind) → ⊥) → Part x y z (b ∷ bytes) 1
unfolding Ends
one_part x y z b bytes closed lead stops =
    let end = after_one y z b (omega (arith, closed)) (omega (arith, closed)) lead in record {
      low = omega arith;
      more = end.0;
      more_are = end.1;
      begins = (begin x y z b closed lead.0, end.2);
      stops = stops;
    }

-- a second byte that doesn't go on
no_second : (x y z b c : ℕ) (behind : List ℕ) → IsClosed x y z → (0xc2 ≤ b) × (b ≤ 0xf4) → is_in_range (second_byte_min b) (second_byte_max b) c ≡ false
    → StepsThen IsClosed x y z (b ∷ c ∷ behind) → ⊥
no_second x y z b c behind closed lead other steps =
    elim steps.1.0 [
      | first p q ↦ omega (arith, lead, p)
      | second p q r ↦ out_of_range (second_byte_min b) (second_byte_max b) c other r.0 r.1
      | later p q r ↦ omega (arith, closed, p)
    ]

two_part : (x y z b c : ℕ) (bytes : List ℕ) → IsClosed x y z → (0xc2 ≤ b) × (b ≤ 0xf4) → (least_after b ≤ c) × (c ≤ most_after b)
    → (2 < length (b ∷ c ∷ bytes) → (behind : List ℕ) → StepsThen IsClosed x y z (b ∷ c ∷ get_or (b ∷ c ∷ bytes) 2 0 ∷ behind) → ⊥) → Part x y z (b ∷ c ∷ bytes) 2
unfolding Ends
two_part x y z b c bytes closed lead next stops =
    let end = after_two z b c (omega (arith, closed)) lead (continues b c next.0 next.1) in record {
      low = omega arith;
      more = end.0;
      more_are = end.1;
      begins = (begin x y z b closed lead.0, (second (omega (arith, closed), omega (arith, closed)) lead next, end.2));
      stops = stops;
    }

two_steps : (x y z b c : ℕ) → IsClosed x y z → (0xc2 ≤ b) × (b ≤ 0xf4) → (least_after b ≤ c) × (c ≤ most_after b) → b < 0xe0 → StepsThen IsClosed x y z (b ∷ c ∷ [])
two_steps x y z b c closed lead next low =
    let third = continues b c next.0 next.1 in
    (begin x y z b closed lead.0, (second (omega (arith, closed), omega (arith, closed)) lead next, (omega (arith, closed), low, omega (arith, third))))

-- a third byte that doesn't go on
no_third : (x y z b c d : ℕ) (behind : List ℕ) → IsClosed x y z → (0xc2 ≤ b) × (b ≤ 0xf4) → (least_after b ≤ c) × (c ≤ most_after b)
    → (StepsThen IsClosed x y z (b ∷ c ∷ []) → ⊥) → is_in_range 0x80 0xBF d ≡ false → StepsThen IsClosed x y z (b ∷ c ∷ d ∷ behind) → ⊥
no_third x y z b c d behind closed lead next none other steps =
    elim (cases_lt b 0xe0) [
      | inl low ↦ none (two_steps x y z b c closed lead next low)
      | inr high ↦ elim steps.1.1.0 [
        | first p q ↦ omega (arith, high, p)
        | second p q r ↦ omega (arith, high, p)
        | later p q r ↦ out_of_range 0x80 0xBF d other r.0 (omega (arith, r.1))
      ]
    ]

three_part : (x y z b c d : ℕ) (bytes : List ℕ) → IsClosed x y z → (0xc2 ≤ b) × (b ≤ 0xf4) → (least_after b ≤ c) × (c ≤ most_after b) → (128 ≤ d) × (d < 192)
    → (StepsThen IsClosed x y z (b ∷ c ∷ []) → ⊥)
    → (3 < length (b ∷ c ∷ d ∷ bytes) → (behind : List ℕ) → StepsThen IsClosed x y z (b ∷ c ∷ d ∷ get_or (b ∷ c ∷ d ∷ bytes) 3 0 ∷ behind) → ⊥)
    → Part x y z (b ∷ c ∷ d ∷ bytes) 3
unfolding Ends
three_part x y z b c d bytes closed lead next third none stops =
    elim (cases_lt b 0xe0) [
      | inl low ↦ absurd (none (two_steps x y z b c closed lead next low))
      | inr high ↦ (
          let cont = continues b c next.0 next.1 in
          let end = after_three b c d (high, lead.1) cont third in record {
            low = omega arith;
            more = end.0;
            more_are = end.1;
            begins = (
              begin x y z b closed lead.0,
              (
                second (omega (arith, closed), omega (arith, closed)) lead next,
                (later (inr high) (omega (arith, cont), omega (arith, cont)) (omega (arith, third), omega (arith, third)), end.2),
              ),
            );
            stops = stops;
          })
    ]

three_steps : (x y z b c d : ℕ) → IsClosed x y z → (0xe0 ≤ b) × (b ≤ 0xf4) → (least_after b ≤ c) × (c ≤ most_after b) → (128 ≤ d) × (d < 192)
    → (more : List ℕ) → StepsThen IsClosed b c d more → StepsThen IsClosed x y z (b ∷ c ∷ d ∷ more)
three_steps x y z b c d closed lead next third more steps =
    let cont = continues b c next.0 next.1 in (
      begin x y z b closed (omega (arith, lead)),
      (
        second (omega (arith, closed), omega (arith, closed)) (omega (arith, lead), lead.1) next,
        (later (inr lead.0) (omega (arith, cont), omega (arith, cont)) (omega (arith, third), omega (arith, third)), steps),
      ),
    )

-- a fourth byte that doesn't go on, for no character has ended
no_fourth : (x y z b c d e : ℕ) (behind : List ℕ) → IsClosed x y z → (0xc2 ≤ b) × (b ≤ 0xf4) → (least_after b ≤ c) × (c ≤ most_after b) → (128 ≤ d) × (d < 192)
    → (StepsThen IsClosed x y z (b ∷ c ∷ []) → ⊥) → (StepsThen IsClosed x y z (b ∷ c ∷ d ∷ []) → ⊥) → (StepsThen IsClosed x y z (b ∷ c ∷ d ∷ e ∷ []) → ⊥)
    → StepsThen IsClosed x y z (b ∷ c ∷ d ∷ e ∷ behind) → ⊥
no_fourth x y z b c d e behind closed lead next third two three four steps =
    let cont = continues b c next.0 next.1 in
    elim (cases_lt b 0xe0) [
      | inl low ↦ two (two_steps x y z b c closed lead next low)
      | inr high ↦ elim (cases_lt b 0xf0) [
        | inl low ↦ three (three_steps x y z b c d closed (high, lead.1) next third [] (low, omega (arith, cont), omega (arith, third)))
        | inr top ↦ elim steps.1.1.1.0 [
          | first p q ↦ omega (arith, top, p)
          | second p q r ↦ omega (arith, top, p)
          | later p q r ↦ four (three_steps x y z b c d closed (high, lead.1) next third (e ∷ []) (later p q r, (omega (arith, cont), omega (arith, third), omega (arith, r))))
        ]
      ]
    ]

-- behind three bytes that begin a character
fourth_part : (x y z b c d : ℕ) (bytes : List ℕ) → IsClosed x y z → IsNone x y z (b ∷ c ∷ d ∷ bytes) → (0xc2 ≤ b) × (b ≤ 0xf4) → (least_after b ≤ c) × (c ≤ most_after b)
    → (128 ≤ d) × (d < 192)
    → Part x y z (b ∷ c ∷ d ∷ bytes) (unwrap_or (if nat_lt (length (b ∷ c ∷ d ∷ bytes)) 4 then None else Some 3) (length (b ∷ c ∷ d ∷ bytes)))
unfolding IsNone
fourth_part x y z b c d [] closed none lead next third = three_part x y z b c d [] closed lead next third (none 2 (omega arith)) (λ low. absurd (omega (arith, low)))
fourth_part x y z b c d (e ∷ bytes) closed none lead next third = by (nat_lt (length (b ∷ c ∷ d ∷ e ∷ bytes)) 4) refl
  where
    by : (t : Bool) → nat_lt (length (b ∷ c ∷ d ∷ e ∷ bytes)) 4 ≡ t
        → Part x y z (b ∷ c ∷ d ∷ e ∷ bytes) (unwrap_or (if t then None else Some 3) (length (b ∷ c ∷ d ∷ e ∷ bytes)))
    by true is = absurd (omega (arith, ltb-true (length (b ∷ c ∷ d ∷ e ∷ bytes)) 4 is))
    by false is = three_part x y z b c d (e ∷ bytes) closed lead next third (none 2 (omega arith))
        (λ low behind steps. no_fourth x y z b c d e behind closed lead next third (none 2 (omega arith)) (none 3 (omega arith)) (none 4 (omega arith)) steps)

-- behind two
third_part : (x y z b c : ℕ) (bytes : List ℕ) → IsClosed x y z → IsNone x y z (b ∷ c ∷ bytes) → (0xc2 ≤ b) × (b ≤ 0xf4) → (least_after b ≤ c) × (c ≤ most_after b)
    → Part x y z (b ∷ c ∷ bytes) (unwrap_or (error_len_after_two (b ∷ c ∷ bytes)) (length (b ∷ c ∷ bytes)))
unfolding IsNone
third_part x y z b c [] closed none lead next = two_part x y z b c [] closed lead next (λ low. absurd (omega (arith, low)))
third_part x y z b c (d ∷ bytes) closed none lead next = by (nat_lt (length (b ∷ c ∷ d ∷ bytes)) 3) refl
  where
    third_by : (s : Bool) → is_in_range 0x80 0xBF d ≡ s
        → Part x y z (b ∷ c ∷ d ∷ bytes)
        (unwrap_or (if s then (if nat_lt (length (b ∷ c ∷ d ∷ bytes)) 4 then None else Some 3) else Some 2) (length (b ∷ c ∷ d ∷ bytes)))
    third_by true is = fourth_part x y z b c d bytes closed none lead next
        (let low = in_range 0x80 0xBF d is in (low.0, omega (arith, low.1)))
    third_by false is = two_part x y z b c (d ∷ bytes) closed lead next
        (λ low behind steps. no_third x y z b c d behind closed lead next (none 2 (omega arith)) is steps)

    by : (t : Bool) → nat_lt (length (b ∷ c ∷ d ∷ bytes)) 3 ≡ t
        → Part x y z (b ∷ c ∷ d ∷ bytes)
        (unwrap_or (if t then None else (if is_in_range 0x80 0xBF d then (if nat_lt (length (b ∷ c ∷ d ∷ bytes)) 4 then None else Some 3) else Some 2))
        (length (b ∷ c ∷ d ∷ bytes)))
    by true is = absurd (omega (arith, ltb-true (length (b ∷ c ∷ d ∷ bytes)) 3 is))
    by false is = third_by (is_in_range 0x80 0xBF d) refl

-- behind a first byte
lead_part : (x y z b : ℕ) (bytes : List ℕ) → IsClosed x y z → IsNone x y z (b ∷ bytes) → (0xc2 ≤ b) × (b ≤ 0xf4)
    → Part x y z (b ∷ bytes) (unwrap_or (error_len_after_one (b ∷ bytes)) (length (b ∷ bytes)))
unfolding IsNone
lead_part x y z b [] closed none lead = one_part x y z b [] closed lead (λ low. absurd (omega (arith, low)))
lead_part x y z b (c ∷ bytes) closed none lead = by (nat_lt (length (b ∷ c ∷ bytes)) 2) refl
  where
    second_by : (s : Bool) → is_in_range (second_byte_min b) (second_byte_max b) c ≡ s
        → Part x y z (b ∷ c ∷ bytes) (unwrap_or (if s then error_len_after_two (b ∷ c ∷ bytes) else Some 1) (length (b ∷ c ∷ bytes)))
    second_by true is = third_part x y z b c bytes closed none lead (in_range (second_byte_min b) (second_byte_max b) c is)
    second_by false is = one_part x y z b (c ∷ bytes) closed lead (λ low behind steps. no_second x y z b c behind closed lead is steps)

    by : (t : Bool) → nat_lt (length (b ∷ c ∷ bytes)) 2 ≡ t
        → Part x y z (b ∷ c ∷ bytes)
        (unwrap_or (if t then None else (if is_in_range (second_byte_min b) (second_byte_max b) c then error_len_after_two (b ∷ c ∷ bytes) else Some 1))
        (length (b ∷ c ∷ bytes)))
    by true is = absurd (omega (arith, ltb-true (length (b ∷ c ∷ bytes)) 2 is))
    by false is = second_by (is_in_range (second_byte_min b) (second_byte_max b) c) refl

error_is : (b : ℕ) (bytes : List ℕ) → is_in_range 0xC2 0xF4 b ≡ true → utf8_error_len (b ∷ bytes) ≡ error_len_after_one (b ∷ bytes)
unfolding utf8_error_len
error_is b bytes lead =
    ap (λ (t : Bool). if t then None else error_len_of_some (b ∷ bytes)) (ne_eqb (length (b ∷ bytes)) 0 (omega arith))
    ∙ ap (λ (t : Bool). if t then error_len_after_one (b ∷ bytes) else Some 1) lead

-- ## Behind the longest front that is a text

closed_after : (front : List ℕ) → IsUtf8 front → IsClosed (last_three 0 0 0 front).0 (last_three 0 0 0 front).1 (last_three 0 0 0 front).2
closed_after front is = ((StepsThen_parts IsClosed 0 0 0 front).0 ((StepsThen-IsUtf8 front).1 is)).1

none_after : (value : List ℕ) (n : ℕ) → IsValidUpTo value n
    → IsNone (last_three 0 0 0 (take n value)).0 (last_three 0 0 0 (take n value)).1 (last_three 0 0 0 (take n value)).2 (drop n value)
unfolding IsNone
none_after value n up k some steps =
    let t = last_three 0 0 0 (take n value) in
    let rest = closed-IsUtf8 t.0 t.1 t.2 (take k (drop n value)) (closed_after (take n value) up.front) steps in
    up.longest (n + k) (omega (arith, some)) (subst IsUtf8 (sym (take-add n k value)) (IsUtf8-append (take n value) (take k (drop n value)) up.front rest))

from_part : (value : List ℕ) (n p : ℕ) → IsValidUpTo value n
    → Part (last_three 0 0 0 (take n value)).0 (last_three 0 0 0 (take n value)).1 (last_three 0 0 0 (take n value)).2 (drop n value) p → IsLongestFront value (n + p)
from_part value n p up part =
    let front = take n value in
    let rest = drop n value in
    let t = last_three 0 0 0 front in
    let closed = closed_after front up.front in
    let more = part.more in record {
      low = omega (arith, up.short, part.low, length-drop n value);
      more = more;
      more_are = part.more_are;
      begins = subst IsUtf8 (sym (append_assoc front (take p rest) more) ∙ ap (λ (l : List ℕ). l ++ more) (sym (take-add n p value)))
          (IsUtf8-append front (take p rest ++ more) up.front (closed-IsUtf8 t.0 t.1 t.2 (take p rest ++ more) closed part.begins));
      stops = λ low behind is.
          let b = get_or value (n + p) 0 in
          let whole = subst IsUtf8
          (append_assoc (take (n + p) value) (b ∷ []) behind ∙ ap (λ (l : List ℕ). l ++ (b ∷ behind)) (take-add n p value)
          ∙ append_assoc front (take p rest) (b ∷ behind)
          ∙ ap (λ (d : ℕ). front ++ (take p rest ++ d ∷ behind)) (sym (get_or-drop n value p 0))) is in
          part.stops (omega (arith, low, length-drop n value)) behind
          ((StepsThen-append IsClosed 0 0 0 front (take p rest ++ get_or rest p 0 ∷ behind)).0 ((StepsThen-IsUtf8 (front ++ (take p rest ++ get_or rest p 0 ∷ behind))).1 whole)).1;
    }

pub sound_other : (value : List ℕ) (n : ℕ) → IsValidUpTo value n → is_in_range 0xC2 0xF4 (get_or value n 0) ≡ false → IsLongestFront value n
sound_other value n up other =
    let t = last_three 0 0 0 (take n value) in
    let parted = drop-cons value n 0 up.short in
    subst (IsLongestFront value) (omega arith)
    (from_part value n 0 up
    (subst (λ (r : List ℕ). Part t.0 t.1 t.2 r 0) (sym parted)
    (other_part t.0 t.1 t.2 (get_or value n 0) (drop (suc n) value) (closed_after (take n value) up.front)
    (subst (IsNone t.0 t.1 t.2) parted (none_after value n up)) other)))

pub sound_lead : (value : List ℕ) (n m : ℕ) → IsValidUpTo value n → is_in_range 0xC2 0xF4 (get_or value n 0) ≡ true
    → m ≡ n + unwrap_or (utf8_error_len (drop n value)) (length (drop n value)) → IsLongestFront value m
sound_lead value n m up lead is =
    let t = last_three 0 0 0 (take n value) in
    let b = get_or value n 0 in
    let behind = drop (suc n) value in
    let parted = drop-cons value n 0 up.short in
    subst (IsLongestFront value) (sym is)
    (from_part value n (unwrap_or (utf8_error_len (drop n value)) (length (drop n value))) up
    (subst (λ (r : List ℕ). Part t.0 t.1 t.2 r (unwrap_or (utf8_error_len r) (length r))) (sym parted)
    (subst (λ (e : Option ℕ). Part t.0 t.1 t.2 (b ∷ behind) (unwrap_or e (length (b ∷ behind)))) (sym (error_is b behind lead))
    (lead_part t.0 t.1 t.2 b behind (closed_after (take n value) up.front) (subst (IsNone t.0 t.1 t.2) parted (none_after value n up)) (in_range 0xC2 0xF4 b lead)))))

-- ## What the reader of values knows

pub sound_before : (value : List ℕ) (n m : ℕ) → m ≡ n → IsValidUpTo value n → false ≡ is_in_range 0xC2 0xF4 (get_or value m 0) → IsLongestFront value m
sound_before value n m same up other = sound_other value m (subst (IsValidUpTo value) (sym same) up) (sym other)

pub sound_some : (value : List ℕ) (n m part : ℕ) → m ≡ n → IsValidUpTo value n → true ≡ is_in_range 0xC2 0xF4 (get_or value m 0)
    → Some part ≡ utf8_error_len (drop n value) → IsLongestFront value (m + part)
sound_some value n m part same up lead is =
    sound_lead value n (m + part) up (ap (λ (k : ℕ). is_in_range 0xC2 0xF4 (get_or value k 0)) (sym same) ∙ sym lead)
    (λ i. same i + unwrap_or (is i) (length (drop n value)))

pub sound_none : (value : List ℕ) (n m : ℕ) → m ≡ n → IsValidUpTo value n → true ≡ is_in_range 0xC2 0xF4 (get_or value m 0)
    → None ≡ utf8_error_len (drop n value) → IsLongestFront value (length value)
sound_none value n m same up lead is =
    sound_lead value n (length value) up (ap (λ (k : ℕ). is_in_range 0xC2 0xF4 (get_or value k 0)) (sym same) ∙ sym lead)
    (whole ∙ ap (λ (e : Option ℕ). n + unwrap_or e (length (drop n value))) is)
  where
    whole : length value ≡ n + length (drop n value)
    whole = omega (arith, length-drop n value, up.short)
