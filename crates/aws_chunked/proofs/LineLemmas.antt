-- A trailer's line: its name, its value and its end.
use Rattle.std.proofs.Common.{◌≡◌, ℕ, zero, suc, ◌+◌, ◌-◌, ◌<◌, ◌≤◌, Bool, true, false, ◌&&◌, not, List, [], ◌∷◌, ◌++◌, length, length-append, length-drop, take, drop, get_or, slice_index, All, IsTrue, IsUtf8, inl, inr, refl, ap, sym, subst, ◌∙◌, arith, append_assoc, append-nil, take-append-drop, take_all, drop_at, drop-cons, le-ltb, lt-ltb}
use Rattle.std.specs.Prelude.{codes}
use Rattle.std.specs.Char.{to_ascii_lowercase}
use Rattle.std.specs.Int.{is_in_range}
use Rattle.std.proofs.lemmas.Bool.{and_parts, cases_lt, false≢true, le-leb, leb-true}
use Rattle.std.proofs.lemmas.List.{append_cancel_left, get_or_append_left, take-append-le}
use Rattle.std.proofs.lemmas.List.Elements.{All-append, All-cons, All-get_or, All-head, All-nil, All-push, All-tail, All-take}
use Rattle.std.proofs.lemmas.Str.{IsUtf8-nil}
use Rattle.http_header.specs.Token.{is_token_byte, is_value_byte}
use Rattle.http_header.proofs.TokenLemmas.{IsUtf8-from_token}
use Rattle.smithy_core.specs.HeaderGrammar.{IsHeaderName, IsHeaderValue}
use Rattle.smithy_core.specs.TextPairs.{lower}
use Rattle.aws_chunked.specs.Body.{Trailer}
use Rattle.aws_chunked.specs.Decoded.{IsTrailer}
use Rattle.aws_chunked.specs.Reading.{Led, RefusesNext, StopsWhere}
use Rattle.aws_chunked.specs.Rests.{first_byte}
use Rattle.aws_chunked.specs.TailRests.{EndsRun, IsLine, IsNamePart, IsLongestFront, IsValuePart, is_name_byte}
use Rattle.aws_chunked.specs.Text.{crlf, trailer_line}
use Rattle.aws_chunked.specs.declared.decode.fault.PartFault.{PartFault}
use Rattle.aws_chunked.specs.declared.decode.fault.PartFault.TheVariants.{Bad}
use Rattle.aws_chunked.proofs.PlaceLemmas.{stops_behind_word, stops_first}
use Rattle.aws_chunked.proofs.RunLemmas.{run_ended, run_taken, run_within, same_first, same_run}

-- ## Bytes of a name

lowered : (b : ℕ) → 65 ≤ b → b < 91 → to_ascii_lowercase b ≡ b + 32
lowered b low high = rw (le-ltb b 65 low, lt-ltb b 91 high)

kept : (b : ℕ) → is_in_range 65 90 b ≡ false → to_ascii_lowercase b ≡ b
kept b other =
    elim (cases_lt b 65) [
      | inl low ↦ rw (lt-ltb b 65 low)
      | inr up ↦ elim (cases_lt b 91) [
        | inl low ↦ absurd (false≢true (sym other ∙ (λ i. le-leb 65 b up i && le-leb b 90 (omega (arith, low)) i)))
        | inr high ↦ rw (le-ltb b 65 up, le-ltb b 91 high)
      ]
    ]

not_upper : (b : ℕ) → to_ascii_lowercase b ≡ b → is_in_range 65 90 b ≡ false
not_upper b same = by (is_in_range 65 90 b) refl
  where
    by : (t : Bool) → is_in_range 65 90 b ≡ t → t ≡ false
    by false is = refl
    by true is =
        let parts = and_parts _ _ is in
        absurd (omega (arith, lowered b (leb-true 65 b parts.0) (omega (arith, leb-true b 90 parts.1)), same))

both_true : (x y : Bool) → x ≡ true → y ≡ false → (x && not y) ≡ true
both_true true false is other = refl
both_true true true is other = absurd (false≢true (sym other))
both_true false y is other = absurd (false≢true is)

parts_true : (x y : Bool) → (x && not y) ≡ true → (x ≡ true) × (y ≡ false)
parts_true true false is = (refl, refl)
parts_true true true is = absurd (false≢true is)
parts_true false y is = absurd (false≢true is)

-- the bytes of a name in lower case
pub name_bytes : (name : List ℕ) → All (λ byte. IsTrue (is_token_byte byte)) name → lower name ≡ name → All (λ byte. IsTrue (is_name_byte byte)) name
name_bytes [] all same = All-nil (λ byte. IsTrue (is_name_byte byte))
name_bytes (b ∷ name) all same =
    let first : to_ascii_lowercase b ≡ b = cc in
    let others : lower name ≡ name = cc in
    All-cons (λ byte. IsTrue (is_name_byte byte)) b name
    (both_true (is_token_byte b) (is_in_range 65 90 b) (All-head (λ byte. IsTrue (is_token_byte byte)) b name all) (not_upper b first))
    (name_bytes name (All-tail (λ byte. IsTrue (is_token_byte byte)) b name all) others)

bytes_token : (name : List ℕ) → All (λ byte. IsTrue (is_name_byte byte)) name → All (λ byte. IsTrue (is_token_byte byte)) name
bytes_token [] all = All-nil (λ byte. IsTrue (is_token_byte byte))
bytes_token (b ∷ name) all =
    All-cons (λ byte. IsTrue (is_token_byte byte)) b name
    (parts_true (is_token_byte b) (is_in_range 65 90 b) (All-head (λ byte. IsTrue (is_name_byte byte)) b name all)).0
    (bytes_token name (All-tail (λ byte. IsTrue (is_name_byte byte)) b name all))

bytes_lower : (name : List ℕ) → All (λ byte. IsTrue (is_name_byte byte)) name → lower name ≡ name
bytes_lower [] all = refl
bytes_lower (b ∷ name) all = λ i.
    kept b (parts_true (is_token_byte b) (is_in_range 65 90 b) (All-head (λ byte. IsTrue (is_name_byte byte)) b name all)).1 i
    ∷ bytes_lower name (All-tail (λ byte. IsTrue (is_name_byte byte)) b name all) i

colon_ends : is_name_byte 58 ≡ false
unfolding is_token_byte
colon_ends = refl

pub cr_ends : is_name_byte 13 ≡ false
unfolding is_token_byte
cr_ends = refl

a_is : is_name_byte 97 ≡ true
unfolding is_token_byte
a_is = refl

-- the name `a`
pub a_name : IsHeaderName (97 ∷ []) × (lower (97 ∷ []) ≡ 97 ∷ [])
a_name =
    let all = All-cons (λ byte. IsTrue (is_name_byte byte)) 97 [] a_is (All-nil (λ byte. IsTrue (is_name_byte byte))) in
    (((omega arith, bytes_token (97 ∷ []) all), omega arith), refl)

pub name_is : (name : List ℕ) → 0 < length name → length name ≤ 65535 → All (λ byte. IsTrue (is_name_byte byte)) name → IsHeaderName name × (lower name ≡ name)
name_is name some low all = (((some, bytes_token name all), low), bytes_lower name all)

pub name_utf8 : (name : List ℕ) → 0 < length name → All (λ byte. IsTrue (is_name_byte byte)) name → IsUtf8 name
name_utf8 name some all = IsUtf8-from_token name (some, bytes_token name all)

-- ## Names

-- no name, where none of its bytes stands first
pub no_name : (bytes : List ℕ) (fault : PartFault) → EndsRun is_name_byte bytes → fault ≡ Bad (length bytes) → StopsWhere IsNamePart (Led IsNamePart) bytes fault
no_name bytes fault ends told = subst (StopsWhere IsNamePart (Led IsNamePart) bytes) (sym told) ([], bytes, refl, refl, (codes "a:", (97 ∷ [], a_name.0, a_name.1, refl)), refuses bytes ends)
  where
    none : (text : List ℕ) → EndsRun is_name_byte text → Led IsNamePart text → ⊥
    none text ends_ led =
        let word = led.2 in
        let found = same_run is_name_byte [] word.0 text (58 ∷ led.1) (All-nil (λ byte. IsTrue (is_name_byte byte))) (name_bytes word.0 word.1.0.1 word.2) ends_ colon_ends
        (led.3 ∙ ap (λ (w : List ℕ). w ++ led.1) word.3 ∙ append_assoc word.0 (58 ∷ []) led.1) in
        omega (arith, word.1.0.0, ap length found.0)

    refuses : (back : List ℕ) → EndsRun is_name_byte back → RefusesNext (Led IsNamePart) [] back
    refuses [] ends_ = λ led. none [] tt led
    refuses (b ∷ back) ends_ = λ begins. none (b ∷ begins.0) ends_ begins.1

-- behind a name, which ends there or is as long as names are, a colon
name_ends : (name other text more : List ℕ) → All (λ byte. IsTrue (is_name_byte byte)) name → (length name < 65535 → EndsRun is_name_byte text) → IsHeaderName other
    → lower other ≡ other → name ++ text ≡ other ++ 58 ∷ more → text ≡ 58 ∷ more
name_ends name other text more all ends is same parted =
    elim (cases_lt (length name) 65535) [
      | inl short ↦ (same_run is_name_byte name other text (58 ∷ more) all (name_bytes other is.0.1 same) (ends short) colon_ends parted).1
      | inr long ↦ (
          let found = run_within is_name_byte name other 58 more text all colon_ends parted in
          let none : found.0 ≡ [] = empty found.0 (omega (arith, long, is.1, ap length found.1, length-append name found.0)) in
          append_cancel_left name text (58 ∷ more)
          (parted ∙ ap (λ (o : List ℕ). o ++ 58 ∷ more) (found.1 ∙ ap (λ (z : List ℕ). name ++ z) none ∙ append-nil name)))
    ]
  where
    empty : (zs : List ℕ) → length zs ≡ 0 → zs ≡ []
    empty [] none = refl
    empty (z ∷ zs) none = absurd (omega (arith, none))

pub colon_stops : (bytes name rest : List ℕ) (fault : PartFault) → bytes ≡ name ++ rest → 0 < length name → length name ≤ 65535 → All (λ byte. IsTrue (is_name_byte byte)) name
    → (length name < 65535 → EndsRun is_name_byte rest) → StopsWhere (λ word. word ≡ codes ":") (Led (λ word. word ≡ codes ":")) rest fault
    → StopsWhere IsNamePart (Led IsNamePart) bytes fault
colon_stops bytes name rest fault parted some low all ends told =
    let is = name_is name some low all in
    stops_behind_word (λ word. word ≡ codes ":") (Led (λ word. word ≡ codes ":")) IsNamePart (Led IsNamePart) name bytes rest fault parted
    (λ text same. (name, is.0, is.1, ap (λ (t : List ℕ). name ++ t) same))
    (λ text same led.
    let word = led.2 in (
      codes ":",
      led.1,
      refl,
      name_ends name word.0 text led.1 all (λ short. same_first is_name_byte text rest same (ends short)) word.1 word.2
          (led.3 ∙ ap (λ (w : List ℕ). w ++ led.1) word.3 ∙ append_assoc word.0 (58 ∷ []) led.1),
    ))
    told

-- ## Values

pub value_stops : (bytes value rest : List ℕ) (m : ℕ) (fault : PartFault) → bytes ≡ value ++ rest → All (λ byte. IsTrue (is_value_byte byte)) value
    → EndsRun is_value_byte rest → (IsUtf8 value → ⊥) → IsLongestFront value m → fault ≡ Bad (length (drop m bytes)) → StopsWhere IsValuePart (Led IsValuePart) bytes fault
value_stops bytes value rest m fault parted all ends not_text sound told =
    subst (StopsWhere IsValuePart (Led IsValuePart) bytes) (sym told) (
      take m bytes,
      drop m bytes,
      sym (take-append-drop m bytes),
      refl,
      (
        sound.more ++ crlf,
        (
          front ++ sound.more,
          sound.begins,
          All-append (λ byte. IsTrue (is_value_byte byte)) front sound.more front_all sound.more_are,
          ap (λ (f : List ℕ). f ++ (sound.more ++ crlf)) taken ∙ sym (append_assoc front sound.more crlf),
        ),
      ),
      subst (λ (f : List ℕ). RefusesNext (Led IsValuePart) f (drop m bytes)) (sym taken) (refuses (drop m bytes) refl),
    )
  where
    front : List ℕ
    front = take m value

    taken : take m bytes ≡ take m value
    taken = ap (take m) parted ∙ take-append-le m value rest sound.low

    front_all : All (λ byte. IsTrue (is_value_byte byte)) (take m value)
    front_all = All-take (λ byte. IsTrue (is_value_byte byte)) m value all

    refuses : (back : List ℕ) → drop m bytes ≡ back → RefusesNext (Led IsValuePart) (take m value) back
    refuses [] is = λ led.
        let word = led.2 in
        let same = led.3 ∙ ap (λ (w : List ℕ). w ++ led.1) word.3 ∙ append_assoc word.0 crlf led.1 in
        let found = run_within is_value_byte (take m value) word.0 13 (10 ∷ led.1) [] front_all refl (append-nil (take m value) ∙ same) in
        omega (
          arith,
          ap length same,
          length-append word.0 (crlf ++ led.1),
          ap length found.1,
          length-append (take m value) found.0,
        )
    refuses (byte ∷ back) is = λ begins.
        let led = begins.1 in
        let word = led.2 in
        let same = led.3 ∙ ap (λ (w : List ℕ). w ++ led.1) word.3 ∙ append_assoc word.0 crlf led.1 in
        elim (cases_lt m (length value)) [
          | inl short ↦ (
              let dropped : drop m bytes ≡ get_or value m 0 ∷ drop (suc m) bytes =
              drop-cons bytes m 0 (omega (arith, short, ap length parted, length-append value rest))
              ∙ ap (λ (b : ℕ). b ∷ drop (suc m) bytes) (ap (λ (l : List ℕ). get_or l m 0) parted ∙ get_or_append_left value rest 0 m short) in
              let next : byte ≡ get_or value m 0 = ap (λ (l : List ℕ). get_or l 0 0) (sym is ∙ dropped) in
              let found = run_within is_value_byte (take m value ++ byte ∷ []) word.0 13 (10 ∷ led.1) begins.0
              (All-push (λ byte. IsTrue (is_value_byte byte)) (take m value) byte front_all
              (subst (λ (b : ℕ). IsTrue (is_value_byte b)) (sym next) (All-get_or (λ byte. IsTrue (is_value_byte byte)) value m 0 short all))) refl same in
              sound.stops short found.0 (subst IsUtf8 (found.1 ∙ ap (λ (b : ℕ). (take m value ++ b ∷ []) ++ found.0) next) word.1))
          | inr long ↦ (
              let whole : take m value ≡ value = take_all m value long in
              let behind : rest ≡ byte ∷ back =
              sym (ap (drop m) parted ∙ drop_at value rest m (omega (arith, long, sound.low))) ∙ is in
              let found = same_run is_value_byte value word.0 (byte ∷ begins.0) (crlf ++ led.1) all word.2
              (same_first is_value_byte (byte ∷ begins.0) rest (ap first_byte (sym behind)) ends) refl
              (ap (λ (v : List ℕ). v ++ (byte ∷ begins.0)) (sym whole) ∙ sym (append_assoc (take m value) (byte ∷ []) begins.0) ∙ same) in
              not_text (subst IsUtf8 (sym found.0) word.1))
        ]

-- ## Lines

line_parts : (name value more : List ℕ) → trailer_line (name, value) ++ more ≡ name ++ 58 ∷ (value ++ (crlf ++ more))
line_parts name value more =
    append_assoc ((name ++ 58 ∷ []) ++ value) crlf more
    ∙ append_assoc (name ++ 58 ∷ []) value (crlf ++ more)
    ∙ append_assoc name (58 ∷ []) (value ++ (crlf ++ more))

-- lines with the same name and bytes of a value
same_name : (name other text more : List ℕ) → IsHeaderName name → lower name ≡ name → IsHeaderName other → lower other ≡ other → name ++ 58 ∷ text ≡ other ++ 58 ∷ more
    → (name ≡ other) × (text ≡ more)
same_name name other text more is same is_other same_other parted =
    let found = same_run is_name_byte name other (58 ∷ text) (58 ∷ more) (name_bytes name is.0.1 same) (name_bytes other is_other.0.1 same_other) colon_ends colon_ends parted in
    (found.0, append_cancel_left (58 ∷ []) text more found.1)

pub same_line : (one two : Trailer) (rest more : List ℕ) → IsTrailer one → IsTrailer two → trailer_line one ++ rest ≡ trailer_line two ++ more → (one ≡ two) × (rest ≡ more)
same_line one two rest more is other parted =
    let names = same_name one.0 two.0 (one.1 ++ (crlf ++ rest)) (two.1 ++ (crlf ++ more)) is.0 is.1 other.0 other.1
    (sym (line_parts one.0 one.1 rest) ∙ parted ∙ line_parts two.0 two.1 more) in
    let values = same_run is_value_byte one.1 two.1 (crlf ++ rest) (crlf ++ more) is.3 other.3 refl refl names.1 in
    ((λ i. (names.0 i, values.0 i)), append_cancel_left crlf rest more values.1)

pub crlf_stops_line : (bytes name behind value rest : List ℕ) → IsHeaderName name → lower name ≡ name
    → bytes ≡ name ++ codes ":" ++ behind → IsUtf8 value → IsHeaderValue value → behind ≡ value ++ rest → EndsRun is_value_byte rest → (fault : PartFault)
    → StopsWhere (λ word. word ≡ crlf) (Led (λ word. word ≡ crlf)) rest fault → StopsWhere IsLine (Led IsLine) bytes fault
crlf_stops_line bytes name behind value rest is same parted text all read ends fault told =
    stops_behind_word (λ word. word ≡ crlf) (Led (λ word. word ≡ crlf)) IsLine (Led IsLine) ((name ++ codes ":") ++ value) bytes rest fault
    (parted ∙ ap (λ (t : List ℕ). (name ++ codes ":") ++ t) read ∙ sym (append_assoc (name ++ codes ":") value rest))
    (λ end ended. ((name, value), (is, same, text, all), ap (λ (t : List ℕ). ((name ++ codes ":") ++ value) ++ t) ended))
    (λ end first led.
    let word = led.2 in
    let trailer = word.0 in
    let names = same_name name trailer.0 (value ++ end) (trailer.1 ++ (crlf ++ led.1)) is same word.1.0 word.1.1
    (sym (append_assoc (name ++ codes ":") value end ∙ append_assoc name (58 ∷ []) (value ++ end)) ∙ led.3 ∙ ap (λ (w : List ℕ). w ++ led.1) word.2
    ∙ line_parts trailer.0 trailer.1 led.1) in
    let values = same_run is_value_byte value trailer.1 end (crlf ++ led.1) all word.1.3 (same_first is_value_byte end rest first ends) refl names.1 in
    (crlf, led.1, refl, values.1))
    told

pub name_stops_line : (bytes : List ℕ) (fault : PartFault) → StopsWhere IsNamePart (Led IsNamePart) bytes fault → StopsWhere IsLine (Led IsLine) bytes fault
name_stops_line bytes fault told =
    stops_first IsNamePart (Led IsNamePart) IsLine (Led IsLine) bytes fault
    (λ word is. (
      crlf,
      (
        (is.0, []),
        (is.1, is.2, IsUtf8-nil, All-nil (λ byte. IsTrue (is_value_byte byte))),
        ap (λ (w : List ℕ). w ++ crlf) (is.3 ∙ sym (append-nil (is.0 ++ codes ":"))),
      ),
    ))
    (λ all _ led.
    let word = led.2 in
    let trailer = word.0 in (
      trailer.0 ++ codes ":",
      trailer.1 ++ (crlf ++ led.1),
      (trailer.0, word.1.0, word.1.1, refl),
      led.3 ∙ ap (λ (w : List ℕ). w ++ led.1) word.2 ∙ append_assoc ((trailer.0 ++ codes ":") ++ trailer.1) crlf led.1
          ∙ append_assoc (trailer.0 ++ codes ":") trailer.1 (crlf ++ led.1),
    ))
    told

pub value_stops_line : (bytes name behind : List ℕ) (fault : PartFault) → IsHeaderName name → lower name ≡ name → bytes ≡ name ++ codes ":" ++ behind
    → StopsWhere IsValuePart (Led IsValuePart) behind fault → StopsWhere IsLine (Led IsLine) bytes fault
value_stops_line bytes name behind fault is same parted told =
    stops_behind_word IsValuePart (Led IsValuePart) IsLine (Led IsLine) (name ++ codes ":") bytes behind fault parted
    (λ text value. (
      (name, value.0),
      (is, same, value.1, value.2),
      ap (λ (t : List ℕ). (name ++ codes ":") ++ t) value.3
          ∙ sym (append_assoc (name ++ codes ":") value.0 crlf),
    ))
    (λ text _ led.
    let word = led.2 in
    let trailer = word.0 in
    let names = same_name name trailer.0 text (trailer.1 ++ (crlf ++ led.1)) is same word.1.0 word.1.1
    (sym (append_assoc name (58 ∷ []) text) ∙ led.3 ∙ ap (λ (w : List ℕ). w ++ led.1) word.2 ∙ line_parts trailer.0 trailer.1 led.1) in
    (trailer.1 ++ crlf, led.1, (trailer.1, word.1.2, word.1.3, refl), names.1 ∙ sym (append_assoc trailer.1 crlf led.1)))
    told

pub line_whole : (bytes name behind value rest final : List ℕ) → bytes ≡ name ++ codes ":" ++ behind → behind ≡ value ++ rest → rest ≡ crlf ++ final
    → bytes ≡ trailer_line (name, value) ++ final
line_whole bytes name behind value rest final parted read ended =
    parted ∙ ap (λ (t : List ℕ). (name ++ codes ":") ++ t) (read ∙ ap (λ (t : List ℕ). value ++ t) ended)
    ∙ sym (append_assoc (name ++ codes ":") value (crlf ++ final))
    ∙ sym (append_assoc ((name ++ codes ":") ++ value) crlf final)

-- ## What the reader of names knows

positive : (k : ℕ) → (k ≡ 0 → ⊥) → 0 < k
positive zero not = absurd (not refl)
positive (suc k) not = omega arith

ends_from : (bytes rest : List ℕ) (n : ℕ) → n ≤ length bytes → (n < 65535 → n < length bytes → is_name_byte (slice_index bytes n) ≡ false) → rest ≡ drop n bytes → n < 65535
    → EndsRun is_name_byte rest
ends_from bytes rest n there ends back short = subst (EndsRun is_name_byte) (sym back) (run_ended is_name_byte bytes n there (ends short))

all_from : (bytes name : List ℕ) (n : ℕ) → n ≤ length bytes → ((k : ℕ) → k < n → IsTrue (is_name_byte (slice_index bytes k))) → name ≡ take n bytes
    → All (λ byte. IsTrue (is_name_byte byte)) name
all_from bytes name n there all front = subst (λ (x : List ℕ). All (λ byte. IsTrue (is_name_byte byte)) x) (sym front) (run_taken is_name_byte bytes n there all)

pub name_none : (bytes name rest : List ℕ) (n : ℕ) (fault : PartFault) → n ≤ length bytes
    → (n < 65535 → n < length bytes → is_name_byte (slice_index bytes n) ≡ false) → length name ≡ n → rest ≡ drop n bytes → length name ≡ 0
    → fault ≡ Bad (length rest) → StopsWhere IsNamePart (Led IsNamePart) bytes fault
name_none bytes name rest n fault there ends long back none told =
    let zero_ : n ≡ 0 = omega (arith, long, none) in
    let whole : rest ≡ bytes = back ∙ ap (λ (k : ℕ). drop k bytes) zero_ in
    no_name bytes fault (subst (EndsRun is_name_byte) whole (ends_from bytes rest n there ends back (omega (arith, zero_))))
    (told ∙ ap (λ (r : List ℕ). Bad (length r)) whole)

pub name_colon : (bytes name rest : List ℕ) (n : ℕ) (fault : PartFault) → n ≤ 65535 → n ≤ length bytes → ((k : ℕ) → k < n → IsTrue (is_name_byte (slice_index bytes k)))
    → (n < 65535 → n < length bytes → is_name_byte (slice_index bytes n) ≡ false) → name ≡ take n bytes → length name ≡ n → rest ≡ drop n bytes
    → (length name ≡ 0 → ⊥) → StopsWhere (λ word. word ≡ codes ":") (Led (λ word. word ≡ codes ":")) rest fault → StopsWhere IsNamePart (Led IsNamePart) bytes fault
name_colon bytes name rest n fault most there all ends front long back some told =
    colon_stops bytes name rest fault (sym (take-append-drop n bytes) ∙ (λ i. sym front i ++ sym back i)) (positive (length name) some) (omega (arith, long, most))
    (all_from bytes name n there all front) (λ short. ends_from bytes rest n there ends back (omega (arith, short, long))) told

pub name_found : (bytes name text rest behind : List ℕ) (n : ℕ) → n ≤ 65535 → n ≤ length bytes → ((k : ℕ) → k < n → IsTrue (is_name_byte (slice_index bytes k)))
    → name ≡ take n bytes → length name ≡ n → rest ≡ drop n bytes → (length name ≡ 0 → ⊥) → text ≡ name → rest ≡ codes ":" ++ behind
    → IsHeaderName text × (lower text ≡ text) × (bytes ≡ text ++ codes ":" ++ behind)
name_found bytes name text rest behind n most there all front long back some same ended =
    let is = name_is name (positive (length name) some) (omega (arith, long, most)) (all_from bytes name n there all front) in (
      subst IsHeaderName (sym same) is.0,
      subst (λ (t : List ℕ). lower t ≡ t) (sym same) is.1,
      sym (take-append-drop n bytes) ∙ (λ i. sym front i ++ (sym back ∙ ended) i) ∙ sym (append_assoc name (codes ":") behind)
          ∙ ap (λ (t : List ℕ). (t ++ codes ":") ++ behind) (sym same),
    )

pub name_text : (bytes name : List ℕ) (n : ℕ) → n ≤ length bytes → ((k : ℕ) → k < n → IsTrue (is_name_byte (slice_index bytes k))) → name ≡ take n bytes
    → (length name ≡ 0 → ⊥) → IsUtf8 name
name_text bytes name n there all front some = name_utf8 name (positive (length name) some) (all_from bytes name n there all front)

-- ## What the reader of values knows

value_all : (bytes value : List ℕ) (n : ℕ) → n ≤ length bytes → ((k : ℕ) → k < n → IsTrue (is_value_byte (slice_index bytes k))) → value ≡ take n bytes
    → All (λ byte. IsTrue (is_value_byte byte)) value
value_all bytes value n there all front = subst (λ (x : List ℕ). All (λ byte. IsTrue (is_value_byte byte)) x) (sym front) (run_taken is_value_byte bytes n there all)

pub value_bad : (bytes value rest : List ℕ) (n m : ℕ) (fault : PartFault) → n ≤ length bytes → ((k : ℕ) → k < n → IsTrue (is_value_byte (slice_index bytes k)))
    → (n < length bytes → is_value_byte (slice_index bytes n) ≡ false) → value ≡ take n bytes → rest ≡ drop n bytes → (IsUtf8 value → ⊥) → IsLongestFront value m
    → fault ≡ Bad (length (take (length bytes - m) (drop m bytes))) → StopsWhere IsValuePart (Led IsValuePart) bytes fault
value_bad bytes value rest n m fault there all ends front back not sound told =
    value_stops bytes value rest m fault (sym (take-append-drop n bytes) ∙ (λ i. sym front i ++ sym back i)) (value_all bytes value n there all front)
    (subst (EndsRun is_value_byte) (sym back) (run_ended is_value_byte bytes n there ends)) not sound
    (told ∙ ap (λ (l : List ℕ). Bad (length l)) (take_all (length bytes - m) (drop m bytes) (omega (arith, length-drop m bytes))))
