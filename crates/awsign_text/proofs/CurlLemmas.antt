-- A config reads back as its options.
use Rattle.std.proofs.Common.{◌≡◌, ℕ, Bool, true, false, ◌&&◌, not, eqb, cond, List, [], ◌∷◌, ◌++◌, map, codes, Option, Some, None, option_map, refl, sym, ap, ◌∙◌, append_assoc}
use Rattle.std.specs.Prelude.{bytes_eq, is_some}
use Rattle.std.specs.List.{flat_map}
use Rattle.std.proofs.lemmas.Bool.{and_parts, eqb-true}
use Rattle.std.proofs.lemmas.List.{append-nil}
use Rattle.std.proofs.lemmas.List.Concat.{flat_map-append}
use Rattle.smithy_core.specs.TextPairs.{first_value}
use Rattle.awsign_text.specs.Curl.{Setting, body_settings, config_settings, curl_config_text, escape, file_settings, flag, header_setting, in_name, in_value, is_plain_name, is_uploaded, method_setting, no_content_type, quoted, request_settings, sent_settings, setting_line, config_settings_from, config_step, unescaped, valued}

-- a test that is denied isn't true
not_true : (v : Bool) → not v ≡ true → v ≡ false
not_true true h = sym h
not_true false h = refl

-- a name is read to its end
name_reads : (name acc rest : List ℕ) → is_plain_name name ≡ true → config_settings_from (in_name acc) (name ++ rest) ≡ config_settings_from (in_name (acc ++ name)) rest
unfolding config_step
name_reads [] acc rest plain = ap (λ (n : List ℕ). config_settings_from (in_name n) rest) (sym (append-nil acc))
name_reads (byte ∷ name) acc rest plain =
    let parts = and_parts (not (eqb byte 10) && not (eqb byte 32)) (is_plain_name name) plain in
    let tests = and_parts (not (eqb byte 10)) (not (eqb byte 32)) parts.0 in
    let lf : eqb byte 10 ≡ false = not_true _ tests.0 in
    let sp : eqb byte 32 ≡ false = not_true _ tests.1 in
    let again = name_reads name (acc ++ byte ∷ []) rest parts.1 in
    rw (lf, sp) (again ∙ ap (λ (n : List ℕ). config_settings_from (in_name n) rest) (append_assoc acc (byte ∷ []) name))

-- a byte of a value is read as it was
byte_reads : (name acc rest : List ℕ) (byte : ℕ) → config_settings_from (in_value name acc) (escape byte ++ rest) ≡ config_settings_from (in_value name (acc ++ byte ∷ [])) rest
unfolding config_step escape unescaped
byte_reads name acc rest byte = by_quote (eqb byte 34) refl
  where
    Reads : List ℕ → Type 0
    Reads written = config_settings_from (in_value name acc) (written ++ rest) ≡ config_settings_from (in_value name (acc ++ byte ∷ [])) rest

    plain : eqb byte 34 ≡ false → eqb byte 92 ≡ false → Reads (byte ∷ [])
    plain no_quote no_backslash = rw (no_quote, no_backslash) refl

    by_return : eqb byte 34 ≡ false → eqb byte 92 ≡ false → (v : Bool) → eqb byte 13 ≡ v → Reads (cond v (92 ∷ 114 ∷ []) (byte ∷ []))
    by_return q b true is = rw (eqb-true byte 13 is) refl
    by_return q b false is = plain q b

    by_feed : eqb byte 34 ≡ false → eqb byte 92 ≡ false → (v : Bool) → eqb byte 10 ≡ v → Reads (cond v (92 ∷ 110 ∷ []) (cond (eqb byte 13) (92 ∷ 114 ∷ []) (byte ∷ [])))
    by_feed q b true is = rw (eqb-true byte 10 is) refl
    by_feed q b false is = by_return q b (eqb byte 13) refl

    by_tab : eqb byte 34 ≡ false → eqb byte 92 ≡ false → (v : Bool) → eqb byte 9 ≡ v
        → Reads (cond v (92 ∷ 116 ∷ []) (cond (eqb byte 10) (92 ∷ 110 ∷ []) (cond (eqb byte 13) (92 ∷ 114 ∷ []) (byte ∷ []))))
    by_tab q b true is = rw (eqb-true byte 9 is) refl
    by_tab q b false is = by_feed q b (eqb byte 10) refl

    by_backslash : eqb byte 34 ≡ false → (v : Bool) → eqb byte 92 ≡ v
        → Reads (cond v (92 ∷ 92 ∷ []) (cond (eqb byte 9) (92 ∷ 116 ∷ []) (cond (eqb byte 10) (92 ∷ 110 ∷ []) (cond (eqb byte 13) (92 ∷ 114 ∷ []) (byte ∷ [])))))
    by_backslash q true is = rw (eqb-true byte 92 is) refl
    by_backslash q false is = by_tab q is (eqb byte 9) refl

    by_quote : (v : Bool) → eqb byte 34 ≡ v
        → Reads (cond v (92 ∷ 34 ∷ []) (cond (eqb byte 92) (92 ∷ 92 ∷ []) (cond (eqb byte 9) (92 ∷ 116 ∷ []) (cond (eqb byte 10) (92 ∷ 110 ∷ []) (cond (eqb byte 13) (92 ∷ 114 ∷ []) (byte ∷ []))))))
    by_quote true is = rw (eqb-true byte 34 is) refl
    by_quote false is = by_backslash is (eqb byte 92) refl

-- a value is read up to its closing quote
value_reads : (name value acc rest : List ℕ) → config_settings_from (in_value name acc) (flat_map escape value ++ rest) ≡ config_settings_from (in_value name (acc ++ value)) rest
value_reads name [] acc rest = ap (λ (v : List ℕ). config_settings_from (in_value name v) rest) (sym (append-nil acc))
value_reads name (byte ∷ value) acc rest =
    ap (λ (t : List ℕ). config_settings_from (in_value name acc) t) (append_assoc (escape byte) (flat_map escape value) rest)
    ∙ byte_reads name acc (flat_map escape value ++ rest) byte
    ∙ value_reads name value (acc ++ byte ∷ []) rest
    ∙ ap (λ (v : List ℕ). config_settings_from (in_value name v) rest) (append_assoc acc (byte ∷ []) value)

-- the line of an option is read as the option
line_reads : (name : List ℕ) (value : Option (List ℕ)) (rest : List ℕ) → is_plain_name name ≡ true
    → let setting : Setting = record { name = name; value = value } in
    config_settings_from (in_name []) (setting_line setting ++ rest) ≡ option_map (λ others. setting ∷ others) (config_settings_from (in_name []) rest)
unfolding config_step quoted setting_line
line_reads name None rest plain =
    let text : ((name ++ []) ++ 10 ∷ []) ++ rest ≡ name ++ (10 ∷ rest) = simp (append_assoc, append-nil) refl in
    ap (config_settings_from (in_name [])) text ∙ name_reads name [] (10 ∷ rest) plain
line_reads name (Some value) rest plain =
    let spelled = flat_map escape value in
    let text : ((name ++ (32 ∷ 61 ∷ 32 ∷ 34 ∷ (spelled ++ 34 ∷ []))) ++ 10 ∷ []) ++ rest ≡ name ++ (32 ∷ 61 ∷ 32 ∷ 34 ∷ (spelled ++ (34 ∷ 10 ∷ rest))) =
    simp append_assoc refl in
    ap (config_settings_from (in_name [])) text ∙ name_reads name [] (32 ∷ 61 ∷ 32 ∷ 34 ∷ (spelled ++ (34 ∷ 10 ∷ rest))) plain
    ∙ value_reads name value [] (34 ∷ 10 ∷ rest)

-- each option has a plain name
abbrev ArePlain : List Setting → Type 0
ArePlain [] = Unit {0}
ArePlain (setting ∷ settings) = (is_plain_name setting.name ≡ true) × ArePlain settings

all_read : (settings : List Setting) → ArePlain settings → config_settings_from (in_name []) (curl_config_text settings) ≡ Some settings
all_read [] plain = refl
all_read (setting ∷ settings) plain =
    line_reads setting.name setting.value (curl_config_text settings) plain.0 ∙ ap (option_map (λ others. setting ∷ others)) (all_read settings plain.1)

plain_append : (settings others : List Setting) → ArePlain settings → ArePlain others → ArePlain (settings ++ others)
plain_append [] others plain more = more
plain_append (setting ∷ settings) others plain more = (plain.0, plain_append settings others plain.1 more)

plain_headers : (headers : List (List ℕ × List ℕ)) → ArePlain (map header_setting headers)
plain_headers [] = tt
plain_headers (header ∷ headers) = (refl, plain_headers headers)

plain_method : (method : List ℕ) → is_plain_name (method_setting method).name ≡ true
plain_method method =
    elim (bytes_eq method (codes "HEAD")) as (λ v. is_plain_name (cond v (flag (codes "head")) (valued (codes "request") method)).name ≡ true) [ true ↦ refl | false ↦ refl ]

plain_type : (v : Bool) → ArePlain (cond v [] (valued (codes "header") (codes "content-type:") ∷ []))
plain_type true = tt
plain_type false = (refl, tt)

plain_sent : (headers : List (List ℕ × List ℕ)) (path : List ℕ) → ArePlain (sent_settings headers path)
unfolding sent_settings no_content_type
plain_sent headers path = plain_append _ _ (plain_type (is_some (first_value headers (codes "content-type")))) (refl, tt)

plain_body : (method target : List ℕ) (headers : List (List ℕ × List ℕ)) (path : List ℕ) → ArePlain (body_settings method target headers path)
unfolding body_settings
plain_body method target headers path =
    elim (is_uploaded method target) as (λ v. ArePlain (cond v (valued (codes "upload-file") path ∷ []) (sent_settings headers path)))
    [ true ↦ (refl, tt) | false ↦ plain_sent headers path ]

plain_file : (method target : List ℕ) (headers : List (List ℕ × List ℕ)) (file : Option (List ℕ)) → ArePlain (file_settings method target headers file)
plain_file method target headers None = tt
plain_file method target headers (Some path) = plain_body method target headers path

-- what is printed of a request reads back as its options
pub request_reads : (method target : List ℕ) (headers : List (List ℕ × List ℕ)) (file : Option (List ℕ))
    → let settings = request_settings method target headers file in config_settings (curl_config_text settings) ≡ Some settings
unfolding config_settings
request_reads method target headers file =
    all_read (request_settings method target headers file)
    (refl, (refl, (plain_method method, (refl, plain_append _ _ (plain_headers headers) (plain_file method target headers file)))))

-- the lines of a body that curl reads piece by piece
pub body_uploaded : (method target : List ℕ) (headers : List (List ℕ × List ℕ)) (path : List ℕ) → is_uploaded method target ≡ true
    → curl_config_text (body_settings method target headers path) ≡ setting_line (valued (codes "upload-file") path)
unfolding body_settings
body_uploaded method target headers path is = rw is (append-nil (setting_line (valued (codes "upload-file") path)))

-- and of any other
pub body_sent : (method target : List ℕ) (headers : List (List ℕ × List ℕ)) (path : List ℕ) → is_uploaded method target ≡ false
    → curl_config_text (body_settings method target headers path) ≡ curl_config_text (sent_settings headers path)
unfolding body_settings
body_sent method target headers path is = rw is refl

pub sent_line : (headers : List (List ℕ × List ℕ)) (path : List ℕ)
    → curl_config_text (sent_settings headers path) ≡ curl_config_text (no_content_type headers) ++ setting_line (valued (codes "data-binary") (codes "@" ++ path))
unfolding sent_settings
sent_line headers path =
    let last = valued (codes "data-binary") (codes "@" ++ path) in
    flat_map-append setting_line (no_content_type headers) (last ∷ []) ∙ ap (λ (t : List ℕ). curl_config_text (no_content_type headers) ++ t) (append-nil (setting_line last))
