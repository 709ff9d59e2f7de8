-- Places and values, as the code keeps them, are those of the definitions.
use Rattle.std.proofs.Common.{◌≡◌, ◌∙◌, ℕ, Bool, cond, ◌||◌, List, [], ◌∷◌, length, String, string_bytes, string_cmp, Global, Bor, suc, refl, sym, ap, ap₂}
use Rattle.std.specs.Prelude.{Option, Some, None, is_some, option_map}
use Rattle.std.specs.BTreeMap.{insert_entry, is_at}
use Rattle.std.specs.Map.{lookup}
use Rattle.env_config.specs.Latest.{Latest, with_place}
use Rattle.env_config.specs.LatestView.{placed_of}
use Rattle.env_config.specs.Sections.{heading_of, is_profile_default}
use Rattle.env_config.specs.Texts.{put, text_cmp, value_under, words_of}
use Rattle.env_config.proofs.TextsLemmas.{entries_at, entries_put, value_put, word_cmp, words_put}

abbrev pub placed_value : ℕ × String Global → ℕ × List ℕ
placed_value value = (value.0, string_bytes value.1)

pub placed_found : (es : List (String Global × (ℕ × String Global))) (key : List ℕ) → option_map placed_value (lookup (is_at (λ k. text_cmp key (string_bytes k))) es) ≡ value_under (placed_of es) key
placed_found es key = entries_at (λ k. text_cmp key (string_bytes k)) text_cmp string_bytes (λ (v : ℕ × String Global). (v.0, string_bytes v.1)) key (λ _. refl) es

pub placed_put : (es now : List (String Global × (ℕ × String Global))) (key value : String Global) (place : ℕ) → now ≡ insert_entry string_cmp es key (place, value) → placed_of now ≡ put (placed_of es) (string_bytes key) (place, string_bytes value)
placed_put es now key value place puts =
    ap placed_of puts ∙ entries_put string_cmp text_cmp string_bytes (λ (v : ℕ × String Global). (v.0, string_bytes v.1)) (λ _ _. refl) es key (place, value)

-- ## Places

pub place_value : (es now : List (Bor (List ℕ) × ℕ)) (name : Bor (List ℕ)) (place : ℕ) → now ≡ insert_entry word_cmp es name place → value_under (words_of now) name.now ≡ Some place
place_value es now name place puts = ap (λ (places : List (List ℕ × ℕ)). value_under places name.now) (words_put es now name place puts) ∙ value_put (words_of es) name.now place

-- a section that has its place
pub place_known : (latest : Latest) (name : List ℕ) (place : ℕ) → value_under latest.places name ≡ Some place → latest ≡ with_place latest name
place_known latest name place is =
    let fresh : Latest = record latest { places = put latest.places name (length latest.places); overridden = latest.overridden || is_profile_default (heading_of name).prefix (heading_of name).name } in
    sym (ap (λ (found : Option ℕ). cond (is_some found) latest fresh) is)

length_words : (es : List (Bor (List ℕ) × ℕ)) → length (words_of es) ≡ length es
length_words [] = refl
length_words (e ∷ es) = ap suc (length_words es)

-- a section that gets the next place
pub new_place : (es now : List (Bor (List ℕ) × ℕ)) (name : Bor (List ℕ)) (place : ℕ) (latest : Latest) (bare prefixed : List (String Global × (ℕ × String Global))) (overridden after : Bool)
    → record { places = words_of es; bare = placed_of bare; prefixed = placed_of prefixed; overridden = overridden } ≡ latest → value_under (words_of es) name.now ≡ None
    → now ≡ insert_entry word_cmp es name place → place ≡ length es → after ≡ (overridden || is_profile_default (heading_of name.now).prefix (heading_of name.now).name)
    → record { places = words_of now; bare = placed_of bare; prefixed = placed_of prefixed; overridden = after } ≡ with_place latest name.now
new_place es now name place latest bare prefixed overridden after is none puts last after_is =
    let before : Latest = record { places = words_of es; bare = placed_of bare; prefixed = placed_of prefixed; overridden = overridden } in
    let make : List (List ℕ × ℕ) → Bool → Latest = λ places o. record { places = places; bare = placed_of bare; prefixed = placed_of prefixed; overridden = o } in
    let fresh = make (put (words_of es) name.now (length (words_of es))) (overridden || is_profile_default (heading_of name.now).prefix (heading_of name.now).name) in
    ap₂ make (words_put es now name place puts ∙ ap (put (words_of es) name.now) (last ∙ sym (length_words es))) after_is
    ∙ sym (ap (λ (found : Option ℕ). cond (is_some found) before fresh) none)
    ∙ ap (λ (l : Latest). with_place l name.now) is
