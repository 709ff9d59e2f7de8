-- What is kept of the texts gives the sub-properties of a services section that all of them give.
use Rattle.std.proofs.Common.{◌≡◌, ℕ, Bool, true, false, cond, ◌&&◌, List, [], ◌∷◌, Ordering, is_eq, refl, sym, ap, ap₂, ◌∙◌}
use Rattle.std.specs.Prelude.{Option, Some, None, bytes_eq, codes, length, nat_lt}
use Rattle.std.specs.List.{after_first, before_first, filter, position_or_len}
use Rattle.std.specs.Ordering.{ordering_then}
use Rattle.std.specs.Option.{option_cmp}
use Rattle.std.proofs.lemmas.Bool.{false≢true}
use Rattle.std.proofs.lemmas.Slice.Eq.{bytes_eq-Decides}
use Rattle.env_config.specs.declared.source.EnvConfigFileKind.{EnvConfigFileKind}
use Rattle.env_config.specs.declared.source.EnvConfigFileKind.TheVariants.{Config, Credentials}
use Rattle.env_config.specs.Kept.{has_heading, is_kept_sub, subs_in_services}
use Rattle.env_config.specs.Line.{is_equals, trimmed}
use Rattle.env_config.specs.Order.{IsRising}
use Rattle.env_config.specs.Raw.{Keeps, everything, properties_of}
use Rattle.env_config.specs.Sections.{Heading, Key, Sections, has_profile_default, heading_of, is_identifier, is_taken_from, key_cmp, merged_into, put_at_key, put_others, put_sub, put_subs, value_at_key, value_pieces, with_names, with_raw, with_section}
use Rattle.env_config.specs.Texts.{Named, text_cmp, value_under}
use Rattle.env_config.proofs.LaterLemmas.{at_put, key_total}
use Rattle.env_config.proofs.LowerLemmas.{tied_same, then_first, then_second}
use Rattle.env_config.proofs.NarrowLemmas.{none_above}
use Rattle.env_config.proofs.NarrowMergeLemmas.{IsKeptValue, tied_is, with_kept_names}

-- ## Keys

-- the order of the parts behind the first one, and behind the second
abbrev behind_names : Key → Key → Ordering
behind_names k j = ordering_then (text_cmp k.property_name j.property_name) (option_cmp text_cmp k.sub_property_name j.sub_property_name)

abbrev behind_prefixes : Key → Key → Ordering
behind_prefixes k j = ordering_then (text_cmp k.section_name j.section_name) (behind_names k j)

tied_prefix : (k j : Key) → is_eq (key_cmp k j) ≡ true → is_eq (text_cmp k.section_key j.section_key) ≡ true
tied_prefix k j is = then_first (text_cmp k.section_key j.section_key) (behind_prefixes k j) is

tied_name : (k j : Key) → is_eq (key_cmp k j) ≡ true → is_eq (text_cmp k.section_name j.section_name) ≡ true
tied_name k j is = then_first (text_cmp k.section_name j.section_name) (behind_names k j) (then_second (text_cmp k.section_key j.section_key) (behind_prefixes k j) is)

tied_property : (k j : Key) → is_eq (key_cmp k j) ≡ true → is_eq (text_cmp k.property_name j.property_name) ≡ true
tied_property k j is =
    then_first (text_cmp k.property_name j.property_name) (option_cmp text_cmp k.sub_property_name j.sub_property_name)
    (then_second (text_cmp k.section_name j.section_name) (behind_names k j) (then_second (text_cmp k.section_key j.section_key) (behind_prefixes k j) is))

tied_sub : (k j : Key) → is_eq (key_cmp k j) ≡ true → is_eq (option_cmp text_cmp k.sub_property_name j.sub_property_name) ≡ true
tied_sub k j is =
    then_second (text_cmp k.property_name j.property_name) (option_cmp text_cmp k.sub_property_name j.sub_property_name)
    (then_second (text_cmp k.section_name j.section_name) (behind_names k j) (then_second (text_cmp k.section_key j.section_key) (behind_prefixes k j) is))

-- what is told apart by a part
apart_by : (b : Bool) (d : Bool) → (d ≡ true → b ≡ true) → b ≡ false → d ≡ false
apart_by b false more is = refl
apart_by b true more is = sym (more refl) ∙ is

-- ## Sub-properties

-- where the sub-properties of a key of a section stand
abbrev sub_at : List ℕ → List ℕ → List ℕ → Option (List ℕ) → Key
sub_at prefix name key sub = record { section_key = prefix; section_name = name; property_name = key; sub_property_name = sub }

-- sub-properties of the key's name are kept
abbrev IsKeptAt : Keeps → Key → Type 0
IsKeptAt keeps k = (sub : List ℕ) → is_eq (option_cmp text_cmp k.sub_property_name (Some sub)) ≡ true → keeps.sub sub ≡ true

-- a value, after the sub-property of a piece was put
piece_gives : Key → List ℕ → List ℕ → List ℕ → Option (List ℕ) → List ℕ → Option (List ℕ)
piece_gives k prefix name key before piece =
    cond (nat_lt (position_or_len is_equals piece) (length piece))
    (cond (is_eq (key_cmp k (sub_at prefix name key (Some (trimmed (before_first is_equals piece)))))) (Some (trimmed (after_first is_equals piece))) before) before

pieces_give : Key → List ℕ → List ℕ → List ℕ → Option (List ℕ) → List (List ℕ) → Option (List ℕ)
pieces_give k prefix name key before [] = before
pieces_give k prefix name key before (piece ∷ pieces) = pieces_give k prefix name key (piece_gives k prefix name key before piece) pieces

sub_gives : (keeps : Keeps) (others : List (Key × List ℕ)) (k : Key) → IsKeptAt keeps k → (prefix name key piece : List ℕ) → value_at_key (put_sub keeps others prefix name key piece) k ≡ piece_gives k prefix name key (value_at_key others k) piece
unfolding piece_gives
sub_gives keeps others k kept prefix name key piece = by (nat_lt (position_or_len is_equals piece) (length piece))
  where
    sub : List ℕ
    sub = trimmed (before_first is_equals piece)

    at : Key
    at = sub_at prefix name key (Some sub)

    value : List ℕ
    value = trimmed (after_first is_equals piece)

    put_or : (c : Bool) → keeps.sub sub ≡ c → value_at_key (cond c (put_at_key others at value) others) k ≡ cond (is_eq (key_cmp k at)) (Some value) (value_at_key others k)
    put_or true is = at_put key_cmp key_total others at value k
    put_or false is = sym (ap (λ (b : Bool). cond b (Some value) (value_at_key others k)) (apart_by (keeps.sub sub) (is_eq (key_cmp k at)) (λ tied. kept sub (tied_sub k at tied)) is))

    by : (b : Bool) → value_at_key (cond b (cond (keeps.sub sub) (put_at_key others at value) others) others) k ≡ cond b (cond (is_eq (key_cmp k at)) (Some value) (value_at_key others k)) (value_at_key others k)
    by true = put_or (keeps.sub sub) refl
    by false = refl

subs_give : (keeps : Keeps) (others : List (Key × List ℕ)) (k : Key) → IsKeptAt keeps k → (prefix name key : List ℕ) (pieces : List (List ℕ)) → value_at_key (put_subs keeps others prefix name key pieces) k ≡ pieces_give k prefix name key (value_at_key others k) pieces
unfolding pieces_give
subs_give keeps others k kept prefix name key [] = refl
subs_give keeps others k kept prefix name key (piece ∷ pieces) =
    subs_give keeps (put_sub keeps others prefix name key piece) k kept prefix name key pieces
    ∙ ap (λ (before : Option (List ℕ)). pieces_give k prefix name key before pieces) (sub_gives keeps others k kept prefix name key piece)

-- sub-properties of another key, or in another section
pieces_apart : (k : Key) (prefix name key : List ℕ) → ((sub : Option (List ℕ)) → is_eq (key_cmp k (sub_at prefix name key sub)) ≡ false) → (before : Option (List ℕ)) (pieces : List (List ℕ))
    → pieces_give k prefix name key before pieces ≡ before
unfolding piece_gives pieces_give
pieces_apart k prefix name key apart before [] = refl
pieces_apart k prefix name key apart before (piece ∷ pieces) =
    ap (λ (now : Option (List ℕ)). pieces_give k prefix name key now pieces) (by (nat_lt (position_or_len is_equals piece) (length piece)))
    ∙ pieces_apart k prefix name key apart before pieces
  where
    sub : Option (List ℕ)
    sub = Some (trimmed (before_first is_equals piece))

    value : Option (List ℕ)
    value = Some (trimmed (after_first is_equals piece))

    by : (b : Bool) → cond b (cond (is_eq (key_cmp k (sub_at prefix name key sub))) value before) before ≡ before
    by true = ap (λ (b : Bool). cond b value before) (apart sub)
    by false = refl

-- a value, where the section has its property or hasn't
given : Key → Option (List ℕ) → Option (List ℕ) → Option (List ℕ)
given k None before = before
given k (Some value) before = cond (is_identifier k.property_name) (pieces_give k k.section_key k.section_name k.property_name before (value_pieces value)) before

either_way : (b : Bool) (x y : Option (List ℕ)) → x ≡ y → cond b x y ≡ y
either_way true x y same = same
either_way false x y same = refl

spread_subs : (keeps : Keeps) (others : List (Key × List ℕ)) (k : Key) → IsKeptAt keeps k → (prefix name key : List ℕ) (pieces : List (List ℕ)) (b : Bool)
    → value_at_key (cond b (put_subs keeps others prefix name key pieces) others) k ≡ cond b (pieces_give k prefix name key (value_at_key others k) pieces) (value_at_key others k)
spread_subs keeps others k kept prefix name key pieces true = subs_give keeps others k kept prefix name key pieces
spread_subs keeps others k kept prefix name key pieces false = refl

others_give : (keeps : Keeps) (others : List (Key × List ℕ)) (pairs : List (List ℕ × List ℕ)) (k : Key) → IsKeptAt keeps k → IsRising pairs
    → value_at_key (put_others keeps others k.section_key k.section_name pairs) k ≡ given k (value_under pairs k.property_name) (value_at_key others k)
unfolding given
others_give keeps others [] k kept rising = refl
others_give keeps others (pair ∷ pairs) k kept rising =
    others_give keeps (cond (is_identifier pair.0) (put_subs keeps others k.section_key k.section_name pair.0 (value_pieces pair.1)) others) pairs k kept rising.1
    ∙ ap (given k (value_under pairs k.property_name)) (spread_subs keeps others k kept k.section_key k.section_name pair.0 (value_pieces pair.1) (is_identifier pair.0))
    ∙ by (is_eq (text_cmp k.property_name pair.0)) refl
  where
    before : Option (List ℕ)
    before = value_at_key others k

    now : List ℕ → Option (List ℕ)
    now key = cond (is_identifier key) (pieces_give k k.section_key k.section_name key before (value_pieces pair.1)) before

    by : (b : Bool) → is_eq (text_cmp k.property_name pair.0) ≡ b
        → given k (value_under pairs k.property_name) (now pair.0) ≡ given k (cond b (Some pair.1) (value_under pairs k.property_name)) before
    by true is =
        let same : k.property_name ≡ pair.0 = tied_same k.property_name pair.0 is in
        ap (λ (found : Option (List ℕ)). given k found (now pair.0)) (ap (value_under pairs) same ∙ none_above pairs pair.0 rising.0)
        ∙ ap now (sym same)
    by false is =
        ap (given k (value_under pairs k.property_name))
        (either_way (is_identifier pair.0) (pieces_give k k.section_key k.section_name pair.0 before (value_pieces pair.1)) before
        (pieces_apart k k.section_key k.section_name pair.0
        (λ sub. apart_by (is_eq (text_cmp k.property_name pair.0)) (is_eq (key_cmp k (sub_at k.section_key k.section_name pair.0 sub))) (λ tied. tied_property k (sub_at k.section_key k.section_name pair.0 sub) tied) is)
        before (value_pieces pair.1)))

others_apart : (keeps : Keeps) (others : List (Key × List ℕ)) (prefix name : List ℕ) (pairs : List (List ℕ × List ℕ)) (k : Key) → IsKeptAt keeps k → ((key : List ℕ) (sub : Option (List ℕ)) → is_eq (key_cmp k (sub_at prefix name key sub)) ≡ false)
    → value_at_key (put_others keeps others prefix name pairs) k ≡ value_at_key others k
others_apart keeps others prefix name [] k kept apart = refl
others_apart keeps others prefix name (pair ∷ pairs) k kept apart =
    let before = value_at_key others k in
    let pieces = value_pieces pair.1 in
    others_apart keeps (cond (is_identifier pair.0) (put_subs keeps others prefix name pair.0 pieces) others) prefix name pairs k kept apart
    ∙ spread_subs keeps others k kept prefix name pair.0 pieces (is_identifier pair.0)
    ∙ either_way (is_identifier pair.0) (pieces_give k prefix name pair.0 before pieces) before (pieces_apart k prefix name pair.0 (apart pair.0) before pieces)

-- ## Services sections

-- where a sub-property of a services section stands
abbrev service_at : List ℕ → List ℕ → Option (List ℕ) → Key
service_at name key sub = sub_at (codes "services") name key sub

abbrev names_service : List ℕ → List ℕ → List ℕ → Bool
names_service name prefix called = bytes_eq prefix (codes "services") && bytes_eq called name

-- what a raw section makes of a sub-property
service_put : (keeps : Keeps) (others : List (Key × List ℕ)) (prefix called : List ℕ) (pairs : List (List ℕ × List ℕ)) (name key : List ℕ) (sub : Option (List ℕ)) → IsKeptAt keeps (service_at name key sub) → (names_service name prefix called ≡ true → IsRising pairs)
    → let k = service_at name key sub in
    value_at_key (put_others keeps others prefix called pairs) k ≡ cond (names_service name prefix called) (given k (value_under pairs key) (value_at_key others k)) (value_at_key others k)
service_put keeps others prefix called pairs name key sub kept rising = by (bytes_eq prefix (codes "services")) (bytes_eq called name) refl refl rising
  where
    k : Key
    k = service_at name key sub

    other_prefix : bytes_eq prefix (codes "services") ≡ false → (key : List ℕ) (sub : Option (List ℕ)) → is_eq (key_cmp k (sub_at prefix called key sub)) ≡ false
    other_prefix is key sub =
        apart_by (is_eq (text_cmp (codes "services") prefix)) (is_eq (key_cmp k (sub_at prefix called key sub))) (λ tied. tied_prefix k (sub_at prefix called key sub) tied)
        (tied_is (codes "services") prefix ∙ is)

    other_name : bytes_eq called name ≡ false → (key : List ℕ) (sub : Option (List ℕ)) → is_eq (key_cmp k (sub_at prefix called key sub)) ≡ false
    other_name is key sub =
        apart_by (is_eq (text_cmp name called)) (is_eq (key_cmp k (sub_at prefix called key sub))) (λ tied. tied_name k (sub_at prefix called key sub) tied) (tied_is name called ∙ is)

    by : (c d : Bool) → bytes_eq prefix (codes "services") ≡ c → bytes_eq called name ≡ d → (c && d ≡ true → IsRising pairs)
        → value_at_key (put_others keeps others prefix called pairs) k ≡ cond (c && d) (given k (value_under pairs key) (value_at_key others k)) (value_at_key others k)
    by true true prefix_is name_is rising =
        ap₂ (λ (p n : List ℕ). value_at_key (put_others keeps others p n pairs) k) ((bytes_eq-Decides prefix (codes "services")).0 prefix_is) ((bytes_eq-Decides called name).0 name_is)
        ∙ others_give keeps others pairs k kept (rising refl)
    by true false prefix_is name_is rising = others_apart keeps others prefix called pairs k kept (other_name name_is)
    by false d prefix_is name_is rising = others_apart keeps others prefix called pairs k kept (other_prefix prefix_is)

service_gives : (keeps : Keeps) (s : Sections) (prefix : Option (List ℕ)) (called : List ℕ) (pairs : List (List ℕ × List ℕ)) (name key : List ℕ) (sub : Option (List ℕ)) → IsKeptAt keeps (service_at name key sub)
    → (has_heading (codes "services") name (record { prefix = prefix; name = called }) ≡ true → IsRising pairs)
    → let k = service_at name key sub in
    value_at_key (with_section keeps s prefix called pairs).others k
    ≡ cond (has_heading (codes "services") name (record { prefix = prefix; name = called })) (given k (value_under pairs key) (value_at_key s.others k)) (value_at_key s.others k)
service_gives keeps s None called pairs name key sub kept rising = refl
service_gives keeps s (Some prefix) called pairs name key sub kept rising = by (bytes_eq prefix (codes "profile")) (bytes_eq prefix (codes "sso-session")) refl refl
  where
    k : Key
    k = service_at name key sub

    before : Option (List ℕ)
    before = value_at_key s.others k

    lost : (other : List ℕ) → bytes_eq prefix other ≡ true → bytes_eq other (codes "services") ≡ false → before ≡ cond (names_service name prefix called) (given k (value_under pairs key) before) before
    lost other is apart =
        sym (ap (λ (p : List ℕ). cond (names_service name p called) (given k (value_under pairs key) before) before) ((bytes_eq-Decides prefix other).0 is)
        ∙ ap (λ (b : Bool). cond (b && bytes_eq called name) (given k (value_under pairs key) before) before) apart)

    by : (b d : Bool) → bytes_eq prefix (codes "profile") ≡ b → bytes_eq prefix (codes "sso-session") ≡ d
        → value_at_key (cond b (record s { profiles = merged_into s.profiles called pairs })
        (cond d (record s { sessions = merged_into s.sessions called pairs }) (record s { others = put_others keeps s.others prefix called pairs }))).others k
        ≡ cond (names_service name prefix called) (given k (value_under pairs key) before) before
    by true d profile session = lost (codes "profile") profile refl
    by false true profile session = lost (codes "sso-session") session refl
    by false false profile session = service_put keeps s.others prefix called pairs name key sub kept rising

-- the sub-property is kept
sub_kept : (name service : List ℕ) (subs : List (List ℕ)) (key sub : List ℕ) → is_kept_sub subs sub ≡ true → IsKeptAt (subs_in_services name service subs) (service_at name key (Some sub))
sub_kept name service subs key sub asked other tied = ap (is_kept_sub subs) (sym (tied_same sub other tied)) ∙ asked

-- whether a section with a prefix counts has nothing to do with `[profile default]`
default_passed : (name : List ℕ) (kind : EnvConfigFileKind) (o p : Bool) (heading : Heading) → has_heading (codes "services") name heading ≡ true → is_taken_from kind o heading.prefix heading.name ≡ is_taken_from kind p heading.prefix heading.name
default_passed name kind o p heading is = by kind heading.prefix is
  where
    by : (kind : EnvConfigFileKind) (prefix : Option (List ℕ)) → has_heading (codes "services") name (record { prefix = prefix; name = heading.name }) ≡ true → is_taken_from kind o prefix heading.name ≡ is_taken_from kind p prefix heading.name
    by Config None is = absurd (false≢true is)
    by Config (Some prefix) is = refl
    by Credentials None is = refl
    by Credentials (Some prefix) is = refl

names_pass : (keeps : Keeps) (name : List ℕ) → ((text : List ℕ) → keeps.section text ≡ true → has_heading (codes "services") name (heading_of text) ≡ true) → (kind : EnvConfigFileKind) (o p : Bool) (file : Named (List (List ℕ × List ℕ))) (names : List (List ℕ)) (sections : Sections)
    → with_kept_names keeps sections kind o file names ≡ with_kept_names keeps sections kind p file names
names_pass keeps name goes kind o p file [] sections = refl
names_pass keeps name goes kind o p file (text ∷ names) sections = by (keeps.section text) refl (names_pass keeps name goes kind o p file names)
  where
    by : (b : Bool) → keeps.section text ≡ b → ((sections : Sections) → with_kept_names keeps sections kind o file names ≡ with_kept_names keeps sections kind p file names)
        → with_names keeps sections kind o file (cond b (text ∷ filter keeps.section names) (filter keeps.section names)) ≡ with_names keeps sections kind p file (cond b (text ∷ filter keeps.section names) (filter keeps.section names))
    by true is more =
        more (with_raw keeps sections kind o (heading_of text) (properties_of file text))
        ∙ ap (λ (taken : Bool). with_kept_names keeps (cond taken (with_section keeps sections (heading_of text).prefix (heading_of text).name (properties_of file text)) sections) kind p file names)
        (default_passed name kind o p (heading_of text) (goes text is))
    by false is more = more sections

pub service_kept : (name service : List ℕ) (subs : List (List ℕ)) (sub : List ℕ) → is_kept_sub subs sub ≡ true
    → IsKeptValue (subs_in_services name service subs) (has_heading (codes "services") name) (λ s. value_at_key s.others (service_at name service (Some sub)))
service_kept name service subs sub asked = record {
  kept = λ text is. is;
  overridden = λ sections kind file names. names_pass (subs_in_services name service subs) name (λ text is. is) kind (has_profile_default (filter (subs_in_services name service subs).section names)) (has_profile_default names) file names sections;
  same = λ s t prefix called all some alike e.
      let goes = has_heading (codes "services") name (record { prefix = prefix; name = called }) in
      service_gives (subs_in_services name service subs) t prefix called some name service (Some sub) (sub_kept name service subs service sub asked) (λ _. alike.rising_some)
      ∙ ap₂ (λ (found before : Option (List ℕ)). cond goes (given (service_at name service (Some sub)) found before) before) (alike.same service ((bytes_eq-Decides service service).1 refl)) e
      ∙ sym (service_gives everything s prefix called all name service (Some sub) (λ other is. refl) (λ _. alike.rising_all));
  other = λ s prefix called pairs apart.
      let before = value_at_key s.others (service_at name service (Some sub)) in
      service_gives everything s prefix called pairs name service (Some sub) (λ other is. refl) (λ is. absurd (false≢true (sym apart ∙ is)))
      ∙ ap (λ (b : Bool). cond b (given (service_at name service (Some sub)) (value_under pairs service) before) before) apart;
}

-- where nothing is asked for, the kept sections refuse the lines that all do
pub nothing_kept : (name service : List ℕ) (subs : List (List ℕ)) → IsKeptValue (subs_in_services name service subs) (has_heading (codes "services") name) (λ s. None)
nothing_kept name service subs = record {
  kept = λ text is. is;
  overridden = λ sections kind file names. names_pass (subs_in_services name service subs) name (λ text is. is) kind (has_profile_default (filter (subs_in_services name service subs).section names)) (has_profile_default names) file names sections;
  same = λ s t prefix called all some alike e. refl;
  other = λ s prefix called pairs apart. refl;
}
