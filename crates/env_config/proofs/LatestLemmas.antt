-- The values that sections give, section by section: what a place changes, and what a value.
use Rattle.std.proofs.Common.{◌≡◌, ℕ, ◌+◌, ◌<◌, Bool, true, false, cond, ◌||◌, List, [], ◌∷◌, ◌++◌, length, Ordering, Less, Equal, Greater, is_eq, refl, sym, ap, ap₂, subst, subst₂, ◌∙◌, arith}
use Rattle.std.specs.Prelude.{Option, Some, None, is_some, unwrap_or, option_map, nat_lt}
use Rattle.std.specs.Cmp.{tied_itself}
use Rattle.std.specs.Cmp.Lexicographic.{nat_list_cmp_total}
use Rattle.std.specs.List.{AllByRecursion}
use Rattle.std.specs.Option.{option_or}
use Rattle.std.specs.Ordering.{match_ordering}
use Rattle.std.proofs.lemmas.Bool.{false≢true, le-ltb, lt-ltb}
use Rattle.std.proofs.lemmas.List.Folds.{list_any-append}
use Rattle.std.proofs.Math.Bool.{or-false}
use Rattle.env_config.specs.declared.heading.HeadingForm.{HeadingForm}
use Rattle.env_config.specs.declared.heading.HeadingForm.TheVariants.{Bare, Prefixed}
use Rattle.env_config.specs.Latest.{Latest, group_of, is_beaten, put_latest, put_placed, values_in, with_place}
use Rattle.env_config.specs.Order.{IsRising}
use Rattle.env_config.specs.ProfileSink.{IsInOrder, IsLatest, is_among, is_in, latest_of, place_in, value_in_group}
use Rattle.env_config.specs.Raw.{properties_of}
use Rattle.env_config.specs.Sections.{has_profile_default, heading_of, is_profile_default}
use Rattle.env_config.specs.Texts.{Named, put, put_named, text_cmp, value_under}
use Rattle.env_config.proofs.ApartLemmas.{all_more, all_of}
use Rattle.env_config.proofs.LaterLemmas.{at_put}
use Rattle.env_config.proofs.LowerLemmas.{tied_same}
use Rattle.env_config.proofs.NarrowLemmas.{put_rising}

itself : (name : List ℕ) → is_eq (text_cmp name name) ≡ true
itself name = ap is_eq (tied_itself nat_list_cmp_total name)

-- ## The last of some values

latest_same : (place : List ℕ → ℕ) (value now : List ℕ → Option (List ℕ)) (names : List (List ℕ)) → AllByRecursion (λ (name : List ℕ). now name ≡ value name) names → latest_of place now names ≡ latest_of place value names
latest_same place value now [] same = refl
latest_same place value now (name ∷ names) same =
    ap₂ option_or (latest_same place value now names same.1) (ap (option_map (λ (v : List ℕ). (place name, v))) same.0)

place_same : (place now : List ℕ → ℕ) (value : List ℕ → Option (List ℕ)) (names : List (List ℕ)) → AllByRecursion (λ (name : List ℕ). now name ≡ place name) names → latest_of now value names ≡ latest_of place value names
place_same place now value [] same = refl
place_same place now value (name ∷ names) same =
    ap₂ option_or (place_same place now value names same.1) (ap (λ (p : ℕ). option_map (λ (v : List ℕ). (p, v)) (value name)) same.0)

-- a section without a value
latest_more : (place : List ℕ → ℕ) (value : List ℕ → Option (List ℕ)) (names : List (List ℕ)) (name : List ℕ) → value name ≡ None → latest_of place value (names ++ name ∷ []) ≡ latest_of place value names
latest_more place value [] name none = ap (option_map (λ (v : List ℕ). (place name, v))) none
latest_more place value (other ∷ names) name none =
    ap (λ (found : Option (ℕ × List ℕ)). option_or found (option_map (λ (v : List ℕ). (place other, v)) (value other))) (latest_more place value names name none)

abbrev IsAfter : ℕ → Option (ℕ × List ℕ) → Type 0
IsAfter place None = Unit {0}
IsAfter place (Some found) = place < found.0

latest_after : (place : List ℕ → ℕ) (value : List ℕ → Option (List ℕ)) (names : List (List ℕ)) (p : ℕ) → AllByRecursion (λ (name : List ℕ). p < place name) names → IsAfter p (latest_of place value names)
latest_after place value [] p all = tt
latest_after place value (name ∷ names) p all = by (latest_of place value names) (value name) (latest_after place value names p all.1)
  where
    by : (found : Option (ℕ × List ℕ)) (here : Option (List ℕ)) → IsAfter p found → IsAfter p (option_or found (option_map (λ (v : List ℕ). (place name, v)) here))
    by None None is = tt
    by None (Some v) is = all.0
    by (Some f) here is = is

-- the value, where no later section has one
abbrev beats : ℕ → List ℕ → Option (ℕ × List ℕ) → Option (ℕ × List ℕ)
beats place value found = cond (is_beaten found place) found (Some (place, value))

all_among : (P : List ℕ → Type 0) (names : List (List ℕ)) (name : List ℕ) → AllByRecursion P names → is_among name names ≡ true → P name
all_among P [] name all among = absurd (false≢true among)
all_among P (other ∷ names) name all among = by (is_eq (text_cmp name other)) refl among (λ more. all_among P names name all.1 more)
  where
    by : (b : Bool) → is_eq (text_cmp name other) ≡ b → (b || is_among name names) ≡ true → (is_among name names ≡ true → P name) → P name
    by true tied _ others = subst P (sym (tied_same name other tied)) all.0
    by false apart more others = others more

-- names whose places are different
placed_apart : (place : List ℕ → ℕ) (first name : List ℕ) → place name < place first → is_eq (text_cmp first name) ≡ false
placed_apart place first name below = by (is_eq (text_cmp first name)) refl
  where
    by : (b : Bool) → is_eq (text_cmp first name) ≡ b → b ≡ false
    by false is = refl
    by true is =
        let same : place first ≡ place name = ap place (tied_same first name is) in
        absurd (omega (arith, below, same))

latest_put : (place : List ℕ → ℕ) (value now : List ℕ → Option (List ℕ)) (names : List (List ℕ)) (name v : List ℕ) → IsInOrder place names → is_among name names ≡ true
    → ((other : List ℕ) → now other ≡ cond (is_eq (text_cmp other name)) (Some v) (value other)) → latest_of place now names ≡ beats (place name) v (latest_of place value names)
latest_put place value now [] name v order among is = absurd (false≢true among)
latest_put place value now (first ∷ names) name v order among is = by (is_eq (text_cmp name first)) refl among (λ found. latest_put place value now names name v order.1 found is)
  where
    rest : Option (ℕ × List ℕ)
    rest = latest_of place value names

    at : Option (List ℕ) → Option (ℕ × List ℕ)
    at found = option_map (λ (v : List ℕ). (place first, v)) found

    here : name ≡ first → (rest : Option (ℕ × List ℕ)) (found : Option (List ℕ)) → IsAfter (place first) rest → option_or rest (Some (place first, v)) ≡ beats (place name) v (option_or rest (at found))
    here same None None after = ap (λ (n : List ℕ). Some (place n, v)) (sym same)
    here same None (Some u) after =
        ap (λ (n : List ℕ). Some (place n, v)) (sym same)
        ∙ sym (ap (λ (b : Bool). cond b (Some (place first, u)) (Some (place name, v))) (ap (λ (n : List ℕ). nat_lt (place n) (place first)) same ∙ le-ltb (place first) (place first) (omega arith)))
    here same (Some f) found after =
        sym (ap (λ (b : Bool). cond b (Some f) (Some (place name, v))) (ap (λ (n : List ℕ). nat_lt (place n) f.0) same ∙ lt-ltb (place first) f.0 after))

    there : place first < place name → (rest : Option (ℕ × List ℕ)) (found other : Option (List ℕ)) → option_or (beats (place name) v rest) (at other) ≡ beats (place name) v (option_or rest (at found))
    there below None None other = refl
    there below None (Some u) other =
        sym (ap (λ (b : Bool). cond b (Some (place first, u)) (Some (place name, v))) (le-ltb (place name) (place first) (omega (arith, below))))
    there below (Some f) found other = some (nat_lt (place name) f.0)
      where
        some : (b : Bool) → option_or (cond b (Some f) (Some (place name, v))) (at other) ≡ cond b (Some f) (Some (place name, v))
        some true = refl
        some false = refl

    by : (b : Bool) → is_eq (text_cmp name first) ≡ b → (b || is_among name names) ≡ true → (is_among name names ≡ true → latest_of place now names ≡ beats (place name) v rest)
        → option_or (latest_of place now names) (at (now first)) ≡ beats (place name) v (option_or rest (at (value first)))
    by true tied _ _ =
        let same : name ≡ first = tied_same name first tied in
        let others = all_of (λ (other : List ℕ). place first < place other) (λ (other : List ℕ). now other ≡ value other)
        (λ other above. is other ∙ ap (λ (b : Bool). cond b (Some v) (value other)) (placed_apart place other name (subst (λ (n : List ℕ). place n < place other) (sym same) above))) names order.0 in
        let first_is : now first ≡ Some v = is first ∙ ap (λ (b : Bool). cond b (Some v) (value first)) (ap (λ (n : List ℕ). is_eq (text_cmp first n)) same ∙ itself first) in
        ap₂ option_or (latest_same place value now names others) (ap at first_is)
        ∙ here same rest (value first) (latest_after place value names (place first) order.0)
    by false apart found more =
        ap (λ (r : Option (ℕ × List ℕ)). option_or r (at (now first))) (more found)
        ∙ there (all_among (λ (other : List ℕ). place first < place other) names name order.0 found) rest (value first) (now first)

-- ## Maps

length_put : {X : Type 0} (es : List (List ℕ × X)) (key : List ℕ) (value : X) → is_some (value_under es key) ≡ false → length (put es key value) ≡ length es + 1
length_put [] key value none = refl
length_put {X} (e ∷ es) key value none = by (text_cmp key e.0) none (λ is. length_put es key value is)
  where
    by : (o : Ordering) → is_some (cond (is_eq o) (Some e.1) (value_under es key)) ≡ false → (is_some (value_under es key) ≡ false → length (put es key value) ≡ length es + 1)
        → length (match_ordering o ((key, value) ∷ e ∷ es) ((e.0, value) ∷ es) (e ∷ put es key value)) ≡ length (e ∷ es) + 1
    by Less is more = omega arith
    by Equal is more = absurd (false≢true (sym is))
    by Greater is more = let others = more is in omega (arith, others)

-- the value at a key, after one was put with its place
placed_gives : (values : List (List ℕ × (ℕ × List ℕ))) (place : ℕ) (key value q : List ℕ)
    → value_under (put_placed values place key value) q ≡ cond (is_eq (text_cmp q key)) (beats place value (value_under values q)) (value_under values q)
placed_gives values place key value q = by (is_beaten (value_under values key) place) (is_eq (text_cmp q key)) refl refl
  where
    by : (b t : Bool) → is_beaten (value_under values key) place ≡ b → is_eq (text_cmp q key) ≡ t
        → value_under (cond b values (put values key (place, value))) q ≡ cond t (cond (is_beaten (value_under values q) place) (value_under values q) (Some (place, value))) (value_under values q)
    by true true beaten is =
        sym (ap (λ (b : Bool). cond b (value_under values q) (Some (place, value))) (ap (λ (k : List ℕ). is_beaten (value_under values k) place) (tied_same q key is) ∙ beaten))
    by true false beaten is = refl
    by false true beaten is =
        at_put text_cmp nat_list_cmp_total values key (place, value) q ∙ ap (λ (c : Bool). cond c (Some (place, value)) (value_under values q)) is
        ∙ sym (ap (λ (b : Bool). cond b (value_under values q) (Some (place, value))) (ap (λ (k : List ℕ). is_beaten (value_under values k) place) (tied_same q key is) ∙ beaten))
    by false false beaten is = at_put text_cmp nat_list_cmp_total values key (place, value) q ∙ ap (λ (c : Bool). cond c (Some (place, value)) (value_under values q)) is

placed_rising : (values : List (List ℕ × (ℕ × List ℕ))) (place : ℕ) (key value : List ℕ) → IsRising values → IsRising (put_placed values place key value)
placed_rising values place key value rising = by (is_beaten (value_under values key) place)
  where
    by : (b : Bool) → IsRising (cond b values (put values key (place, value)))
    by true = rising
    by false = put_rising values key (place, value) rising

some_either : {X : Type 0} (t : Bool) (x : X) (found : Option X) → is_some (cond t (Some x) found) ≡ cond t true (is_some found)
some_either true x found = refl
some_either false x found = refl

-- ## A section that is opened

-- properties that are put where they stand
properties_stay : (sections : Named (List (List ℕ × List ℕ))) (name : List ℕ) (names : List (List ℕ)) (other : List ℕ)
    → properties_of (record { names = names; values = put sections.values name (properties_of sections name) }) other ≡ properties_of sections other
properties_stay sections name names other =
    ap (λ (found : Option (List (List ℕ × List ℕ))). unwrap_or found []) (at_put text_cmp nat_list_cmp_total sections.values name (properties_of sections name) other) ∙ by (is_eq (text_cmp other name)) refl
  where
    by : (b : Bool) → is_eq (text_cmp other name) ≡ b → unwrap_or (cond b (Some (properties_of sections name)) (value_under sections.values other)) [] ≡ properties_of sections other
    by true is = ap (properties_of sections) (sym (tied_same other name is))
    by false is = refl

values_stay : (profile : List ℕ) (sections now : Named (List (List ℕ × List ℕ))) (group : HeadingForm) (key : List ℕ) → ((name : List ℕ) → properties_of now name ≡ properties_of sections name)
    → (names : List (List ℕ)) → AllByRecursion (λ (name : List ℕ). value_in_group profile now group key name ≡ value_in_group profile sections group key name) names
values_stay profile sections now group key same [] = tt
values_stay profile sections now group key same (name ∷ names) =
    (ap (λ (pairs : List (List ℕ × List ℕ)). cond (is_in group (group_of profile (heading_of name))) (value_under pairs key) None) (same name), values_stay profile sections now group key same names)

all_both : {X : Type 0} (P Q : X → Type 0) (xs : List X) → AllByRecursion P xs → AllByRecursion Q xs → AllByRecursion (λ x. P x × Q x) xs
all_both P Q [] one other = tt
all_both P Q (x ∷ xs) one other = ((one.0, other.0), all_both P Q xs one.1 other.1)

order_more : (place now : List ℕ → ℕ) (next : ℕ) (names : List (List ℕ)) (name : List ℕ) → AllByRecursion (λ (n : List ℕ). (now n ≡ place n) × (place n < next)) names → now name ≡ next → IsInOrder place names → IsInOrder now (names ++ name ∷ [])
order_more place now next [] name all new order = (tt, tt)
order_more place now next (first ∷ names) name all new order =
    let below : AllByRecursion (λ (n : List ℕ). now first < now n) names =
    all_of (λ (n : List ℕ). (place first < place n) × ((now n ≡ place n) × (place n < next))) (λ (n : List ℕ). now first < now n)
    (λ n is. let here = all.0.0 in let above = is.0 in let there = is.1.0 in omega (arith, here, above, there)) names
    (all_both (λ (n : List ℕ). place first < place n) (λ (n : List ℕ). (now n ≡ place n) × (place n < next)) names order.0 all.1) in
    (all_more (λ (n : List ℕ). now first < now n) names name below (let here = all.0.0 in let under = all.0.1 in omega (arith, here, under, new)), order_more place now next names name all.1 new order.1)

or_swap : (t a : Bool) → cond t true a ≡ (a || (t || false))
or_swap true true = refl
or_swap true false = refl
or_swap false true = refl
or_swap false false = refl

none_there : {X : Type 0} (found : Option X) → is_some found ≡ false → found ≡ None
none_there None is = refl
none_there (Some x) is = absurd (false≢true (sym is))

pub latest_opened : (profile : List ℕ) (sections : Named (List (List ℕ × List ℕ))) (latest : Latest) (name : List ℕ) → IsLatest profile sections latest
    → IsLatest profile (put_named sections name (properties_of sections name)) (with_place latest name)
latest_opened profile sections latest name is = either_way (is_some (value_under latest.places name)) (is_some (value_under sections.values name)) refl refl
  where
    pairs : List (List ℕ × List ℕ)
    pairs = properties_of sections name

    next : ℕ
    next = length latest.places

    fresh : Latest
    fresh = record latest { places = put latest.places name next; overridden = latest.overridden || is_profile_default (heading_of name).prefix (heading_of name).name }

    now : Bool → Named (List (List ℕ × List ℕ))
    now known = record { names = cond known sections.names (sections.names ++ name ∷ []); values = put sections.values name pairs }

    place_now : (n : List ℕ) → value_under fresh.places n ≡ cond (is_eq (text_cmp n name)) (Some next) (value_under latest.places n)
    place_now n = at_put text_cmp nat_list_cmp_total latest.places name next n

    value_now : (n : List ℕ) → value_under (now true).values n ≡ cond (is_eq (text_cmp n name)) (Some pairs) (value_under sections.values n)
    value_now n = at_put text_cmp nat_list_cmp_total sections.values name pairs n

    stay : (known : Bool) (group : HeadingForm) (key : List ℕ) → AllByRecursion (λ (n : List ℕ). value_in_group profile (now known) group key n ≡ value_in_group profile sections group key n) sections.names
    stay known group key = values_stay profile sections (now known) group key (properties_stay sections name (now known).names) sections.names

    known_before : is_some (value_under latest.places name) ≡ true → IsLatest profile (now true) latest
    known_before there = record {
      known = λ q. is.known q ∙ sym (ap is_some (value_now q) ∙ known_at q (is_eq (text_cmp q name)) refl);
      among = is.among;
      in_order = is.in_order;
      listed = is.listed;
      overridden = is.overridden;
      pairs = λ n. subst IsRising (sym (properties_stay sections name (now true).names n)) (is.pairs n);
      rising = is.rising;
      values = λ group key. is.values group key ∙ sym (latest_same (place_in latest) (value_in_group profile sections group key) (value_in_group profile (now true) group key) sections.names (stay true group key));
    }
      where
        known_at : (q : List ℕ) (t : Bool) → is_eq (text_cmp q name) ≡ t → is_some (cond t (Some pairs) (value_under sections.values q)) ≡ is_some (value_under sections.values q)
        known_at q true tied = sym (ap (λ (n : List ℕ). is_some (value_under sections.values n)) (tied_same q name tied) ∙ sym (is.known name) ∙ there)
        known_at q false tied = refl

    new_section : is_some (value_under latest.places name) ≡ false → IsLatest profile (now false) fresh
    new_section lacks = record {
      known = λ q. ap is_some (place_now q) ∙ some_either (is_eq (text_cmp q name)) next (value_under latest.places q)
          ∙ ap (λ (b : Bool). cond (is_eq (text_cmp q name)) true b) (is.known q) ∙ sym (ap is_some (value_now q) ∙ some_either (is_eq (text_cmp q name)) pairs (value_under sections.values q));
      among = λ q. ap is_some (place_now q) ∙ some_either (is_eq (text_cmp q name)) next (value_under latest.places q)
          ∙ ap (λ (b : Bool). cond (is_eq (text_cmp q name)) true b) (is.among q) ∙ or_swap (is_eq (text_cmp q name)) (is_among q sections.names)
          ∙ sym (list_any-append (λ (other : List ℕ). is_eq (text_cmp q other)) sections.names (name ∷ []));
      in_order = order_more (place_in latest) (place_in fresh) next sections.names name placed new_place is.in_order;
      listed = all_more Listed sections.names name (all_of IsListed Listed listed_now sections.names is.listed) (ap is_some (new_at), subst (λ (n : ℕ). place_in fresh name < n) (sym grown) (omega (arith, new_place)));
      overridden = ap (λ (b : Bool). b || is_profile_default (heading_of name).prefix (heading_of name).name) is.overridden
          ∙ sym (list_any-append is_default_heading sections.names (name ∷ []) ∙ ap (λ (b : Bool). has_profile_default sections.names || b) (or-false (is_default_heading name)));
      pairs = λ n. subst IsRising (sym (properties_stay sections name (now false).names n)) (is.pairs n);
      rising = rising_now;
      values = λ group key. same_values group key ∙ is.values group key
          ∙ sym (latest_more (place_in fresh) (value_in_group profile (now false) group key) sections.names name (none_here group key)
          ∙ latest_same (place_in fresh) (value_in_group profile sections group key) (value_in_group profile (now false) group key) sections.names (stay false group key)
          ∙ place_same (place_in latest) (place_in fresh) (value_in_group profile sections group key) sections.names (all_of IsListed (λ (n : List ℕ). place_in fresh n ≡ place_in latest n) (λ n is. place_stays n is.0) sections.names is.listed));
    }
      where
        is_default_heading : List ℕ → Bool
        is_default_heading n = is_profile_default (heading_of n).prefix (heading_of n).name

        IsListed : List ℕ → Type 0
        IsListed n = (is_some (value_under latest.places n) ≡ true) × (place_in latest n < next)

        Listed : List ℕ → Type 0
        Listed n = (is_some (value_under fresh.places n) ≡ true) × (place_in fresh n < length fresh.places)

        grown : length fresh.places ≡ next + 1
        grown = length_put latest.places name next lacks

        apart : (n : List ℕ) → is_some (value_under latest.places n) ≡ true → (t : Bool) → is_eq (text_cmp n name) ≡ t → t ≡ false
        apart n there false tied = refl
        apart n there true tied = sym there ∙ ap (λ (m : List ℕ). is_some (value_under latest.places m)) (tied_same n name tied) ∙ lacks

        stays : (n : List ℕ) → is_some (value_under latest.places n) ≡ true → value_under fresh.places n ≡ value_under latest.places n
        stays n there = place_now n ∙ ap (λ (t : Bool). cond t (Some next) (value_under latest.places n)) (apart n there (is_eq (text_cmp n name)) refl)

        place_stays : (n : List ℕ) → is_some (value_under latest.places n) ≡ true → place_in fresh n ≡ place_in latest n
        place_stays n there = ap (λ (found : Option ℕ). unwrap_or found 0) (stays n there)

        new_at : value_under fresh.places name ≡ Some next
        new_at = place_now name ∙ ap (λ (t : Bool). cond t (Some next) (value_under latest.places name)) (itself name)

        new_place : place_in fresh name ≡ next
        new_place = ap (λ (found : Option ℕ). unwrap_or found 0) new_at

        placed : AllByRecursion (λ (n : List ℕ). (place_in fresh n ≡ place_in latest n) × (place_in latest n < next)) sections.names
        placed = all_of IsListed (λ (n : List ℕ). (place_in fresh n ≡ place_in latest n) × (place_in latest n < next)) (λ n is. (place_stays n is.0, is.1)) sections.names is.listed

        listed_now : (n : List ℕ) → IsListed n → Listed n
        listed_now n is =
            let same = place_stays n is.0 in
            let below = is.1 in
            (ap is_some (stays n is.0) ∙ is.0, subst (λ (m : ℕ). place_in fresh n < m) (sym grown) (omega (arith, same, below)))

        rising_now : (group : HeadingForm) → IsRising (values_in fresh group)
        rising_now Prefixed = is.rising Prefixed
        rising_now Bare = is.rising Bare

        same_values : (group : HeadingForm) (key : List ℕ) → value_under (values_in fresh group) key ≡ value_under (values_in latest group) key
        same_values Prefixed key = refl
        same_values Bare key = refl

        nothing : properties_of (now false) name ≡ []
        nothing = properties_stay sections name (now false).names name ∙ ap (λ (found : Option (List (List ℕ × List ℕ))). unwrap_or found []) (none_there (value_under sections.values name) (sym (is.known name) ∙ lacks))

        none_here : (group : HeadingForm) (key : List ℕ) → value_in_group profile (now false) group key name ≡ None
        none_here group key = ap (λ (pairs : List (List ℕ × List ℕ)). cond (is_in group (group_of profile (heading_of name))) (value_under pairs key) None) nothing ∙ never (is_in group (group_of profile (heading_of name)))
          where
            never : (b : Bool) → cond {A = Option (List ℕ)} b None None ≡ None
            never true = refl
            never false = refl

    either_way : (b d : Bool) → is_some (value_under latest.places name) ≡ b → is_some (value_under sections.values name) ≡ d → IsLatest profile (now d) (cond b latest fresh)
    either_way true true there _ = known_before there
    either_way false false lacks _ = new_section lacks
    either_way true false there lacks = absurd (false≢true (sym lacks ∙ sym (is.known name) ∙ there))
    either_way false true lacks there = absurd (false≢true (sym lacks ∙ is.known name ∙ there))

-- ## A property that is put

module _ (profile : List ℕ) (sections : Named (List (List ℕ × List ℕ))) (latest : Latest) (name : List ℕ) (place : ℕ) (pair : List ℕ × List ℕ) where
  abbrev pub grouped : Option HeadingForm
  grouped = group_of profile (heading_of name)

  abbrev pub pairs_before : List (List ℕ × List ℕ)
  pairs_before = properties_of sections name

  abbrev pub pairs_now : List (List ℕ × List ℕ)
  pairs_now = put pairs_before pair.0 pair.1

  abbrev pub sections_now : Bool → Named (List (List ℕ × List ℕ))
  sections_now known = record { names = cond known sections.names (sections.names ++ name ∷ []); values = put sections.values name pairs_now }

  abbrev pub values_now : Option HeadingForm → HeadingForm → List (List ℕ × (ℕ × List ℕ))
  values_now at group = cond (is_in group at) (put_placed (values_in latest group) place pair.0 pair.1) (values_in latest group)

  -- the values with that of the section, where it is one of the profile
  abbrev pub latest_put_in : Option HeadingForm → Latest
  latest_put_in None = latest
  latest_put_in (Some group) = put_latest latest group place pair.0 pair.1

  put_is : (at : Option HeadingForm) → record latest { bare = values_now at Bare; prefixed = values_now at Prefixed } ≡ latest_put_in at
  put_is None = refl
  put_is (Some Prefixed) = refl
  put_is (Some Bare) = refl

  now_gives : (group : HeadingForm) (key : List ℕ) → let found = value_under (values_in latest group) key in
      value_under (values_now grouped group) key ≡ cond (is_in group grouped) (cond (is_eq (text_cmp key pair.0)) (beats place pair.1 found) found) found
  now_gives group key = by (is_in group grouped)
    where
      by : (b : Bool) → let found = value_under (values_in latest group) key in
          value_under (cond b (put_placed (values_in latest group) place pair.0 pair.1) (values_in latest group)) key ≡ cond b (cond (is_eq (text_cmp key pair.0)) (beats place pair.1 found) found) found
      by true = placed_gives (values_in latest group) place pair.0 pair.1 key
      by false = refl

  now_rising : ((group : HeadingForm) → IsRising (values_in latest group)) → (group : HeadingForm) → IsRising (values_now grouped group)
  now_rising rising group = by (is_in group grouped)
    where
      by : (b : Bool) → IsRising (cond b (put_placed (values_in latest group) place pair.0 pair.1) (values_in latest group))
      by true = placed_rising (values_in latest group) place pair.0 pair.1 (rising group)
      by false = rising group

  -- the value in the section
  own_now : (key : List ℕ) → value_under pairs_now key ≡ cond (is_eq (text_cmp key pair.0)) (Some pair.1) (value_under pairs_before key)
  own_now key = at_put text_cmp nat_list_cmp_total pairs_before pair.0 pair.1 key

  -- the value in each section
  value_at : (group : HeadingForm) (key other : List ℕ)
      → value_in_group profile (sections_now true) group key other ≡ cond (is_eq (text_cmp other name)) (cond (is_in group grouped) (value_under pairs_now key) None) (value_in_group profile sections group key other)
  value_at group key other =
      ap (λ (found : Option (List (List ℕ × List ℕ))). cond (is_in group (group_of profile (heading_of other))) (value_under (unwrap_or found []) key) None) (at_put text_cmp nat_list_cmp_total sections.values name pairs_now other)
      ∙ by (is_eq (text_cmp other name)) refl
    where
      by : (b : Bool) → is_eq (text_cmp other name) ≡ b
          → cond (is_in group (group_of profile (heading_of other))) (value_under (unwrap_or (cond b (Some pairs_now) (value_under sections.values other)) []) key) None
          ≡ cond b (cond (is_in group grouped) (value_under pairs_now key) None) (value_in_group profile sections group key other)
      by true tied = ap (λ (n : List ℕ). cond (is_in group (group_of profile (heading_of n))) (value_under pairs_now key) None) (tied_same other name tied)
      by false tied = refl

  -- the section's value is what it was
  unchanged : (group : HeadingForm) (key : List ℕ) → cond (is_in group grouped) (value_under pairs_now key) None ≡ value_in_group profile sections group key name
      → (names : List (List ℕ)) → AllByRecursion (λ (other : List ℕ). value_in_group profile (sections_now true) group key other ≡ value_in_group profile sections group key other) names
  unchanged group key same [] = tt
  unchanged group key same (other ∷ names) = (value_at group key other ∙ by (is_eq (text_cmp other name)) refl, unchanged group key same names)
    where
      by : (b : Bool) → is_eq (text_cmp other name) ≡ b → cond b (cond (is_in group grouped) (value_under pairs_now key) None) (value_in_group profile sections group key other) ≡ value_in_group profile sections group key other
      by true tied = same ∙ ap (value_in_group profile sections group key) (sym (tied_same other name tied))
      by false tied = refl

  values_follow : IsLatest profile sections latest → value_under latest.places name ≡ Some place → (group : HeadingForm) (key : List ℕ)
      → value_under (values_now grouped group) key ≡ latest_of (place_in latest) (value_in_group profile (sections_now true) group key) sections.names
  values_follow is at group key = now_gives group key ∙ by (is_in group grouped) (is_eq (text_cmp key pair.0)) refl refl
    where
      found : Option (ℕ × List ℕ)
      found = value_under (values_in latest group) key

      own : Bool → Option (List ℕ)
      own i = cond i (value_under pairs_now key) None

      there : is_among name sections.names ≡ true
      there = sym (is.among name) ∙ ap is_some at

      before : latest_of (place_in latest) (value_in_group profile sections group key) sections.names ≡ found
      before = sym (is.values group key)

      as_before : own (is_in group grouped) ≡ value_in_group profile sections group key name → found ≡ latest_of (place_in latest) (value_in_group profile (sections_now true) group key) sections.names
      as_before same = sym (latest_same (place_in latest) (value_in_group profile sections group key) (value_in_group profile (sections_now true) group key) sections.names (unchanged group key same sections.names) ∙ before)

      by : (i t : Bool) → is_in group grouped ≡ i → is_eq (text_cmp key pair.0) ≡ t
          → cond i (cond t (beats place pair.1 found) found) found ≡ latest_of (place_in latest) (value_in_group profile (sections_now true) group key) sections.names
      by false t i_is t_is = as_before (ap own i_is ∙ sym (ap (λ (i : Bool). cond i (value_under pairs_before key) None) i_is))
      by true false i_is t_is =
          as_before (ap (λ (x : Option (List ℕ)). cond (is_in group grouped) x None) (own_now key ∙ ap (λ (t : Bool). cond t (Some pair.1) (value_under pairs_before key)) t_is))
      by true true i_is t_is =
          let own_is : own (is_in group grouped) ≡ Some pair.1 = ap own i_is ∙ own_now key ∙ ap (λ (t : Bool). cond t (Some pair.1) (value_under pairs_before key)) t_is in
          sym (latest_put (place_in latest) (value_in_group profile sections group key) (value_in_group profile (sections_now true) group key) sections.names name pair.1 is.in_order there
          (λ other. value_at group key other ∙ ap (λ (x : Option (List ℕ)). cond (is_eq (text_cmp other name)) x (value_in_group profile sections group key other)) own_is)
          ∙ ap₂ (λ (p : ℕ) (f : Option (ℕ × List ℕ)). beats p pair.1 f) (ap (λ (f : Option ℕ). unwrap_or f 0) at) before)

  pub latest_last : IsLatest profile sections latest → value_under latest.places name ≡ Some place → IsLatest profile (put_named sections name pairs_now) (latest_put_in grouped)
  latest_last is at =
      subst₂ (IsLatest profile) (ap sections_now (sym known_is)) (put_is grouped) (record {
        known = λ q. is.known q ∙ sym (ap is_some (at_put text_cmp nat_list_cmp_total sections.values name pairs_now q) ∙ known_at q (is_eq (text_cmp q name)) refl);
        among = is.among;
        in_order = is.in_order;
        listed = is.listed;
        overridden = is.overridden;
        pairs = pairs_rising;
        rising = rising_now;
        values = follow;
      })
    where
      known_is : is_some (value_under sections.values name) ≡ true
      known_is = sym (is.known name) ∙ ap is_some at

      known_at : (q : List ℕ) (t : Bool) → is_eq (text_cmp q name) ≡ t → is_some (cond t (Some pairs_now) (value_under sections.values q)) ≡ is_some (value_under sections.values q)
      known_at q true tied = sym (ap (λ (n : List ℕ). is_some (value_under sections.values n)) (tied_same q name tied) ∙ known_is)
      known_at q false tied = refl

      pairs_rising : (n : List ℕ) → IsRising (properties_of (sections_now true) n)
      pairs_rising n =
          subst (λ (found : Option (List (List ℕ × List ℕ))). IsRising (unwrap_or found [])) (sym (at_put text_cmp nat_list_cmp_total sections.values name pairs_now n)) (by (is_eq (text_cmp n name)))
        where
          by : (b : Bool) → IsRising (unwrap_or (cond b (Some pairs_now) (value_under sections.values n)) [])
          by true = put_rising pairs_before pair.0 pair.1 (is.pairs name)
          by false = is.pairs n

      rising_now : (group : HeadingForm) → IsRising (values_in (record latest { bare = values_now grouped Bare; prefixed = values_now grouped Prefixed }) group)
      rising_now Prefixed = now_rising is.rising Prefixed
      rising_now Bare = now_rising is.rising Bare

      follow : (group : HeadingForm) (key : List ℕ) → value_under (values_in (record latest { bare = values_now grouped Bare; prefixed = values_now grouped Prefixed }) group) key
          ≡ latest_of (place_in latest) (value_in_group profile (sections_now true) group key) sections.names
      follow Prefixed key = values_follow is at Prefixed key
      follow Bare key = values_follow is at Bare key
