-- Each property of merged sections stands under its own key.
use Rattle.std.proofs.Common.{◌≡◌, ℕ, List, [], ◌∷◌, Ordering, Less, Equal, Greater, is_eq, refl, sym, ap, subst, ◌∙◌}
use Rattle.std.specs.Prelude.{Option, Some, None, IfSome}
use Rattle.std.specs.Ordering.{match_ordering}
use Rattle.env_config.specs.Texts.{EachValue, Named, put, put_named, text_cmp, value_under}
use Rattle.env_config.specs.Section.{IsKeyed}
use Rattle.env_config.proofs.LowerLemmas.{OfSome, put_each, tied_same, value_each}

-- a value that is put under its own key
pub put_keyed : (contents : List (List ℕ × (List ℕ × List ℕ))) (key value : List ℕ) → IsKeyed contents → IsKeyed (put contents key (key, value))
put_keyed [] key value keyed = (refl, tt)
put_keyed (e ∷ es) key value keyed = by (text_cmp key e.0) refl (put_keyed es key value keyed.1)
  where
    by : (o : Ordering) → text_cmp key e.0 ≡ o → IsKeyed (put es key (key, value)) → IsKeyed (match_ordering o ((key, (key, value)) ∷ e ∷ es) ((e.0, (key, value)) ∷ es) (e ∷ put es key (key, value)))
    by Less is more = (refl, keyed)
    by Equal is more = (tied_same key e.0 (ap is_eq is), keyed.1)
    by Greater is more = (keyed.0, more)

if_some : {X : Type 0} (P : X → Type 0) (o : Option X) → OfSome P o → IfSome o P
if_some P None is = tt
if_some P (Some x) is = is

-- P holds of the value at a name
pub value_passes : {X : Type 0} (P : X → Type 0) (named : Named X) (name : List ℕ) (had : Option X) → had ≡ value_under named.values name → EachValue P named.values → IfSome had P
value_passes P named name had is each = if_some P had (subst (OfSome P) (sym is) (value_each P named.values name each))

-- P holds of each value, also after one was put
pub put_passes : {X : Type 0} (P : X → Type 0) (old between now : Named X) (name : List ℕ) (filled : X) → ((value : X) → put_named between name value ≡ put_named old name value) → now ≡ put_named between name filled
    → EachValue P old.values → P filled → EachValue P now.values
put_passes {X} P old between now name filled later now_is each is = subst (λ (n : Named X). EachValue P n.values) (sym (now_is ∙ later filled)) (put_each P old.values name filled each is)
