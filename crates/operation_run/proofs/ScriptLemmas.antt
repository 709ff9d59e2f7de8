-- A transport that gives listed replies.
use Rattle.std.proofs.Common.{◌≡◌, ◌<◌, ◌≤◌, List, [], ◌∷◌, ◌++◌, length, map, take, get_or, ap, ◌∙◌}
use Rattle.std.proofs.lemmas.List.{get_or-map, length-map, length_push, take_more}

-- one more request has one more reply
pub replied_next : {X Y Z W : Type 0} (f : X → Y) (g : Z → W) (items : List X) (before now : List Z) (request : W) (d : X) → length before < length items
    → map g now ≡ map g before ++ request ∷ []
    → take (length (map g now)) (map f items) ≡ take (length (map g before)) (map f items) ++ f (get_or items (length before) d) ∷ []
replied_next f g items before now request d within is =
    rw (ap length is, length_push (map g before) request, length-map before g)
    (take_more (map f items) (length before) (f d) (rw (length-map items f) within)
    ∙ ap (λ y. take (length before) (map f items) ++ y ∷ []) (get_or-map f items (length before) d (f d) within))

-- as many requests as replies
pub all_given : {X Y Z W : Type 0} (f : X → Y) (g : Z → W) (items : List X) (sent : List Z) → length items ≤ length sent → length (map f items) ≤ length (map g sent)
all_given f g items sent all = rw (length-map items f, length-map sent g) all
