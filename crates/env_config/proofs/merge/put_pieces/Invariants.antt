use Rattle.std.proofs.Common.{◌≡◌, List, ℕ}
use Rattle.env_config.specs.Kept.{keeps_of}
use Rattle.env_config.specs.Merge.{HoldsProperty, length_left, pieces_left}
use Rattle.env_config.specs.Properties.{Subs, subs_in}
use Rattle.env_config.specs.Sections.{Key, put_subs, value_pieces}
use Rattle.env_config.proofs.merge.put_pieces.Given as goal

-- the pieces to come give what all pieces give
abbrev pub invariant-loop-rest : goal.invariant-loop-rest
invariant-loop-rest l =
    (whole : Subs → List (Key × List ℕ)) (prefix name key : List ℕ) → HoldsProperty whole prefix name key
    → put_subs (keeps_of l.kept) (whole (subs_in l.subs)) prefix name key (pieces_left l.rest) ≡ put_subs (keeps_of l.kept) (whole (subs_in l.fn.subs)) prefix name key (value_pieces l.value)

abbrev pub decreases-loop-rest : goal.decreases-loop-rest
decreases-loop-rest l = length_left l.rest
