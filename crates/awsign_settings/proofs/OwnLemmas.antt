-- What each profile file has by itself.
use Rattle.std.proofs.Common.{◌≡◌, ◌++◌, [], List, append-nil, ap}
use Rattle.std.specs.Prelude.{Result, Ok, Err}
use Rattle.aws_settings.specs.Choice.{Lack}
use Rattle.awsign_settings.specs.Own.{Own}

-- what files to come give, behind what was read
abbrev pub behind : List Own → Result (List Own) Lack → Result (List Own) Lack
behind front (Ok owns) = Ok (front ++ owns)
behind front (Err lack) = Err lack

-- all files were read
pub all_read : (front : List Own) → behind front (Ok []) ≡ Ok front
all_read front = ap Ok (append-nil front)
