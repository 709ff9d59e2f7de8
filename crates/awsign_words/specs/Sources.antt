-- The options that say who signs, for requests and for events.
use Rattle.std.specs.Prelude.{ℕ, Bool, ◌||◌, List, codes, bytes_eq}

-- an option that says who signs, and for which region
abbrev pub is_source_option : List ℕ → Bool
is_source_option word =
    bytes_eq word (codes "--profile") || bytes_eq word (codes "--region") || bytes_eq word (codes "--config") || bytes_eq word (codes "--credentials")
