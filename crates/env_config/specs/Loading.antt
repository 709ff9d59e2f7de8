-- What is loaded: the paths of the default files, and the texts of files, each by one read of the disk.
use Rattle.std.specs.Prelude.{◌≡◌, ◌⊎◌, ◌==◌, ◌||◌, ℕ, Bool, List, [], ◌∷◌, ◌++◌, codes, map, Option, Some, None, unwrap_or, if◌then◌else◌, String, string_bytes, Result, Ok, Err, length, slice_index}
use Rattle.std.specs.Global.{Vec}
use Rattle.std.specs.Str.{is_utf8}
use Rattle.std.specs.declared.alloc.Global.{Global}
use Rattle.smithy_core.specs.Outside.{HasFile, LacksFile, RoseOrStands}
use Rattle.smithy_core.specs.TextPairs.{last_value}
use Rattle.smithy_core.specs.declared.outside.disk.DiskError.{DiskError}
use Rattle.smithy_core.specs.declared.outside.disk.DiskError.TheVariants.{NotFound, Failed}
use Rattle.smithy_core.specs.declared.outside.disk.DiskError.TheVariants as disk
use Rattle.env_config.specs.Files.{At, Given, Place, Usual}
use Rattle.env_config.specs.Home.{home}
use Rattle.env_config.specs.Line.{after_byte}
use Rattle.env_config.specs.Sections.{FileText}
use Rattle.env_config.specs.Source.{file_of}
use Rattle.env_config.specs.declared.home.Os.TheVariants.{Unix}
use Rattle.env_config.specs.declared.source.File.{File}
use Rattle.env_config.specs.declared.source.Source.{Source}
use Rattle.env_config.specs.declared.source.EnvConfigFileKind.{EnvConfigFileKind}
use Rattle.env_config.specs.declared.source.EnvConfigFileKind.TheVariants.{Config, Credentials}
use Rattle.env_config.specs.declared.load_fault.EnvConfigFileLoadError.{EnvConfigFileLoadError}
use Rattle.env_config.specs.declared.load_fault.EnvConfigFileLoadError.TheVariants.{CouldNotReadFile, NoMemory, ParseError}

-- ## Paths

abbrev pub path_variable : EnvConfigFileKind → List ℕ
path_variable Config = codes "AWS_CONFIG_FILE"
path_variable Credentials = codes "AWS_SHARED_CREDENTIALS_FILE"

abbrev pub usual_path : EnvConfigFileKind → List ℕ
usual_path Config = codes "~/.aws/config"
usual_path Credentials = codes "~/.aws/credentials"

-- `~`
abbrev pub home_sign : ℕ
home_sign = 126

-- `/`
abbrev pub slash : ℕ
slash = 47

-- nothing, or a text that begins with a slash
abbrev pub is_below_home : List ℕ → Bool
is_below_home rest = length rest == 0 || slice_index rest 0 == slash

abbrev pub below_home : Option (List ℕ) → Option (List ℕ)
below_home None = None
below_home (Some rest) = if is_below_home rest then Some rest else None

-- what follows the sign `~` at the front, where the home directory stands for it
abbrev pub after_home_sign : List ℕ → Option (List ℕ)
after_home_sign path = below_home (after_byte home_sign path)

-- the home directory, where there is one, in place of the sign `~`
abbrev pub with_home : List ℕ → Option (List ℕ) → Option (List ℕ) → List ℕ
with_home path None rest = path
with_home path (Some dir) None = path
with_home path (Some dir) (Some rest) = dir ++ rest

unfoldable pub expanded : List ℕ → Option (List ℕ) → List ℕ
expanded path dir = with_home path dir (after_home_sign path)

-- the path of a default file: its variable, or else the usual path
unfoldable pub default_path : List (List ℕ × List ℕ) → EnvConfigFileKind → List ℕ
default_path env kind = expanded (unwrap_or (last_value env (path_variable kind)) (usual_path kind)) (home env Unix)

-- the name of the profile that the variable selects
abbrev pub selected_profile : List (List ℕ × List ℕ) → List ℕ
selected_profile env = unwrap_or (last_value env (codes "AWS_PROFILE")) (codes "default")

-- ## Reads of a disk

-- bytes that aren't UTF-8 count as no bytes
abbrev pub utf8_or_empty : List ℕ → List ℕ
utf8_or_empty bytes = if is_utf8 bytes then bytes else []

-- `answers` is the disk's own relation of one read, `faults` its count of faults, and `files` what it tells of its files
module _ {D : Type 0} (answers : D → List ℕ → Result (Vec ℕ) DiskError → D → Type 0) (faults : D → ℕ) (files : Option (List (List ℕ × List ℕ))) where
  -- one read of the path gave the bytes of its file, and these give the text
  abbrev pub HasRead : List ℕ → D → D → List ℕ → Type 0
  HasRead path before now contents =
      (bytes : Vec ℕ) × answers before path (Ok bytes) now × HasFile files path bytes.items × (faults now ≡ faults before) × (contents ≡ utf8_or_empty bytes.items)

  -- one read of the path gave no bytes: the disk lacks the file, or this read failed and the count of faults rose
  abbrev pub IsUnread : List ℕ → D → D → Type 0
  IsUnread path before now =
      (answers before path (Err NotFound) now × LacksFile files path × (faults now ≡ faults before)) ⊎ (answers before path (Err Failed) now × RoseOrStands (faults before) (faults now))

  -- one read of the path: its text, or why it gave none
  abbrev pub ReadsPath : List ℕ → D → D → Result (String Global) DiskError → Type 0
  ReadsPath path before now (Ok text) = HasRead path before now (string_bytes text)
  ReadsPath path before now (Err NotFound) = IsUnread path before now
  ReadsPath path before now (Err Failed) = IsUnread path before now
  ReadsPath path before now (Err disk.NoMemory) = Unit {0}

  -- one read of the path of a default file, which counts as empty where it is unread
  abbrev pub ReadsDefault : List ℕ → D → D → List ℕ → Type 0
  ReadsDefault path before now contents = HasRead path before now contents ⊎ (IsUnread path before now × (contents ≡ []))

  module _ (env : List (List ℕ × List ℕ)) where
    -- the text of a file, while the disk goes from the one to the other; a text that is given takes no read
    abbrev pub ReadsPlace : Place → D → D → FileText → Type 0
    ReadsPlace (Usual kind) before now file = (file.kind ≡ kind) × (file.path ≡ Some (default_path env kind)) × ReadsDefault (default_path env kind) before now file.contents
    ReadsPlace (At kind path) before now file = (file.kind ≡ kind) × (file.path ≡ Some path) × HasRead path before now file.contents
    ReadsPlace (Given kind contents) before now file = (now ≡ before) × (file ≡ record { kind = kind; path = None; contents = contents })

    -- the texts of the files, one after the other
    abbrev pub Loaded : List Place → D → D → List FileText → Type 0
    Loaded [] before now texts = (now ≡ before) × (texts ≡ [])
    Loaded (place ∷ places) before now texts =
        (between : D) × (file : FileText) × (others : List FileText) × ReadsPlace place before between file × Loaded places between now others × (texts ≡ file ∷ others)

    -- the file was named by this path, and is unread
    abbrev pub IsUnreadAt : Place → D → D → List ℕ → Type 0
    IsUnreadAt (At kind path) before now unread = (unread ≡ path) × IsUnread path before now
    IsUnreadAt (Usual kind) before now unread = ⊥
    IsUnreadAt (Given kind contents) before now unread = ⊥

    -- the files before it have their texts, and the one at this path is unread
    abbrev pub StopsAtFile : List Place → D → D → List ℕ → Type 0
    StopsAtFile [] before now path = ⊥
    StopsAtFile (place ∷ places) before now path =
        IsUnreadAt place before now path ⊎ ((between : D) × (file : FileText) × ReadsPlace place before between file × StopsAtFile places between now path)

    -- the text of one file, or the file is unread
    abbrev pub ReadsOne : Place → D → D → Result File EnvConfigFileLoadError → Type 0
    ReadsOne place before now (Ok file) = ReadsPlace place before now (file_of file)
    ReadsOne place before now (Err (CouldNotReadFile fault)) = IsUnreadAt place before now (string_bytes fault.path)
    ReadsOne place before now (Err (ParseError error)) = ⊥
    ReadsOne place before now (Err NoMemory) = Unit {0}

    -- all texts and the name of the profile, or the first file that is unread
    abbrev pub Loads : List Place → D → D → Result Source EnvConfigFileLoadError → Type 0
    Loads places before now (Ok source) = Loaded places before now (map file_of source.files.items) × (string_bytes source.profile ≡ selected_profile env)
    Loads places before now (Err (CouldNotReadFile fault)) = StopsAtFile places before now (string_bytes fault.path)
    Loads places before now (Err (ParseError error)) = ⊥
    Loads places before now (Err NoMemory) = Unit {0}
