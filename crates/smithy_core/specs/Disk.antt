-- A disk in memory, whose files are pairs of a path and bytes, and what contracts say of a read.
use Rattle.std.specs.Prelude.{◌≡◌, ℕ, List, map, codes, String, string_bytes, Some, None, Result, Ok, Err}
use Rattle.std.specs.Global.{Vec}
use Rattle.std.specs.declared.alloc.Global.{Global}
use Rattle.smithy_core.specs.Calls.{FailsAsListed, Tally}
use Rattle.smithy_core.specs.TextPairs.{last_value}
use Rattle.smithy_core.specs.declared.outside.disk.DiskError.{DiskError}
use Rattle.smithy_core.specs.declared.outside.disk.DiskError.TheVariants.{NotFound, Failed, NoMemory}

-- the path and the bytes of a file
abbrev pub file_pair : String Global × Vec ℕ → List ℕ × List ℕ
file_pair file = (string_bytes file.0, file.1.items)

-- the paths and the bytes of files
abbrev pub file_pairs : List (String Global × Vec ℕ) → List (List ℕ × List ℕ)
file_pairs files = map file_pair files

-- the paths and the bytes of the files on a disk, and its calls
pub record DiskState : Type 0 where
  pub files : List (List ℕ × List ℕ)
  pub tally : Tally

-- the bytes of the last file at the path, or there is none, or a fault
abbrev pub FindsFile : List (List ℕ × List ℕ) → List ℕ → Result (Vec ℕ) DiskError → Type 0
FindsFile files path (Ok bytes) = last_value files path ≡ Some bytes.items
FindsFile files path (Err NotFound) = last_value files path ≡ None
FindsFile files path (Err Failed) = Unit {0}
FindsFile files path (Err NoMemory) = Unit {0}

-- a read that fails exactly where its number is listed, and finds its file else; the files stay
pub record AnswersAsListed (before : DiskState) (path : List ℕ) (answer : Result (Vec ℕ) DiskError) (now : DiskState) : Type 0 where
  pub listed : FailsAsListed (answer ≡ Err Failed) before.tally now.tally
  pub finds : FindsFile before.files path answer
  pub same : now.files ≡ before.files

-- what an error of a disk prints
abbrev pub disk_error_text : DiskError → List ℕ
disk_error_text NotFound = codes "no file has this path"
disk_error_text Failed = codes "the disk failed"
disk_error_text NoMemory = codes "no memory"
