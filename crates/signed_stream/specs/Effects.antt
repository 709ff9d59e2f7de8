-- What a run that reads profile files and writes does to the disk and to the output, whatever it is asked for and however it ends.
use Rattle.std.specs.Prelude.{◌≡◌, ℕ, ◌≤◌, List}
use Rattle.smithy_core.specs.Outside.{CountsFault}
use Rattle.smithy_core.specs.declared.outside.disk.Disk as Disk
use Rattle.signed_stream.specs.Status.{Ending, could_not_read_file, output_fault}

-- `names` says of a path that its file is the first which the words name and which couldn't be read. The disk is that before the run and that after it, and
-- the counts are those of the output's faults.
pub record ReadsAndWrites {D : Type 0} (names : List ℕ → Type 0) (answer : Ending) (disk : Disk.Ghosts D) (before now : D) (faults_before faults_now : ℕ) : Type 0 where
  -- where the run ends for a file that couldn't be read, the words name that file
  pub named : (path : List ℕ) → answer ≡ could_not_read_file path → names path
  -- the disk's files are as before
  pub same : disk.files now ≡ disk.files before
  -- the output's count of faults rose where the output failed, unless it was at its most, and else it stayed
  pub writes : CountsFault (answer ≡ output_fault) faults_before faults_now
  -- the disk's count of faults hasn't fallen
  pub count : disk.faults before ≤ disk.faults now
