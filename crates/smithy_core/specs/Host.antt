-- How often the I/O objects over the operating system have failed.
use Rattle.std.specs.Prelude.{ℕ}
use Rattle.smithy_core.specs.declared.outside.host.HostDisk.{HostDisk}
use Rattle.smithy_core.specs.declared.outside.host.StdSink.{StdSink}
use Rattle.smithy_core.specs.declared.outside.host.StdSource.{StdSource}

-- how many reads of a source failed
abbrev pub failed_reads : {R : Type 0} → StdSource R → ℕ
failed_reads source = source.faults

-- how many writes to a sink failed
abbrev pub failed_writes : {W : Type 0} → StdSink W → ℕ
failed_writes sink = sink.faults

-- how many files weren't read for a fault of the disk
abbrev pub failed_files : {R : Type 0} → HostDisk R → ℕ
failed_files disk = disk.faults
