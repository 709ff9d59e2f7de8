-- Faults of lines at their places.
use Rattle.std.specs.Prelude.{ℕ, List, ◌++◌, codes}
use Rattle.std.specs.Fmt.{decimal}
use Rattle.job_text.specs.declared.fault.JobFault.{JobFault}
use Rattle.job_text.specs.declared.fault.JobFault.TheVariants.{BadLine, NoMemory}
use Rattle.job_text.specs.declared.fault.LineFault.{LineFault}
use Rattle.job_text.specs.declared.fault.LineFault.TheVariants.{Bad, NoMemory as LineNoMemory}

-- the fault of the line at a place
abbrev pub placed : ℕ → LineFault → JobFault
placed place Bad = BadLine place
placed place LineNoMemory = NoMemory

-- what a fault is printed as
abbrev pub job_fault_text : JobFault → List ℕ
job_fault_text (BadLine place) = codes "bad line " ++ decimal place
job_fault_text NoMemory = codes "no memory"
