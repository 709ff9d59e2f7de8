-- What a fault of a body in signed chunks is printed as.
use Rattle.std.specs.Prelude.{ℕ, List, ◌++◌, codes}
use Rattle.std.specs.Fmt.{decimal}
use Rattle.chunk_watch.specs.declared.fault.ChunkFault.{ChunkFault}
use Rattle.chunk_watch.specs.declared.fault.ChunkFault.TheVariants.{BadLine, LongChunk, BadEnd, Mismatch, LongEnd, NoEmptyChunk, OtherLength, OtherEnd, BadTrailers, OtherTrailers, TrailerMismatch, MomentOutOfRange, NoMemory}

-- what a fault is printed as
abbrev pub chunk_fault_text : ChunkFault → List ℕ
chunk_fault_text (BadLine place) = codes "the line of chunk " ++ (decimal place ++ codes " isn't one")
chunk_fault_text (LongChunk place) = codes "chunk " ++ (decimal place ++ codes " is too long")
chunk_fault_text (BadEnd place) = codes "chunk " ++ (decimal place ++ codes " doesn't end where it has to")
chunk_fault_text (Mismatch place) = codes "chunk " ++ (decimal place ++ codes " has another signature than its own")
chunk_fault_text LongEnd = codes "the end is too long"
chunk_fault_text NoEmptyChunk = codes "the empty chunk is missing"
chunk_fault_text OtherLength = codes "the data has another length than declared"
chunk_fault_text OtherEnd = codes "the end isn't an empty line"
chunk_fault_text BadTrailers = codes "the end isn't trailers and their signature"
chunk_fault_text OtherTrailers = codes "the trailers aren't the announced ones"
chunk_fault_text TrailerMismatch = codes "the trailers have another signature than their own"
chunk_fault_text MomentOutOfRange = codes "the moment is out of range"
chunk_fault_text NoMemory = codes "no memory"
