-- What was read at the front of bytes: a reader of a watch needs none of it.
use Rattle.chunk_watch.specs.Front.{Begun, bad, chunk, empty, short}
use Rattle.chunk_watch.specs.declared.front.Front.{Front}
use Rattle.chunk_watch.specs.declared.front.Front.TheVariants as told

-- what was told
abbrev pub told_begun : Front → Begun
told_begun told.Short = short
told_begun (told.Bad fault) = bad fault
told_begun (told.Chunk signature bytes len) = chunk signature.now bytes.now len
told_begun (told.Empty signature len) = empty signature.now len
