use Rattle.std.proofs.Common.{◌≡◌, ◌+◌, ◌++◌, drop, length}
use Rattle.eventstream.specs.Frame.{block}
use Rattle.firuvaik_c.specs.Frames.{all_places}
use Rattle.firuvaik_c.proofs.frames.places_of.Given as goal

-- the places that were found and those of the headers to come are all of them
abbrev pub invariant-loop-header : goal.invariant-loop-header
invariant-loop-header l = record {
  places : l.places.items ++ all_places l.at (drop l.header-index l.headers) ≡ all_places 12 l.headers;
  end : l.at + length (block (drop l.header-index l.headers)) ≡ 12 + length (block l.headers);
}
