use Rattle.std.proofs.Common.{◌≡◌, ◌-◌, ◌++◌}
use Rattle.signed_stream.specs.Generator.{draw_after, drawn_bytes}
use Rattle.signed_stream.proofs.generator.Generator.bytes.Given as goal

-- those so far, and then those that are left, are all
abbrev pub invariant-draws : goal.invariant-draws
invariant-draws l = record {
  bytes : l.bytes.items ++ drawn_bytes (l.count - l._i) l.self ≡ drawn_bytes l.count l.fn.self;
  draw : draw_after (l.count - l._i) l.self ≡ draw_after l.count l.fn.self;
}
