use Rattle.std.specs.Prelude.{string_bytes}
use Rattle.firuvaik_c.proofs.sign.outgoing_text.Goals as goal

pub returns : goal.returns
returns c = (
  string_bytes c.apply_to_parsed.new.request.target,
  rw c.in_ok-request.ensures.target at c.in_ok-apply_to_parsed.ensures.target,
  rw c.in_ok-lines.ensures at c.text_going_out.ensures,
)
