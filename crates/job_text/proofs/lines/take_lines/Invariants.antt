use denote.Shadow.{shadow}
use denote.Text.{Utf8}
use Rattle.std.proofs.Common.{◌≡◌, ◌+◌, ◌≤◌, length}
use Rattle.job_text.specs.Lines.{job_lines}
use Rattle.job_text.specs.Pieces.{taken_from}
use Rattle.job_text.proofs.lines.take_lines.Given as goal

-- the lines to come, after the draft, are taken as all lines
abbrev pub invariant-loop-rest : goal.invariant-loop-rest
invariant-loop-rest g l =
    let line = g.D.TakeLine in
    record {
      to_come : taken_from line.step l.place (line.draft l.draft) (job_lines l.rest) ≡ taken_from line.step 1 (line.draft l.fn.draft) (job_lines l.text);
      counted : l.place + length l.rest ≤ 1 + length l.text;
      text : shadow (Utf8 l.rest);
    }

abbrev pub decreases-loop-rest : goal.decreases-loop-rest
decreases-loop-rest g l = length l.rest
