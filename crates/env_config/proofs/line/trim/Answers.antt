use Rattle.std.proofs.Common.{◌∙◌, ap}
use Rattle.env_config.specs.Line.{trimmed, trimmed_back}
use Rattle.env_config.proofs.TrimLemmas.{front_trimmed, back_trimmed}
use Rattle.env_config.proofs.line.trim.Goals as goal

pub returns : goal.returns
unfolding trimmed
returns c =
    let front = c.trim_start_matches in
    back_trimmed front.result.now c.trim_end_matches.result.now c.trim_end_matches.ensures.matches
    ∙ ap trimmed_back (front_trimmed c.args.text.now front.result.now front.ensures.matches)
