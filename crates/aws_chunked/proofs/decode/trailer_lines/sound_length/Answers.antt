use Rattle.std.proofs.Common.{◌∙◌}
use Rattle.aws_chunked.proofs.SoundLemmas.{sound_before, sound_none, sound_some}
use Rattle.aws_chunked.proofs.decode.trailer_lines.sound_length.Goals as goal

pub returns-then-not-begins_char : goal.returns-then-not-begins_char
returns-then-not-begins_char c = sound_before _ _ _ c.valid_up_to-whole.ensures c.requires.front c.if-not-begins_char.ensures

pub returns-in-Some : goal.returns-in-Some
returns-in-Some c =
    sound_some _ _ _ _ c.valid_up_to-whole.ensures c.requires.front c.if-not-begins_char.ensures (c.in-Some.ensures ∙ c.requires.fault)

pub returns-in-None : goal.returns-in-None
returns-in-None c =
    sound_none _ _ _ c.valid_up_to-whole.ensures c.requires.front c.if-not-begins_char.ensures (c.in-None.ensures ∙ c.requires.fault)
