use Rattle.aws_settings.proofs.choice.choose_key.Goals as goal

pub returns-in-Some : goal.returns-in-Some
returns-in-Some c = rw (← c.in-Some.ensures) c.key_of_variables.ensures
