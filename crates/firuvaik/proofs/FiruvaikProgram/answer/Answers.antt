use Rattle.signed_stream.proofs.SaidLemmas.{said_goes}
use Rattle.firuvaik.proofs.FiruvaikProgram.answer.Goals as goal

pub returns-in-Some-clause-printed : goal.returns-in-Some-clause-printed
returns-in-Some-clause-printed g c = rw (← c.text_asked.ensures, c.in-Some.is, c.in-Some.text-is) (said_goes _ _ _ _ _ c.print_text.ensures.printed c.say.ensures.answer)
