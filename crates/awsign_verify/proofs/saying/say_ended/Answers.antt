use Rattle.awsign_verify.proofs.saying.say_ended.Goals as goal

pub returns-in-OutputFault-clause-said : goal.returns-in-OutputFault-clause-said
returns-in-OutputFault-clause-said g c = rw c.in-OutputFault.is c.write_some.ensures.gains
