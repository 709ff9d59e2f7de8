use Rattle.aws_signing.proofs.service.Service.admit.Goals as goal

pub returns : goal.returns
returns g c =
    let told = rw (c.as_slice.ensures, c.as_str.ensures.value, c.as_str-2.ensures.value) at c.admit.ensures in rw (← c.self.view_is) told
