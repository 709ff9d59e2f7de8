use Rattle.std.proofs.Common.{inl, inr, refl, subst}
use Rattle.std.proofs.lemmas.Result.{err_from_is_err_and}
use Rattle.event_io.specs.EventSource.{IsUsedUp}
use Rattle.event_io.proofs.AdapterLemmas.{asked, ran_out, refused}
use Rattle.event_io.proofs.adapter.MessageStreamAdapter.poll_open.Goals as goal

-- the marshaller refuses the next item, and nothing else is asked
pub returns-in-Err-clause-polls : goal.returns-in-Err-clause-polls
returns-in-Err-clause-polls g c =
    refused g.S.EventSource g.M.MarshallMessage g.EM.MarshallMessage g.G.SignMessage g.C.Clock _ _ _ _ _ _ c.in-Err.error c.from.result c.from.ensures
    (record { item = c.in-Item.item; taken = c.in-Item.ensures.gives; refused = c.in-Err.ensures; signer_stays = refl; goes_on = c.requires })
    (refl, refl)

-- the signer is asked for the message of the next item
pub returns-in_ok-now-in-Item-clause-polls : goal.returns-in_ok-now-in-Item-clause-polls
returns-in_ok-now-in-Item-clause-polls g c =
    asked g.S.EventSource g.M.MarshallMessage g.EM.MarshallMessage g.G.SignMessage g.C.Clock _ _ _ _ _ _ c.in_ok-now-in-Item.now c.sign-signed.result c.framed.result
    c.in_ok-now-in-Item.ensures.ok
    (inl (record {
      item = c.in-Item.item;
      taken = c.in-Item.ensures.gives;
      message = c.in-Ok.message;
      marshalled = c.in-Ok.ensures;
      signed = c.sign-signed.ensures.signs;
      told = c.sign-signed.ensures.told;
      goes_on = c.requires;
    }))
    c.framed.ensures.frames

-- an item was taken, and the clock isn't asked for want of memory
pub returns-in_err-now-in-Item-clause-polls : goal.returns-in_err-now-in-Item-clause-polls
returns-in_err-now-in-Item-clause-polls g c =
    let exit = err_from_is_err_and c.from_residual.result c.from_residual.ensures.1 in
    rw (exit.1, exit.2)
    (ran_out g.S.EventSource g.M.MarshallMessage g.EM.MarshallMessage g.G.SignMessage g.C.Clock _ _ _ _ _ (record c.args.self.now { source = c.poll_event.new.self })
    (record { taken = inr (c.in-Item.item, c.in-Item.ensures.gives); signer_stays = refl }) c.in_err-now-in-Item.ensures.err)

-- no item was left, and the clock isn't asked for want of memory
pub returns-in_err-now-in-End-clause-polls : goal.returns-in_err-now-in-End-clause-polls
returns-in_err-now-in-End-clause-polls g c =
    let exit = err_from_is_err_and c.from_residual-in_err-now-in-End.result c.from_residual-in_err-now-in-End.ensures.1 in
    rw (exit.1, exit.2)
    (ran_out g.S.EventSource g.M.MarshallMessage g.EM.MarshallMessage g.G.SignMessage g.C.Clock _ _ _ _ _ (record c.args.self.now { source = c.poll_event.new.self })
    (record { taken = inl c.in-End.ensures.gives.0; signer_stays = refl }) c.in_err-now-in-End.ensures.err)

-- the signer is asked for the empty message
pub returns-in-Some-clause-polls : goal.returns-in-Some-clause-polls
returns-in-Some-clause-polls g c =
    asked g.S.EventSource g.M.MarshallMessage g.EM.MarshallMessage g.G.SignMessage g.C.Clock _ _ _ _ _ _ c.in_ok-now-in-End.now c.in-Some.signed c.framed-in-Some.result
    c.in_ok-now-in-End.ensures.ok
    (inr (record {
      kept = c.in-End.ensures.gives.0;
      used_up = subst IsUsedUp c.in-End.ensures.gives.0 c.in-End.ensures.gives.1;
      asked = c.in-Some.ensures.closes;
      told = c.in-Some.ensures.told;
      ended = refl;
    }))
    c.framed-in-Some.ensures.frames
