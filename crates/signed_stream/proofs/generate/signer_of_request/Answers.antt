use Rattle.signed_stream.specs.declared.form.Form.TheVariants.{Raw}
use Rattle.signed_stream.proofs.GeneratedRequestLemmas.{IsAsked, asked_seals, asked_wants}
use Rattle.signed_stream.proofs.generate.signer_of_request.Goals as goal

pub returns-in-Ok : goal.returns-in-Ok
returns-in-Ok c =
    let asked : IsAsked c.in_ok-request.request c.in_ok-identity.identity c.in_ok-options.options c.moment.result =
    record {
      method = c.in_ok-request.ensures.method;
      target = c.in_ok-request.ensures.target;
      headers = c.in_ok-request.ensures.empty.0;
      body = c.in_ok-request.ensures.empty.1;
      signs = c.in_ok-identity.ensures;
      asks = c.in_ok-options.ensures;
      at = c.moment.ensures;
    } in
    let signs = c.in-Ok.ensures Raw in
    asked_seals c.in_ok-request.request c.in_ok-identity.identity c.in_ok-options.options c.moment.result asked signs.0 _ signs.1 signs.4

pub stream_without_memory-requires : goal.stream_without_memory-requires
stream_without_memory-requires c =
    let asked : IsAsked c.in_ok-request.request c.in_ok-identity.identity c.in_ok-options.options c.moment.result =
    record {
      method = c.in_ok-request.ensures.method;
      target = c.in_ok-request.ensures.target;
      headers = c.in_ok-request.ensures.empty.0;
      body = c.in_ok-request.ensures.empty.1;
      signs = c.in_ok-identity.ensures;
      asks = c.in_ok-options.ensures;
      at = c.moment.ensures;
    } in
    asked_wants c.in_ok-request.request c.in_ok-identity.identity c.in_ok-options.options c.moment.result asked c.in-Err.fault (c.in-Err.ensures Raw)
