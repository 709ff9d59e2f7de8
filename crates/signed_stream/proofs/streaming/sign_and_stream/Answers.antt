use Rattle.std.proofs.Common.{map}
use Rattle.std.proofs.lemmas.Result.{err_from_is_err_and}
use Rattle.std.specs.Prelude.{string_bytes}
use Rattle.smithy_core.specs.Given.{Gives}
use Rattle.smithy_core.proofs.GivenLemmas.{given_none}
use Rattle.env_config.specs.Source.{file_of}
use Rattle.signed_stream.specs.Streaming.{stream_wanted}
use Rattle.signed_stream.proofs.StreamingLemmas.{none_streamed, same_request}
use Rattle.signed_stream.proofs.streaming.sign_and_stream.Goals as goal

pub returns-in_err-request-clause-streams : goal.returns-in_err-request-clause-streams
returns-in_err-request-clause-streams g c =
    let exit = err_from_is_err_and c.from_residual.result c.from_residual.ensures.1 in
    rw (exit.1, exit.2)
    (none_streamed (λ taken. Gives g.C.Clock c.args.clock.now taken c.args.clock.now) c.args.moments.now.items (map file_of c.args.source.now.files.items) (string_bytes c.args.source.now.profile) c.args.env.now
    (stream_wanted c.args.options.now c.args.form) c.args.request.now c.args.events.now (g.K.ByteSink.held c.args.sink.now) (given_none g.C.Clock c.args.clock.now))

pub returns-in_err-events-clause-streams : goal.returns-in_err-events-clause-streams
returns-in_err-events-clause-streams g c =
    let exit = err_from_is_err_and c.from_residual-in_err-events.result c.from_residual-in_err-events.ensures.1 in
    rw (exit.1, exit.2)
    (none_streamed (λ taken. Gives g.C.Clock c.args.clock.now taken c.args.clock.now) c.args.moments.now.items (map file_of c.args.source.now.files.items) (string_bytes c.args.source.now.profile) c.args.env.now
    (stream_wanted c.args.options.now c.args.form) c.args.request.now c.args.events.now (g.K.ByteSink.held c.args.sink.now) (given_none g.C.Clock c.args.clock.now))

pub returns-clause-streams : goal.returns-clause-streams
returns-clause-streams g c =
    let copy = c.in_ok-request.ensures in
    let sent = rw c.in_ok-events.ensures at c.sign_and_send.ensures.streams in
    same_request c.in_ok-request.request c.args.request.now c.args.events.now copy.method copy.target copy.headers copy.body _ _ _ _ _ _ _ _ _ _ sent
