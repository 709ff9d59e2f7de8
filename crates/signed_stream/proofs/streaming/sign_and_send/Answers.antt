use Rattle.std.proofs.Common.{◌≡◌, [], map, sym, subst, append-nil}
use Rattle.std.proofs.lemmas.Result.{err_from_is_err_and}
use Rattle.std.specs.Prelude.{Ok, Err, string_bytes}
use Rattle.std.specs.Option.{option_copied}
use Rattle.smithy_core.proofs.GivenLemmas.{each_given, given_none}
use Rattle.env_config.specs.Source.{file_of}
use Rattle.signed_stream.specs.Plan.{unread}
use Rattle.signed_stream.specs.Settings.{GivesSettings, selected_in, settings}
use Rattle.signed_stream.specs.Streaming.{job_for, wanted_for}
use Rattle.signed_stream.proofs.HeadlineLemmas.{completes_sent, completes_stream, headline_sent}
use Rattle.signed_stream.proofs.RunLemmas.{no_moment}
use Rattle.signed_stream.proofs.StreamingLemmas.{lacking_completes, lacking_goes}
use Rattle.signed_stream.proofs.streaming.sign_and_send.Goals as goal

pub returns-in_err-settings-clause-streams : goal.returns-in_err-settings-clause-streams
returns-in_err-settings-clause-streams g c =
    let exit = err_from_is_err_and c.from_residual.result c.from_residual.ensures.1 in
    let files = map file_of c.args.source.now.files.items in
    let profile = string_bytes c.args.source.now.profile in
    let env = c.args.env.now in
    let wanted = wanted_for c.args.stream in
    let j = job_for c.args.stream in
    let read : GivesSettings (settings files profile env (option_copied c.lent.result)) (Err c.in_err-settings.field-0.0) = c.in_err-settings.ensures.settings in
    let gives = subst (λ id. GivesSettings (settings files profile env id) (Err c.in_err-settings.field-0.0)) c.lent.ensures read in
    rw exit.1 (record {
      streams = record {
        target = unread;
        taken = [];
        spelled = tt;
        gained = sym (append-nil c.args.moments.now.items);
        given = given_none g.C.Clock c.args.clock.now;
        goes = lacking_goes files profile env wanted j c.in_err-settings.field-0.0 exit.0 unread (g.K.ByteSink.held c.args.sink.now) gives exit.2;
        needed = λ front t rest is. absurd (no_moment front t rest is);
      };
      headline = tt;
      complete = λ target later spells valid. lacking_completes files profile env wanted j c.in_err-settings.field-0.0 exit.0 valid.selected gives valid.settled exit.2;
    })

pub returns-clause-streams : goal.returns-clause-streams
returns-clause-streams g c =
    let files = map file_of c.args.source.now.files.items in
    let profile = string_bytes c.args.source.now.profile in
    let env = c.args.env.now in
    let wanted = wanted_for c.args.stream in
    let j = job_for c.args.stream in
    let read : settings files profile env (option_copied c.lent.result) ≡ Ok (selected_in c.in_ok-settings.settings) = c.in_ok-settings.ensures.settings in
    let settled = rw c.lent.ensures at read in
    let sent = c.stream_selected.ensures.streams in
    record {
      streams = record {
        target = sent.target;
        taken = sent.taken;
        spelled = sent.spelled;
        gained = sent.gained;
        given = each_given g.C.Clock c.args.clock.now c.stream_selected.new.clock sent.taken sent.given;
        goes = rw settled sent.goes;
        needed = rw settled sent.needed;
      };
      headline =
          headline_sent files profile env wanted c.args.stream.request c.args.stream.events.items sent.target (selected_in c.in_ok-settings.settings) _ _ sent.taken _ _ c.stream_selected.result settled sent.gained sent.spelled
          (rw settled sent.goes) c.stream_selected.ensures.signed;
      complete = λ target later spells valid.
          completes_sent c.stream_selected.result
          (completes_stream files profile env wanted j target sent.taken later _ spells valid sent.target sent.spelled (rw settled sent.goes.ends));
    }
