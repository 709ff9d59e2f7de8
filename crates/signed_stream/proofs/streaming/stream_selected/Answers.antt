use Rattle.std.proofs.Common.{◌≡◌, List, [], ◌∷◌, ◌++◌, refl, sym, ap, ◌∙◌, append-nil, arith}
use Rattle.std.proofs.lemmas.List.{append_assoc}
use Rattle.smithy_core.specs.Moment.{Instant}
use Rattle.std.proofs.lemmas.Result.{err_from_is_err_and}
use Rattle.std.specs.Prelude.{Err, string_bytes}
use Rattle.smithy_core.specs.Given.{GivesEach}
use Rattle.smithy_core.specs.declared.identity.Identity.TheVariants.{Credentials}
use Rattle.signed_stream.specs.Case.{request_moment}
use Rattle.signed_stream.specs.Sign.{identity_case}
use Rattle.signed_stream.specs.declared.status.StreamFault.TheVariants.{SinkFault}
use Rattle.signed_stream.specs.Status.{stream_ending}
use Rattle.signed_stream.specs.Plan.{unread}
use Rattle.signed_stream.specs.Settings.{selected_in}
use Rattle.signed_stream.specs.Stream.{selected_plan}
use Rattle.signed_stream.specs.Streaming.{job_for, wanted_for}
use Rattle.signed_stream.proofs.FitLemmas.{counts_on}
use Rattle.signed_stream.proofs.RunLemmas.{goes_no_memory, no_moment}
use Rattle.signed_stream.proofs.SendLemmas.{ended_early_before, sent_after}
use Rattle.signed_stream.proofs.StreamingLemmas.{first_needed, never_failed, signed_streams, unsigned_goes}
use Rattle.signed_stream.proofs.streaming.stream_selected.Goals as goal

pub returns-in_err-first-clause-streams : goal.returns-in_err-first-clause-streams
returns-in_err-first-clause-streams g c =
    let exit = err_from_is_err_and c.from_residual.result c.from_residual.ensures.1 in
    let held = g.K.ByteSink.held c.args.sink.now in
    rw (exit.1, exit.2) (record {
      target = unread;
      taken = [];
      spelled = tt;
      gained = ◌∙◌ {A = List Instant} c.in_err-first.ensures.err.1 (sym (append-nil c.args.moments.now.items));
      given = c.in_err-first.ensures.err.0;
      goes = goes_no_memory (selected_plan (job_for c.args.stream) (wanted_for c.args.stream) unread [] (selected_in c.args.settings)) held;
      needed = λ front t rest is. absurd (no_moment front t rest is);
    })

pub returns-in_err-signed-clause-streams : goal.returns-in_err-signed-clause-streams
returns-in_err-signed-clause-streams g c =
    let exit = err_from_is_err_and c.from_residual-in_err-signed.result c.from_residual-in_err-signed.ensures.1 in
    let j = job_for c.args.stream in
    let wanted = wanted_for c.args.stream in
    let selected = selected_in c.args.settings in
    let unsigned = c.in_err-signed.ensures c.args.stream.form in
    let found = unsigned_goes j wanted selected c.in_ok-first.first (string_bytes c.args.stream.request.target) (stream_ending c.in_err-signed.field-0.0) (g.K.ByteSink.held c.args.sink.now) refl (rw c.as_str-region.ensures at unsigned) in
    rw (exit.1, exit.2) (record {
      target = found.0;
      taken = c.in_ok-first.first ∷ [];
      spelled = found.1;
      gained = c.in_ok-first.ensures.ok.0;
      given = (c.take_moment.new.clock, c.in_ok-first.ensures.ok.1, refl);
      goes = found.2;
      needed = first_needed j wanted selected c.in_ok-first.first found.0;
    })

pub returns-in_err-signed-clause-counts : goal.returns-in_err-signed-clause-counts
returns-in_err-signed-clause-counts g c =
    let exit = err_from_is_err_and c.from_residual-in_err-signed.result c.from_residual-in_err-signed.ensures.1 in
    let wanted = wanted_for c.args.stream in
    record {
      rose = λ is.
          let failed : c.in_err-signed.field-0.0 ≡ SinkFault = (let first = exit.1 in let second = exit.2 in cc) in
          absurd (never_failed (string_bytes c.args.stream.request.target) (request_moment wanted c.in_ok-first.first)
          (identity_case c.args.stream.request (Credentials c.args.settings.credentials) c.as_str-region.result.now wanted c.in_ok-first.first) c.in_err-signed.field-0.0 (c.in_err-signed.ensures c.args.stream.form) failed);
      stayed = λ other. refl;
      grew = omega arith;
    }

pub stream_events-requires : goal.stream_events-requires
stream_events-requires g c = (c.in_ok-signed.ensures c.args.stream.form).4.told

pub returns-in_err-write_head-clause-streams : goal.returns-in_err-write_head-clause-streams
returns-in_err-write_head-clause-streams g c =
    let exit = err_from_is_err_and c.from_residual-in_err-write_head.result c.from_residual-in_err-write_head.ensures.1 in
    let raw = c.in_ok-signed.ensures c.args.stream.form in
    let made = rw c.as_str-region.ensures at raw in
    rw (exit.1, exit.2)
    (signed_streams (job_for c.args.stream) (wanted_for c.args.stream) (selected_in c.args.settings) c.in_ok-first.first made.0 made.2
    c.args.stream.request c.in_ok-signed.signed c.in_ok-signed.signer refl made.3 made.4 (λ taken. GivesEach g.C.Clock c.args.clock.now taken c.take_moment.new.clock)
    c.args.moments.now.items c.take_moment.new.moments.items c.take_moment.new.moments.items [] _ _ _ c.in_ok-first.ensures.ok.0 (sym (append-nil c.take_moment.new.moments.items)) (c.take_moment.new.clock, c.in_ok-first.ensures.ok.1, refl) made.1
    (ended_early_before {T = Unit {0}} c.args.stream.form _ _ c.args.stream.events.items _ _ _ c.in_err-write_head.field-0.0 c.in_err-write_head.ensures.sends))

pub returns-in_err-write_head-clause-counts : goal.returns-in_err-write_head-clause-counts
returns-in_err-write_head-clause-counts g c =
    let exit = err_from_is_err_and c.from_residual-in_err-write_head.result c.from_residual-in_err-write_head.ensures.1 in
    counts_on _ _ c.in_err-write_head.field-0.0 _ _ refl (exit.1 ∙ ap Err exit.2) c.in_err-write_head.ensures.counts

pub returns-in_err-stream_events-clause-streams : goal.returns-in_err-stream_events-clause-streams
returns-in_err-stream_events-clause-streams g c =
    let exit = err_from_is_err_and c.from_residual-in_err-stream_events.result c.from_residual-in_err-stream_events.ensures.1 in
    let raw = c.in_ok-signed.ensures c.args.stream.form in
    let made = rw c.as_str-region.ensures at raw in
    let sent = c.in_err-stream_events.ensures.sends in
    rw (exit.1, exit.2)
    (signed_streams (job_for c.args.stream) (wanted_for c.args.stream) (selected_in c.args.settings) c.in_ok-first.first made.0 made.2
    c.args.stream.request c.in_ok-signed.signed c.in_ok-signed.signer refl made.3 made.4 (λ taken. GivesEach g.C.Clock c.args.clock.now taken c.stream_events.new.clock)
    c.args.moments.now.items c.take_moment.new.moments.items c.stream_events.new.moments.items sent.0 _ _ _ c.in_ok-first.ensures.ok.0 sent.1 (c.take_moment.new.clock, c.in_ok-first.ensures.ok.1, sent.2) made.1
    (sent_after c.args.stream.form _ _ c.args.stream.events.items _ _ _ _ sent.0 _ c.in_ok-write_head.ensures.sends.1 sent.3))

pub returns-clause-streams : goal.returns-clause-streams
returns-clause-streams g c =
    let raw = c.in_ok-signed.ensures c.args.stream.form in
    let made = rw c.as_str-region.ensures at raw in
    let sent = c.in_ok-stream_events.ensures.sends in
    signed_streams (job_for c.args.stream) (wanted_for c.args.stream) (selected_in c.args.settings) c.in_ok-first.first made.0 made.2
    c.args.stream.request c.in_ok-signed.signed c.in_ok-signed.signer refl made.3 made.4 (λ taken. GivesEach g.C.Clock c.args.clock.now taken c.stream_events.new.clock)
    c.args.moments.now.items c.take_moment.new.moments.items c.stream_events.new.moments.items sent.0 _ _ _ c.in_ok-first.ensures.ok.0 sent.1 (c.take_moment.new.clock, c.in_ok-first.ensures.ok.1, sent.2) made.1
    (sent_after c.args.stream.form _ _ c.args.stream.events.items _ _ _ _ sent.0 _ c.in_ok-write_head.ensures.sends.1 sent.3)

pub returns-clause-signed : goal.returns-clause-signed
returns-clause-signed g c =
    let raw = c.in_ok-signed.ensures c.args.stream.form in
    let made = rw c.as_str-region.ensures at raw in
    let sent = c.in_ok-stream_events.ensures.sends in
    let one = c.in_ok-first.ensures.ok.0 in
    record {
      first = c.in_ok-first.first;
      others = sent.0;
      target = made.0;
      taken = sent.1 ∙ ap (λ (ms : List Instant). ms ++ sent.0) one ∙ append_assoc c.args.moments.now.items (c.in_ok-first.first ∷ []) sent.0;
      spelled = made.1;
      signed = made.3;
    }
