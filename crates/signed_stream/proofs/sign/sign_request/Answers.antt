use Rattle.std.proofs.Common.{option_map, refl, rules, ap}
use Rattle.std.specs.Prelude.{string_bytes}
use Rattle.aws_auth.specs.Inputs.{chosen}
use Rattle.signed_stream.specs.Sign.{GivesName}
use Rattle.signed_stream.specs.Streaming.{stream_wanted}
use Rattle.signed_stream.specs.declared.form.Form.TheVariants.{Raw}
use Rattle.signed_stream.proofs.SignLemmas.{refused_job, right_identity, signed_as_asked, signed_job, unsigned_as_asked}
use Rattle.signed_stream.proofs.sign.sign_request.Goals as goal

pub returns-in-Ok : goal.returns-in-Ok
unfolding chosen
returns-in-Ok c = λ form.
    let asked = record (stream_wanted c.args.options.now form) { signing = c.in_ok-try_clone.field-0 } in
    signed_as_asked c.args.request c.args.request c.args.identity.now c.args.region.now (stream_wanted c.args.options.now form) c.args.first c.in_ok-try_clone.field-0 c.in_ok-try_clone.ensures
    refl refl refl refl
    c.sign_http_request.new.request c.in-Ok.signature c.requires (ap string_bytes c.in-Ok.ensures.method) c.in-Ok.ensures.body
    (signed_job _ _ _ _ asked c.args.region.now c.args.first _
    (record {
      chosen_is = rw (c.new.ensures, c.in_ok-from_str.ensures.ok, c.new-2.ensures, c.in_ok-clone.ensures.cases) refl;
      before = rw (right_identity c.args.identity.now c.requires) refl;
    })
    (λ config answer may.
    let met = may.says.met in
    let given : GivesName (option_map string_bytes c.in_ok-asked.asked) answer = search rules in
    rw c.in_ok-asked.ensures at given)
    _ _ c.in-Ok.ensures.signs)

pub fault_of-requires : goal.fault_of-requires
unfolding chosen
fault_of-requires c =
    let asked = record (stream_wanted c.args.options.now Raw) { signing = c.in_ok-try_clone.field-0 } in
    let refuses = refused_job _ _ _ _ asked c.args.region.now c.args.first _
    (record {
      chosen_is = rw (c.new.ensures, c.in_ok-from_str.ensures.ok, c.new-2.ensures, c.in_ok-clone.ensures.cases) refl;
      before = rw (right_identity c.args.identity.now c.requires) refl;
    })
    (λ config answer may.
    let met = may.says.met in
    let given : GivesName (option_map string_bytes c.in_ok-asked.asked) answer = search rules in
    rw c.in_ok-asked.ensures at given)
    c.sign_http_request.new.request _ c.in-Err.ensures.signs in
    refuses.0

pub returns-in-Err : goal.returns-in-Err
unfolding chosen
returns-in-Err c = λ form.
    let asked = record (stream_wanted c.args.options.now form) { signing = c.in_ok-try_clone.field-0 } in
    let refuses = refused_job _ _ _ _ asked c.args.region.now c.args.first _
    (record {
      chosen_is = rw (c.new.ensures, c.in_ok-from_str.ensures.ok, c.new-2.ensures, c.in_ok-clone.ensures.cases) refl;
      before = rw (right_identity c.args.identity.now c.requires) refl;
    })
    (λ config answer may.
    let met = may.says.met in
    let given : GivesName (option_map string_bytes c.in_ok-asked.asked) answer = search rules in
    rw c.in_ok-asked.ensures at given)
    c.sign_http_request.new.request _ c.in-Err.ensures.signs in
    rw c.fault_of.ensures
    (unsigned_as_asked c.args.request c.args.request c.args.identity.now c.args.region.now (stream_wanted c.args.options.now form) c.args.first c.in_ok-try_clone.field-0 c.in_ok-try_clone.ensures
    refl refl refl refl _ refuses.1)
