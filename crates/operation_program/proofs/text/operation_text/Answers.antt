use Rattle.std.proofs.Common.{◌≡◌, map, None, subst, ◌∙◌}
use Rattle.std.specs.Prelude.{Ok, Err}
use Rattle.job_text.specs.OperationJob.{reply_parts}
use Rattle.job_text.specs.ProfileTexts.{ProfileTexts}
use Rattle.operation_run.specs.Reply.{request_texts}
use Rattle.signed_stream.specs.Settings.{selected_in}
use Rattle.operation_program.specs.Attempting.{heads_text, listed_reply}
use Rattle.operation_program.specs.Outcome.{GivesOutcome, scripted_over}
use Rattle.operation_program.proofs.PartsLemmas.{program_fault, text_made, text_refused}
use Rattle.operation_program.proofs.text.operation_text.Goals as goal

pub returns-in-Ok-clause-gives : goal.returns-in-Ok-clause-gives
returns-in-Ok-clause-gives c = λ texts.
    let a = c.args in
    let sent = c.operate_selected.new.script.sent in
    let alike : c.new-script.result.replies ≡ map listed_reply (map reply_parts a.lines.now) = c.new-script.ensures.replies ∙ c.in_ok-replies_of.ensures in
    let gives : GivesOutcome (scripted_over a.env.now a.request.now texts (selected_in a.settings) a.name.now a.at c.new-script.result.replies) sent (Ok c.in-Ok.outcome) = c.in-Ok.ensures texts in
    let same : map request_texts c.sent.result.now ≡ sent = (let seen = c.sent.ensures in cc) in
    text_made (scripted_over a.env.now a.request.now texts (selected_in a.settings) a.name.now a.at (map listed_reply (map reply_parts a.lines.now))) sent c.in-Ok.outcome c.in_ok-heads_of-in-Ok.field-0
    (subst (λ replies. GivesOutcome (scripted_over a.env.now a.request.now texts (selected_in a.settings) a.name.now a.at replies) sent (Ok c.in-Ok.outcome)) alike gives)
    (subst (λ requests. c.in_ok-heads_of-in-Ok.field-0.items ≡ heads_text requests c.in-Ok.outcome.attempts) same c.in_ok-heads_of-in-Ok.ensures)

pub status_of-requires : goal.status_of-requires
status_of-requires c =
    let a = c.args in
    let no : ProfileTexts = record { config = None; credentials = None } in
    program_fault (scripted_over a.env.now a.request.now no (selected_in a.settings) a.name.now a.at c.new-script.result.replies) c.operate_selected.new.script.sent c.in-Err.fault (c.in-Err.ensures no)

pub returns-clause-gives : goal.returns-clause-gives
returns-clause-gives c = λ texts.
    let a = c.args in
    let sent = c.operate_selected.new.script.sent in
    let alike : c.new-script.result.replies ≡ map listed_reply (map reply_parts a.lines.now) = c.new-script.ensures.replies ∙ c.in_ok-replies_of.ensures in
    let gives : GivesOutcome (scripted_over a.env.now a.request.now texts (selected_in a.settings) a.name.now a.at c.new-script.result.replies) sent (Err c.in-Err.fault) = c.in-Err.ensures texts in
    text_refused (scripted_over a.env.now a.request.now texts (selected_in a.settings) a.name.now a.at (map listed_reply (map reply_parts a.lines.now))) sent c.in-Err.fault c.status_of.result
    (subst (λ replies. GivesOutcome (scripted_over a.env.now a.request.now texts (selected_in a.settings) a.name.now a.at replies) sent (Err c.in-Err.fault)) alike gives)
    c.status_of.ensures.ending
