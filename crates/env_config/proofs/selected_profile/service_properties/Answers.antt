use Rattle.std.proofs.Common.{◌∙◌, map, string_bytes}
use Rattle.std.proofs.lemmas.Result.{err_from_is_err_and}
use Rattle.env_config.specs.Source.{file_of}
use Rattle.env_config.proofs.SelectedLemmas.{service_parsed, service_refused}
use Rattle.env_config.proofs.selected_profile.service_properties.Goals as goal

pub returns-in_err-sections : goal.returns-in_err-sections
returns-in_err-sections c =
    let files = map file_of c.args.source.now.files.items in
    let exit = err_from_is_err_and c.from_residual-in_err-sections.result c.from_residual-in_err-sections.ensures.1 in
    rw (exit.1, exit.2)
    (service_refused files (string_bytes c.args.source.now.profile) c.args.services.now c.args.id.now c.as_str.result.now (map (λ k. k.now) c.args.keys.now) _ c.in_err-sections.ensures.parses)

pub returns : goal.returns
returns c =
    let files = map file_of c.args.source.now.files.items in
    service_parsed files (string_bytes c.args.source.now.profile) c.args.services.now c.args.id.now c.as_str.result.now (map (λ k. k.now) c.args.keys.now) c.in_ok-sections.sections (c.as_str.ensures.value ∙ c.in_ok-id.ensures) c.in_ok-sections.ensures.parses
