use Rattle.std.proofs.Common.{◌∙◌, ◌+◌, ap, sym, map, drop, string_bytes}
use Rattle.std.proofs.lemmas.Result.{err_from_is_err_and}
use Rattle.env_config.specs.EnvConfigSections.{sections_of}
use Rattle.env_config.specs.Kept.{keeps_of}
use Rattle.env_config.specs.Sections.{files_from, no_sections}
use Rattle.env_config.specs.Source.{file_of}
use Rattle.env_config.proofs.ParseLemmas.{file_refused, files_front}
use Rattle.env_config.proofs.sections.EnvConfigSections.parse_kept.Goals as goal

pub returns-in_err-merge_text-clause-parses : goal.returns-in_err-merge_text-clause-parses
returns-in_err-merge_text-clause-parses c =
    let items = c.args.source.now.files.items in
    let at = c.loop-file.file-index in
    let before = sections_of c.loop-file.sections in
    let front = files_front items c.deref-file-items.result.now at c.file-item.result c.deref-file-items.ensures.value c.loop-file-test.true c.file-item.is in
    let exit = err_from_is_err_and c.from_residual-in_err-merge_text.result c.from_residual-in_err-merge_text.ensures.1 in
    rw (exit.1, exit.2)
    (file_refused (keeps_of c.args.kept.now) (string_bytes c.args.source.now.profile) before (sections_of c.merge_text.new.self) (file_of c.file-item.result) (map file_of (drop (at + 1) items)) (files_from (keeps_of c.args.kept.now) no_sections (map file_of items)) _
    (ap (files_from (keeps_of c.args.kept.now) before) (sym front) ∙ c.loop-file.invariant.to_come) c.in_err-merge_text.ensures.sections)

pub loop-file-preserved : goal.loop-file-preserved
loop-file-preserved c =
    let items = c.args.source.now.files.items in
    let at = c.loop-file.file-index in
    let before = sections_of c.loop-file.sections in
    let front = files_front items c.deref-file-items.result.now at c.file-item.result c.deref-file-items.ensures.value c.loop-file-test.true c.file-item.is in
    record {
      to_come = sym (c.in_ok-merge_text.ensures.sections (λ next. files_from (keeps_of c.args.kept.now) next (map file_of (drop (at + 1) items)))) ∙ ap (files_from (keeps_of c.args.kept.now) before) (sym front) ∙ c.loop-file.invariant.to_come;
      selected = c.merge_text.ensures.selected ∙ c.loop-file.invariant.selected;
      keys = c.in_ok-merge_text.ensures.keys c.loop-file.invariant.keys;
    }
