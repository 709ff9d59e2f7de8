use Rattle.std.proofs.Common.{◌∙◌, ◌+◌, subst, List, map, drop, string_bytes}
use Rattle.std.proofs.lemmas.Result.{err_from_is_err_and}
use Rattle.env_config.specs.EnvConfigSections.{sections_of}
use Rattle.env_config.specs.Kept.{keeps_of}
use Rattle.env_config.specs.Sections.{FileText, files_from, no_sections}
use Rattle.env_config.specs.Source.{file_of}
use Rattle.env_config.proofs.MergedProfileLemmas.{FilesFollow, file_fails, file_follows}
use Rattle.env_config.proofs.ParseLemmas.{files_front}
use Rattle.env_config.proofs.sections.EnvConfigSections.parse_profile.Goals as goal

pub returns-in_err-merge_profile : goal.returns-in_err-merge_profile
returns-in_err-merge_profile c =
    let keeps = keeps_of c.args.kept.now in
    let items = c.args.source.now.files.items in
    let profile = string_bytes c.args.source.now.profile in
    let at = c.loop-file.file-index in
    let file = file_of c.file-item.result in
    let before = sections_of c.loop-file.sections in
    let now = sections_of c.merge_profile.new.self in
    let read = files_from keeps no_sections (map file_of items) in
    let Follow : List FileText → Type 0 = λ files. FilesFollow keeps profile before files read in
    let front = files_front items c.deref-file-items.result.now at c.file-item.result c.deref-file-items.ensures.value c.loop-file-test.true c.file-item.is in
    let exit = err_from_is_err_and c.from_residual-in_err-merge_profile.result c.from_residual-in_err-merge_profile.ensures.1 in
    rw (exit.1, exit.2) (file_fails keeps profile c.as_str-in-loop-file.result.now before now file (map file_of (drop (at + 1) items)) read _ (subst Follow front c.loop-file.invariant.follows)
    c.in_err-merge_profile.ensures.sections)

pub loop-file-preserved : goal.loop-file-preserved
loop-file-preserved c =
    let keeps = keeps_of c.args.kept.now in
    let items = c.args.source.now.files.items in
    let profile = string_bytes c.args.source.now.profile in
    let at = c.loop-file.file-index in
    let file = file_of c.file-item.result in
    let before = sections_of c.loop-file.sections in
    let now = sections_of c.merge_profile.new.self in
    let read = files_from keeps no_sections (map file_of items) in
    let Follow : List FileText → Type 0 = λ files. FilesFollow keeps profile before files read in
    let front = files_front items c.deref-file-items.result.now at c.file-item.result c.deref-file-items.ensures.value c.loop-file-test.true c.file-item.is in
    record {
      follows = file_follows keeps profile c.as_str-in-loop-file.result.now before now file (map file_of (drop (at + 1) items)) read c.as_str-in-loop-file.ensures.value (subst Follow front c.loop-file.invariant.follows)
          c.in_ok-merge_profile.ensures.sections;
      selected = c.merge_profile.ensures.selected ∙ c.loop-file.invariant.selected;
    }
