use Rattle.std.proofs.Common.{◌≡◌, map, drop, string_bytes}
use Rattle.env_config.specs.EnvConfigSections.{sections_of, selected_of}
use Rattle.env_config.specs.Kept.{keeps_of}
use Rattle.env_config.specs.Sections.{files_from, no_sections}
use Rattle.env_config.specs.Source.{file_of}
use Rattle.env_config.proofs.MergedProfileLemmas.{FilesFollow}
use Rattle.env_config.proofs.sections.EnvConfigSections.parse_profile.Given as goal

-- the files to come give what all files give
abbrev pub invariant-loop-file : goal.invariant-loop-file
invariant-loop-file l = record {
  follows : FilesFollow (keeps_of l.kept) (string_bytes l.source.profile) (sections_of l.sections) (map file_of (drop l.file-index l.source.files.items)) (files_from (keeps_of l.kept) no_sections (map file_of l.source.files.items));
  selected : selected_of l.sections ≡ string_bytes l.source.profile;
}
