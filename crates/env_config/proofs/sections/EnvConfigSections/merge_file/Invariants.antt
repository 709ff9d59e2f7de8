use Rattle.std.proofs.Common.{◌≡◌, [], map, drop}
use Rattle.env_config.specs.Kept.{keeps_of}
use Rattle.env_config.specs.Sections.{with_names}
use Rattle.env_config.specs.Texts.{IsApart, words_of}
use Rattle.env_config.specs.EnvConfigSections.{AreKeyed, sections_of, selected_of}
use Rattle.env_config.proofs.TextsLemmas.{word_of}
use Rattle.env_config.proofs.sections.EnvConfigSections.merge_file.Given as goal

-- the names to come give what all names give
abbrev pub invariant-loop-name : goal.invariant-loop-name
invariant-loop-name l = record {
  to_come : with_names (keeps_of l.kept) (sections_of l.self) l.kind l.overridden (record { names = []; values = words_of l.texts.entries }) (map word_of (drop l.name-index l.name-items)) ≡ with_names (keeps_of l.kept) (sections_of l.fn.self) l.kind l.overridden l.fn.raw l.fn.raw.names;
  apart : IsApart (map word_of (drop l.name-index l.name-items));
  selected : selected_of l.self ≡ selected_of l.fn.self;
  keys : AreKeyed l.fn.self → AreKeyed l.self;
}
