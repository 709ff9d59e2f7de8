use Rattle.std.proofs.Common.{◌≡◌, drop, map, string_bytes}
use Rattle.env_config.specs.Source.{file_of}
use Rattle.awsign_settings.specs.Own.{own_of, own_profiles}
use Rattle.awsign_settings.proofs.OwnLemmas.{behind}
use Rattle.awsign_settings.proofs.own.own_profiles.Given as goal

-- the files to come, behind those that were read, give what all files give
abbrev pub invariant-loop-file : goal.invariant-loop-file
invariant-loop-file l =
    own_profiles (string_bytes l.source.profile) (map file_of l.source.files.items)
    ≡ behind (map own_of l.owns.items) (own_profiles (string_bytes l.source.profile) (map file_of (drop l.file-index l.source.files.items)))
