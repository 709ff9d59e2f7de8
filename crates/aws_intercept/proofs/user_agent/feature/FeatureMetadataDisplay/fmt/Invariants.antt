use Rattle.std.proofs.Common.{◌++◌, take, codes, flat_map}
use Rattle.std.specs.Fmt.{HasWritten, IsPlainFormatter}
use Rattle.aws_intercept.specs.Metadata.{additional_text, name_version_text}
use Rattle.aws_intercept.proofs.user_agent.feature.FeatureMetadataDisplay.fmt.Given as goal

abbrev pub invariant-loop-metadata : goal.invariant-loop-metadata
invariant-loop-metadata g l =
    IsPlainFormatter l.fn.f → HasWritten g.W.Write.write_str_gives l.fn.f
    (codes "ft/" ++ (name_version_text l.self.named ++ flat_map (λ value. codes " " ++ additional_text value) (take l.metadata-index l.metadata-items))) l.f
