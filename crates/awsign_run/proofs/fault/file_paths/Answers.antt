use Rattle.std.proofs.Common.{◌≡◌, ℕ, List, Bor, IfOk, codes, map, take, take_all, arith, ap, sym, subst, string_bytes, ◌∙◌}
use Rattle.std.specs.List.{join_by}
use Rattle.env_config.specs.Source.{file_of}
use Rattle.awsign_run.specs.Chosen.{file_path}
use Rattle.awsign_run.proofs.JoinLemmas.{joined_map}
use Rattle.awsign_run.proofs.fault.file_paths.Goals as goal

pub returns : goal.returns
returns c =
    let files = c.args.files.now in
    let sep : List ℕ = codes ", " in
    let all : take c.loop-file.file-index files ≡ files = take_all c.loop-file.file-index files (omega (arith, c.loop-file-test.false)) in
    let paths : map (λ (path : Bor (List ℕ)). path.now) c.loop-file.paths.items ≡ map file_path (map file_of files) =
    c.loop-file.invariant ∙ ap (λ files. map file_path (map file_of files)) all in
    let Given : List ℕ → Type 0 = λ joined. IfOk c.join.result (λ text. string_bytes text ≡ joined) in
    subst Given
    (ap (join_by (λ (path : Bor (List ℕ)). path.now) sep) c.as_slice.ensures.value
    ∙ joined_map (λ (path : Bor (List ℕ)). path.now) sep c.loop-file.paths.items
    ∙ ap (join_by (λ (path : List ℕ). path) sep) paths
    ∙ sym (joined_map file_path sep (map file_of files)))
    c.join.ensures.ok
