use Rattle.std.proofs.Common.{◌≡◌, subst, sym, List, ℕ, string_bytes}
use Rattle.env_config.specs.Files.{At, Place, file_place}
use Rattle.env_config.specs.Loading.{ReadsOne}
use Rattle.env_config.specs.declared.files.EnvConfigFile.{EnvConfigFile}
use Rattle.env_config.proofs.loading.load_file.Goals as goal

pub returns-in-FilePath-clause-reads : goal.returns-in-FilePath-clause-reads
returns-in-FilePath-clause-reads g c =
    let disk = g.D.Disk in
    let same : c.as_str.result.now ≡ string_bytes c.in-FilePath.path = c.as_str.ensures.value in
    let Read : Place → Type 0 = λ place. ReadsOne disk.answers disk.faults (disk.files c.args.disk.now) c.args.env.now place c.args.disk.now c.load_custom.new.disk c.load_custom.result in
    let AtPath : List ℕ → Type 0 = λ path. Read (At c.in-FilePath.kind path) in
    let OfFile : EnvConfigFile → Type 0 = λ file. Read (file_place file) in
    subst OfFile (sym c.in-FilePath.is) (subst AtPath same (c.load_custom.ensures.reads c.args.env.now))
