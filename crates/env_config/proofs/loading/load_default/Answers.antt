use Rattle.std.proofs.Common.{◌∙◌, refl, ap, subst, Some, List, ℕ, string_bytes}
use Rattle.env_config.specs.Loading.{ReadsDefault}
use Rattle.env_config.proofs.loading.load_default.Goals as goal

pub returns-clause-reads : goal.returns-clause-reads
returns-clause-reads g c =
    let disk = g.D.Disk in
    let Read : List ℕ → Type 0 = λ path. ReadsDefault disk.answers disk.faults (disk.files c.args.disk.now) path c.args.disk.now c.default_text.new.disk (string_bytes c.in_ok-contents.contents) in
    (refl, ap (λ (path : List ℕ). Some path) c.in_ok-path.ensures, subst Read (c.as_str.ensures.value ∙ c.in_ok-path.ensures) c.in_ok-contents.ensures.ok)
