-- The texts of files, read one after the other, and paths with the home directory in them.
use Rattle.std.proofs.Common.{◌≡◌, ℕ, Bool, cond, List, [], ◌++◌, refl, sym, ap, subst, append-nil}
use Rattle.std.specs.Prelude.{IsUtf8, Option, Result}
use Rattle.std.specs.Global.{Vec}
use Rattle.smithy_core.specs.declared.outside.disk.DiskError.{DiskError}
use Rattle.smithy_core.proofs.TextLemmas.{is_text, no_text}
use Rattle.env_config.specs.Files.{Place}
use Rattle.env_config.specs.Loading.{Loaded, StopsAtFile, utf8_or_empty}
use Rattle.env_config.specs.Sections.{FileText}

-- ## Texts

pub text_kept : (bytes : List ℕ) → IsUtf8 bytes → bytes ≡ utf8_or_empty bytes
text_kept bytes is = sym (ap (λ (b : Bool). cond b bytes []) (is_text bytes is))

pub text_dropped : (bytes : List ℕ) → (IsUtf8 bytes → ⊥) → [] ≡ utf8_or_empty bytes
text_dropped bytes refused = sym (ap (λ (b : Bool). cond b bytes []) (no_text bytes refused))

-- ## Files

module _ {D : Type 0} (answers : D → List ℕ → Result (Vec ℕ) DiskError → D → Type 0) (faults : D → ℕ) (files : Option (List (List ℕ × List ℕ))) (env : List (List ℕ × List ℕ)) (all : List Place) (before : D) where
  -- whatever the files to come give, all files give after the texts that were read
  pub record ReadSoFar (places : List Place) (between : D) (read : List FileText) : Type 0 where
    pub texts : (now : D) (others : List FileText) → Loaded answers faults files env places between now others → Loaded answers faults files env all before now (read ++ others)
    pub unread : (now : D) (path : List ℕ) → StopsAtFile answers faults files env places between now path → StopsAtFile answers faults files env all before now path

  pub read_none : ReadSoFar all before []
  read_none = record { texts = λ now others loaded. loaded; unread = λ now path stops. stops }

  -- after the last file
  pub read_all : (places : List Place) (now : D) (read : List FileText) → ReadSoFar places now read → places ≡ [] → Loaded answers faults files env all before now read
  read_all places now read so_far none =
      let SoFar : List Place → Type 0 = λ places. ReadSoFar places now read in
      let Read : List FileText → Type 0 = λ texts. Loaded answers faults files env all before now texts in
      let over : ReadSoFar [] now read = subst SoFar none so_far in
      subst Read (append-nil read) (over.texts now [] (refl, refl))
