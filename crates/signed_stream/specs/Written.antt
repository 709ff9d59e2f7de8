-- The output: as lines the head of the signed request and its frames in hexadecimal, and raw the frames alone.
use Rattle.std.specs.Prelude.{ℕ, ◌+◌, ◌==◌, if◌then◌else◌, List, [], ◌++◌, codes, length, Option, Some, None}
use Rattle.std.specs.List.{flat_map}
use Rattle.smithy_core.specs.Moment.{Instant}
use Rattle.smithy_core.specs.Message.{Parts}
use Rattle.smithy_core.specs.Text.{line}
use Rattle.sigv4.specs.Request.{Case}
use Rattle.sigv4.specs.Signed.{signature_of, signed_headers, signed_target}
use Rattle.signed_stream.specs.Chain.{Refusal, chain_text, first_refusal, text_before}
use Rattle.signed_stream.specs.declared.form.Form.{Form}
use Rattle.signed_stream.specs.declared.form.Form.TheVariants.{Raw, HexLines}
use Rattle.signed_stream.specs.Status.{Ending, done, no_memory, refused}

-- `name: value`, as a line
abbrev pub name_value_line : List ℕ × List ℕ → List ℕ
name_value_line header = line (header.0 ++ codes ": " ++ header.1)

-- `METHOD target`, the headers, and an empty line
unfoldable pub head : List ℕ → List ℕ → List (List ℕ × List ℕ) → List ℕ
head method target headers = line (method ++ codes " " ++ target) ++ flat_map name_value_line headers ++ line []

-- the head of a form: raw there is none
abbrev pub head_in_form : Form → List ℕ → List ℕ → List (List ℕ × List ℕ) → List ℕ
head_in_form Raw method target headers = []
head_in_form HexLines method target headers = head method target headers

-- the head of the signed request, whose own target was given by this text
abbrev pub signed_head : Form → List ℕ → Case → List ℕ
signed_head form text c = head_in_form form c.method (signed_target c text) (signed_headers c)

-- the head of the signed request, and then the chain of the events at their moments
unfoldable pub written_stream : Form → List ℕ → Case → List Parts → List Instant → List ℕ
written_stream form text c events moments = signed_head form text c ++ chain_text form c.signer events moments (signature_of c)

-- the head of the signed request, and then the frames before the one at a place
unfoldable pub written_before : Form → ℕ → List ℕ → Case → List Parts → List Instant → List ℕ
written_before form place text c events moments = signed_head form text c ++ text_before form c.signer place events moments (signature_of c)

-- the first event that is refused, or the closing frame; places count from 1
abbrev pub case_refusal : Case → List Parts → List Instant → Option Refusal
case_refusal c events moments = first_refusal c.signer 1 events moments (signature_of c)

-- what is written: all, and where a frame is refused what stands before it
abbrev pub written_until : Form → Option Refusal → List ℕ → Case → List Parts → List Instant → List ℕ
written_until form None text c events moments = written_stream form text c events moments
written_until form (Some refusal) text c events moments = written_before form refusal.place text c events moments

-- how it ends: refused where a frame is; done where each event and the closing frame had its moment, and else out of memory, which ran out before
-- the next moment
abbrev pub written_end : Option Refusal → List Parts → List Instant → Ending
written_end (Some refusal) events moments = refused refusal.fault
written_end None events moments = if length moments == length events + 1 then done else no_memory
