-- Frames that are written one after another, and how a run without them ends.
use Rattle.std.proofs.Common.{◌≡◌, ℕ, ◌+◌, ◌<◌, inl, inr, Bool, true, List, [], ◌∷◌, ◌++◌, length, take, drop, get_or, Option, refl, sym, ap, ◌∙◌, append-nil, add-one, arith}
use Rattle.std.specs.Prelude.{Result, Ok, Err}
use Rattle.std.specs.Global.{Vec}
use Rattle.std.specs.List.{flat_map, list_all}
use Rattle.std.proofs.Math.Seq.{drop-cons}
use Rattle.std.proofs.lemmas.Grind.{flat_map-append}
use Rattle.std.proofs.lemmas.List.{length-take-le, take_more, take-append-drop}
use Rattle.std.proofs.lemmas.List.Folds.{list_all-append}
use Rattle.job_text.specs.Draft.{ReadsJob}
use Rattle.job_text.specs.Job.{JobParts}
use Rattle.job_text.specs.declared.fault.JobFault.{JobFault}
use Rattle.job_text.specs.declared.fault.JobFault.TheVariants as job
use Rattle.smithy_core.specs.Message.{Parts}
use Rattle.smithy_core.specs.Outside.{IsLongerThan}
use Rattle.smithy_core.specs.declared.outside.read_all.ReadFault.{ReadFault}
use Rattle.smithy_core.specs.declared.outside.read_all.ReadFault.TheVariants as read
use Rattle.smithy_core.proofs.GainLemmas.{prefix_from_proper}
use Rattle.eventstream.specs.Frame.{frame}
use Rattle.awsign_run.specs.declared.status.Status.TheVariants.{Done, NoMemory, OutputFault}
use Rattle.awsign_events.specs.Encode.{EncodesAll, EncodesInput, EncodesMessages, EncodesSpelled, MakesFrame, SpellsMessages, WritesEncoded, events_behind, framed_text, is_framed, spelled_messages, without_request, written_frame}
use Rattle.awsign_events.specs.EventsStatus.{line_status, read_events_status}
use Rattle.awsign_events.specs.HexInput.{GivesUnhexed, LacksInput, Unhexes, most_input, unhexed}
use Rattle.awsign_events.specs.declared.status.EventsStatus.{EventsStatus}
use Rattle.awsign_events.specs.declared.status.EventsStatus.TheVariants.{Ended, Unframed}

module _ (messages : List Parts) (i : ℕ) (message : Parts) (within : i < length messages) (is : message ≡ get_or messages i message) where
  -- one message more
  pub one_taken : take (i + 1) messages ≡ take i messages ++ message ∷ []
  one_taken = take_more messages i message within ∙ ap (λ (m : Parts). take i messages ++ m ∷ []) (sym is)

  -- the messages before it, and those behind it
  pub cut_at : messages ≡ take i messages ++ message ∷ drop (i + 1) messages
  cut_at = sym (take-append-drop i messages) ∙ ap (λ (rest : List Parts). take i messages ++ rest) (drop-cons messages i message within ∙ rw (← is, add-one) refl)

module _ (is_hex : Bool) (messages : List Parts) (i : ℕ) (message : Parts) (within : i < length messages) (is : message ≡ get_or messages i message) where
  -- the texts of one frame more
  pub frames_more : (text bytes more : List ℕ) → text ≡ flat_map (written_frame is_hex) (take i messages) → bytes ≡ frame message → more ≡ text ++ framed_text is_hex bytes
      → more ≡ flat_map (written_frame is_hex) (take (i + 1) messages)
  frames_more text bytes more so_far framed one =
      one ∙ ap (λ (b : List ℕ). text ++ framed_text is_hex b) framed ∙ ap (λ (t : List ℕ). t ++ written_frame is_hex message) so_far
      ∙ ap (λ (t : List ℕ). flat_map (written_frame is_hex) (take i messages) ++ t) (sym (append-nil (written_frame is_hex message)))
      ∙ sym (flat_map-append (written_frame is_hex) (take i messages) (message ∷ [])) ∙ ap (flat_map (written_frame is_hex)) (sym (one_taken messages i message within is))

  -- one message more has a frame
  pub framed_more : list_all is_framed (take i messages) ≡ true → is_framed message ≡ true → list_all is_framed (take (i + 1) messages) ≡ true
  framed_more all one = ap (list_all is_framed) (one_taken messages i message within is) ∙ list_all-append is_framed (take i messages) (message ∷ []) ∙ rw (all, one) refl

  -- how encoding stops at a message
  pub stops_at : (place : ℕ) (status : EventsStatus) → place ≡ i + 1 → list_all is_framed (take i messages) ≡ true → MakesFrame place message (Err status)
      → EncodesMessages is_hex messages (Err status)
  stops_at place (Unframed at error) placed framed stops =
      (take i messages, message, drop (i + 1) messages, cut_at messages i message within is, framed, stops.0 ∙ placed ∙ ap (λ (n : ℕ). n + 1) (sym (length-take-le i messages (omega (arith, within)))), stops.1)
  stops_at place (Ended NoMemory) placed framed stops = tt
  stops_at place other placed framed stops = absurd stops

-- memory may always run out
spelled_without_memory : (is_hex : Bool) (spelled : Result (List Parts) ℕ) → EncodesSpelled is_hex spelled (Err (Ended NoMemory))
spelled_without_memory is_hex (Ok messages) = tt
spelled_without_memory is_hex (Err place) = tt

-- a job that has a bad line
pub job_refused : (read : Result JobParts ℕ) (fault : JobFault) → ReadsJob read (Err fault) → SpellsMessages (events_behind read) (Err (without_request fault))
job_refused read (job.BadLine place) is = ap events_behind is
job_refused read job.NoMemory is = tt

-- lines that spell no messages
pub unspelled_stops : (is_hex : Bool) (spelled : Result (List Parts) ℕ) (fault : JobFault) → SpellsMessages spelled (Err fault) → EncodesSpelled is_hex spelled (Err (line_status fault))
unspelled_stops is_hex spelled (job.BadLine place) is = rw is refl
unspelled_stops is_hex spelled job.NoMemory is = spelled_without_memory is_hex spelled

-- lines that spell no bytes
pub unhexed_stops : (text : List ℕ) (fault : JobFault) → Unhexes text (Err fault) → GivesUnhexed (unhexed text) (Err (line_status fault))
unhexed_stops text (job.BadLine place) is = is
unhexed_stops text job.NoMemory is = tt

-- an input that isn't read
pub input_lacks : (left : Option (List ℕ)) (fault : ReadFault) → (fault ≡ read.TooLarge → IsLongerThan left most_input) → LacksInput left (read_events_status fault)
input_lacks left read.Failed longer = tt
input_lacks left read.TooLarge longer = longer refl
input_lacks left read.NoMemory longer = tt

-- nothing is written of what isn't encoded
pub nothing_written : (is_hex : Bool) (left held : Option (List ℕ)) (status : EventsStatus) → EncodesAll is_hex left (Err status) → EncodesInput is_hex left status held held
nothing_written is_hex left held (Ended Done) all = absurd (by_all all)
  where
    by_spelled : (spelled : Result (List Parts) ℕ) → EncodesSpelled is_hex spelled (Err (Ended Done)) → ⊥
    by_spelled (Ok messages) is = is
    by_spelled (Err place) is = is

    by_all : EncodesAll is_hex left (Err (Ended Done)) → ⊥
    by_all (inl read) = by_spelled (spelled_messages read.0) read.2
    by_all (inr lacks) = lacks
nothing_written is_hex left held (Ended OutputFault) all = absurd (by_all all)
  where
    by_spelled : (spelled : Result (List Parts) ℕ) → EncodesSpelled is_hex spelled (Err (Ended OutputFault)) → ⊥
    by_spelled (Ok messages) is = is
    by_spelled (Err place) is = is

    by_all : EncodesAll is_hex left (Err (Ended OutputFault)) → ⊥
    by_all (inl read) = by_spelled (spelled_messages read.0) read.2
    by_all (inr lacks) = lacks
nothing_written is_hex left held other all = inl (all, refl)

-- what is encoded is written
pub encoded_written : (is_hex : Bool) (left before now : Option (List ℕ)) (text : Vec ℕ) (status : EventsStatus) → EncodesAll is_hex left (Ok text)
    → WritesEncoded text.items status before now → EncodesInput is_hex left status before now
encoded_written is_hex left before now text (Ended Done) all wrote = (text, all, wrote)
encoded_written is_hex left before now text (Ended OutputFault) all wrote = (text, all, prefix_from_proper before now text.items wrote)
encoded_written is_hex left before now text (Ended NoMemory) all wrote = inr (refl, (text, all, prefix_from_proper before now text.items wrote))
encoded_written is_hex left before now text other all wrote = absurd wrote
