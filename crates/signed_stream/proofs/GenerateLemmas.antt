-- The generated events are streamed, and the stream passes its check.
use Rattle.std.proofs.Common.{◌≡◌, ℕ, zero, suc, ◌+◌, ◌-◌, ◌<◌, ◌≤◌, inl, inr, List, [], ◌∷◌, ◌++◌, length, take, drop, replicate, map, Option, Some, None, refl, sym, ap, ◌∙◌, subst, arith, codes, append_assoc, append-nil, length-append}
use Rattle.std.specs.Prelude.{All, Ok, Err, ◌⊎◌}
use Rattle.std.specs.Fmt.{decimal}
use Rattle.std.specs.List.{concat}
use Rattle.std.specs.Int.{w16, w64, cast_signed, to_be_bytes}
use Rattle.std.proofs.lemmas.List.{drop_at, take_at}
use Rattle.std.proofs.lemmas.List.Elements.{All-cons, All-nil}
use Rattle.std.proofs.lemmas.Str.{IsUtf8-from_ascii}
use Rattle.std.proofs.lemmas.Str.Ascii.{IsAscii-cons, IsAscii-nil}
use Rattle.std.proofs.Math.Facts.{sfits_to_z}
use Rattle.hex.specs.Hex.{encode_lower}
use Rattle.smithy_core.specs.Civil.{IsInYears}
use Rattle.smithy_core.specs.Message.{Parts}
use Rattle.smithy_core.specs.Moment.{Instant, floor_secs}
use Rattle.smithy_core.specs.Text.{line}
use Rattle.mac_core.specs.Crc.{remainder}
use Rattle.sigv4.specs.Signed.{signature_of}
use Rattle.eventstream.specs.Frame.{be32, block, frame, frame_len, frame_lengths, spelling, summed, unframed, unspelled_value, value_spelling}
use Rattle.eventstream.specs.Key.{Signer}
use Rattle.smithy_core.specs.declared.header.HeaderValue.TheVariants.{Int64}
use Rattle.eventstream.specs.Kind.{byte_array_kind}
use Rattle.eventstream.specs.Laws.{IsProper, IsProperHeader, floored_message}
use Rattle.eventstream.specs.Link.{chain, date_header, link_code, link_message, link_signature}
use Rattle.eventstream.proofs.FrameLemmas.{length-be32, length-frame}
use Rattle.eventstream.proofs.LinkLemmas.{length-link_code, link_framed, unfit-none}
use Rattle.aws_auth.specs.MessageSigner.{SignerState, signer_in}
use Rattle.chain_watch.specs.Chain.{IsWholeChain}
use Rattle.chain_watch.specs.Walk.{chain_events}
use Rattle.chain_watch.specs.declared.chain_fault.ChainFault.{ChainFault}
use Rattle.chain_watch.specs.declared.chain_fault.ChainFault.TheVariants as chains
use Rattle.chain_watch.proofs.WrittenLemmas.{written_accepted}
use Rattle.signed_stream.specs.Chain.{unlinked, chain_text, first_refusal, frame_text, frames_text}
use Rattle.signed_stream.specs.Generate.{AreDrawn, closing_signature, generated_case, generated_moment, generated_signer, generated_stream, shown_stream}
use Rattle.signed_stream.specs.Generator.{draw_after, drawn_bytes, drawn_event, drawn_events, drawn_len, next_draw}
use Rattle.signed_stream.specs.Status.{stream_ending}
use Rattle.signed_stream.specs.Sending.{SendsChain, EndsEarly}
use Rattle.signed_stream.specs.Sign.{SealsFor}
use Rattle.signed_stream.specs.Written.{written_stream}
use Rattle.signed_stream.specs.declared.status.StreamFault.{StreamFault}
use Rattle.signed_stream.specs.declared.status.StreamFault.TheVariants as faults
use Rattle.signed_stream.specs.declared.form.Form.TheVariants.{Raw}
use Rattle.smithy_core.specs.Clock.{ClockState, GivesNext}
use Rattle.smithy_core.specs.Given.{GivesEach}
use Rattle.smithy_core.specs.Outside.{RoseOrStands}
use Rattle.smithy_core.specs.declared.outside.clock.Clock as Clock
use Rattle.smithy_core.proofs.GivenLemmas.{given_last}
use Rattle.signed_stream.proofs.GeneratorLemmas.{draw_fits}
use Rattle.signed_stream.proofs.GeneratedRequestLemmas.{signer_is}

-- ## The events

length-drawn_bytes : (n draw : ℕ) → length (drawn_bytes n draw) ≡ n
unfolding drawn_bytes
length-drawn_bytes zero draw = refl
length-drawn_bytes (suc n) draw = ap suc (length-drawn_bytes n (next_draw draw))

-- a payload has at most 63 bytes
drawn_short : (draw : ℕ) → drawn_len (next_draw draw) < 64
unfolding drawn_len
drawn_short draw = omega (arith, draw_fits draw)

-- the event of a draw has a frame
event_framed : (draw : ℕ) → drawn_len draw < 64 → unframed (drawn_event draw) ≡ None
unfolding drawn_event unframed unspelled_value value_spelling
event_framed draw short =
    let payload : length (drawn_bytes (drawn_len draw) draw) ≡ drawn_len draw = length-drawn_bytes (drawn_len draw) draw in
    rw payload (unfit-none 11 (drawn_len draw) (omega arith) (omega arith))

event_len : (draw : ℕ) → drawn_len draw < 64 → length (frame (drawn_event draw)) ≤ 90
unfolding drawn_event value_spelling
event_len draw short =
    let payload : length (drawn_bytes (drawn_len draw) draw) ≡ drawn_len draw = length-drawn_bytes (drawn_len draw) draw in
    omega (arith, payload, length-frame (drawn_event draw))

pub length-drawn_events : (count draw : ℕ) → length (drawn_events count draw) ≡ count
unfolding drawn_events
length-drawn_events zero draw = refl
length-drawn_events (suc count) draw = ap suc (length-drawn_events count _)

moment_in_years : IsInYears generated_moment
moment_in_years = (omega arith, omega arith)

-- the chain of events at the one moment is defined
pub drawn_chained : (signer : Signer) (count draw : ℕ) (signature : List ℕ) → IsWholeChain signer (drawn_events count draw) (replicate (suc count) generated_moment) signature
unfolding drawn_events
drawn_chained signer zero draw signature = (moment_in_years, link_framed signer signature [] generated_moment moment_in_years (omega arith))
drawn_chained signer (suc count) draw signature =
    let first = next_draw draw in
    let event = drawn_event first in
    let short = event_len first (drawn_short draw) in (
      event_framed first (drawn_short draw),
      moment_in_years,
      link_framed signer signature (frame event) generated_moment moment_in_years (omega (arith, short)),
      drawn_chained signer count (draw_after (drawn_len first) first) (link_signature signer signature (frame event) generated_moment),
    )

-- ## The stream

-- the moments of so many events
abbrev one_more : List Parts → List Instant
one_more events = replicate (suc (length events)) generated_moment

-- the stream is the chain alone
stream_is : (events : List Parts) → generated_stream events ≡ chain_text Raw generated_signer events (one_more events) (signature_of generated_case)
unfolding generated_stream written_stream generated_case
stream_is events = refl

raw_frames : (frames : List (List ℕ)) → frames_text Raw frames ≡ concat frames
unfolding frame_text
raw_frames [] = refl
raw_frames (first ∷ frames) = ap (λ (rest : List ℕ). first ++ rest) (raw_frames frames)

-- which is the frames joined
stream_frames : (events : List Parts) → generated_stream events ≡ concat (chain generated_signer events (one_more events) (signature_of generated_case))
unfolding chain_text
stream_frames events = stream_is events ∙ raw_frames (chain generated_signer events (one_more events) (signature_of generated_case))

-- bytes that end with a code and the 19 bytes behind it
record EndsWith (bytes code : List ℕ) : Type 0 where
  front : List ℕ
  tail : List ℕ
  is : bytes ≡ front ++ (code ++ tail)
  code_len : length code ≡ 32
  tail_len : length tail ≡ 19

joined : (a b x code e c : List ℕ) → ((a ++ b) ++ ((x ++ code) ++ (e ++ [])) ++ []) ++ c ≡ ((a ++ b) ++ x) ++ (code ++ (e ++ c))
joined a b x code e c = simp (append_assoc, append-nil) refl

-- a closing frame does
closing_ends : (signer : Signer) (signature : List ℕ) → EndsWith (frame (link_message signer signature [] generated_moment)) (link_code signer signature [] generated_moment)
unfolding frame link_message value_spelling
closing_ends signer signature =
    let code = link_code signer signature [] generated_moment in
    let len : length code ≡ 32 = length-link_code signer signature [] generated_moment in
    let message = link_message signer signature [] generated_moment in
    let lengths = frame_lengths (frame_len message) (length (block message.headers)) in
    let begins = 16 ∷ codes ":chunk-signature" ++ (byte_array_kind ∷ to_be_bytes w16 (length code)) in
    let date_bytes = spelling (date_header (floor_secs generated_moment)) in
    let front_bytes = summed lengths ++ block message.headers ++ message.payload in
    record {
      front = (lengths ++ be32 (remainder lengths)) ++ begins;
      tail = date_bytes ++ be32 (remainder front_bytes);
      is = joined lengths (be32 (remainder lengths)) begins code date_bytes (be32 (remainder front_bytes));
      code_len = len;
      tail_len = omega (arith, length-be32 (remainder front_bytes), length-append date_bytes (be32 (remainder front_bytes)));
    }

-- and so does what ends with it
ends_behind : (first bytes code : List ℕ) → EndsWith bytes code → EndsWith (first ++ bytes) code
ends_behind first bytes code ends = record {
  front = first ++ ends.front;
  tail = ends.tail;
  is = ap (λ (rest : List ℕ). first ++ rest) ends.is ∙ sym (append_assoc first ends.front (code ++ ends.tail));
  code_len = ends.code_len;
  tail_len = ends.tail_len;
}

-- the chain of events ends with the code of its closing frame
record Closes (signer : Signer) (events : List Parts) (signature bytes : List ℕ) : Type 0 where
  code : List ℕ
  ends : EndsWith bytes code
  spelled : encode_lower code ≡ closing_signature signer events generated_moment signature

chain_closes : (signer : Signer) (events : List Parts) (signature : List ℕ) → Closes signer events signature (concat (chain signer events (one_more events) signature))
unfolding link_signature
chain_closes signer [] signature = record {
  code = link_code signer signature [] generated_moment;
  ends = rw (append-nil (frame (link_message signer signature [] generated_moment))) (closing_ends signer signature);
  spelled = refl;
}
chain_closes signer (event ∷ events) signature =
    let next = link_signature signer signature (frame event) generated_moment in
    let others = chain_closes signer events next in
    record {
      code = others.code;
      ends = ends_behind (frame (link_message signer signature (frame event) generated_moment)) (concat (chain signer events (one_more events) next)) others.code others.ends;
      spelled = others.spelled;
    }

-- the code before the last 19 bytes
code_before : (bytes code : List ℕ) → EndsWith bytes code → (51 ≤ length bytes) × (take 32 (drop (length bytes - 51) bytes) ≡ code)
code_before bytes code ends =
    let whole : length bytes ≡ length ends.front + 51 =
    rw ends.is (omega (arith, length-append ends.front (code ++ ends.tail), length-append code ends.tail, ends.code_len, ends.tail_len)) in
    let place : length ends.front ≡ length bytes - 51 = omega (arith, whole) in (
      omega (arith, whole),
      ap (λ (b : List ℕ). take 32 (drop (length bytes - 51) b)) ends.is ∙ ap (take 32) (drop_at ends.front (code ++ ends.tail) (length bytes - 51) place)
          ∙ take_at code ends.tail 32 ends.code_len,
    )

stream_closes : (events : List Parts) → Closes generated_signer events (signature_of generated_case) (generated_stream events)
stream_closes events = rw (stream_frames events) (chain_closes generated_signer events (signature_of generated_case))

-- a stream is long enough for the signature of its closing frame
pub stream_long : (bytes : List ℕ) (events : List Parts) → bytes ≡ generated_stream events → 51 ≤ length bytes
stream_long bytes events is = let closes = stream_closes events in rw is (code_before (generated_stream events) closes.code closes.ends).0

-- which stands before the last 19 bytes
pub stream_signature : (bytes : List ℕ) (events : List Parts) → bytes ≡ generated_stream events
    → encode_lower (take 32 (drop (length bytes - 51) bytes)) ≡ closing_signature generated_signer events generated_moment (signature_of generated_case)
stream_signature bytes events is =
    let closes = stream_closes events in
    rw is (ap encode_lower (code_before (generated_stream events) closes.code closes.ends).1 ∙ closes.spelled)

-- ## What is answered for the events

-- none of them is refused
drawn_unrefused : (signer : Signer) (place count draw n : ℕ) (signature : List ℕ) → first_refusal signer place (drawn_events count draw) (replicate n generated_moment) signature ≡ None
unfolding drawn_events unlinked
drawn_unrefused signer place zero draw zero signature = refl
drawn_unrefused signer place zero draw (suc n) signature = refl
drawn_unrefused signer place (suc count) draw zero signature = refl
drawn_unrefused signer place (suc count) draw (suc n) signature =
    let first = next_draw draw in
    let event = drawn_event first in
    let short = event_len first (drawn_short draw) in
    let whole = event_framed first (drawn_short draw) in
    let linked = link_framed signer signature (frame event) generated_moment moment_in_years (omega (arith, short)) in
    let others = drawn_unrefused signer (place + 1) count (draw_after (drawn_len first) first) n (link_signature signer signature (frame event) generated_moment) in
    rw (whole, linked, others) refl

-- nor any of a seed's at moments that are all the one
unrefused : (signer : Signer) (events : List Parts) (moments : List Instant) (signature : List ℕ) → AreDrawn events → moments ≡ replicate (length moments) generated_moment
    → first_refusal signer 1 events moments signature ≡ None
unrefused signer events moments signature drawn same = rw (drawn.2, same) (drawn_unrefused signer 1 drawn.0 drawn.1 (length moments) signature)

-- so the stream wants memory, where it isn't whole
pub streaming_wants : (signer : Signer) (events : List Parts) (moments : List Instant) (signature : List ℕ) (before now : Option (List ℕ)) (fault : StreamFault) → AreDrawn events
    → moments ≡ replicate (length moments) generated_moment → (fault ≡ faults.SinkFault → ⊥) → SendsChain {T = Unit {0}} Raw signer events signature before now moments (Err fault) → fault ≡ faults.NoMemory
streaming_wants signer events moments signature before now fault drawn same calm chain =
    by_fault (chain_text Raw signer events moments signature) fault calm (rw (unrefused signer events moments signature drawn same) at chain.sends)
  where
    by_fault : (text : List ℕ) (fault : StreamFault) → (fault ≡ faults.SinkFault → ⊥) → EndsEarly None text before now (stream_ending fault) → fault ≡ faults.NoMemory
    by_fault text faults.NoMemory calm ends_early = refl
    by_fault text faults.SinkFault calm ends_early = absurd (calm refl)
    by_fault text fault calm ends_early = let none = ends_early.0 in cc

-- and where it is, it is the generated one
pub streaming_done : (events : List Parts) (moments : List Instant) (held : List ℕ) → AreDrawn events → moments ≡ replicate (length moments) generated_moment
    → SendsChain {T = Unit {0}} Raw generated_signer events (signature_of generated_case) (Some []) (Some held) moments (Ok tt) → held ≡ generated_stream events
streaming_done events moments held drawn same sends =
    let counted : length moments ≡ length events + 1 = sends.whole in
    let count : length moments ≡ suc (length events) = omega (arith, counted) in
    let all : moments ≡ one_more events = same ∙ ap (λ (n : ℕ). replicate n generated_moment) count in
    let none = unrefused generated_signer events moments (signature_of generated_case) drawn same in
    let gained : Some held ≡ Some (chain_text Raw generated_signer events moments (signature_of generated_case)) = (rw none at sends.sends).1 in
    let text : held ≡ chain_text Raw generated_signer events moments (signature_of generated_case) = cc in
    text ∙ ap (λ (ms : List Instant). chain_text Raw generated_signer events ms (signature_of generated_case)) all ∙ sym (stream_is events)

-- a clock that always gives the one moment gave no other
pub moments_same : (fixed : Clock.Ghosts ClockState) → ((before : ClockState) (moment : Instant) (now : ClockState) → fixed.answers before moment now → GivesNext before moment now)
    → (start end : ClockState) (moments : List Instant) → start ≡ record { moments = []; last = generated_moment; calls = 0 } → GivesEach fixed start moments end
    → moments ≡ replicate (length moments) generated_moment
moments_same fixed gives start end moments is given =
    given_last fixed gives start end moments (ap (λ (c : ClockState). c.moments) is) given
    ∙ ap (λ (t : Instant). replicate (length moments) t) (ap (λ (c : ClockState). c.last) is)

-- what seals for the request seals for the generated signer
pub seals_for : (signer : SignerState (Unit {0})) → SealsFor generated_case signer → signer_in signer ≡ generated_signer
seals_for signer seals = seals.who ∙ signer_is

-- ## What is answered for the stream

-- three lines, each of two parts
three_lines : (a x b y c z : List ℕ) → line (a ++ x) ++ (line (b ++ y) ++ line (c ++ z)) ≡ a ++ (x ++ 10 ∷ (b ++ (y ++ 10 ∷ (c ++ (z ++ 10 ∷ [])))))
three_lines a x b y c z = simp append_assoc refl

-- the lines that are shown of it
pub shown_is : (events : List Parts) (bytes signature : List ℕ) → bytes ≡ generated_stream events → signature ≡ closing_signature generated_signer events generated_moment (signature_of generated_case)
    → codes "events " ++ (decimal (length events) ++ (codes "\nbytes " ++ (decimal (length bytes) ++ (codes "\nsignature " ++ (signature ++ codes "\n"))))) ≡ shown_stream events
unfolding shown_stream
shown_is events bytes signature is same =
    rw (is, same)
    (sym (three_lines (codes "events ") (decimal (length events)) (codes "bytes ") (decimal (length (generated_stream events))) (codes "signature ")
    (closing_signature generated_signer events generated_moment (signature_of generated_case))))

-- what the types of an event say of it
event_proper : (draw : ℕ) → draw < 18446744073709551616 → IsProper (drawn_event draw)
unfolding drawn_event
event_proper draw fits =
    let header : IsProperHeader (record { name = codes "n"; value = Int64 (cast_signed w64 draw) }) =
    record { name = IsUtf8-from_ascii _ (IsAscii-cons 110 [] (omega arith) IsAscii-nil); value = sfits_to_z (record { fits = fits }) } in
    record { headers = All-cons IsProperHeader _ [] header (All-nil IsProperHeader) }

drawn_proper : (count draw : ℕ) → All IsProper (drawn_events count draw)
unfolding drawn_events
drawn_proper zero draw = All-nil IsProper
drawn_proper (suc count) draw =
    let first = next_draw draw in
    All-cons IsProper (drawn_event first) (drawn_events count (draw_after (drawn_len first) first)) (event_proper first (draw_fits draw)) (drawn_proper count (draw_after (drawn_len first) first))

-- the check of the stream finds nothing
pub check_passes : (seed bytes : List ℕ) (events : List Parts) → AreDrawn events → seed ≡ signature_of generated_case → bytes ≡ generated_stream events
    → chain_events generated_signer seed bytes ≡ Ok (map floored_message events)
check_passes seed bytes events drawn is same =
    rw (is, same, stream_frames events) (written_accepted generated_signer events (one_more events) (signature_of generated_case) proper chained)
  where
    proper : All IsProper events
    proper = rw drawn.2 (drawn_proper drawn.0 drawn.1)

    chained : IsWholeChain generated_signer events (one_more events) (signature_of generated_case)
    chained =
        subst (λ (es : List Parts). IsWholeChain generated_signer es (one_more es) (signature_of generated_case)) (sym drawn.2)
        (subst (λ (n : ℕ). IsWholeChain generated_signer (drawn_events drawn.0 drawn.1) (replicate (suc n) generated_moment) (signature_of generated_case)) (sym (length-drawn_events drawn.0 drawn.1))
        (drawn_chained generated_signer drawn.0 drawn.1 (signature_of generated_case)))

-- so a fault of it only wants memory
pub check_wants : (seed bytes : List ℕ) (events : List Parts) (fault : ChainFault) → AreDrawn events → seed ≡ signature_of generated_case → bytes ≡ generated_stream events
    → (chain_events generated_signer seed bytes ≡ Err fault) ⊎ (fault ≡ chains.NoMemory) → fault ≡ chains.NoMemory
check_wants seed bytes events fault drawn is same (inl refused) = let wrong : Ok (map floored_message events) ≡ Err fault = sym (check_passes seed bytes events drawn is same) ∙ refused in cc
check_wants seed bytes events fault drawn is same (inr none) = none

-- a count that is always 0 neither rises nor is saturated
pub never_rises : RoseOrStands 0 0 → ⊥
never_rises (inl less) = absurd (omega (arith, less))
never_rises (inr is) = let no : ⊥ = cc in no
