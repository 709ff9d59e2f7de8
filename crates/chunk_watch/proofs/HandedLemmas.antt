-- A text that is written is handed out whole.
use Rattle.std.proofs.Common.{◌≡◌, ℕ, zero, suc, ◌<◌, ◌≤◌, ◌⊎◌, Bool, true, false, cond, List, [], ◌∷◌, ◌++◌, Option, Some, None, take, drop, length, map, inl, inr, refl, sym, ap, ◌∙◌, subst, arith, append_assoc, append-nil, length-drop}
use Rattle.std.specs.Prelude.{Result, Ok, Err, nat_lt}
use Rattle.std.specs.List.{AllByRecursion, flat_map}
use Rattle.std.proofs.Math.Seq.{drop-append_seam}
use Rattle.std.proofs.lemmas.Bool.Decides.{nat_tests}
use Rattle.std.proofs.lemmas.List.{length-take, take-append-drop}
use Rattle.smithy_core.specs.Moment.{Instant}
use Rattle.eventstream.specs.Key.{Signer}
use Rattle.sigv4.specs.Chunk.{chunk_signature, trailer_signature}
use Rattle.sigv4.proofs.InsertedLemmas.{itself}
use Rattle.aws_chunked.specs.Body.{Trailer}
use Rattle.aws_chunked.specs.Decoded.{IsTrailer}
use Rattle.aws_chunked.specs.Due.{signed_chunked_text, signed_chunks, trailers_signature}
use Rattle.aws_chunked.specs.Made.{joined}
use Rattle.aws_chunked.specs.Text.{chunk_text, crlf, cut_within, head_text, last_line, pieces_of_size, tail_text, trailer_line}
use Rattle.aws_chunked.specs.Text as parts
use Rattle.aws_chunked.proofs.SealedLawLemmas.{chunk_sealed, trailers_sealed}
use Rattle.aws_chunked.proofs.SignatureLemmas.{signature_long}
use Rattle.chunk_watch.specs.Handed.{EndsGiving, HandsWritten, end_text, last_signature}
use Rattle.chunk_watch.specs.Signing.{Signing}
use Rattle.chunk_watch.specs.Trailers.{IsTrailersEnd, JudgesTrailers, RefusesTrailers, are_announced}
use Rattle.chunk_watch.specs.Walk.{ChunkPoint, FedAll, Rules, Walks, at_end, chunk_compared, failed, in_chunks, next_place, step, step_over}
use Rattle.chunk_watch.specs.Watch.{ChunkWatching, EndsAt, new_chunk_watch, rules_of}
use Rattle.chunk_watch.specs.declared.fault.ChunkFault.{ChunkFault}
use Rattle.chunk_watch.specs.declared.fault.ChunkFault.TheVariants.{LongEnd, NoMemory}
use Rattle.chunk_watch.specs.declared.limits.ChunkLimits.{ChunkLimits}
use Rattle.chunk_watch.proofs.FrontWrittenLemmas.{chunk_written, empty_written}
use Rattle.chunk_watch.proofs.WalkLemmas.{any_cut, joined_both}

-- ---- data that is cut every so many bytes

-- no piece is empty, or longer than this
abbrev ArePieces : ℕ → List (List ℕ) → Type 0
ArePieces size pieces = AllByRecursion (λ piece. (0 < length piece) × (length piece ≤ size)) pieces

cut_pieces : (bound size : ℕ) (bytes : List ℕ) → 0 < size → length bytes ≤ bound → ArePieces size (cut_within bound size bytes) × (joined (cut_within bound size bytes) ≡ bytes)
unfolding cut_within
cut_pieces bound size [] some low = (tt, refl)
cut_pieces zero size (byte ∷ bytes) some low = absurd (omega (arith, low))
cut_pieces (suc bound) size (byte ∷ bytes) some low =
    let piece = take size (byte ∷ bytes) in
    let rest = drop size (byte ∷ bytes) in
    let long = length-take size (byte ∷ bytes) in
    let others = cut_pieces bound size rest some (omega (arith, some, low, length-drop size (byte ∷ bytes))) in
    (((omega (arith, some, long), omega (arith, long)), others.0), ap (λ (more : List ℕ). piece ++ more) others.1 ∙ take-append-drop size (byte ∷ bytes))

cut_whole : (size : ℕ) (bytes : List ℕ) → 0 < size → ArePieces size (pieces_of_size size bytes) × (joined (pieces_of_size size bytes) ≡ bytes)
unfolding pieces_of_size
cut_whole size bytes some = cut_pieces (length bytes) size bytes some (omega arith)

-- ---- a walk over the text

abbrev Step : Type 0
Step = List ℕ × ChunkPoint

module _ (signer : Signer) (t : Instant) (limits : ChunkLimits) where
  abbrev rules : Rules
  rules = rules_of (new_chunk_watch signer t limits [])

  abbrev sealed : List ℕ → List ℕ → List ℕ
  sealed before piece = chunk_signature piece signer t before

  sealed_long : (before piece : List ℕ) → length (sealed before piece) ≡ 64
  sealed_long before piece = signature_long (sealed before piece) (chunk_sealed piece signer t before)

  -- a chunk
  chunk_step : (before : List ℕ) (place : ℕ) (piece rest : List ℕ) → 0 < length piece → length piece ≤ limits.chunk → length piece ≤ 4294967295
      → step rules (in_chunks before place (chunk_text (Some (sealed before piece)) piece ++ rest)) ≡ Some (piece, in_chunks (sealed before piece) (next_place place) rest)
  chunk_step before place piece rest some within low =
      let own = sealed before piece in
      let text = chunk_text (Some own) piece in
      ap (step_over rules before place (text ++ rest)) (chunk_written limits.chunk place own piece rest (sealed_long before piece) low some within)
      ∙ (λ i. let s : Option Step = Some (chunk_compared (itself own i) place piece (in_chunks own (next_place place) (drop-append_seam text rest i))) in s)

  -- the empty chunk
  empty_step : (before : List ℕ) (place : ℕ) (rest : List ℕ)
      → step rules (in_chunks before place (head_text 0 (Some (sealed before [])) ++ rest)) ≡ Some ([], at_end (sealed before []) rest)
  empty_step before place rest =
      let own = sealed before [] in
      let text = head_text 0 (Some own) in
      ap (step_over rules before place (text ++ rest)) (empty_written limits.chunk place own rest (sealed_long before []))
      ∙ (λ i. let s : Option Step = Some (chunk_compared (itself own i) place [] (at_end own (drop-append_seam text rest i))) in s)

  tail_is : (signature : List ℕ) (trailers : List Trailer) (last : Option (List ℕ))
      → tail_text (Some signature) trailers last ≡ head_text 0 (Some signature) ++ (flat_map trailer_line trailers ++ (last_line last ++ crlf))
  unfolding tail_text
  tail_is signature trailers last =
      let lines = flat_map trailer_line trailers in
      append_assoc (head_text 0 (Some signature) ++ lines) (last_line last) crlf ∙ append_assoc (head_text 0 (Some signature)) lines (last_line last ++ crlf)

  walk_written : (before : List ℕ) (place : ℕ) (pieces : List (List ℕ)) (trailers : List Trailer) (size : ℕ) → ArePieces size pieces → size ≤ limits.chunk → size ≤ 4294967295
      → Walks rules (in_chunks before place (signed_chunks signer t before (map parts.chunk pieces ++ parts.tail trailers ∷ []))) (pieces ++ [] ∷ [])
      (at_end (last_signature signer t before pieces) (end_text signer t (last_signature signer t before pieces) trailers))
  unfolding signed_chunks
  walk_written before place [] trailers size are within low =
      let own = sealed before [] in (
        at_end own (end_text signer t own trailers),
        ap (λ (text : List ℕ). step rules (in_chunks before place text)) (tail_is own trailers (trailers_signature signer t own trailers))
            ∙ empty_step before place (end_text signer t own trailers),
        refl,
      )
  walk_written before place (piece ∷ pieces) trailers size are within low =
      let own = sealed before piece in
      let rest = signed_chunks signer t own (map parts.chunk pieces ++ parts.tail trailers ∷ []) in (
        in_chunks own (next_place place) rest,
        chunk_step before place piece rest are.0.0 (omega (arith, are.0.1, within)) (omega (arith, are.0.1, low)),
        walk_written own (next_place place) pieces trailers size are.1 within low,
      )

  -- behind the empty chunk no step is left
  stays : (before left : List ℕ) → length left ≤ limits.end → step rules (at_end before left) ≡ None
  stays before left low = ap (λ (b : Bool). cond {A = Option Step} b (Some ([], failed LongEnd)) None) (few left low)
    where
      few : (left : List ℕ) → length left ≤ limits.end → nat_lt limits.end (length left) ≡ false
      few left low = grind (arith, nat_tests)

-- ---- the end

module _ (signing : Signing) (before : List ℕ) where
  abbrev own : List Trailer → List ℕ
  own trailers = trailer_signature trailers signing.signer signing.at before

  judged_given : (trailers : List Trailer) (bytes : List ℕ) (announced : Option (List ℕ)) (result : Result (List Trailer) ChunkFault)
      → IsTrailersEnd trailers (own trailers) bytes → are_announced announced trailers ≡ true → JudgesTrailers signing before announced bytes result
      → (result ≡ Ok trailers) ⊎ (result ≡ Err NoMemory)
  judged_given trailers bytes announced (Ok others) end known (inl reads, same) =
      inl (ap (λ (t : List Trailer). let r : Result (List Trailer) ChunkFault = Ok t in r) (sym (reads.only trailers (own trailers) end).0))
  judged_given trailers bytes announced (Ok others) end known (inr (lacks, reads), same) = absurd (lacks trailers (own trailers) end)
  judged_given trailers bytes announced (Err fault) end known (inl (bad, lacks, more)) = absurd (lacks trailers (own trailers) end)
  judged_given trailers bytes announced (Err fault) end known (inr (inl (others, signature, inr (lacks, reads), refuses))) = absurd (lacks trailers (own trailers) end)
  judged_given trailers bytes announced (Err fault) end known (inr (inl (others, signature, inl reads, refuses))) =
      let same = reads.only trailers (own trailers) end in
      let told : RefusesTrailers true (own others) signature fault =
      subst (λ (b : Bool). RefusesTrailers b (own others) signature fault) (ap (are_announced announced) (sym same.0) ∙ known) refuses in
      absurd (told.1 (sym same.1 ∙ ap own same.0))
  judged_given trailers bytes announced (Err fault) end known (inr (inr room)) =
      inr (ap (λ (f : ChunkFault). let r : Result (List Trailer) ChunkFault = Err f in r) room)

module _ (signer : Signer) (t : Instant) (limits : ChunkLimits) (seed : List ℕ) where
  abbrev watch : ChunkWatching
  watch = new_chunk_watch signer t limits seed

  ends_given : (before : List ℕ) (trailers : List Trailer) → AllByRecursion IsTrailer trailers → EndsGiving watch (at_end before (end_text signer t before trailers)) trailers
  ends_given before [] are = by
    where
      by : (result : Result (Unit {0}) ChunkFault) → EndsAt false (at_end before (end_text signer t before [])) result → result ≡ Ok tt
      by (Ok done) is = refl
      by (Err fault) (other, not) = absurd (not refl)
  ends_given before (trailer ∷ trailers) are = λ announced result known ends.
      let all = trailer ∷ trailers in
      let end : IsTrailersEnd all (trailer_signature all signer t before) (end_text signer t before all) =
      record { some = omega arith; are = are; signed = trailers_sealed all signer t before; text = refl } in
      judged_given watch.signing before all (end_text signer t before all) announced result end known ends

  pub hands_written : HandsWritten signer t limits seed
  unfolding signed_chunked_text
  hands_written = λ size bytes given trailers pieces to in_range within fits are same fed stop.
      let cut = cut_whole size bytes (omega (arith, in_range.0)) in
      let all = pieces_of_size size bytes in
      let last = last_signature signer t seed all in
      let end = at_end last (end_text signer t last trailers) in
      let text = signed_chunked_text signer t seed size bytes trailers in
      let walk = walk_written signer t limits seed 1 all trailers size cut.0 within in_range.1 in
      let whole : joined (all ++ [] ∷ []) ≡ bytes = joined_both all ([] ∷ []) ∙ (append-nil (joined all) ∙ cut.1) in
      let once : FedAll (rules_of watch) watch.point (text ∷ []) (joined (all ++ [] ∷ []) ++ []) end = (all ++ [] ∷ [], end, [], walk, refl, (refl, refl)) in
      let found = any_cut (rules_of watch) watch.point (text ∷ []) pieces (joined (all ++ [] ∷ []) ++ []) given end to (append-nil text ∙ sym same) once fed
      (stays signer t limits last (end_text signer t last trailers) fits) stop in
      (found.0 ∙ (append-nil (joined (all ++ [] ∷ [])) ∙ whole), subst (λ (p : ChunkPoint). EndsGiving watch p trailers) (sym found.1) (ends_given last trailers are))
