-- A body that is written chunk by chunk.
use Rattle.std.proofs.Common.{◌≡◌, ◌⊎◌, ◌<◌, ◌≤◌, ◌+◌, ℕ, Bool, true, false, inl, inr, List, [], ◌∷◌, ◌++◌, length, map, take, drop, Option, Some, None, Ok, Err, refl, sym, ap, subst, ◌∙◌, append_assoc, append-nil, length-append, arith}
use Rattle.std.proofs.lemmas.Bool.{cases_lt}
use Rattle.std.proofs.lemmas.List.{drop_all, take_all}
use Rattle.std.proofs.Math.Seq.{drop-append_seam, take-append_seam}
use Rattle.std.specs.List.{flat_map}
use Rattle.std.specs.Prelude.{IfErr, IsErrAnd, OnErr, OnOk, Result}
use Rattle.smithy_core.specs.Moment.{Instant}
use Rattle.smithy_core.specs.Outside.{Gains, GainsProperPrefix, IsAllOf, IsAtEnd, IsCutOf}
use Rattle.smithy_core.proofs.CutLemmas.{cut_at_end, cut_at_start}
use Rattle.smithy_core.proofs.GainLemmas.{gains_at_start, gains_front, gains_join, gains_nothing, gains_twice}
use Rattle.eventstream.specs.Key.{Signer}
use Rattle.sigv4.specs.ChunkTold.{ChunkTold, signs_over}
use Rattle.aws_chunked.specs.Body.{Trailer}
use Rattle.aws_chunked.specs.Due.{signed_chunked_text, signed_chunks}
use Rattle.aws_chunked.specs.Text.{chunk, chunk_text, chunked_text, crlf, head_text, last_line, parts_text, pieces_of_size, tail, tail_text, trailer_line}
use Rattle.aws_chunked.proofs.CutLemmas.{cut_first, cut_none}
use Rattle.awsign_run.specs.declared.status.Status.TheVariants.{DataFault, NoMemory}
use Rattle.awsign_words.specs.declared.words.Checksum.{Checksum}
use Rattle.awsign_chunk.specs.Sending.{CutsShort, HasWrittenPiece, HasCome, HasSentAll, IsCutShort, IsReadStatus, IsWriteStatus, MayFollow, SendsBody, SendsData, WritesPiece, behind, last_mark, mark_of, text_from}
use Rattle.awsign_chunk.specs.Sent.{checksum_trailers}
use Rattle.awsign_chunk.specs.Sum.{HoldsSum}
use Rattle.awsign_chunk.specs.declared.status.ChunkStatus.{ChunkStatus}
use Rattle.awsign_chunk.specs.declared.status.ChunkStatus.TheVariants.{DataChanged, Ended, FileFault}
use Rattle.awsign_chunk.specs.declared.sum.RunningSum.{RunningSum}

-- ## Fronts of texts

-- nothing is a proper front of what has some bytes
proper_nothing : (held : Option (List ℕ)) (text : List ℕ) → 0 < length text → GainsProperPrefix held held text
proper_nothing held text some = (text, some, gains_at_start held text)

-- a front with some bytes behind it
proper_front : (held now : Option (List ℕ)) (front rest : List ℕ) → 0 < length rest → Gains held now front → GainsProperPrefix held now (front ++ rest)
proper_front held now front rest some gained = (rest, some, gains_front held now front rest gained)

-- a proper front of a front
pub proper_within : (held now : Option (List ℕ)) (front rest : List ℕ) → GainsProperPrefix held now front → GainsProperPrefix held now (front ++ rest)
proper_within held now front rest part = (
  part.0 ++ rest,
  omega (arith, part.1, length-append part.0 rest),
  record { front = part.2.front; gained = part.2.gained; whole = ap (λ (x : List ℕ). x ++ rest) part.2.whole ∙ append_assoc part.2.front part.0 rest },
)

-- a proper front of what stands behind a text that was gained
proper_behind : (held mid now : Option (List ℕ)) (front rest : List ℕ) → Gains held mid front → GainsProperPrefix mid now rest → GainsProperPrefix held now (front ++ rest)
proper_behind held mid now front rest gained part = (part.0, part.1, gains_join held mid now part.0 rest (front ++ rest) (gains_front held mid front rest gained) part.2)

-- ## Cuts of data

-- a piece of the data
cut_piece : (size : ℕ) (piece rest : List ℕ) → 0 < size → 0 < length piece → length piece ≤ size → MayFollow size piece rest
    → pieces_of_size size (piece ++ rest) ≡ piece ∷ pieces_of_size size rest
cut_piece size piece rest some full within (inl whole) =
    let front : take size (piece ++ rest) ≡ piece = subst (λ (k : ℕ). take k (piece ++ rest) ≡ piece) whole (take-append_seam piece rest) in
    let back : drop size (piece ++ rest) ≡ rest = subst (λ (k : ℕ). drop k (piece ++ rest) ≡ rest) whole (drop-append_seam piece rest) in
    cut_first size (piece ++ rest) some (omega (arith, full, length-append piece rest))
    ∙ ap (λ (x : List ℕ). x ∷ pieces_of_size size (drop size (piece ++ rest))) front ∙ ap (λ (x : List ℕ). piece ∷ pieces_of_size size x) back
cut_piece size piece rest some full within (inr none) =
    let all : piece ++ rest ≡ piece = ap (λ (x : List ℕ). piece ++ x) none ∙ append-nil piece in
    ap (pieces_of_size size) all ∙ cut_first size piece some full
    ∙ ap (λ (x : List ℕ). x ∷ pieces_of_size size (drop size piece)) (take_all size piece within)
    ∙ ap (λ (x : List ℕ). piece ∷ pieces_of_size size x) (drop_all size piece within ∙ sym none)

-- one read after another
cut_join : (before mid now : Option (List ℕ)) (read piece : List ℕ) → IsCutOf before read mid → IsCutOf mid piece now → IsCutOf before (read ++ piece) now
cut_join None mid now read piece first second = let later : IsCutOf None piece now = rw first at second in later
cut_join (Some all) mid now read piece first second =
    let later : IsCutOf (Some first.0) piece now = rw first.1 at second in
    (later.0, later.1, first.2 ∙ ap (λ (x : List ℕ). read ++ x) later.2 ∙ sym (append_assoc read piece later.0))

-- the data that is left
pub rest_behind : (before now : Option (List ℕ)) (read : List ℕ) → IsCutOf before read now → (rest : List ℕ) × IsAllOf before (read ++ rest)
rest_behind None now read cut = ([], tt)
rest_behind (Some all) now read cut = (cut.0, sym cut.2)

-- the data that is left behind a piece that is whole, or the last
rest_may_follow : (size : ℕ) (before now : Option (List ℕ)) (read piece : List ℕ) → IsCutOf before read now → (length piece ≡ size) ⊎ IsAtEnd now
    → (rest : List ℕ) × IsAllOf before (read ++ rest) × MayFollow size piece rest
rest_may_follow size before now read piece cut (inl whole) = let rest = rest_behind before now read cut in (rest.0, rest.1, inl whole)
rest_may_follow size None now read piece cut (inr ended) = ([], tt, inr refl)
rest_may_follow size (Some all) None read piece cut (inr ended) = absurd (let no : ◌≡◌ {A = Option (List ℕ)} None (Some cut.0) = cut.1 in cc)
rest_may_follow size (Some all) (Some bytes) read piece cut (inr ended) =
    let none : cut.0 ≡ [] = (let same : ◌≡◌ {A = Option (List ℕ)} (Some bytes) (Some cut.0) = cut.1 in cc) in
    (cut.0, sym cut.2, inr none)

-- a piece is whole, or the last
pub whole_or_last : (size n : ℕ) (now : Option (List ℕ)) → n ≤ size → (n < size → IsAtEnd now) → (n ≡ size) ⊎ IsAtEnd now
whole_or_last size n now within ended = elim (cases_lt n size) [ inl less ↦ inr (ended less) | inr more ↦ inl (omega arith) ]

-- ## Texts

-- a text that ends with the end of a line has some bytes
ends_some : (front : List ℕ) → 0 < length (front ++ crlf)
ends_some front = let long : length (front ++ crlf) ≡ length front + 2 = length-append front crlf in omega arith

chunk_some : (signature : Option (List ℕ)) (piece more : List ℕ) → 0 < length (chunk_text signature piece ++ more)
unfolding chunk_text
chunk_some signature piece more =
    let some : 0 < length (head_text (length piece) signature ++ piece ++ crlf) = ends_some (head_text (length piece) signature ++ piece) in
    omega (arith, some, length-append (head_text (length piece) signature ++ piece ++ crlf) more)

tail_some : (signature : Option (List ℕ)) (trailers : List Trailer) (last : Option (List ℕ)) → 0 < length (tail_text signature trailers last)
unfolding tail_text
tail_some signature trailers last = ends_some (head_text 0 signature ++ flat_map trailer_line trailers ++ last_line last)

signed_some : (who : Signer) (t : Instant) (before : List ℕ) (pieces : List (List ℕ)) (trailers : List Trailer)
    → 0 < length (signed_chunks who t before (map chunk pieces ++ tail trailers ∷ []))
unfolding signed_chunks
signed_some who t before [] trailers = tail_some _ trailers _
signed_some who t before (piece ∷ pieces) trailers = chunk_some _ piece _

unsigned_some : (pieces : List (List ℕ)) (trailers : List Trailer) → 0 < length (parts_text (map chunk pieces ++ tail trailers ∷ []))
unsigned_some [] trailers =
    subst (λ (x : List ℕ). 0 < length x) (sym (append-nil (tail_text None trailers None))) (tail_some None trailers None)
unsigned_some (piece ∷ pieces) trailers = chunk_some None piece _

-- a text has some bytes, whatever is still to come
text_some : (is_signed : Bool) (who : Signer) (t : Instant) (size : ℕ) (before bytes : List ℕ) (trailers : List Trailer)
    → 0 < length (text_from is_signed who t size before bytes trailers)
unfolding signed_chunked_text chunked_text
text_some true who t size before bytes trailers = signed_some who t before (pieces_of_size size bytes) trailers
text_some false who t size before bytes trailers = unsigned_some (pieces_of_size size bytes) trailers

-- a chunk, and then the text from its signature on
chunk_first : (is_signed : Bool) (who : Signer) (t : Instant) (size : ℕ) (before piece rest : List ℕ) (trailers : List Trailer)
    → 0 < size → 0 < length piece → length piece ≤ size → MayFollow size piece rest
    → text_from is_signed who t size before (piece ++ rest) trailers
    ≡ chunk_text (mark_of is_signed piece who t before) piece ++ text_from is_signed who t size (behind is_signed piece who t before) rest trailers
unfolding signed_chunked_text signed_chunks chunked_text
chunk_first true who t size before piece rest trailers some full within may =
    ap (λ (pieces : List (List ℕ)). signed_chunks who t before (map chunk pieces ++ tail trailers ∷ [])) (cut_piece size piece rest some full within may)
chunk_first false who t size before piece rest trailers some full within may =
    ap (λ (pieces : List (List ℕ)). parts_text (map chunk pieces ++ tail trailers ∷ [])) (cut_piece size piece rest some full within may)

-- the end
pub end_alone : (is_signed : Bool) (who : Signer) (t : Instant) (size : ℕ) (before : List ℕ) (trailers : List Trailer)
    → text_from is_signed who t size before [] trailers
    ≡ tail_text (mark_of is_signed [] who t before) trailers (last_mark is_signed who t (behind is_signed [] who t before) trailers)
unfolding signed_chunked_text signed_chunks chunked_text
end_alone true who t size before trailers =
    ap (λ (pieces : List (List ℕ)). signed_chunks who t before (map chunk pieces ++ tail trailers ∷ [])) (cut_none size)
end_alone false who t size before trailers =
    ap (λ (pieces : List (List ℕ)). parts_text (map chunk pieces ++ tail trailers ∷ [])) (cut_none size) ∙ append-nil (tail_text None trailers None)

module _ (is_signed : Bool) (who : Signer) (t : Instant) (size : ℕ) where
  -- a chunk was written
  piece_goes_on : (before piece text : List ℕ) (told : ChunkTold) (held now : Option (List ℕ)) → 0 < size → 0 < length piece → length piece ≤ size
      → text ≡ chunk_text (mark_of is_signed piece who t before) piece → told ≡ signs_over (behind is_signed piece who t before) who t → Gains held now text
      → HasWrittenPiece is_signed who t size before piece told held now
  piece_goes_on before piece text told held now some full within is over gained = record {
    after = behind is_signed piece who t before;
    text = chunk_text (mark_of is_signed piece who t before) piece;
    signer = over;
    gained = subst (Gains held now) is gained;
    whole = λ rest trailers may. chunk_first is_signed who t size before piece rest trailers some full within may;
  }

  -- nothing was written
  nothing_written : (before bytes : List ℕ) (trailers : List Trailer) (held : Option (List ℕ))
      → GainsProperPrefix held held (text_from is_signed who t size before bytes trailers)
  nothing_written before bytes trailers held = proper_nothing held _ (text_some is_signed who t size before bytes trailers)

  -- a part of a chunk was written
  chunk_part : (before piece text rest : List ℕ) (trailers : List Trailer) (held now : Option (List ℕ)) → 0 < size → 0 < length piece → length piece ≤ size
      → text ≡ chunk_text (mark_of is_signed piece who t before) piece → MayFollow size piece rest → GainsProperPrefix held now text
      → GainsProperPrefix held now (text_from is_signed who t size before (piece ++ rest) trailers)
  chunk_part before piece text rest trailers held now some full within is may part =
      rw (chunk_first is_signed who t size before piece rest trailers some full within may)
      (proper_within held now (chunk_text (mark_of is_signed piece who t before) piece) _ (subst (GainsProperPrefix held now) is part))

  -- memory ran out before a piece was written
  pub piece_unwritten : (before piece : List ℕ) (told : ChunkTold) (held : Option (List ℕ)) (result : Result (Unit {0}) ChunkStatus)
      → IsErrAnd result (λ status. status ≡ Ended NoMemory) → WritesPiece is_signed who t size before piece told held held result
  piece_unwritten before piece told held (Ok done) is = absurd is
  piece_unwritten before piece told held (Err status) is =
      (subst IsWriteStatus (sym is) tt, λ rest trailers may. nothing_written before (piece ++ rest) trailers held)

  -- a piece was written, or a part of it
  pub piece_written : (before piece text : List ℕ) (told : ChunkTold) (held now : Option (List ℕ)) (result : Result (Unit {0}) ChunkStatus)
      → 0 < size → 0 < length piece → length piece ≤ size
      → text ≡ chunk_text (mark_of is_signed piece who t before) piece → told ≡ signs_over (behind is_signed piece who t before) who t
      → OnOk result (Gains held now text) → OnErr result (GainsProperPrefix held now text) → IfErr result IsWriteStatus
      → WritesPiece is_signed who t size before piece told held now result
  piece_written before piece text told held now (Ok done) some full within is over gained part why =
      piece_goes_on before piece text told held now some full within is over gained
  piece_written before piece text told held now (Err status) some full within is over gained part why =
      (why, λ rest trailers may. chunk_part before piece text rest trailers held now some full within is may part)

  module _ (n : ℕ) (checksum : Option Checksum) (first : List ℕ) where
    -- before any data
    pub come_at_start : (left : Option (List ℕ)) (told : ChunkTold) (sum : RunningSum) (held : Option (List ℕ)) → told ≡ signs_over first who t → HoldsSum sum checksum []
        → HasCome is_signed who t size n checksum first left left true n told sum held held
    come_at_start left told sum held over holds = record {
      bytes = [];
      cut = cut_at_start left;
      ended = λ no. absurd (let never : ◌≡◌ {A = Bool} true false = no in cc);
      count = omega arith;
      holds = holds;
      last = first;
      signer = over;
      text = [];
      gained = gains_nothing held;
      whole = λ rest trailers may. refl;
    }

    module _ (before mid : Option (List ℕ)) (to_come : ℕ) (told : ChunkTold) (sum : RunningSum) (held so_far : Option (List ℕ))
        (come : HasCome is_signed who t size n checksum first before mid true to_come told sum held so_far) where
      -- a piece more
      pub come_on : (left : Option (List ℕ)) (piece : List ℕ) (more : Bool) (to_come_now : ℕ) (told_now : ChunkTold) (sum_now : RunningSum) (now : Option (List ℕ))
          → IsCutOf mid piece left → (more ≡ true → length piece ≡ size) → (more ≡ false → IsAtEnd left) → to_come_now + length piece ≡ to_come
          → ((taken : List ℕ) → HoldsSum sum checksum taken → HoldsSum sum_now checksum (taken ++ piece))
          → ((from : List ℕ) → told ≡ signs_over from who t → HasWrittenPiece is_signed who t size from piece told_now so_far now)
          → HasCome is_signed who t size n checksum first before left more to_come_now told_now sum_now held now
      come_on left piece more to_come_now told_now sum_now now cut whole ended count holds goes =
          let on = goes come.last come.signer in
          record {
            bytes = come.bytes ++ piece;
            cut = cut_join before mid left come.bytes piece come.cut cut;
            ended = ended;
            count = omega (arith, count, come.count, length-append come.bytes piece);
            holds = holds come.bytes come.holds;
            last = on.after;
            signer = on.signer;
            text = come.text ++ on.text;
            gained = gains_twice held so_far now come.text on.text come.gained on.gained;
            whole = λ rest trailers may.
                ap (λ (x : List ℕ). text_from is_signed who t size first x trailers) (append_assoc come.bytes piece rest)
                ∙ come.whole (piece ++ rest) trailers (inl refl)
                ∙ ap (λ (x : List ℕ). come.text ++ x) (on.whole rest trailers (follows rest may))
                ∙ sym (append_assoc come.text on.text (text_from is_signed who t size on.after rest trailers));
          }
        where
          follows : (rest : List ℕ) → (more ≡ true) ⊎ (rest ≡ []) → MayFollow size piece rest
          follows rest (inl is) = inl (whole is)
          follows rest (inr none) = inr none

      -- no more could be read
      pub cut_reading : (status : ChunkStatus) → IsReadStatus status → IsCutShort is_signed who t size n checksum first before held so_far status
      cut_reading status why =
          let rest = rest_behind before mid come.bytes come.cut in
          record {
            bytes = come.bytes ++ rest.0;
            all = rest.1;
            why = reads status why;
            part = λ trailers.
                rw (come.whole rest.0 trailers (inl refl))
                (proper_front held so_far come.text _ (text_some is_signed who t size come.last rest.0 trailers) come.gained);
          }
        where
          reads : (status : ChunkStatus) → IsReadStatus status → CutsShort n (come.bytes ++ (rest_behind before mid come.bytes come.cut).0) status
          reads (Ended DataFault) why = tt
          reads (Ended NoMemory) why = tt
          reads status why = absurd why

      -- there is more data than was announced
      pub cut_too_long : (left : Option (List ℕ)) (piece : List ℕ) → IsCutOf mid piece left → to_come < length piece
          → IsCutShort is_signed who t size n checksum first before held so_far DataChanged
      cut_too_long left piece cut long =
          let rest = rest_behind before left (come.bytes ++ piece) (cut_join before mid left come.bytes piece come.cut cut) in
          record {
            bytes = (come.bytes ++ piece) ++ rest.0;
            all = rest.1;
            why = λ same.
                absurd (omega (arith, same, long, come.count, length-append (come.bytes ++ piece) rest.0, length-append come.bytes piece));
            part = λ trailers.
                rw (append_assoc come.bytes piece rest.0, come.whole (piece ++ rest.0) trailers (inl refl))
                (proper_front held so_far come.text _ (text_some is_signed who t size come.last (piece ++ rest.0) trailers) come.gained);
          }

      -- a piece of it couldn't be written
      pub cut_writing : (left : Option (List ℕ)) (piece : List ℕ) (now : Option (List ℕ)) (status : ChunkStatus) → IsCutOf mid piece left
          → (length piece ≡ size) ⊎ IsAtEnd left → IsWriteStatus status
          → ((from : List ℕ) → told ≡ signs_over from who t → (rest : List ℕ) (trailers : List Trailer) → MayFollow size piece rest
          → GainsProperPrefix so_far now (text_from is_signed who t size from (piece ++ rest) trailers))
          → IsCutShort is_signed who t size n checksum first before held now status
      cut_writing left piece now status cut last why part =
          let rest = rest_may_follow size before left (come.bytes ++ piece) piece (cut_join before mid left come.bytes piece come.cut cut) last in
          record {
            bytes = (come.bytes ++ piece) ++ rest.0;
            all = rest.1;
            why = writes status why ((come.bytes ++ piece) ++ rest.0);
            part = λ trailers.
                rw (append_assoc come.bytes piece rest.0, come.whole (piece ++ rest.0) trailers (inl refl))
                (proper_behind held so_far now come.text _ come.gained (part come.last come.signer rest.0 trailers rest.2));
          }
        where
          writes : (status : ChunkStatus) → IsWriteStatus status → (bytes : List ℕ) → CutsShort n bytes status
          writes FileFault why bytes = tt
          writes (Ended NoMemory) why bytes = tt
          writes status why bytes = absurd why

    module _ (before left : Option (List ℕ)) (to_come : ℕ) (told : ChunkTold) (sum : RunningSum) (held now : Option (List ℕ))
        (come : HasCome is_signed who t size n checksum first before left false to_come told sum held now) where
      all_read : IsAllOf before come.bytes
      all_read = cut_at_end before come.bytes left come.cut (come.ended refl)

      all_written : (trailers : List Trailer) → text_from is_signed who t size first come.bytes trailers ≡ come.text ++ text_from is_signed who t size come.last [] trailers
      all_written trailers =
          ap (λ (x : List ℕ). text_from is_signed who t size first x trailers) (sym (append-nil come.bytes)) ∙ come.whole [] trailers (inr refl)

      -- all data was written
      pub come_to_end : to_come ≡ 0 → HasSentAll is_signed who t size n checksum first before told sum held now
      come_to_end none = record {
        bytes = come.bytes;
        all = all_read;
        long = omega (arith, none, come.count);
        holds = come.holds;
        last = come.last;
        signer = come.signer;
        text = come.text;
        gained = come.gained;
        whole = all_written;
      }

      -- there is less data than was announced
      pub cut_too_short : 0 < to_come → IsCutShort is_signed who t size n checksum first before held now DataChanged
      cut_too_short some = record {
        bytes = come.bytes;
        all = all_read;
        why = λ same. absurd (omega (arith, same, some, come.count));
        part = λ trailers.
            rw (all_written trailers) (proper_front held now come.text _ (text_some is_signed who t size come.last [] trailers) come.gained);
      }

    -- the data was cut short for this reason
    pub data_cut : (before held now : Option (List ℕ)) (told : ChunkTold) (sum : RunningSum) (status : ChunkStatus) (result : Result (Unit {0}) ChunkStatus)
        → IsErrAnd result (λ answer. answer ≡ status) → IsCutShort is_signed who t size n checksum first before held now status
        → SendsData is_signed who t size n checksum first before told sum held now result
    data_cut before held now told sum status (Ok done) is cut = absurd is
    data_cut before held now told sum status (Err answer) is cut = subst (IsCutShort is_signed who t size n checksum first before held now) (sym is) cut

    module _ (trailers : List Trailer) (before : Option (List ℕ)) (held : Option (List ℕ)) where
      -- the body was cut short for this reason
      pub body_answered : (now : Option (List ℕ)) (status : ChunkStatus) (result : Result (Unit {0}) ChunkStatus) → IsErrAnd result (λ answer. answer ≡ status)
          → SendsBody is_signed who t size n checksum first trailers before held now (Err status)
          → SendsBody is_signed who t size n checksum first trailers before held now result
      body_answered now status (Ok done) is sends = absurd is
      body_answered now status (Err answer) is sends =
          subst (λ (why : ChunkStatus). SendsBody is_signed who t size n checksum first trailers before held now (Err why)) (sym is) sends

      -- the data was cut short
      pub body_cut : (now : Option (List ℕ)) (status : ChunkStatus) → IsCutShort is_signed who t size n checksum first before held now status
          → SendsBody is_signed who t size n checksum first trailers before held now (Err status)
      body_cut now status cut = (cut.bytes, cut.all, (cut.why, cut.part (trailers ++ checksum_trailers checksum cut.bytes)))

      module _ (told : ChunkTold) (sum : RunningSum) (mid : Option (List ℕ)) (sent : HasSentAll is_signed who t size n checksum first before told sum held mid) where
        ends : List ℕ
        ends = text_from is_signed who t size sent.last [] (trailers ++ checksum_trailers checksum sent.bytes)

        -- the end was written
        body_whole : (now : Option (List ℕ)) (text : List ℕ)
            → ((from : List ℕ) (bytes : List ℕ) → told ≡ signs_over from who t → HoldsSum sum checksum bytes
            → text ≡ text_from is_signed who t size from [] (trailers ++ checksum_trailers checksum bytes)) → Gains mid now text
            → SendsBody is_signed who t size n checksum first trailers before held now (Ok tt)
        body_whole now text is gained = (
          sent.bytes,
          sent.all,
          (
            sent.long,
            rw (sent.whole (trailers ++ checksum_trailers checksum sent.bytes))
                (gains_twice held mid now sent.text _ sent.gained (subst (Gains mid now) (is sent.last sent.bytes sent.signer sent.holds) gained)),
          ),
        )

        -- a part of the end was written
        body_part : (now : Option (List ℕ)) (status : ChunkStatus) (text : List ℕ) → IsWriteStatus status
            → ((from : List ℕ) (bytes : List ℕ) → told ≡ signs_over from who t → HoldsSum sum checksum bytes
            → text ≡ text_from is_signed who t size from [] (trailers ++ checksum_trailers checksum bytes)) → GainsProperPrefix mid now text
            → SendsBody is_signed who t size n checksum first trailers before held now (Err status)
        body_part now status text why is part = (
          sent.bytes,
          sent.all,
          (
            writes status why,
            rw (sent.whole (trailers ++ checksum_trailers checksum sent.bytes))
                (proper_behind held mid now sent.text _ sent.gained (subst (GainsProperPrefix mid now) (is sent.last sent.bytes sent.signer sent.holds) part)),
          ),
        )
          where
            writes : (status : ChunkStatus) → IsWriteStatus status → CutsShort n sent.bytes status
            writes FileFault why = tt
            writes (Ended NoMemory) why = tt
            writes status why = absurd why

        -- the end was written, or a part of it
        pub body_ended : (now : Option (List ℕ)) (text : List ℕ) (result : Result (Unit {0}) ChunkStatus)
            → ((from : List ℕ) (bytes : List ℕ) → told ≡ signs_over from who t → HoldsSum sum checksum bytes
            → text ≡ text_from is_signed who t size from [] (trailers ++ checksum_trailers checksum bytes))
            → OnOk result (Gains mid now text) → OnErr result (GainsProperPrefix mid now text) → IfErr result IsWriteStatus
            → SendsBody is_signed who t size n checksum first trailers before held now result
        body_ended now text (Ok done) is gained part why = body_whole now text is gained
        body_ended now text (Err status) is gained part why = body_part now status text why is part

        -- memory ran out before the end was written
        pub body_unended : SendsBody is_signed who t size n checksum first trailers before held mid (Err (Ended NoMemory))
        body_unended = (
          sent.bytes,
          sent.all,
          (
            tt,
            rw (sent.whole (trailers ++ checksum_trailers checksum sent.bytes))
                (proper_front held mid sent.text _ (text_some is_signed who t size sent.last [] (trailers ++ checksum_trailers checksum sent.bytes)) sent.gained),
          ),
        )
