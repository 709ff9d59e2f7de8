use Rattle.std.proofs.Common.{◌≡◌, ◌∙◌, rules, sym, subst, List, ℕ, length, eqb-true, arith}
use Rattle.env_config.specs.Kept.{keeps_of}
use Rattle.env_config.specs.Line.{profile_lines}
use Rattle.env_config.specs.Raw.{raw}
use Rattle.env_config.proofs.LineLemmas.{lines_over}
use Rattle.env_config.proofs.ReaderLemmas.{TextReads, line_fails, line_reads, text_ends}
use Rattle.env_config.proofs.reader.read.Goals as goal

pub returns-in-Err : goal.returns-in-Err
returns-in-Err g c profile stands =
    let keeps = keeps_of c.args.kept.now in
    let read = raw keeps c.args.text.now in
    let StandsForLines : List (List ℕ) → Type 0 = λ lines. TextReads (λ s. g.S.Sink.stands s profile) keeps c.loop-rest.number c.loop-rest.reader lines read in
    rw c.at.ensures (line_fails (λ s. g.S.Sink.stands s profile) keeps c.loop-rest.number c.loop-rest.reader c.take_line.new.self c.cut_line.result.0.now (profile_lines c.cut_line.result.1.now) read c.in-Err.fault
    (subst StandsForLines c.cut_line.ensures.lines (c.loop-rest.invariant.reads profile stands)) (λ all reads. c.in-Err.ensures profile all reads))

pub loop-rest-preserved : goal.loop-rest-preserved
loop-rest-preserved g c =
    let keeps = keeps_of c.args.kept.now in
    let read = raw keeps c.args.text.now in
    record {
      reads = λ profile stands.
          let StandsForLines : List (List ℕ) → Type 0 = λ lines. TextReads (λ s. g.S.Sink.stands s profile) keeps c.loop-rest.number c.loop-rest.reader lines read in
          line_reads (λ s. g.S.Sink.stands s profile) keeps c.loop-rest.number c.loop-rest.reader c.take_line.new.self c.cut_line.result.0.now (profile_lines c.cut_line.result.1.now) read
          (subst StandsForLines c.cut_line.ensures.lines (c.loop-rest.invariant.reads profile stands)) (λ all reads. c.in_default.ensures profile all reads);
      counted = (let counted = c.loop-rest.invariant.counted in let shorter = c.cut_line.ensures.shorter in omega (arith, counted, shorter));
      text = search rules;
    }

pub returns-in-Ok : goal.returns-in-Ok
returns-in-Ok g c profile stands =
    let keeps = keeps_of c.args.kept.now in
    let rest = c.loop-rest.rest.now in
    let none : length rest ≡ 0 = eqb-true (length rest) 0 (sym c.is_empty.ensures ∙ c.loop-rest-test.false) in
    text_ends (λ s. g.S.Sink.stands s profile) keeps c.loop-rest.number c.loop-rest.reader (profile_lines rest) (raw keeps c.args.text.now) c.in-Ok.sink (c.loop-rest.invariant.reads profile stands) (lines_over rest none)
    (λ all reads. c.in-Ok.ensures profile all reads)
