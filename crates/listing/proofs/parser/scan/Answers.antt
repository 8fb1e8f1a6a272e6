-- `listing::parser::scan` meets its contract, byte by byte. Assumes nothing.
use Rattle.std.proofs.Common.{◌∙◌, sym}
use Rattle.listing.proofs.Words.{continues_iff}
use Rattle.listing.proofs.Scanning.{word_ends, still_white, word_goes_on, word_fails, last_word, no_last_word}
use Rattle.listing.proofs.parser.scan.Goals as goal
use Rattle.listing.proofs.parser.scan.Goals.{then-not-is_white+in_ok-word, else-not-is_white+then-word-gt0, else-not-is_white+else-word-gt0}

pub returns-in_err-word-clause-all_after : goal.returns-in_err-word-clause-all_after
returns-in_err-word-clause-all_after c =
    rw c.from_residual.ensures (word_fails c.loop-b.invariant c.loop-b-test.true (sym c.is_white.ensures ∙ c.if-not-is_white.true) c.in_err-word.ensures)

pub loop-b-preserved : goal.loop-b-preserved
loop-b-preserved c =
    let l = c.loop-b in
    let w = c.is_white.ensures in
    elim c.if-not-is_white.branch [
      | then-not-is_white+in_ok-word v ↦
          let (k, digits, value) = v.in_ok-word.ensures in
          rw (v.all-is, v.count-is, v.word-is, digits, value)
          (word_goes_on l.invariant c.loop-b-test.true (sym w ∙ v.if-not-is_white.true) k ((continues_iff _ _ _).0 k).2)
      | else-not-is_white+then-word-gt0 v ↦
          let (digits, value) = v.default-word-then-word-gt0.ensures in
          rw (v.all-is, v.count-is, v.word-is, digits, value)
          (word_ends l.invariant c.loop-b-test.true (sym w ∙ v.if-not-is_white.false) v.if-word-gt0.true)
      | else-not-is_white+else-word-gt0 v ↦
          rw (v.all-is, v.count-is, v.word-is)
          (still_white l.invariant c.loop-b-test.true (sym w ∙ v.if-not-is_white.false) v.if-word-gt0.false)
    ]

pub returns-then-word-gt0-2-clause-all_after : goal.returns-then-word-gt0-2-clause-all_after
returns-then-word-gt0-2-clause-all_after c = last_word c.loop-b.invariant c.loop-b-test.false c.if-word-gt0-2.true

pub returns-else-word-gt0-2-clause-all_after : goal.returns-else-word-gt0-2-clause-all_after
returns-else-word-gt0-2-clause-all_after c = no_last_word c.loop-b.invariant c.loop-b-test.false c.if-word-gt0-2.false
