use Rattle.std.proofs.Common.{ap, subst, ◌∙◌, ◌+◌, ◌<◌, ℕ, get_or, arith}
use Rattle.std.specs.Str.{continuation_len}
use Rattle.cn_judge.proofs.Passing.{Passed-start, Passed-next, Passed-ascii, Passed-threes, Passed-all, Passed-by}
use Rattle.cn_judge.specs.Private.FirstKey.{BeginsThreeThrees}
use Rattle.cn_judge.proofs.text.count_chars.Goals.{then-bytes-ge32, else-bytes-ge32}
use Rattle.cn_judge.proofs.text.count_chars.Goals as goal

pub words-init : goal.words-init
words-init c = elim c.if-bytes-ge32.branch [
  | then-bytes-ge32 w ↦ record {
    passed =
        let chunks = w.pass_chunks-place.ensures in
        Passed-by _ _ _ _ _ _ _ c.as_bytes-bytes.ensures.value c.utf8.text chunks.passed chunks.begins w.passed-is
        w.count-is;
  }
  | else-bytes-ge32 w ↦ record { passed = Passed-start _ _ _ c.utf8.text w.count-is w.passed-is }
]

pub words-preserved-then-three_threes_at : goal.words-preserved-then-three_threes_at
words-preserved-then-three_threes_at c = record {
  passed = Passed-threes _ _ _ c.words.invariant.passed
      (subst (λ l. BeginsThreeThrees l c.words.passed) c.as_bytes-bytes.ensures.value
      (c.three_threes_at.ensures c.if-three_threes_at.true));
}

pub words-preserved : goal.words-preserved
words-preserved c = record {
  passed =
      let ascii = c.eight_ascii_at.ensures in
      let same = c.as_bytes-bytes.ensures.value in
      Passed-ascii _ _ _ 8 c.words.invariant.passed
      (omega (arith, ascii.within c.if-eight_ascii_at.true, c.as_bytes-bytes.ensures.len))
      (subst (λ l. (k : ℕ) → k < 8 → get_or l (c.words.passed + k) 0 < 128) same
      (ascii.ascii c.if-eight_ascii_at.true));
}

pub counting-preserved : goal.counting-preserved
counting-preserved c = record {
  passed = Passed-next _ _ _ _ c.counting.invariant.passed
      (omega (arith, c.counting-test.true, c.as_bytes-bytes.ensures.len))
      (c.char_len-passed.ensures
      ∙ ap (λ l. continuation_len (get_or l c.counting.passed 0) + 1) c.as_bytes-bytes.ensures.value);
}

pub returns-clause-count : goal.returns-clause-count
returns-clause-count c =
    Passed-all _ _ _ c.counting.invariant.passed
    (omega (arith, c.counting-test.false, c.as_bytes-bytes.ensures.len))
