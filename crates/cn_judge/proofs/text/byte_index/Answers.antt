use Rattle.std.proofs.Common.{ap, subst, ◌∙◌, ◌+◌, ◌<◌, ℕ, get_or, arith}
use Rattle.std.specs.Str.{continuation_len}
use Rattle.cn_judge.specs.Private.FirstKey.{BeginsThreeThrees}
use Rattle.cn_judge.proofs.Passing.{Passed, Passed-start, Passed-next, Passed-ascii, Passed-threes, Passed-end, Passed-by}
use Rattle.cn_judge.proofs.text.byte_index.Goals.{then-left-ge16, else-left-ge16}
use Rattle.cn_judge.proofs.text.byte_index.Goals as goal

pub words-init : goal.words-init
words-init c = elim c.if-left-ge16.branch [
  | then-left-ge16 w ↦
      let chunks = w.pass_chunks-place.ensures in
      let few = chunks.passed.counted in
      record {
        passed = Passed-by _ _ _ _ _ _ _ c.as_bytes-bytes.ensures.value c.utf8.text chunks.passed chunks.begins
            w.passed-is (omega (arith, few, w.left-is));
        few = omega (arith, few, w.left-is);
      }
  | else-left-ge16 w ↦ record {
    passed = Passed-start _ _ _ c.utf8.text (omega (arith, w.left-is)) w.passed-is;
    few = omega (arith, w.left-is);
  }
]

pub words-preserved-then-three_threes_at : goal.words-preserved-then-three_threes_at
words-preserved-then-three_threes_at c = record {
  passed = subst (λ n. Passed c.args.text.now n (c.words.passed + 9)) (omega (arith, c.if-left-ge3.true, c.words.invariant.few))
      (Passed-threes _ _ _ c.words.invariant.passed
      (subst (λ l. BeginsThreeThrees l c.words.passed) c.as_bytes-bytes.ensures.value
      (c.three_threes_at.ensures c.if-three_threes_at.true)));
  few = omega (arith, c.words.invariant.few);
}

pub words-preserved : goal.words-preserved
words-preserved c = record {
  passed =
      let ascii = c.eight_ascii_at.ensures in
      let same = c.as_bytes-bytes.ensures.value in
      subst (λ n. Passed c.args.text.now n (c.words.passed + 8)) (omega (arith, c.if-left-ge8.true, c.words.invariant.few))
      (Passed-ascii _ _ _ 8 c.words.invariant.passed
      (omega (arith, ascii.within c.if-eight_ascii_at.true, c.as_bytes-bytes.ensures.len))
      (subst (λ l. (k : ℕ) → k < 8 → get_or l (c.words.passed + k) 0 < 128) same
      (ascii.ascii c.if-eight_ascii_at.true)));
  few = omega (arith, c.words.invariant.few);
}

pub passing-preserved : goal.passing-preserved
passing-preserved c = record {
  passed = subst (λ n. Passed c.args.text.now n (c.passing.passed + c.char_len-passed.result))
      (omega (arith, c.passing-test.true, c.passing.invariant.few))
      (Passed-next _ _ _ _ c.passing.invariant.passed
      (omega (arith, c.if-passed-bytes.false, c.as_bytes-bytes.ensures.len))
      (c.char_len-passed.ensures
      ∙ ap (λ l. continuation_len (get_or l c.passing.passed 0) + 1) c.as_bytes-bytes.ensures.value));
  few = omega (arith, c.passing.invariant.few);
}

pub returns-then-passed-bytes : goal.returns-then-passed-bytes
returns-then-passed-bytes c =
    Passed-end _ _ _ _ c.passing.invariant.passed c.utf8.text
    (omega (arith, c.if-passed-bytes.true, c.as_bytes-bytes.ensures.len))
    (omega (arith, c.passing.invariant.few))
