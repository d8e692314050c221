use Rattle.std.proofs.Common.{◌≡◌, ◌==◌, ℕ, false, ◌+◌, ◌*◌, ◌^◌, ◌<◌, ◌≤◌, sym, refl, arith, rules}
use Rattle.std.proofs.lemmas.Bool.Decides.{nat_tests}
use Rattle.cn_judge.proofs.PlainDigits.{IsReading-white, IsReading-incorrect}
use Rattle.cn_judge.proofs.DigitRuns.{IsReading-run, IsReading-run-great, same_reading}
use Rattle.cn_judge.proofs.naive.judge_naive.Goals as goal

some-digits : (digits count : ℕ) → 0 < count → false ≡ (digits + count == 0)
some-digits digits count some = grind (arith, nat_tests)

pub returns-in_default-multiply_add : goal.returns-in_default-multiply_add
returns-in_default-multiply_add c =
    let run = rw c.in-Digits.is at c.in-Some.ensures.parts in
    let great : 2 ^ 128 ≤ c.reading.number * c.in-Digits.run'.weight + c.in-Digits.run'.value =
    omega (arith, c.in_default-multiply_add.ensures) in
    sym (IsReading-run-great _ _ _ _ _ _ _ _ _ _ c.reading.invariant.reading run.1
    c.reading.invariant.fits great)

pub returns-in-Wrong : goal.returns-in-Wrong
returns-in-Wrong c =
    let piece = rw c.in-Wrong.is at c.in-Some.ensures.parts in
    sym (IsReading-incorrect _ _ _ _ _ _ _ _ _ c.reading.invariant.reading piece.1 piece.2.0 refl
    piece.2.1)

pub reading-preserved-in-Some-multiply_add : goal.reading-preserved-in-Some-multiply_add
reading-preserved-in-Some-multiply_add c =
    let run = rw c.in-Digits.is at c.in-Some.ensures.parts in
    let len = rw c.in-Digits.is at c.in-Some.ensures.within in
    let sum = c.in-Some-multiply_add.ensures in
    let small : c.in-Some-multiply_add.longer < 2 ^ 128 = omega (arith, sum.0, sum.1) in
    record {
      reading = same_reading _ _ _ _ _ _ _ _ _
          (IsReading-run _ _ _ _ _ _ _ _ _ _ _ c.reading.invariant.reading run.1 run.0 sum.1 small)
          (omega arith) refl (some-digits c.reading.digits _ run.0);
      fits = small;
      within = omega (arith, c.reading.invariant.within, len.0);
      utf8 = search rules;
    }

pub reading-preserved : goal.reading-preserved
reading-preserved c =
    let piece = rw c.in-White.is at c.in-Some.ensures.parts in
    let len = rw c.in-White.is at c.in-Some.ensures.within in
    record {
      reading = same_reading _ _ _ _ _ _ _ _ _
          (IsReading-white _ _ _ _ _ _ _ _ c.reading.invariant.reading piece.1 piece.2)
          (omega arith) refl refl;
      fits = c.reading.invariant.fits;
      within = omega (arith, c.reading.invariant.within, len.0);
      utf8 = search rules;
    }
