use Rattle.std.proofs.Common.{◌≡◌, ◌++◌, encode_utf8, length, ap, arith}
use Rattle.cn_core.proofs.Chars.{chars-from_empty}
use Rattle.cn_judge.proofs.Walking.{chars-back}
use Rattle.cn_judge.proofs.text.split_last_char.Goals as goal

pub returns-in-Some-clause-parts : goal.returns-in-Some-clause-parts
returns-in-Some-clause-parts c =
    let parts : c.args.text.now ≡ c.as_str.result.now ++ encode_utf8 c.in-Some.c =
    cc (c.in-Some.ensures.steps, c.chars-chars.ensures.rest) in
    chars-back _ _ _ c.utf8.text c.as_str.utf8 parts

pub returns-in-None-clause-parts : goal.returns-in-None-clause-parts
returns-in-None-clause-parts c =
    let none : length c.args.text.now ≡ 0 =
    omega (arith, ap length c.chars-chars.ensures.rest, c.in-None.ensures.steps.0) in
    chars-from_empty _ none
