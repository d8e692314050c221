use Rattle.std.proofs.Common.{◌≡◌, ◌++◌, encode_utf8, length, ap, arith}
use Rattle.std.proofs.lemmas.Str.{chars_past_char}
use Rattle.cn_core.proofs.Chars.{chars-from_empty}
use Rattle.cn_core.proofs.text.split_first_char.Goals as goal

pub returns-in-Some-clause-parts : goal.returns-in-Some-clause-parts
returns-in-Some-clause-parts c =
    let parts : c.args.text.now ≡ encode_utf8 c.in-Some.c ++ c.as_str.result.now =
    cc (c.in-Some.ensures.steps.0, c.chars-chars.ensures.rest) in
    chars_past_char _ _ _ c.utf8.text parts

pub returns-in-None-clause-parts : goal.returns-in-None-clause-parts
returns-in-None-clause-parts c =
    let none : length c.args.text.now ≡ 0 =
    omega (arith, ap length c.chars-chars.ensures.rest, c.in-None.ensures.steps.0) in
    chars-from_empty _ none
