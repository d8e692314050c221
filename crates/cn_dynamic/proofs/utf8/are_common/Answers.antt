use Rattle.std.proofs.Common.{arith, rules}
use Rattle.cn_dynamic.proofs.Characters.{all_is_utf8, common_is_utf8, none_are_utf8, past_character, starts-with-word, three_alone}
use Rattle.cn_dynamic.proofs.utf8.are_common.Goals as goal

pub characters-preserved : goal.characters-preserved
characters-preserved c =
    let behind = c.characters.invariant in
    let is = c.if-not-is_common.false in
    let common = c.is_common.ensures in
    let word = starts-with-word _ _ _ behind.2 c.in-Some.ensures.cases c.from_le_bytes.ensures in
    past_character _ _ 3 behind (omega (arith, word.within)) (common_is_utf8 _ _ _ _ word.first word.second word.third
    (common.first is) (common.second is) (common.third is))

pub returns-then-is_empty : goal.returns-then-is_empty
returns-then-is_empty c = λ _.
    all_is_utf8 _ _ c.characters.invariant (search (rules, none_are_utf8))

pub returns-else-is_empty : goal.returns-else-is_empty
returns-else-is_empty c = λ is.
    let alone = c.is_common_alone.ensures in
    all_is_utf8 _ _ c.characters.invariant (three_alone _ (alone.long is) (alone.some is))
