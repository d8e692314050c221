use Rattle.std.proofs.Common.{◌∙◌, rules}
use Rattle.cn_dynamic.proofs.Characters.{none_are_utf8, past_utf8}
use Rattle.cn_dynamic.proofs.utf8.are_utf8_at_all.Goals as goal

pub characters-preserved : goal.characters-preserved
characters-preserved c =
    let len = c.front_len-len.ensures in
    past_utf8 _ _ len.within len.some ∙ c.characters.invariant

pub returns : goal.returns
returns c = search (rules, none_are_utf8)
