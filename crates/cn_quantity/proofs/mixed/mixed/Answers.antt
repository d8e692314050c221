use Rattle.cn_quantity.proofs.MixedTexts.{mixed-by}
use Rattle.cn_quantity.proofs.mixed.mixed.Goals as goal

pub returns : goal.returns
returns c =
    mixed-by c.args.method c.args.text.now _ _ _ _ _ _ _ _ _ _ _ c.in_ok-before.ensures.parts
    c.in_ok-split_first.ensures.parts.text c.in_ok-bar.ensures.fraction c.in_ok-bar.ensures.parts
    c.judge_whole.ensures c.judge_divisor.ensures.answer c.judge_part.ensures c.mixed_of.ensures
