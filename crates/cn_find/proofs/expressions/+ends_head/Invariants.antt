use Rattle.cn_find.proofs.expressions.+ends_head.Given as goal

-- proposed from what the function passes where it calls itself
abbrev pub decreases-ends_head : goal.decreases-ends_head
decreases-ends_head l = l.most
