use Rattle.cn_codes.proofs.digits.+has_at_most.Given as goal

abbrev pub decreases-has_at_most : goal.decreases-has_at_most
decreases-has_at_most l = l.most
