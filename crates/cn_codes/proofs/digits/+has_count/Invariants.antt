use Rattle.cn_codes.proofs.digits.+has_count.Given as goal

abbrev pub decreases-has_count : goal.decreases-has_count
decreases-has_count l = l.count
