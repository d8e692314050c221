use Rattle.cn_codes.proofs.digits.+has_at_least.Given as goal

abbrev pub decreases-has_at_least : goal.decreases-has_at_least
decreases-has_at_least l = l.least
