use Rattle.cn_codes.proofs.beside.+has_at_most_capitals.Given as goal

abbrev pub decreases-has_at_most_capitals : goal.decreases-has_at_most_capitals
decreases-has_at_most_capitals l = l.most
