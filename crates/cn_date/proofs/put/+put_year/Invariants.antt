use Rattle.cn_date.proofs.put.+put_year.Given as goal

abbrev pub decreases-put_year : goal.decreases-put_year
decreases-put_year l = l.year
