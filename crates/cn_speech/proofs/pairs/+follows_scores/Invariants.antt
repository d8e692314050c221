use Rattle.cn_speech.proofs.pairs.+follows_scores.Given as goal

abbrev pub decreases-follows_scores : goal.decreases-follows_scores
decreases-follows_scores l = l.most
