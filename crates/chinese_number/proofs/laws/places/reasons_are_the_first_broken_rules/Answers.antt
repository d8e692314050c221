use Rattle.chinese_number.proofs.ReasonPlaces.{reason-first}
use Rattle.chinese_number.proofs.Reasons.{start-completable}
use Rattle.chinese_number.proofs.laws.places.reasons_are_the_first_broken_rules.Goals as goal

pub returns-clause-first : goal.returns-clause-first
returns-clause-first c = reason-first

pub returns-clause-start : goal.returns-clause-start
returns-clause-start c = start-completable
