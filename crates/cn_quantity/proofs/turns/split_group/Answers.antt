use Rattle.cn_quantity.proofs.Groups.{IsGroup-at}
use Rattle.cn_quantity.proofs.turns.split_group.Goals as goal

pub returns-clause-group : goal.returns-clause-group
returns-clause-group c =
    IsGroup-at _ _ _ _ _ _ _ c.split_digits-count.ensures.count c.split_digits-count.ensures.rest
    c.in_ok-number.ensures c.after_units-rest.ensures.rest c.before_end.ensures.parts
    c.begins_with_nought.ensures
