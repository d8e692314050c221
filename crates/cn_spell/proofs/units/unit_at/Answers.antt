use Rattle.std.proofs.Common.{refl}
use Rattle.cn_core.specs.declared.method.ChineseCountMethod.TheVariants.{TenThousand, Middle, High}
use Rattle.cn_core.specs.declared.unit.Unit.TheVariants.{Ge}
use Rattle.cn_spell.specs.Working.Units.{rank_at}
use Rattle.cn_spell.specs.declared.units.TheConstants as table
use Rattle.cn_spell.proofs.UnitTables.{rank-in}
use Rattle.cn_spell.proofs.units.unit_at.Goals as goal

pub returns-in-TenThousand : goal.returns-in-TenThousand
returns-in-TenThousand c = rw c.in-TenThousand.is (rank-in (rank_at TenThousand) table.TEN_THOUSAND
    c.args.power 39 Ge (rw c.in-TenThousand.is at c.requires) refl refl)

pub returns-in-Middle : goal.returns-in-Middle
returns-in-Middle c = rw c.in-Middle.is (rank-in (rank_at Middle) table.MIDDLE c.args.power 39 Ge
    (rw c.in-Middle.is at c.requires) refl refl)

pub returns-in-High : goal.returns-in-High
returns-in-High c = rw c.in-High.is (rank-in (rank_at High) table.HIGH c.args.power 39 Ge
    (rw c.in-High.is at c.requires) refl refl)
