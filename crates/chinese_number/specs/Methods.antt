-- What laws say about the units of a text.
use Rattle.std.specs.Prelude.{Bool, List}
use Rattle.std.specs.List.{list_all}
use Rattle.cn_core.specs.declared.unit.Unit.TheVariants.{Yi, Zhao}
use Rattle.cn_core.specs.Characters.{rank}
use Rattle.cn_core.specs.Mark.{Mark}
use Rattle.cn_core.specs.Place.{is_below}

-- each unit of the list is below 億, the unit after 萬
abbrev pub names_no_unit_above_wan : List Mark → Bool
names_no_unit_above_wan marks = list_all (is_below (rank Yi)) marks

-- each unit of the list is below 兆, the unit after 億
abbrev pub names_no_unit_above_yi : List Mark → Bool
names_no_unit_above_yi marks = list_all (is_below (rank Zhao)) marks
