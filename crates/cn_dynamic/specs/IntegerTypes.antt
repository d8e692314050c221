-- The kinds of the integer types.
use Rattle.chinese_number.specs.Whole.{Kind, unsigned_kind, signed_kind}
use Rattle.cn_dynamic.specs.declared.integer_type.IntegerType.{IntegerType}
use Rattle.cn_dynamic.specs.declared.integer_type.IntegerType.TheVariants.{U8, U16, U32, U64, U128, I8, I16, I32, I64, I128}

-- the kind of an integer type: whether it is signed, and its range
abbrev pub the_kind : IntegerType → Kind
the_kind U8 = unsigned_kind 8
the_kind U16 = unsigned_kind 16
the_kind U32 = unsigned_kind 32
the_kind U64 = unsigned_kind 64
the_kind U128 = unsigned_kind 128
the_kind I8 = signed_kind 8
the_kind I16 = signed_kind 16
the_kind I32 = signed_kind 32
the_kind I64 = signed_kind 64
the_kind I128 = signed_kind 128
