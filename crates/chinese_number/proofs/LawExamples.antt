-- Of each law that has premises, values that meet all of them.
use Rattle.std.proofs.Common.{◌≡◌, ℕ, ◌+◌, ◌^◌, ◌<◌, pos, negsuc, nat_abs, IsTrue, not, List, [], ◌∷◌, ◌++◌, All, codes, encode_utf8_all, slice_index, Some, Ok, Err, false, refl, arith}
use Rattle.std.specs.Char.{encode_utf8}
use Rattle.std.specs.Fmt.{digits}
use Rattle.std.specs.Str.{chars}
use Rattle.std.proofs.lemmas.List.Elements.{All-from_recursion}
use Rattle.cn_core.specs.declared.case.ChineseCase.TheVariants.{Lower}
use Rattle.cn_core.specs.declared.method.ChineseCountMethod.TheVariants.{Low, TenThousand}
use Rattle.cn_core.specs.declared.script.ChineseVariant.TheVariants.{Traditional}
use Rattle.cn_core.specs.declared.sign.Sign.TheVariants.{Minus}
use Rattle.cn_core.specs.Characters.{digit_of, rank_of, sign_of, digit_char, unit_char, minus_char}
use Rattle.cn_core.specs.Judge.{Judges}
use Rattle.cn_core.specs.Numeral.{IsNumeral, Completable}
use Rattle.cn_core.specs.Place.{IsPlace, some_unfit}
use Rattle.cn_core.specs.Printing.{is_printable, naive_text, spelled_text}
use Rattle.cn_core.specs.Reading.{Reads, is_minus, naive_reading}
use Rattle.cn_core.specs.Refusal.{incorrect_at}
use Rattle.cn_core.specs.Text.{text_of, marks_of}
use Rattle.cn_core.specs.Value.{numeral_value}
use Rattle.cn_quantity.specs.Misread.{is_misread}
use Rattle.cn_core.specs.Whole.{holds, signed_kind, signed_number, unsigned_kind}
use Rattle.cn_core.proofs.Fronts.{IsPlace-place_of}
use Rattle.cn_core.proofs.Judging.{Judges-by_walk}
use Rattle.chinese_number.specs.Methods.{names_no_unit_above_wan, names_no_unit_above_yi}
use Rattle.chinese_number.specs.Parts.{sign_length, sign_text, unsigned_text}

-- a string by its bytes
abbrev string : List ℕ → List ℕ
string characters = encode_utf8_all characters

-- the one character of a text
abbrev character : List ℕ → ℕ
character text = slice_index text 0

-- 一萬
methods_spell_alike_below-all : 10000 < 10 ^ 5
methods_spell_alike_below-all = omega arith

-- 一億二千八百萬
methods_spell_alike_below-three : 128000000 < 10 ^ 12
methods_spell_alike_below-three = omega arith

-- 一兆零一萬億
methods_spell_alike_below-two : 10 ^ 16 + 10 ^ 12 < 10 ^ 24
methods_spell_alike_below-two = omega arith

small_units_read_alike-all : IsTrue
    (names_no_unit_above_wan
    (marks_of (unsigned_text (signed_kind 32) (string (codes "負一百二十萬")))))
unfolding chars encode_utf8 digit_of rank_of sign_of
small_units_read_alike-all = refl

small_units_read_alike-three : IsTrue
    (names_no_unit_above_yi
    (marks_of (unsigned_text (signed_kind 64) (string (codes "負一萬二千億")))))
unfolding chars encode_utf8 digit_of rank_of sign_of
small_units_read_alike-three = refl

reasons_are_the_first_broken_rules-first :
    Judges TenThousand (marks_of (codes "百百角")) (Err (incorrect_at 0))
unfolding digit_of rank_of
reasons_are_the_first_broken_rules-first =
    Judges-by_walk TenThousand (marks_of (codes "百百角")) _ refl

-- 五 after 百 in 百五
reasons_are_the_first_broken_rules-start : Completable (marks_of (codes "五"))
unfolding digit_of rank_of
reasons_are_the_first_broken_rules-start = (marks_of (codes "一百"), omega arith, refl)

-- 三 before 個億 makes a numeral
ends_can_be_completed : Completable (marks_of (codes "個億"))
unfolding digit_of rank_of
ends_can_be_completed = (marks_of (codes "三"), omega arith, refl)

refusals_name_the_last_place : Judges TenThousand (marks_of (codes "二十十")) (Err (incorrect_at 1))
unfolding digit_of rank_of
refusals_name_the_last_place = Judges-by_walk TenThousand (marks_of (codes "二十十")) _ refl

nothing_is_wrong_after_a_place : IsPlace (marks_of (codes "二十十")) 1
unfolding digit_of rank_of
nothing_is_wrong_after_a_place = IsPlace-place_of (marks_of (codes "二十十"))

naive_texts_read_back : IsTrue (holds (unsigned_kind 16) (pos 2025))
naive_texts_read_back = refl

leading_zeros_change_nothing : All (λ c. digit_of c ≡ Some 0) (codes "零〇")
    × (text_of (string (codes "負零〇一二"))
    ≡ sign_text (signed_kind 8) (string (codes "負一二")) ++ codes "零〇"
    ++ unsigned_text (signed_kind 8) (string (codes "負一二")))
    × (naive_reading (signed_kind 8) (string (codes "負一二")) ≡ Ok (negsuc 11))
unfolding chars encode_utf8 digit_of rank_of sign_of
leading_zeros_change_nothing = (
  All-from_recursion (λ c. digit_of c ≡ Some 0) (codes "零〇") (refl, (refl, tt)),
  refl,
  refl,
)

numbers_stay_numbers-units : Reads (signed_kind 128) TenThousand (string (codes "負一百二十萬"))
    (Ok (negsuc 1199999))
    × (is_misread (unsigned_text (signed_kind 128) (string (codes "負一百二十萬"))) ≡ false)
unfolding chars encode_utf8 digit_of rank_of sign_of
numbers_stay_numbers-units = ((Ok 1200000, refl, refl), refl)

numbers_stay_numbers-digits : (naive_reading (signed_kind 128) (string (codes "二零二五"))
    ≡ Ok (pos 2025))
    × (is_misread (unsigned_text (signed_kind 128) (string (codes "二零二五"))) ≡ false)
unfolding chars encode_utf8 digit_of rank_of sign_of
numbers_stay_numbers-digits = (refl, refl)

spellings_are_numerals : IsTrue (holds (unsigned_kind 8) (pos 110))
    × IsTrue (is_printable Low (pos 110))
spellings_are_numerals = (refl, refl)

spellings_read_back : IsTrue (holds (unsigned_kind 32) (pos 1280500))
    × IsTrue (is_printable TenThousand (pos 1280500))
spellings_read_back = (refl, refl)

-- 一萬億
middle_is_read_by_ten_thousand : IsTrue (holds (signed_kind 64) (pos (10 ^ 12)))
    × (nat_abs (pos (10 ^ 12)) < 10 ^ 16)
middle_is_read_by_ten_thousand = (refl, omega arith)

-- 一百二十 and 一百零二
one_text_for_each_number-units : IsTrue (holds (unsigned_kind 8) (pos 120))
    × IsTrue (holds (unsigned_kind 8) (pos 102)) × IsTrue (is_printable Low (pos 120))
    × IsTrue (is_printable Low (pos 102))
one_text_for_each_number-units = (refl, refl, refl, refl)

-- 一二零 and 負一二零
one_text_for_each_number-digits : IsTrue (holds (signed_kind 8) (pos 120))
    × IsTrue (holds (signed_kind 8) (negsuc 119))
one_text_for_each_number-digits = (refl, refl)

-- 負一 of 負一百二十
beginnings_are_read-units : IsTrue (holds (signed_kind 8) (negsuc 119))
    × IsTrue (is_printable TenThousand (negsuc 119))
    × (sign_length (signed_kind 8)
    (encode_utf8_all (spelled_text Traditional Lower TenThousand (negsuc 119))) < 2)
unfolding chars encode_utf8 digit_of rank_of sign_of digit_char unit_char minus_char
beginnings_are_read-units = (refl, refl, omega arith)

-- 負一二 of 負一二零
beginnings_are_read-digits : IsTrue (holds (signed_kind 8) (negsuc 119))
    × (sign_length (signed_kind 8)
    (encode_utf8_all (naive_text Traditional Lower (negsuc 119))) < 3)
unfolding chars encode_utf8 digits digit_of rank_of sign_of digit_char minus_char
beginnings_are_read-digits = (refl, omega arith)

unsigned_types_never_underflow-units : IsTrue (not (unsigned_kind 8).signed)
unsigned_types_never_underflow-units = refl

unsigned_types_never_underflow-digits : IsTrue (not (unsigned_kind 128).signed)
unsigned_types_never_underflow-digits = refl

a_sign_gives_the_signed_value : IsTrue (signed_kind 8).signed
    × (text_of (string (codes "負十")) ≡ character (codes "負") ∷ codes "十")
    × (sign_of (character (codes "負")) ≡ Some Minus) × IsNumeral (marks_of (codes "十"))
    × (some_unfit TenThousand (marks_of (codes "十")) ≡ false)
    × IsTrue (holds (signed_kind 8)
    (signed_number (is_minus (Some Minus)) (numeral_value TenThousand (marks_of (codes "十")))))
unfolding chars encode_utf8 digit_of rank_of sign_of
a_sign_gives_the_signed_value = (refl, refl, refl, refl, refl, refl)

minus_zero_is_zero : IsTrue (signed_kind 8).signed × (sign_of (character (codes "負")) ≡ Some Minus)
    × (digit_of (character (codes "零")) ≡ Some 0)
    × (text_of (string (codes "負零")) ≡ character (codes "負") ∷ character (codes "零") ∷ [])
unfolding chars encode_utf8 digit_of sign_of
minus_zero_is_zero = (refl, refl, refl, refl)

white_space_does_not_matter-units :
    (text_of (string (codes " 二 十 十 ")) ≡ text_of (string (codes "二十十")))
    × Reads (unsigned_kind 8) TenThousand (string (codes " 二 十 十 ")) (Err (incorrect_at 3))
    × Reads (unsigned_kind 8) TenThousand (string (codes "二十十")) (Err (incorrect_at 1))
unfolding chars encode_utf8 digit_of rank_of
white_space_does_not_matter-units = (
  refl,
  (Err (incorrect_at 1), Judges-by_walk TenThousand (marks_of (codes "二十十")) _ refl, refl),
  (Err (incorrect_at 1), Judges-by_walk TenThousand (marks_of (codes "二十十")) _ refl, refl),
)

white_space_does_not_matter-digits : text_of (string (codes " 一\u{3000}二 ")) ≡ text_of (string (codes "一二"))
unfolding chars encode_utf8
white_space_does_not_matter-digits = refl

refusals_point_at_characters-units :
    Reads (signed_kind 8) TenThousand (string (codes " 負 二 十 十 ")) (Err (incorrect_at 5))
unfolding chars encode_utf8 digit_of rank_of sign_of
refusals_point_at_characters-units = (
  Err (incorrect_at 1),
  Judges-by_walk TenThousand (marks_of (codes "二十十")) _ refl,
  refl,
)

refusals_point_at_characters-digits :
    naive_reading (signed_kind 8) (string (codes " 負 二 十 十 ")) ≡ Err (incorrect_at 5)
unfolding chars encode_utf8 digit_of rank_of sign_of
refusals_point_at_characters-digits = refl
