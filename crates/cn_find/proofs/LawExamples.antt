-- For each law with premises, values that meet all of them.
use Rattle.std.proofs.Common.{◌≡◌, ◌≢◌, ℕ, ◌<◌, pos, List, [], ◌∷◌, ◌++◌, drop, length, inl, true, false, not, Some, None, Ok, Err, codes, encode_utf8_all, refl, arith, ◌&&◌}
use Rattle.std.specs.Prelude.{IsTrue}
use Rattle.std.specs.Char.{encode_utf8}
use Rattle.std.specs.List.{Contains, list_all}
use Rattle.std.specs.Str.{chars, IsCharBoundary, IsUtf8}
use Rattle.std.specs.Prelude.{slice_index_or}
use Rattle.std.proofs.lemmas.Str.{IsCharBoundary-at_seam}
use Rattle.cn_core.specs.declared.method.ChineseCountMethod.TheVariants.{TenThousand}
use Rattle.cn_core.specs.declared.sign.Sign.TheVariants.{Plus}
use Rattle.cn_core.specs.declared.unit.Unit.TheVariants.{Zhao}
use Rattle.cn_core.specs.Characters.{digit_of, rank_of, sign_of}
use Rattle.cn_core.specs.Naive.{decimal_value}
use Rattle.cn_core.specs.Numeral.{IsNumeral}
use Rattle.cn_core.specs.Reading.{leading_sign}
use Rattle.cn_core.specs.Refusal.{incorrect_at}
use Rattle.cn_core.specs.Text.{marks_of, text_of}
use Rattle.cn_core.specs.Whole.{holds, signed_kind, unsigned_kind}
use Rattle.cn_core.proofs.Judging.{Judges-by_walk}
use Rattle.cn_core.specs.FigureCharacters.{is_figure, tens_of}
use Rattle.cn_find.specs.declared.wanted.Wanted.{Wanted}
use Rattle.cn_find.specs.Belongs.{begins_measure, belongs, is_upper, is_wanted}
use Rattle.cn_find.specs.Expressions.{begins_number, begins_word, binds_minus, follows_one, is_extra, is_numeric, is_tens, joins, parts_expressions, precedes_minus, is_han, is_item, is_kilo, is_weight}
use Rattle.cn_find.specs.Flags.{is_one_character}
use Rattle.cn_find.specs.Number.{IsAnswer}
use Rattle.cn_find.specs.Parting.{Meet, is_named, is_of_measure}
use Rattle.cn_find.specs.Plain.{is_decimal}
use Rattle.cn_find.specs.Spans.{Span, expressions_left, spans, spans_left}

abbrev everyday : Wanted
everyday = record { upper = false; greatest = Zhao }

abbrev bytes : List ℕ → List ℕ
bytes text = encode_utf8_all text

-- what is found between two other parts of a text
abbrev found : List ℕ → List ℕ → List ℕ → Span
found before text after =
    record { before = bytes before; text = bytes text; after = bytes after }

-- a number of a text is one of its spans, given by its index and the number of spans
is-found : (text : List ℕ) (index size : ℕ) (span : Span) → length (spans everyday (bytes text)) ≡ size
    → index < size → slice_index_or (spans everyday (bytes text)) index span ≡ span
    → Contains (spans everyday (bytes text)) span
is-found text index size span is low same = (index, omega (arith, is, low), same)

-- 年
unwanted_characters_part_texts : IsUtf8 (bytes (codes "二零二五"))
    × IsUtf8 (encode_utf8 24180 ++ bytes (codes "十一月"))
    × (is_wanted everyday 24180 ≡ false) × (is_of_measure 24180 ≡ false)
unfolding encode_utf8 digit_of rank_of is_upper is_of_measure
unwanted_characters_part_texts =
    ((codes "二零二五", (refl, refl)), (codes "年十一月", (refl, refl)), refl, refl)

searches_go_on_behind_a_number : (spans everyday (bytes (codes "十一月二十三日"))
    ≡ found [] (codes "十一") (codes "月二十三日") ∷ found (codes "十一月") (codes "二十三") (codes "日") ∷ [])
    × IsUtf8 (bytes (codes "十一月二十三日"))
unfolding chars encode_utf8 digit_of rank_of belongs is_upper
searches_go_on_behind_a_number = (refl, (codes "十一月二十三日", (refl, refl)))

-- from 年 on, which is 12 bytes from the start
searches_go_on_in_the_whole_text : IsUtf8 (bytes (codes "二零二五年十一月二十三日"))
    × IsCharBoundary (bytes (codes "二零二五年十一月二十三日")) 12
    × (spans_left everyday (bytes (codes "二零二五年十一月二十三日"))
    (drop 12 (bytes (codes "二零二五年十一月二十三日")))
    ≡ found (codes "二零二五年") (codes "十一") (codes "月二十三日")
    ∷ found (codes "二零二五年十一月") (codes "二十三") (codes "日") ∷ [])
unfolding chars encode_utf8 digit_of rank_of belongs is_upper
searches_go_on_in_the_whole_text = (
  (codes "二零二五年十一月二十三日", (refl, refl)),
  IsCharBoundary-at_seam _ (bytes (codes "二零二五")) (bytes (codes "年十一月二十三日")) refl
      (codes "年十一月二十三日", (refl, refl)),
  refl,
)

-- a line feed
unnamed_characters_part_texts : IsUtf8 (bytes (codes "占12.5%"))
    × IsUtf8 (encode_utf8 10 ++ bytes (codes "共3.5万"))
    × (is_wanted everyday 10 ≡ false) × (is_named 10 ≡ false)
unfolding encode_utf8 digit_of rank_of is_upper is_named is_han binds_minus is_extra is_tens tens_of
unnamed_characters_part_texts =
    ((codes "占12.5%", (refl, refl)), (10 ∷ codes "共3.5万", (refl, refl)), refl, refl)

-- from the first - on, which is 1 byte from the start
searches_for_expressions_go_on_in_the_whole_text : IsUtf8 (bytes (codes "1-2-3"))
    × IsCharBoundary (bytes (codes "1-2-3")) 1
    × (expressions_left everyday (bytes (codes "1-2-3")) (drop 1 (bytes (codes "1-2-3")))
    ≡ found (codes "1-") (codes "2") (codes "-3") ∷ found (codes "1-2-") (codes "3") [] ∷ [])
unfolding chars encode_utf8 digit_of rank_of belongs is_upper begins_measure is_numeric is_tens tens_of joins parts_expressions begins_word begins_number follows_one is_weight is_item is_kilo precedes_minus binds_minus
searches_for_expressions_go_on_in_the_whole_text = (
  (codes "1-2-3", (refl, refl)),
  IsCharBoundary-at_seam _ (bytes (codes "1")) (bytes (codes "-2-3")) refl
      (codes "-2-3", (refl, refl)),
  refl,
)

expressions_of_numerals_are_numbers : IsTrue
    (list_all (λ c. not (is_figure c) && not (is_extra c)) (chars (bytes (codes "三百二十人"))))
unfolding chars encode_utf8 is_extra is_tens tens_of
expressions_of_numerals_are_numbers = refl

-- an ASCII digit and another digit are two numbers
abbrev figure : Span
figure = found (codes "買") (codes "2") (codes "兩")

abbrev numeral : Span
numeral = found (codes "買2") (codes "兩") []

numbers_that_meet_do_not_stand_alone : IsUtf8 (bytes (codes "買2兩"))
    × Contains (spans everyday (bytes (codes "買2兩"))) figure
    × Contains (spans everyday (bytes (codes "買2兩"))) numeral
    × Meet figure numeral
unfolding chars encode_utf8 digit_of rank_of belongs is_upper
numbers_that_meet_do_not_stand_alone = (
  (codes "買2兩", (refl, refl)),
  is-found (codes "買2兩") 0 2 figure refl (omega arith) refl,
  is-found (codes "買2兩") 1 2 numeral refl (omega arith) refl,
  inl refl,
)

-- 兆 ends a number before 歐元, where it does not mean mega
abbrev euros : Span
euros = found [] (codes "3兆") (codes "歐元")

no_number_ends_with_mega : IsUtf8 (bytes (codes "3兆歐元"))
    × Contains (spans everyday (bytes (codes "3兆歐元"))) euros
    × (chars euros.text ≡ codes "3" ++ 20806 ∷ [])
unfolding chars encode_utf8 digit_of rank_of belongs is_upper begins_measure
no_number_ends_with_mega = (
  (codes "3兆歐元", (refl, refl)),
  is-found (codes "3兆歐元") 0 1 euros refl (omega arith) refl,
  refl,
)

one_character_is_at_most_ten : (is_one_character (chars (bytes (codes "十"))) ≡ true)
    × IsAnswer (signed_kind 128) TenThousand (bytes (codes "十")) (Ok (pos 10))
unfolding chars encode_utf8 digit_of rank_of sign_of
one_character_is_at_most_ten = (refl, (Ok 10, refl, refl))

numerals_have_no_estimate : IsNumeral (marks_of (codes "三百二十"))
unfolding digit_of rank_of
numerals_have_no_estimate = refl

-- 三百, which begins with 三, after 负
abbrev degrees : Span
degrees = found (codes "负") (codes "三百") (codes "度")

runs_begin_with_no_other_sign : Contains (spans everyday (bytes (codes "负三百度"))) degrees
    × IsUtf8 degrees.text × (chars degrees.text ≡ 19977 ∷ codes "百") × (sign_of 19977 ≢ Some Plus)
unfolding chars encode_utf8 digit_of rank_of belongs is_upper sign_of
runs_begin_with_no_other_sign = (
  is-found (codes "负三百度") 0 1 degrees refl (omega arith) refl,
  (codes "三百", (refl, refl)),
  refl,
  λ e. absurd (cc),
)

types_answer_alike_without_sign-number : (leading_sign true (text_of (bytes (codes "一百二"))) ≡ None)
    × IsAnswer (unsigned_kind 64) TenThousand (bytes (codes "一百二")) (Ok (pos 120))
    × IsTrue (holds (signed_kind 8) (pos 120))
unfolding chars encode_utf8 digit_of rank_of sign_of
types_answer_alike_without_sign-number = (refl, (Ok 120, refl, refl), refl)

types_answer_alike_without_sign-place : (leading_sign true (text_of (bytes (codes "一萬二萬"))) ≡ None)
    × IsAnswer (unsigned_kind 64) TenThousand (bytes (codes "一萬二萬")) (Err (incorrect_at 1))
unfolding chars encode_utf8 digit_of rank_of sign_of
types_answer_alike_without_sign-place = (
  refl,
  (Err (incorrect_at 1), Judges-by_walk TenThousand (marks_of (codes "一萬二萬")) _ refl, refl),
)

one_number_either_way : IsTrue (list_all is_decimal (marks_of (codes "零五")))
    × IsNumeral (marks_of (codes "零五")) × (decimal_value (marks_of (codes "零五")) ≡ 5)
unfolding digit_of rank_of
one_number_either_way = (refl, refl, refl)
