-- Worked examples of numerals, each proved by computing the definitions.
use Rattle.std.proofs.Common.{◌*◌, ◌^◌, refl, codes, Ok, Err}
use Rattle.cn_core.specs.declared.method.ChineseCountMethod.TheVariants.{Low, TenThousand, Middle}
use Rattle.cn_core.specs.Characters.{digit_of, rank_of}
use Rattle.cn_core.specs.Judge.{Judges}
use Rattle.cn_core.specs.Refusal.{incorrect_at, too_large}
use Rattle.cn_core.specs.Text.{marks_of}
use Rattle.cn_core.proofs.Judging.{Judges-by_walk}

-- a last digit directly after a unit from 百 up counts a tenth of it
colloquial_end : Judges TenThousand (marks_of (codes "一百二")) (Ok 120)
unfolding digit_of rank_of
colloquial_end = refl

no_colloquial_digit_inside : Judges TenThousand (marks_of (codes "一百二千")) (Ok 102000)
unfolding digit_of rank_of
no_colloquial_digit_inside = refl

colloquial_end_after_a_great_unit : Judges TenThousand (marks_of (codes "一億五")) (Ok 150000000)
unfolding digit_of rank_of
colloquial_end_after_a_great_unit = refl

zero_ends_the_colloquial : Judges TenThousand (marks_of (codes "一百零二")) (Ok 102)
unfolding digit_of rank_of
zero_ends_the_colloquial = refl

-- 十 at the start is the digit ten
ten_then_ten : Judges TenThousand (marks_of (codes "十十")) (Ok 100)
unfolding digit_of rank_of
ten_then_ten = refl

fifteen_tens : Judges TenThousand (marks_of (codes "十五十")) (Ok 150)
unfolding digit_of rank_of
fifteen_tens = refl

ten_within : Judges TenThousand (marks_of (codes "二十十")) (Err (incorrect_at 1))
unfolding digit_of rank_of
ten_within = Judges-by_walk TenThousand (marks_of (codes "二十十")) _ refl

-- 個 is directly before a greater unit
counting_a_unit : Judges TenThousand (marks_of (codes "一百零個億")) (Ok 10000000000)
unfolding digit_of rank_of
counting_a_unit = refl

unit_that_counts_none : Judges TenThousand (marks_of (codes "一百個億")) (Err (incorrect_at 1))
unfolding digit_of rank_of
unit_that_counts_none = Judges-by_walk TenThousand (marks_of (codes "一百個億")) _ refl

ten_that_counts_none : Judges TenThousand (marks_of (codes "十個")) (Err (incorrect_at 1))
unfolding digit_of rank_of
ten_that_counts_none = Judges-by_walk TenThousand (marks_of (codes "十個")) _ refl

-- the body is a numeral, and the last character is at fault
last_character_at_fault : Judges TenThousand (marks_of (codes "一百個")) (Err (incorrect_at 2))
unfolding digit_of rank_of
last_character_at_fault = refl

last_character_of_an_overflow : Judges TenThousand (marks_of (codes "一極個")) (Err too_large)
unfolding digit_of rank_of
last_character_of_an_overflow = refl

body_at_fault : Judges TenThousand (marks_of (codes "百百個")) (Err (incorrect_at 0))
unfolding digit_of rank_of
body_at_fault = Judges-by_walk TenThousand (marks_of (codes "百百個")) _ refl

completable_but_no_numeral : Judges TenThousand (marks_of (codes "個億")) (Err (incorrect_at 0))
unfolding digit_of rank_of
completable_but_no_numeral = Judges-by_walk TenThousand (marks_of (codes "個億")) _ refl

-- the scale of each unit that occurs must fit 128 bits
zero_of_a_unit_that_fits : Judges Low (marks_of (codes "零極")) (Ok 0)
unfolding digit_of rank_of
zero_of_a_unit_that_fits = refl

zero_of_a_unit_that_does_not_fit : Judges TenThousand (marks_of (codes "零極")) (Err too_large)
unfolding digit_of rank_of
zero_of_a_unit_that_does_not_fit = refl

unit_alone : Judges TenThousand (marks_of (codes "極")) (Err (incorrect_at 0))
unfolding digit_of rank_of
unit_alone = Judges-by_walk TenThousand (marks_of (codes "極")) _ refl

unit_that_does_not_fit_after_the_place : Judges TenThousand (marks_of (codes "極極")) (Err too_large)
unfolding digit_of rank_of
unit_that_does_not_fit_after_the_place = Judges-by_walk TenThousand (marks_of (codes "極極")) _ refl

-- a group overflows if a greater unit closes it
group_that_is_closed : Judges TenThousand (marks_of (codes "x二澗一億溝")) (Err too_large)
unfolding digit_of rank_of
group_that_is_closed = Judges-by_walk TenThousand (marks_of (codes "x二澗一億溝")) _ refl

group_that_is_open : Judges TenThousand (marks_of (codes "x一億澗")) (Err (incorrect_at 0))
unfolding digit_of rank_of
group_that_is_open = Judges-by_walk TenThousand (marks_of (codes "x一億澗")) _ refl

group_closed_before_the_equal_unit : Judges TenThousand (marks_of (codes "五二澗一億溝澗")) (Err too_large)
unfolding digit_of rank_of
group_closed_before_the_equal_unit = Judges-by_walk TenThousand (marks_of (codes "五二澗一億溝澗")) _ refl

no_group_at_the_first_mark : Judges TenThousand (marks_of (codes "澗一億溝")) (Err (incorrect_at 0))
unfolding digit_of rank_of
no_group_at_the_first_mark = Judges-by_walk TenThousand (marks_of (codes "澗一億溝")) _ refl

near_the_limit : Judges TenThousand (marks_of (codes "三百四十澗二")) (Ok (3402 * 10 ^ 35))
unfolding digit_of rank_of
near_the_limit = refl

past_the_limit : Judges TenThousand (marks_of (codes "三百四十澗三")) (Err too_large)
unfolding digit_of rank_of
past_the_limit = refl

digit_before_zero : Judges TenThousand (marks_of (codes "五零")) (Err (incorrect_at 0))
unfolding digit_of rank_of
digit_before_zero = Judges-by_walk TenThousand (marks_of (codes "五零")) _ refl

zeros_inside : Judges TenThousand (marks_of (codes "一百零零五")) (Ok 105)
unfolding digit_of rank_of
zeros_inside = refl

equal_units : Judges TenThousand (marks_of (codes "一萬二萬")) (Err (incorrect_at 1))
unfolding digit_of rank_of
equal_units = Judges-by_walk TenThousand (marks_of (codes "一萬二萬")) _ refl

digits_side_by_side : Judges TenThousand (marks_of (codes "一二三")) (Err (incorrect_at 1))
unfolding digit_of rank_of
digits_side_by_side = Judges-by_walk TenThousand (marks_of (codes "一二三")) _ refl

fraction_character : Judges Low (marks_of (codes "一角")) (Err (incorrect_at 1))
unfolding digit_of rank_of
fraction_character = Judges-by_walk Low (marks_of (codes "一角")) _ refl

fraction_character_after_a_unit : Judges Low (marks_of (codes "一百角")) (Err (incorrect_at 2))
unfolding digit_of rank_of
fraction_character_after_a_unit = Judges-by_walk Low (marks_of (codes "一百角")) _ refl

other_in_front_of_an_overflow : Judges Middle (marks_of (codes "x二垓一兆京")) (Err too_large)
unfolding digit_of rank_of
other_in_front_of_an_overflow = Judges-by_walk Middle (marks_of (codes "x二垓一兆京")) _ refl

other_in_front_of_an_open_group : Judges Middle (marks_of (codes "x一兆京")) (Err (incorrect_at 0))
unfolding digit_of rank_of
other_in_front_of_an_open_group = Judges-by_walk Middle (marks_of (codes "x一兆京")) _ refl

-- all sixteen units open at once
sixteen_units : Judges Low (marks_of (codes "零個十百千萬億兆京垓秭穰溝澗正載極")) (Ok 0)
unfolding digit_of rank_of
sixteen_units = refl

least_magnitude : Judges TenThousand
    (marks_of (codes "一百七十澗一千四百一十一溝八千三百四十六穰零四百六十九秭二千三百一十七垓三千一百六十八京七千三百零三兆七千一百五十八億八千四百一十萬五千七百二十八")) (Ok (2 ^ 127))
unfolding digit_of rank_of
least_magnitude = refl
