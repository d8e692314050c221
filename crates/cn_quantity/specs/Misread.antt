-- Which characters of a whole number are misread: the rules of numerals give the number a value
-- that nobody means.
use Rattle.std.specs.Prelude.{ℕ, Bool, true, false, not, ◌&&◌, ◌||◌, ◌==◌, nat_le, nat_lt, List, [], ◌∷◌, codes, drop, length, reverse, Option, Some, None, is_some, if◌then◌else◌}
use Rattle.std.specs.Char.{char_set_contains}
use Rattle.std.specs.List.{list_any}
use Rattle.cn_core.specs.Mark.{Mark, digit, unit, mark_of}
use Rattle.cn_core.specs.Text.{marks_of}

-- the mark is the digit 0
abbrev pub is_zero : Mark → Bool
is_zero (digit value) = value == 0
is_zero mark = false

-- the mark is a digit from 1 to 9
abbrev pub is_count : Mark → Bool
is_count (digit value) = nat_lt 0 value
is_count mark = false

abbrev pub is_digit : Mark → Bool
is_digit (digit value) = true
is_digit mark = false

-- the mark is the unit of this rank
abbrev pub is_unit : ℕ → Mark → Bool
is_unit which (unit rank) = rank == which
is_unit which mark = false

-- the mark is a unit of this rank or a greater one
abbrev pub is_unit_from : ℕ → Mark → Bool
is_unit_from least (unit rank) = nat_le least rank
is_unit_from least mark = false

-- the mark is 十, 百 or 千
abbrev pub is_small_unit : Mark → Bool
is_small_unit (unit rank) = nat_le 1 rank && nat_le rank 3
is_small_unit mark = false

-- the first mark passes the test
abbrev pub begins : (Mark → Bool) → List Mark → Bool
begins test [] = false
begins test (mark ∷ rest) = test mark

-- if 十 may follow these marks as a bare ten, because 百 is directly before it, or 零 and directly
-- before that a unit from 千 up: the rank of that unit. The marks before 十 are given nearest first
abbrev pub unit_before_ten : List Mark → Option ℕ
unit_before_ten (unit rank ∷ front) = if rank == 2 then Some rank else None
unit_before_ten (digit value ∷ unit rank ∷ front) =
    if value == 0 && nat_le 3 rank then Some rank else None
unit_before_ten front = None

-- the same rank if the mark is 十, so a bare ten, as in 一百十五 and 两千零十五; otherwise none
abbrev pub bare_ten : List Mark → Mark → Option ℕ
bare_ten front mark = if is_unit 1 mark then unit_before_ten front else None

-- the mark is 十 or 百 directly after 十, as in 二十百
abbrev pub repeats_ten : List Mark → Mark → Bool
repeats_ten front mark = begins (is_unit 1) front && (is_unit 1 mark || is_unit 2 mark)

-- the mark is a unit directly after 零, as in 一亿零万
abbrev pub multiplies_zero : List Mark → Mark → Bool
multiplies_zero front mark = begins is_zero front && is_unit_from 0 mark

-- 两 between these marks is a weight: it is directly after a digit or a unit above 個, and neither 個
-- nor a unit from 百 up is directly after it. It is one in 二两 and 一百两, but not in 一万零两百
abbrev pub weighs : List Mark → List Mark → Bool
weighs front after =
    (begins is_digit front || begins (is_unit_from 1) front)
    && not (begins (is_unit 0) after || begins (is_unit_from 2) after)

-- the nearest mark is a digit from 1 to 9, and directly before it is a unit from 百 up that is
-- smaller than the unit of this rank
abbrev pub counts_after_smaller : ℕ → List Mark → Bool
counts_after_smaller rank (digit value ∷ unit smaller ∷ front) =
    nat_lt 0 value && nat_le 2 smaller && nat_lt smaller rank
counts_after_smaller rank front = false

-- the mark is a unit from 萬 up after such a digit, with or without 個 between them: 一百五万 may mean
-- 1,500,000 or 1,050,000
abbrev pub has_two_readings : List Mark → Mark → Bool
has_two_readings front (unit rank) =
    nat_le 4 rank && (counts_after_smaller rank front
    || (begins (is_unit 0) front && counts_after_smaller rank (drop 1 front)))
has_two_readings front mark = false

-- the mark is a digit from 1 to 9, or 十, directly after a unit from 億 up; no unit from 萬 up is
-- among the marks after it; and 十, 百 or 千 occurs from the mark on: 一亿二千 may mean 120,000,000 or
-- 100,002,000
abbrev pub leaves_out_zero : List Mark → Mark → List Mark → Bool
leaves_out_zero front mark after =
    begins (is_unit_from 5) front && (is_count mark || is_unit 1 mark)
    && not (list_any (is_unit_from 4) after) && list_any is_small_unit (mark ∷ after)

-- whether a mark is misread, given the marks before it (nearest first) and after it
abbrev pub is_misread_mark : List Mark → Mark → List Mark → Bool
is_misread_mark front mark after =
    is_some (bare_ten front mark) || repeats_ten front mark || multiplies_zero front mark
    || has_two_readings front mark || leaves_out_zero front mark after

-- the character is 两 or 兩
abbrev pub is_liang : ℕ → Bool
is_liang c = char_set_contains (codes "两兩") c

-- whether a character is misread, given the characters before it (nearest first) and after it
abbrev pub is_misread_at : List ℕ → ℕ → List ℕ → Bool
is_misread_at front c after =
    is_misread_mark (marks_of front) (mark_of c) (marks_of after)
    || (is_liang c && weighs (marks_of front) (marks_of after))

-- the place of the first misread character of a text, given the characters before it (nearest
-- first); their number is added to the place
abbrev pub misread_after : List ℕ → List ℕ → Option ℕ
misread_after front [] = None
misread_after front (c ∷ after) =
    if is_misread_at front c after then Some (length front) else misread_after (c ∷ front) after

abbrev pub first_misread : List ℕ → Option ℕ
first_misread text = misread_after [] text

-- whether some character of the text is misread
abbrev pub is_misread : List ℕ → Bool
is_misread text = is_some (first_misread text)

-- if `text`, which follows `before`, starts with a bare ten and is not misread by itself: the rank
-- of the unit before that ten; otherwise none
abbrev pub bare_ten_between : List ℕ → List ℕ → Option ℕ
bare_ten_between before [] = None
bare_ten_between before (c ∷ after) =
    if is_misread (c ∷ after) then None else bare_ten (marks_of (reverse before)) (mark_of c)
