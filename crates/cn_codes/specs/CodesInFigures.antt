-- A code of Chinese characters in figures.
use Rattle.std.specs.Prelude.{ℕ, Bool, not, ◌&&◌, ◌||◌, List, [], ◌∷◌, ◌++◌, take, drop, codes, Option, Some, None, if◌then◌else◌}
use Rattle.std.specs.Char.{char_set_contains, encode_utf8, is_ascii_alphabetic}
use Rattle.std.specs.List.{list_any}
use Rattle.cn_core.specs.Characters.{digit_of}
use Rattle.cn_core.specs.FigureCharacters.{is_figure}
use Rattle.cn_find.specs.Belongs.{begins_with}
use Rattle.cn_find.specs.Expressions.{is_han}
use Rattle.cn_replace.specs.Pieces.{after_leading, begins, leading}
use Rattle.cn_codes.specs.Codes.{is_bar, is_point}
use Rattle.cn_codes.specs.Digits.{is_chinese, value_of}
use Rattle.cn_codes.specs.Tens.{is_ten}
use Rattle.cn_codes.specs.Words.{begins_any}

-- a figure in ASCII
abbrev pub figure : ℕ → List ℕ
figure value = take 1 (drop value (codes "0123456789"))

-- a digit as its figure, a point as `.`, and a bar as `-`; a blank stays
unfoldable pub code_character : ℕ → List ℕ
code_character c =
    if is_chinese c then figure (value_of c)
    else (if is_point c then codes "." else (if is_bar c then codes "-" else encode_utf8 c))

abbrev pub code_characters : List ℕ → List ℕ
code_characters [] = []
code_characters (c ∷ text) = code_character c ++ code_characters text

-- the figures of 十 between digits: 十七 is 17, 二十 is 20
abbrev pub ten_text : List ℕ → List ℕ → List ℕ
ten_text tens ones =
    if begins is_chinese tens then (if begins is_chinese ones then [] else codes "0")
    else (if begins is_chinese ones then codes "1" else codes "10")

-- a code whose first number is written with 十, with this number before 十
abbrev pub tens_characters : List ℕ → List ℕ → List ℕ
tens_characters tens ones =
    code_characters tens ++ (ten_text tens ones ++ code_characters ones)

-- a code in figures
abbrev pub characters_of : List ℕ → List ℕ
characters_of written =
    if begins is_ten (after_leading is_chinese written)
    then tens_characters (leading is_chinese written) (drop 1 (after_leading is_chinese written))
    else code_characters written

-- the new text of a code; one with figures stays
abbrev pub code_text : List ℕ → Option (List ℕ)
code_text written =
    if list_any is_figure written then None else Some (characters_of written)

abbrev pub addressed : List (List ℕ)
addressed =
    codes "号楼" ∷ codes "號樓" ∷ codes "号院" ∷ codes "號院" ∷ codes "号线" ∷ codes "號線" ∷ codes "号柜" ∷ codes "號櫃"
    ∷ codes "号门" ∷ codes "號門" ∷ codes "号口" ∷ codes "號口" ∷ codes "号出口" ∷ codes "號出口" ∷ codes "号窗"
    ∷ codes "號窗" ∷ codes "号机" ∷ codes "號機" ∷ codes "号桌" ∷ codes "號桌" ∷ codes "号床" ∷ codes "號床"
    ∷ codes "号车" ∷ codes "號車" ∷ codes "单元" ∷ codes "單元" ∷ codes "站台" ∷ codes "站臺" ∷ codes "检票口"
    ∷ codes "檢票口" ∷ codes "登机口" ∷ codes "登機口" ∷ codes "诊室" ∷ codes "診室" ∷ []

-- words before which one digit belongs to an address
unfoldable pub begins_addressed : List ℕ → Bool
begins_addressed rest = begins_any addressed rest

abbrev pub measured : List (List ℕ)
measured =
    codes "分钟" ∷ codes "分鐘" ∷ codes "公里" ∷ codes "公斤" ∷ codes "斤" ∷ codes "千克" ∷ codes "厘米"
    ∷ codes "毫米" ∷ codes "毫升" ∷ codes "毫克" ∷ codes "平方米" ∷ codes "摄氏度" ∷ codes "攝氏度" ∷ []

unfoldable pub begins_unit : List ℕ → Bool
begins_unit rest = begins_any measured rest

-- words that begin as a measure does: 三分钟热度
abbrev pub unmeasured : List (List ℕ)
unmeasured = codes "分钟热度" ∷ codes "分鐘熱度" ∷ codes "斤斗" ∷ []

unfoldable pub begins_unmeasured : List ℕ → Bool
begins_unmeasured rest = begins_any unmeasured rest

-- measures before which one digit is written
unfoldable pub begins_measured : List ℕ → Bool
begins_measured rest = begins_unit rest && not (begins_unmeasured rest)

-- 栋, but after 一 only if a digit follows: 一栋楼 is one building
unfoldable pub is_building : ℕ → List ℕ → Bool
is_building c rest =
    begins_with (codes "栋棟幢") rest
    && (not (char_set_contains (codes "一") c) || begins is_chinese (drop 1 rest))

-- a key: 按一, before no Han character
unfoldable pub is_key : List ℕ → List ℕ → Bool
is_key front rest = begins_with (codes "按") front && not (begins is_han rest)

-- one Chinese digit, or 十, that is no part of a longer number or a name
unfoldable pub is_alone : List ℕ → ℕ → Bool
is_alone front c =
    char_set_contains (codes "零一二两三四五六七八九十") c
    && (not (begins is_ascii_alphabetic front) && not (begins_with (codes "第这這那每几幾") front))

-- a measure is after a digit that may be more than one
unfoldable pub is_measured : ℕ → List ℕ → Bool
is_measured c rest = not (char_set_contains (codes "零一") c) && begins_measured rest

-- a single digit is written in figures before the text `rest`
abbrev pub is_single : List ℕ → ℕ → List ℕ → Bool
is_single front c rest =
    is_alone front c
    && (begins_addressed rest || (is_building c rest || (is_key front rest || is_measured c rest)))

-- a digit, if there is one, as its figure
abbrev pub digit_text : Option ℕ → List ℕ
digit_text (Some value) = figure value
digit_text None = []

-- the new text of a single digit
unfoldable pub single_text : ℕ → List ℕ
single_text c = if char_set_contains (codes "十") c then codes "10" else digit_text (digit_of c)
