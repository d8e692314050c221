-- Whether two neighbours of a text are parts of one date, time, length, amount or range.
use Rattle.std.specs.Prelude.{ℕ, ◌+◌, Bool, false, not, ◌&&◌, ◌||◌, List, [], ◌∷◌, length, drop, chars, codes}
use Rattle.std.specs.Char.{char_set_contains}
use Rattle.cn_find.specs.Expressions.{is_han}
use Rattle.cn_find.specs.Flags.{is_one_character}
use Rattle.cn_find.specs.Spans.{Span}

-- the character links the ends of a range
unfoldable pub is_link : ℕ → Bool
is_link c = char_set_contains (codes "到至~～－–—〜-") c

-- the character is a unit of dates, times and durations
unfoldable pub is_of_date : ℕ → Bool
is_of_date c = char_set_contains (codes "年月日号號分秒刻") c

unfoldable pub is_hour : ℕ → Bool
is_hour c = char_set_contains (codes "点點时時") c

-- the character is a unit of amounts, lengths and weights
unfoldable pub is_of_amount : ℕ → Bool
is_of_amount c = char_set_contains (codes "元圆圓块塊角毛度米斤两兩") c

abbrev pub is_part_unit : ℕ → Bool
is_part_unit c = is_of_date c || is_hour c || is_of_amount c

-- the character compares, separates or combines two numbers
unfoldable pub is_between : ℕ → Bool
is_between c = char_set_contains (codes "比单單有加减減乘除") c

-- the characters are 小时 or 分钟
unfoldable pub is_length : ℕ → ℕ → Bool
is_length c d =
    (char_set_contains (codes "小") c && char_set_contains (codes "时時") d)
    || (char_set_contains (codes "分") c && char_set_contains (codes "钟鐘") d)

-- the characters are 乘以, 除以 or 等于
unfoldable pub is_operation : ℕ → ℕ → Bool
is_operation c d =
    (char_set_contains (codes "乘除") c && char_set_contains (codes "以") d)
    || (char_set_contains (codes "等") c && char_set_contains (codes "于於") d)

-- the character is one of those that join, or 的: no word begins with 一 and one of these
unfoldable pub is_joint : ℕ → Bool
is_joint c = is_link c || is_part_unit c || is_between c || char_set_contains (codes "小个個钟鐘的") c

-- the characters begin with a Han character that makes a word with 一 before it, such as 遇
abbrev pub begins_word : List ℕ → Bool
begins_word [] = false
begins_word (c ∷ text) = is_han c && not (is_joint c)

unfoldable pub is_one : ℕ → Bool
is_one c = char_set_contains (codes "一") c

-- the text is 一, and makes a word with the text after it
abbrev pub is_of_word : List ℕ → List ℕ → Bool
is_of_word (c ∷ []) after = is_one c && begins_word after
is_of_word text after = false

-- the character is a word that counts things
unfoldable pub is_counter : ℕ → Bool
is_counter c = char_set_contains (codes "个個件张張人名位只隻条條斤份次瓶包箱盒本套台杯碗") c

abbrev pub begins_counter : List ℕ → Bool
begins_counter [] = false
begins_counter (c ∷ text) = is_counter c

-- the single character between two neighbours joins them; the second is this text, and these
-- characters are after it
abbrev pub joins_one : ℕ → List ℕ → List ℕ → Bool
joins_one c text after =
    is_link c || is_between c || is_hour c
    || (is_of_date c && not (is_of_word text after))
    || (is_of_amount c
    && (not (is_of_word text after) && not (is_one_character text && begins_counter after)))

-- the two characters between neighbours join them
abbrev pub joins_two : ℕ → ℕ → Bool
joins_two c d = (is_part_unit c && is_link d) || (is_length c d || is_operation c d)

-- the three characters between neighbours join them: 个小时
unfoldable pub joins_three : ℕ → ℕ → ℕ → Bool
joins_three c d e =
    char_set_contains (codes "个個") c
    && (char_set_contains (codes "小") d && char_set_contains (codes "时時") e)

-- these characters between two neighbours join them
abbrev pub joins : List ℕ → List ℕ → List ℕ → Bool
joins (c ∷ []) text after = joins_one c text after
joins (c ∷ d ∷ []) text after = joins_two c d
joins (c ∷ d ∷ e ∷ []) text after = joins_three c d e
joins between text after = false

-- the expression that ends at this byte is joined to the next one
unfoldable pub is_joined_at : ℕ → Span → Bool
is_joined_at end next = joins (chars (drop end next.before)) (chars next.text) (chars next.after)

-- the byte at which an expression ends
abbrev pub end_of : Span → ℕ
end_of span = length span.before + length span.text

abbrev pub are_joined : Span → Span → Bool
are_joined span next = is_joined_at (end_of span) next
