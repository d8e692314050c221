-- Measure words, by their first character.
use Rattle.std.specs.Prelude.{ℕ, Bool, ◌||◌, List, drop, codes, if◌then◌else◌}
use Rattle.std.specs.Char.{char_set_contains}
use Rattle.cn_find.specs.Belongs.{begins_with}
use Rattle.cn_replace.specs.Pieces.{begins}

-- before these 2 is 两
unfoldable pub is_counted_by_two : ℕ → Bool
is_counted_by_two c =
    char_set_contains (codes "个個位名人口户戶家只隻头頭匹条條根支枝张張片块塊页頁本册冊份篇件套台臺辆輛架艘部间間项項种種样樣批对對双雙副次回场場遍趟轮輪天年周週岁歲晚夜小分秒元圆圓角毛米公千克斤吨噸升里尺寸亩畝平立厘釐毫微海英美欧歐港倍瓶杯碗盒箱包袋桶罐勺颗顆粒滴朵棵株封枚款门門节節组組队隊道成度点點国國球室厅廳课課顿頓餐声聲句步站集把剂劑例起笔筆股座汤湯茶瓣刻") c

unfoldable pub is_counted : ℕ → Bool
is_counted c =
    is_counted_by_two c
    || char_set_contains (codes "月日号號楼樓级級期折層层章段班线線路时時百万萬亿億字行手栋棟幢") c

-- a text without one blank at its start
abbrev pub without_blank : List ℕ → List ℕ
without_blank text = if begins_with (codes " ") text then drop 1 text else text

-- a measure word is after a number; one blank may be between
unfoldable pub begins_counted : List ℕ → Bool
begins_counted rest = begins is_counted (without_blank rest)
