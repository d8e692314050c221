-- The hour of 24 of a time of day.
use Rattle.std.specs.Prelude.{ℕ, ◌+◌, ◌==◌, nat_le, nat_lt, not, ◌&&◌, ◌||◌, List, [], ◌∷◌, codes, Option, Some, None, option_map, if◌then◌else◌}
use Rattle.std.specs.Char.{char_set_contains}
use Rattle.cn_phrase.specs.declared.hour.PartOfDay.{PartOfDay}
use Rattle.cn_phrase.specs.declared.hour.PartOfDay.TheVariants.{AfterMidnight, Morning, Noon, Afternoon, Evening, Night}
use Rattle.cn_phrase.specs.declared.phrase.Lead.{Lead}
use Rattle.cn_phrase.specs.declared.phrase.Lead.TheVariants.{Bare, HalfDay, Weekday}
use Rattle.cn_phrase.specs.declared.value.Time.{Time}

-- the part of the day that a word of half a day names, by its first two characters: 凌晨; 早上, 清晨, 上午;
-- 中午, 正午; 下午; 午夜, 午后; 今早, 今晚; 深夜, 半夜, 夜里; 傍晚, 晚上
unfoldable pub half_of : List ℕ → PartOfDay
half_of [] = Evening
half_of (c ∷ []) = Evening
half_of (c ∷ d ∷ text) =
    if char_set_contains (codes "凌") c then AfterMidnight
    else (if char_set_contains (codes "早清上") c then Morning
    else (if char_set_contains (codes "中正") c then Noon
    else (if char_set_contains (codes "下") c then Afternoon
    else (if char_set_contains (codes "午") c
    then (if char_set_contains (codes "夜") d then Night else Afternoon)
    else (if char_set_contains (codes "今明昨当當") c
    then (if char_set_contains (codes "早晨") d then Morning else Evening)
    else (if char_set_contains (codes "深半夜") c then Night else Evening))))))

-- the hour of 24, of an hour from 1 to 12 in a part of the day; none if it is not known
abbrev pub hour_in : PartOfDay → ℕ → Option ℕ
hour_in AfterMidnight hour = Some (if hour == 12 then 0 else hour)
hour_in Morning hour = Some hour
hour_in Noon hour = Some (if nat_le hour 2 then hour + 12 else hour)
hour_in Afternoon hour = Some (if hour == 12 then 12 else hour + 12)
hour_in Evening hour = if nat_le hour 4 then None else Some (hour + 12)
hour_in Night hour = Some (if nat_le hour 4 then hour else hour + 12)

abbrev pub hour_of_12 : Lead → List ℕ → ℕ → Option ℕ
hour_of_12 Bare text hour = None
hour_of_12 HalfDay text hour = hour_in (half_of text) hour
hour_of_12 Weekday text hour = None

-- the hour of 24, of any hour: it is known without a word if it is 0 or above 12
abbrev pub hour_by : Lead → List ℕ → ℕ → Option ℕ
hour_by lead text hour =
    if hour == 0 || nat_lt 12 hour then Some hour else hour_of_12 lead text hour

-- 24 is 0, except at 24:00
abbrev pub without_24 : Time → ℕ → ℕ
without_24 time hour = if hour == 24 && not (time.minute == 0 && time.second == 0) then 0 else hour

-- the hour of 24 of a time with which a text begins
abbrev pub hour_of_day : Lead → List ℕ → Time → Option ℕ
hour_of_day lead text time = option_map (without_24 time) (hour_by lead text time.hour)
