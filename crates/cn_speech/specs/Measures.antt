-- Measures in Latin letters and signs, and how they are spoken.
use Rattle.std.specs.Prelude.{ℕ, Bool, false, ◌&&◌, ◌||◌, ◌==◌, List, [], ◌∷◌, length, chars, codes, Option, Some, None, if◌then◌else◌}
use Rattle.std.specs.Char.{char_set_contains, is_ascii_alphabetic}
use Rattle.std.specs.Option.{option_and_then, option_map, option_or}
use Rattle.cn_find.specs.Belongs.{begins_with}
use Rattle.cn_find.specs.Expressions.{is_han}
use Rattle.cn_replace.specs.Pieces.{begins, is_letter_or_figure}
use Rattle.cn_speech.specs.declared.measures.Measure.{Measure as CodeMeasure}
use Rattle.cn_speech.specs.declared.measures.Row.{Row}
use Rattle.cn_codes.specs.Counted.{without_blank}
use Rattle.cn_codes.specs.Words.{after_word, begins_word}

-- a measure: how it is written, and how it is spoken
pub record Measure : Type 0 where
  pub written : List ℕ
  pub spoken : List ℕ

abbrev pub measure : List ℕ → List ℕ → Measure
measure written spoken = record { written = written; spoken = spoken }

-- the measures; of two with which a text begins, the longer one is first
abbrev pub measures : List Measure
measures =
    measure (codes "ml/min") (codes "毫升每分钟") ∷ measure (codes "mmol/L") (codes "毫摩尔每升")
    ∷ measure (codes "μmol/L") (codes "微摩尔每升") ∷ measure (codes "L/min") (codes "升每分钟")
    ∷ measure (codes "g/cm³") (codes "克每立方厘米") ∷ measure (codes "kg/m³") (codes "千克每立方米")
    ∷ measure (codes "mg/kg") (codes "毫克每千克") ∷ measure (codes "mg/m³") (codes "毫克每立方米")
    ∷ measure (codes "μg/m³") (codes "微克每立方米") ∷ measure (codes "kcal") (codes "千卡")
    ∷ measure (codes "km/h") (codes "千米每小时") ∷ measure (codes "mg/L") (codes "毫克每升")
    ∷ measure (codes "mmHg") (codes "毫米汞柱") ∷ measure (codes "Mbps") (codes "Mbps")
    ∷ measure (codes "Gbps") (codes "Gbps") ∷ measure (codes "GHz") (codes "吉赫兹")
    ∷ measure (codes "MHz") (codes "兆赫兹") ∷ measure (codes "MPa") (codes "兆帕")
    ∷ measure (codes "cm²") (codes "平方厘米") ∷ measure (codes "cm³") (codes "立方厘米")
    ∷ measure (codes "g/L") (codes "克每升") ∷ measure (codes "hPa") (codes "百帕")
    ∷ measure (codes "kHz") (codes "千赫兹") ∷ measure (codes "kPa") (codes "千帕")
    ∷ measure (codes "kWh") (codes "千瓦时") ∷ measure (codes "km²") (codes "平方千米")
    ∷ measure (codes "m/s") (codes "米每秒") ∷ measure (codes "mAh") (codes "毫安时")
    ∷ measure (codes "min") (codes "分钟") ∷ measure (codes "GW") (codes "吉瓦")
    ∷ measure (codes "Hz") (codes "赫兹") ∷ measure (codes "MW") (codes "兆瓦")
    ∷ measure (codes "Pa") (codes "帕") ∷ measure (codes "cm") (codes "厘米")
    ∷ measure (codes "dB") (codes "分贝") ∷ measure (codes "dm") (codes "分米")
    ∷ measure (codes "kJ") (codes "千焦") ∷ measure (codes "kV") (codes "千伏")
    ∷ measure (codes "kW") (codes "千瓦") ∷ measure (codes "kg") (codes "千克")
    ∷ measure (codes "km") (codes "千米") ∷ measure (codes "mA") (codes "毫安")
    ∷ measure (codes "mL") (codes "毫升") ∷ measure (codes "mV") (codes "毫伏")
    ∷ measure (codes "mg") (codes "毫克") ∷ measure (codes "ml") (codes "毫升")
    ∷ measure (codes "mm") (codes "毫米") ∷ measure (codes "ms") (codes "毫秒")
    ∷ measure (codes "m²") (codes "平方米") ∷ measure (codes "m³") (codes "立方米")
    ∷ measure (codes "nm") (codes "纳米") ∷ measure (codes "°C") (codes "摄氏度")
    ∷ measure (codes "°F") (codes "华氏度") ∷ measure (codes "µg") (codes "微克")
    ∷ measure (codes "µm") (codes "微米") ∷ measure (codes "μg") (codes "微克")
    ∷ measure (codes "μm") (codes "微米") ∷ measure (codes "KB") (codes "KB")
    ∷ measure (codes "kB") (codes "kB") ∷ measure (codes "MB") (codes "MB")
    ∷ measure (codes "GB") (codes "GB") ∷ measure (codes "TB") (codes "TB")
    ∷ measure (codes "PB") (codes "PB") ∷ measure (codes "px") (codes "px")
    ∷ measure (codes "L") (codes "升") ∷ measure (codes "V") (codes "伏")
    ∷ measure (codes "W") (codes "瓦") ∷ measure (codes "g") (codes "克")
    ∷ measure (codes "h") (codes "小时") ∷ measure (codes "l") (codes "升")
    ∷ measure (codes "m") (codes "米") ∷ measure (codes "s") (codes "秒")
    ∷ measure (codes "t") (codes "吨") ∷ measure (codes "°") (codes "度")
    ∷ measure (codes "Ω") (codes "欧姆") ∷ measure (codes "℃") (codes "摄氏度")
    ∷ measure (codes "℉") (codes "华氏度") ∷ measure (codes "㎎") (codes "毫克")
    ∷ measure (codes "㎏") (codes "千克") ∷ measure (codes "㎜") (codes "毫米")
    ∷ measure (codes "㎝") (codes "厘米") ∷ measure (codes "㎞") (codes "千米")
    ∷ measure (codes "㎡") (codes "平方米") ∷ measure (codes "K") (codes "K")
    ∷ measure (codes "M") (codes "M") ∷ measure (codes "G") (codes "G")
    ∷ measure (codes "T") (codes "T") ∷ measure (codes "B") (codes "B") ∷ []

-- a text goes on with a measure: 5km2, 5m/s
abbrev pub goes_on : List ℕ → Bool
goes_on [] = false
goes_on (c ∷ rest) =
    is_letter_or_figure c
    || (char_set_contains (codes "²³_") c
    || (char_set_contains (codes "/.-") c && begins is_ascii_alphabetic rest))

-- the measure is one letter
abbrev pub is_letter : List ℕ → Bool
is_letter written = length written == 1 && begins is_ascii_alphabetic written

-- the text after a measure with which a text begins, after a blank or not
abbrev pub after_measure : Bool → List ℕ → List ℕ → Option (List ℕ)
after_measure after_blank written text =
    option_and_then (λ rest.
    if goes_on rest || (after_blank && is_letter written) then None else Some rest)
    (after_word written text)

-- what is spoken for a measure, and the text after it
pub record Spoken : Type 0 where
  pub text : List ℕ
  pub rest : List ℕ

-- what a `Row` and a `Measure` in the code are
abbrev pub measure_of : Row → Measure
measure_of row = measure (chars row.written.now) (chars row.spoken.now)

abbrev pub spoken_of : CodeMeasure → Spoken
spoken_of m = record { text = chars m.spoken.now; rest = chars m.rest.now }

-- the first of these measures with which a text begins
abbrev pub first_measure : Bool → List Measure → List ℕ → Option Spoken
first_measure after_blank [] text = None
first_measure after_blank (m ∷ others) text =
    option_or
    (option_map (λ rest. record { text = m.spoken; rest = rest })
    (after_measure after_blank m.written text))
    (first_measure after_blank others text)

-- 12#楼, 12#、15#楼
abbrev pub number_sign : List ℕ → Option Spoken
number_sign [] = None
number_sign (c ∷ rest) =
    if char_set_contains (codes "#") c
    && (begins is_han rest || begins_with (codes "、") rest)
    then Some (record { text = codes "号"; rest = rest }) else None

-- the measure after a number, after a blank or none
abbrev pub measure_at : List ℕ → Option Spoken
measure_at text =
    option_or (number_sign text)
    (first_measure (begins_with (codes " ") text) measures (without_blank text))

-- the measure is one of degrees, before which 2 is 二 and a minus sign 零下
abbrev pub is_degrees : List ℕ → Bool
is_degrees spoken = begins_word (codes "摄氏度") spoken || begins_word (codes "华氏度") spoken
