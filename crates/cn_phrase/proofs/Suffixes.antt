-- What is left of a text after a word, a piece or a form is a suffix of it.
use Rattle.std.proofs.Common.{ℕ, Bool, true, false, List, [], ◌∷◌, ◌++◌, ◌==◌, ◌||◌, ◌&&◌, Option, Some, None, IfSome, is_some, codes, refl, sym, ap, ◌∙◌, append_assoc, if◌then◌else◌}
use Rattle.std.specs.Char.{char_set_contains}
use Rattle.std.specs.Option.{option_and_then, option_map, option_or}
use Rattle.cn_core.specs.FigureCharacters.{is_figure}
use Rattle.cn_replace.specs.Pieces.{after_leading, leading}
use Rattle.cn_phrase.specs.declared.piece.Piece.{Piece}
use Rattle.cn_phrase.specs.declared.piece.Piece.TheVariants.{Slot, Fixed, NotBefore, End}
use Rattle.cn_phrase.specs.declared.word.Word.{Word}
use Rattle.cn_phrase.specs.declared.word.Word.TheVariants as word
use Rattle.cn_phrase.specs.Pieces.{Reading, is_numeral, piece_read, pieces_read, refuses, slot_read, without_blank}
use Rattle.cn_phrase.specs.Shapes.{value_of}
use Rattle.cn_phrase.specs.Suffix.{EndsWith}
use Rattle.cn_phrase.specs.Words.{after_any, after_early, after_half_day, after_part_of_month, after_halved, after_hour_word, after_one, after_two, after_week, after_weekday, after_with_zhong, after_word}

pub Ends-self : (text : List ℕ) → EndsWith text text
Ends-self text = ([], refl)

pub Ends-again : (text middle rest : List ℕ) → EndsWith text middle → EndsWith middle rest
    → EndsWith text rest
Ends-again text middle rest h k =
    (h.0 ++ k.0, h.1 ∙ ap (λ l. h.0 ++ l) k.1 ∙ sym (append_assoc h.0 k.0 rest))

pub if-or : {A : Type 0} (P : A → Type 0) (a b : Option A) → IfSome a P → IfSome b P
    → IfSome (option_or a b) P
if-or P None b h k = k
if-or P (Some x) b h k = h

pub if-then : {A B : Type 0} (P : A → Type 0) (Q : B → Type 0) (f : A → Option B) (o : Option A)
    → IfSome o P → ((x : A) → P x → IfSome (f x) Q) → IfSome (option_and_then f o) Q
if-then P Q f None h k = tt
if-then P Q f (Some x) h k = k x h

-- a reader leaves a suffix of each text
abbrev pub Leaves : (List ℕ → Option (List ℕ)) → Type 0
Leaves read = (text : List ℕ) → IfSome (read text) (EndsWith text)

pub leaves-one : (these : List ℕ) → Leaves (after_one these)
leaves-one these [] = tt
leaves-one these (c ∷ rest) = by (char_set_contains these c) where
  by : (b : Bool) → IfSome (if b then Some rest else None) (EndsWith (c ∷ rest))
  by true = (c ∷ [], refl)
  by false = tt

leaves-or : (one other : List ℕ → Option (List ℕ)) → Leaves one → Leaves other
    → Leaves (λ text. option_or (one text) (other text))
leaves-or one other h k text = if-or (EndsWith text) (one text) (other text) (h text) (k text)

leaves-then : (one other : List ℕ → Option (List ℕ)) → Leaves one → Leaves other
    → Leaves (λ text. option_and_then (λ rest. other rest) (one text))
leaves-then one other h k text = if-then (EndsWith text) (EndsWith text) (λ rest. other rest)
    (one text) (h text) (λ rest ends. by (other rest) rest ends (k rest)) where
      by : (o : Option (List ℕ)) (rest : List ℕ) → EndsWith text rest
          → IfSome o (EndsWith rest) → IfSome o (EndsWith text)
      by None rest ends last = tt
      by (Some end) rest ends last = Ends-again text rest end ends last

pub leaves-two : (first second : List ℕ) → Leaves (after_two first second)
leaves-two first second =
    leaves-then (after_one first) (after_one second) (leaves-one first) (leaves-one second)

one-or : (these text : List ℕ) (other : Option (List ℕ)) → IfSome other (EndsWith text)
    → IfSome (option_or (after_one these text) other) (EndsWith text)
one-or these text other h =
    if-or (EndsWith text) (after_one these text) other (leaves-one these text) h

two-or : (first second text : List ℕ) (other : Option (List ℕ)) → IfSome other (EndsWith text)
    → IfSome (option_or (after_two first second text) other) (EndsWith text)
two-or first second text other h =
    if-or (EndsWith text) (after_two first second text) other (leaves-two first second text) h

leaves-hour : Leaves after_hour_word
leaves-hour text =
    two-or (codes "小") (codes "时時") text _ (leaves-two (codes "钟鐘") (codes "头頭") text)

pub leaves-halved : (text : List ℕ) → IfSome (after_halved text) (EndsWith text)
leaves-halved text =
    if-or (EndsWith text) (after_hour_word text) _ (leaves-hour text)
    (one-or (codes "月") text _
    (two-or (codes "星") (codes "期") text _
    (two-or (codes "礼禮") (codes "拜") text _
    (leaves-two (codes "世") (codes "纪紀") text))))

leaves-unless : (these : List ℕ) (refused : List ℕ → Bool)
    → Leaves (λ text. option_and_then (λ rest. if refused rest then None else Some rest)
    (after_one these text))
leaves-unless these refused text = if-then (EndsWith text) (EndsWith text)
    (λ rest. if refused rest then None else Some rest) (after_one these text) (leaves-one these text)
    (λ rest ends. by (refused rest) rest ends) where
      by : (b : Bool) (rest : List ℕ) → EndsWith text rest
          → IfSome (if b then None else Some rest) (EndsWith text)
      by true rest ends = tt
      by false rest ends = ends

leaves-early : Leaves after_early
leaves-early =
    leaves-unless (codes "早晚") (λ rest. is_some (after_two (codes "一") (codes "点點") rest))

leaves-part_of_month : Leaves after_part_of_month
leaves-part_of_month text =
    one-or (codes "底份末") text _
    (two-or (codes "上中下") (codes "旬") text _
    (leaves-unless (codes "初") (λ rest. is_some (after_one (codes "一二三四五六七八九十") rest)) text))

leaves-half_day : Leaves after_half_day
unfolding after_half_day
leaves-half_day text =
    two-or (codes "凌清早") (codes "晨") text _
    (two-or (codes "上中下正") (codes "午") text _
    (two-or (codes "傍") (codes "晚") text _
    (two-or (codes "今明昨当當") (codes "早晚晨") text _
    (two-or (codes "深半午") (codes "夜") text _
    (two-or (codes "早晚") (codes "上") text _
    (two-or (codes "夜晚") (codes "里裡间間") text _
    (two-or (codes "午") (codes "后後") text _
    (leaves-early text))))))))

leaves-week : Leaves after_week
leaves-week text =
    one-or (codes "周週") text _
    (two-or (codes "星") (codes "期") text _ (leaves-two (codes "礼禮") (codes "拜") text))

leaves-weekday : Leaves after_weekday
unfolding after_weekday
leaves-weekday = leaves-then after_week (after_one (codes "一二三四五六")) leaves-week
    (leaves-one (codes "一二三四五六"))

leaves-with_zhong : (c : ℕ) → Leaves (after_with_zhong c)
leaves-with_zhong c text =
    two-or (c ∷ []) (codes "钟鐘") text _ (leaves-one (c ∷ []) text)

pub Ends-any : (these text : List ℕ) → EndsWith text (after_any these text)
Ends-any these text = by (after_one these text) (leaves-one these text) where
  by : (o : Option (List ℕ)) → IfSome o (EndsWith text) → EndsWith text (elim o [
    | None ↦ text
    | Some rest ↦ rest
  ])
  by None h = Ends-self text
  by (Some rest) h = h

leaves-hours : Leaves (λ text. after_hour_word (after_any (codes "个個") text))
leaves-hours text =
    let start = after_any (codes "个個") text in
    by (after_hour_word start) (leaves-hour start) where
      by : (o : Option (List ℕ)) → IfSome o (EndsWith (after_any (codes "个個") text))
          → IfSome o (EndsWith text)
      by None h = tt
      by (Some rest) h =
          Ends-again text (after_any (codes "个個") text) rest (Ends-any (codes "个個") text) h

pub leaves-word : (w : Word) → Leaves (after_word w)
leaves-word word.Nian = leaves-one (codes "年")
leaves-word word.Yue = leaves-one (codes "月")
leaves-word word.Ri = leaves-one (codes "日号號")
leaves-word word.Dian = leaves-one (codes "点點")
leaves-word word.Shi = leaves-one (codes "点點时時")
leaves-word word.Fen = leaves-one (codes "分")
leaves-word word.Miao = leaves-one (codes "秒")
leaves-word word.Half = leaves-one (codes "半")
leaves-word word.Ke = leaves-one (codes "刻")
leaves-word word.Colon = leaves-one (codes ":：")
leaves-word word.Dash = leaves-one (codes "-")
leaves-word word.Slash = leaves-one (codes "/")
leaves-word word.Bi = leaves-one (codes "比")
leaves-word word.Mi = leaves-one (codes "米度秒")
leaves-word word.Link = leaves-one (codes "到至~～－–—〜-")
leaves-word word.Hours = leaves-hours
leaves-word word.Minutes = leaves-with_zhong 20998
leaves-word word.Seconds = leaves-with_zhong 31186
leaves-word word.HalfOf =
    leaves-then (after_two (codes "个個") (codes "半")) after_halved
    (leaves-two (codes "个個") (codes "半")) leaves-halved
leaves-word word.HalfAfter = leaves-two (codes "年天周週岁歲斤里吨噸倍米度") (codes "半")
leaves-word word.PartOfMonth = leaves-part_of_month
leaves-word word.HalfDay = leaves-half_day
leaves-word word.Weekday = leaves-weekday

-- a blank that is left out
pub Ends-blank : (after_figure : Bool) (text : List ℕ) → EndsWith text (without_blank after_figure text)
Ends-blank after_figure [] = Ends-self []
Ends-blank after_figure (c ∷ []) = Ends-self (c ∷ [])
Ends-blank after_figure (c ∷ d ∷ text) = by (c == 32 && (after_figure || is_figure d)) where
  by : (b : Bool) → EndsWith (c ∷ d ∷ text) (if b then d ∷ text else c ∷ d ∷ text)
  by true = (c ∷ [], refl)
  by false = Ends-self (c ∷ d ∷ text)

pub Ends-leading : (passes : ℕ → Bool) (text : List ℕ) → EndsWith text (after_leading passes text)
Ends-leading passes [] = Ends-self []
Ends-leading passes (c ∷ text) = by (passes c) (Ends-leading passes text) where
  by : (b : Bool) → EndsWith text (after_leading passes text)
      → EndsWith (c ∷ text) (if b then after_leading passes text else c ∷ text)
  by true ends = Ends-again (c ∷ text) text (after_leading passes text) (c ∷ [], refl) ends
  by false ends = Ends-self (c ∷ text)

-- a reading that has a suffix left
abbrev pub Within : List ℕ → Reading → Type 0
Within text reading = EndsWith text reading.rest

pub within-piece : (text : List ℕ) (piece : Piece) (reading : Reading) → Within text reading
    → IfSome (piece_read piece reading) (Within text)
within-piece text (Slot shape) reading ends =
    by (value_of shape (leading is_numeral start)) where
      start : List ℕ
      start = without_blank reading.after_figure reading.rest

      left : EndsWith text (after_leading is_numeral start)
      left = Ends-again text reading.rest (after_leading is_numeral start) ends
          (Ends-again reading.rest start (after_leading is_numeral start)
          (Ends-blank reading.after_figure reading.rest) (Ends-leading is_numeral start))

      by : (o : Option ℕ) → IfSome (slot_read reading.numbers start o) (Within text)
      by None = tt
      by (Some n) = left
within-piece text (Fixed w) reading ends =
    by (after_word w start) (leaves-word w start) where
      start : List ℕ
      start = without_blank reading.after_figure reading.rest

      by : (o : Option (List ℕ)) → IfSome o (EndsWith start) → IfSome (option_map (λ rest. record {
        numbers = reading.numbers;
        after_figure = false;
        rest = rest;
      }) o) (Within text)
      by None h = tt
      by (Some rest) h = Ends-again text reading.rest rest ends
          (Ends-again reading.rest start rest (Ends-blank reading.after_figure reading.rest) h)
within-piece text (NotBefore guard) reading ends =
    by (refuses guard reading.rest) where
      by : (b : Bool) → IfSome (if b then None else Some reading) (Within text)
      by true = tt
      by false = ends
within-piece text End reading ends = ends

pub within-pieces : (text : List ℕ) (pieces : List Piece) (reading : Reading) → Within text reading
    → IfSome (pieces_read pieces reading) (Within text)
within-pieces text [] reading ends = ends
within-pieces text (piece ∷ pieces) reading ends =
    if-then (Within text) (Within text) (λ next. pieces_read pieces next) (piece_read piece reading)
    (within-piece text piece reading ends) (λ next h. within-pieces text pieces next h)
